-- What was visited, written and taken stays in front of what is left.
use Rattle.std.proofs.Common.{ℕ, suc, Bool, true, false, List, [], ◌∷◌, ◌++◌, Option, Some}
use Rattle.std.proofs.Common.{None, sym, ap, arith, ◌∙◌}
use Rattle.std.proofs.lemmas.List.{append_assoc, append-nil}
use Rattle.std.specs.Prelude.{if◌then◌else◌, pos}
use Rattle.pcc_base.specs.Outcome.{End, Goes, Listing, Outcome}
use Rattle.c_tree.specs.declared.types.ValueType.TheVariants.{Integer}
use Rattle.c_tree.specs.Evaluation.{AtIndex, Found, Left, Falls, Breaks, Continues, Returns, after_switch}
use Rattle.c_tree.specs.Evaluation.{computed, declare, declare_all, evaluate, evaluate_all}
use Rattle.c_tree.specs.Evaluation.{fill, load, locate, none_or_from, older}
use Rattle.c_tree.specs.Evaluation.{own_array, outcome_at, put, store, switched}
use Rattle.c_tree.specs.Evaluation.{truth_value, type_at, updated}
use Rattle.c_tree.specs.Operators.{binary_value, is_true, step_op, step_type}
use Rattle.c_tree.specs.Program.{Expression, Statement, Statements, Function, Program}
use Rattle.c_tree.specs.Store.{Held, HoldsNumber, in_type, State, with_local, Evaluated, Gives, Ends, and_then}
use Rattle.c_eval_laws.specs.Bounds.{ComesAfter, Keeps}
use Rattle.c_eval_laws.specs.Laws.{GoesOn}
use Rattle.c_eval_laws.proofs.After.{after-same, local-follows}
use Rattle.c_eval_laws.proofs.Extending.{computed-both, load-both, put-both, switch-both, updated-both}
use Rattle.c_eval_laws.proofs.Keeping.{body-keeps, do-keeps, either-keeps, loop-keeps, same-keeps, store-keeps}
use Rattle.c_eval_laws.proofs.Keeping.{then-keeps}
use Rattle.c_eval_laws.specs.Tasks.{Task, Evaluates, Locates, Points, Loads, LoadsOld, Addresses, AppliesUnary}
use Rattle.c_eval_laws.specs.Tasks.{AppliesBinary, AndThen, OrElse, Truth, Chooses, Converts, Stores, Updates, Steps}
use Rattle.c_eval_laws.specs.Tasks.{Drops, Passes, Puts, Exits, Declares, DeclaresAll, Initialises, Fills, FillsElement}
use Rattle.c_eval_laws.specs.Tasks.{Executes, Follows, Branches, Loops, LoopTest, LoopBody, DoLoops, DoBody, DoTest}
use Rattle.c_eval_laws.specs.Tasks.{Switches, SwitchBody, ReturnsValue, ReturnsTo, Way, Ahead, Breaking, Continuing}
use Rattle.c_eval_laws.specs.Tasks.{Returning, top, top_place, below, below_by, behind, calls_of, do_looped}
use Rattle.c_eval_laws.specs.Tasks.{do_looped_again, do_looped_if, executed, executed_from, finish, looped}
use Rattle.c_eval_laws.specs.Tasks.{looped_again, looped_if, put_before, rest}
use Rattle.c_eval_laws.specs.TasksLaws.{RestGoesOn}
use Rattle.c_eval_laws.proofs.Settling.{calls-keep, trees-keep}

-- an outcome goes on from a state
abbrev From : State → Outcome → Type 0
From s o = GoesOn (outcome_at Goes s) o

-- from a state that comes after another it goes on from that one
from-after : (s t : State) (o : Outcome) → ComesAfter s t → From t o → From s o
from-after s t o after h = record {
  visits = (
    after.visits.0 ++ h.visits.0,
    h.visits.1 ∙ ap (λ (xs : List _). xs ++ h.visits.0) after.visits.1
        ∙ append_assoc s.visits after.visits.0 h.visits.0,
  );
  written = (
    after.written.0 ++ h.written.0,
    h.written.1 ∙ ap (λ (xs : List ℕ). xs ++ h.written.0) after.written.1
        ∙ append_assoc s.written after.written.0 h.written.0,
  );
  taken = let e = after.input.2 in let le = h.taken in omega (arith, e, le);
}

-- the outcome at a state itself
from-same : (end : End) (s : State) → From s (outcome_at end s)
from-same end s = record {
  visits = ([], sym (append-nil s.visits));
  written = ([], sym (append-nil s.written));
  taken = omega arith;
}

-- what comes after an evaluation
finish-from : {A : Type 0} (s : State) (r : Evaluated A) (go : A → State → Outcome) → Keeps 0 s r
    → ((v : A) (t : State) → From t (go v t)) → From s (finish r go)
finish-from s (Gives v t) go keeps from = from-after s t (go v t) keeps.after (from v t)
finish-from s (Ends end t) go keeps from = from-after s t (outcome_at end t) keeps.after (from-same end t)

-- what comes behind a statement
behind-from : (go : Way → List Held → State → Outcome) (vs : List Held)
    → ((way : Way) (ws : List Held) (t : State) → From t (go way ws t)) → (left : Left) (t : State)
    → From t (behind go vs left t)
behind-from go vs from Falls t = from Ahead vs t
behind-from go vs from Breaks t = from Breaking vs t
behind-from go vs from Continues t = from Continuing vs t
behind-from go vs from (Returns value) t = from Returning _ t

-- a call is over
older-after : (s : State) → ComesAfter s (record s { active = older s.active })
older-after s = let h = after-same s in record {
  turns = h.turns;
  visits = h.visits;
  written = h.written;
  input = h.input;
  objects = h.objects;
}

module _ (p : Program) (l : Listing) (f : Function) where
  -- ---- what statements keep

  executed-keeps : (x : Statement) (s : State) → Keeps 0 s (executed p l f x s)
  executed-keeps x s = (trees-keep p l 0).statements (suc s.turns) l (type_at f) f.result x s (omega arith)

  from-keeps : (xs : Statements) (place : ℕ) (s : State) → Keeps 0 s (executed_from p l f xs place s)
  from-keeps xs place s = (trees-keep p l 0).bodies (suc s.turns) l (type_at f) f.result xs place s (omega arith)

  place-keeps : (place : Option ℕ) (xs : Statements) (s : State)
      → Keeps 0 s (none_or_from place (executed_from p l f xs) s)
  place-keeps None xs s = same-keeps 0 s Falls
  place-keeps (Some place) xs s = from-keeps xs place s

  module _ (test after : Option Expression) (body : Statement) where
    looped-keeps : (s : State) → Keeps 0 s (looped p l f test after body s)
    looped-keeps s = loop-keeps (suc s.turns) 0 _ _ _ (omega arith) ((trees-keep p l 0).tests test)
        (λ t. (trees-keep p l 0).statements (suc s.turns) l (type_at f) f.result body t (omega arith))
        ((trees-keep p l 0).steps after) s

    again-keeps : (s : State) → Keeps 0 s (looped_again p l f test after body s)
    again-keeps s = then-keeps ((trees-keep p l 0).steps after s) (λ left t. looped-keeps t)

    if-keeps : (holds : Bool) (s : State) → Keeps 0 s (looped_if p l f test after body holds s)
    if-keeps holds s = either-keeps holds
        (then-keeps (executed-keeps body s) (body-keeps 0 (looped_again p l f test after body) again-keeps))
        (same-keeps 0 s Falls)

  module _ (body : Statement) (test : Expression) where
    do-looped-keeps : (s : State) → Keeps 0 s (do_looped p l f body test s)
    do-looped-keeps s = do-keeps (suc s.turns) 0 _ _ (omega arith) ((trees-keep p l 0).tests (Some test))
        (λ t. (trees-keep p l 0).statements (suc s.turns) l (type_at f) f.result body t (omega arith)) s

    do-if-keeps : (holds : Bool) (s : State) → Keeps 0 s (do_looped_if p l f body test holds s)
    do-if-keeps holds s = either-keeps holds (do-looped-keeps s) (same-keeps 0 s Falls)

    do-again-keeps : (s : State) → Keeps 0 s (do_looped_again p l f body test s)
    do-again-keeps s = then-keeps ((trees-keep p l 0).tests (Some test) s) (λ holds t. do-if-keeps holds t)

module _ (p : Program) (l : Listing) where
  -- the outcome of what is left goes on from the state
  pub goes-on : (ts : List Task) (f : Function) (way : Way) (vs : List Held) (fs : List Found) (s : State)
      → From s (rest p l f way ts vs fs s)
  unfolding rest
  goes-on [] f way vs fs s = from-same _ s
  goes-on (Evaluates e ∷ ts) f Ahead vs fs s =
      finish-from s (evaluate (calls_of p l) e s) _ ((trees-keep p l 0).expressions e s)
      (λ v t. goes-on ts f Ahead (v ∷ vs) fs t)
  goes-on (Locates place ∷ ts) f Ahead vs fs s =
      finish-from s (locate (calls_of p l) place s) _ ((trees-keep p l 0).places place s)
      (λ found t. goes-on ts f Ahead vs (found ∷ fs) t)
  goes-on (Points ∷ ts) f Ahead vs fs s = goes-on ts f Ahead _ _ s
  goes-on (Loads ∷ ts) f Ahead vs fs s = finish-from s (load (top_place fs) s) _
      ((load-both {k = 0} {d = 0} (top_place fs)).keeps s) (λ v t. goes-on ts f Ahead _ _ t)
  goes-on (LoadsOld ∷ ts) f Ahead vs fs s = finish-from s (load (top_place fs) s) _
      ((load-both {k = 0} {d = 0} (top_place fs)).keeps s) (λ v t. goes-on ts f Ahead _ _ t)
  goes-on (Addresses ∷ ts) f Ahead vs fs s = goes-on ts f Ahead _ _ s
  goes-on (AppliesUnary of op ∷ ts) f Ahead vs fs s = goes-on ts f Ahead _ _ s
  goes-on (AppliesBinary within op ∷ ts) f Ahead vs fs s =
      finish-from s (computed (binary_value within op (top (below vs)) (top vs)) s) _
      ((computed-both {k = 0} {d = 0} (binary_value within op (top (below vs)) (top vs))).keeps s)
      (λ v t. goes-on ts f Ahead _ _ t)
  goes-on (AndThen b ∷ ts) f Ahead vs fs s = finish-from s (if is_true (top vs)
      then and_then (evaluate (calls_of p l) b s) (λ y t. Gives (truth_value (is_true y)) t)
      else Gives (truth_value false) s) _
      (either-keeps (is_true (top vs)) (then-keeps ((trees-keep p l 0).expressions b s) (λ y t. same-keeps 0 t _))
      (same-keeps 0 s _)) (λ v t. goes-on ts f Ahead _ _ t)
  goes-on (OrElse b ∷ ts) f Ahead vs fs s = finish-from s (if is_true (top vs) then Gives (truth_value true) s
      else and_then (evaluate (calls_of p l) b s) (λ y t. Gives (truth_value (is_true y)) t)) _
      (either-keeps (is_true (top vs)) (same-keeps 0 s _)
      (then-keeps ((trees-keep p l 0).expressions b s) (λ y t. same-keeps 0 t _))) (λ v t. goes-on ts f Ahead _ _ t)
  goes-on (Truth ∷ ts) f Ahead vs fs s = goes-on ts f Ahead _ _ s
  goes-on (Chooses of a b ∷ ts) f Ahead vs fs s =
      finish-from s (if is_true (top vs) then evaluate (calls_of p l) a s else evaluate (calls_of p l) b s) _
      (either-keeps (is_true (top vs)) ((trees-keep p l 0).expressions a s) ((trees-keep p l 0).expressions b s))
      (λ v t. goes-on ts f Ahead _ _ t)
  goes-on (Converts to ∷ ts) f Ahead vs fs s = goes-on ts f Ahead _ _ s
  goes-on (Stores of ∷ ts) f Ahead vs fs s = finish-from s (store (top_place fs) (in_type of (top vs)) s) _
      (store-keeps 0 (top_place fs) (in_type of (top vs)) s) (λ v t. goes-on ts f Ahead _ _ t)
  goes-on (Updates of within op ∷ ts) f Ahead vs fs s =
      finish-from s (updated of within op (top_place fs) (top (below vs)) (top vs) s) _
      ((updated-both {k = 0} {d = 0} of within op (top_place fs) (top (below vs)) (top vs)).keeps s)
      (λ v t. goes-on ts f Ahead _ _ t)
  goes-on (Steps of op ∷ ts) f Ahead vs fs s =
      finish-from s (updated of (step_type op of) (step_op op) (top_place fs) (top vs) (HoldsNumber (pos 1)) s) _
      ((updated-both {k = 0} {d = 0} of (step_type op of) (step_op op) (top_place fs) (top vs)
      (HoldsNumber (pos 1))).keeps s)
      (λ v t. goes-on ts f Ahead _ _ t)
  goes-on (Drops ∷ ts) f Ahead vs fs s = goes-on ts f Ahead _ _ s
  goes-on (Passes k es count ∷ ts) f Ahead vs fs s =
      finish-from s (evaluate_all (calls_of p l) es s) _ ((trees-keep p l 0).arguments es s) (λ ws t.
      finish-from t (calls_of p l k (put_before count vs ws) t) _ (calls-keep p l 0 k (put_before count vs ws) t)
      (λ v u. goes-on ts f Ahead (v ∷ below_by count vs) fs u))
  goes-on (Puts ∷ ts) f Ahead vs fs s = finish-from s (put (top vs) s) _
      ((put-both {k = 0} {d = 0} (top vs)).keeps s) (λ v t. goes-on ts f Ahead (v ∷ below vs) fs t)
  goes-on (Exits ∷ ts) f Ahead vs fs s = from-same _ s
  goes-on (Declares item ∷ ts) f Ahead vs fs s =
      finish-from s (declare (calls_of p l) l (type_at f) item s) _ ((trees-keep p l 0).items l (type_at f) item s)
      (λ done t. goes-on ts f Ahead _ _ t)
  goes-on (DeclaresAll items ∷ ts) f Ahead vs fs s =
      finish-from s (declare_all (calls_of p l) l (type_at f) items s) _
      ((trees-keep p l 0).item_lists l (type_at f) items s) (λ done t. goes-on ts f Ahead _ _ t)
  goes-on (Initialises local of ∷ ts) f Ahead vs fs s =
      from-after s (with_local local (in_type of (top vs)) s) _ (local-follows local (in_type of (top vs)) s).after
      (goes-on ts f Ahead _ _ _)
  goes-on (Fills k element i es ∷ ts) f Ahead vs fs s =
      finish-from s (fill (calls_of p l) (own_array s k) element i es s) _
      ((trees-keep p l 0).fills (own_array s k) element i es s) (λ done t. goes-on ts f Ahead _ _ t)
  goes-on (FillsElement k element i es ∷ ts) f Ahead vs fs s =
      finish-from s (store (AtIndex (own_array s k) (pos i)) (in_type (Integer element) (top vs)) s) _
      (store-keeps 0 (AtIndex (own_array s k) (pos i)) (in_type (Integer element) (top vs)) s) (λ stored t.
      finish-from t (fill (calls_of p l) (own_array t k) element (suc i) es t) _
      ((trees-keep p l 0).fills (own_array t k) element (suc i) es t) (λ done u. goes-on ts f Ahead (below vs) fs u))
  goes-on (Executes x ∷ ts) f Ahead vs fs s = finish-from s (executed p l f x s) _ (executed-keeps p l f x s)
      (behind-from _ vs (λ way ws t. goes-on ts f way ws fs t))
  goes-on (Follows xs ∷ ts) f Ahead vs fs s = finish-from s (executed_from p l f xs 0 s) _ (from-keeps p l f xs 0 s)
      (behind-from _ vs (λ way ws t. goes-on ts f way ws fs t))
  goes-on (Branches a b ∷ ts) f Ahead vs fs s =
      finish-from s (if is_true (top vs) then executed p l f a s else executed p l f b s) _
      (either-keeps (is_true (top vs)) (executed-keeps p l f a s) (executed-keeps p l f b s))
      (behind-from _ (below vs) (λ way ws t. goes-on ts f way ws fs t))
  goes-on (Loops test after body ∷ ts) f Ahead vs fs s =
      finish-from s (looped p l f test after body s) _ (looped-keeps p l f test after body s)
      (behind-from _ vs (λ way ws t. goes-on ts f way ws fs t))
  goes-on (LoopTest test after body ∷ ts) f Ahead vs fs s =
      finish-from s (looped_if p l f test after body (is_true (top vs)) s) _
      (if-keeps p l f test after body (is_true (top vs)) s)
      (behind-from _ (below vs) (λ way ws t. goes-on ts f way ws fs t))
  goes-on (LoopBody test after body ∷ ts) f Ahead vs fs s =
      finish-from s (looped_again p l f test after body s) _ (again-keeps p l f test after body s)
      (behind-from _ vs (λ way ws t. goes-on ts f way ws fs t))
  goes-on (LoopBody test after body ∷ ts) f Breaking vs fs s = goes-on ts f Ahead vs fs s
  goes-on (LoopBody test after body ∷ ts) f Continuing vs fs s =
      finish-from s (looped_again p l f test after body s) _ (again-keeps p l f test after body s)
      (behind-from _ vs (λ way ws t. goes-on ts f way ws fs t))
  goes-on (DoLoops body test ∷ ts) f Ahead vs fs s =
      finish-from s (do_looped p l f body test s) _ (do-looped-keeps p l f body test s)
      (behind-from _ vs (λ way ws t. goes-on ts f way ws fs t))
  goes-on (DoBody body test ∷ ts) f Ahead vs fs s =
      finish-from s (do_looped_again p l f body test s) _ (do-again-keeps p l f body test s)
      (behind-from _ vs (λ way ws t. goes-on ts f way ws fs t))
  goes-on (DoBody body test ∷ ts) f Breaking vs fs s = goes-on ts f Ahead vs fs s
  goes-on (DoBody body test ∷ ts) f Continuing vs fs s =
      finish-from s (do_looped_again p l f body test s) _ (do-again-keeps p l f body test s)
      (behind-from _ vs (λ way ws t. goes-on ts f way ws fs t))
  goes-on (DoTest body test ∷ ts) f Ahead vs fs s =
      finish-from s (do_looped_if p l f body test (is_true (top vs)) s) _
      (do-if-keeps p l f body test (is_true (top vs)) s)
      (behind-from _ (below vs) (λ way ws t. goes-on ts f way ws fs t))
  goes-on (Switches labels body ∷ ts) f Ahead vs fs s =
      finish-from s
      (and_then (none_or_from (switched labels (top vs)) (executed_from p l f body) s) after_switch) _
      (then-keeps (place-keeps p l f (switched labels (top vs)) body s)
      (λ left t. (switch-both {k = 0} {d = 0} left).keeps t))
      (behind-from _ (below vs) (λ way ws t. goes-on ts f way ws fs t))
  goes-on (SwitchBody ∷ ts) f Ahead vs fs s = goes-on ts f Ahead vs fs s
  goes-on (SwitchBody ∷ ts) f Breaking vs fs s = goes-on ts f Ahead vs fs s
  goes-on (ReturnsValue result ∷ ts) f Ahead vs fs s = goes-on ts f Returning _ fs s
  goes-on (ReturnsTo caller ∷ ts) f Returning vs fs s =
      from-after s (record s { active = older s.active }) _ (older-after s) (goes-on ts caller Ahead vs fs _)
  goes-on (ReturnsTo caller ∷ ts) f way vs fs s =
      from-after s (record s { active = older s.active }) _ (older-after s) (goes-on ts caller Ahead _ fs _)
  goes-on (task ∷ ts) f way vs fs s = goes-on ts f way vs fs s

-- the outcome of what is left goes on from the state
pub rest_goes_on : RestGoesOn
rest_goes_on p l f way ts vs fs s = goes-on p l ts f way vs fs s

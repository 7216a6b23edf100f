-- Trees and loops whose calls keep what evaluations keep, that are the same, and with more turns.
use Rattle.std.proofs.Common.{◌≡◌, ℕ, zero, suc, ◌+◌, ◌<◌, ◌≤◌, refl, sym, ap, subst, arith, ◌∙◌}
use Rattle.c_tree.specs.Evaluation.{loop, do_loop}
use Rattle.c_tree.specs.Store.{State, Evaluated, Gives, Ends}
use Rattle.c_eval_laws.specs.Bounds.{Extending, Extends, Keeps, with_more}
use Rattle.c_eval_laws.specs.Laws.{LoopBoundsAgree, LoopsKeep, LoopsUnfold, TreesAgreeAsCalls, TreesExtend}
use Rattle.c_eval_laws.specs.Laws.{TreesExtendAsCalls, TreesKeepAsCalls}
use Rattle.c_eval_laws.proofs.After.{after-same}
use Rattle.c_eval_laws.proofs.Keeping.{lower-keeps, loop-keeps, do-keeps}
use Rattle.c_eval_laws.proofs.Extending.{same-both, lower-both, then-both, either-both, turn-both, body-both, loop-both}
use Rattle.c_eval_laws.proofs.Extending.{do-both}
use Rattle.c_eval_laws.proofs.Trees.{expression-both, place-both, arguments-both, item-both, first-both, any-test-both}
use Rattle.c_eval_laws.proofs.Trees.{any-both, fill-both, initialiser-both, local-both, items-both, return-both}
use Rattle.c_eval_laws.proofs.Trees.{statement_both, statements_both}

-- ---- trees

-- the evaluation of each tree with more turns
pub trees_extend : TreesExtendAsCalls
trees_extend k d calls others h = record {
  expressions = expression-both k d calls others h;
  places = place-both k d calls others h;
  arguments = arguments-both k d calls others h;
  fills = fill-both k d calls others h;
  initialisers = initialiser-both k d calls others h;
  locals = local-both k d calls others h;
  items = item-both k d calls others h;
  item_lists = items-both k d calls others h;
  firsts = first-both k d calls others h;
  tests = any-test-both k d calls others h;
  steps = any-both k d calls others h;
  returns = return-both k d calls others h;
  statements = λ loops other listing types result x le le'.
      statement_both k d calls others h loops other le le' listing types result x;
  bodies = λ loops other listing types result xs place le le'.
      statements_both k d calls others h loops other le le' listing types result xs place;
}

-- no more turns
more-none : (s : State) → with_more 0 s ≡ s
more-none s = let e : s.turns + 0 ≡ s.turns = omega arith in ap (λ (n : ℕ). record s { turns = n }) e

-- what an evaluation comes to with no more turns
none-extends : {A : Type 0} (r : Evaluated A) → Extends 0 r r
none-extends {A} r = record {
  gives = λ v t e. e ∙ ap (λ (w : State). Gives v w) (sym (more-none t));
  ends = λ end t e h. e ∙ ap (λ (w : State). Ends end w) (sym (more-none t));
  goes = λ t e. rw (e, more-none t) (after-same t);
}

-- two evaluations that agree are such with no more turns
pub agree-both : {A : Type 0} (k : ℕ) (f g : State → Evaluated A) → ((s : State) → Keeps k s (f s))
    → ((s : State) → Keeps k s (g s)) → ((s : State) → s.turns < k → f s ≡ g s) → Extending k 0 f g
agree-both {A} k f g h h' agree = record {
  keeps = h;
  keeps_too = λ s. lower-keeps 0 k (omega arith) (h' s);
  extends = λ s lt. rw (more-none s, sym (agree s lt)) (none-extends (f s));
}

-- and the other way round
extends-same : {A : Type 0} (r other : Evaluated A) → Extends 0 r other → r ≡ other
extends-same (Gives value t) other h =
    ap (λ (w : State). Gives value w) (sym (more-none t)) ∙ sym (h.gives value t refl)
extends-same (Ends end t) other h =
    ap (λ (w : State). Ends end w) (sym (more-none t)) ∙ sym (h.ends end t refl (λ e. refl))

-- two that are such with no more turns agree
pub both-agree : {A : Type 0} {f g : State → Evaluated A} (k : ℕ) → Extending k 0 f g → (s : State) → s.turns < k
    → f s ≡ g s
both-agree {A} {f} {g} k h s lt =
    extends-same (f s) (g s) (subst (λ (t : State). Extends 0 (f s) (g t)) (more-none s) (h.extends s lt))

-- what each tree keeps: both evaluations are the same one
pub trees_keep : TreesKeepAsCalls
trees_keep k calls h =
    let g : TreesExtend k 0 calls calls = trees_extend k 0 calls calls (λ f arguments.
    agree-both k (calls f arguments) (calls f arguments) (h f arguments) (h f arguments) (λ s lt. refl)) in
    record {
      expressions = λ e. (g.expressions e).keeps;
      places = λ place. (g.places place).keeps;
      arguments = λ arguments. (g.arguments arguments).keeps;
      fills = λ array element i es. (g.fills array element i es).keeps;
      initialisers = λ array element value. (g.initialisers array element value).keeps;
      locals = λ local of value. (g.locals local of value).keeps;
      items = λ listing types item. (g.items listing types item).keeps;
      item_lists = λ listing types items. (g.item_lists listing types items).keeps;
      firsts = λ listing types first. (g.firsts listing types first).keeps;
      tests = λ test. (g.tests test).keeps;
      steps = λ step. (g.steps step).keeps;
      returns = λ result value. (g.returns result value).keeps;
      statements = λ loops listing types result x s le.
          (g.statements loops loops listing types result x le (omega (arith, le))).keeps s;
      bodies = λ loops listing types result xs place s le.
          (g.bodies loops loops listing types result xs place le (omega (arith, le))).keeps s;
    }

-- each tree with other calls: there are no more turns
pub trees_agree : TreesAgreeAsCalls
trees_agree k calls others h h' agree =
    let g : TreesExtend k 0 calls others = trees_extend k 0 calls others (λ f arguments.
    agree-both k (calls f arguments) (others f arguments) (h f arguments) (h' f arguments) (agree f arguments)) in
    record {
      expressions = λ e. both-agree k (g.expressions e);
      places = λ place. both-agree k (g.places place);
      arguments = λ arguments. both-agree k (g.arguments arguments);
      fills = λ array element i es. both-agree k (g.fills array element i es);
      initialisers = λ array element value. both-agree k (g.initialisers array element value);
      locals = λ local of value. both-agree k (g.locals local of value);
      items = λ listing types item. both-agree k (g.items listing types item);
      item_lists = λ listing types items. both-agree k (g.item_lists listing types items);
      firsts = λ listing types first. both-agree k (g.firsts listing types first);
      tests = λ test. both-agree k (g.tests test);
      steps = λ step. both-agree k (g.steps step);
      returns = λ result value. both-agree k (g.returns result value);
      statements = λ loops other listing types result x s le le'.
          both-agree k (g.statements loops other listing types result x le (omega (arith, le'))) s;
      bodies = λ loops other listing types result xs place s le le'.
          both-agree k (g.bodies loops other listing types result xs place le (omega (arith, le'))) s;
    }

-- ---- loops

-- what loops keep
pub loops_keep : LoopsKeep
loops_keep k loops test body after s le h = (
  loop-keeps loops k test body after le h.tests h.bodies h.afters s,
  do-keeps loops k test body le h.tests h.bodies s,
)

-- an evaluation beside itself
pub same-agree : {A : Type 0} {f : State → Evaluated A} (k : ℕ) → ((s : State) → Keeps k s (f s)) → Extending k 0 f f
same-agree {A} {f} k h = agree-both k f f h h (λ s lt. refl)

-- a loop over two bounds above the turns
pub loop_bounds_agree : LoopBoundsAgree
loop_bounds_agree bound other test body after s lt lt' h =
    let k : ℕ = suc s.turns in
    let t : Extending k 0 test test = same-agree k h.tests in
    let b : Extending k 0 body body = same-agree k h.bodies in
    let a : Extending k 0 after after = same-agree k h.afters in (
      both-agree k (loop-both bound other k 0 test test body body after after (omega arith) (omega arith) t b a) s
          (omega arith),
      both-agree k (do-both bound other k 0 test test body body (omega arith) (omega arith) t b) s (omega arith),
    )

-- a loop over a bound, and behind its first turn over the next lower one
pub loops_unfold : LoopsUnfold
loops_unfold zero test body after s lt h = absurd (omega (arith, lt))
loops_unfold (suc bound) test body after s lt h =
    let j : ℕ = s.turns in
    let lower : j ≤ suc j = omega arith in
    let t : Extending j 0 test test = lower-both j (suc j) 0 lower (same-agree (suc j) h.tests) in
    let b : Extending j 0 body body = lower-both j (suc j) 0 lower (same-agree (suc j) h.bodies) in
    let a : Extending j 0 after after = lower-both j (suc j) 0 lower (same-agree (suc j) h.afters) in
    let again : Extending j 0 (loop bound test body after) (loop (suc bound) test body after) =
    loop-both bound (suc bound) j 0 test test body body after after (omega (arith, lt)) (omega (arith, lt)) t b a in
    let do_again : Extending j 0 (do_loop bound test body) (do_loop (suc bound) test body) =
    do-both bound (suc bound) j 0 test test body body (omega (arith, lt)) (omega (arith, lt)) t b in (
      both-agree (suc j) (turn-both j 0 (then-both t (λ holds. either-both holds
          (then-both b (body-both (then-both a (λ left. again)))) same-both))) s (omega arith),
      both-agree (suc j) (turn-both j 0 (then-both b (body-both (then-both t (λ holds. either-both holds do_again
          same-both))))) s (omega arith),
    )

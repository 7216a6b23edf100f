-- What is kept by evaluations that are made of others.
use Rattle.std.proofs.Common.{◌≡◌, ℕ, zero, suc, ◌<◌, ◌≤◌, ◌-◌, ℤ, pos, List, [], ◌∷◌, Bool, true, false}
use Rattle.std.proofs.Common.{Option, Some, None, refl, sym, ap, arith, ◌∙◌}
use Rattle.std.proofs.lemmas.List.{length-map}
use Rattle.std.specs.Prelude.{length, if◌then◌else◌}
use Rattle.pcc_base.specs.Outcome.{End, Trapped, Goes, ArrayName, Static}
use Rattle.pcc_base.specs.declared.run.Trap.TheVariants.{Check}
use Rattle.c_tree.specs.Evaluation.{Found, InLocal, InObject, AtIndex, store, element_read, element_written}
use Rattle.c_tree.specs.Evaluation.{number_in, get_from, Left, Falls, Breaks}
use Rattle.c_tree.specs.Evaluation.{Continues}
use Rattle.c_tree.specs.Evaluation.{Returns, Runs, after_body, loop, do_loop}
use Rattle.c_tree.specs.Store.{Held, HoldsNumber, State, array_named, element_at}
use Rattle.c_tree.specs.Store.{Evaluated, Gives, Ends, and_then, turn_with, take_turn}
use Rattle.c_eval_laws.specs.Bounds.{sizes_of, Keeps, sizes, state_of}
use Rattle.c_eval_laws.proofs.After.{after-same, after-then, Follows, follows-same, local-follows, array-follows}
use Rattle.c_eval_laws.proofs.After.{length-with_element, taken-follows, turn-follows}

-- ---- one evaluation

-- a value is given in a state that follows
pub gives-keeps : {A : Type 0} (k : ℕ) (s t : State) (value : A) → Follows s t → Keeps k s (Gives value t)
gives-keeps k s t value h = record {
  after = h.after;
  gives = λ v u e. let f : t ≡ u = cc in ap (λ (w : State). sizes w.active) (sym f) ∙ h.same;
  goes = λ u e lt. cc;
}

-- a value is given in the same state
pub same-keeps : {A : Type 0} (k : ℕ) (s : State) (value : A) → Keeps k s (Gives value s)
same-keeps k s value = gives-keeps k s s value (follows-same s)

-- the program ends in the state, or goes on with no turn left
pub ends-keeps : {A : Type 0} (k : ℕ) (s : State) (end : End) → (end ≡ Goes → s.turns < k → s.turns ≡ 0)
    → Keeps {A = A} k s (Ends end s)
ends-keeps k s end h = record {
  after = after-same s;
  gives = λ v u e. cc;
  goes = λ u e lt. let f : s ≡ u = cc in let g : end ≡ Goes = cc in ap (λ (w : State). w.turns) (sym f) ∙ h g lt;
}

-- an access outside traps
pub traps-keeps : {A : Type 0} (k : ℕ) (s : State) → Keeps {A = A} k s (Ends (Trapped Check) s)
traps-keeps k s = ends-keeps k s (Trapped Check) (λ e lt. cc)

-- fewer turns than a lower bound are fewer than a higher one
pub lower-keeps : {A : Type 0} {s : State} {r : Evaluated A} (j k : ℕ) → j ≤ k → Keeps k s r → Keeps j s r
lower-keeps j k le h = record {
  after = h.after;
  gives = h.gives;
  goes = λ t e lt. h.goes t e (omega arith);
}

-- what is kept from a state that follows is kept from the one before it
pub follows-keeps : {A : Type 0} {r : Evaluated A} (k : ℕ) (s t : State) → Follows s t → Keeps k t r → Keeps k s r
follows-keeps {A} {r} k s t f h = record {
  after = after-then s t (state_of r) f.after h.after;
  gives = λ v u e. h.gives v u e ∙ f.same;
  goes = λ u e lt. let le = f.after.turns in h.goes u e (omega arith);
}

-- as many calls are active as before
pub same-depth : {A : Type 0} {r : Evaluated A} (k : ℕ) (s t : State) (value : A) → Keeps k s r → r ≡ Gives value t
    → length t.active ≡ length s.active
same-depth k s t value h e =
    sym (length-map t.active sizes_of) ∙ ap (λ (ns : _). length ns) (h.gives value t e) ∙ length-map s.active sizes_of

-- ---- several

-- one evaluation after another
pub then-keeps : {A B : Type 0} {k : ℕ} {s : State} {r : Evaluated A} {go : A → State → Evaluated B} → Keeps k s r
    → ((value : A) (t : State) → Keeps k t (go value t)) → Keeps k s (and_then r go)
then-keeps {A} {B} {k} {s} {r = Gives value t} {go} h after =
    follows-keeps k s t (record { after = h.after; same = h.gives value t refl }) (after value t)
then-keeps {A} {B} {k} {s} {r = Ends end t} {go} h after = record {
  after = h.after;
  gives = λ v u e. cc;
  goes = λ u e lt. let f : t ≡ u = cc in let g : end ≡ Goes = cc in h.goes u (cc) lt;
}

-- one of two
pub either-keeps : {A : Type 0} {k : ℕ} {s : State} {r other : Evaluated A} (test : Bool) → Keeps k s r
    → Keeps k s other → Keeps k s (if test then r else other)
either-keeps true h h' = h
either-keeps false h h' = h'

-- a turn is taken
turn_with-keeps : {A : Type 0} (j k n : ℕ) (s : State) (go : State → Evaluated A) → k ≤ suc j → s.turns ≡ n
    → ((t : State) → Keeps j t (go t)) → Keeps k s (turn_with n s go)
turn_with-keeps j k zero s go le e h = ends-keeps k s Goes (λ f lt. e)
turn_with-keeps {A} j k (suc n) s go le e h =
    let f : Follows s (record s { turns = n }) = turn-follows n s e in
    let g : Keeps {A = A} j (record s { turns = n }) (go (record s { turns = n })) = h (record s { turns = n }) in
    record {
      after = after-then s (record s { turns = n }) (state_of (go (record s { turns = n }))) f.after g.after;
      gives = λ v u d. g.gives v u d ∙ f.same;
      goes = λ u d lt. g.goes u d (omega (arith, e, le, lt));
    }

-- the same, with the turns that the state has
pub turn-keeps : {A : Type 0} (j k : ℕ) (s : State) (go : State → Evaluated A) → k ≤ suc j
    → ((t : State) → Keeps j t (go t)) → Keeps k s (take_turn s go)
turn-keeps j k s go le h = turn_with-keeps j k s.turns s go le refl h

-- ---- loads, stores and the outside

-- an element is read, or there is none
pub read-keeps : (k : ℕ) (s : State) (element : Option ℤ) → Keeps k s (element_read s element)
read-keeps k s None = traps-keeps k s
read-keeps k s (Some n) = same-keeps k s (HoldsNumber n)

-- an element is written, or there is none
written-keeps : (k : ℕ) (array : ArrayName) (index : ℤ) (value : Held) (s : State) (old : Option ℤ)
    → Keeps k s (element_written array index value s old)
written-keeps k array index value s None = traps-keeps k s
written-keeps k array index value s (Some old) = gives-keeps k s _ value
    (array-follows array _ s (length-with_element (array_named s array) index (number_in value)))

-- a place is stored to
pub store-keeps : (k : ℕ) (found : Found) (value : Held) (s : State) → Keeps k s (store found value s)
store-keeps k (InLocal local) value s = gives-keeps k s _ value (local-follows local value s)
store-keeps k (InObject object) value s =
    written-keeps k (Static object) (pos 0) value s (element_at (array_named s (Static object)) (pos 0))
store-keeps k (AtIndex array index) value s =
    written-keeps k array index value s (element_at (array_named s array) index)

-- the next byte is taken, or none is left
pub get-keeps : (k : ℕ) (left : List ℕ) (s : State) → s.left ≡ left → Keeps k s (get_from left s)
get-keeps k [] s e = same-keeps k s _
get-keeps k (byte ∷ bytes) s e = gives-keeps k s _ _ (taken-follows byte bytes s e)

-- ---- statements behind one another

-- runs of statements that keep it from every state
abbrev pub RunsKeep : ℕ → Runs → Type 0
RunsKeep k runs = (s : State) → Keeps k s (runs s)

-- what comes behind a loop's body
pub body-keeps : (k : ℕ) (next : Runs) → RunsKeep k next → (left : Left) (s : State)
    → Keeps k s (after_body next left s)
body-keeps k next h Falls s = h s
body-keeps k next h Breaks s = same-keeps k s Falls
body-keeps k next h Continues s = h s
body-keeps k next h (Returns value) s = same-keeps k s (Returns value)

-- ---- loops, by their own bound

-- a loop whose bound is none keeps what is kept from fewer than no turns
none-keeps : {A : Type 0} (k : ℕ) (s : State) → k ≤ 0 → Keeps {A = A} k s (Ends Goes s)
none-keeps k s le = ends-keeps k s Goes (λ e lt. absurd (omega arith))

-- a loop over a bound that isn't lower
pub loop-keeps : (bound k : ℕ) (test : State → Evaluated Bool) (body after : Runs) → k ≤ bound
    → ((t : State) → Keeps k t (test t)) → RunsKeep k body → RunsKeep k after → RunsKeep k (loop bound test body after)
loop-keeps zero k test body after le h b a s = none-keeps k s le
loop-keeps (suc bound) k test body after le h b a s =
    let j : ℕ = k - 1 in
    let lower : j ≤ k = omega arith in
    let again : RunsKeep j (loop bound test body after) = loop-keeps bound j test body after (omega arith)
    (λ t. lower-keeps j k lower (h t)) (λ t. lower-keeps j k lower (b t)) (λ t. lower-keeps j k lower (a t)) in
    turn-keeps j k s _ (omega arith) (λ t.
    then-keeps (lower-keeps j k lower (h t)) (λ holds u.
    either-keeps holds (then-keeps (lower-keeps j k lower (b u))
    (body-keeps j _ (λ v. then-keeps (lower-keeps j k lower (a v)) (λ left w. again w))))
    (same-keeps j u Falls)))

-- the same of a `do`
pub do-keeps : (bound k : ℕ) (test : State → Evaluated Bool) (body : Runs) → k ≤ bound
    → ((t : State) → Keeps k t (test t)) → RunsKeep k body → RunsKeep k (do_loop bound test body)
do-keeps zero k test body le h b s = none-keeps k s le
do-keeps (suc bound) k test body le h b s =
    let j : ℕ = k - 1 in
    let lower : j ≤ k = omega arith in
    let again : RunsKeep j (do_loop bound test body) = do-keeps bound j test body (omega arith)
    (λ t. lower-keeps j k lower (h t)) (λ t. lower-keeps j k lower (b t)) in
    turn-keeps j k s _ (omega arith) (λ t.
    then-keeps (lower-keeps j k lower (b t))
    (body-keeps j _ (λ u. then-keeps (lower-keeps j k lower (h u))
    (λ holds v. either-keeps holds (again v) (same-keeps j v Falls)))))

-- Evaluations beside the same ones with more turns.
use Rattle.std.proofs.Common.{◌≡◌, ℕ, zero, suc, ◌+◌, ◌<◌, ◌≤◌, ℤ, pos, List, [], ◌∷◌, ◌++◌, Bool}
use Rattle.std.proofs.Common.{true, false, Option, Some, None, refl, sym, ap, subst, arith, ◌∙◌}
use Rattle.std.specs.Prelude.{if◌then◌else◌}
use Rattle.pcc_base.specs.Outcome.{End, Trapped, Goes, ArrayName, Null, Static, InFrame, Unknown}
use Rattle.pcc_base.specs.declared.run.Trap.TheVariants.{Check}
use Rattle.c_tree.specs.declared.types.IntegerType.{IntegerType}
use Rattle.c_tree.specs.declared.types.ValueType.{ValueType}
use Rattle.c_tree.specs.declared.expression.BinaryOp.{BinaryOp}
use Rattle.c_tree.specs.Evaluation.{Found, InLocal, InObject, AtIndex, load, store, element_read, element_written}
use Rattle.c_tree.specs.Evaluation.{number_in, computed, put, get_from, low_byte, updated, Left, Falls, Breaks}
use Rattle.c_tree.specs.Evaluation.{Continues}
use Rattle.c_tree.specs.Evaluation.{Returns, Runs, after_statement, after_body, after_switch, loop, do_loop}
use Rattle.c_tree.specs.Operators.{Computed, Computes, Traps, binary_value}
use Rattle.c_tree.specs.Store.{Held, HoldsNumber, in_type, State, held, array_named, element_at}
use Rattle.c_tree.specs.Store.{with_array, with_element, with_local, Evaluated, Gives, Ends, and_then, turn_with}
use Rattle.c_tree.specs.Store.{take_turn}
use Rattle.c_eval_laws.specs.Bounds.{ComesAfter, Keeps, state_of, with_more, Extends, Extending}
use Rattle.c_eval_laws.proofs.After.{after-same, after-then, Follows, follows-same, turn-follows, local-follows}
use Rattle.c_eval_laws.proofs.After.{written-follows}
use Rattle.c_eval_laws.proofs.Keeping.{gives-keeps, ends-keeps, lower-keeps, follows-keeps, then-keeps}
use Rattle.c_eval_laws.proofs.Keeping.{turn-keeps, store-keeps}
use Rattle.c_eval_laws.proofs.Keeping.{get-keeps, read-keeps, loop-keeps, do-keeps}

-- ---- single evaluations

-- the same value in the same state
pub gives-extends : {A : Type 0} (d : ℕ) (value : A) (t : State)
    → Extends d (Gives value t) (Gives value (with_more d t))
gives-extends d value t = record {
  gives = λ v u e. let f : t ≡ u = cc in let g : value ≡ v = cc in cc;
  ends = λ end u e h. cc;
  goes = λ u e. absurd (cc);
}

-- the same end, with no program that still goes
pub ends-extends : {A : Type 0} (d : ℕ) (end : End) (t : State) → (end ≡ Goes → ⊥)
    → Extends {A = A} d (Ends end t) (Ends end (with_more d t))
ends-extends d end t h = record {
  gives = λ v u e. cc;
  ends = λ f u e g. cc;
  goes = λ u e. absurd (h (cc));
}

-- a value that more turns don't change is given in a state that follows, and so it is with more turns
pub gives-both : {A : Type 0} {k d : ℕ} (value : State → A) (change : State → State)
    → ((s : State) → Follows s (change s)) → ((s : State) → value (with_more d s) ≡ value s)
    → ((s : State) → change (with_more d s) ≡ with_more d (change s))
    → Extending k d (λ s. Gives (value s) (change s)) (λ s. Gives (value s) (change s))
gives-both {A} {k} {d} value change follows same moves = record {
  keeps = λ s. gives-keeps k s (change s) (value s) (follows s);
  keeps_too = λ s. gives-keeps 0 s (change s) (value s) (follows s);
  extends = λ s lt. rw (same s, moves s) (gives-extends d (value s) (change s));
}

-- a value is given in the same state
pub same-both : {A : Type 0} {k d : ℕ} {value : A} → Extending k d (λ s. Gives value s) (λ s. Gives value s)
same-both {value = v} = gives-both (λ s. v) (λ s. s) follows-same (λ s. refl) (λ s. refl)

-- the program ends in the same state
pub ends-both : {A : Type 0} {k d : ℕ} (end : End) → (end ≡ Goes → ⊥)
    → Extending {A = A} k d (λ s. Ends end s) (λ s. Ends end s)
ends-both {k} {d} end h = record {
  keeps = λ s. ends-keeps k s end (λ e lt. absurd (h e));
  keeps_too = λ s. ends-keeps 0 s end (λ e lt. absurd (h e));
  extends = λ s lt. ends-extends d end s h;
}

-- where no state has fewer turns than the bound, both need only keep what evaluations keep
pub none-both : {A : Type 0} {f g : State → Evaluated A} (d : ℕ) → ((s : State) → Keeps 0 s (f s))
    → ((s : State) → Keeps 0 s (g s)) → Extending 0 d f g
none-both d h h' = record { keeps = h; keeps_too = h'; extends = λ s lt. absurd (omega arith) }

-- a lower bound
pub lower-both : {A : Type 0} {f g : State → Evaluated A} (j k d : ℕ) → j ≤ k → Extending k d f g → Extending j d f g
lower-both j k d le h = record {
  keeps = λ s. lower-keeps j k le (h.keeps s);
  keeps_too = h.keeps_too;
  extends = λ s lt. h.extends s (omega arith);
}

-- ---- several

-- one end in one state
same-end : {A : Type 0} (d : ℕ) (end end' : End) (t u : State) → end ≡ end' → t ≡ u
    → ◌≡◌ {A = Evaluated A} (Ends end (with_more d t)) (Ends end' (with_more d u))
same-end {A} d end end' t u i j =
    ap {B = Evaluated A} (λ (w : State). Ends end (with_more d w)) j
    ∙ ap {B = Evaluated A} (λ (x : End). Ends x (with_more d u)) i

-- what comes after a state, and goes on from there
then-after : {A B : Type 0} (s : State) (r : Evaluated A) (go : A → State → Evaluated B) → ComesAfter s (state_of r)
    → ((value : A) (t : State) → ComesAfter t (state_of (go value t))) → ComesAfter s (state_of (and_then r go))
then-after s (Gives value t) go h after = after-then s t (state_of (go value t)) h (after value t)
then-after s (Ends end t) go h after = h

-- one evaluation after another, the second each time with more turns
pub then-extends : {A B : Type 0} (k d : ℕ) (s : State) (r other : Evaluated A) (go go' : A → State → Evaluated B)
    → Keeps k s r → s.turns < k → Extends d r other
    → ((value : A) (t : State) → t.turns < k → Extends d (go value t) (go' value (with_more d t)))
    → ((value : A) (t : State) → ComesAfter t (state_of (go' value t))) → Extends d (and_then r go) (and_then other go')
then-extends {A} {B} k d s (Gives value t) other go go' h lt e after comes =
    let le = h.after.turns in
    let f : other ≡ Gives value (with_more d t) = e.gives value t refl in
    rw f (after value t (omega arith))
then-extends {A} {B} k d s (Ends end t) other go go' h lt e after comes = record {
  gives = λ v u f. cc;
  ends = λ end' u f h'. let i : end ≡ end' = cc in let j : t ≡ u = cc in
      let o : other ≡ Ends end (with_more d t) = e.ends end t refl (λ i'. h' (sym i ∙ i')) in
      rw o (same-end d end end' t u i j);
  goes = λ u f. then-after (with_more d u) other go' (e.goes u (cc)) comes;
}

-- one evaluation after another
pub then-both : {A B : Type 0} {k d : ℕ} {f g : State → Evaluated A} {go go' : A → State → Evaluated B}
    → Extending k d f g → ((value : A) → Extending k d (go value) (go' value))
    → Extending k d (λ s. and_then (f s) go) (λ s. and_then (g s) go')
then-both {A} {B} {k} {d} {f} {g} {go} {go'} h after = record {
  keeps = λ s. then-keeps (h.keeps s) (λ v t. (after v).keeps t);
  keeps_too = λ s. then-keeps (h.keeps_too s) (λ v t. (after v).keeps_too t);
  extends = λ s lt. then-extends k d s (f s) (g (with_more d s)) go go' (h.keeps s) lt (h.extends s lt)
      (λ v. (after v).extends) (λ v t. ((after v).keeps_too t).after);
}

-- one of two
pub either-both : {A : Type 0} {k d : ℕ} {f g f' g' : State → Evaluated A} (test : Bool) → Extending k d f g
    → Extending k d f' g' → Extending k d (λ s. if test then f s else f' s) (λ s. if test then g s else g' s)
either-both true h h' = h
either-both false h h' = h'

-- the second from the state with so many more turns, which are given
turn_with-extends : {A : Type 0} {go go' : State → Evaluated A} (k d n m : ℕ) (s : State) → Extending k d go go'
    → s.turns ≡ n → m ≡ n + d → n < suc k → Extends d (turn_with n s go) (turn_with m (with_more d s) go')
turn_with-extends {A} {go} {go'} k d zero zero s h e f lt = record {
  gives = λ v u g. cc;
  ends = λ end u g h'. same-end d Goes end s u (cc) (cc);
  goes = λ u g. let i : s ≡ u = cc in subst (λ (w : State). ComesAfter (with_more d w) (with_more d s)) i
      (after-same (with_more d s));
}
turn_with-extends {A} {go} {go'} k d zero (suc m) s h e f lt =
    let t : State = record s { turns = m } in
    let g : s.turns + d ≡ suc m = omega (arith, e, f) in
    record {
      gives = λ v u i. cc;
      ends = λ end u i h'. let j : end ≡ Goes = cc in absurd (omega (arith, f, h' j));
      goes = λ u i. let j : s ≡ u = cc in subst (λ (w : State). ComesAfter (with_more d w) (state_of (go' t))) j
          (after-then (with_more d s) t (state_of (go' t)) (turn-follows m (with_more d s) g).after
          (h.keeps_too t).after);
    }
turn_with-extends {A} {go} {go'} k d (suc n) zero s h e f lt = absurd (omega (arith, f))
turn_with-extends {A} {go} {go'} k d (suc n) (suc m) s h e f lt =
    let g : m ≡ n + d = omega (arith, f) in rw g (h.extends (record s { turns = n }) (omega (arith, lt)))

-- a turn is taken
pub turn-both : {A : Type 0} {go go' : State → Evaluated A} (k d : ℕ) → Extending k d go go'
    → Extending (suc k) d (λ s. take_turn s go) (λ s. take_turn s go')
turn-both {A} {go} {go'} k d h = record {
  keeps = λ s. turn-keeps k (suc k) s go (omega arith) h.keeps;
  keeps_too = λ s. turn-keeps 0 0 s go' (omega arith) h.keeps_too;
  extends = λ s lt. turn_with-extends k d s.turns (s.turns + d) s h refl refl lt;
}

-- ---- loads, stores and the outside

-- the elements of an array, whatever turns are left
pub array-more : (d : ℕ) (s : State) (array : ArrayName) → array_named (with_more d s) array ≡ array_named s array
array-more d s Null = refl
array-more d s (Static k) = refl
array-more d s (InFrame k depth) = refl
array-more d s Unknown = refl

-- and other elements in it
pub with_array-more : (d : ℕ) (s : State) (array : ArrayName) (elements : List ℤ)
    → with_array array elements (with_more d s) ≡ with_more d (with_array array elements s)
with_array-more d s Null elements = refl
with_array-more d s (Static k) elements = refl
with_array-more d s (InFrame k depth) elements = refl
with_array-more d s Unknown elements = refl

-- an element is read, or there is none
read-extends : (d : ℕ) (s : State) (element : Option ℤ)
    → Extends d (element_read s element) (element_read (with_more d s) element)
read-extends d s None = ends-extends d (Trapped Check) s (λ e. cc)
read-extends d s (Some n) = gives-extends d (HoldsNumber n) s

-- an element is read that more turns don't change
read-both : {k d : ℕ} (element : State → Option ℤ) → ((s : State) → element (with_more d s) ≡ element s)
    → Extending k d (λ s. element_read s (element s)) (λ s. element_read s (element s))
read-both {k} {d} element same = record {
  keeps = λ s. read-keeps k s (element s);
  keeps_too = λ s. read-keeps 0 s (element s);
  extends = λ s lt. rw (same s) (read-extends d s (element s));
}

-- a place is loaded
pub load-both : {k d : ℕ} (found : Found) → Extending k d (load found) (load found)
load-both {k} {d} (InLocal local) = gives-both (λ s. held s local) (λ s. s) follows-same (λ s. refl) (λ s. refl)
load-both {k} {d} (InObject object) = read-both (λ s. element_at (array_named s (Static object)) (pos 0)) (λ s. refl)
load-both {k} {d} (AtIndex array index) = read-both (λ s. element_at (array_named s array) index)
    (λ s. ap (λ (xs : List ℤ). element_at xs index) (array-more d s array))

-- an element is written, or there is none
written-extends : (d : ℕ) (array : ArrayName) (index : ℤ) (value : Held) (s : State) (old : Option ℤ)
    → Extends d (element_written array index value s old) (element_written array index value (with_more d s) old)
written-extends d array index value s None = ends-extends d (Trapped Check) s (λ e. cc)
written-extends d array index value s (Some old) =
    let elements : List ℤ = with_element (array_named s array) index (number_in value) in
    rw (array-more d s array, with_array-more d s array elements) (gives-extends d value (with_array array elements s))

-- an element of an array is written
element-both : {k d : ℕ} (array : ArrayName) (index : ℤ) (value : Held) → Extending k d
    (λ s. element_written array index value s (element_at (array_named s array) index))
    (λ s. element_written array index value s (element_at (array_named s array) index))
element-both {k} {d} array index value = record {
  keeps = λ s. store-keeps k (AtIndex array index) value s;
  keeps_too = λ s. store-keeps 0 (AtIndex array index) value s;
  extends = λ s lt. subst (λ (xs : List ℤ). Extends d
      (element_written array index value s (element_at (array_named s array) index))
      (element_written array index value (with_more d s) (element_at xs index))) (sym (array-more d s array))
      (written-extends d array index value s (element_at (array_named s array) index));
}

-- a place is stored to
pub store-both : {k d : ℕ} (found : Found) (value : Held) → Extending k d (store found value) (store found value)
store-both {k} {d} (InLocal local) value = gives-both (λ s. value) (with_local local value)
    (local-follows local value) (λ s. refl) (λ s. refl)
store-both {k} {d} (InObject object) value = element-both (Static object) (pos 0) value
store-both {k} {d} (AtIndex array index) value = element-both array index value

-- an operator gives a value or traps
pub computed-both : {k d : ℕ} (c : Computed) → Extending k d (computed c) (computed c)
computed-both {k} {d} (Computes value) = same-both
computed-both {k} {d} (Traps trap) = ends-both (Trapped trap) (λ e. cc)

-- a byte is written
pub put-both : {k d : ℕ} (value : Held) → Extending k d (put value) (put value)
put-both {k} {d} value = gives-both (λ s. HoldsNumber (pos (low_byte value)))
    (λ s. record s { written = s.written ++ low_byte value ∷ [] }) (written-follows (low_byte value)) (λ s. refl)
    (λ s. refl)

-- a byte is taken, or none is left
get-extends : (d : ℕ) (left : List ℕ) (s : State) → Extends d (get_from left s) (get_from left (with_more d s))
get-extends d [] s = gives-extends d _ s
get-extends d (byte ∷ bytes) s = gives-extends d _ _

-- the next byte is taken
pub get-both : {k d : ℕ} → Extending k d (λ s. get_from s.left s) (λ s. get_from s.left s)
get-both {k} {d} = record {
  keeps = λ s. get-keeps k s.left s refl;
  keeps_too = λ s. get-keeps 0 s.left s refl;
  extends = λ s lt. get-extends d s.left s;
}

-- an operator, and then a store
pub updated-both : {k d : ℕ} (of : ValueType) (within : IntegerType) (op : BinaryOp) (found : Found) (old value : Held)
    → Extending k d (updated of within op found old value) (updated of within op found old value)
updated-both {k} {d} of within op found old value = then-both (computed-both (binary_value within op old value))
    (λ new. store-both found (in_type of new))

-- ---- statements behind one another

-- a change of the state first, which more turns don't change
pub before-both : {A : Type 0} {f g : State → Evaluated A} {k d : ℕ} (change : State → State)
    → ((s : State) → Follows s (change s)) → ((s : State) → change (with_more d s) ≡ with_more d (change s))
    → Extending k d f g → Extending k d (λ s. f (change s)) (λ s. g (change s))
before-both {A} {f} {g} {k} {d} change follows moves h = record {
  keeps = λ s. follows-keeps k s (change s) (follows s) (h.keeps (change s));
  keeps_too = λ s. follows-keeps 0 s (change s) (follows s) (h.keeps_too (change s));
  extends = λ s lt. let le = (follows s).after.turns in
      rw (moves s) (h.extends (change s) (omega (arith, le, lt)));
}

-- the next statement behind one
pub statement-both : {next next' : Runs} {k d : ℕ} → Extending k d next next' → (left : Left)
    → Extending k d (after_statement next left) (after_statement next' left)
statement-both {k} {d} h Falls = h
statement-both {k} {d} h Breaks = same-both
statement-both {k} {d} h Continues = same-both
statement-both {k} {d} h (Returns value) = same-both

-- what comes behind a loop's body
pub body-both : {next next' : Runs} {k d : ℕ} → Extending k d next next' → (left : Left)
    → Extending k d (after_body next left) (after_body next' left)
body-both {k} {d} h Falls = h
body-both {k} {d} h Breaks = same-both
body-both {k} {d} h Continues = h
body-both {k} {d} h (Returns value) = same-both

-- what comes behind a switch's body
pub switch-both : {k d : ℕ} (left : Left) → Extending k d (after_switch left) (after_switch left)
switch-both {k} {d} Falls = same-both
switch-both {k} {d} Breaks = same-both
switch-both {k} {d} Continues = same-both
switch-both {k} {d} (Returns value) = same-both

-- ---- loops, by their own bounds

-- a loop over one bound, and over another that has the turns that are more
pub loop-both : (bound other k d : ℕ) (test test' : State → Evaluated Bool) (body body' after after' : Runs)
    → k ≤ bound → k + d ≤ other → Extending k d test test' → Extending k d body body' → Extending k d after after'
    → Extending k d (loop bound test body after) (loop other test' body' after')
loop-both bound other zero d test test' body body' after after' le le' h b a = none-both d
    (loop-keeps bound 0 test body after (omega arith) h.keeps b.keeps a.keeps)
    (loop-keeps other 0 test' body' after' (omega arith) h.keeps_too b.keeps_too a.keeps_too)
loop-both zero other (suc k) d test test' body body' after after' le le' h b a = absurd (omega (arith, le))
loop-both (suc bound) zero (suc k) d test test' body body' after after' le le' h b a = absurd (omega (arith, le'))
loop-both (suc bound) (suc other) (suc k) d test test' body body' after after' le le' h b a =
    let lower : k ≤ suc k = omega arith in
    let h' : Extending k d test test' = lower-both k (suc k) d lower h in
    let b' : Extending k d body body' = lower-both k (suc k) d lower b in
    let a' : Extending k d after after' = lower-both k (suc k) d lower a in
    turn-both k d (then-both h' (λ holds. either-both holds
    (then-both b' (body-both (then-both a' (λ left.
    loop-both bound other k d test test' body body' after after' (omega (arith, le)) (omega (arith, le')) h' b' a'))))
    same-both))

-- the same of a `do`
pub do-both : (bound other k d : ℕ) (test test' : State → Evaluated Bool) (body body' : Runs) → k ≤ bound
    → k + d ≤ other → Extending k d test test' → Extending k d body body'
    → Extending k d (do_loop bound test body) (do_loop other test' body')
do-both bound other zero d test test' body body' le le' h b = none-both d
    (do-keeps bound 0 test body (omega arith) h.keeps b.keeps)
    (do-keeps other 0 test' body' (omega arith) h.keeps_too b.keeps_too)
do-both zero other (suc k) d test test' body body' le le' h b = absurd (omega (arith, le))
do-both (suc bound) zero (suc k) d test test' body body' le le' h b = absurd (omega (arith, le'))
do-both (suc bound) (suc other) (suc k) d test test' body body' le le' h b =
    let lower : k ≤ suc k = omega arith in
    let h' : Extending k d test test' = lower-both k (suc k) d lower h in
    let b' : Extending k d body body' = lower-both k (suc k) d lower b in
    turn-both k d (then-both b' (body-both (then-both h' (λ holds. either-both holds
    (do-both bound other k d test test' body body' (omega (arith, le)) (omega (arith, le')) h' b')
    same-both))))

-- The least of faults.
use Rattle.std.proofs.Common.{◌≡◌, refl, subst, inl, inr, sym, ap, ◌∙◌, ℕ, Bool, true, false, List, [], ◌∷◌, arith}
use Rattle.std.proofs.Common.{if◌then◌else◌}
use Rattle.std.specs.Prelude.{nat_lt, ◌==◌, Option, Some, None}
use Rattle.std.proofs.lemmas.Bool.Decides.{nat_tests}
use Rattle.std.proofs.lemmas.Bool.{false≢true}
use Rattle.pcc_base.specs.declared.fault.Fault.{Fault}
use Rattle.pcc_base.proofs.Lists.{all-weaker}
use Rattle.c_typing.specs.Faults.{keys, is_below, precedes, earlier, least}
use Rattle.c_typing.specs.Laws.{LeastOfBoth, IsAmong, IsLeastOf, LeastIsLeast}

-- ---- the order of lists of numbers

-- the first numbers that differ decide, and behind equal ones the rest does
below_first : (x y z : ℕ) (p q r : Bool) → (p ≡ true → q ≡ true → r ≡ true)
    → (if x == y then p else nat_lt x y) ≡ true → (if y == z then q else nat_lt y z) ≡ true
    → (if x == z then r else nat_lt x z) ≡ true
below_first x y z p q r on h k = grind (arith, nat_tests)

-- what is below a list that is below another is below that one
below_on : (xs ys zs : List ℕ) → is_below xs ys ≡ true → is_below ys zs ≡ true → is_below xs zs ≡ true
below_on [] [] zs h k = k
below_on [] (y ∷ ys) [] h k = k
below_on [] (y ∷ ys) (z ∷ zs) h k = refl
below_on (x ∷ xs) [] zs h k = grind arith
below_on (x ∷ xs) (y ∷ ys) [] h k = k
below_on (x ∷ xs) (y ∷ ys) (z ∷ zs) h k =
    below_first x y z (is_below xs ys) (is_below ys zs) (is_below xs zs) (below_on xs ys zs) h k

unlike_first : (x y z : ℕ) (p q r : Bool) → (r ≡ true → q ≡ false → p ≡ true)
    → (if x == z then r else nat_lt x z) ≡ true → (if y == z then q else nat_lt y z) ≡ false
    → (if x == y then p else nat_lt x y) ≡ true
unlike_first x y z p q r on h k = grind (arith, nat_tests)

-- what is below a list is below each that isn't below that list
below_other : (xs ys zs : List ℕ) → is_below xs zs ≡ true → is_below ys zs ≡ false → is_below xs ys ≡ true
below_other [] [] [] h k = h
below_other [] [] (z ∷ zs) h k = sym k ∙ h
below_other [] (y ∷ ys) zs h k = refl
below_other (x ∷ xs) ys [] h k = grind arith
below_other (x ∷ xs) [] (z ∷ zs) h k = grind arith
below_other (x ∷ xs) (y ∷ ys) (z ∷ zs) h k =
    unlike_first x y z (is_below xs ys) (is_below ys zs) (is_below xs zs) (below_other xs ys zs) h k

-- ---- the earlier of two faults

abbrev chosen : Fault → Fault → Fault
chosen f g = if precedes g f then g else f

later_one : (f g : Fault) → precedes g f ≡ true → chosen f g ≡ g
later_one f g e = ap (λ b. if b then g else f) e

first_one : (f g : Fault) → precedes g f ≡ false → chosen f g ≡ f
first_one f g e = ap (λ b. if b then g else f) e

chosen_by : (f g h : Fault) (a b c : Bool) → precedes g f ≡ a → precedes h g ≡ b → precedes h f ≡ c
    → (b ≡ true → a ≡ true → c ≡ true) → (c ≡ true → a ≡ false → b ≡ true)
    → chosen (chosen f g) h ≡ chosen f (chosen g h)
chosen_by f g h true true c e d k on other =
    ap (λ x. chosen x h) (later_one f g e) ∙ later_one g h d
    ∙ sym (ap (chosen f) (later_one g h d) ∙ later_one f h (k ∙ on refl refl))
chosen_by f g h true false c e d k on other =
    ap (λ x. chosen x h) (later_one f g e) ∙ first_one g h d
    ∙ sym (ap (chosen f) (first_one g h d) ∙ later_one f g e)
chosen_by f g h false true c e d k on other =
    ap (λ x. chosen x h) (first_one f g e) ∙ sym (ap (chosen f) (later_one g h d))
chosen_by f g h false false true e d k on other = absurd (false≢true (other refl refl))
chosen_by f g h false false false e d k on other =
    ap (λ x. chosen x h) (first_one f g e) ∙ first_one f h k
    ∙ sym (ap (chosen f) (first_one g h d) ∙ first_one f g e)

chosen-assoc : (f g h : Fault) → chosen (chosen f g) h ≡ chosen f (chosen g h)
chosen-assoc f g h =
    chosen_by f g h (precedes g f) (precedes h g) (precedes h f) refl refl refl
    (below_on (keys h) (keys g) (keys f)) (below_other (keys h) (keys g) (keys f))

earlier-assoc : (f g h : Option Fault) → earlier (earlier f g) h ≡ earlier f (earlier g h)
earlier-assoc None g h = refl
earlier-assoc (Some f) None h = refl
earlier-assoc (Some f) (Some g) None = refl
earlier-assoc (Some f) (Some g) (Some h) = ap Some (chosen-assoc f g h)

-- the least of two lists
pub least_of_both : LeastOfBoth
least_of_both [] gs = refl
least_of_both (f ∷ fs) gs =
    ap (earlier (Some f)) (least_of_both fs gs) ∙ sym (earlier-assoc (Some f) (least fs) (least gs))

-- ---- the least precedes all

itself : (xs : List ℕ) → is_below xs xs ≡ false
itself [] = refl
itself (x ∷ xs) = grind (arith, nat_tests, itself xs)

-- a fault that doesn't precede the later of two doesn't precede the earlier one
not_before : (f g h : Fault) (a b : Bool) → precedes g f ≡ a → precedes h f ≡ b → precedes h g ≡ false
    → precedes h (chosen f g) ≡ false
not_before f g h true b e d k = ap (precedes h) (later_one f g e) ∙ k
not_before f g h false true e d k =
    absurd (false≢true (sym k ∙ below_other (keys h) (keys g) (keys f) d e))
not_before f g h false false e d k = ap (precedes h) (first_one f g e) ∙ d

-- no two faults precede each other
after_all : (f g : Fault) (a : Bool) → precedes f g ≡ a → precedes g f ≡ true → precedes f g ≡ false
after_all f g true e k =
    absurd (false≢true (sym (itself (keys f)) ∙ below_on (keys f) (keys g) (keys f) e k))
after_all f g false e k = e

-- the first of two doesn't precede the earlier one
first_not_before : (f g : Fault) (a : Bool) → precedes g f ≡ a → precedes f (chosen f g) ≡ false
first_not_before f g true e = ap (precedes f) (later_one f g e) ∙ after_all f g (precedes f g) refl e
first_not_before f g false e = ap (precedes f) (first_one f g e) ∙ itself (keys f)

among_one : (f g : Fault) (fs : List Fault) (a : Bool) → precedes g f ≡ a → IsAmong g fs
    → IsAmong (chosen f g) (f ∷ fs)
among_one f g fs true e h = inr (subst (λ x. IsAmong x fs) (sym (later_one f g e)) h)
among_one f g fs false e h = inl (first_one f g e)

least_with : (f : Fault) (fs : List Fault) (l : Option Fault) → IsLeastOf fs l → IsLeastOf (f ∷ fs) (earlier (Some f) l)
least_with f fs None h = subst (λ gs. IsLeastOf (f ∷ gs) (Some f)) (sym h) (inl refl, (itself (keys f), tt))
least_with f fs (Some g) h = (
  among_one f g fs (precedes g f) refl h.0,
  (
    first_not_before f g (precedes g f) refl,
    all-weaker (λ x. precedes x g ≡ false) (λ x. precedes x (chosen f g) ≡ false) fs
        (λ x k. not_before f g x (precedes g f) (precedes x f) refl refl k) h.1,
  ),
)

-- the least is one of the faults, and none precedes it
pub least_is_least : LeastIsLeast
least_is_least [] = refl
least_is_least (f ∷ fs) = least_with f fs (least fs) (least_is_least fs)

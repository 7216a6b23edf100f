-- Lists that are gone over from either end.
use Rattle.std.proofs.Common.{◌≡◌, ℕ, zero, suc, ◌+◌, ◌-◌, ◌<◌, ◌≤◌, List, [], ◌∷◌, ◌++◌, map, length, drop, take}
use Rattle.std.proofs.Common.{get_or, Option}
use Rattle.std.proofs.Common.{Some, None, false, ℤ, pos, refl, ap, sym, ◌∙◌, arith}
use Rattle.std.specs.Prelude.{filter_map}
use Rattle.std.specs.List.{cons_option}
use Rattle.std.proofs.Math.Seq.{take-suc, drop-cons}
use Rattle.std.proofs.lemmas.List.{map-append, map_push, take-append-drop}
use Rattle.pcc_base.specs.declared.fault.Fault.{Fault}
use Rattle.c_tree.specs.declared.types.ValueType.{ValueType}
use Rattle.c_typing.specs.Faults.{earlier, least}
use Rattle.c_typing.specs.Numbering.{filled}
use Rattle.c_typing.specs.Types.{same_values}
pub use Rattle.c_check_laws.proofs.Finding.{filled_length as length_filled}

-- the least of what a test gives, with one more before
pub least_more : {X : Type 0} (h : X → Option Fault) (x : X) (xs : List X)
    → least (filter_map h (x ∷ xs)) ≡ earlier (h x) (least (filter_map h xs))
least_more h x xs = by (h x)
  where
    by : (o : Option Fault) → least (cons_option o (filter_map h xs)) ≡ earlier o (least (filter_map h xs))
    by None = refl
    by (Some f) = refl

-- one element more is the next value, or zero
one_filled : (n : ℕ) (vs : List ℤ) → filled (suc n) vs ≡ filled n vs ++ get_or vs n (pos 0) ∷ []
one_filled zero [] = refl
one_filled zero (v ∷ vs) = refl
one_filled (suc n) [] = ap (λ xs. pos 0 ∷ xs) (one_filled n [])
one_filled (suc n) (v ∷ vs) = ap (λ xs. v ∷ xs) (one_filled n vs)

pub filled_more : (n : ℕ) (vs : List ℤ) → filled (n + 1) vs ≡ filled n vs ++ get_or vs n (pos 0) ∷ []
filled_more n vs = let e : n + 1 ≡ suc n = omega arith in ap (λ m. filled m vs) e ∙ one_filled n vs

-- ---- one element of a list, from either end

pub taken : {X Y : Type 0} (f : X → Y) (xs : List X) (i : ℕ) (x : X) → i < length xs → x ≡ get_or xs i x
    → map f (take (i + 1) xs) ≡ map f (take i xs) ++ f x ∷ []
taken f xs i x lt is = let e : i + 1 ≡ suc i = omega arith in
    ap (λ n. map f (take n xs)) e ∙ ap (map f) (take-suc xs i x lt ∙ ap (λ y. take i xs ++ y ∷ []) (sym is))
    ∙ map_push f (take i xs) x

pub taken_all : {X : Type 0} (xs : List X) (i : ℕ) → length xs ≤ i → take i xs ≡ xs
taken_all [] zero le = refl
taken_all [] (suc i) le = refl
taken_all (x ∷ xs) zero le = absurd (omega (arith, le))
taken_all (x ∷ xs) (suc i) le = ap (λ ys. x ∷ ys) (taken_all xs i (omega (arith, le)))

pub parted : {X Y : Type 0} (f : X → Y) (xs : List X) (i : ℕ) (x : X) → i < length xs → x ≡ get_or xs i x
    → map f xs ≡ map f (take i xs) ++ (f x ∷ map f (drop (suc i) xs))
parted f xs i x lt is =
    ap (map f) (sym (take-append-drop i xs) ∙ ap (λ ys. take i xs ++ ys) (drop-cons xs i x lt
    ∙ ap (λ y. y ∷ drop (suc i) xs) (sym is))) ∙ map-append f (take i xs) (x ∷ drop (suc i) xs)

pub dropped : {X Y : Type 0} (f : X → Y) (xs : List X) (i : ℕ) (x : X) → 0 < i → i ≤ length xs
    → x ≡ get_or xs (i - 1) x → map f (drop (i - 1) xs) ≡ f x ∷ map f (drop i xs)
dropped f xs i x some within is =
    let lt : i - 1 < length xs = omega (arith, some, within) in
    let e : suc (i - 1) ≡ i = omega (arith, some) in
    ap (map f) (drop-cons xs (i - 1) x lt ∙ ap (λ y. y ∷ drop (suc (i - 1)) xs) (sym is)
    ∙ ap (λ n. x ∷ drop n xs) e)

-- types are none where there is none
pub some_differ : (ts : List ValueType) → 1 ≤ length ts → false ≡ same_values ts []
some_differ [] h = absurd (omega (arith, h))
some_differ (t ∷ ts) h = refl

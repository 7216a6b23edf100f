-- Lists by the numbers of functions, filled in the order in which the functions stand.
use Rattle.std.specs.Prelude.{◌≡◌, ◌<◌, ◌≤◌, ℕ, zero, suc, ◌+◌, List, [], ◌∷◌, drop, length, slice_set, slice_get}
use Rattle.std.specs.Prelude.{Some, option_map}
use Rattle.std.proofs.Common.{refl, sym, ap, ◌∙◌, arith, inl, inr}
use Rattle.std.proofs.lemmas.Bool.{cases_eq}
use Rattle.std.proofs.lemmas.Option.{same_Some, slice_get-map, slice_get_within}
use Rattle.ia32_insn.specs.Items.{IsOrder}
use Rattle.ia32_asm.specs.declared.section.Section.{Section}
use Rattle.elf_link.specs.Parts.{function_of, order_of}
use Rattle.elf_link.specs.Placed.{AreNumbered}

-- an element that was set is there
set-there : {A : Type 0} (xs : List A) (k : ℕ) (x : A) → k < length xs → slice_get (slice_set xs k x) k ≡ Some x
set-there [] k x h = absurd (omega (arith, h))
set-there (y ∷ ys) zero x h = refl
set-there (y ∷ ys) (suc k) x h = set-there ys k x (omega (arith, h))

-- the others stay
set-elsewhere : {A : Type 0} (xs : List A) (k l : ℕ) (x : A) → (l ≡ k → ⊥) → slice_get (slice_set xs k x) l
    ≡ slice_get xs l
set-elsewhere [] k l x h = refl
set-elsewhere (y ∷ ys) zero zero x h = absurd (h refl)
set-elsewhere (y ∷ ys) zero (suc l) x h = refl
set-elsewhere (y ∷ ys) (suc k) zero x h = refl
set-elsewhere (y ∷ ys) (suc k) (suc l) x h = set-elsewhere ys k l x (λ e. h (ap suc e))

-- what stands at the first n places stands at its numbers
abbrev pub IsFilled : {A : Type 0} → List ℕ → List A → List A → ℕ → Type 0
IsFilled order placed numbered n =
    (i k : ℕ) → i < n → slice_get order i ≡ Some k → slice_get numbered k ≡ slice_get placed i

-- one place more
pub filled-more : {A : Type 0} (order : List ℕ) (placed numbered : List A) (m n k : ℕ) (x : A) → IsOrder m order
    → slice_get order n ≡ Some k
    → slice_get placed n ≡ Some x → k < length numbered → IsFilled order placed numbered n
    → IsFilled order placed (slice_set numbered k x) (n + 1)
filled-more order placed numbered m n k x is at there inside filled =
    λ i l h e. elim (cases_eq i n) [
      | inl same ↦
          let number : l ≡ k = same_Some l k (sym e ∙ ap (slice_get order) same ∙ at) in
          ap (slice_get (slice_set numbered k x)) number ∙ set-there numbered k x inside ∙ sym there
          ∙ ap (slice_get placed) (sym same)
      | inr other ↦
          set-elsewhere numbered k l x (λ number. other (is.once i n l e (at ∙ ap Some (sym number))))
          ∙ filled i l (omega (arith, h, other)) e
    ]

-- all places
pub filled-all : {A : Type 0} (order : List ℕ) (placed numbered : List A) (n : ℕ) → length order ≤ n
    → IsFilled order placed numbered n → AreNumbered order placed numbered
filled-all order placed numbered n h filled = λ i k e. filled i k (omega (arith, h, slice_get_within order i k e)) e

-- what comes next in a list
next-suc : {A : Type 0} (n : ℕ) (whole : List A) (x : A) (rest : List A) → drop n whole ≡ x ∷ rest
    → (slice_get whole n ≡ Some x) × (drop (suc n) whole ≡ rest)
next-suc zero [] x rest e = absurd (cc)
next-suc zero (y ∷ ys) x rest e = (ap (λ zs. slice_get zs 0) e, ap (drop 1) e)
next-suc (suc n) [] x rest e = absurd (cc)
next-suc (suc n) (y ∷ ys) x rest e = next-suc n ys x rest e

pub next-of : {A : Type 0} (n : ℕ) (whole : List A) (x : A) (rest : List A) → drop n whole ≡ x ∷ rest
    → (slice_get whole n ≡ Some x) × (drop (n + 1) whole ≡ rest)
next-of n whole x rest e =
    let next = next-suc n whole x rest e in
    let one : n + 1 ≡ suc n = omega arith in
    (next.0, ap (λ m. drop m whole) one ∙ next.1)

-- the function of a section stands in the order at the section's place
pub number-at : (sections : List Section) (i : ℕ) (s : Section) → slice_get sections i ≡ Some s
    → slice_get (order_of sections) i ≡ Some (function_of s)
number-at sections i s e = slice_get-map function_of sections i ∙ ap (option_map function_of) e

-- a list in which an element was set is as long
pub length-put : {A : Type 0} (xs : List A) (k : ℕ) (x : A) → length (slice_set xs k x) ≡ length xs
length-put [] k x = refl
length-put (y ∷ ys) zero x = refl
length-put (y ∷ ys) (suc k) x = ap suc (length-put ys k x)

-- One section alone.
use Rattle.std.specs.Prelude.{◌≡◌, ◌<◌, ℕ, zero, suc, List, [], ◌∷◌, slice_get, slice_index_or, Some}
use Rattle.std.proofs.Common.{refl, sym, ap, subst, arith}
use Rattle.std.proofs.lemmas.Option.{same_Some}
use Rattle.ia32_insn.specs.Items.{IsOrder}
use Rattle.ia32_insn.specs.declared.item.Item.{Item}
use Rattle.ia32_asm.specs.declared.section.Section.{Section}
use Rattle.ia32_asm.specs.declared.section.Symbol.{Symbol}
use Rattle.ia32_asm.specs.Sections.{IsSection}
use Rattle.elf_link.specs.Parts.{function_of, order_of}
use Rattle.elf_link.specs.Linking.{AreSections}

-- the order of one function
pub order-alone : IsOrder 1 (0 ∷ [])
order-alone = record { below = below; each = λ k h. (0, ap Some (omega (arith, h))); once = once }
  where
    below : (i k : ℕ) → slice_get (0 ∷ []) i ≡ Some k → k < 1
    below zero k e = omega (arith, same_Some 0 k e)
    below (suc i) k e = absurd (cc)

    once : (i j k : ℕ) → slice_get (0 ∷ []) i ≡ Some k → slice_get (0 ∷ []) j ≡ Some k → i ≡ j
    once zero zero k e f = refl
    once zero (suc j) k e f = absurd (cc)
    once (suc i) j k e f = absurd (cc)

pub number-alone : (items : List Item) (s : Section) → IsSection 0 items s → order_of (s ∷ []) ≡ 0 ∷ []
number-alone items s is = ap (λ (symbols : List Symbol).
    (slice_index_or symbols 0 (record { function = 0; offset = 0 })).function ∷ []) is.one_symbol

pub sections-alone : (items : List Item) (s : Section) → IsSection 0 items s → AreSections (items ∷ []) (s ∷ [])
sections-alone items s is =
    record { many = refl; each = λ i t e. each i t e }
  where
    number : function_of s ≡ 0
    number = ap (λ (symbols : List Symbol). (slice_index_or symbols 0 (record { function = 0; offset = 0 })).function)
        is.one_symbol

    each : (i : ℕ) (t : Section) → slice_get (s ∷ []) i ≡ Some t → (xs : List Item)
        × (slice_get (items ∷ []) (function_of t) ≡ Some xs) × IsSection (function_of t) xs t
    each zero t e =
        let P : Section → Type 0 = λ u. (xs : List Item) × (slice_get (items ∷ []) (function_of u) ≡ Some xs)
        × IsSection (function_of u) xs u in
        let Q : ℕ → Type 0 = λ n. (xs : List Item) × (slice_get (items ∷ []) n ≡ Some xs) × IsSection n xs s in
        subst P (same_Some s t e) (subst Q (sym number) (items, refl, is))
    each (suc i) t e = absurd (cc)

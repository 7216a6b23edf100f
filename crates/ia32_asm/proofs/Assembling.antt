-- Items that are written out can be assembled, one item after the other.
use Rattle.std.specs.Prelude.{◌≡◌, ◌<◌, ◌^◌, ℕ, zero, suc, List, [], ◌∷◌, slice_get, Some}
use Rattle.std.specs.List.{AllByRecursion}
use Rattle.std.proofs.Common.{refl, sym, ◌∙◌, arith}
use Rattle.std.proofs.lemmas.Option.{same_Some}
use Rattle.pcc_base.proofs.Lists.{all-at}
use Rattle.ia32_insn.specs.declared.item.Item.{Item}
use Rattle.ia32_insn.specs.declared.item.Item.TheVariants as item
use Rattle.ia32_asm.specs.Sections.{Stands, StandOnce, IsSpelled, HasLabel, items_size, CanAssemble}

pub can_assemble : (items : List Item) → AllByRecursion IsSpelled items → AllByRecursion (HasLabel items) items
    → StandOnce item.Label items → StandOnce item.Point items
    → items_size items < 2 ^ 30 → CanAssemble items
can_assemble items s l labels points size =
    record {
      spelled = λ j i. all-at IsSpelled items j i s;
      labelled = λ j i. all-at (HasLabel items) items j i l;
      labels_once =
          labels;
      points_once = points;
      size = size;
    }

-- a mark that does not stand in the items
pub absent_none : (y : Item) → Stands y [] → ⊥
absent_none y s = let h = s.1 in cc

pub absent_more : (y x : Item) (xs : List Item) → (x ≡ y → ⊥) → (Stands y xs → ⊥) → Stands y (x ∷ xs) → ⊥
absent_more y x xs other h s = absent_at y x xs other h s.0 s.1
  where
    absent_at : (y x : Item) (xs : List Item) → (x ≡ y → ⊥) → (Stands y xs → ⊥) → (j : ℕ) → slice_get (x ∷ xs) j
        ≡ Some y → ⊥
    absent_at y x xs other h zero e = other (same_Some x y e)
    absent_at y x xs other h (suc j) e = h (j, e)

-- marks that stand once
pub once_none : (mark : ℕ → Item) → StandOnce mark []
once_none mark i j n e f = absurd (cc)

pub once_other : (mark : ℕ → Item) (x : Item) (xs : List Item) → ((n : ℕ) → x ≡ mark n → ⊥) → StandOnce mark xs
    → StandOnce mark (x ∷ xs)
once_other mark x xs other h zero j n e f = absurd (other n (same_Some x (mark n) e))
once_other mark x xs other h (suc i) zero n e f = absurd (other n (same_Some x (mark n) f))
once_other mark x xs other h (suc i) (suc j) n e f = omega (arith, h i j n e f)

pub once_mark : (mark : ℕ → Item) (x : Item) (xs : List Item) → (Stands x xs → ⊥) → StandOnce mark xs
    → StandOnce mark (x ∷ xs)
once_mark mark x xs absent h zero zero n e f = refl
once_mark mark x xs absent h zero (suc j) n e f = absurd (absent (j, f ∙ sym e))
once_mark mark x xs absent h (suc i) zero n e f = absurd (absent (i, e ∙ sym f))
once_mark mark x xs absent h (suc i) (suc j) n e f = omega (arith, h i j n e f)

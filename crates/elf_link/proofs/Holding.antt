-- What is known of each section and object of those that can be linked.
use Rattle.std.specs.Prelude.{◌≡◌, ◌⊎◌, ◌<◌, ◌≤◌, ℕ, zero, suc, ◌+◌, List, [], ◌∷◌, length, drop, map, slice_get, Some}
use Rattle.std.specs.Prelude.{option_map}
use Rattle.std.proofs.Common.{refl, sym, ap, ◌∙◌, arith, get_or, inl, inr}
use Rattle.std.proofs.lemmas.List.{drop_more}
use Rattle.std.proofs.lemmas.Option.{same_Some, slice_get-map, slice_get_read}
use Rattle.pcc_base.specs.declared.object.DataObject.{DataObject}
use Rattle.ia32_insn.specs.Items.{Object, elements_size}
use Rattle.elf_link.specs.Parts.{CanHold, object_of, objects_size}

-- an element that was read is there
pub read_at : {X : Type 0} (items same : List X) (k : ℕ) (x : X) → same ≡ items → k < length items → x ≡ get_or same k x
    → slice_get items k ≡ Some x
read_at items same k x s h e = slice_get_read items (length items) k x refl h (e ∙ ap (λ ys. get_or ys k x) s)

-- and what is left of the list begins with it
pub left_at : {X : Type 0} (items same : List X) (k : ℕ) (x : X) → same ≡ items → k < length items → x ≡ get_or same k x
    → drop k items ≡ x ∷ drop (k + 1) items
left_at items same k x s h e = drop_more items k x h
    ∙ ap (λ y. y ∷ drop (k + 1) items) (sym (e ∙ ap (λ ys. get_or ys k x) s))

object_part : (objects : List Object) (k : ℕ) (o : Object) → slice_get objects k ≡ Some o
    → 4 + elements_size o ≤ objects_size objects
object_part [] k o e = absurd (cc)
object_part (x ∷ xs) zero o e = let same = same_Some x o e in omega (arith, ap elements_size same)
object_part (x ∷ xs) (suc k) o e = omega (arith, object_part xs k o e)

-- an object among those that are held
pub record IsHeld (o : DataObject) : Type 0 where
  pub size : elements_size (object_of o) ≤ 0x01000000
  pub narrow : 1 ≤ o.width
  pub wide : o.width ≤ 4

pub held_at : (objects same : List DataObject) (k : ℕ) (o : DataObject) → CanHold (map object_of objects) → same
    ≡ objects → k < length objects → o ≡ get_or same k o → IsHeld o
held_at objects same k o held s h e =
    let there : slice_get (map object_of objects) k ≡ Some (object_of o) = slice_get-map object_of objects k
    ∙ ap (option_map object_of) (read_at objects same k o s h e) in
    let width : (o.width ≡ 1) ⊎ ((o.width ≡ 2) ⊎ (o.width ≡ 4)) = held.widths k (object_of o) there in
    record {
      size = omega (arith, object_part (map object_of objects) k (object_of o) there, held.size);
      narrow = elim width [
        | inl p ↦ omega (arith, p)
        | inr q
            ↦ elim q [ inl p ↦ omega (arith, p) | inr p ↦ omega (arith, p) ]
      ];
      wide = elim width [
        | inl p ↦ omega (arith, p)
        | inr q
            ↦ elim q [ inl p ↦ omega (arith, p) | inr p ↦ omega (arith, p) ]
      ];
    }

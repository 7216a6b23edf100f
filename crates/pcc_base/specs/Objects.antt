-- Static objects, as contracts see them.
use Rattle.std.specs.Prelude.{ℕ, ◌-◌, ◌*◌, ◌^◌, ◌≤◌, ◌≡◌, ◌⊎◌, ℤ, pos, neg_ℤ, ◌≤ℤ◌, ◌<ℤ◌, List, length}
use Rattle.std.specs.List.{All}
use Rattle.pcc_base.specs.declared.object.DataObject.{DataObject}

-- a static object: the bytes of an element, and its elements as signed numbers
pub record Object : Type 0 where
  pub width : ℕ
  pub elements : List ℤ

abbrev pub object_of : DataObject → Object
object_of o = record { width = o.width; elements = o.elements.items }

-- a signed number of so many bytes, in two's complement (C99 6.2.6.2)
abbrev pub FitsBytes : ℕ → ℤ → Type 0
FitsBytes width n = (neg_ℤ (pos (2 ^ (8 * width - 1))) ≤ℤ n) × (n <ℤ pos (2 ^ (8 * width - 1)))

-- what every static object keeps: elements of 1, 2 or 4 bytes, at least one, each a signed number of that width
pub record IsObject (object : Object) : Type 0 where
  pub width : (object.width ≡ 1) ⊎ (object.width ≡ 2) ⊎ (object.width ≡ 4)
  pub some_elements : 1 ≤ length object.elements
  pub elements : All (FitsBytes object.width) object.elements

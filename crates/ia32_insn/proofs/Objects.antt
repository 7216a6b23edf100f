-- How many bytes static objects take, and how many addresses they have.
use Rattle.std.proofs.Common.{◌≡◌, ℕ, suc, ◌+◌, ◌-◌, ◌*◌, ◌≤◌, ℤ, List, [], ◌∷◌, ◌++◌, length, refl, ap, ◌∙◌, arith}
use Rattle.std.proofs.Common.{length-append}
use Rattle.std.specs.Prelude.{flat_map}
use Rattle.std.specs.Int.{w32, cast_unsigned}
use Rattle.std.proofs.Math.Nat.{mul-suc}
use Rattle.byteorder.specs.Endian.{little_bytes}
use Rattle.byteorder.specs.Numbers.{length-bytes_low_first}
use Rattle.pcc_base.specs.Bytes.{zeros}
use Rattle.pcc_base.proofs.Zeros.{length-zeros}
use Rattle.ia32_insn.specs.Items.{Object, element_bytes, elements_size, object_addresses, object_bytes, round_up}

-- elements take their width each
pub length-elements : (width : ℕ) (zs : List ℤ)
    → length (flat_map (λ (z : ℤ). little_bytes width (cast_unsigned w32 z)) zs) ≡ width * length zs
length-elements width [] = omega arith
length-elements width (z ∷ zs) =
    let first : length (little_bytes width (cast_unsigned w32 z)) ≡ width =
    length-bytes_low_first 0 width (cast_unsigned w32 z) in
    length-append (little_bytes width (cast_unsigned w32 z))
    (flat_map (λ (y : ℤ). little_bytes width (cast_unsigned w32 y)) zs)
    ∙ ap (λ (n : ℕ). n + length (flat_map (λ (y : ℤ). little_bytes width (cast_unsigned w32 y)) zs)) first
    ∙ ap (λ (n : ℕ). width + n) (length-elements width zs) ∙ more width (length zs)
  where
    more : (a b : ℕ) → a + a * b ≡ a * suc b
    more a b = omega (arith, mul-suc a b)

-- what is rounded up is no less
pub round-above : (n : ℕ) → n ≤ round_up 4 n
round-above n = omega arith

-- the elements fit in their size
pub elements-within : (o : Object) → o.width * length o.elements ≤ elements_size o
elements-within o = round-above (o.width * length o.elements)

-- an object takes four bytes more than its elements
pub length-object : (o : Object) → length (object_bytes o) ≡ 4 + elements_size o
length-object o =
    length-append (little_bytes 4 (length o.elements) ++ element_bytes o)
    (zeros (elements_size o - o.width * length o.elements))
    ∙ omega (
      arith,
      length-append (little_bytes 4 (length o.elements)) (element_bytes o),
      length-elements o.width o.elements,
      length-zeros (elements_size o - o.width * length o.elements),
      elements-within o,
    )

-- each object has an address
pub length-object_addresses : (start : ℕ) (objects : List Object)
    → length (object_addresses start objects) ≡ length objects
length-object_addresses start [] = refl
length-object_addresses start (o ∷ objects) = ap suc (length-object_addresses (start + 4 + elements_size o) objects)

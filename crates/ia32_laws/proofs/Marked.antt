-- The depth word of a program's code, whatever labels and points are; and where a point is that was put behind a call.
use Rattle.std.proofs.Common.{◌≡◌, ℕ, ◌+◌, ◌*◌, ◌-◌, ◌<◌, ◌≤◌, List, [], ◌∷◌, ◌++◌, length, ap, ◌∙◌, arith}
use Rattle.std.proofs.Common.{length-append}
use Rattle.std.specs.Prelude.{flat_map}
use Rattle.byteorder.specs.Endian.{little_bytes}
use Rattle.byteorder.specs.Numbers.{length-bytes_low_first}
use Rattle.pcc_base.specs.Bytes.{zeros}
use Rattle.ia32_insn.specs.declared.item.Item.TheVariants as item
use Rattle.ia32_insn.specs.Items.{ItemsAt, Object, Places, Symbols, data_bytes, data_start, element_bytes}
use Rattle.ia32_insn.specs.Items.{elements_size}
use Rattle.ia32_insn.specs.Items.{object_bytes, round_up}
use Rattle.ia32_insn.proofs.Objects.{length-object_addresses}
use Rattle.ia32_rows.specs.Placements.{Code, objects_of}
use Rattle.ia32_rows.specs.Sites.{StandsFrom}
use Rattle.ia32_laws.specs.Supports.{IsSupported, site_of}
use Rattle.ia32_laws.proofs.Objects.{depth-in}
use Rattle.ia32_laws.specs.ActivationsLaws.{HasDepth}
use Rattle.ia32_laws.proofs.Routines.{check-stands}
use Rattle.ia32_laws.specs.StandingLaws.{marked}

-- where a point stands that comes first
point-first : (symbols : Symbols) (places : Places) (address : ℕ) (bytes : List ℕ)
    → ItemsAt symbols places address (item.Point 0 ∷ []) bytes → places.points 0 ≡ address
point-first symbols places address bytes (first, rest, whole, at, more) = at.1

-- so a point behind a call has the address to which it returns
pub point-behind : (code : Code) (f r address : ℕ)
    → StandsFrom (marked (site_of code f) r) (item.Point 0 ∷ []) address → r ≡ address
point-behind code f r address h =
    point-first code.symbols (marked (site_of code f) r).places address h.bytes h.stand

-- ---- the depth word

-- each object takes a byte of the data at least
some-bytes : (o : Object) → 1 ≤ length (object_bytes o)
some-bytes o =
    let four = length-bytes_low_first 0 4 (length o.elements) in
    let one = length-append (little_bytes 4 (length o.elements)) (element_bytes o) in
    let whole = length-append (little_bytes 4 (length o.elements) ++ element_bytes o)
    (zeros (elements_size o - o.width * length o.elements)) in
    counted (length (little_bytes 4 (length o.elements))) (length (element_bytes o))
    (length (zeros (elements_size o - o.width * length o.elements)))
    (length (little_bytes 4 (length o.elements) ++ element_bytes o)) (length (object_bytes o)) four one whole
  where
    counted : (a b c d w : ℕ) → a ≡ 4 → d ≡ a + b → w ≡ d + c → 1 ≤ w
    counted a b c d w e f g = omega arith

few-objects : (objects : List Object) → length objects ≤ length (flat_map object_bytes objects)
few-objects [] = omega arith
few-objects (o ∷ objects) =
    counted (length objects) (length (object_bytes o)) (length (flat_map object_bytes objects))
    (length (flat_map object_bytes (o ∷ objects))) (few-objects objects) (some-bytes o)
    (length-append (object_bytes o) (flat_map object_bytes objects))
  where
    counted : (n a r w : ℕ) → n ≤ r → 1 ≤ a → w ≡ a + r → ℕ.suc n ≤ w
    counted n a r w h k e = omega arith

-- the depth word of a program's code, whatever the labels are
pub has-depth : (code : Code) (f r : ℕ) → IsSupported code → HasDepth (marked (site_of code f) r)
unfolding zeros
has-depth code f r h =
    let objects = objects_of code.program in
    let text = h.is_code.text in
    let check = check-stands code f h in
    let many : length code.symbols.objects ≡ length objects =
    ap length text.objects_are ∙ length-object_addresses (data_start code.text + 4) objects in
    let few = few-objects objects in
    let whole = length-append (zeros 4) (flat_map object_bytes objects) in
    record {
      low = from (data_start code.text) code.symbols.depth text.depth_is;
      high = to (data_start code.text) code.symbols.depth (length (data_bytes objects)) text.depth_is
          (depth-in objects);
      few = number (length code.symbols.objects) (length objects) (length (flat_map object_bytes objects))
          (length (data_bytes objects)) (data_start code.text) many few whole h.fits;
      check = record { bytes = check.bytes; here = check.here; stand = check.stand };
    }
  where
    from : (low depth : ℕ) → depth ≡ low → low ≤ depth
    from low depth e = omega arith

    to : (low depth bytes : ℕ) → depth ≡ low → 4 ≤ bytes → depth + 4 ≤ low + (round_up 4 bytes + 0x04001000)
    to low depth bytes e h = omega arith

    number : (n m r w low : ℕ) → n ≡ m → m ≤ r → w ≡ 4 + r → low + (round_up 4 w + 0x04001000) < 0x1_0000_0000
        → n ≤ 0xffffffff
    number n m r w low e h k b = omega arith

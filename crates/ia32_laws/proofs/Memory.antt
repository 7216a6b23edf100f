-- Memory by the shapes of its areas and by its bytes, for any static objects.
use Rattle.std.proofs.Common.{◌≡◌, ℕ, ◌+◌, ◌-◌, ◌*◌, ◌<◌, ◌≤◌, ℤ, Bool, true, false, List, [], ◌∷◌, ◌++◌, length, Some}
use Rattle.std.proofs.Common.{refl, sym, ap, subst, ◌∙◌, arith, length-append}
use Rattle.std.specs.Prelude.{flat_map, map, option_map, slice_get, slice_index_or}
use Rattle.std.specs.Int.{w32, cast_unsigned}
use Rattle.std.specs.List.{AllByRecursion}
use Rattle.std.proofs.lemmas.Bool.{false≢true}
use Rattle.std.proofs.lemmas.List.Elements.{All-append, All-nil, All-replicate}
use Rattle.byteorder.specs.Endian.{little_bytes}
use Rattle.std.proofs.lemmas.Option.{none-some, same_Some}
use Rattle.pcc_base.specs.Bytes.{AreBytes, zeros}
use Rattle.pcc_base.proofs.Zeros.{length-zeros}
use Rattle.ia32_insn.specs.State.{Area, Shape, shape_of}
use Rattle.ia32_insn.specs.Items.{Object, Places, round_up, text_area, data_area, data_bytes, data_memory, data_start}
use Rattle.ia32_insn.specs.Items.{element_bytes, elements_size, object_bytes, stack_end, text_start}
use Rattle.ia32_rows.proofs.Small.{bytes-small}
use Rattle.ia32_rows.specs.Shows.{HasBytes}
use Rattle.ia32_rows.specs.Sites.{data_from}
use Rattle.ia32_rows.specs.Placements.{address_in}
use Rattle.ia32_laws.specs.Supports.{no_places}

-- the data end where the stack does
pub long-data : (text : List ℕ) (objects : List Object)
    → data_start text + length (data_area text objects).bytes ≡ stack_end text objects
long-data text objects =
    counted (data_start text) (data_memory objects) (data_bytes objects) (enough (length (data_bytes objects)))
  where
    enough : (n : ℕ) → n ≤ round_up 4 n + 0x04001000
    enough n = omega arith

    counted : (low memory : ℕ) (bytes : List ℕ) → length bytes ≤ memory
        → low + length (bytes ++ zeros (memory - length bytes)) ≡ low + memory
    counted low memory bytes enough =
        let back = length-zeros (memory - length bytes) in
        let whole = length-append bytes (zeros (memory - length bytes)) in
        omega arith

-- areas with the same parts are the same
area-equal : (a b : ℕ) (xs ys : List ℕ) (r p w q u v : Bool) → a ≡ b → xs ≡ ys → r ≡ p → w ≡ q → u ≡ v
    → (let one : Area = record { address = a; bytes = xs; readable = r; writable = w; runnable = u } in one)
    ≡ record { address = b; bytes = ys; readable = p; writable = q; runnable = v }
area-equal a b xs ys r p w q u v e f g h k = cc

-- the memory that is asked for
abbrev shapes_in : List ℕ → List Object → List Shape
shapes_in text objects = map shape_of (text_area text ∷ data_area text objects ∷ [])

-- memory with these shapes and this text is the text and some data
pub areas-are : (text : List ℕ) (objects : List Object) (areas : List Area) → map shape_of areas
    ≡ shapes_in text objects → option_map (λ (a : Area). a.bytes) (slice_get areas 0) ≡ Some text
    → (bytes : List ℕ) × (areas ≡ text_area text ∷ data_from (data_start text) bytes ∷ [])
    × (data_start text + length bytes ≡ stack_end text objects)
areas-are text objects [] e t = absurd (none-some text t)
areas-are text objects (a ∷ []) e t = absurd (let no : shape_of a ∷ [] ≡ shapes_in text objects = e in cc)
areas-are text objects (a ∷ b ∷ []) e t =
    let one : List Shape → Shape = λ (l : List Shape). slice_index_or l 0 (shape_of a) in
    let two : List Shape → Shape = λ (l : List Shape). slice_index_or l 1 (shape_of a) in
    let same : a.bytes ≡ text = same_Some a.bytes text t in
    let first : a ≡ text_area text =
    area-equal a.address (text_area text).address a.bytes text a.readable true a.writable false a.runnable true
    (ap (λ (l : List Shape). (one l).address) e) same
    (ap (λ (l : List Shape). (one l).readable) e) (ap (λ (l : List Shape). (one l).writable) e)
    (ap (λ (l : List Shape). (one l).runnable) e) in
    let second : b ≡ data_from (data_start text) b.bytes =
    area-equal b.address (data_start text) b.bytes b.bytes b.readable true b.writable true b.runnable false
    (ap (λ (l : List Shape). (two l).address) e) refl
    (ap (λ (l : List Shape). (two l).readable) e) (ap (λ (l : List Shape). (two l).writable) e)
    (ap (λ (l : List Shape). (two l).runnable) e) in
    let long : length b.bytes ≡ length (data_area text objects).bytes = ap (λ (l : List Shape). (two l).size) e in (
      b.bytes,
      ap (λ (m : Area). m ∷ b ∷ []) first ∙ ap (λ (m : Area). text_area text ∷ m ∷ []) second,
      ap (λ (k : ℕ). data_start text + k) long ∙ long-data text objects,
    )
areas-are text objects (a ∷ b ∷ c ∷ areas) e t = absurd
    (let no : shape_of a ∷ shape_of b ∷ shape_of c ∷ map shape_of areas ≡ shapes_in text objects = e in cc)

-- and memory that is a text and such data has these shapes
pub shapes-are : (text : List ℕ) (objects : List Object) (areas : List Area) (bytes : List ℕ) → areas
    ≡ text_area text ∷ data_from (data_start text) bytes ∷ [] → data_start text + length bytes
    ≡ stack_end text objects → map shape_of areas ≡ shapes_in text objects
shapes-are text objects areas bytes e size =
    let long : length bytes ≡ length (data_area text objects).bytes =
    alike (data_start text) (length bytes) (length (data_area text objects).bytes) (stack_end text objects) size
    (long-data text objects) in
    ap (λ (l : List Area). map shape_of l) e
    ∙ ap (λ (k : ℕ). let second : Shape = record
    { address = data_start text; size = k; readable = true; writable = true; runnable = false } in
    shape_of (text_area text) ∷ second ∷ []) long
  where
    alike : (low m n high : ℕ) → low + m ≡ high → low + n ≡ high → m ≡ n
    alike low m n high e f = omega arith

-- the text is in front
pub text-is : (text : List ℕ) (areas : List Area) (low : ℕ) (bytes : List ℕ)
    → areas ≡ text_area text ∷ data_from low bytes ∷ []
    → option_map (λ (a : Area). a.bytes) (slice_get areas 0) ≡ Some text
text-is text areas low bytes e =
    ap (λ (m : List Area). option_map (λ (a : Area). a.bytes) (slice_get m 0)) e

-- where the data begin and the stack ends
pub text-above : (text : List ℕ) → text_start + length text ≤ data_start text
text-above text = counted (length text)
  where
    counted : (n : ℕ) → text_start + n ≤ text_start + round_up 0x1000 n
    counted n = omega arith

-- the address of a point, however it is written
pub address-at : (places : List Places) (f point : ℕ)
    → address_in (slice_get places f) point ≡ (slice_index_or places f no_places).points point
address-at [] f point = refl
address-at (p ∷ places) ℕ.zero point = refl
address-at (p ∷ places) (ℕ.suc f) point = address-at places f point

-- ---- bytes

-- where the data are bytes, so is what may be written
pub small-is : (text : List ℕ) (low : ℕ) (bytes : List ℕ) (areas : List Area)
    → areas ≡ text_area text ∷ data_from low bytes ∷ [] → AreBytes bytes → AllByRecursion HasBytes areas
small-is text low bytes areas e small =
    subst (AllByRecursion HasBytes) (sym e) ((λ no. absurd (false≢true no)), ((λ yes. small), tt))

-- and the other way round
pub data-small : (text : List ℕ) (low : ℕ) (bytes : List ℕ) (areas : List Area)
    → areas ≡ text_area text ∷ data_from low bytes ∷ [] → AllByRecursion HasBytes areas → AreBytes bytes
data-small text low bytes areas e small = (subst (AllByRecursion HasBytes) e small).1.0 refl

-- the bytes of numbers in so many bytes each
elements-small : (width : ℕ) (zs : List ℤ)
    → AreBytes (flat_map (λ (z : ℤ). little_bytes width (cast_unsigned w32 z)) zs)
elements-small width [] = All-nil (λ byte. byte < 256)
elements-small width (z ∷ zs) =
    All-append (λ byte. byte < 256) (little_bytes width (cast_unsigned w32 z))
    (flat_map (λ (y : ℤ). little_bytes width (cast_unsigned w32 y)) zs) (bytes-small 0 width (cast_unsigned w32 z))
    (elements-small width zs)

zeros-small : (n : ℕ) → AreBytes (zeros n)
unfolding zeros
zeros-small n = All-replicate (λ byte. byte < 256) n 0 (omega arith)

-- and of objects
objects-small : (objects : List Object) → AreBytes (flat_map object_bytes objects)
objects-small [] = All-nil (λ byte. byte < 256)
objects-small (object ∷ objects) =
    All-append (λ byte. byte < 256) (object_bytes object) (flat_map object_bytes objects)
    (All-append (λ byte. byte < 256) (little_bytes 4 (length object.elements) ++ element_bytes object)
    (zeros (elements_size object - object.width * length object.elements))
    (All-append (λ byte. byte < 256) (little_bytes 4 (length object.elements)) (element_bytes object)
    (bytes-small 0 4 (length object.elements)) (elements-small object.width object.elements))
    (zeros-small (elements_size object - object.width * length object.elements))) (objects-small objects)

-- the data of an image
pub whole-small : (objects : List Object) (n : ℕ) → AreBytes (data_bytes objects ++ zeros n)
whole-small objects n =
    All-append (λ byte. byte < 256) (data_bytes objects) (zeros n)
    (All-append (λ byte. byte < 256) (zeros 4) (flat_map object_bytes objects) (zeros-small 4) (objects-small objects))
    (zeros-small n)

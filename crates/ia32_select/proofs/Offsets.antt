-- Where the frame arrays of a graph stand, one array at a time.
use Rattle.std.proofs.Common.{◌≡◌, ◌≤◌, ◌+◌, ◌-◌, ◌*◌, ℕ, zero, suc, ℤ, List, [], ◌∷◌, ◌++◌}
use Rattle.std.proofs.Common.{Some, refl, sym, ap, ◌∙◌, arith, length, take, drop, map}
use Rattle.std.specs.Prelude.{is_some, slice_get}
use Rattle.std.specs.List.{range_with_len}
use Rattle.std.proofs.Math.ListN.{drop_of_length-le}
use Rattle.std.proofs.lemmas.List.{map-append}
use Rattle.std.proofs.lemmas.List.Sums.{count_by-le-length}
use Rattle.std.proofs.lemmas.Option.{none-some, same_Some}
use Rattle.flow_graph.specs.Graphs.{Flow}
use Rattle.flow_graph.specs.Sizes.{array_bytes, most_words}
use Rattle.puzzle_board.specs.Places.{PlaceMap}
use Rattle.allocator.specs.PointMaps.{array_below, bytes_of_arrays, slot_count}
use Rattle.ia32_placements.specs.Placed.{above_arrays, arrays_in}
use Rattle.ia32_emit.specs.Locations.{distance, slots_of}
use Rattle.ia32_select.specs.Selections.{CanSelect}
use Rattle.ia32_select.specs.Room.{HasRoom}
use Rattle.ia32_select.proofs.Loops.{numbers-more, offset_of}

-- ---- how large a frame is

-- each slot is a variable's
few-slots : (places : PlaceMap) → slot_count places ≤ length places.slots
few-slots places = count_by-le-length is_some places.slots

pub frame-small : (flow : Flow) (places : PlaceMap) → CanSelect flow places
    → 8 + places.frame + 4 * most_words flow.ops ≤ 0x4000
frame-small flow places h =
    let frame = h.legal.frame.frame in
    let few = few-slots places in
    let same = h.variables in
    let small = h.small in
    omega (arith, frame, few, same, small)

pub frame-within : (flow : Flow) (places : PlaceMap) → CanSelect flow places → places.frame ≤ 0x4000
frame-within flow places h = let small = frame-small flow places h in omega (arith, small)

pub has-room : (flow : Flow) (places : PlaceMap) → CanSelect flow places → HasRoom flow
has-room flow places h =
    let small = frame-small flow places h in
    record { labels = h.labels; words = omega (arith, small) }

-- ---- arrays

-- the bytes of arrays are those of the first ones and those of the others
bytes-split : (arrays : List (ℕ × ℕ)) (k : ℕ)
    → bytes_of_arrays (take k arrays) + bytes_of_arrays (drop k arrays) ≡ bytes_of_arrays arrays
bytes-split [] zero = refl
bytes-split [] (suc k) = refl
bytes-split (a ∷ arrays) zero = omega arith
bytes-split (a ∷ arrays) (suc k) = let rest = bytes-split arrays k in omega (arith, rest)

-- those from an array on are its own and those of the others
pub bytes-from : (arrays : List (ℕ × ℕ)) (k : ℕ) (array : ℕ × ℕ) → slice_get arrays k ≡ Some array
    → bytes_of_arrays (drop k arrays) ≡ array_bytes array + bytes_of_arrays (drop (k + 1) arrays)
bytes-from [] k array e = absurd (none-some array e)
bytes-from (a ∷ arrays) zero array e =
    let same : array_bytes a ≡ array_bytes array = ap array_bytes (same_Some a array e) in
    ap (λ (n : ℕ). n + bytes_of_arrays arrays) same
bytes-from (a ∷ arrays) (suc k) array e =
    let one : suc k + 1 ≡ suc (k + 1) = omega arith in
    bytes-from arrays k array e
    ∙ ap (λ (n : ℕ). array_bytes array + bytes_of_arrays (drop n (a ∷ arrays))) (sym one)

-- The offsets of the first arrays, and how far below EBP the header of the next one is.
pub record AreOffsets (flow : Flow) (places : PlaceMap) (count header : ℕ) (offsets : List ℤ) : Type 0 where
  pub offsets_are : slots_of offsets ≡ map (array_below flow places) (range_with_len 0 count)
  pub header_is : header ≡ above_arrays places + bytes_of_arrays (drop count flow.arrays)
  pub small : header ≤ 0x4000

pub offsets-first : (flow : Flow) (places : PlaceMap) (header : ℕ) (offsets : List ℤ) → CanSelect flow places
    → header ≡ places.frame → offsets ≡ [] → AreOffsets flow places 0 header offsets
offsets-first flow places header offsets h e f =
    let small = frame-within flow places h in
    record { offsets_are = ap slots_of f; header_is = e ∙ h.legal.frame.frame; small = omega (arith, e, small) }

-- what the offset of a place below EBP is below it
below-offset : (n : ℕ) → distance (offset_of n) ≡ n
below-offset zero = refl
below-offset (suc n) = refl

pub offsets-more : (flow : Flow) (places : PlaceMap) (k header next : ℕ) (array : ℕ × ℕ) (offsets more : List ℤ)
    → CanSelect flow places → AreOffsets flow places k header offsets → slice_get flow.arrays k ≡ Some array
    → more ≡ offsets ++ offset_of (header - 4) ∷ [] → next + array_bytes array ≡ header
    → AreOffsets flow places (k + 1) next more
offsets-more flow places k header next array offsets more h so-far has e f =
    let from = bytes-from flow.arrays k array has in
    let split = bytes-split flow.arrays k in
    let frame = h.legal.frame.frame in
    let is = so-far.header_is in
    let at : header - 4 ≡ array_below flow places k = omega (arith, split, frame, is) in
    let zero-more : 0 + k ≡ k = omega arith in
    let one : suc k ≡ k + 1 = omega arith in
    record {
      offsets_are = ap slots_of e
          ∙ (map-append distance offsets (offset_of (header - 4) ∷ [])
          ∙ (ap (λ (l : List ℕ). l ++ distance (offset_of (header - 4)) ∷ []) so-far.offsets_are
          ∙ (ap (λ (n : ℕ). map (array_below flow places) (range_with_len 0 k) ++ n ∷ [])
          (below-offset (header - 4) ∙ (at ∙ ap (array_below flow places) (sym zero-more)))
          ∙ (sym (map-append (array_below flow places) (range_with_len 0 k) ((0 + k) ∷ []))
          ∙ (ap (map (array_below flow places)) (numbers-more 0 k)
          ∙ ap (λ (n : ℕ). map (array_below flow places) (range_with_len 0 n)) one)))));
      header_is = omega (arith, f, from, is);
      small = omega (arith, f, so-far.small);
    }

-- an array's bytes are within those from its header on
pub header-room : (flow : Flow) (places : PlaceMap) (k header : ℕ) (array : ℕ × ℕ) (offsets : List ℤ)
    → CanSelect flow places → AreOffsets flow places k header offsets → slice_get flow.arrays k ≡ Some array
    → (4 ≤ header) × (array_bytes array ≤ header) × (header ≤ 0x4000)
header-room flow places k header array offsets h so-far has =
    let from = bytes-from flow.arrays k array has in
    let split = bytes-split flow.arrays k in
    let frame = h.legal.frame.frame in
    let small = frame-within flow places h in
    let is = so-far.header_is in
    (omega (arith, is), omega (arith, from, is), omega (arith, split, frame, small, is))

pub offsets-last : (flow : Flow) (places : PlaceMap) (count header : ℕ) (offsets : List ℤ)
    → count ≡ length flow.arrays → AreOffsets flow places count header offsets
    → (slots_of offsets ≡ arrays_in flow places) × (header ≡ above_arrays places)
offsets-last flow places count header offsets e h =
    let past : length flow.arrays ≤ count = omega (arith, e) in
    let none : bytes_of_arrays (drop count flow.arrays) ≡ 0 = ap bytes_of_arrays (drop_of_length-le flow.arrays past) in
    let is = h.header_is in (
      h.offsets_are ∙ ap (λ (n : ℕ). map (array_below flow places) (range_with_len 0 n)) e,
      omega (arith, is, none),
    )

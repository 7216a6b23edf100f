-- Code over maps is over placements that support its graphs.
use Rattle.std.proofs.Common.{◌≡◌, ◌<◌, ◌≤◌, ◌+◌, ◌*◌, ◌^◌, ℕ, zero, suc, List, [], ◌∷◌, length, map, Some}
use Rattle.std.proofs.Common.{inl, inr, refl, sym, ap, ◌∙◌, subst, arith}
use Rattle.std.specs.Prelude.{◌⊎◌, is_some, slice_get, slice_index_or}
use Rattle.std.specs.List.{All}
use Rattle.std.proofs.lemmas.List.Elements.{All-cons, All-head, All-nil, All-tail}
use Rattle.std.proofs.lemmas.List.Sums.{count_by-le-length}
use Rattle.pcc_base.specs.Objects.{IsObject, Object}
use Rattle.flow_graph.specs.Graphs.{Flow, empty_flow}
use Rattle.flow_graph.specs.Sizes.{most_words}
use Rattle.flow_graph.specs.States.{flow_at}
use Rattle.flow_graph.specs.WellFormed.{IsGraphProgram}
use Rattle.flow_graph.proofs.Lists.{All-at}
use Rattle.puzzle_board.specs.Places.{PlaceMap}
use Rattle.allocator.specs.PointMaps.{FrameUse, bytes_of_arrays, slot_count}
use Rattle.elf_link.specs.Parts.{objects_size}
use Rattle.elf_link.proofs.DataSize.{length-data}
use Rattle.ia32_insn.specs.Items.{data_bytes, elements_size, round_up, text_start}
use Rattle.ia32_laws.specs.Supports.{IsSupported, Supports}
use Rattle.ia32_rows.specs.Placements.{Code, Placement, objects_of, placement_of}
use Rattle.ia32_rows.specs.Rows.{selected}
use Rattle.pcc_program.specs.Code.{HasFrame, HaveFrames, IsCodeOverMaps, IsOverMap}
use Rattle.pcc_program.specs.CodeLaws.{MappedIsSelected}

-- the graph of a function that is there
graph-there : (flows : List Flow) (f : ℕ) → f < length flows
    → slice_get flows f ≡ Some (slice_index_or flows f empty_flow)
graph-there [] f below = absurd (omega (arith, below))
graph-there (flow ∷ flows) zero below = refl
graph-there (flow ∷ flows) (suc f) below = graph-there flows f (omega (arith, below))

-- the frame of a map is at most that in which each variable has a slot
pub frame-most : (flow : Flow) (places : PlaceMap) → FrameUse flow places → length places.slots ≡ length flow.widths
    → places.frame ≤ 16 + 4 * length flow.widths + bytes_of_arrays flow.arrays
frame-most flow places used many =
    by places.frame (slot_count places) (length places.slots) (length flow.widths) (bytes_of_arrays flow.arrays)
    used.frame (count_by-le-length is_some places.slots) many
  where
    by : (frame slots most widths bytes : ℕ) → frame ≡ 16 + 4 * slots + bytes → slots ≤ most → most ≡ widths
        → frame ≤ 16 + 4 * widths + bytes
    by frame slots most widths bytes is few same = omega arith

-- ---- objects

-- an object has no more elements than its bytes
few-elements : (object : Object) (n : ℕ) → IsObject object
    → elements_size (record { width = object.width; elements = object.elements }) ≤ n → length object.elements ≤ n
few-elements object n is size = by object.width is.width size
  where
    by : (width : ℕ) → (width ≡ 1) ⊎ (width ≡ 2) ⊎ (width ≡ 4) → round_up 4 (width * length object.elements) ≤ n
        → length object.elements ≤ n
    by width (inl one) h =
        let same : round_up 4 (1 * length object.elements) ≤ n =
        subst (λ (w : ℕ). round_up 4 (w * length object.elements) ≤ n) one h in omega (arith, same)
    by width (inr (inl two)) h =
        let same : round_up 4 (2 * length object.elements) ≤ n =
        subst (λ (w : ℕ). round_up 4 (w * length object.elements) ≤ n) two h in omega (arith, same)
    by width (inr (inr four)) h =
        let same : round_up 4 (4 * length object.elements) ≤ n =
        subst (λ (w : ℕ). round_up 4 (w * length object.elements) ≤ n) four h in omega (arith, same)

all-few : (objects : List Object) → All IsObject objects
    → objects_size (map (λ (o : Object). record { width = o.width; elements = o.elements }) objects) ≤ 0x01000000
    → All (λ (o : Object). length o.elements ≤ 0x80000000) objects
all-few [] is size = All-nil (λ (o : Object). length o.elements ≤ 0x80000000)
all-few (o ∷ objects) is size =
    let here = few-elements o 0x01000000 (All-head IsObject o objects is) (omega (arith, size)) in
    All-cons (λ (o : Object). length o.elements ≤ 0x80000000) o objects (omega (arith, here))
    (all-few objects (All-tail IsObject o objects is) (omega (arith, size)))

-- ---- addresses

end-fits : (n m : ℕ) → n < 2 ^ 30 + 0x400 → m ≤ 0x01000004
    → text_start + round_up 0x1000 n + (round_up 4 m + 0x04001000) < 0x1_0000_0000
end-fits n m h k = omega (arith, h, k)

-- ---- the whole code

module _ (code : Code) (is : IsGraphProgram code.program) (frames : HaveFrames code.program)
    (mapped : IsCodeOverMaps code) where
  has-frame : (f : ℕ) → f < length code.program.functions
      → HasFrame (length code.program.functions) (length code.program.objects) (flow_at code.program f)
  has-frame f below =
      All-at (HasFrame (length code.program.functions) (length code.program.objects)) code.program.functions f
      (flow_at code.program f) frames.each (graph-there code.program.functions f below)

  over : (f : ℕ) → f < length code.program.functions
      → IsOverMap (flow_at code.program f) (placement_of code f) (slice_get code.items f)
  over f below = mapped.each f (flow_at code.program f) (graph-there code.program.functions f below)

  call-bytes : (f : ℕ) → f < length code.program.functions
      → 8 + (placement_of code f).frame + 4 * most_words (flow_at code.program f).ops ≤ 0x4000
  call-bytes f below =
      let flow = flow_at code.program f in
      let at = over f below in
      by at.places.frame (length flow.widths) (most_words flow.ops) (bytes_of_arrays flow.arrays)
      (placement_of code f).frame (frame-most flow at.places at.frame at.variables) (has-frame f below).small
      (ap (λ (p : Placement). p.frame) at.placement_is)
    where
      by : (frame widths words bytes own : ℕ) → frame ≤ 16 + 4 * widths + bytes
          → 24 + 4 * widths + 4 * words + bytes ≤ 0x4000 → own ≡ frame → 8 + own + 4 * words ≤ 0x4000
      by frame widths words bytes own most small same = omega arith

  is-supported : IsSupported code
  is-supported =
      record {
        is_code = mapped.laid;
        program = is;
        supports = λ f below.
            (let at = over f below in
            subst (λ (p : Placement). Supports (flow_at code.program f) p) (sym at.placement_is) at.supports);
        bytes = λ f below. call-bytes f below;
        fits = end-fits (length code.text) (length (data_bytes (objects_of code.program))) mapped.fits
            (omega (arith, length-data (objects_of code.program), mapped.held));
        few = all-few code.program.objects is.objects mapped.held;
      }

pub mapped-is-selected : MappedIsSelected
mapped-is-selected code is frames mapped =
    record {
      supported = is-supported code is frames mapped;
      items = λ f below.
          (let at = over code is frames mapped f below in
          at.items_are ∙ ap (λ (p : Placement). Some (selected (flow_at code.program f) p)) (sym at.placement_is));
    }

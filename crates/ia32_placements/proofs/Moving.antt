-- Few variables stand in registers, and few move from a point of a legal map to the next.
use Rattle.std.proofs.Common.{◌≡◌, ◌≢◌, ◌⊎◌, ℕ, ℤ, Bool, List, Option, Some, inl, inr, sym, ap}
use Rattle.std.proofs.Common.{subst, ◌∙◌}
use Rattle.std.specs.Prelude.{slice_get}
use Rattle.std.proofs.lemmas.Option.{same_Some}
use Rattle.pcc_base.proofs.Lists.{all-weaker}
use Rattle.ia32_insn.specs.Places.{Place, InWord, InByte, InSlot}
use Rattle.flow_graph.specs.declared.op.Op.{Op}
use Rattle.flow_graph.specs.Graphs.{Flow, IsFlow, IsPlaced}
use Rattle.flow_graph.specs.Liveness.{IsSuccessor}
use Rattle.flow_liveness.proofs.Placed.{fitting}
use Rattle.puzzle_board.specs.declared.piece.Columns.{Columns}
use Rattle.puzzle_board.specs.declared.piece.Columns.TheVariants.{Low, High, All}
use Rattle.puzzle_board.specs.declared.piece.Kind.{Kind}
use Rattle.puzzle_board.specs.declared.place.Place.{Place as BoardPlace}
use Rattle.puzzle_board.specs.Places.{PlaceMap}
use Rattle.allocator.specs.PointBoards.{Fixed}
use Rattle.allocator.specs.PointMaps.{IsLegalMap, place_after, place_before, slot_of}
use Rattle.ia32_rows.specs.Rows.{AreApart}
use Rattle.ia32_laws.specs.Supports.{SupportsPoint}
use Rattle.ia32_placements.specs.Laws.{InRegister, IsMoved, IsRegister, IsSlotOf, MovesAreFew, RegistersAreFew}
use Rattle.ia32_placements.specs.Laws.{SlotsAreOwn}
use Rattle.ia32_placements.specs.Placed.{no_moves, placement_in}
use Rattle.ia32_placements.specs.Standings.{slot_at, standing_after, standing_before, standing_of}
use Rattle.ia32_placements.proofs.Edges.{next-placed}
use Rattle.ia32_placements.proofs.Frames.{slots-apart}
use Rattle.ia32_placements.proofs.Few.{few-on-either, few-registers}
use Rattle.ia32_placements.proofs.Sides.{StandsOn, after-stands, before-stands}
use Rattle.ia32_placements.proofs.Spots.{IsAt, is-at, number_of}
use Rattle.ia32_placements.proofs.Supported.{stood, supports-point}

-- columns of an area are no slot
no-slot : (n : ℕ) (c : Columns) (slot : ℕ) → IsAt n c (InSlot slot) → ⊥
no-slot n Low slot (r, e, f) = subst IsRegister f tt
no-slot n High slot (r, e, f) = subst IsRegister f tt
no-slot n All slot (r, e, general, f) = subst IsRegister f tt

-- a slot that a variable stands in is the variable's own
own-slot : (flow : Flow) (places : PlaceMap) (legal : IsLegalMap flow places) (point : ℕ) (op : Op)
    (side : Kind → Bool) (fixed : Option Fixed) (v : ℕ) (place : BoardPlace) (slot : ℕ)
    → StandsOn flow legal.lives places point op side fixed v place → standing_of place ≡ Some (InSlot slot)
    → (offset : ℤ) × (slot_of places v ≡ Some offset) × (slot_at offset ≡ Some (InSlot slot))
own-slot flow places legal point op side fixed v place slot (inl (f, e, same, cells)) stands =
    absurd (no-slot (number_of f.spot.area) f.spot.columns slot
    (is-at f.spot.area f.spot.columns (InSlot slot) (ap standing_of cells ∙ stands)))
own-slot flow places legal point op side fixed v place slot (inr (inl (offset, is, same))) stands =
    (offset, is, ap standing_of same ∙ stands)
own-slot flow places legal point op side fixed v place slot (inr (inr (k, s, e, on, var, wide, cells))) stands =
    absurd (no-slot (number_of s.spot.area) s.spot.columns slot
    (is-at s.spot.area s.spot.columns (InSlot slot) (ap standing_of cells ∙ stands)))

module _
    (flow : Flow) (homes : List ℕ) (places : PlaceMap) (is : IsFlow flow homes) (legal : IsLegalMap flow places) where
  -- a point of a block has an op, and what its code asks for
  point-has : (point : ℕ) → IsPlaced flow point
      → (op : Op) × (slice_get flow.ops point ≡ Some op)
      × SupportsPoint flow (placement_in flow places no_moves) point op
  point-has point (block, stands) =
      let (op, has, fits) = fitting flow homes is point block stands in
      (op, has, supports-point flow homes places no_moves point op is legal (block, stands) has)

  -- the slot of a variable is one before every point and after it
  before-slot : (point v slot : ℕ) → IsPlaced flow point → standing_before places point v ≡ Some (InSlot slot)
      → (offset : ℤ) × (slot_of places v ≡ Some offset) × (slot_at offset ≡ Some (InSlot slot))
  before-slot point v slot placed e =
      let (op, has, supports) = point-has point placed in
      let (place, (at, stands)) = stood (place_before places point v) (InSlot slot) e in
      own-slot flow places legal point op _ _ v place slot
      (before-stands flow legal.lives places point op (legal.points point op placed has) v place at) stands

  after-slot : (point v slot : ℕ) → IsPlaced flow point → standing_after places point v ≡ Some (InSlot slot)
      → (offset : ℤ) × (slot_of places v ≡ Some offset) × (slot_at offset ≡ Some (InSlot slot))
  after-slot point v slot placed e =
      let (op, has, supports) = point-has point placed in
      let (place, (at, stands)) = stood (place_after places point v) (InSlot slot) e in
      own-slot flow places legal point op _ _ v place slot
      (after-stands flow legal.lives places point op legal.live (legal.dies point op placed has) has
      (legal.points point op placed has) v place at) stands

  -- what moves stands in a register on one side
  moved-registers : (point next v : ℕ) → IsSuccessor flow point next → IsMoved places point next v
      → InRegister (standing_after places point) v ⊎ InRegister (standing_before places next) v
  moved-registers point next v leads (old, new, e, f, other) = by old new e f other
    where
      by : (old new : Place) → standing_after places point v ≡ Some old → standing_before places next v ≡ Some new
          → old ≢ new → InRegister (standing_after places point) v ⊎ InRegister (standing_before places next) v
      by (InWord r) new e f other = inl (InWord r, e, tt)
      by (InByte r) new e f other = inl (InByte r, e, tt)
      by (InSlot slot) (InWord r) e f other = inr (InWord r, f, tt)
      by (InSlot slot) (InByte r) e f other = inr (InByte r, f, tt)
      by (InSlot slot) (InSlot further) e f other =
          let (offset, is-own, at) = after-slot point v slot leads.0 e in
          let (second, also-own, there) =
          before-slot next v further (next-placed flow homes places is legal point next leads) f in
          absurd (other (same_Some (InSlot slot) (InSlot further) (sym at
          ∙ (ap slot_at (same_Some offset second (sym is-own ∙ also-own)) ∙ there))))

-- the distance of a slot
below-ebp : Place → ℕ
below-ebp (InWord r) = 0
below-ebp (InByte r) = 0
below-ebp (InSlot slot) = slot

one-slot : (slot other : ℕ) → InSlot slot ≡ InSlot other → slot ≡ other
unfolding below-ebp
one-slot slot other e = ap below-ebp e

pub slots-are-own : SlotsAreOwn
slots-are-own flow homes places is legal = (
  λ v slot other here there.
      let (offset, own, at) = own-offset v slot here in
      let (second, also, further) = own-offset v other there in
      one-slot slot other (same_Some (InSlot slot) (InSlot other)
      (sym at ∙ (ap slot_at (same_Some offset second (sym own ∙ also)) ∙ further))),
  λ v w slot other distinct here there.
      let (offset, own, at) = own-offset v slot here in
      let (second, also, further) = own-offset w other there in
      let (m, n, first, last, apart) = slots-apart flow places legal.frame v w offset second (InSlot slot)
      (InSlot other) distinct own also at further in
      subst (λ (k : ℕ). AreApart k other) (one-slot m slot first)
      (subst (λ (k : ℕ). AreApart m k) (one-slot n other last) apart),
)
  where
    own-offset : (v slot : ℕ) → IsSlotOf flow places v slot
        → (offset : ℤ) × (slot_of places v ≡ Some offset) × (slot_at offset ≡ Some (InSlot slot))
    own-offset v slot (point, placed, inl e) = before-slot flow homes places is legal point v slot placed e
    own-offset v slot (point, placed, inr e) = after-slot flow homes places is legal point v slot placed e

pub registers-are-few : RegistersAreFew
registers-are-few flow homes places point vs is legal placed distinct =
    let (op, has, supports) = point-has flow homes places is legal point placed in (
      few-registers places.frame (standing_before places point) (λ v p e. (supports.before v p e).inside)
          supports.before_apart vs distinct,
      few-registers places.frame (standing_after places point) (λ v p e. (supports.after v p e).inside)
          supports.after_apart vs distinct,
    )

pub moves-are-few : MovesAreFew
moves-are-few flow homes places point next vs is legal leads distinct all =
    let (op, has, supports) = point-has flow homes places is legal point leads.0 in
    let (last, also, further) = point-has flow homes places is legal next
    (next-placed flow homes places is legal point next leads) in
    few-on-either places.frame (standing_after places point) (standing_before places next)
    (λ v p e. (supports.after v p e).inside) supports.after_apart (λ v p e. (further.before v p e).inside)
    further.before_apart vs distinct
    (all-weaker (IsMoved places point next)
    (λ v. InRegister (standing_after places point) v ⊎ InRegister (standing_before places next) v) vs
    (λ v h. moved-registers flow homes places is legal point next v leads h) all)

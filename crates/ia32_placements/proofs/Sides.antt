-- Where the variables on each side of a point of a legal map stand: in a fixed register, in a slot, or on the board.
use Rattle.std.proofs.Common.{◌≡◌, ◌≢◌, ◌⊎◌, ℕ, ℤ, Bool, true, false, true≢false, ◌&&◌, cond, List, Option, Some, None}
use Rattle.std.proofs.Common.{inl, inr, refl, sym, ap, subst, ◌∙◌}
use Rattle.std.specs.Prelude.{◌==◌, slice_get}
use Rattle.std.proofs.lemmas.Bool.{and_parts, eqb-true}
use Rattle.std.proofs.lemmas.Option.{none-some, same_Some, slice_get_within}
use Rattle.flow_graph.specs.declared.op.Op.{Op}
use Rattle.flow_graph.specs.Graphs.{Flow, IsIn, has_point}
use Rattle.flow_graph.specs.Liveness.{FixedDies, IsDefinedAt, IsLiveAfter, defined}
use Rattle.flow_graph.specs.Lives.{AreLive, Lives, at_point}
use Rattle.flow_graph.proofs.LivePaths.{live_step}
use Rattle.flow_liveness.specs.Names.{is_named}
use Rattle.flow_liveness.proofs.Naming.{in-test, test-in}
use Rattle.puzzle_board.specs.declared.piece.Columns.{Columns}
use Rattle.puzzle_board.specs.declared.piece.Columns.TheVariants.{Low, High, All}
use Rattle.puzzle_board.specs.declared.piece.Kind.{Kind}
use Rattle.puzzle_board.specs.declared.piece.Kind.TheVariants.{X, Y, Z}
use Rattle.puzzle_board.specs.declared.piece.Piece.{Piece}
use Rattle.puzzle_board.specs.declared.piece.Spot.{Spot}
use Rattle.puzzle_board.specs.declared.place.Place.{Place}
use Rattle.puzzle_board.specs.declared.place.Place.TheVariants.{Cells, Slot}
use Rattle.puzzle_board.specs.Placements.{Standing}
use Rattle.puzzle_board.specs.Places.{PlaceMap, entries_at, spilled_at}
use Rattle.allocator.specs.PointBoards.{Fixed, fixed_result, fixed_use, fixed_variable, piece_of, point_pieces}
use Rattle.allocator.specs.PointBoards.{use_kind, width_at, with_result}
use Rattle.allocator.specs.PointMaps.{InSlot, IsLegalPoint, both_cells, cells_of, place_after, place_before}
use Rattle.allocator.specs.PointMaps.{same_columns, same_spot, slot_of, spot_on, standings_of, unspilled}
use Rattle.allocator.specs.Sides.{is_lower, is_upper}
use Rattle.allocator.proofs.Fixing.{fixed-dies}
use Rattle.allocator.proofs.Members.{in-with-result, made-there, named-some, result-in, some-named, use-there}
use Rattle.allocator.proofs.Putting.{name-placed, placed-name}
use Rattle.ia32_placements.proofs.Boards.{each-stands, unspilled-has}
use Rattle.allocator.proofs.Points.{use-upper, two-tests, fixed-of}

-- ---- cells

-- the place has the cells that are read of it
pub in-cells : (o : Option Place) (spot : Spot) → cells_of o ≡ Some spot → o ≡ Some (Cells spot)
in-cells None spot e = absurd (none-some spot e)
in-cells (Some (Cells s)) spot e = ap (λ (x : Spot). Some (Cells x)) (same_Some s spot e)
in-cells (Some (Slot offset)) spot e = absurd (none-some spot e)

same-columns : (c d : Columns) → same_columns c d ≡ true → c ≡ d
same-columns Low Low e = refl
same-columns Low High e = absurd (true≢false (sym e))
same-columns Low All e = absurd (true≢false (sym e))
same-columns High Low e = absurd (true≢false (sym e))
same-columns High High e = refl
same-columns High All e = absurd (true≢false (sym e))
same-columns All Low e = absurd (true≢false (sym e))
same-columns All High e = absurd (true≢false (sym e))
same-columns All All e = refl

same-spots : (s t : Spot) → same_spot s t ≡ true → s ≡ t
same-spots s t e =
    let (area, columns) = and_parts (s.area == t.area) (same_columns s.columns t.columns) e in
    joined s.area t.area s.columns t.columns (eqb-true s.area t.area area) (same-columns s.columns t.columns columns)
  where
    joined : (a b : ℕ) (c d : Columns) → a ≡ b → c ≡ d
        → (let one : Spot = record { area = a; columns = c } in one)
        ≡ (let two : Spot = record { area = b; columns = d } in two)
    joined a b c d e f =
        subst (λ (x : ℕ). (let one : Spot = record { area = a; columns = c } in one)
        ≡ (let two : Spot = record { area = x; columns = d } in two)) e
        (ap (λ (x : Columns). let one : Spot = record { area = a; columns = x } in one) f)

-- cells that are the same on both sides are those of each
both-sides : (o p : Option Spot) (spot : Spot) → both_cells o p ≡ Some spot → (o ≡ Some spot) × (p ≡ Some spot)
both-sides None p spot e = absurd (none-some spot e)
both-sides (Some s) None spot e = absurd (none-some spot e)
both-sides (Some s) (Some t) spot e = by (same_spot s t) refl e
  where
    by : (b : Bool) → same_spot s t ≡ b → cond b (Some s) None ≡ Some spot → (Some s ≡ Some spot) × (Some t ≡ Some spot)
    by true same e = (e, ap Some (sym (same-spots s t same)) ∙ e)
    by false same e = absurd (none-some spot e)

-- ---- one side

-- what lives through is a Y
lives-through : (a d : Bool) → a ≡ true → d ≡ false → use_kind a d ≡ Y
lives-through true false e f = refl
lives-through true true e f = absurd (true≢false f)
lives-through false d e f = absurd (true≢false (sym e))

module _ (flow : Flow) (lives : Lives) (places : PlaceMap) (point : ℕ) (op : Op) where
  abbrev pieces : List Piece
  pieces = point_pieces flow lives point op

  abbrev shown : List Piece
  shown = unspilled (spilled_at places point) pieces

  abbrev pub standings : List Standing
  standings = standings_of places point shown

  -- a piece stands on the board, with the cells of the place
  abbrev pub OnBoard : (Kind → Bool) → ℕ → Place → Type 0
  OnBoard side v place =
      (k : ℕ) × (s : Standing) × (slice_get standings k ≡ Some s) × (side s.piece.kind ≡ true) × (s.piece.var ≡ v)
      × (s.piece.width ≡ width_at flow v) × (Cells s.spot ≡ place)

  -- the variable's own slot
  abbrev pub OnSlot : ℕ → Place → Type 0
  OnSlot v place = (offset : ℤ) × (slot_of places v ≡ Some offset) × (Slot offset ≡ place)

  abbrev pub IsFixed : Option Fixed → ℕ → Place → Type 0
  IsFixed fixed v place = (f : Fixed) × (fixed ≡ Some f) × (f.variable ≡ v) × (Cells f.spot ≡ place)

  abbrev pub StandsOn : (Kind → Bool) → Option Fixed → ℕ → Place → Type 0
  StandsOn side fixed v place = IsFixed fixed v place ⊎ OnSlot v place ⊎ OnBoard side v place

  -- a piece of one side stands in the slot of its variable, or on the board
  piece-stands :
      IsLegalPoint flow lives places point op → (side : Kind → Bool) (fixed : Option Fixed) (v : ℕ) (kind : Kind)
      (place : Place) (k : ℕ) → slice_get pieces k ≡ Some (piece_of flow kind v) → side kind ≡ true
      → ((spot : Spot) → spot_on places point kind v ≡ Some spot → Cells spot ≡ place)
      → ((offset : ℤ) → InSlot places point offset kind v → Slot offset ≡ place) → StandsOn side fixed v place
  piece-stands legal side fixed v kind place k e on at-spot at-slot =
      by (two-tests (has_point v (spilled_at places point)))
    where
      by : (has_point v (spilled_at places point) ≡ true) ⊎ (has_point v (spilled_at places point) ≡ false)
          → StandsOn side fixed v place
      by (inl spilled) =
          let (offset, slot, there) = legal.spilled k (piece_of flow kind v) e
          (test-in v (spilled_at places point) spilled) in
          inr (inl (offset, slot, at-slot offset there))
      by (inr free) =
          let (j, f) = unspilled-has (spilled_at places point) pieces k (piece_of flow kind v) e free in
          let (i, spot, at, stands) = each-stands places point shown legal.placed.each j (piece_of flow kind v) f in
          inr (inr (
            i,
            record { piece = piece_of flow kind v; spot = spot },
            stands,
            on,
            refl,
            refl,
            at-spot spot at,
          ))

  -- ---- before

  upper-spot : (v : ℕ) (kind : Kind) (spot : Spot) → is_upper kind ≡ true → spot_on places point kind v ≡ Some spot
      → place_before places point v ≡ Some (Cells spot)
  upper-spot v X spot up e = in-cells (place_before places point v) spot e
  upper-spot v Y spot up e =
      in-cells (place_before places point v) spot
      (both-sides (cells_of (place_before places point v)) (cells_of (place_after places point v)) spot e).0
  upper-spot v Z spot up e = absurd (true≢false (sym up))

  upper-slot : (v : ℕ) (kind : Kind) (offset : ℤ) → is_upper kind ≡ true → InSlot places point offset kind v
      → place_before places point v ≡ Some (Slot offset)
  upper-slot v X offset up e = e
  upper-slot v Y offset up e = e.0
  upper-slot v Z offset up e = absurd (true≢false (sym up))

  -- what has a place before the point is live there
  pub before-live : IsLegalPoint flow lives places point op → (v : ℕ) (place : Place)
      → place_before places point v ≡ Some place → IsIn v (at_point lives.before point)
  before-live legal v place e =
      subst (IsIn v) legal.lists_before (placed-name (entries_at places.before point) v place e)

  -- and the other way round
  pub live-before : IsLegalPoint flow lives places point op → (v : ℕ) → IsIn v (at_point lives.before point)
      → (place : Place) × (place_before places point v ≡ Some place)
  live-before legal v i = name-placed (entries_at places.before point) v (subst (IsIn v) (sym legal.lists_before) i)

  pub before-stands : IsLegalPoint flow lives places point op → (v : ℕ) (place : Place)
      → place_before places point v ≡ Some place → StandsOn is_upper (fixed_use op) v place
  before-stands legal v place e = by (two-tests (is_named (fixed_variable (fixed_use op)) v))
    where
      by : (is_named (fixed_variable (fixed_use op)) v ≡ true) ⊎ (is_named (fixed_variable (fixed_use op)) v ≡ false)
          → StandsOn is_upper (fixed_use op) v place
      by (inl fixed) =
          let (f, is, same) = fixed-of (fixed_use op) v fixed in
          let at = subst (λ (w : ℕ). place_before places point w ≡ Some (Cells f.spot)) same (legal.operand f is) in
          inl (f, is, same, same_Some (Cells f.spot) place (sym at ∙ e))
      by (inr free) =
          let up = use-upper (has_point v (at_point lives.after point)) (is_named (defined op) v) in
          let (k, there) = use-there flow lives point op v (before-live legal v place e) free in
          piece-stands legal is_upper (fixed_use op) v
          (use_kind (has_point v (at_point lives.after point)) (is_named (defined op) v)) place k there up
          (λ spot on. same_Some (Cells spot) place (sym (upper-spot v _ spot up on) ∙ e))
          (λ offset on. same_Some (Slot offset) place (sym (upper-slot v _ offset up on) ∙ e))

  -- ---- after

  lower-spot : (v : ℕ) (kind : Kind) (spot : Spot) → is_lower kind ≡ true → spot_on places point kind v ≡ Some spot
      → place_after places point v ≡ Some (Cells spot)
  lower-spot v X spot low e = absurd (true≢false (sym low))
  lower-spot v Y spot low e =
      in-cells (place_after places point v) spot
      (both-sides (cells_of (place_before places point v)) (cells_of (place_after places point v)) spot e).1
  lower-spot v Z spot low e = in-cells (place_after places point v) spot e

  lower-slot : (v : ℕ) (kind : Kind) (offset : ℤ) → is_lower kind ≡ true → InSlot places point offset kind v
      → place_after places point v ≡ Some (Slot offset)
  lower-slot v X offset low e = absurd (true≢false (sym low))
  lower-slot v Y offset low e = e.1
  lower-slot v Z offset low e = e

  -- what has a place after the point is defined there, or live after it
  pub after-live : IsLegalPoint flow lives places point op → (v : ℕ) (place : Place)
      → place_after places point v ≡ Some place → (defined op ≡ Some v) ⊎ IsIn v (at_point lives.after point)
  after-live legal v place e =
      elim (result-in (defined op) (at_point lives.after point) v
      (subst (IsIn v) legal.lists_after (placed-name (entries_at places.after point) v place e))) [
        | inl d ↦ inl (named-some (defined op) v d)
        | inr i ↦ inr i
      ]

  pub live-after : IsLegalPoint flow lives places point op → (v : ℕ)
      → (defined op ≡ Some v) ⊎ IsIn v (at_point lives.after point)
      → (place : Place) × (place_after places point v ≡ Some place)
  live-after legal v h =
      name-placed (entries_at places.after point) v (subst (IsIn v) (sym legal.lists_after) (listed h))
    where
      listed : (defined op ≡ Some v) ⊎ IsIn v (at_point lives.after point)
          → IsIn v (with_result (defined op) (at_point lives.after point))
      listed (inl d) = in-with-result (defined op) (at_point lives.after point) v (inl (some-named (defined op) v d))
      listed (inr i) = in-with-result (defined op) (at_point lives.after point) v (inr i)

  -- what lives through has a piece, a Y
  through-there :
      AreLive flow lives → FixedDies flow point op → slice_get flow.ops point ≡ Some op → (v : ℕ)
      → defined op ≢ Some v → IsIn v (at_point lives.after point)
      → (k : ℕ) × (slice_get pieces k ≡ Some (piece_of flow Y v))
  through-there live dies has v other i =
      let within = slice_get_within flow.ops point op has in
      let after : IsLiveAfter flow v point = (live.after point v within).0 i in
      let not-here : IsDefinedAt flow v point → ⊥ =
      λ d. other (ap defined (same_Some op d.0 (sym has ∙ d.1)) ∙ d.2) in
      let before = (live.before point v within).1 ((live_step flow v point).1 (inr (not-here, after))) in
      let (k, there) = use-there flow lives point op v before (free after) in (
        k,
        subst (λ (kind : Kind). slice_get pieces k ≡ Some (piece_of flow kind v))
            (lives-through _ _ (in-test v (at_point lives.after point) i) not-named) there,
      )
    where
      free : IsLiveAfter flow v point → is_named (fixed_variable (fixed_use op)) v ≡ false
      free after = by (two-tests (is_named (fixed_variable (fixed_use op)) v))
        where
          by : (is_named (fixed_variable (fixed_use op)) v ≡ true)
              ⊎ (is_named (fixed_variable (fixed_use op)) v ≡ false)
              → is_named (fixed_variable (fixed_use op)) v ≡ false
          by (inl fixed) =
              let (f, is, same) = fixed-of (fixed_use op) v fixed in
              absurd (fixed-dies flow point op f dies is
              (subst (λ (w : ℕ). IsLiveAfter flow w point) (sym same) after))
          by (inr e) = e

      not-named : is_named (defined op) v ≡ false
      not-named = by (two-tests (is_named (defined op) v))
        where
          by : (is_named (defined op) v ≡ true) ⊎ (is_named (defined op) v ≡ false) → is_named (defined op) v ≡ false
          by (inl d) = absurd (other (named-some (defined op) v d))
          by (inr e) = e

  pub after-stands :
      AreLive flow lives → FixedDies flow point op → slice_get flow.ops point ≡ Some op
      → IsLegalPoint flow lives places point op → (v : ℕ) (place : Place)
      → place_after places point v ≡ Some place → StandsOn is_lower (fixed_result op) v place
  after-stands live dies has legal v place e =
      by (two-tests (is_named (defined op) v)) (two-tests (is_named (fixed_variable (fixed_result op)) v))
    where
      stands : (kind : Kind) (k : ℕ) → is_lower kind ≡ true → slice_get pieces k ≡ Some (piece_of flow kind v)
          → StandsOn is_lower (fixed_result op) v place
      stands kind k low there =
          piece-stands legal is_lower (fixed_result op) v kind place k there low
          (λ spot on. same_Some (Cells spot) place (sym (lower-spot v kind spot low on) ∙ e))
          (λ offset on. same_Some (Slot offset) place (sym (lower-slot v kind offset low on) ∙ e))

      by : (is_named (defined op) v ≡ true) ⊎ (is_named (defined op) v ≡ false)
          → (is_named (fixed_variable (fixed_result op)) v ≡ true)
          ⊎ (is_named (fixed_variable (fixed_result op)) v ≡ false)
          → StandsOn is_lower (fixed_result op) v place
      by d (inl fixed) =
          let (f, is, same) = fixed-of (fixed_result op) v fixed in
          let at = subst (λ (w : ℕ). place_after places point w ≡ Some (Cells f.spot)) same (legal.result f is) in
          inl (f, is, same, same_Some (Cells f.spot) place (sym at ∙ e))
      by (inl d) (inr free) =
          let (k, there) = made-there flow lives point op v d free in stands Z k refl there
      by (inr not) (inr free) =
          elim (after-live legal v place e) [
            | inl d ↦ absurd (true≢false (sym (some-named (defined op) v d) ∙ not))
            | inr i ↦ (let (k, there) = through-there live dies has v
                (λ d. true≢false (sym (some-named (defined op) v d) ∙ not)) i in
                stands Y k refl there)
          ]

  -- ---- through

  -- what lives through stands at one place before and after, in its slot or on the board
  pub through-stays :
      AreLive flow lives → FixedDies flow point op → slice_get flow.ops point ≡ Some op
      → IsLegalPoint flow lives places point op → (v : ℕ) (place : Place) → defined op ≢ Some v
      → place_after places point v ≡ Some place
      → (place_before places point v ≡ Some place)
      × (OnSlot v place ⊎ OnBoard (λ kind. is_lower kind && is_upper kind) v place)
  through-stays live dies has legal v place other e =
      elim (after-live legal v place e) [
        | inl d ↦ absurd (other d)
        | inr i ↦ (let (k, there) = through-there live dies has v other i in
            by (piece-stands legal (λ kind. is_lower kind && is_upper kind) None v Y place k there refl
            (λ spot on. same_Some (Cells spot) place (sym (lower-spot v Y spot refl on) ∙ e))
            (λ offset on. same_Some (Slot offset) place (sym (lower-slot v Y offset refl on) ∙ e))) k there)
      ]
    where
      here : (k : ℕ) → slice_get pieces k ≡ Some (piece_of flow Y v) → place_before places point v ≡ Some place
      here k there = got (two-tests (has_point v (spilled_at places point)))
        where
          got : (has_point v (spilled_at places point) ≡ true) ⊎ (has_point v (spilled_at places point) ≡ false)
              → place_before places point v ≡ Some place
          got (inl spilled) =
              let (offset, slot, stands) = legal.spilled k (piece_of flow Y v) there
              (test-in v (spilled_at places point) spilled) in
              stands.0 ∙ (sym stands.1 ∙ e)
          got (inr free) =
              let (j, f) = unspilled-has (spilled_at places point) pieces k (piece_of flow Y v) there free in
              let (i, spot, on, stands) = each-stands places point shown legal.placed.each j (piece_of flow Y v) f in
              upper-spot v Y spot refl on ∙ (sym (lower-spot v Y spot refl on) ∙ e)

      by : StandsOn (λ kind. is_lower kind && is_upper kind) None v place → (k : ℕ)
          → slice_get pieces k ≡ Some (piece_of flow Y v)
          → (place_before places point v ≡ Some place)
          × (OnSlot v place ⊎ OnBoard (λ kind. is_lower kind && is_upper kind) v place)
      by (inl (f, is, same, at)) k there = absurd (none-some f is)
      by (inr (inl slot)) k there = (here k there, inl slot)
      by (inr (inr board)) k there = (here k there, inr board)

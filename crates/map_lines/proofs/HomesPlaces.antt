-- Where variables stand before and after a point of a legal map: they ascend, each in a place of its width.
use Rattle.std.proofs.Common.{◌≡◌, ◌<◌, ◌≤◌, ℕ, zero, suc, ℤ, pos, negsuc, Bool, cond, List, [], ◌∷◌, map, Option, Some}
use Rattle.std.proofs.Common.{None, refl, sym, ap, ◌∙◌, subst, arith}
use Rattle.std.specs.Prelude.{option_map, slice_get}
use Rattle.std.specs.List.{AllByRecursion}
use Rattle.std.proofs.lemmas.Bool.{eq-eqb, ne_eqb}
use Rattle.std.proofs.lemmas.List.Elements.{All-from_recursion}
use Rattle.std.proofs.lemmas.Option.{none-some, same_Some}
use Rattle.pcc_base.specs.declared.run.Width.{Width}
use Rattle.pcc_base.specs.declared.run.Width.TheVariants.{One, Two}
use Rattle.flow_graph.specs.declared.op.Op.{Op}
use Rattle.flow_graph.specs.Graphs.{Flow, IsFlow, IsPlaced}
use Rattle.flow_graph.specs.Liveness.{defined}
use Rattle.flow_graph.specs.Lives.{IsAscending, at_point}
use Rattle.flow_graph.proofs.Points.{every-in}
use Rattle.puzzle_board.specs.declared.piece.Columns.{Columns}
use Rattle.puzzle_board.specs.declared.piece.Columns.TheVariants.{Low, High, All}
use Rattle.puzzle_board.specs.declared.place.Place.{Place as BoardPlace}
use Rattle.puzzle_board.specs.declared.place.Place.TheVariants.{Cells, Slot}
use Rattle.puzzle_board.specs.Places.{Entry, PlaceMap, entries_at, place_in}
use Rattle.allocator.specs.PointMaps.{IsLegalMap}
use Rattle.allocator.proofs.OneMore.{ascending-result}
use Rattle.allocator.proofs.Putting.{placed-name}
use Rattle.ia32_insn.specs.declared.insn.Insn.{Insn}
use Rattle.ia32_insn.specs.declared.register_names.Reg32.{Reg32}
use Rattle.ia32_insn.specs.declared.register_names.Reg8.{Reg8}
use Rattle.ia32_insn.specs.Places.{Place, InWord, InByte, InSlot, IsPlace, word_of_area, low_of_area, high_of_area}
use Rattle.ia32_rows.specs.Contains.{IsPlaceIn}
use Rattle.ia32_rows.specs.Placements.{Placement}
use Rattle.ia32_laws.specs.Supports.{HoldsWidth, IsPlaceFor}
use Rattle.ia32_placements.specs.Placed.{placement_in}
use Rattle.ia32_placements.specs.Standings.{register_at, slot_at, standing_if_any, standing_of}
use Rattle.ia32_placements.proofs.Sides.{after-live, before-live}
use Rattle.ia32_placements.proofs.Supported.{stands-after, stands-before, supports-point}
use Rattle.map_text.specs.Entries.{below, byte_place, cells_place, place_of, standings_of, word_place}
use Rattle.map_text.specs.Entries.{standing_of as entry_standing}
use Rattle.map_text.specs.Maps.{AreStandings, IsStanding, MapVariable, Standing, TakesWidth}
use Rattle.map_lines.proofs.HomesPoints.{every-map}
use Rattle.map_lines.proofs.OwnedVariables.{width_of}

-- ---- one place by two definitions

byte-same : (o : Option Reg8) (p : Place) → option_map InByte o ≡ Some p → byte_place o ≡ p
byte-same None p e = absurd (none-some p e)
byte-same (Some r) p e = same_Some (InByte r) p e

word-same : (o : Option Reg32) (p : Place) → option_map InWord o ≡ Some p → word_place o ≡ p
word-same None p e = absurd (none-some p e)
word-same (Some r) p e = same_Some (InWord r) p e

cells-same : (area : ℕ) (columns : Columns) (p : Place) → register_at area columns ≡ Some p
    → cells_place area columns ≡ p
cells-same area Low p e = byte-same (low_of_area area) p e
cells-same area High p e = byte-same (high_of_area area) p e
cells-same area All p e = word-same (word_of_area area) p e

slot-same : (offset : ℤ) (p : Place) → slot_at offset ≡ Some p → InSlot (below offset) ≡ p
slot-same (pos n) p e = absurd (none-some p e)
slot-same (negsuc n) p e = same_Some (InSlot (suc n)) p e

-- the place of a map is the register or the slot that the placement has
pub place-same : (place : BoardPlace) (p : Place) → standing_of place ≡ Some p → place_of place ≡ p
place-same (Cells spot) p e = cells-same spot.area spot.columns p e
place-same (Slot offset) p e = slot-same offset p e

-- ---- widths

takes : (w : Width) (p : Place) → HoldsWidth (Some w) p → TakesWidth w p
takes Two (InWord r) h = tt
takes Two (InByte r) h = absurd h
takes Two (InSlot slot) h = tt
takes One (InWord r) h = absurd h
takes One (InByte r) h = tt
takes One (InSlot slot) h = tt

held : (o : Option Width) (p : Place) → HoldsWidth o p → (w : Width) × (o ≡ Some w) × TakesWidth w p
held None p h = absurd h
held (Some w) p h = (w, refl, takes w p h)

in-place : (frame : ℕ) (p : Place) → IsPlaceIn frame p → frame ≤ 0x4000 → IsPlace p
in-place frame (InWord r) inside small = inside
in-place frame (InByte r) inside small = tt
in-place frame (InSlot slot) inside small =
    let low = inside.low in
    let high = inside.high in (omega (arith, low), omega (arith, high, small))

mapped-at : (vs : List MapVariable) (v : ℕ) (w : Width) → slice_get (map width_of vs) v ≡ Some w
    → (x : MapVariable) × (slice_get vs v ≡ Some x) × (x.width ≡ w)
mapped-at [] v w e = absurd (none-some w e)
mapped-at (x ∷ vs) zero w e = (x, refl, same_Some x.width w e)
mapped-at (x ∷ vs) (suc v) w e = mapped-at vs v w e

-- a variable of the graph is one of the map, as wide
pub variable-at : (vs : List MapVariable) (widths : List Width) (v : ℕ) (w : Width) → map width_of vs ≡ widths
    → slice_get widths v ≡ Some w → (x : MapVariable) × (slice_get vs v ≡ Some x) × (x.width ≡ w)
variable-at vs widths v w same at = mapped-at vs v w (ap (λ (ws : List Width). slice_get ws v) same ∙ at)

standing-ruled : (variables : List MapVariable) (flow : Flow) (placement : Placement) (e : Entry) (p : Place)
    → map width_of variables ≡ flow.widths → placement.frame ≤ 0x4000 → standing_of e.1 ≡ Some p
    → IsPlaceFor flow placement e.0 p → IsStanding variables (entry_standing e)
standing-ruled variables flow placement e p widths small stands is =
    let same = sym (place-same e.1 p stands) in
    let (w, has, takes-it) = held (slice_get flow.widths e.0) p is.holds in
    let (x, there, wide) = variable-at variables flow.widths e.0 w widths has in (
      x,
      there,
      subst (λ (q : Place). TakesWidth x.width q) same (subst (λ (u : Width). TakesWidth u p) (sym wide) takes-it),
      subst IsPlace same (in-place placement.frame p is.inside small),
    )

-- ---- one side

first-place : (e : Entry) (entries : List Entry) → place_in (e ∷ entries) e.0 ≡ Some e.1
first-place e entries = ap (λ (t : Bool). cond t (Some e.1) (place_in entries e.0)) (eq-eqb e.0 e.0 refl)

later-place : (e f : Entry) (entries : List Entry) → AllByRecursion (λ v. e.0 < v) (map (λ x. x.0) entries)
    → place_in entries f.0 ≡ Some f.1 → place_in (e ∷ entries) f.0 ≡ Some f.1
later-place e f entries above at =
    let low : e.0 < f.0 = every-in (λ v. e.0 < v) f.0 (map (λ (x : Entry). x.0) entries) above
    (placed-name entries f.0 f.1 at) in
    ap (λ (t : Bool). cond t (Some e.1) (place_in entries f.0)) (ne_eqb e.0 f.0 (λ same. omega (arith, low, same)))
    ∙ at

-- what holds of a variable and its place holds of each entry, where they ascend
pub each-entry : (P : Entry → Type 0) (entries : List Entry) → IsAscending (map (λ x. x.0) entries)
    → ((e : Entry) → place_in entries e.0 ≡ Some e.1 → P e) → AllByRecursion P entries
each-entry P [] rising each = tt
each-entry P (e ∷ entries) rising each = (
  each e (first-place e entries),
  each-entry P entries rising.1 (λ f at. each f (later-place e f entries rising.0 at)),
)

same-variables : (entries : List Entry)
    → map (λ (s : Standing). s.variable) (standings_of entries) ≡ map (λ (x : Entry). x.0) entries
same-variables [] = refl
same-variables (e ∷ entries) = ap (λ (vs : List ℕ). e.0 ∷ vs) (same-variables entries)

side-ruled : (variables : List MapVariable) (entries : List Entry) → IsAscending (map (λ x. x.0) entries)
    → ((e : Entry) → place_in entries e.0 ≡ Some e.1 → IsStanding variables (entry_standing e))
    → AreStandings variables (standings_of entries)
side-ruled variables entries rising each = (
  All-from_recursion (IsStanding variables) (standings_of entries)
      (every-map (IsStanding variables) entry_standing entries
      (each-entry (λ e. IsStanding variables (entry_standing e)) entries rising each)),
  subst IsAscending (sym (same-variables entries)) rising,
)

-- ---- both sides of a point

pub before-ruled : (variables : List MapVariable) (flow : Flow) (own : List ℕ) (places : PlaceMap)
    (between : ℕ → ℕ → List Insn) (point : ℕ) (o : Op)
    → map width_of variables ≡ flow.widths → places.frame ≤ 0x4000 → IsFlow flow own
    → (legal : IsLegalMap flow places) → IsAscending (at_point legal.lives.before point) → IsPlaced flow point
    → slice_get flow.ops point ≡ Some o → AreStandings variables (standings_of (entries_at places.before point))
before-ruled variables flow own places between point o widths small is legal up placed has =
    let here = legal.points point o placed has in
    side-ruled variables (entries_at places.before point) (subst IsAscending (sym here.lists_before) up)
    (λ e at.
    let (p, stands) = stands-before flow own places between point o is legal placed has e.0
    (before-live flow legal.lives places point o here e.0 e.1 at) in
    standing-ruled variables flow (placement_in flow places between) e p widths small
    (ap standing_if_any (sym at) ∙ stands)
    ((supports-point flow own places between point o is legal placed has).before e.0 p stands))

pub after-ruled : (variables : List MapVariable) (flow : Flow) (own : List ℕ) (places : PlaceMap)
    (between : ℕ → ℕ → List Insn) (point : ℕ) (o : Op)
    → map width_of variables ≡ flow.widths → places.frame ≤ 0x4000 → IsFlow flow own
    → (legal : IsLegalMap flow places) → IsAscending (at_point legal.lives.after point) → IsPlaced flow point
    → slice_get flow.ops point ≡ Some o → AreStandings variables (standings_of (entries_at places.after point))
after-ruled variables flow own places between point o widths small is legal up placed has =
    let here = legal.points point o placed has in
    side-ruled variables (entries_at places.after point)
    (subst IsAscending (sym here.lists_after) (ascending-result (defined o) (at_point legal.lives.after point) up))
    (λ e at.
    let (p, stands) = stands-after flow own places between point o is legal placed has e.0
    (after-live flow legal.lives places point o here e.0 e.1 at) in
    standing-ruled variables flow (placement_in flow places between) e p widths small
    (ap standing_if_any (sym at) ∙ stands)
    ((supports-point flow own places between point o is legal placed has).after e.0 p stands))

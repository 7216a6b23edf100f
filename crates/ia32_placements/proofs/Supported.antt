-- What a point of a legal map has: each variable in a place for it, apart from the others.
use Rattle.std.proofs.Common.{◌≡◌, ◌≢◌, ◌⊎◌, ◌<◌, ℕ, zero, suc, ℤ, Bool, true, true≢false, ◌&&◌, List, [], ◌∷◌}
use Rattle.std.proofs.Common.{Option, Some, None, inl, inr, refl, sym, ap, subst, ◌∙◌, length}
use Rattle.std.specs.Prelude.{slice_get, slice_index_or}
use Rattle.std.proofs.lemmas.Bool.{and_parts}
use Rattle.std.proofs.lemmas.Option.{none-some, same_Some, slice_get_within}
use Rattle.pcc_base.specs.declared.run.Width.{Width}
use Rattle.pcc_base.specs.declared.run.Width.TheVariants.{One, Two}
use Rattle.pcc_base.proofs.Lists.{element-at}
use Rattle.ia32_insn.specs.declared.insn.Insn.{Insn}
use Rattle.ia32_insn.specs.Places.{Place, InSlot}
use Rattle.flow_graph.specs.declared.op.Op.{Op}
use Rattle.flow_graph.specs.Graphs.{Flow, HasWidth, IsFlow, IsIn, IsPlaced}
use Rattle.flow_graph.specs.Liveness.{defined}
use Rattle.flow_graph.specs.Lives.{at_point}
use Rattle.flow_graph.specs.Shapes.{Takes, NoRegister, Count, Division, AcrossCall, shape}
use Rattle.flow_graph.proofs.Asked.{HasVariable, has-all}
use Rattle.flow_graph.proofs.LivePaths.{live_step}
use Rattle.flow_liveness.proofs.Placed.{op-fits}
use Rattle.flow_liveness.proofs.Variables.{after-within, before-within}
use Rattle.puzzle_board.specs.declared.piece.Columns.{Columns}
use Rattle.puzzle_board.specs.declared.piece.Columns.TheVariants.{Low, High, All}
use Rattle.puzzle_board.specs.declared.piece.Kind.{Kind}
use Rattle.puzzle_board.specs.declared.piece.Kind.TheVariants.{X, Y, Z}
use Rattle.puzzle_board.specs.declared.piece.Spot.{Spot}
use Rattle.puzzle_board.specs.declared.place.Place.{Place as BoardPlace}
use Rattle.puzzle_board.specs.declared.place.Place.TheVariants.{Cells, Slot}
use Rattle.puzzle_board.specs.Areas.{is_of_width, share_column, share_row}
use Rattle.puzzle_board.specs.Placements.{Standing, fits_at}
use Rattle.puzzle_board.specs.Places.{PlaceMap}
use Rattle.puzzle_board.proofs.Standings.{fits_at-below, share_column-comm as column-turn}
use Rattle.allocator.specs.PointBoards.{Fixed, areas_by, areas_of, fixed_result, fixed_use}
use Rattle.allocator.specs.PointMaps.{IsLegalMap, IsLegalPoint, place_after, place_before, slot_of}
use Rattle.allocator.specs.Sides.{is_lower, is_upper}
use Rattle.ia32_rows.specs.Laws.{ArePlacesApart}
use Rattle.ia32_laws.specs.Supports.{HoldsWidth, IsApartFromArray, IsPlaceFor, IsSpared, IsSparedBy, SupportsPoint}
use Rattle.ia32_placements.specs.Placed.{placement_in}
use Rattle.ia32_placements.specs.Standings.{standing_if_any, standing_of}
use Rattle.ia32_placements.proofs.Boards.{columns-apart, legal-apart, legal-fits}
use Rattle.ia32_placements.proofs.FixedPieces.{IsFixedAt, operand-at, result-at}
use Rattle.ia32_placements.proofs.Frames.{slot-clear, slot-place, slots-apart}
use Rattle.ia32_placements.proofs.Free.{AreFree, beside-operand, beside-result, lower-share, through-spared}
use Rattle.ia32_placements.proofs.Free.{upper-share}
use Rattle.ia32_placements.proofs.Sides.{OnBoard, OnSlot, StandsOn, after-live, after-stands, before-live}
use Rattle.ia32_placements.proofs.Sides.{before-stands, live-after, live-before, standings, through-stays}
use Rattle.ia32_placements.proofs.Spots.{IsAt, at-area, holds-width, in-frame, is-at, number_of, spots-apart}

-- ---- lists

-- the element at a place, however it is read
read-at : {A : Type 0} (xs : List A) (k : ℕ) (x d : A) → slice_get xs k ≡ Some x → slice_index_or xs k d ≡ x
read-at [] k x d e = absurd (none-some x e)
read-at (y ∷ xs) zero x d e = same_Some y x e
read-at (y ∷ xs) (suc k) x d e = read-at xs k x d e

-- a variable that is there has its width
there : (flow : Flow) (v : ℕ) → v < length flow.widths → HasVariable flow v
there flow v within = element-at flow.widths v within

-- ---- registers and slots

-- a register has no byte of an array
register-clear : (n : ℕ) (c : Columns) (p : Place) (array : ℕ × ℕ) (below : ℕ) → IsAt n c p
    → IsApartFromArray p array below
register-clear n Low p array below (r, e, f) = subst (λ (q : Place). IsApartFromArray q array below) f tt
register-clear n High p array below (r, e, f) = subst (λ (q : Place). IsApartFromArray q array below) f tt
register-clear n All p array below (r, e, general, f) = subst (λ (q : Place). IsApartFromArray q array below) f tt

-- nor one of a slot
register-slot : (n : ℕ) (c : Columns) (p : Place) (slot : ℕ) → IsAt n c p
    → ArePlacesApart p (InSlot slot) × ArePlacesApart (InSlot slot) p
register-slot n Low p slot (r, e, f) =
    subst (λ (q : Place). ArePlacesApart q (InSlot slot) × ArePlacesApart (InSlot slot) q) f (tt, tt)
register-slot n High p slot (r, e, f) =
    subst (λ (q : Place). ArePlacesApart q (InSlot slot) × ArePlacesApart (InSlot slot) q) f (tt, tt)
register-slot n All p slot (r, e, general, f) =
    subst (λ (q : Place). ArePlacesApart q (InSlot slot) × ArePlacesApart (InSlot slot) q) f (tt, tt)

-- a slot is a place for either width
slot-holds : (width : Width) (slot : ℕ) → HoldsWidth (Some width) (InSlot slot)
slot-holds One slot = tt
slot-holds Two slot = tt

-- every op leaves slots as they are
slot-spared : (takes : Takes) (slot : ℕ) → IsSparedBy takes (InSlot slot)
slot-spared NoRegister slot = tt
slot-spared (Count count shifted) slot = tt
slot-spared (Division dividend divisor gives) slot = (tt, tt)
slot-spared AcrossCall slot = (tt, tt, tt)

-- a place of the map where the variable stands
abbrev pub Stood : Option BoardPlace → Place → BoardPlace → Type 0
Stood o p place = (o ≡ Some place) × (standing_of place ≡ Some p)

pub stood : (o : Option BoardPlace) (p : Place) → standing_if_any o ≡ Some p → (place : BoardPlace) × Stood o p place
stood None p e = absurd (none-some p e)
stood (Some place) p e = (place, (refl, e))

free-turn : (s t : Spot) → AreFree s t.area t.columns → AreFree t s.area s.columns
free-turn s t (inl other) = inl (λ same. other (sym same))
free-turn s t (inr free) = inr (column-turn t.columns s.columns ∙ free)

pub four-areas : (takes : Takes) → length (areas_by takes) ≡ 4
four-areas NoRegister = refl
four-areas (Count count shifted) = refl
four-areas (Division dividend divisor gives) = refl
four-areas AcrossCall = refl

both-kinds : (kind : Kind) → (is_lower kind && is_upper kind) ≡ true → kind ≡ Y
both-kinds X e = absurd (true≢false (sym e))
both-kinds Y e = refl
both-kinds Z e = absurd (true≢false (sym e))

-- ---- a point

module _
    (flow : Flow) (homes : List ℕ) (places : PlaceMap) (between : ℕ → ℕ → List Insn) (point : ℕ) (op : Op)
    (is : IsFlow flow homes) (legal : IsLegalMap flow places) (placed : IsPlaced flow point)
    (has : slice_get flow.ops point ≡ Some op) where
  abbrev here : IsLegalPoint flow legal.lives places point op
  here = legal.points point op placed has

  fits-op : (v : ℕ) → defined op ≡ Some v → HasVariable flow v
  fits-op v e = (has-all flow op (op-fits flow homes is point placed op has)).written v e

  within : point < length flow.ops
  within = slice_get_within flow.ops point op has

  -- a variable that stands before the point is there, and so is one that stands after it
  before-there : (v : ℕ) (place : BoardPlace) → place_before places point v ≡ Some place → HasVariable flow v
  before-there v place e =
      there flow v (before-within flow homes is v point ((legal.live.before point v within).0
      (before-live flow legal.lives places point op here v place e)))

  after-there : (v : ℕ) (place : BoardPlace) → place_after places point v ≡ Some place → HasVariable flow v
  after-there v place e =
      elim (after-live flow legal.lives places point op here v place e) [
        | inl d ↦ fits-op v d
        | inr i ↦ there flow v (after-within flow homes is v point ((legal.live.after point v within).0 i))
      ]

  -- ---- a place for it

  -- columns that are as wide as the variable
  spot-for : (v : ℕ) (width : Width) (spot : Spot) → HasWidth flow v width → is_of_width width spot.columns ≡ true
      → spot.area < 4
      → (p : Place) × (standing_of (Cells spot) ≡ Some p) × IsPlaceFor flow (placement_in flow places between) v p
  spot-for v width spot e wide below =
      let (p, f) = at-area spot.area spot.columns below in
      let at = is-at spot.area spot.columns p f in (
        p,
        f,
        record {
          inside = in-frame (number_of spot.area) places.frame spot.columns p at;
          holds = subst (λ (o : Option Width). HoldsWidth o p) (sym e)
              (holds-width (number_of spot.area) width spot.columns p wide at);
          apart = λ k below array g h. register-clear (number_of spot.area) spot.columns p array below at;
        },
      )

  -- its slot
  slot-for : (v : ℕ) (offset : ℤ) → HasVariable flow v → slot_of places v ≡ Some offset
      → (p : Place) × (standing_of (Slot offset) ≡ Some p) × IsPlaceFor flow (placement_in flow places between) v p
  slot-for v offset (width, e) f =
      let (slot, at, inside, low) = slot-place flow places legal.frame v offset f in (
        InSlot slot,
        at,
        record {
          inside = inside;
          holds = subst (λ (o : Option Width). HoldsWidth o (InSlot slot)) (sym e) (slot-holds width slot);
          apart = λ k below array g h. slot-clear flow places legal.frame slot k below array low g h;
        },
      )

  pub stands-well :
      (side : Kind → Bool) (fixed : Option Fixed) (v : ℕ) (place : BoardPlace) → HasVariable flow v
      → ((f : Fixed) → fixed ≡ Some f → IsFixedAt flow f)
      → StandsOn flow legal.lives places point op side fixed v place
      → (p : Place) × (standing_of place ≡ Some p) × IsPlaceFor flow (placement_in flow places between) v p
  stands-well side fixed v place variable at (inl (f, e, same, cells)) =
      let fixed-at = at f e in
      subst
      (λ (x : BoardPlace).
      (p : Place) × (standing_of x ≡ Some p) × IsPlaceFor flow (placement_in flow places between) v p)
      cells
      (spot-for v fixed-at.width f.spot (subst (λ (w : ℕ). HasWidth flow w fixed-at.width) same fixed-at.has)
      fixed-at.wide fixed-at.within)
  stands-well side fixed v place variable at (inr (inl (offset, slot, same))) =
      subst
      (λ (x : BoardPlace).
      (p : Place) × (standing_of x ≡ Some p) × IsPlaceFor flow (placement_in flow places between) v p)
      same
      (slot-for v offset variable slot)
  stands-well side fixed v place variable at (inr (inr (k, s, stands, on, same, wide, cells))) =
      let (fits-width, free) = and_parts (is_of_width s.piece.width s.spot.columns)
      (fits_at (areas_of op) s.spot.area s.piece.kind s.spot.columns)
      (legal-fits (areas_of op) (standings flow legal.lives places point op) k s here.placed.legal stands) in
      subst
      (λ (x : BoardPlace).
      (p : Place) × (standing_of x ≡ Some p) × IsPlaceFor flow (placement_in flow places between) v p)
      cells
      (spot-for v variable.0 s.spot variable.1
      (subst (λ (w : Width). is_of_width w s.spot.columns ≡ true)
      (wide ∙ read-at flow.widths v variable.0 Two variable.1) fits-width)
      (subst (λ (n : ℕ). s.spot.area < n) (four-areas (shape op).takes)
      (fits_at-below (areas_of op) s.spot.area s.piece.kind s.spot.columns free)))

  -- ---- apart

  -- which cells two pieces of one side share, and which a fixed one has
  abbrev Shares : (Kind → Bool) → Type 0
  Shares side = (k j : Kind) → side k ≡ true → side j ≡ true → share_row k j ≡ true

  abbrev IsBeside : (Kind → Bool) → Option Fixed → Type 0
  IsBeside side fixed =
      (f : Fixed) → fixed ≡ Some f → (area : ℕ) (kind : Kind) (columns : Columns) → side kind ≡ true
      → fits_at (areas_of op) area kind columns ≡ true → AreFree f.spot area columns

  -- what stands on the board has free cells
  board-fits : (k : ℕ) (s : Standing) → slice_get (standings flow legal.lives places point op) k ≡ Some s
      → fits_at (areas_of op) s.spot.area s.piece.kind s.spot.columns ≡ true
  board-fits k s e =
      (and_parts (is_of_width s.piece.width s.spot.columns)
      (fits_at (areas_of op) s.spot.area s.piece.kind s.spot.columns)
      (legal-fits (areas_of op) (standings flow legal.lives places point op) k s here.placed.legal e)).1

  -- the registers of two spots
  cells-apart : (s t : Spot) (one two : BoardPlace) (p q : Place) → AreFree s t.area t.columns → Cells s ≡ one
      → Cells t ≡ two → standing_of one ≡ Some p → standing_of two ≡ Some q → ArePlacesApart p q
  cells-apart s t one two p q free e f g h =
      spots-apart s.area t.area s.columns t.columns p q free (ap standing_of e ∙ g) (ap standing_of f ∙ h)

  -- a register and a slot
  cells-slot : (v : ℕ) (s : Spot) (offset : ℤ) (one two : BoardPlace) (p q : Place) → slot_of places v ≡ Some offset
      → Cells s ≡ one → Slot offset ≡ two → standing_of one ≡ Some p → standing_of two ≡ Some q
      → ArePlacesApart p q × ArePlacesApart q p
  cells-slot v s offset one two p q slot e f g h =
      let (n, at, inside, low) = slot-place flow places legal.frame v offset slot in
      let same : InSlot n ≡ q = same_Some (InSlot n) q (sym at ∙ (ap standing_of f ∙ h)) in
      subst (λ (x : Place). ArePlacesApart p x × ArePlacesApart x p) same
      (register-slot (number_of s.area) s.columns p n (is-at s.area s.columns p (ap standing_of e ∙ g)))

  pub stand-apart :
      (side : Kind → Bool) (fixed : Option Fixed) → Shares side → IsBeside side fixed → (v w : ℕ)
      (one two : BoardPlace) (p q : Place) → v ≢ w → StandsOn flow legal.lives places point op side fixed v one
      → StandsOn flow legal.lives places point op side fixed w two → standing_of one ≡ Some p
      → standing_of two ≡ Some q → ArePlacesApart p q
  stand-apart side fixed shares beside v w one two p q other (inl (f, e, same, cells)) (inl (g, h, also, spot)) a b =
      absurd (other (sym same ∙ (ap (λ (x : Fixed). x.variable) (same_Some f g (sym e ∙ h)) ∙ also)))
  stand-apart side fixed shares beside v w one two p q other (inl (f, e, same, cells)) (inr (inl (offset, slot, at)))
      a b =
      (cells-slot w f.spot offset one two p q slot cells at a b).0
  stand-apart side fixed shares beside v w one two p q other (inl (f, e, same, cells))
      (inr (inr (k, s, stands, on, var, wide, spot))) a b =
      cells-apart f.spot s.spot one two p q
      (beside f e s.spot.area s.piece.kind s.spot.columns on (board-fits k s stands)) cells spot a b
  stand-apart side fixed shares beside v w one two p q other (inr (inl (offset, slot, at))) (inl (f, e, same, cells))
      a b =
      (cells-slot v f.spot offset two one q p slot cells at b a).1
  stand-apart side fixed shares beside v w one two p q other (inr (inl (offset, slot, at)))
      (inr (inl (second, further, there))) a b =
      let (m, n, first, last, free) = slots-apart flow places legal.frame v w offset second p q other slot further
      (ap standing_of at ∙ a) (ap standing_of there ∙ b) in
      subst (λ (x : Place). ArePlacesApart x q) first (subst (λ (x : Place). ArePlacesApart (InSlot m) x) last free)
  stand-apart side fixed shares beside v w one two p q other (inr (inl (offset, slot, at)))
      (inr (inr (k, s, stands, on, var, wide, spot))) a b =
      (cells-slot v s.spot offset two one q p slot spot at b a).1
  stand-apart side fixed shares beside v w one two p q other (inr (inr (k, s, stands, on, var, wide, spot)))
      (inl (f, e, same, cells)) a b =
      cells-apart s.spot f.spot one two p q
      (free-turn f.spot s.spot (beside f e s.spot.area s.piece.kind s.spot.columns on (board-fits k s stands)))
      spot cells a b
  stand-apart side fixed shares beside v w one two p q other (inr (inr (k, s, stands, on, var, wide, spot)))
      (inr (inl (offset, slot, at))) a b =
      (cells-slot w s.spot offset one two p q slot spot at a b).0
  stand-apart side fixed shares beside v w one two p q other (inr (inr (k, s, stands, on, var, wide, spot)))
      (inr (inr (l, t, further, too, second, as-wide, last))) a b =
      cells-apart s.spot t.spot one two p q
      (columns-apart s t
      (legal-apart (areas_of op) (standings flow legal.lives places point op) k l s t here.placed.legal distinct stands
      further)
      (shares s.piece.kind t.piece.kind on too)) spot last a b
    where
      distinct : k ≢ l
      distinct e =
          other (sym var ∙ (ap (λ (x : Standing). x.piece.var)
          (same_Some s t (sym stands ∙ (ap (λ (i : ℕ). slice_get (standings flow legal.lives places point op) i) e
          ∙ further))) ∙ second))

  -- ---- the point

  before-good : (v : ℕ) (place : BoardPlace) → place_before places point v ≡ Some place
      → (p : Place) × (standing_of place ≡ Some p) × IsPlaceFor flow (placement_in flow places between) v p
  before-good v place e =
      stands-well is_upper (fixed_use op) v place (before-there v place e)
      (λ f at. operand-at flow op f (op-fits flow homes is point placed op has) at)
      (before-stands flow legal.lives places point op here v place e)

  on-after : (v : ℕ) (place : BoardPlace) → place_after places point v ≡ Some place
      → StandsOn flow legal.lives places point op is_lower (fixed_result op) v place
  on-after v place e =
      after-stands flow legal.lives places point op legal.live (legal.dies point op placed has) has here v place e

  after-good : (v : ℕ) (place : BoardPlace) → place_after places point v ≡ Some place
      → (p : Place) × (standing_of place ≡ Some p) × IsPlaceFor flow (placement_in flow places between) v p
  after-good v place e =
      stands-well is_lower (fixed_result op) v place (after-there v place e)
      (λ f at. result-at flow op f (op-fits flow homes is point placed op has) at) (on-after v place e)

  -- where it stands is that place
  good-is : (v : ℕ) (place : BoardPlace) (p : Place) → standing_of place ≡ Some p
      → (q : Place) × (standing_of place ≡ Some q) × IsPlaceFor flow (placement_in flow places between) v q
      → IsPlaceFor flow (placement_in flow places between) v p
  good-is v place p e (q, f, good) =
      subst (IsPlaceFor flow (placement_in flow places between) v) (same_Some q p (sym f ∙ e)) good

  -- what is live before the point stands before it, and what is live after it or defined there after it
  pub stands-before : (v : ℕ) → IsIn v (at_point legal.lives.before point)
      → (p : Place) × (standing_if_any (place_before places point v) ≡ Some p)
  stands-before v i =
      let (place, e) = live-before flow legal.lives places point op here v i in
      let (p, f, good) = before-good v place e in (p, ap standing_if_any e ∙ f)

  pub stands-after : (v : ℕ) → (defined op ≡ Some v) ⊎ IsIn v (at_point legal.lives.after point)
      → (p : Place) × (standing_if_any (place_after places point v) ≡ Some p)
  stands-after v h =
      let (place, e) = live-after flow legal.lives places point op here v h in
      let (p, f, good) = after-good v place e in (p, ap standing_if_any e ∙ f)

  -- the op leaves what lives through it where it is
  stays-spared : (v : ℕ) (place : BoardPlace) (p : Place) → standing_of place ≡ Some p
      → OnSlot flow legal.lives places point op v place
      ⊎ OnBoard flow legal.lives places point op (λ kind. is_lower kind && is_upper kind) v place → IsSpared op p
  stays-spared v place p e (inl (offset, slot, same)) =
      let (n, at, inside, low) = slot-place flow places legal.frame v offset slot in
      subst (IsSpared op) (same_Some (InSlot n) p (sym at ∙ (ap standing_of same ∙ e)))
      (slot-spared (shape op).takes n)
  stays-spared v place p e (inr (k, s, stands, on, var, wide, spot)) =
      through-spared op s.spot.area s.spot.columns p
      (subst (λ (kind : Kind). fits_at (areas_of op) s.spot.area kind s.spot.columns ≡ true)
      (both-kinds s.piece.kind on) (board-fits k s stands))
      (ap standing_of spot ∙ e)

  pub supports-point : SupportsPoint flow (placement_in flow places between) point op
  supports-point = record {
    before = λ v p e. let (place, (at, stands)) = stood (place_before places point v) p e in
        good-is v place p stands (before-good v place at);
    after = λ v p e. let (place, (at, stands)) = stood (place_after places point v) p e in
        good-is v place p stands (after-good v place at);
    before_apart = λ v w p q other e f.
        let (one, (at, stands)) = stood (place_before places point v) p e in
        let (two, (there, further)) = stood (place_before places point w) q f in
        stand-apart is_upper (fixed_use op) upper-share (beside-operand op) v w one two p q other
        (before-stands flow legal.lives places point op here v one at)
        (before-stands flow legal.lives places point op here w two there) stands further;
    after_apart = λ v w p q other e f.
        let (one, (at, stands)) = stood (place_after places point v) p e in
        let (two, (there, further)) = stood (place_after places point w) q f in
        stand-apart is_lower (fixed_result op) lower-share (beside-result op) v w one two p q other
        (on-after v one at) (on-after w two there) stands further;
    read = λ v used.
        stands-before v ((legal.live.before point v within).1
        ((live_step flow v point).1 (inl (placed, op, has, used))));
    written = λ v d. stands-after v (inl d);
    stays = λ v p other e.
        let (place, (at, stands)) = stood (place_after places point v) p e in
        let (same, through) = through-stays flow legal.lives places point op legal.live
        (legal.dies point op placed has) has here v place other at in
        (ap standing_if_any same ∙ stands, stays-spared v place p stands through);
  }

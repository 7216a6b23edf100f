-- A point is legal once its pieces and fixed pieces are put where its solution has them.
use Rattle.std.proofs.Common.{ℕ, ℤ, zero, suc, ◌≡◌, ◌≢◌, ◌<◌, ◌≤◌, ◌⊎◌, inl, inr, Bool, true, false, cond, true≢false}
use Rattle.std.proofs.Common.{◌&&◌, List, [], ◌∷◌, ◌++◌, length, Option, Some, None, refl, sym, ap, subst}
use Rattle.std.proofs.Common.{arith, ◌∙◌}
use Rattle.std.specs.Prelude.{option_map, slice_get}
use Rattle.std.proofs.lemmas.Bool.{cases_eq}
use Rattle.std.proofs.lemmas.Option.{none-some, same_Some, slice_get_within}
use Rattle.flow_graph.specs.declared.op.Op.{Op}
use Rattle.flow_graph.specs.Graphs.{Flow, IsFlow, IsIn, IsPlaced, has_point}
use Rattle.flow_graph.specs.Liveness.{FixedDies, IsDefinedAt, IsLiveAfter, LiveStep, defined}
use Rattle.flow_graph.specs.Lives.{AreLive, IsAscending, Lives, at_point}
use Rattle.puzzle_board.specs.declared.piece.Columns.{Columns}
use Rattle.puzzle_board.specs.declared.piece.Columns.TheVariants.{Low, High, All}
use Rattle.puzzle_board.specs.declared.piece.Kind.{Kind}
use Rattle.puzzle_board.specs.declared.piece.Kind.TheVariants.{X, Y, Z}
use Rattle.puzzle_board.specs.declared.piece.Piece.{Piece}
use Rattle.puzzle_board.specs.declared.piece.Spot.{Spot}
use Rattle.puzzle_board.specs.declared.place.Place.{Place}
use Rattle.puzzle_board.specs.declared.place.Place.TheVariants.{Cells, Slot}
use Rattle.puzzle_board.specs.Placements.{IsLegalPlacement, Standing}
use Rattle.puzzle_board.specs.Places.{Entry, IsRising, PlaceMap, entries_at, place_in, spilled_at, with_place}
use Rattle.puzzle_board.proofs.Sides.{rising-with}
use Rattle.flow_liveness.specs.Names.{is_named}
use Rattle.allocator.specs.PointBoards.{Fixed, areas_of, fixed_result, fixed_use, fixed_variable, piece_of}
use Rattle.allocator.specs.PointBoards.{point_pieces, use_kind, with_result}
use Rattle.allocator.specs.PointMaps.{InSlot, IsLegalPoint, SpilledInSlots, both_cells, cells_of, place_after}
use Rattle.allocator.specs.PointMaps.{place_before, same_columns, same_spot, spot_on, standing_at, standings_of}
use Rattle.allocator.specs.PointMaps.{unspilled}
use Rattle.flow_liveness.proofs.Naming.{equal-test, in-test, test-in}
use Rattle.allocator.specs.PointPuzzles.{pair_of}
use Rattle.allocator.proofs.Fixing.{fixed-defined, fixed-dies, fixed-used}
use Rattle.allocator.proofs.OneMore.{ascending-result}
use Rattle.allocator.specs.Sides.{ArePut, is_lower, is_upper, with_fixed}
use Rattle.allocator.specs.Slots.{slot_in}
use Rattle.allocator.specs.Solutions.{ArePlaces, AreSpots, standing_by}
use Rattle.allocator.proofs.Members.{Has, IsMade, IsUse, in-with-result, made-there, named-some, piece-is, result-in}
use Rattle.allocator.proofs.Members.{some-named, use-there}
use Rattle.allocator.proofs.Putting.{name-placed, names-ascend, names_of, place-other, place-same, placed-name}
use Rattle.allocator.proofs.Putting.{same-members}

-- ---- fixed pieces

fixed-rising : (o : Option (ℕ × Spot)) (entries : List Entry) → IsRising entries → IsRising (with_fixed o entries)
fixed-rising None entries h = h
fixed-rising (Some f) entries h = rising-with entries f.0 (Cells f.1) h

-- what stands beside a fixed piece
fixed-beside :
    (o : Option Fixed) (entries : List Entry) (v : ℕ) → is_named (fixed_variable o) v ≡ false
    → place_in (with_fixed (option_map pair_of o) entries) v ≡ place_in entries v
fixed-beside None entries v other = refl
fixed-beside (Some f) entries v other =
    place-other entries f.variable v (Cells f.spot)
    (λ e. true≢false (sym (equal-test f.variable v (sym e)) ∙ other))

fixed-here :
    (o : Option Fixed) (entries : List Entry) (f : Fixed) → o ≡ Some f
    → place_in (with_fixed (option_map pair_of o) entries) f.variable ≡ Some (Cells f.spot)
fixed-here None entries f e = absurd (none-some f e)
fixed-here (Some g) entries f e =
    let same : g ≡ f = same_Some g f e in
    subst (λ (h : Fixed). place_in (with_place entries g.variable (Cells g.spot)) h.variable ≡ Some (Cells h.spot)) same
    (place-same entries g.variable (Cells g.spot))

-- what is found is the fixed piece, or stands beside it
fixed-found :
    (o : Option Fixed) (entries : List Entry) (v : ℕ) (place : Place)
    → place_in (with_fixed (option_map pair_of o) entries) v ≡ Some place
    → ((f : Fixed) × (o ≡ Some f) × (f.variable ≡ v)) ⊎ (place_in entries v ≡ Some place)
fixed-found None entries v place e = inr e
fixed-found (Some f) entries v place e = by (cases_eq v f.variable)
  where
    by : (v ≡ f.variable) ⊎ (v ≢ f.variable)
        → ((g : Fixed) × (Some f ≡ Some g) × (g.variable ≡ v)) ⊎ (place_in entries v ≡ Some place)
    by (inl same) = inl (f, refl, sym same)
    by (inr other) = inr (sym (place-other entries f.variable v (Cells f.spot) other) ∙ e)

pub fixed-of : (o : Option Fixed) (v : ℕ) → is_named (fixed_variable o) v ≡ true
    → (f : Fixed) × (o ≡ Some f) × (f.variable ≡ v)
fixed-of None v e = absurd (true≢false (sym e))
fixed-of (Some f) v e = (f, refl, same_Some f.variable v (named-some (Some f.variable) v e))

pub two-tests : (b : Bool) → (b ≡ true) ⊎ (b ≡ false)
two-tests true = inl refl
two-tests false = inr refl

-- ---- kinds

live-through : (a d : Bool) → is_lower (use_kind a d) ≡ true → (a ≡ true) × (d ≡ false)
live-through true true e = absurd (true≢false (sym e))
live-through true false e = (refl, refl)
live-through false d e = absurd (true≢false (sym e))

through : (a d : Bool) → a ≡ true → d ≡ false → is_lower (use_kind a d) ≡ true
through true false e f = refl
through true true e f = absurd (true≢false f)
through false d e f = absurd (true≢false (sym e))

pub use-upper : (a d : Bool) → is_upper (use_kind a d) ≡ true
use-upper true true = refl
use-upper true false = refl
use-upper false d = refl

same-columns-self : (c : Columns) → same_columns c c ≡ true
same-columns-self Low = refl
same-columns-self High = refl
same-columns-self All = refl

same-spot-self : (s : Spot) → same_spot s s ≡ true
same-spot-self s =
    ap (λ (b : Bool). b && same_columns s.columns s.columns) (equal-test s.area s.area refl)
    ∙ same-columns-self s.columns

both-self : (s : Spot) → both_cells (Some s) (Some s) ≡ Some s
both-self s = ap (λ (b : Bool). cond b (Some s) None) (same-spot-self s)

-- ---- the standing pieces

standings-same :
    (places : PlaceMap) (point : ℕ) (vs : List ℕ) (ps : List Piece) (ss : List (Option Spot)) → length ss ≡ length ps
    → ((k : ℕ) (p : Piece) → slice_get ps k ≡ Some p → slice_get ss k ≡ Some None → has_point p.var vs ≡ true)
    → ((k : ℕ) (p : Piece) (s : Spot) → slice_get ps k ≡ Some p → slice_get ss k ≡ Some (Some s)
    → (has_point p.var vs ≡ false) × (spot_on places point p.kind p.var ≡ Some s))
    → standing_by ps ss ≡ standings_of places point (unspilled vs ps)
standings-same places point vs [] ss long out in-it = refl
standings-same places point vs (p ∷ ps) [] long out in-it = absurd (omega (arith, long))
standings-same places point vs (p ∷ ps) (None ∷ ss) long out in-it =
    standings-same places point vs ps ss (omega (arith, long)) (λ k q. out (suc k) q) (λ k q s. in-it (suc k) q s)
    ∙ ap (λ (b : Bool). standings_of places point (cond b (unspilled vs ps) (p ∷ unspilled vs ps)))
    (sym (out 0 p refl refl))
standings-same places point vs (p ∷ ps) (Some s ∷ ss) long out in-it =
    let rest = standings-same places point vs ps ss (omega (arith, long)) (λ k q. out (suc k) q)
    (λ k q t. in-it (suc k) q t) in
    let (free, on) = in-it 0 p s refl refl in
    ap (λ (more : List Standing). record { piece = p; spot = s } ∷ more) rest
    ∙ (ap (λ (o : Option Spot). standing_at p o ++ standings_of places point (unspilled vs ps)) (sym on)
    ∙ ap (λ (b : Bool). standings_of places point (cond b (unspilled vs ps) (p ∷ unspilled vs ps))) (sym free))

-- ---- the point

module _
    (flow : Flow) (homes : List ℕ) (lives : Lives) (point : ℕ) (op : Op) (flows : IsFlow flow homes)
    (live : AreLive flow lives) (step : LiveStep) (dies : FixedDies flow point op) (placed : IsPlaced flow point)
    (has : slice_get flow.ops point ≡ Some op) (up : IsAscending (at_point lives.before point))
    (ups : IsAscending (at_point lives.after point)) (spilled : List ℕ) (spots : List (Option Spot))
    (standing : List Place) (slots : List (Option ℤ))
    (solved : AreSpots (areas_of op) (point_pieces flow lives point op) spilled spots)
    (are : ArePlaces slots (point_pieces flow lives point op) spots standing) (before after : List Entry)
    (uppers : ArePut is_upper (point_pieces flow lives point op) standing (length (point_pieces flow lives point op))
    before)
    (lowers : ArePut is_lower (point_pieces flow lives point op) standing (length (point_pieces flow lives point op))
    after)
    (places : PlaceMap)
    (befores : entries_at places.before point ≡ with_fixed (option_map pair_of (fixed_use op)) before)
    (afters : entries_at places.after point ≡ with_fixed (option_map pair_of (fixed_result op)) after)
    (spills : spilled_at places point ≡ spilled) (slots-are : places.slots ≡ slots) where
  abbrev pieces : List Piece
  pieces = point_pieces flow lives point op

  within : point < length flow.ops
  within = slice_get_within flow.ops point op has

  -- a piece's place
  placed-at : (k : ℕ) (p : Piece) → slice_get pieces k ≡ Some p → (place : Place) × (slice_get standing k ≡ Some place)
  placed-at k p at = by (slice_get standing k) refl
    where
      by : (o : Option Place) → slice_get standing k ≡ o → (place : Place) × (slice_get standing k ≡ Some place)
      by (Some place) e = (place, e)
      by None e =
          let lt = slice_get_within pieces k p at in
          let long = are.many in
          absurd (omega (arith, lt, long, none-past standing k e))
        where
          none-past : (xs : List Place) (i : ℕ) → slice_get xs i ≡ None → length xs ≤ i
          none-past [] i e = omega arith
          none-past (x ∷ xs) zero e = absurd (cc)
          none-past (x ∷ xs) (suc i) e = let rest = none-past xs i e in omega (arith, rest)

  -- ---- what pieces on a side say of their variables

  upper-live : (p : Piece) → Has pieces p → is_upper p.kind ≡ true
      → IsIn p.var (at_point lives.before point) × (is_named (fixed_variable (fixed_use op)) p.var ≡ false)
  upper-live p h on = by (piece-is flow lives point op p h)
    where
      by : (v : ℕ) × (IsUse flow lives point op p v ⊎ IsMade flow lives point op p v)
          → IsIn p.var (at_point lives.before point) × (is_named (fixed_variable (fixed_use op)) p.var ≡ false)
      by (v, inl (b, free, same)) =
          let named : v ≡ p.var = ap (λ (q : Piece). q.var) same in (
            subst (λ (w : ℕ). IsIn w (at_point lives.before point)) named (test-in v (at_point lives.before point) b),
            ap (λ (w : ℕ). is_named (fixed_variable (fixed_use op)) w) (sym named) ∙ free,
          )
      by (v, inr (d, free, same)) =
          absurd (true≢false (sym on ∙ ap (λ (q : Piece). is_upper q.kind) (sym same)))

  lower-live : (p : Piece) → Has pieces p → is_lower p.kind ≡ true
      → IsIn p.var (with_result (defined op) (at_point lives.after point))
      × (is_named (fixed_variable (fixed_result op)) p.var ≡ false)
  lower-live p h on = by (piece-is flow lives point op p h)
    where
      not-fixed : (v : ℕ) (b : Bool) → is_named (fixed_variable (fixed_result op)) v ≡ b
          → is_named (defined op) v ≡ false → is_named (fixed_variable (fixed_result op)) v ≡ false
      not-fixed v false e free = e
      not-fixed v true e free =
          let (f, is, named) = fixed-of (fixed_result op) v e in
          let made = some-named (defined op) v (fixed-defined op f is ∙ ap Some named) in
          absurd (true≢false (sym made ∙ free))

      by : (v : ℕ) × (IsUse flow lives point op p v ⊎ IsMade flow lives point op p v)
          → IsIn p.var (with_result (defined op) (at_point lives.after point))
          × (is_named (fixed_variable (fixed_result op)) p.var ≡ false)
      by (v, inl (b, free, same)) =
          let named : v ≡ p.var = ap (λ (q : Piece). q.var) same in
          let kind : is_lower (use_kind (has_point v (at_point lives.after point)) (is_named (defined op) v)) ≡ true =
          ap (λ (q : Piece). is_lower q.kind) same ∙ on in
          let (a, d) = live-through (has_point v (at_point lives.after point)) (is_named (defined op) v) kind in (
            subst (λ (w : ℕ). IsIn w (with_result (defined op) (at_point lives.after point))) named
                (in-with-result (defined op) (at_point lives.after point) v
                (inr (test-in v (at_point lives.after point) a))),
            ap (λ (w : ℕ). is_named (fixed_variable (fixed_result op)) w) (sym named)
                ∙ not-fixed v (is_named (fixed_variable (fixed_result op)) v) refl d,
          )
      by (v, inr (d, free, same)) =
          let named : v ≡ p.var = ap (λ (q : Piece). q.var) same in (
            subst (λ (w : ℕ). IsIn w (with_result (defined op) (at_point lives.after point))) named
                (in-with-result (defined op) (at_point lives.after point) v (inl d)),
            ap (λ (w : ℕ). is_named (fixed_variable (fixed_result op)) w) (sym named) ∙ free,
          )

  -- ---- where pieces stand

  stands-before :
      (k : ℕ) (p : Piece) (place : Place) → slice_get pieces k ≡ Some p → slice_get standing k ≡ Some place
      → is_upper p.kind ≡ true → place_before places point p.var ≡ Some place
  stands-before k p place at there on =
      ap (λ (es : List Entry). place_in es p.var) befores
      ∙ (fixed-beside (fixed_use op) before p.var (upper-live p (k, at) on).1
      ∙ uppers.has k p place (slice_get_within pieces k p at) at there on)

  stands-after :
      (k : ℕ) (p : Piece) (place : Place) → slice_get pieces k ≡ Some p → slice_get standing k ≡ Some place
      → is_lower p.kind ≡ true → place_after places point p.var ≡ Some place
  stands-after k p place at there on =
      ap (λ (es : List Entry). place_in es p.var) afters
      ∙ (fixed-beside (fixed_result op) after p.var (lower-live p (k, at) on).1
      ∙ lowers.has k p place (slice_get_within pieces k p at) at there on)

  -- ---- the variables before the point

  abbrev all-before : List Entry
  all-before = with_fixed (option_map pair_of (fixed_use op)) before

  abbrev all-after : List Entry
  all-after = with_fixed (option_map pair_of (fixed_result op)) after

  operand-live : (f : Fixed) → fixed_use op ≡ Some f → IsIn f.variable (at_point lives.before point)
  operand-live f is = (live.before point f.variable within).1 (0, (placed, op, has, fixed-used op f is))

  before-to : (v : ℕ) → IsIn v (names_of all-before) → IsIn v (at_point lives.before point)
  before-to v i =
      let (place, found) = name-placed all-before v i in by place (fixed-found (fixed_use op) before v place found)
    where
      by : (place : Place)
          → ((f : Fixed) × (fixed_use op ≡ Some f) × (f.variable ≡ v)) ⊎ (place_in before v ≡ Some place)
          → IsIn v (at_point lives.before point)
      by place (inl (f, is, named)) =
          subst (λ (w : ℕ). IsIn w (at_point lives.before point)) named (operand-live f is)
      by place (inr found) =
          let (k, p, lt, at, on, named) = uppers.only v place found in
          subst (λ (w : ℕ). IsIn w (at_point lives.before point)) named (upper-live p (k, at) on).0

  before-from : (v : ℕ) → IsIn v (at_point lives.before point) → IsIn v (names_of all-before)
  before-from v i = by (two-tests (is_named (fixed_variable (fixed_use op)) v))
    where
      by : (is_named (fixed_variable (fixed_use op)) v ≡ true) ⊎ (is_named (fixed_variable (fixed_use op)) v ≡ false)
          → IsIn v (names_of all-before)
      by (inl e) =
          let (f, is, named) = fixed-of (fixed_use op) v e in
          subst (λ (w : ℕ). IsIn w (names_of all-before)) named
          (placed-name all-before f.variable (Cells f.spot) (fixed-here (fixed_use op) before f is))
      by (inr free) =
          let (k, at) = use-there flow lives point op v i free in
          let p = piece_of flow (use_kind (has_point v (at_point lives.after point)) (is_named (defined op) v)) v in
          let (place, there) = placed-at k p at in
          placed-name all-before v place
          (fixed-beside (fixed_use op) before v free
          ∙ uppers.has k p place (slice_get_within pieces k p at) at there
          (use-upper (has_point v (at_point lives.after point)) (is_named (defined op) v)))

  lists-before : names_of (entries_at places.before point) ≡ at_point lives.before point
  lists-before =
      ap names_of befores
      ∙ same-members (names_of all-before) (at_point lives.before point)
      (names-ascend all-before (fixed-rising (option_map pair_of (fixed_use op)) before uppers.rising)) up
      (λ v. (before-to v, before-from v))

  -- ---- and after it

  after-to :
      (v : ℕ) → IsIn v (names_of all-after) → IsIn v (with_result (defined op) (at_point lives.after point))
  after-to v i =
      let (place, found) = name-placed all-after v i in by place (fixed-found (fixed_result op) after v place found)
    where
      by : (place : Place)
          → ((f : Fixed) × (fixed_result op ≡ Some f) × (f.variable ≡ v)) ⊎ (place_in after v ≡ Some place)
          → IsIn v (with_result (defined op) (at_point lives.after point))
      by place (inl (f, is, named)) =
          in-with-result (defined op) (at_point lives.after point) v
          (inl (some-named (defined op) v (fixed-defined op f is ∙ ap Some named)))
      by place (inr found) =
          let (k, p, lt, at, on, named) = lowers.only v place found in
          subst (λ (w : ℕ). IsIn w (with_result (defined op) (at_point lives.after point))) named
          (lower-live p (k, at) on).0

  -- what is live after the point, and not defined there, is live before it, and not fixed
  live-over : (v : ℕ) → IsIn v (at_point lives.after point) → is_named (defined op) v ≡ false
      → IsIn v (at_point lives.before point)
  live-over v i free =
      let later = (live.after point v within).0 i in
      (live.before point v within).1 ((step flow v point).1 (inr (undefined, later)))
    where
      undefined : IsDefinedAt flow v point → ⊥
      undefined (its, there, makes) =
          let same : op ≡ its = same_Some op its (sym has ∙ there) in
          true≢false (sym (some-named (defined op) v (ap defined same ∙ makes)) ∙ free)

  over-free : (v : ℕ) → IsIn v (at_point lives.after point) → is_named (fixed_variable (fixed_use op)) v ≡ false
  over-free v i = by (two-tests (is_named (fixed_variable (fixed_use op)) v))
    where
      by : (is_named (fixed_variable (fixed_use op)) v ≡ true) ⊎ (is_named (fixed_variable (fixed_use op)) v ≡ false)
          → is_named (fixed_variable (fixed_use op)) v ≡ false
      by (inl e) =
          let (f, is, named) = fixed-of (fixed_use op) v e in
          absurd (fixed-dies flow point op f dies is
          (subst (λ (w : ℕ). IsLiveAfter flow w point) (sym named) ((live.after point v within).0 i)))
      by (inr free) = free

  made-after : (v : ℕ) → is_named (defined op) v ≡ true
      → (is_named (fixed_variable (fixed_result op)) v ≡ true)
      ⊎ (is_named (fixed_variable (fixed_result op)) v ≡ false) → IsIn v (names_of all-after)
  made-after v d (inl e) =
      let (f, is, named) = fixed-of (fixed_result op) v e in
      subst (λ (w : ℕ). IsIn w (names_of all-after)) named
      (placed-name all-after f.variable (Cells f.spot) (fixed-here (fixed_result op) after f is))
  made-after v d (inr free) =
      let (k, at) = made-there flow lives point op v d free in
      let (place, there) = placed-at k (piece_of flow Z v) at in
      placed-name all-after v place
      (fixed-beside (fixed_result op) after v free
      ∙ lowers.has k (piece_of flow Z v) place (slice_get_within pieces k (piece_of flow Z v) at) at there refl)

  after-from :
      (v : ℕ) → IsIn v (with_result (defined op) (at_point lives.after point)) → IsIn v (names_of all-after)
  after-from v i =
      by (two-tests (is_named (defined op) v)) (result-in (defined op) (at_point lives.after point) v i)
    where
      by : (is_named (defined op) v ≡ true) ⊎ (is_named (defined op) v ≡ false)
          → (is_named (defined op) v ≡ true) ⊎ IsIn v (at_point lives.after point) → IsIn v (names_of all-after)
      by (inl d) h = made-after v d (two-tests (is_named (fixed_variable (fixed_result op)) v))
      by (inr free) (inl d) = absurd (true≢false (sym d ∙ free))
      by (inr free) (inr later) =
          let (k, at) = use-there flow lives point op v (live-over v later free) (over-free v later) in
          let p = piece_of flow (use_kind (has_point v (at_point lives.after point)) (is_named (defined op) v)) v in
          let (place, there) = placed-at k p at in
          let on = through (has_point v (at_point lives.after point)) (is_named (defined op) v)
          (in-test v (at_point lives.after point) later) free in
          placed-name all-after v place
          (fixed-beside (fixed_result op) after v (lower-live p (k, at) on).1
          ∙ lowers.has k p place (slice_get_within pieces k p at) at there on)

  lists-after :
      names_of (entries_at places.after point) ≡ with_result (defined op) (at_point lives.after point)
  lists-after =
      ap names_of afters
      ∙ same-members (names_of all-after) (with_result (defined op) (at_point lives.after point))
      (names-ascend all-after (fixed-rising (option_map pair_of (fixed_result op)) after lowers.rising))
      (ascending-result (defined op) (at_point lives.after point) ups)
      (λ v. (after-to v, after-from v))

  -- ---- spilled pieces, and the others

  in-slot :
      (kind : Kind) (k : ℕ) (p : Piece) (offset : ℤ) → p.kind ≡ kind → slice_get pieces k ≡ Some p
      → slice_get standing k ≡ Some (Slot offset) → InSlot places point offset kind p.var
  in-slot X k p offset e at there = stands-before k p (Slot offset) at there (ap is_upper e)
  in-slot Y k p offset e at there = (
    stands-before k p (Slot offset) at there (ap is_upper e),
    stands-after k p (Slot offset) at there (ap is_lower e),
  )
  in-slot Z k p offset e at there = stands-after k p (Slot offset) at there (ap is_lower e)

  spilled-in : SpilledInSlots places point pieces
  spilled-in k p at i =
      let out : slice_get spots k ≡ Some None =
      (solved.without k p at).1 (subst (λ (vs : List ℕ). IsIn p.var vs) spills i) in
      let (place, there, (offset, slot, is)) = are.each k p None at out in (
        offset,
        ap (λ (ss : List (Option ℤ)). slot_in ss p.var) slots-are ∙ slot,
        in-slot p.kind k p offset refl at (there ∙ ap Some is),
      )

  on-spot :
      (kind : Kind) (k : ℕ) (p : Piece) (s : Spot) → p.kind ≡ kind → slice_get pieces k ≡ Some p
      → slice_get standing k ≡ Some (Cells s) → spot_on places point kind p.var ≡ Some s
  on-spot X k p s e at there = ap cells_of (stands-before k p (Cells s) at there (ap is_upper e))
  on-spot Y k p s e at there =
      ap (λ (o : Option Place). both_cells (cells_of o) (cells_of (place_after places point p.var)))
      (stands-before k p (Cells s) at there (ap is_upper e))
      ∙ (ap (λ (o : Option Place). both_cells (Some s) (cells_of o))
      (stands-after k p (Cells s) at there (ap is_lower e))
      ∙ both-self s)
  on-spot Z k p s e at there = ap cells_of (stands-after k p (Cells s) at there (ap is_lower e))

  out-spilled : (k : ℕ) (p : Piece) → slice_get pieces k ≡ Some p → slice_get spots k ≡ Some None
      → has_point p.var spilled ≡ true
  out-spilled k p at out = in-test p.var spilled ((solved.without k p at).0 out)

  in-spot : (k : ℕ) (p : Piece) (s : Spot) → slice_get pieces k ≡ Some p → slice_get spots k ≡ Some (Some s)
      → (has_point p.var spilled ≡ false) × (spot_on places point p.kind p.var ≡ Some s)
  in-spot k p s at sees =
      let (place, there, is) = are.each k p (Some s) at sees in
      (free (two-tests (has_point p.var spilled)), on-spot p.kind k p s refl at (there ∙ ap Some is))
    where
      free : (has_point p.var spilled ≡ true) ⊎ (has_point p.var spilled ≡ false) → has_point p.var spilled ≡ false
      free (inl e) =
          let out : slice_get spots k ≡ Some None = (solved.without k p at).1 (test-in p.var spilled e) in
          absurd (none-some s (same_Some None (Some s) (sym out ∙ sees)))
      free (inr e) = e

  placed-on :
      IsLegalPlacement (areas_of op) (unspilled (spilled_at places point) pieces)
      (standings_of places point (unspilled (spilled_at places point) pieces))
  placed-on =
      subst
      (λ (vs : List ℕ). IsLegalPlacement (areas_of op) (unspilled vs pieces)
      (standings_of places point (unspilled vs pieces)))
      (sym spills)
      (subst (λ (ss : List Standing). IsLegalPlacement (areas_of op) (unspilled spilled pieces) ss)
      (standings-same places point spilled pieces spots solved.many out-spilled in-spot) solved.placed)

  -- the point is legal
  pub point-legal : IsLegalPoint flow lives places point op
  point-legal = record {
    lists_before = lists-before;
    lists_after = lists-after;
    operand = λ f is.
        ap (λ (es : List Entry). place_in es f.variable) befores ∙ fixed-here (fixed_use op) before f is;
    result = λ f is.
        ap (λ (es : List Entry). place_in es f.variable) afters ∙ fixed-here (fixed_result op) after f is;
    spilled = spilled-in;
    placed = placed-on;
  }

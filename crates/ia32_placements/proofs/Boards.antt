-- The pieces that stand on a legal board: each has its spot, and two that share a row are in columns apart.
use Rattle.std.proofs.Common.{◌≡◌, ◌≢◌, ◌⊎◌, ◌≤◌, ℕ, zero, suc, Bool, true, false, true≢false, IsTrue, not, ◌&&◌}
use Rattle.std.proofs.Common.{◌==◌, cond, List, [], ◌∷◌, ◌++◌, length, map, Option, Some, None, inl, inr, refl, sym, ap}
use Rattle.std.proofs.Common.{subst, arith, ◌∙◌}
use Rattle.std.specs.Prelude.{slice_get, drop}
use Rattle.std.proofs.lemmas.Bool.{cases_eq}
use Rattle.std.proofs.lemmas.List.{length-map}
use Rattle.std.proofs.lemmas.Option.{none-some, same_Some}
use Rattle.pcc_base.proofs.Lists.{all-at}
use Rattle.flow_graph.specs.Graphs.{has_point}
use Rattle.flow_liveness.proofs.Naming.{equal-test}
use Rattle.puzzle_board.specs.declared.area.Area.{Area}
use Rattle.puzzle_board.specs.declared.piece.Piece.{Piece}
use Rattle.puzzle_board.specs.declared.piece.Spot.{Spot}
use Rattle.puzzle_board.specs.Areas.{share_column, share_row}
use Rattle.puzzle_board.specs.Placements.{IsLegal, Standing, fits, overlap}
use Rattle.puzzle_board.specs.Places.{PlaceMap}
use Rattle.puzzle_board.proofs.Standings.{overlap-comm}
use Rattle.allocator.specs.PointMaps.{spot_on, standing_at, standings_of, unspilled}

-- ---- each piece stands

-- a piece stands once at most
few : (places : PlaceMap) (point : ℕ) (pieces : List Piece)
    → length (standings_of places point pieces) ≤ length pieces
few places point [] = omega arith
few places point (p ∷ pieces) = by (spot_on places point p.kind p.var) (few places point pieces)
  where
    by : (spot : Option Spot) → length (standings_of places point pieces) ≤ length pieces
        → length (standing_at p spot ++ standings_of places point pieces) ≤ length (p ∷ pieces)
    by None h = omega (arith, h)
    by (Some s) h = omega (arith, h)

abbrev pub Stands : PlaceMap → ℕ → List Piece → Piece → Type 0
Stands places point pieces p =
    (k : ℕ) × (spot : Spot) × (spot_on places point p.kind p.var ≡ Some spot)
    × (slice_get (standings_of places point pieces) k ≡ Some (record { piece = p; spot = spot }))

-- where the standings are those of all pieces, each piece has a spot, by which it stands
pub each-stands : (places : PlaceMap) (point : ℕ) (pieces : List Piece)
    → map (λ s. s.piece) (standings_of places point pieces) ≡ pieces → (k : ℕ) (p : Piece)
    → slice_get pieces k ≡ Some p → Stands places point pieces p
each-stands places point [] all k p e = absurd (none-some p e)
each-stands places point (x ∷ pieces) all k p e =
    by (spot_on places point x.kind x.var) refl all (λ rest j q f. each-stands places point pieces rest j q f) k e
  where
    as-long : map (λ s. s.piece) (standings_of places point pieces) ≡ x ∷ pieces
        → length (map (λ (s : Standing). s.piece) (standings_of places point pieces)) ≡ length (x ∷ pieces)
    as-long all = ap length all

    by : (spot : Option Spot) → spot_on places point x.kind x.var ≡ spot
        → map (λ s. s.piece) (standing_at x spot ++ standings_of places point pieces) ≡ x ∷ pieces
        → (map (λ s. s.piece) (standings_of places point pieces) ≡ pieces → (j : ℕ) (q : Piece)
        → slice_get pieces j ≡ Some q → Stands places point pieces q)
        → (k : ℕ) → slice_get (x ∷ pieces) k ≡ Some p → Stands places point (x ∷ pieces) p
    by None on all rest k e =
        absurd (omega (
          arith,
          few places point pieces,
          length-map (standings_of places point pieces) (λ (s : Standing). s.piece),
          as-long all,
        ))
    by (Some spot) on all rest zero e =
        let same = same_Some x p e in
        subst (λ (q : Piece). Stands places point (x ∷ pieces) q) same (
          0,
          spot,
          on,
          ap (λ (o : Option Spot). slice_get (standing_at x o ++ standings_of places point pieces) 0) on,
        )
    by (Some spot) on all rest (suc k) e =
        let (j, s, at, stands) = rest (ap (λ (ps : List Piece). drop 1 ps) all) k p e in (
          suc j,
          s,
          at,
          ap (λ (o : Option Spot). slice_get (standing_at x o ++ standings_of places point pieces) (suc j)) on
              ∙ stands,
        )

-- a piece of a variable that isn't spilled is one of the unspilled
pub unspilled-has : (spilled : List ℕ) (pieces : List Piece) (k : ℕ) (p : Piece) → slice_get pieces k ≡ Some p
    → has_point p.var spilled ≡ false → (j : ℕ) × (slice_get (unspilled spilled pieces) j ≡ Some p)
unspilled-has spilled [] k p e free = absurd (none-some p e)
unspilled-has spilled (x ∷ pieces) zero p e free = (
  0,
  subst (λ (q : Piece). slice_get (unspilled spilled (q ∷ pieces)) 0 ≡ Some p) (sym (same_Some x p e))
      (ap (λ (b : Bool). slice_get (cond b (unspilled spilled pieces) (p ∷ unspilled spilled pieces)) 0) free),
)
unspilled-has spilled (x ∷ pieces) (suc k) p e free =
    by (has_point x.var spilled) (unspilled-has spilled pieces k p e free)
  where
    by : (b : Bool) → (j : ℕ) × (slice_get (unspilled spilled pieces) j ≡ Some p)
        → (j : ℕ) × (slice_get (cond b (unspilled spilled pieces) (x ∷ unspilled spilled pieces)) j ≡ Some p)
    by true h = h
    by false (j, h) = (suc j, h)

-- ---- a legal board

pub legal-fits : (areas : List Area) (standings : List Standing) (k : ℕ) (s : Standing) → IsLegal areas standings
    → slice_get standings k ≡ Some s → fits areas s ≡ true
legal-fits areas [] k s legal e = absurd (none-some s e)
legal-fits areas (x ∷ standings) zero s legal e =
    subst (λ (y : Standing). fits areas y ≡ true) (same_Some x s e) legal.0
legal-fits areas (x ∷ standings) (suc k) s legal e = legal-fits areas standings k s legal.2 e

-- what isn't true is false
not-true : (b : Bool) → not b ≡ true → b ≡ false
not-true true e = absurd (true≢false (sym e))
not-true false e = refl

-- two standings have no cell in common
pub legal-apart : (areas : List Area) (standings : List Standing) (k l : ℕ) (s t : Standing)
    → IsLegal areas standings → k ≢ l → slice_get standings k ≡ Some s → slice_get standings l ≡ Some t
    → overlap s t ≡ false
legal-apart areas [] k l s t legal other e f = absurd (none-some s e)
legal-apart areas (x ∷ standings) zero zero s t legal other e f = absurd (other refl)
legal-apart areas (x ∷ standings) zero (suc l) s t legal other e f =
    subst (λ (y : Standing). overlap y t ≡ false) (same_Some x s e)
    (not-true (overlap x t) (all-at (λ (y : Standing). IsTrue (not (overlap x y))) standings l t legal.1 f))
legal-apart areas (x ∷ standings) (suc k) zero s t legal other e f =
    overlap-comm s t ∙ subst (λ (y : Standing). overlap y s ≡ false) (same_Some x t f)
    (not-true (overlap x s) (all-at (λ (y : Standing). IsTrue (not (overlap x y))) standings k s legal.1 e))
legal-apart areas (x ∷ standings) (suc k) (suc l) s t legal other e f =
    legal-apart areas standings k l s t legal.2 (λ same. other (ap suc same)) e f

-- so where they share a row they are in two areas, or in two columns of one
pub columns-apart : (s t : Standing) → overlap s t ≡ false → share_row s.piece.kind t.piece.kind ≡ true
    → (s.spot.area ≢ t.spot.area) ⊎ (share_column s.spot.columns t.spot.columns ≡ false)
columns-apart s t free row =
    by (cases_eq s.spot.area t.spot.area)
  where
    one : (a b c : Bool) → a ≡ true → c ≡ true → (a && (b && c)) ≡ false → b ≡ false
    one true true true e f g = absurd (true≢false g)
    one true false true e f g = refl
    one true b false e f g = absurd (true≢false (sym f))
    one false b c e f g = absurd (true≢false (sym e))

    by : (s.spot.area ≡ t.spot.area) ⊎ (s.spot.area ≢ t.spot.area)
        → (s.spot.area ≢ t.spot.area) ⊎ (share_column s.spot.columns t.spot.columns ≡ false)
    by (inl same) =
        inr (one (s.spot.area == t.spot.area) (share_column s.spot.columns t.spot.columns)
        (share_row s.piece.kind t.piece.kind) (equal-test s.spot.area t.spot.area same) row free)
    by (inr other) = inl other

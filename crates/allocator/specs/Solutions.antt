-- The spots of the pieces of a solved point.
use Rattle.std.specs.Prelude.{ℕ, ℤ, ◌≡◌, ◌↔◌, List, [], ◌∷◌, ◌++◌, length, map, Option, Some, None, slice_get}
use Rattle.flow_graph.specs.Graphs.{IsIn}
use Rattle.puzzle_board.specs.declared.area.Area.{Area}
use Rattle.puzzle_board.specs.declared.piece.Piece.{Piece}
use Rattle.puzzle_board.specs.declared.piece.Spot.{Spot}
use Rattle.puzzle_board.specs.declared.place.Place.{Place}
use Rattle.puzzle_board.specs.declared.place.Place.TheVariants.{Cells, Slot}
use Rattle.puzzle_board.specs.declared.piece.State.{State}
use Rattle.puzzle_board.specs.Boards.{spot_in}
use Rattle.puzzle_board.specs.Placements.{IsLegalPlacement, Standing}
use Rattle.allocator.specs.PointMaps.{standing_at, unspilled}
use Rattle.allocator.specs.Slots.{slot_in}

-- the spots of pieces by what has become of them
abbrev pub spots_of : List State → List (Option Spot)
spots_of states = map (λ s. spot_in (Some s)) states

-- the pieces that have spots, with them
abbrev pub standing_by : List Piece → List (Option Spot) → List Standing
standing_by [] spots = []
standing_by (piece ∷ pieces) [] = []
standing_by (piece ∷ pieces) (spot ∷ spots) = standing_at piece spot ++ standing_by pieces spots

-- the pieces of these variables have no spots, and the others have a legal placement
pub record AreSpots (areas : List Area) (pieces : List Piece) (spilled : List ℕ) (spots : List (Option Spot))
    : Type 0 where
  pub many : length spots ≡ length pieces
  pub without : (k : ℕ) (piece : Piece) → slice_get pieces k ≡ Some piece
      → (slice_get spots k ≡ Some None) ↔ IsIn piece.var spilled
  pub placed : IsLegalPlacement areas (unspilled spilled pieces) (standing_by pieces spots)

-- a piece with a spot stands there, and one without in the slot of its variable
abbrev pub StandsIn : Option Spot → Option ℤ → Place → Type 0
StandsIn (Some spot) slot place = place ≡ Cells spot
StandsIn None slot place = (offset : ℤ) × (slot ≡ Some offset) × (place ≡ Slot offset)

-- the places of pieces
pub record ArePlaces (slots : List (Option ℤ)) (pieces : List Piece) (spots : List (Option Spot)) (places : List Place)
    : Type 0 where
  pub many : length places ≡ length pieces
  pub each : (k : ℕ) (piece : Piece) (spot : Option Spot) → slice_get pieces k ≡ Some piece
      → slice_get spots k ≡ Some spot
      → (place : Place) × (slice_get places k ≡ Some place) × StandsIn spot (slot_in slots piece.var) place

-- The entries on one side of a point, made of its pieces.
use Rattle.std.specs.Prelude.{ℕ, ◌≡◌, ◌≢◌, ◌<◌, Bool, true, false, List, length, Option, Some, None, slice_get}
use Rattle.puzzle_board.specs.declared.piece.Kind.{Kind}
use Rattle.puzzle_board.specs.declared.piece.Kind.TheVariants.{X, Y, Z}
use Rattle.puzzle_board.specs.declared.piece.Piece.{Piece}
use Rattle.puzzle_board.specs.declared.piece.Spot.{Spot}
use Rattle.puzzle_board.specs.declared.place.Place.{Place}
use Rattle.puzzle_board.specs.declared.place.Place.TheVariants.{Cells}
use Rattle.puzzle_board.specs.Places.{Entry, IsRising, PlaceMap, entries_at, place_in, with_after, with_before}
use Rattle.puzzle_board.specs.Places.{with_place}

-- the kinds that stand somewhere before the op
abbrev pub is_upper : Kind → Bool
is_upper X = true
is_upper Y = true
is_upper Z = false

-- and after it
abbrev pub is_lower : Kind → Bool
is_lower X = false
is_lower Y = true
is_lower Z = true

-- the entries are those of the first n pieces that stand on this side
pub record ArePut (side : Kind → Bool) (pieces : List Piece) (places : List Place) (n : ℕ) (entries : List Entry)
    : Type 0 where
  pub rising : IsRising entries
  pub has : (k : ℕ) (p : Piece) (place : Place) → k < n → slice_get pieces k ≡ Some p
      → slice_get places k ≡ Some place
      → side p.kind ≡ true → place_in entries p.var ≡ Some place
  pub only : (v : ℕ) (place : Place) → place_in entries v ≡ Some place
      → (k : ℕ) × (p : Piece) × (k < n) × (slice_get pieces k ≡ Some p) × (side p.kind ≡ true) × (p.var ≡ v)

-- only the entries of the point have changed
pub record ChangesPoint (point : ℕ) (old new : PlaceMap) : Type 0 where
  pub spilled : new.spilled ≡ old.spilled
  pub slots : new.slots ≡ old.slots
  pub befores : length new.before ≡ length old.before
  pub afters : length new.after ≡ length old.after
  pub before : (q : ℕ) → q ≢ point → entries_at new.before q ≡ entries_at old.before q
  pub after : (q : ℕ) → q ≢ point → entries_at new.after q ≡ entries_at old.after q

-- the piece stands there, before the op, after it, or both
abbrev pub with_kind : PlaceMap → ℕ → Kind → ℕ → Place → PlaceMap
with_kind map point X v place = with_before map point v place
with_kind map point Y v place = with_after (with_before map point v place) point v place
with_kind map point Z v place = with_after map point v place

-- a fixed piece stands in its register
abbrev pub with_fixed : Option (ℕ × Spot) → List Entry → List Entry
with_fixed None entries = entries
with_fixed (Some fixed) entries = with_place entries fixed.0 (Cells fixed.1)

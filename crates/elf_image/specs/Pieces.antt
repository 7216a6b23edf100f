-- Segments of memory, and which of them have no address in common.
use Rattle.std.specs.Prelude.{ℕ, ◌+◌, ◌<◌, ◌≤◌, Bool, List}

-- a segment: its first bytes, and how many it has; the others are 0
pub record Piece : Type 0 where
  pub address : ℕ
  pub bytes : List ℕ
  pub size : ℕ
  pub readable : Bool
  pub writable : Bool
  pub runnable : Bool

-- the address is one of the segment's memory
abbrev pub HasAddress : Piece → ℕ → Type 0
HasAddress piece address = (piece.address ≤ address) × (address < piece.address + piece.size)

-- two segments have no address in common; a segment of size 0 has none, wherever it lies
abbrev pub AreApart : Piece → Piece → Type 0
AreApart a b = (address : ℕ) → HasAddress a address → HasAddress b address → ⊥

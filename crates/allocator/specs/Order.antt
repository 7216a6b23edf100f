-- The order of the pieces of a point.
use Rattle.std.specs.Prelude.{◌≡◌, ◌<◌, ◌⊎◌, List, [], ◌∷◌}
use Rattle.std.specs.List.{AllByRecursion}
use Rattle.puzzle_board.specs.declared.piece.Kind.TheVariants.{X, Z}
use Rattle.puzzle_board.specs.declared.piece.Piece.{Piece}

-- the first comes before the second: its variable is smaller, or it is the X of a variable and the second the Z
abbrev pub Precedes : Piece → Piece → Type 0
Precedes p q = (p.var < q.var) ⊎ ((p.var ≡ q.var) × (p.kind ≡ X) × (q.kind ≡ Z))

-- variables ascend, and two pieces of one variable are an X and then a Z
abbrev pub AreInOrder : List Piece → Type 0
AreInOrder [] = Unit {0}
AreInOrder (p ∷ pieces) = AllByRecursion (Precedes p) pieces × AreInOrder pieces

-- The blocks that statements of a switch start.
use Rattle.std.specs.Prelude.{ℕ, zero, suc, List, [], ◌∷◌, Option, None}
use Rattle.lower_lines.specs.Statements.{Labelled}

-- the blocks that statements start, by their places
abbrev pub starts_at : List (Option ℕ) → Labelled
starts_at [] place = None
starts_at (start ∷ starts) zero = start
starts_at (start ∷ starts) (suc place) = starts_at starts place

-- The blocks that labelled statements of a switch start.
use Rattle.std.specs.Prelude.{◌≡◌, ℕ, ◌+◌, List, Option, Some}
use Rattle.c_tree.specs.declared.statement.Label.{Label}
use Rattle.lower.specs.StartedBlocks.{starts_at}
use Rattle.lower_lines.specs.Statements.{labelled_before}

-- the blocks are those of labelled statements, from one on
abbrev pub AreStarts : ℕ → List Label → List (Option ℕ) → Type 0
AreStarts first labels starts = (place block : ℕ) → starts_at starts place ≡ Some block
    → block ≡ first + labelled_before labels place

-- Typed programs of files whose tokens are few are ones in memory, as lowering asks for them.
use Rattle.std.specs.Prelude.{◌≤◌, List, length, flat_map}
use Rattle.c_syntax.specs.Grammar.{unit_tokens}
use Rattle.c_syntax.specs.Statements.{ExternalTree}
use Rattle.c_tree.specs.Program.{Program}
use Rattle.c_typing.specs.Laws.{AreSources}
use Rattle.c_typing.specs.Typed.{IsAccepted}
use Rattle.lower_lines.specs.Words.{IsInMemory}

-- The limit on tokens is on those of all files together.
abbrev pub SourcesAreInMemory : Type 0
SourcesAreInMemory = (units : List (List ExternalTree)) (p : Program) → AreSources units
    → length (flat_map unit_tokens units) ≤ 0x10000 → IsAccepted units p → IsInMemory p

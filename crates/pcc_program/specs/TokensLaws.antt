-- A typed program is no larger than the tokens of its files, and so are graphs that are small for it.
use Rattle.std.specs.Prelude.{◌≡◌, ◌≤◌, ℕ, List, flat_map, length, sum_by}
use Rattle.c_syntax.specs.Grammar.{unit_tokens}
use Rattle.c_syntax.specs.Statements.{ExternalTree}
use Rattle.c_tree.specs.Program.{Program}
use Rattle.c_tree.specs.Sizes.{size_of}
use Rattle.c_typing.specs.Laws.{AreSources}
use Rattle.c_typing.specs.Typed.{IsAccepted, Typed}
use Rattle.c_front.specs.Units.{WithUnits}
use Rattle.flow_graph.specs.States.{GraphProgram}
use Rattle.lower_lines.specs.Lowering.{AreSmall, points_in}
use Rattle.lower_lines.specs.Programs.{lowered}
use Rattle.pcc_program.specs.Small.{AreSmallBeside, AreSmallFor}

-- Each part of a typed program has a token of its own in its files, which need not be within the limits.
abbrev pub PartsHaveTokens : Type 0
PartsHaveTokens = (units : List (List ExternalTree)) (p : Program) → AreSources units → Typed units p
    → size_of p ≤ length (flat_map unit_tokens units)

-- graphs that are small for the typed program of files are so for the tokens of the files
abbrev pub FilesBoundGraphs : Type 0
FilesBoundGraphs = (units : List (List ExternalTree)) (p : Program) (graphs : GraphProgram)
    → AreSources units → Typed units p → AreSmall p graphs → AreSmallFor (length (flat_map unit_tokens units)) graphs

-- graphs that are small for the accepted program of texts are so for the tokens of the texts
abbrev pub TextsBoundGraphs : Type 0
TextsBoundGraphs = (texts : List (List ℕ)) (p : Program) (graphs : GraphProgram)
    → WithUnits texts (λ units. IsAccepted units p) → AreSmall p graphs → AreSmallBeside texts graphs

-- There are files of ten tokens in all, with a typed program of three parts, whose graphs have four points: the laws
-- have something to speak of.
abbrev pub TenTokens : Type 0
TenTokens = (units : List (List ExternalTree)) × (p : Program) × AreSources units × Typed units p
    × (length (flat_map unit_tokens units) ≡ 10) × (size_of p ≡ 3) × (sum_by points_in (lowered p).functions ≡ 4)

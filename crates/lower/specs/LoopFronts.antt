-- The lines of a loop up to its turn, and those of a `do` before and behind its body.
use Rattle.std.specs.Prelude.{ℕ, List, [], ◌∷◌}
use Rattle.flow_graph.specs.declared.op.Op.TheVariants as op
use Rattle.lower_lines.specs.Lines.{Line, Start, Emit}
use Rattle.lower_lines.specs.Parts.{Part, Tests}

-- a loop up to its turn
abbrev pub loop_front : ℕ → List Line
loop_front start = Emit (op.Jump start) ∷ Start start ∷ Emit op.Turn ∷ []

abbrev pub do_front : ℕ → ℕ → List Line
do_front n start = Emit (op.Mark n) ∷ loop_front start

-- the test of a `do`
abbrev pub do_end : Part → ℕ → ℕ → ℕ → ℕ → List Line
do_end e test start exit block = Start test ∷ e.lines block 0 (Tests start exit)

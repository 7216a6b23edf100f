-- The lines of statements up to a statement in them, and behind it.
use Rattle.std.specs.Prelude.{ℕ, suc, ◌+◌, Bool, List, [], ◌∷◌, ◌++◌, Option}
use Rattle.c_tree.specs.Program.{Expression, First}
use Rattle.flow_graph.specs.declared.op.Op.TheVariants as op
use Rattle.lower_lines.specs.Lines.{Line, Start, Emit}
use Rattle.lower_lines.specs.Parts.{Part, Tests}
use Rattle.lower_lines.specs.Statements.{After, dead, dead_blocks, exit_blocks, exit_of, first_blocks, first_lines}
use Rattle.lower_lines.specs.Statements.{returned_lines, second_block, test_if_any}
use Rattle.lower_lines.specs.Variables.{Context}
use Rattle.lower.specs.LoopFronts.{loop_front}

-- an `if` up to the start of its first way, where the second one has a block that is named ahead
abbrev pub if_front : ℕ → Part → Bool → ℕ → ℕ → After → List Line
if_front n e nothing second block after =
    let first = block + exit_blocks after in
    Emit (op.Mark n) ∷ (e.lines (suc first) 0 (Tests first (second_block nothing (exit_of block after) second))
    ++ Start first ∷ [])

-- a loop behind its mark, up to its body
abbrev pub tested_front : Context → Option Expression → ℕ → After → List Line
tested_front c test block after =
    let start = block + exit_blocks after in
    loop_front start ++ test_if_any c test (start + 2) (suc start) (exit_of block after)

abbrev pub while_front : Context → ℕ → Option Expression → ℕ → After → List Line
while_front c n test block after = Emit (op.Mark n) ∷ tested_front c test block after

abbrev pub for_front : Context → ℕ → First → Option Expression → ℕ → After → List Line
for_front c n first test block after = Emit (op.Mark n) ∷ (first_lines c first block
    ++ tested_front c test (block + first_blocks c first) after)

-- a `return`
abbrev pub returned_whole : Context → ℕ → Option Expression → ℕ → After → List Line
returned_whole c n value block after = Emit (op.Mark n)
    ∷ (returned_lines c value (block + dead_blocks after) ++ dead block after)

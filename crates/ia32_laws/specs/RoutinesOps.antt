-- That the machine follows these ops through their rows, over any placement that supports the graph.
use Rattle.std.specs.Prelude.{◌≡◌, ℕ, ℤ, List, false, Some}
use Rattle.ia32_insn.specs.State as machine
use Rattle.flow_graph.specs.declared.op.Op.TheVariants as op
use Rattle.flow_graph.specs.Meaning.{act}
use Rattle.flow_graph.specs.States as graph
use Rattle.flow_graph.specs.States.{number_at, op_at}
use Rattle.flow_graph.specs.WellFormed.{IsState}
use Rattle.ia32_rows.specs.Follows.{Follows}
use Rattle.ia32_rows.specs.Placements.{Code}
use Rattle.ia32_rows.specs.Shows.{Shows}
use Rattle.ia32_rows.specs.Rows.{same_row}
use Rattle.ia32_laws.specs.Supports.{IsSupported}
use Rattle.ia32_laws.specs.KeepsOps.{RowAt, RowFollows, before_at}

-- the check that two numbers are the same, with its trap
abbrev pub NumbersSameFollow : Type 0
NumbersSameFollow =
    (a b : ℕ) (code : Code) (input : List ℕ) (g : graph.State) (s : machine.State) (x y : ℤ) → IsSupported code
    → IsState code.program g → Shows code input g s → op_at code.program g ≡ Some (op.Same a b)
    → number_at g a ≡ Some x → number_at g b ≡ Some y
    → RowAt code g (same_row (before_at code g a) (before_at code g b)) s
    → Follows code input s g false (act code.program g (op.Same a b))

-- an argument word
abbrev pub ParamFollows : Type 0
ParamFollows = (d k : ℕ) → RowFollows (op.Param d k)

-- the end of the run with the low byte of a number
abbrev pub ExitFollows : Type 0
ExitFollows = (a : ℕ) → RowFollows (op.Exit a)

-- the low byte of a number is written, and is the result
abbrev pub PutcharFollows : Type 0
PutcharFollows = (d a : ℕ) → RowFollows (op.Putchar d a)

-- a byte of the input, or -1 at its end
abbrev pub GetcharFollows : Type 0
GetcharFollows = (d : ℕ) → RowFollows (op.Getchar d)

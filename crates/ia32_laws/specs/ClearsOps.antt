-- That the machine follows the op that clears a frame array through its row, over any placement that supports the
-- graph.
use Rattle.std.specs.Prelude.{ℕ}
use Rattle.flow_graph.specs.declared.op.Op.TheVariants as op
use Rattle.ia32_laws.specs.KeepsOps.{RowFollows}

-- every element of a frame array of the current call becomes 0
abbrev pub ClearFollows : Type 0
ClearFollows = (k : ℕ) → RowFollows (op.Clear k)

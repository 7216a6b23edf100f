use Rattle.ia32_select.proofs.Tables.{AreDone}
use Rattle.ia32_select.proofs.table_of_moves.table_of.Given as goal

-- the blocks so far are done
abbrev pub invariant-loop-block : goal.invariant-loop-block
invariant-loop-block l = AreDone l.graph l.map l.block l.table

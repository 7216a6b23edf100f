-- One block after another.
use Rattle.std.proofs.Common.{arith}
use Rattle.ia32_select.proofs.Tables.{blocks-last, blocks-more}
use Rattle.ia32_select.proofs.table_of_moves.table_of.Goals as goal

pub loop-block-preserved : goal.loop-block-preserved
loop-block-preserved c =
    blocks-more c.args.graph.now c.args.map.now c.loop-block.block c.loop-block.table c.fill_block.new.table
    c.loop-block.invariant c.in_ok-fill_block.ensures

pub returns : goal.returns
returns c =
    blocks-last c.args.graph.now c.args.map.now c.loop-block.block c.loop-block.table
    (omega (arith, c.loop-block-test.false)) c.loop-block.invariant

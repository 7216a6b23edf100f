-- One file after the other.
use Rattle.c_front.proofs.Reading.{parsed_at, parsed_behind}
use Rattle.c_front.proofs.parsed.parse_files.Goals as goal

pub loop-file-preserved : goal.loop-file-preserved
loop-file-preserved c =
    parsed_at c.args.files.now c.loop-file.file-index c.file-item.result c.loop-file.units.items c.push.new.values.items
    c.in_ok-unit.unit c.loop-file-test.true c.file-item.is c.loop-file.invariant c.in_ok-unit.ensures.tree
    c.in_ok-push.ensures

pub returns-clause-trees : goal.returns-clause-trees
returns-clause-trees c =
    parsed_behind c.args.files.now c.loop-file.file-index c.loop-file.units.items c.loop-file-test.false
    c.loop-file.invariant

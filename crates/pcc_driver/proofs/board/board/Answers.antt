-- What is told of sources, and of the map of their program.
use Rattle.std.proofs.Common.{map}
use Rattle.c_tree.specs.Erased.{program_of}
use Rattle.pcc_driver.specs.Outside.{output_of}
use Rattle.pcc_driver.proofs.Mapping.{mapped_told, unmapped_told}
use Rattle.pcc_driver.proofs.board.board.Goals as goal

pub returns-in-Ok-clause-told : goal.returns-in-Ok-clause-told
returns-in-Ok-clause-told g c = λ f.
    let (texts, read, typed) = c.in-Ok.ensures.told f in
    mapped_told (g.F.FileStore.content c.args.files.now) (map (λ s. s.now) c.args.sources.now) texts
    (program_of c.in-Ok.program) (output_of g.O.Sink c.args.out.now) (output_of g.O.Sink c.put_map.new.out)
    c.put_map.result read typed c.put_map.ensures.put

pub returns-in-Err-clause-told : goal.returns-in-Err-clause-told
returns-in-Err-clause-told g c = λ f.
    unmapped_told (g.F.FileStore.content c.args.files.now) (map (λ s. s.now) c.args.sources.now)
    (output_of g.O.Sink c.args.out.now) c.in-Err.report (c.in-Err.ensures.told f)

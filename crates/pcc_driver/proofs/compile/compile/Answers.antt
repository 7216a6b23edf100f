-- What is told of sources, and of their program.
use Rattle.std.proofs.Common.{map}
use Rattle.pcc_driver.proofs.Written.{refused_told}
use Rattle.pcc_driver.proofs.compile.compile.Goals as goal

pub returns-in-Ok-clause-told : goal.returns-in-Ok-clause-told
returns-in-Ok-clause-told g c = λ f.
    let (texts, read, typed) = c.in-Ok.ensures.told f in
    c.write_program.ensures.told (c.program_of_sources.ensures.telling f) (g.F.FileStore.content c.args.files.now)
    (map (λ s. s.now) c.args.sources.now) texts (c.program_of_sources.ensures.kept f) read typed

pub returns-in-Err-clause-told : goal.returns-in-Err-clause-told
returns-in-Err-clause-told g c = λ f.
    refused_told c.in-Err.report c.args.name.now (map (λ s. s.now) c.args.sources.now)
    (g.F.FileStore.content c.args.files.now) (g.F.FileStore.content c.program_of_sources.new.files)
    (c.in-Err.ensures.told f) (c.program_of_sources.ensures.kept f)

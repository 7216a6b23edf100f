-- The report of texts without a typed program.
use Rattle.std.proofs.Common.{map}
use Rattle.pcc_driver.proofs.SourcesTold.{refused_told}
use Rattle.pcc_driver.proofs.typed_sources.program_of_sources.Goals as goal

pub returns-clause-told : goal.returns-clause-told
returns-clause-told g c = λ f.
    rw c.refused_report.ensures (refused_told (g.F.FileStore.content c.args.files.now)
    (map (λ s. s.now) c.args.sources.now) (map (λ t. t.items) c.in-Ok.texts.items) c.in-Err-typed_program.refused
    (c.in-Ok.ensures.told f) (rw c.as_slice.ensures.value at c.in-Err-typed_program.ensures.refused))

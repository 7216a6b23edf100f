use Rattle.std.proofs.Common.{◌≤◌, length, arith, refl}
use Rattle.ia32_machine.specs.First.{lent}
use Rattle.pcc_driver.specs.Sources.{file_limit}
use Rattle.pcc_driver.specs.Outside.{work_of}
use Rattle.pcc_driver.proofs.Running.{lent_first, machine_file, machine_streams, machine_told, no_machine_file}
use Rattle.pcc_driver.proofs.Running.{no_machine_told}
use Rattle.pcc_driver.proofs.run.run.Goals as goal

pub returns-in-Err-machine_of-clause-told : goal.returns-in-Err-machine_of-clause-told
returns-in-Err-machine_of-clause-told g c = λ f i.
    let small : length c.in-Ok.bytes.items ≤ file_limit = omega (arith, c.in-Ok.ensures.size) in
    no_machine_told c.args.steps c.in-Err-machine_of.report (g.F.FileStore.content c.args.files.now c.args.image.now)
    c.in-Ok.bytes.items
    (work_of g.F.FileStore g.I.Source g.O.Sink c.args.files.now c.args.input.now c.args.out.now)
    (work_of g.F.FileStore g.I.Source g.O.Sink c.read.new.self c.args.input.now c.args.out.now) (refl, refl)
    (c.in-Ok.ensures.told f) small c.in-Err-machine_of.ensures

pub returns-in-Ok-machine_of-clause-told : goal.returns-in-Ok-machine_of-clause-told
returns-in-Ok-machine_of-clause-told g c = λ f i.
    let small : length c.in-Ok.bytes.items ≤ file_limit = omega (arith, c.in-Ok.ensures.size) in
    let loaded = c.in-Ok-machine_of.ensures in
    rw c.end_report.ensures (machine_told c.args.steps c.run.result
    (g.F.FileStore.content c.args.files.now c.args.image.now)
    c.in-Ok.bytes.items
    (lent c.in-Ok-machine_of.machine (g.I.Source.left c.args.input.now)) c.run.new.self
    (work_of g.F.FileStore g.I.Source g.O.Sink c.args.files.now c.args.input.now c.args.out.now)
    (work_of g.F.FileStore g.I.Source g.O.Sink c.read.new.self c.run.new.input c.run.new.out)
    (c.in-Ok.ensures.told f) small
    (lent_first c.in-Ok.bytes.items loaded.0 c.in-Ok-machine_of.machine (g.I.Source.left c.args.input.now) loaded.1
    loaded.2)
    (c.run.ensures.told i))

pub returns-in-Err-machine_of-clause-file : goal.returns-in-Err-machine_of-clause-file
returns-in-Err-machine_of-clause-file g c = λ f.
    let small : length c.in-Ok.bytes.items ≤ file_limit = omega (arith, c.in-Ok.ensures.size) in
    no_machine_file c.in-Err-machine_of.report (g.F.FileStore.content c.args.files.now c.args.image.now)
    c.in-Ok.bytes.items
    (c.in-Ok.ensures.told f) small c.in-Err-machine_of.ensures

pub returns-in-Ok-machine_of-clause-file : goal.returns-in-Ok-machine_of-clause-file
returns-in-Ok-machine_of-clause-file g c = λ f.
    rw c.end_report.ensures (machine_file c.args.steps c.run.result
    (g.F.FileStore.content c.args.files.now c.args.image.now))

pub returns-in-Ok-machine_of-clause-streams_cause : goal.returns-in-Ok-machine_of-clause-streams_cause
returns-in-Ok-machine_of-clause-streams_cause g c =
    rw c.end_report.ensures (machine_streams c.args.steps c.run.result (g.I.Source.faults c.args.input.now)
    (g.I.Source.faults c.run.new.input) (g.O.Sink.counts c.args.out.now) (g.O.Sink.counts c.run.new.out)
    c.run.ensures.counted)

pub returns-in-Ok-machine_of-clause-input_tells : goal.returns-in-Ok-machine_of-clause-input_tells
returns-in-Ok-machine_of-clause-input_tells g c = c.run.ensures.input_tells

pub returns-in-Ok-machine_of-clause-out_tells : goal.returns-in-Ok-machine_of-clause-out_tells
returns-in-Ok-machine_of-clause-out_tells g c = c.run.ensures.out_tells

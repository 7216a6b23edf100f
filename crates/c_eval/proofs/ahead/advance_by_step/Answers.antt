use Rattle.std.proofs.Common.{refl}
use Rattle.std.proofs.lemmas.Result.{err_from_is_err_and}
use Rattle.c_eval_state.specs.Left.{left_of}
use Rattle.c_eval_state.specs.Views.{task_of}
use Rattle.c_tree.specs.Erased.{program_of}
use Rattle.c_eval.specs.Standing.{standing, streams_of}
use Rattle.c_eval.proofs.Advancing.{byte_steps, byte_stops, room_steps, room_stops}
use Rattle.c_eval.proofs.Stepping.{steps_done, stops_done}
use Rattle.c_eval.proofs.ahead.advance_by_step.Goals as goal

pub returns-in_err-perform : goal.returns-in_err-perform
returns-in_err-perform g c =
    let p = err_from_is_err_and c.from_residual.result c.from_residual.ensures.1 in
    rw (p.1, p.2) (stops_done (program_of c.args.program.now) (task_of c.args.task)
    (standing g.I.Source g.O.Sink (left_of c.args.left.now) c.args.store.now c.args.input.now c.args.out.now)
    (left_of c.perform.new.left) c.perform.new.store c.in_err-perform.field-0.0 c.requires.way
    c.in_err-perform.ensures)

pub returns-in_err-get-in-Byte : goal.returns-in_err-get-in-Byte
returns-in_err-get-in-Byte g c =
    let p = err_from_is_err_and c.from_residual-in_err-get-in-Byte.result c.from_residual-in_err-get-in-Byte.ensures.1
    in let is = rw c.in-Byte.is at c.in_ok-perform.ensures in
    rw (p.1, p.2) (byte_stops (program_of c.args.program.now) (task_of c.args.task) (left_of c.args.left.now)
    (left_of c.perform.new.left) (left_of c.get.new.left) c.args.store.now c.perform.new.store
    (streams_of g.I.Source g.O.Sink c.args.input.now c.args.out.now)
    (streams_of g.I.Source g.O.Sink c.get.new.input c.args.out.now) c.in_err-get-in-Byte.field-0.0 is.0 is.1
    (record { input = c.in_err-get-in-Byte.ensures.telling; out = λ h. h }) refl c.in_err-get-in-Byte.ensures.counted
    refl c.in_err-get-in-Byte.ensures.told)

pub returns-in_err-put-in-Room : goal.returns-in_err-put-in-Room
returns-in_err-put-in-Room g c =
    let p = err_from_is_err_and c.from_residual-in_err-put-in-Room.result c.from_residual-in_err-put-in-Room.ensures.1
    in let is = rw c.in-Room.is at c.in_ok-perform.ensures in
    rw (p.1, p.2) (room_stops (program_of c.args.program.now) (task_of c.args.task) (left_of c.args.left.now)
    (left_of c.perform.new.left) (left_of c.put.new.left) c.args.store.now c.perform.new.store
    (streams_of g.I.Source g.O.Sink c.args.input.now c.args.out.now)
    (streams_of g.I.Source g.O.Sink c.args.input.now c.put.new.out) c.in_err-put-in-Room.field-0.0 is.0 is.1
    c.requires.way (record { input = λ h. h; out = c.in_err-put-in-Room.ensures.telling }) refl
    c.in_err-put-in-Room.ensures.counted refl c.in_err-put-in-Room.ensures.told)

pub returns-in-Nothing : goal.returns-in-Nothing
returns-in-Nothing g c =
    steps_done (program_of c.args.program.now) (task_of c.args.task)
    (standing g.I.Source g.O.Sink (left_of c.args.left.now) c.args.store.now c.args.input.now c.args.out.now)
    (left_of c.perform.new.left) c.perform.new.store c.requires.way c.requires.fits
    (rw c.in-Nothing.is at c.in_ok-perform.ensures)

pub returns-in_ok-get-in-Byte : goal.returns-in_ok-get-in-Byte
returns-in_ok-get-in-Byte g c =
    let is = rw c.in-Byte.is at c.in_ok-perform.ensures in
    byte_steps (program_of c.args.program.now) (task_of c.args.task) (left_of c.args.left.now)
    (left_of c.perform.new.left) (left_of c.get.new.left) c.args.store.now c.perform.new.store
    (streams_of g.I.Source g.O.Sink c.args.input.now c.args.out.now)
    (streams_of g.I.Source g.O.Sink c.get.new.input c.args.out.now) is.0 is.1 is.2 c.requires.way c.requires.fits
    (record { input = c.in_ok-get-in-Byte.ensures.telling; out = λ h. h })
    (record { faults = c.in_ok-get-in-Byte.ensures.counted; counts = refl }) refl c.in_ok-get-in-Byte.ensures.left
    c.in_ok-get-in-Byte.ensures.told

pub returns-in_ok-put-in-Room : goal.returns-in_ok-put-in-Room
returns-in_ok-put-in-Room g c =
    let is = rw c.in-Room.is at c.in_ok-perform.ensures in
    room_steps (program_of c.args.program.now) (task_of c.args.task) (left_of c.args.left.now)
    (left_of c.perform.new.left) (left_of c.put.new.left) c.args.store.now c.perform.new.store
    (streams_of g.I.Source g.O.Sink c.args.input.now c.args.out.now)
    (streams_of g.I.Source g.O.Sink c.args.input.now c.put.new.out) is.0 is.1 is.2 c.requires.way c.requires.fits
    (record { input = λ h. h; out = c.in_ok-put-in-Room.ensures.telling })
    (record { faults = refl; counts = c.in_ok-put-in-Room.ensures.counted }) refl c.in_ok-put-in-Room.ensures.left
    c.in_ok-put-in-Room.ensures.told

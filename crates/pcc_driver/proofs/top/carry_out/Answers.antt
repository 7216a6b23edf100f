use Rattle.std.proofs.Common.{map, refl}
use Rattle.pcc_driver.specs.Outside.{work_of}
use Rattle.pcc_driver.proofs.CommandTold.{board_told, eval_told}
use Rattle.pcc_driver.proofs.top.carry_out.Goals as goal

pub returns-in-Run-clause-told : goal.returns-in-Run-clause-told
returns-in-Run-clause-told g c =
    rw c.in-Run.is (c.run.ensures.own, c.run.ensures.same, c.run.ensures.file, c.run.ensures.told)

pub returns-in-Board-clause-told : goal.returns-in-Board-clause-told
returns-in-Board-clause-told g c =
    rw c.in-Board.is (board_told (map (λ s. s.now) c.as_slice-in-Board.result.now)
    (map (λ s. s.now) c.in-Board.sources.items)
    (work_of g.F.FileStore g.I.Source g.O.Sink c.args.files.now c.args.input.now c.args.out.now)
    (work_of g.F.FileStore g.I.Source g.O.Sink c.board.new.files c.args.input.now c.board.new.out) c.board.result
    (rw c.as_slice-in-Board.ensures.value refl) c.board.ensures.same refl c.board.ensures.told)

pub returns-in-Eval-clause-told : goal.returns-in-Eval-clause-told
returns-in-Eval-clause-told g c =
    rw c.in-Eval.is (eval_told c.in-Eval.turns (map (λ s. s.now) c.as_slice-in-Eval.result.now)
    (map (λ s. s.now) c.in-Eval.sources.items)
    (work_of g.F.FileStore g.I.Source g.O.Sink c.args.files.now c.args.input.now c.args.out.now)
    (work_of g.F.FileStore g.I.Source g.O.Sink c.eval.new.files c.eval.new.input c.eval.new.out) c.eval.result
    (rw c.as_slice-in-Eval.ensures.value refl) c.eval.ensures.same c.eval.ensures.sources c.eval.ensures.told)

pub returns-in-Selftest-clause-told : goal.returns-in-Selftest-clause-told
returns-in-Selftest-clause-told g c = rw c.in-Selftest.is (refl, c.selftest.ensures.told)

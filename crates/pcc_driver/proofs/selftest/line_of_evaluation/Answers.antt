-- The line of the outcome over no input.
use Rattle.std.proofs.Common.{◌≡◌, ◌∙◌, ap, List, ℕ, []}
use Rattle.c_tree.specs.Erased.{program_of}
use Rattle.pcc_outside.specs.Memory.{SinkView}
use Rattle.pcc_driver.specs.Selftests.{eval_line}
use Rattle.pcc_driver.proofs.Selftesting.{evaluated_line, evaluated_spent, evaluated_trap}
use Rattle.pcc_driver.proofs.selftest.line_of_evaluation.Goals as goal

pub returns-in-Ok : goal.returns-in-Ok
returns-in-Ok c =
    evaluated_line (program_of c.args.program.now) c.args.turns c.in-Ended.status c.new-input.result c.eval.new.input
    c.new-out.result.taken c.eval.new.out.taken c.in-Ok.line.items (c.new-input.ensures ∙ c.new-2.ensures.items)
    (ap (λ (s : SinkView). s.taken) c.new-out.ensures) (c.in-Ended.ensures.told tt tt)
    (c.in-Ok.ensures ∙ ap (λ (w : List ℕ). eval_line w c.in-Ended.status) c.taken.ensures)

pub returns-in-Trapped : goal.returns-in-Trapped
returns-in-Trapped c =
    evaluated_trap (program_of c.args.program.now) c.args.turns c.new-input.result c.eval.new.input
    c.new-out.result.taken c.eval.new.out.taken c.in-Trapped.trap (c.new-input.ensures ∙ c.new-2.ensures.items)
    (c.in-Trapped.ensures.told tt tt)

pub returns-in-TurnsSpent : goal.returns-in-TurnsSpent
returns-in-TurnsSpent c =
    evaluated_spent (program_of c.args.program.now) c.args.turns c.new-input.result c.eval.new.input
    c.new-out.result.taken c.eval.new.out.taken (c.new-input.ensures ∙ c.new-2.ensures.items)
    (c.in-TurnsSpent.ensures.told tt tt)

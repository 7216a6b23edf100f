use Rattle.pcc_base.specs.Outcome.{nothing_listed}
use Rattle.c_eval_state.specs.Kept.{over}
use Rattle.c_tree.specs.Erased.{program_of, statement_of}
use Rattle.c_eval_state.specs.Left.{left_of}
use Rattle.c_eval_state.specs.Views.{part_task}
use Rattle.c_eval_state.specs.declared.task.StatementPart.TheVariants as parts
use Rattle.c_eval.proofs.Performing.{body_no_turn, done_plain, done_start, test_no_turn}
use Rattle.c_eval.proofs.steps.perform_part.Goals as goal

pub returns-in_ok-start-in-Start : goal.returns-in_ok-start-in-Start
returns-in_ok-start-in-Start c = rw c.in-Start.is (done_start (program_of c.args.program.now)
    (statement_of c.args.x.now) (left_of c.args.left.now) (left_of c.start.new.left) c.args.store.now
    (λ s. c.in_ok-start-in-Start.ensures nothing_listed s))

pub returns-in_ok-go_behind_test-in-Test : goal.returns-in_ok-go_behind_test-in-Test
returns-in_ok-go_behind_test-in-Test c = rw c.in-Test.is (done_plain (program_of c.args.program.now)
    (part_task parts.Test (statement_of c.args.x.now)) (left_of c.args.left.now) (left_of c.go_behind_test.new.left)
    c.args.store.now c.args.store.now (test_no_turn (program_of c.args.program.now) (statement_of c.args.x.now))
    (λ s. c.in_ok-go_behind_test-in-Test.ensures (program_of c.args.program.now) nothing_listed
    (over s c.args.store.now)))

pub returns-in_ok-go_behind_body-in-Body : goal.returns-in_ok-go_behind_body-in-Body
returns-in_ok-go_behind_body-in-Body c = rw c.in-Body.is (done_plain (program_of c.args.program.now)
    (part_task parts.Body (statement_of c.args.x.now)) (left_of c.args.left.now) (left_of c.go_behind_body.new.left)
    c.args.store.now c.args.store.now (body_no_turn (program_of c.args.program.now) (statement_of c.args.x.now))
    (λ s. c.in_ok-go_behind_body-in-Body.ensures (program_of c.args.program.now) nothing_listed
    (over s c.args.store.now)))

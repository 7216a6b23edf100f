use Rattle.std.proofs.Common.{sym, ◌∙◌}
use Rattle.pcc_base.specs.Outcome.{nothing_listed}
use Rattle.c_tree.specs.Erased.{program_of, statement_of}
use Rattle.c_eval_state.specs.Left.{left_of}
use Rattle.c_eval.proofs.Performing.{done_other}
use Rattle.c_eval.proofs.steps.perform_turn.Goals as goal

pub returns : goal.returns
returns c = done_other (program_of c.args.program.now) (statement_of c.args.x.now) (left_of c.args.left.now)
    (left_of c.drop_value.new.left) c.args.store.now (sym c.is_loop.ensures ∙ c.if-is_loop.false)
    (λ s. c.drop_value.ensures (program_of c.args.program.now) nothing_listed s)

use Rattle.pcc_program.proofs.EveryPoint.{every-point}
use Rattle.pcc_program.proofs.compiled_laws.right_code_is_true.Goals as goal

pub returns : goal.returns
returns c = every-point c.first_is_state.ensures c.step_keeps_state.ensures c.text_begins.ensures

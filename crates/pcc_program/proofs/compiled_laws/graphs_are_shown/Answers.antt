use Rattle.pcc_program.proofs.Shown.{graphs-are-shown}
use Rattle.pcc_program.proofs.compiled_laws.graphs_are_shown.Goals as goal

pub returns : goal.returns
returns c = graphs-are-shown c.first_is_state.ensures c.step_keeps_state.ensures

use Rattle.std.proofs.Common.{rules}
use Rattle.c_eval_state.specs.Left.{left_of}
use Rattle.c_eval_state.proofs.Stacking.{last_slice}
use Rattle.c_eval_state.proofs.evaluation.Evaluation.last_values.Goals as goal

pub returns : goal.returns
unfolding left_of
returns c = last_slice c.args.self.now.values.items c.as_slice.result.now c.args.count c.len.result
    c.as_slice.ensures.value (search rules) c.arguments_are_last.ensures c.requires

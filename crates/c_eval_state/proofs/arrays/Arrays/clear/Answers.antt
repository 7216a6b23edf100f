use Rattle.std.proofs.Common.{◌∙◌, [], ap}
use Rattle.c_eval_state.proofs.Spanned.{text-none}
use Rattle.std.specs.Prelude.{slice_set, slice_index_or}
use Rattle.c_eval_state.proofs.arrays.Arrays.clear.Goals as goal

pub returns : goal.returns
returns c =
    c.write.ensures
    ∙ ap (λ row. slice_set c.args.self.now c.args.array row) (text-none
    (slice_index_or c.args.self.now c.args.array []))

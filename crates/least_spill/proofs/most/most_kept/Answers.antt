use Rattle.least_spill.proofs.Choices.{without-wide}
use Rattle.least_spill.proofs.most.most_kept.Goals as goal

pub returns-in-None : goal.returns-in-None
returns-in-None c =
    without-wide c.args.areas c.args.pieces c.most_without_wide_y.result c.in-None.ensures
    c.most_without_wide_y.ensures

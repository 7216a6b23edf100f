use Rattle.ia32_rows.proofs.Filling.{fill-goes, zeros-load}
use Rattle.ia32_rows.proofs.shows.loops_fill.Goals as goal

pub returns : goal.returns
returns c = record { fills = fill-goes; zeros = zeros-load }

use Rattle.lower_lines.proofs.Closing.{all-lines-close}
use Rattle.lower_lines.proofs.bounds.all_lines_close.Goals as goal

pub returns : goal.returns
returns c = all-lines-close

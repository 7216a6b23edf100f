use Rattle.lower_lines.proofs.Ordered.{graphs-are-laid-out}
use Rattle.lower_lines.proofs.bounds.graphs_are_laid_out.Goals as goal

pub returns : goal.returns
returns c = graphs-are-laid-out

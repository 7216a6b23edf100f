use Rattle.lower_lines.proofs.Sizes.{graphs-are-small}
use Rattle.lower_lines.proofs.bounds.graphs_are_small.Goals as goal

pub returns : goal.returns
returns c = graphs-are-small

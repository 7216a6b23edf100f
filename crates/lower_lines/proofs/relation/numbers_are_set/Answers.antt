use Rattle.lower_lines.proofs.Changes.{numbers-set}
use Rattle.lower_lines.proofs.relation.numbers_are_set.Goals as goal

pub returns : goal.returns
returns c = numbers-set

use Rattle.c_typing.proofs.FilesCountUp.{statements_count_up}
use Rattle.c_typing.proofs.laws.statements_count_up.Goals as goal

pub returns : goal.returns
returns c = statements_count_up

use Rattle.c_typing.proofs.FilesAgree.{numbers_change_nothing}
use Rattle.c_typing.proofs.laws.numbers_change_nothing.Goals as goal

pub returns : goal.returns
returns c = numbers_change_nothing

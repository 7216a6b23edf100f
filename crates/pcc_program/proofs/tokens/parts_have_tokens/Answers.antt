use Rattle.pcc_program.proofs.Files.{parts_have_tokens}
use Rattle.pcc_program.proofs.tokens.parts_have_tokens.Goals as goal

pub returns : goal.returns
returns c = parts_have_tokens

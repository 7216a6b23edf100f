use Rattle.pcc_program.proofs.Tiny.{ten_tokens}
use Rattle.pcc_program.proofs.tokens.ten_tokens.Goals as goal

pub returns : goal.returns
returns c = ten_tokens

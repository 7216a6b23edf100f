use Rattle.ia32_laws.proofs.Data.{data-begin}
use Rattle.ia32_laws.proofs.starts.data_begin.Goals as goal

pub returns : goal.returns
returns c = data-begin

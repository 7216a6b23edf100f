use Rattle.ia32_laws.proofs.Addresses.{addresses-tell}
use Rattle.ia32_laws.proofs.comparisons.addresses_tell.Goals as goal

pub returns : goal.returns
returns c = record { tell = addresses-tell }

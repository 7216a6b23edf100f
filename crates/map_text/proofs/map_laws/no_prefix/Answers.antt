use Rattle.map_text.proofs.WholeMaps.{prefix-none}
use Rattle.map_text.proofs.map_laws.no_prefix.Goals as goal

pub returns : goal.returns
returns c = prefix-none

use Rattle.map_text.proofs.WholeMaps.{map-read}
use Rattle.map_text.proofs.map_laws.map_is_read.Goals as goal

pub returns : goal.returns
returns c = map-read

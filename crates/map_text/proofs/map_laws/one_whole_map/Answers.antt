use Rattle.map_text.proofs.WholeMaps.{whole-one}
use Rattle.map_text.proofs.map_laws.one_whole_map.Goals as goal

pub returns : goal.returns
returns c = whole-one

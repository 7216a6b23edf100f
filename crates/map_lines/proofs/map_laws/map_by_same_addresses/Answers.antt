use Rattle.map_lines.proofs.HomesPoints.{map-same}
use Rattle.map_lines.proofs.map_laws.map_by_same_addresses.Goals as goal

pub returns : goal.returns
returns c = map-same

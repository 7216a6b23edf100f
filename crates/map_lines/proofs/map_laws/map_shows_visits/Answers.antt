use Rattle.map_lines.proofs.ToldHomes.{map-shows-visits}
use Rattle.map_lines.proofs.map_laws.map_shows_visits.Goals as goal

pub returns : goal.returns
returns c = map-shows-visits

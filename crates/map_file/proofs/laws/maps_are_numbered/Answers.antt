use Rattle.map_file.proofs.Counted.{rules_number}
use Rattle.map_file.proofs.laws.maps_are_numbered.Goals as goal

pub returns : goal.returns
returns c = rules_number

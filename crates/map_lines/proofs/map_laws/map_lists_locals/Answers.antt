use Rattle.map_lines.proofs.HomesListing.{lists-locals}
use Rattle.map_lines.proofs.map_laws.map_lists_locals.Goals as goal

pub returns : goal.returns
returns c = lists-locals

use Rattle.lower_laws.proofs.WholePrograms.{graphs-are-there}
use Rattle.lower_laws.proofs.fits.graphs_are_there.Goals as goal

pub returns : goal.returns
returns c = graphs-are-there

use Rattle.c_front.proofs.Units.{units_are_few, units_are_sources}
use Rattle.c_front.proofs.unit_laws.units_are_sources.Goals as goal

pub returns-clause-sources : goal.returns-clause-sources
returns-clause-sources c = units_are_sources

pub returns-clause-few : goal.returns-clause-few
returns-clause-few c = units_are_few

use Rattle.c_check_laws.proofs.Sources.{texts_are_sources}
use Rattle.c_check_laws.proofs.sources_laws.texts_are_sources.Goals as goal

pub returns : goal.returns
returns c = texts_are_sources

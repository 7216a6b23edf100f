use Rattle.c_check.proofs.NumberedFiles.{defined_once}
use Rattle.c_check.proofs.numbering_laws.functions_are_defined_once.Goals as goal

pub returns : goal.returns
returns c = defined_once

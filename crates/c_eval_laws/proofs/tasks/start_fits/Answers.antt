use Rattle.c_eval_laws.proofs.Serving.{start_fits}
use Rattle.c_eval_laws.proofs.tasks.start_fits.Goals as goal

pub returns : goal.returns
returns c = start_fits

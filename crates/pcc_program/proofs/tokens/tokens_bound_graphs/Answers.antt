use Rattle.pcc_program.proofs.Small.{files_bound_graphs, texts_bound_graphs}
use Rattle.pcc_program.proofs.tokens.tokens_bound_graphs.Goals as goal

pub returns-clause-files : goal.returns-clause-files
returns-clause-files c = files_bound_graphs

pub returns-clause-texts : goal.returns-clause-texts
returns-clause-texts c = texts_bound_graphs

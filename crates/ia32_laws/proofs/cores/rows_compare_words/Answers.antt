use Rattle.ia32_laws.proofs.Branches.{branch-goes}
use Rattle.ia32_laws.proofs.Conditions.{set-puts}
use Rattle.ia32_laws.proofs.Flags.{places-compare}
use Rattle.ia32_laws.proofs.cores.rows_compare_words.Goals as goal

pub returns-clause-flags : goal.returns-clause-flags
returns-clause-flags c = places-compare

pub returns-clause-set : goal.returns-clause-set
returns-clause-set c = set-puts

pub returns-clause-branch : goal.returns-clause-branch
returns-clause-branch c = branch-goes

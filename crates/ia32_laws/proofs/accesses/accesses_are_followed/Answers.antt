use Rattle.ia32_laws.proofs.Reaching.{load-follows, store-follows}
use Rattle.ia32_laws.proofs.accesses.accesses_are_followed.Goals as goal

pub returns-clause-load : goal.returns-clause-load
returns-clause-load c = load-follows

pub returns-clause-store : goal.returns-clause-store
returns-clause-store c = store-follows

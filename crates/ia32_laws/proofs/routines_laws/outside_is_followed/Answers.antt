use Rattle.ia32_laws.proofs.Same.{numbers-same-follow}
use Rattle.ia32_laws.proofs.Params.{param-follows}
use Rattle.ia32_laws.proofs.KeepsPassed.{exit-follows}
use Rattle.ia32_laws.proofs.Putchar.{putchar-follows}
use Rattle.ia32_laws.proofs.Reading.{getchar-follows}
use Rattle.ia32_laws.proofs.routines_laws.outside_is_followed.Goals as goal

pub returns-clause-same : goal.returns-clause-same
returns-clause-same c = numbers-same-follow

pub returns-clause-param : goal.returns-clause-param
returns-clause-param c = param-follows

pub returns-clause-exit : goal.returns-clause-exit
returns-clause-exit c = exit-follows

pub returns-clause-putchar : goal.returns-clause-putchar
returns-clause-putchar c = putchar-follows

pub returns-clause-getchar : goal.returns-clause-getchar
returns-clause-getchar c = getchar-follows

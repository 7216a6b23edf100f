use Rattle.ia32_laws.proofs.Called.{main-is-called, main-is-shown}
use Rattle.ia32_laws.proofs.StartsReady.{mains-are-ready, objects-start}
use Rattle.ia32_laws.proofs.Start.{start-goes-over}
use Rattle.ia32_laws.proofs.starts.main_is_called.Goals as goal

pub returns-clause-start : goal.returns-clause-start
returns-clause-start c = start-goes-over

pub returns-clause-called : goal.returns-clause-called
returns-clause-called c = main-is-called

pub returns-clause-shown : goal.returns-clause-shown
returns-clause-shown c = main-is-shown

pub returns-clause-ready : goal.returns-clause-ready
returns-clause-ready c = mains-are-ready

pub returns-clause-starts : goal.returns-clause-starts
returns-clause-starts c = objects-start

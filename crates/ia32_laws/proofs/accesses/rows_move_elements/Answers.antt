use Rattle.ia32_laws.proofs.AccessesAddresses.{frame-puts}
use Rattle.ia32_laws.proofs.Loading.{load-puts}
use Rattle.ia32_laws.proofs.Storing.{element-stores, place-stores}
use Rattle.ia32_laws.proofs.accesses.rows_move_elements.Goals as goal

pub returns-clause-address : goal.returns-clause-address
returns-clause-address c = frame-puts

pub returns-clause-load : goal.returns-clause-load
returns-clause-load c = load-puts

pub returns-clause-store : goal.returns-clause-store
returns-clause-store c = element-stores

pub returns-clause-store_directly : goal.returns-clause-store_directly
returns-clause-store_directly c = place-stores

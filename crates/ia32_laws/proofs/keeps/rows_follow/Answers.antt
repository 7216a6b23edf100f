use Rattle.ia32_laws.proofs.Ops.{product-follows}
use Rattle.ia32_laws.proofs.Changes.{complement-follows, extension-follows, negation-follows, zero-extension-follows}
use Rattle.ia32_laws.proofs.Copies.{copy-follows}
use Rattle.ia32_laws.proofs.Marks.{mark-follows, turn-follows}
use Rattle.ia32_laws.proofs.Ops.{number-follows, sum-follows, difference-follows, and-follows, or-follows}
use Rattle.ia32_laws.proofs.Ops.{xor-follows}
use Rattle.ia32_laws.proofs.keeps.rows_follow.Goals as goal

pub returns-clause-number : goal.returns-clause-number
returns-clause-number c = number-follows

pub returns-clause-copy : goal.returns-clause-copy
returns-clause-copy c = copy-follows

pub returns-clause-sum : goal.returns-clause-sum
returns-clause-sum c = sum-follows

pub returns-clause-difference : goal.returns-clause-difference
returns-clause-difference c = difference-follows

pub returns-clause-and : goal.returns-clause-and
returns-clause-and c = and-follows

pub returns-clause-or : goal.returns-clause-or
returns-clause-or c = or-follows

pub returns-clause-xor : goal.returns-clause-xor
returns-clause-xor c = xor-follows

pub returns-clause-mark : goal.returns-clause-mark
returns-clause-mark c = mark-follows

pub returns-clause-turn : goal.returns-clause-turn
returns-clause-turn c = turn-follows

pub returns-clause-negation : goal.returns-clause-negation
returns-clause-negation c = negation-follows

pub returns-clause-complement : goal.returns-clause-complement
returns-clause-complement c = complement-follows

pub returns-clause-product : goal.returns-clause-product
returns-clause-product c = product-follows

pub returns-clause-extension : goal.returns-clause-extension
returns-clause-extension c = extension-follows

pub returns-clause-zero_extension : goal.returns-clause-zero_extension
returns-clause-zero_extension c = zero-extension-follows

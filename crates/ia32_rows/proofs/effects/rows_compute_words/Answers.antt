use Rattle.ia32_rows.proofs.Multiplying.{product-puts}
use Rattle.ia32_rows.proofs.Sums.{operate-gives, operation-puts, commuting-puts, sum-puts}
use Rattle.ia32_rows.proofs.effects.rows_compute_words.Goals as goal

pub returns-clause-in_register : goal.returns-clause-in_register
returns-clause-in_register c = operate-gives

pub returns-clause-operation : goal.returns-clause-operation
returns-clause-operation c = operation-puts

pub returns-clause-commuting : goal.returns-clause-commuting
returns-clause-commuting c = commuting-puts

pub returns-clause-sum : goal.returns-clause-sum
returns-clause-sum c = sum-puts

pub returns-clause-product : goal.returns-clause-product
returns-clause-product c = product-puts

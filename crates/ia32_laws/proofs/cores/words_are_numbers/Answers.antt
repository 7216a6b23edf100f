use Rattle.ia32_laws.proofs.Quotients.{unsigned-division-is, unsigned-division-traps}
use Rattle.ia32_laws.proofs.Numbers.{order-decides, unsigned-shift-is, zero-extension-is, left-shift-is, low-half-is}
use Rattle.ia32_laws.proofs.cores.words_are_numbers.Goals as goal

pub returns-clause-low_half : goal.returns-clause-low_half
returns-clause-low_half c = low-half-is

pub returns-clause-shl : goal.returns-clause-shl
returns-clause-shl c = left-shift-is

pub returns-clause-order : goal.returns-clause-order
returns-clause-order c = order-decides

pub returns-clause-shr : goal.returns-clause-shr
returns-clause-shr c = unsigned-shift-is

pub returns-clause-no_unsigned_quotient : goal.returns-clause-no_unsigned_quotient
returns-clause-no_unsigned_quotient c = unsigned-division-traps

pub returns-clause-unsigned_quotient : goal.returns-clause-unsigned_quotient
returns-clause-unsigned_quotient c = unsigned-division-is

pub returns-clause-zero_extension : goal.returns-clause-zero_extension
returns-clause-zero_extension c = zero-extension-is

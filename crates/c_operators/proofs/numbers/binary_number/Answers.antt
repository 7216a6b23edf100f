use Rattle.std.proofs.Common.{rules}
use Rattle.std.proofs.lemmas.Int.{wraps}
use Rattle.c_operators.proofs.Narrow.{same_count, shifted_left}
use Rattle.c_operators.proofs.numbers.binary_number.Goals as goal

pub returns-in-Multiply : goal.returns-in-Multiply
returns-in-Multiply c = search (rules, wraps)

pub returns-in-Divide : goal.returns-in-Divide
returns-in-Divide c = search rules

pub returns-in-Remainder : goal.returns-in-Remainder
returns-in-Remainder c = search rules

pub returns-in-Add : goal.returns-in-Add
returns-in-Add c = search (rules, wraps)

pub returns-in-Subtract : goal.returns-in-Subtract
returns-in-Subtract c = search (rules, wraps)

pub returns-in-ShiftLeft : goal.returns-in-ShiftLeft
returns-in-ShiftLeft c = search (rules, shifted_left, same_count)

pub returns-in-ShiftRight : goal.returns-in-ShiftRight
returns-in-ShiftRight c = search (rules, same_count)

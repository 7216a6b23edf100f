use Rattle.std.proofs.Common.{rules}
use Rattle.c_operators.proofs.Narrow.{low_8, low_16}
use Rattle.c_operators.proofs.numbers.convert.Goals as goal

pub returns-in-Char : goal.returns-in-Char
returns-in-Char c = search (rules, low_8)

pub returns-in-Short : goal.returns-in-Short
returns-in-Short c = search (rules, low_16)

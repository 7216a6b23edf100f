use Rattle.std.proofs.Common.{rules}
use Rattle.lower_builder.proofs.conversions.converting.Goals as goal

pub returns-in-Short : goal.returns-in-Short
returns-in-Short c = search rules

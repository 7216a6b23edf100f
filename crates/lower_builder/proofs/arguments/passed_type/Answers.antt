use Rattle.std.proofs.Common.{rules}
use Rattle.lower_builder.proofs.arguments.passed_type.Goals as goal

pub returns-in-Integer : goal.returns-in-Integer
returns-in-Integer c = search rules

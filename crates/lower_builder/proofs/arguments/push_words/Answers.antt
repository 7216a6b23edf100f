use Rattle.std.proofs.Common.{arith}
use Rattle.std.proofs.lemmas.Grind.{common_steps}
use Rattle.lower_builder.proofs.arguments.push_words.Goals as goal

pub returns-in_ok-push-in-Pointer-2 : goal.returns-in_ok-push-in-Pointer-2
returns-in_ok-push-in-Pointer-2 c = grind (arith, common_steps)

use Rattle.std.proofs.Common.{arith}
use Rattle.std.proofs.lemmas.Grind.{elements}
use Rattle.lower_builder.proofs.objects.text_count.Goals as goal

pub returns : goal.returns
returns c = grind (arith, elements)

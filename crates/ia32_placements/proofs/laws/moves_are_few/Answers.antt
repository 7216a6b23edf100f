use Rattle.ia32_placements.proofs.Moving.{moves-are-few, registers-are-few, slots-are-own}
use Rattle.ia32_placements.proofs.laws.moves_are_few.Goals as goal

pub returns : goal.returns
returns c = record { slots = slots-are-own; registers = registers-are-few; moves = moves-are-few }

use Rattle.std.proofs.Common.{rules}
use Rattle.allocator.proofs.slot_offsets.offset_of.Goals as goal

pub returns : goal.returns
returns c = search rules

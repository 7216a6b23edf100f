use Rattle.ia32_memory.proofs.First.{piece_at}
use Rattle.ia32_memory.proofs.memory.Memory.load.Goals as goal

pub area_from-requires : goal.area_from-requires
area_from-requires c =
    piece_at c.args.segments.now c.loop-segment.segment-index c.segment-item.result c.loop-segment-test.true
    c.segment-item.is c.requires

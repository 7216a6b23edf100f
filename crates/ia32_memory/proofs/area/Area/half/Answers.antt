use Rattle.std.proofs.Common.{ap}
use Rattle.ia32_insn.specs.State as state
use Rattle.ia32_memory.proofs.Keeping.{room-there}
use Rattle.ia32_memory.proofs.area.Area.half.Goals as goal

pub half-requires-clause-there : goal.half-requires-clause-there
half-requires-clause-there c =
    room-there c.args.self.now c.self.inside.cells c.self.inside.address c.args.address 2 c.self.invariant.0
    (ap (λ (a : state.Area). a.address) c.self.view_is) (ap (λ (a : state.Area). a.bytes) c.self.view_is) c.requires

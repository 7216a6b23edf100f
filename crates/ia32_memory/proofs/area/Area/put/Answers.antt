use Rattle.std.proofs.Common.{ap, length}
use Rattle.ia32_insn.specs.State as state
use Rattle.ia32_memory.proofs.Keeping.{room-there}
use Rattle.ia32_memory.proofs.area.Area.put.Goals as goal

pub put-requires-clause-there : goal.put-requires-clause-there
put-requires-clause-there c =
    room-there c.args.self.now c.self.inside.cells c.self.inside.address c.args.address (length c.args.bytes.now)
    c.self.invariant.0 (ap (λ (a : state.Area). a.address) c.self.view_is)
    (ap (λ (a : state.Area). a.bytes) c.self.view_is) c.requires

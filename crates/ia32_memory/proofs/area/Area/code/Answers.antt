use Rattle.std.proofs.Common.{ap, arith}
use Rattle.ia32_insn.specs.State as state
use Rattle.ia32_memory.proofs.Keeping.{room-there}
use Rattle.ia32_memory.proofs.area.Area.code.Goals as goal

pub rest-requires-clause-there : goal.rest-requires-clause-there
rest-requires-clause-there c =
    let room = room-there c.args.self.now c.self.inside.cells c.self.inside.address c.args.address 1 c.self.invariant.0
    (ap (λ (a : state.Area). a.address) c.self.view_is) (ap (λ (a : state.Area). a.bytes) c.self.view_is)
    c.requires.there in
    omega (arith, room)

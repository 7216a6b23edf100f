use Rattle.std.proofs.Common.{ap, arith}
use Rattle.ia32_insn.specs.State as state
use Rattle.ia32_memory.proofs.Keeping.{room-there}
use Rattle.ia32_memory.proofs.area.Area.bytes.Goals as goal

pub settle-requires-clause-there : goal.settle-requires-clause-there
settle-requires-clause-there c =
    room-there c.args.self.now c.self.inside.cells c.self.inside.address c.args.address c.args.count c.self.invariant.0
    (ap (λ (a : state.Area). a.address) c.self.view_is) (ap (λ (a : state.Area). a.bytes) c.self.view_is) c.requires

pub kept-requires-clause-there : goal.kept-requires-clause-there
kept-requires-clause-there c =
    let room = room-there c.args.self.now c.self.inside.cells c.self.inside.address c.args.address c.args.count
    c.self.invariant.0 (ap (λ (a : state.Area). a.address) c.self.view_is)
    (ap (λ (a : state.Area). a.bytes) c.self.view_is) c.requires in
    omega (arith, room, c.settle.ensures.kept.size)

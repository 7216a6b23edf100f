use Rattle.std.proofs.Common.{◌≡◌, sym, ◌∙◌, arith}
use Rattle.parallel_copies.proofs.Doing.{busy-room}
use Rattle.parallel_copies.proofs.copies.busy_moves.Goals as goal

pub push-requires : goal.push-requires
push-requires c = (
  omega arith,
  busy-room c.args.moves.now c.loop-m.waiting.items c.loop-m.m-index _ c.loop-m.invariant c.loop-m-test.true
      (sym c.is_busy.ensures ∙ c.if-is_busy.true) c.requires,
)

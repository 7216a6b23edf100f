use Rattle.std.proofs.Common.{◌<◌, ℕ, length}
use Rattle.allocator.proofs.OneMore.{every-get}
use Rattle.allocator.proofs.Ordered.{all-more}
use Rattle.allocator.proofs.point_pieces.pieces_for.Goals as goal

pub push_pieces-requires-clause-var : goal.push_pieces-requires-clause-var
push_pieces-requires-clause-var c =
    every-get (λ (v : ℕ). v < length c.args.form.now.graph.widths) c.args.vars.now c.loop-i.i c.requires.vars
    c.loop-i-test.true

pub loop-i-preserved : goal.loop-i-preserved
loop-i-preserved c =
    let more = all-more c.args.form.now.graph c.args.form.now.lives c.args.point c.args.op.now c.args.vars.now
    c.loop-i.i c.loop-i-test.true in
    let step = c.in_ok-push_pieces.ensures in
    let far = c.loop-i.invariant in
    cc

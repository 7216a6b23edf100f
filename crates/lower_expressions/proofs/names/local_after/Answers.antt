use Rattle.std.proofs.lemmas.Result.{on_ok_weaker}
use Rattle.lower_lines.specs.Expressions.{AtLocal, one_part, read_part, update_part}
use Rattle.lower_builder.specs.Sites.{context_of}
use Rattle.lower_builder.specs.Spots.{spot_of}
use Rattle.lower_builder.specs.MoveViews.{wanted_of}
use Rattle.lower_expressions.proofs.Naming.{after-whole, local-free}
use Rattle.lower_expressions.proofs.names.local_after.Goals as goal

pub returns : goal.returns
returns c =
    let s = context_of c.args.site.now in
    on_ok_weaker c.delivered.result (λ added. after-whole s c.args.of (read_part s c.args.of (AtLocal c.args.place))
    (update_part s c.args.of c.args.operator (AtLocal c.args.place) (one_part s)) c.args.level c.in_ok-above.above
    (wanted_of c.args.wanted) (spot_of c.in_ok-own.own) c.in_ok-above.ensures (local-free s c.args.of c.args.place)
    c.in_ok-own.ensures
    c.in_ok-local.ensures c.in_ok-add_to_local.ensures added) c.delivered.ensures

use Rattle.std.proofs.lemmas.Result.{on_ok_weaker}
use Rattle.lower_lines.specs.Expressions.{AtObject, one_part, read_part, update_part}
use Rattle.lower_lines.specs.Parts.{Own}
use Rattle.lower_builder.specs.Sites.{context_of}
use Rattle.lower_builder.specs.Spots.{spot_of}
use Rattle.lower_builder.specs.MoveViews.{wanted_of}
use Rattle.lower_expressions.proofs.Naming.{after-whole, object-free, object-read-adds}
use Rattle.lower_expressions.proofs.names.object_after.Goals as goal

pub returns : goal.returns
returns c =
    let s = context_of c.args.site.now in
    on_ok_weaker c.delivered.result (λ added. after-whole s c.args.of (read_part s c.args.of (AtObject c.args.k))
    (update_part s c.args.of c.args.operator (AtObject c.args.k) (one_part s)) c.args.level c.in_ok-above.above
    (wanted_of c.args.wanted) (spot_of c.in_ok-own.own) c.in_ok-above.ensures (object-free s c.args.of c.args.k)
    c.in_ok-own.ensures
    (object-read-adds s c.args.of c.args.k c.args.level Own c.number_type.result
    c.number_type.ensures c.in_ok-object.ensures) c.in_ok-add_to_object.ensures added) c.delivered.ensures

use Rattle.std.proofs.Common.{refl, suc}
use Rattle.std.proofs.lemmas.Result.{on_ok_weaker}
use Rattle.c_tree.specs.Program.{int}
use Rattle.lower_lines.specs.Expressions.{one_part}
use Rattle.lower_builder.specs.Sites.{context_of}
use Rattle.lower_builder.specs.Spots.{spot_of}
use Rattle.lower_builder.specs.MoveViews.{wanted_of}
use Rattle.lower_expressions.proofs.Naming.{object-updated}
use Rattle.lower_expressions.proofs.names.add_to_object.Goals as goal

pub returns : goal.returns
returns c =
    let s = context_of c.args.site.now in
    on_ok_weaker c.set_object.result (λ added. object-updated s c.args.of c.args.k c.args.operator c.args.level
    (suc c.args.level) (wanted_of c.args.wanted)
    (one_part s) c.number_type-t.result int (spot_of c.in_ok-x.x) (spot_of c.in_ok-y.y) c.number_type-t.ensures refl
    refl c.in_ok-object.ensures c.in_ok-x.ensures c.in_ok-y.ensures.adds c.in_ok-y.ensures.spot
    added) c.set_object.ensures

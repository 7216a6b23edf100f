use Rattle.std.proofs.Common.{refl, suc, true}
use Rattle.std.proofs.lemmas.Result.{on_ok_weaker}
use Rattle.c_tree.specs.Program.{int}
use Rattle.lower_lines.specs.Expressions.{one_part}
use Rattle.lower_builder.specs.Sites.{context_of}
use Rattle.lower_builder.specs.Spots.{spot_of}
use Rattle.lower_builder.specs.MoveViews.{wanted_of}
use Rattle.lower_expressions.proofs.Naming.{local-assigned}
use Rattle.lower_expressions.proofs.names.add_to_local.Goals as goal

pub returns : goal.returns
returns c =
    let s = context_of c.args.site.now in
    on_ok_weaker c.set_local.result (λ added. local-assigned s c.args.of c.args.place c.args.operator c.args.level
    (suc c.args.level) (wanted_of c.args.wanted)
    (one_part s) true int (spot_of c.in_ok-x.x) (spot_of c.in_ok-y.y) refl refl refl c.in_ok-x.ensures.adds
    c.in_ok-x.ensures.spot c.in_ok-y.ensures.adds c.in_ok-y.ensures.spot added) c.set_local.ensures

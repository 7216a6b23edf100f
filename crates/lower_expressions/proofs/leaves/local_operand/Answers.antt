use Rattle.std.proofs.Common.{sym, ap, ◌∙◌}
use Rattle.std.specs.Prelude.{option_map}
use Rattle.lower_lines.specs.Expressions.{local_part}
use Rattle.lower_lines.specs.Parts.{if_stays}
use Rattle.lower_builder.specs.Sites.{context_of}
use Rattle.lower_builder.specs.Spots.{spot_of}
use Rattle.lower_builder.proofs.Joined.{operand-some, operand-some-spot}
use Rattle.lower_expressions.proofs.leaves.local_operand.Goals as goal

pub returns-in-Some-clause-adds : goal.returns-in-Some-clause-adds
returns-in-Some-clause-adds c =
    let s = context_of c.args.site.now in
    let a = local_part s c.args.of c.args.place in
    operand-some s c.args.stays a c.args.level (spot_of c.in-Some.spot) c.args.lines.now
    (ap (if_stays c.args.stays) (sym c.local_stands.ensures) ∙ (sym c.if_stays.ensures
    ∙ ap (option_map spot_of) c.in-Some.is))

pub returns-in-Some-clause-spot : goal.returns-in-Some-clause-spot
returns-in-Some-clause-spot c =
    let s = context_of c.args.site.now in
    let a = local_part s c.args.of c.args.place in
    operand-some-spot s c.args.stays a c.args.level (spot_of c.in-Some.spot)
    (ap (if_stays c.args.stays) (sym c.local_stands.ensures) ∙ (sym c.if_stays.ensures
    ∙ ap (option_map spot_of) c.in-Some.is))

use Rattle.allocator.proofs.Ordered.{name-of, on-ok, pushed}
use Rattle.allocator.proofs.variable_pieces.push_pieces.Goals as goal

pub returns : goal.returns
returns c =
    on-ok c.push_if-2.result _ _
    (pushed c.args.form.now.graph c.args.form.now.lives c.args.point c.args.op.now c.args.var c.args.pieces.now.items
    c.push_if.new.pieces.items c.push_if-2.new.pieces.items c.is_listed-before.result c.is_listed-after.result
    c.is_named-defined.result c.is_named-fixed_before.result c.is_named-fixed_after.result c.only.result
    c.only-2.result c.use_kind-kind.result c.width-width.result c.variable_of.result c.variable_of-2.result
    (cc) (cc) (cc) c.is_named-fixed_before.ensures
    (name-of c.fixed_use.result c.variable_of.result _ c.fixed_use.ensures c.variable_of.ensures)
    c.is_named-fixed_after.ensures
    (name-of c.fixed_result.result c.variable_of-2.result _ c.fixed_result.ensures c.variable_of-2.ensures)
    c.use_kind-kind.ensures (cc) c.only.ensures c.only-2.ensures c.in_ok-push_if.ensures)
    c.push_if-2.ensures

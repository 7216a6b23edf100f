use Rattle.std.proofs.Common.{rules, ◌≡◌}
use Rattle.c_tree.specs.Erased.{statements_of}
use Rattle.lower.proofs.Bodies.{function-whole}
use Rattle.lower_builder.specs.Sites.{context_of}
use Rattle.lower.proofs.functions.add_function.Goals as goal

pub returns : goal.returns
returns c =
    let is : statements_of c.as_slice.result.now ≡ (context_of c.args.site.now).function.body = search rules in
    function-whole (context_of c.args.site.now) (statements_of c.as_slice.result.now) is c.in_ok-start.ensures
    c.in_ok-emit.ensures c.in_ok-take_parameters.ensures c.in_ok-sequence.ensures

use Rattle.std.proofs.Common.{rules, ◌≡◌, ap, ◌∙◌, map}
use Rattle.c_tree.specs.declared.expression.Expression as built
use Rattle.c_tree.specs.declared.expression.Expression.TheViews.{the_lemmas}
use Rattle.c_tree.specs.Erased.{expression_of}
use Rattle.c_tree.specs.Program as typed
use Rattle.c_check_expressions.specs.Arguments.{before_others}
use Rattle.c_check_expressions.proofs.Gathering.{row_is}
use Rattle.c_check_expressions.proofs.calls.call_tree.Goals as goal

pub returns : goal.returns
returns c = λ es is.
    let tree : expression_of (built.Call c.args.of c.args.number c.args.values) ≡ typed.Call c.args.of c.args.number
    (before_others (map expression_of c.args.values.items) typed.NoMore) = search (rules, the_lemmas, row_is) in
    tree ∙ ap (typed.Call c.args.of c.args.number) is

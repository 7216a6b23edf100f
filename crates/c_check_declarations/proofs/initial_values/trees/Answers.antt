use Rattle.std.proofs.Common.{◌≡◌, sym, ap, subst, arith, map, drop, length, ◌+◌, ◌-◌, ◌≤◌, nat_lt}
use Rattle.c_tree.specs.Erased.{expression_of}
use Rattle.c_typing.specs.Checked.{if_fits}
use Rattle.c_typing.specs.Initialisers.{values_for}
use Rattle.c_typing.specs.Rows.{assigned}
use Rattle.c_check_expressions.specs.Arguments.{AreTrees, given_of}
use Rattle.c_check_expressions.specs.Said.{IsSaid}
use Rattle.c_check_expressions.proofs.Gathering.{given_all}
use Rattle.c_check_declarations.proofs.Lists.{gathered_all, gathered_none, gathered_one}
use Rattle.c_check_declarations.specs.InitialValues.{IsPlainTree, row_within}
use Rattle.c_check_declarations.proofs.GivenValues.{next_row, none_left}
use Rattle.c_check_declarations.proofs.PushedTrees.{AreTreesOf, push_tree}
use Rattle.c_check_declarations.proofs.initial_values.trees.Goals as goal

pub loop-e-init : goal.loop-e-init
loop-e-init c = gathered_none AreTreesOf
    (values_for (assigned c.args.to) c.args.room (map (given_of c.args.scopes.now) c.args.values.now))
    c.new.result c.args.notes.now (ap (map expression_of) c.new.ensures.items)

pub loop-e-preserved : goal.loop-e-preserved
loop-e-preserved c =
    let es = c.args.values.now in
    let i = c.loop-e.e-index in
    let e = c.e-item.result in
    let s = c.args.scopes.now in
    let row = assigned c.args.to in
    let one : c.saturating_sub-free.result ≡ c.loop-e.free - 1 = omega arith in
    gathered_one AreTreesOf IsPlainTree push_tree
    (values_for row c.args.room (map (given_of s) es))
    (values_for row c.loop-e.free (map (given_of s) (drop i es)))
    (values_for row c.saturating_sub-free.result (map (given_of s) (drop (i + 1) es)))
    (if_fits (given_of s e).value (row_within (nat_lt 0 c.loop-e.free) row (given_of s e).at))
    c.loop-e.trees c.in_ok-trees.trees c.in_ok-part.part c.args.notes.now c.loop-e.notes c.tree_value.new.notes
    (next_row row s es i e c.loop-e.free c.saturating_sub-free.result c.loop-e-test.true c.e-item.is one)
    c.in_ok-trees.ensures c.in_ok-part.ensures c.loop-e.invariant

pub returns : goal.returns
returns c =
    let es = c.args.values.now in
    let s = c.args.scopes.now in
    let row = assigned c.args.to in
    let past : length es ≤ c.loop-e.e-index = omega (arith, c.loop-e-test.false) in
    subst (λ gs. IsSaid AreTrees (values_for row c.args.room gs) c.loop-e.trees c.args.notes.now c.loop-e.notes)
    (sym (given_all s es))
    (gathered_all AreTreesOf (values_for row c.args.room (map (given_of s) es))
    (values_for row c.loop-e.free (map (given_of s) (drop c.loop-e.e-index es)))
    c.loop-e.trees c.args.notes.now c.loop-e.notes (none_left row s es c.loop-e.e-index c.loop-e.free past)
    c.loop-e.invariant)

use Rattle.std.proofs.Common.{◌≡◌, ℤ, sym, subst, arith, map, drop, length, ◌+◌, ◌-◌, ◌≤◌, nat_lt}
use Rattle.c_typing.specs.Checked.{if_fits}
use Rattle.c_typing.specs.Initialisers.{constant_for, values_for}
use Rattle.c_check_expressions.specs.Arguments.{given_of}
use Rattle.c_check_expressions.specs.Said.{IsSaid}
use Rattle.c_check_expressions.proofs.Gathering.{given_all}
use Rattle.c_check_declarations.specs.DeclaratorAnswers.{AreSame, IsSame}
use Rattle.c_check_declarations.proofs.Lists.{AreTheSame, gathered_all, gathered_none, gathered_one, push_same}
use Rattle.c_check_declarations.specs.InitialValues.{row_within}
use Rattle.c_check_declarations.proofs.GivenValues.{next_row, none_left}
use Rattle.c_check_declarations.proofs.initial_values.constants.Goals as goal

pub loop-e-init : goal.loop-e-init
loop-e-init c = gathered_none (AreTheSame {A = ℤ})
    (values_for (constant_for c.args.of) c.args.room (map (given_of c.args.scopes.now) c.args.values.now))
    c.new.result c.args.notes.now c.new.ensures.items

pub loop-e-preserved : goal.loop-e-preserved
loop-e-preserved c =
    let es = c.args.values.now in
    let i = c.loop-e.e-index in
    let e = c.e-item.result in
    let s = c.args.scopes.now in
    let row = constant_for c.args.of in
    let one : c.saturating_sub-free.result ≡ c.loop-e.free - 1 = omega arith in
    gathered_one (AreTheSame {A = ℤ}) (IsSame {A = ℤ}) push_same
    (values_for row c.args.room (map (given_of s) es))
    (values_for row c.loop-e.free (map (given_of s) (drop i es)))
    (values_for row c.saturating_sub-free.result (map (given_of s) (drop (i + 1) es)))
    (if_fits (given_of s e).value (row_within (nat_lt 0 c.loop-e.free) row (given_of s e).at))
    c.loop-e.constants c.in_ok-constants.constants c.in_ok-part.part c.args.notes.now c.loop-e.notes
    c.constant_given.new.notes
    (next_row row s es i e c.loop-e.free c.saturating_sub-free.result c.loop-e-test.true c.e-item.is one)
    c.in_ok-constants.ensures c.in_ok-part.ensures c.loop-e.invariant

pub returns : goal.returns
returns c =
    let es = c.args.values.now in
    let s = c.args.scopes.now in
    let row = constant_for c.args.of in
    let past : length es ≤ c.loop-e.e-index = omega (arith, c.loop-e-test.false) in
    subst (λ gs. IsSaid (AreSame {A = ℤ}) (values_for row c.args.room gs) c.loop-e.constants c.args.notes.now
    c.loop-e.notes) (sym (given_all s es))
    (gathered_all (AreTheSame {A = ℤ}) (values_for row c.args.room (map (given_of s) es))
    (values_for row c.loop-e.free (map (given_of s) (drop c.loop-e.e-index es)))
    c.loop-e.constants c.args.notes.now c.loop-e.notes (none_left row s es c.loop-e.e-index c.loop-e.free past)
    c.loop-e.invariant)

-- Each part is judged by the walk, and put together outside it.
use Rattle.std.proofs.Common.{rules, ◌≡◌, ◌∙◌, sym, ap, subst, arith, List, map, length, suc, ◌+◌, IfOk, w32}
use Rattle.std.proofs.Common.{FitsSigned}
use Rattle.std.proofs.lemmas.Int.{to_z-of_z}
use Rattle.std.proofs.lemmas.List.{length-map}
use Rattle.std.proofs.lemmas.Result.{IfOk-weaker}
use Rattle.c_syntax.specs.declared.expression.Expression.TheFolds.{fold-roll-Expression, fold_out-Expression}
use Rattle.c_syntax.specs.declared.expression.Expression.TheViews.{the_lemmas}
use Rattle.c_syntax.specs.Expressions as trees
use Rattle.c_syntax.specs.Expressions.{expr_of, exprs_of}
use Rattle.c_tree.specs.Program.{Expression as Typed}
use Rattle.c_tree.specs.declared.types.IntegerType.TheVariants.{Int}
use Rattle.c_tree.specs.Program as tree
use Rattle.c_typing.specs.Checked.{Checked, Note, pair, fits}
use Rattle.c_typing.specs.Expressions.{arguments_for, called, given, have_types, typed_expression}
use Rattle.c_check_expressions.specs.Arguments.{AreArguments, AreTrees, for_parameter, given_of, one_behind}
use Rattle.c_check_expressions.specs.Judged.{IsOperandOf}
use Rattle.c_check_expressions.specs.Said.{IsSaid}
use Rattle.c_check_expressions.proofs.Answered.{operands_hold, second_holds, three_hold}
use Rattle.c_check_expressions.proofs.Gathering.{Gathered, gathered_none, gathered_more, gathered_all, given_all}
use Rattle.c_check_expressions.proofs.NextGiven.{next_given, none_given}
use Rattle.c_check_expressions.proofs.walk.+walked.Goals as goal

pub and_second-returns-in-Ok : goal.and_second-returns-in-Ok
and_second-returns-in-Ok t c = λ part before said. c.two_parts.ensures part
    (typed_expression c.args.scopes.now (expr_of c.args.e.now)) before c.args.notes.now c.walked.new.notes said
    c.in-Ok.ensures

pub and_third-returns-in-Ok : goal.and_third-returns-in-Ok
and_third-returns-in-Ok t c = λ a b before said. c.three_parts.ensures a b
    (typed_expression c.args.scopes.now (expr_of c.args.e.now)) before c.args.notes.now c.walked.new.notes said
    c.in-Ok.ensures

pub and_argument-returns-in-Ok-clause-said : goal.and_argument-returns-in-Ok-clause-said
and_argument-returns-in-Ok-clause-said t c =
    let e = typed_expression c.args.scopes.now (expr_of c.args.e.now) in
    subst (λ at. IfOk c.one_more.result (λ r. (front : Checked (List Typed)) (before : List Note)
    → IsSaid AreTrees front c.args.so_far.values before c.args.notes.now
    → IsSaid AreTrees (one_behind front (for_parameter c.args.parameter at e)) r.values before c.walked.new.notes))
    c.first_token.ensures
    (IfOk-weaker c.one_more.result _ _ (λ r more front before said. more front e before c.args.notes.now
    c.walked.new.notes said c.in-Ok.ensures) c.one_more.ensures.said)

pub each_argument-arguments-init : goal.each_argument-arguments-init
each_argument-arguments-init t c = gathered_none c.args.parameters.now
    (map (given_of c.args.scopes.now) c.args.values.now) c.no_arguments-so_far.result.values
    c.no_arguments-so_far.result.typed c.args.notes.now (c.no_arguments-so_far.ensures.said c.args.notes.now)
    c.no_arguments-so_far.ensures.typed

pub each_argument-arguments-preserved : goal.each_argument-arguments-preserved
each_argument-arguments-preserved t c =
    let s = c.args.scopes.now in
    let e = c.index-values-index.result in
    let all = map (given_of s) c.args.values.now in
    let i = c.arguments.index in
    let next : suc i ≡ i + 1 = omega arith in
    subst (λ k. Gathered c.args.parameters.now all k c.in_ok-so_far.so_far.values c.in_ok-so_far.so_far.typed
    c.args.notes.now c.and_argument.new.notes) next
    (gathered_more c.args.parameters.now all i (given_of s e) c.arguments.so_far.values c.in_ok-so_far.so_far.values
    c.arguments.so_far.typed c.in_ok-so_far.so_far.typed c.args.notes.now c.arguments.notes c.and_argument.new.notes
    (next_given s c.args.values.now i e c.arguments-test.true c.index-values-index.is)
    (λ front said. subst (λ p. IsSaid AreTrees (one_behind front
    (for_parameter p (given_of s e).at (given_of s e).value))
    c.in_ok-so_far.so_far.values c.args.notes.now c.and_argument.new.notes) c.parameter_at-parameter.ensures
    (c.in_ok-so_far.ensures.said front c.args.notes.now said))
    c.in_ok-so_far.ensures.typed
    c.arguments.invariant)

pub each_argument-returns-clause-said : goal.each_argument-returns-clause-said
each_argument-returns-clause-said t c =
    let s = c.args.scopes.now in
    let all = map (given_of s) c.args.values.now in
    subst (λ gs. IsSaid AreArguments (arguments_for c.args.parameters.now gs) c.arguments.so_far.values
    c.args.notes.now c.arguments.notes) (sym (given_all s c.args.values.now))
    (gathered_all c.args.parameters.now all c.arguments.index c.arguments.so_far.values c.arguments.so_far.typed
    c.args.notes.now c.arguments.notes (none_given s c.args.values.now c.arguments.index c.arguments-test.false)
    c.arguments.invariant).0

pub each_argument-returns-clause-typed : goal.each_argument-returns-clause-typed
each_argument-returns-clause-typed t c =
    let s = c.args.scopes.now in
    let all = map (given_of s) c.args.values.now in
    (gathered_all c.args.parameters.now all c.arguments.index c.arguments.so_far.values c.arguments.so_far.typed
    c.args.notes.now c.arguments.notes (none_given s c.args.values.now c.arguments.index c.arguments-test.false)
    c.arguments.invariant).1 ∙ ap have_types (sym (given_all s c.args.values.now))

-- ---- operators

pub walked-binary_of-requires : goal.walked-binary_of-requires
walked-binary_of-requires t c =
    let s = c.args.scopes.now in
    let l = typed_expression s (expr_of c.deref-in-Binary.result.now) in
    let r = typed_expression s (expr_of c.deref-in-Binary-2.result.now) in
    operands_hold (pair l r) c.in_ok-parts-in-Binary.parts c.args.notes.now c.and_second-in-Binary.new.notes
    (c.in_ok-parts-in-Binary.ensures l c.args.notes.now c.in_ok-first-in-Binary.ensures)

pub walked-conditional_of-requires : goal.walked-conditional_of-requires
walked-conditional_of-requires t c =
    let s = c.args.scopes.now in
    let x = typed_expression s (expr_of c.deref-in-Conditional.result.now) in
    let y = typed_expression s (expr_of c.deref-in-Conditional-2.result.now) in
    let z = typed_expression s (expr_of c.deref-in-Conditional-3.result.now) in
    three_hold (pair x (pair y z)) c.in_ok-parts-in-Conditional.parts c.args.notes.now c.and_third.new.notes
    (c.in_ok-parts-in-Conditional.ensures x y c.args.notes.now (c.in_ok-front-in-Conditional.ensures x c.args.notes.now
    c.in_ok-test-in-Conditional.ensures))

pub walked-assignment_of-requires : goal.walked-assignment_of-requires
walked-assignment_of-requires t c =
    let s = c.args.scopes.now in
    let l = typed_expression s (expr_of c.deref-in-Assignment.result.now) in
    let r = typed_expression s (expr_of c.deref-in-Assignment-2.result.now) in
    second_holds (pair l r) c.in_ok-parts-in-Assignment.parts c.args.notes.now c.and_second-in-Assignment.new.notes
    (c.in_ok-parts-in-Assignment.ensures l c.args.notes.now c.in_ok-target-in-Assignment.ensures)

pub walked-returns-in-Number : goal.walked-returns-in-Number
walked-returns-in-Number t c =
    let small : FitsSigned w32 c.in-Number.value = search rules in
    let same : expr_of c.args.e.now ≡ trees.Number c.in-Number.value c.in-Number.field-1
    = search (rules, the_lemmas, fold-roll-Expression, fold_out-Expression) in
    let notes = c.args.notes.now in
    subst (λ x. IfOk c.constant.result (λ j. IsSaid IsOperandOf (typed_expression c.args.scopes.now x) j notes notes))
    (sym same)
    (subst (λ n. IfOk c.constant.result (λ j. IsSaid IsOperandOf (fits (tree.Constant Int n)) j notes notes))
    (to_z-of_z w32 c.in-Number.value small) (c.constant.ensures notes))

pub walked-returns-in_ok-parts-in-Conditional : goal.walked-returns-in_ok-parts-in-Conditional
walked-returns-in_ok-parts-in-Conditional t c =
    let s = c.args.scopes.now in
    let x = typed_expression s (expr_of c.deref-in-Conditional.result.now) in
    let y = typed_expression s (expr_of c.deref-in-Conditional-2.result.now) in
    let z = typed_expression s (expr_of c.deref-in-Conditional-3.result.now) in
    let same : expr_of c.args.e.now ≡ trees.Conditional (expr_of c.deref-in-Conditional.result.now)
    c.in-Conditional.question (expr_of c.deref-in-Conditional-2.result.now) c.in-Conditional.colon
    (expr_of c.deref-in-Conditional-3.result.now) = search (
      rules,
      the_lemmas,
      fold-roll-Expression,
      fold_out-Expression,
    ) in
    subst (λ e. IfOk c.conditional_of.result (λ j. IsSaid IsOperandOf (typed_expression s e) j c.args.notes.now
    c.and_third.new.notes)) (sym same)
    (IfOk-weaker c.conditional_of.result _ _ (λ j row. row (pair x (pair y z)) c.args.notes.now c.and_third.new.notes
    (c.in_ok-parts-in-Conditional.ensures x y c.args.notes.now (c.in_ok-front-in-Conditional.ensures x c.args.notes.now
    c.in_ok-test-in-Conditional.ensures))) c.conditional_of.ensures)

pub walked-returns-in_ok-parts-in-Assignment : goal.walked-returns-in_ok-parts-in-Assignment
walked-returns-in_ok-parts-in-Assignment t c =
    let s = c.args.scopes.now in
    let l = typed_expression s (expr_of c.deref-in-Assignment.result.now) in
    let r = typed_expression s (expr_of c.deref-in-Assignment-2.result.now) in
    let same : expr_of c.args.e.now ≡ trees.Assignment c.in-Assignment.op
    (expr_of c.deref-in-Assignment.result.now) c.in-Assignment.at (expr_of c.deref-in-Assignment-2.result.now)
    = search (rules, the_lemmas, fold-roll-Expression, fold_out-Expression) in
    subst (λ e. IfOk c.assignment_of.result (λ j. IsSaid IsOperandOf (typed_expression s e) j c.args.notes.now
    c.and_second-in-Assignment.new.notes)) (sym same)
    (IfOk-weaker c.assignment_of.result _ _ (λ j row. row (pair l r) c.args.notes.now
    c.and_second-in-Assignment.new.notes (c.in_ok-parts-in-Assignment.ensures l c.args.notes.now
    c.in_ok-target-in-Assignment.ensures)) c.assignment_of.ensures)

-- ---- calls

pub walked-returns-in_ok-given-in-Call : goal.walked-returns-in_ok-given-in-Call
walked-returns-in_ok-given-in-Call t c =
    let s = c.args.scopes.now in
    let es = c.as_slice-in-Call.result.now in
    let gs = given s (exprs_of (map expr_of es)) in
    let many : c.len.result ≡ length es = search rules in
    let count : c.len.result ≡ length gs = many ∙ sym (ap length (given_all s es) ∙ length-map es (given_of s)) in
    let same : expr_of c.args.e.now ≡ trees.Call c.deref-in-Call.result.now.function c.deref-in-Call.result.now.opening
    (exprs_of (map expr_of es))
    c.deref-in-Call.result.now.commas.items c.deref-in-Call.result.now.close = search (
      rules,
      the_lemmas,
      fold-roll-Expression,
      fold_out-Expression,
    ) in
    subst (λ e. IfOk c.called.result (λ j. IsSaid IsOperandOf (typed_expression s e) j c.args.notes.now
    c.called.new.notes)) (sym same)
    (subst (λ m. IfOk c.called.result (λ j. IsSaid IsOperandOf (called s c.deref-in-Call.result.now.function gs m) j
    c.args.notes.now
    c.called.new.notes)) c.meaning-meaning.ensures
    (IfOk-weaker c.called.result _ _ (λ j row. row gs c.args.notes.now c.in_ok-given-in-Call.ensures.typed count
    (subst (λ ps. IsSaid AreArguments (arguments_for ps gs) c.in_ok-given-in-Call.given.values c.args.notes.now
    c.each_argument.new.notes) c.parameters_of-parameters.ensures c.in_ok-given-in-Call.ensures.said))
    c.called.ensures))

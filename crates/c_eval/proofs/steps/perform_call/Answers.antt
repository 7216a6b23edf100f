use Rattle.std.proofs.Common.{◌≡◌, ℕ, List, Some, None, length, refl, subst}
use Rattle.std.proofs.lemmas.Option.{slice_get_past, slice_get_read}
use Rattle.std.specs.Prelude.{slice_get}
use Rattle.pcc_base.specs.Outcome.{nothing_listed}
use Rattle.c_tree.specs.Erased.{program_of}
use Rattle.c_tree.specs.declared.program.Function.{Function}
use Rattle.c_eval_state.specs.Left.{left_of}
use Rattle.c_eval.proofs.Performing.{all_passed, done_argument, done_none, function_there, none_there}
use Rattle.c_eval.proofs.steps.perform_call.Goals as goal

pub returns-then-count-arguments : goal.returns-then-count-arguments
returns-then-count-arguments c = done_argument (program_of c.args.program.now) c.args.function c.args.count
    c.args.arguments.now (left_of c.args.left.now) (left_of c.pass_argument.new.left) c.args.store.now
    c.if-count-arguments.true (λ s. c.in_ok-pass_argument.ensures (program_of c.args.program.now) nothing_listed s)

pub returns-in-Some : goal.returns-in-Some
returns-in-Some c =
    let fs : List Function = c.deref.result.now in
    let k : ℕ = c.args.function in
    let there : slice_get c.args.program.now.functions.items k ≡ Some c.in-Some.called.now =
    subst (λ (l : List Function). slice_get l k ≡ Some c.in-Some.called.now) c.deref.ensures.value
    (slice_get_read fs (length fs) k c.in-Some.called.now refl c.in-Some.ensures.lookup.3.0
    c.in-Some.ensures.lookup.1) in (
      (
        c.args.function,
        all_passed c.args.function c.args.count c.args.arguments.now c.if-count-arguments.false,
        function_there c.args.program.now.functions.items c.args.function c.in-Some.called.now there,
      ),
      refl,
      refl,
    )

pub returns-in_ok-call_none-in-None : goal.returns-in_ok-call_none-in-None
returns-in_ok-call_none-in-None c =
    let k : ℕ = c.args.function in
    let none : slice_get c.args.program.now.functions.items k ≡ None =
    subst (λ (l : List Function). slice_get l k ≡ None) c.deref.ensures.value
    (slice_get_past c.deref.result.now k c.in-None.ensures.lookup.3) in
    done_none (program_of c.args.program.now) c.args.function c.args.count c.args.arguments.now
    (left_of c.args.left.now) (left_of c.call_none.new.left) c.args.store.now c.if-count-arguments.false
    (none_there c.args.program.now.functions.items c.args.function none) c.requires.way
    c.in_ok-call_none-in-None.ensures

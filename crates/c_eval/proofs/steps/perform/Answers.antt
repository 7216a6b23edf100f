use Rattle.std.proofs.Common.{rules, arith, [], Bool, false, refl, ap, subst}
use Rattle.pcc_base.specs.Outcome.{nothing_listed}
use Rattle.c_eval_state.specs.Kept.{over}
use Rattle.c_tree.specs.Erased.{expression_of, item_of, program_of}
use Rattle.c_tree.specs.Evaluation.{first_state}
use Rattle.c_tree.specs.Program.{Expression}
use Rattle.c_tree.specs.Store.{State}
use Rattle.c_eval_laws.specs.Tasks.{Evaluates}
use Rattle.c_eval_state.specs.Changes.{TakenApart, doing}
use Rattle.c_eval_state.specs.Left.{left_of}
use Rattle.c_eval_state.specs.Views.{arguments_from, task_of}
use Rattle.c_eval_state.specs.declared.task.Task as memory
use Rattle.c_eval.specs.Performs.{Fits, IsPlain}
use Rattle.c_eval.proofs.Performing.{done_item, done_plain, passes_served, plain_no_turn}
use Rattle.c_eval.proofs.steps.perform.Goals as goal

pub perform_call-requires-clause-count : goal.perform_call-requires-clause-count
perform_call-requires-clause-count c = passes_served c.in-Passes.function c.in-Passes.count
    (arguments_from c.in-Passes.count c.in-Passes.arguments.now) (left_of c.args.left.now) c.requires.way
    (subst (λ (t : memory.Task). Fits (doing (task_of t) (left_of c.args.left.now))) c.in-Passes.is c.requires.fits)

pub returns-then-branch : goal.returns-then-branch
returns-then-branch c =
    let e : Expression = expression_of c.in-Evaluates.e.now in
    rw c.in-Evaluates.is (done_plain (program_of c.args.program.now) (Evaluates e) (left_of c.args.left.now)
    (left_of c.take_apart.new.left) c.args.store.now c.args.store.now refl
    (λ s. subst (λ (b : Bool). TakenApart b e (left_of c.args.left.now) (left_of c.take_apart.new.left)
    (over s c.args.store.now)) c.if-branch.true (c.in_ok-take_apart-in-Evaluates.ensures s)))

pub returns-else-branch : goal.returns-else-branch
returns-else-branch c =
    let e : Expression = expression_of c.in-Evaluates.e.now in
    let s : State = first_state (program_of c.args.program.now) [] 0 in
    let same : TakenApart false e (left_of c.args.left.now) (left_of c.take_apart.new.left)
    (over s c.args.store.now) = subst (λ (b : Bool). TakenApart b e (left_of c.args.left.now)
    (left_of c.take_apart.new.left) (over s c.args.store.now)) c.if-branch.false
    (c.in_ok-take_apart-in-Evaluates.ensures s) in
    rw c.in-Evaluates.is (ap (λ (x : Expression). Evaluates x) same.0, same.1, refl)

pub returns-in_ok-declare-in-Declares : goal.returns-in_ok-declare-in-Declares
returns-in_ok-declare-in-Declares c = rw c.in-Declares.is (done_item (program_of c.args.program.now)
    (item_of c.in-Declares.item.now) (left_of c.args.left.now) (left_of c.declare.new.left) c.args.store.now
    c.declare.new.store (λ s. c.in_ok-declare-in-Declares.ensures nothing_listed s))

pub returns-in_ok-perform_plain-in_default : goal.returns-in_ok-perform_plain-in_default
returns-in_ok-perform_plain-in_default c =
    let plain : IsPlain c.args.task = first_of (search rules, grind arith) in
    done_plain (program_of c.args.program.now) (task_of c.args.task) (left_of c.args.left.now)
    (left_of c.perform_plain.new.left) c.args.store.now c.perform_plain.new.store
    (plain_no_turn (program_of c.args.program.now) c.args.task plain)
    (λ s. c.in_ok-perform_plain-in_default.ensures (program_of c.args.program.now) nothing_listed s)

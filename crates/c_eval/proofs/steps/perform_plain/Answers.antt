-- Each function does what the step of its task does.
use Rattle.std.proofs.Common.{◌∙◌}
use Rattle.c_eval_state.specs.Kept.{over}
use Rattle.c_tree.specs.Erased.{function_of}
use Rattle.c_eval_state.specs.Left.{left_of}
use Rattle.c_eval.proofs.Performing.{return_ahead}
use Rattle.c_eval.proofs.steps.perform_plain.Goals as goal

pub returns-in-Loads : goal.returns-in-Loads
returns-in-Loads c = rw c.in-Loads.is c.load.ensures

pub returns-in-LoadsOld : goal.returns-in-LoadsOld
returns-in-LoadsOld c = rw c.in-LoadsOld.is c.load_old.ensures

pub returns-in-Stores : goal.returns-in-Stores
returns-in-Stores c = rw c.in-Stores.is c.assign.ensures

pub returns-in-Updates : goal.returns-in-Updates
returns-in-Updates c = rw c.in-Updates.is c.update.ensures

pub returns-in-Steps : goal.returns-in-Steps
returns-in-Steps c = rw c.in-Steps.is c.step.ensures

pub returns-in-Initialises : goal.returns-in-Initialises
returns-in-Initialises c = rw c.in-Initialises.is c.initialise.ensures

pub returns-in-FillsElement : goal.returns-in-FillsElement
returns-in-FillsElement c = rw c.in-FillsElement.is c.fill_element.ensures

pub returns-in-AppliesBinary : goal.returns-in-AppliesBinary
returns-in-AppliesBinary c = λ p l s. rw c.in-AppliesBinary.is (c.apply_binary.ensures p l (over s c.args.store.now))

pub returns-in-Exits : goal.returns-in-Exits
returns-in-Exits c = λ p l s. rw c.in-Exits.is (c.exit_status.ensures p l (over s c.args.store.now))

pub returns-in_ok-pass_return-in-ReturnsTo : goal.returns-in_ok-pass_return-in-ReturnsTo
returns-in_ok-pass_return-in-ReturnsTo c = λ p l s. rw c.in-ReturnsTo.is
    (return_ahead p l (function_of c.in-ReturnsTo.caller.now)
    (left_of c.args.left.now) (over s c.args.store.now) c.requires.way
    ∙ c.in_ok-pass_return-in-ReturnsTo.ensures s)

-- Each function does what the step of its task does.
use Rattle.c_eval.proofs.steps.perform_on_stacks.Goals as goal

pub returns-in-Points : goal.returns-in-Points
returns-in-Points c = rw c.in-Points.is c.point.ensures

pub returns-in-Addresses : goal.returns-in-Addresses
returns-in-Addresses c = rw c.in-Addresses.is c.take_address.ensures

pub returns-in-AppliesUnary : goal.returns-in-AppliesUnary
returns-in-AppliesUnary c = rw c.in-AppliesUnary.is c.apply_unary.ensures

pub returns-in-AndThen : goal.returns-in-AndThen
returns-in-AndThen c = rw c.in-AndThen.is c.and_then.ensures

pub returns-in-OrElse : goal.returns-in-OrElse
returns-in-OrElse c = rw c.in-OrElse.is c.or_else.ensures

pub returns-in-Truth : goal.returns-in-Truth
returns-in-Truth c = rw c.in-Truth.is c.find_truth.ensures

pub returns-in-Chooses : goal.returns-in-Chooses
returns-in-Chooses c = rw c.in-Chooses.is c.choose.ensures

pub returns-in-Converts : goal.returns-in-Converts
returns-in-Converts c = rw c.in-Converts.is c.convert.ensures

pub returns-in-DeclaresAll : goal.returns-in-DeclaresAll
returns-in-DeclaresAll c = rw c.in-DeclaresAll.is c.declare_next.ensures

pub returns-in-Fills : goal.returns-in-Fills
returns-in-Fills c = rw c.in-Fills.is c.fill.ensures

pub returns-in-Follows : goal.returns-in-Follows
returns-in-Follows c = rw c.in-Follows.is c.follow.ensures

pub returns-in-ReturnsValue : goal.returns-in-ReturnsValue
returns-in-ReturnsValue c = rw c.in-ReturnsValue.is c.return_value.ensures

pub returns-in-Drops : goal.returns-in-Drops
returns-in-Drops c = rw c.in-Drops.is c.drop_value.ensures

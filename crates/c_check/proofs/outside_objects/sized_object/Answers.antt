use Rattle.std.proofs.lemmas.Result.{IfOk-weaker}
use Rattle.c_syntax.specs.Declarations.{item_of}
use Rattle.c_check_declarations.specs.Views.{specified_of}
use Rattle.c_check_declarations.proofs.Itemised.{on_ok}
use Rattle.c_check.proofs.StaticObjects.{object_fails, object_fails_scope, object_fits, object_fits_scope}
use Rattle.c_check.proofs.outside_objects.sized_object.Goals as goal

pub returns-in-Fails-clause-said : goal.returns-in-Fails-clause-said
returns-in-Fails-clause-said c = object_fails _ c.args.scopes.now (specified_of c.args.said) (item_of c.args.item.now)
    c.in_ok-fault.field-0 c.in-Fails.fault c.args.notes.now c.object_declared.new.notes c.in_ok-fault.ensures
    c.in-Fails.is

pub returns-in-Fails-clause-scope : goal.returns-in-Fails-clause-scope
returns-in-Fails-clause-scope c = object_fails_scope c.args.scopes.now (specified_of c.args.said)
    (item_of c.args.item.now) c.in_ok-fault.field-0 c.in-Fails.fault c.args.notes.now c.object_declared.new.notes
    c.in_ok-fault.ensures c.in-Fails.is

pub returns-in-Fits-clause-said : goal.returns-in-Fits-clause-said
returns-in-Fits-clause-said c = IfOk-weaker c.declared_object.result _ _ (λ part h.
    object_fits c.args.scopes.now (specified_of c.args.said) (item_of c.args.item.now) c.in_ok-fault.field-0
    c.in-Fits.declared part c.args.notes.now c.object_declared.new.notes c.declared_object.new.notes
    c.in_ok-fault.ensures c.in-Fits.is h)
    c.declared_object.ensures.said

pub returns-in-Fits-clause-scope : goal.returns-in-Fits-clause-scope
returns-in-Fits-clause-scope c = on_ok c.declared_object.result _ _ (λ h.
    object_fits_scope c.args.scopes.now c.declared_object.new.scopes (specified_of c.args.said)
    (item_of c.args.item.now) c.in_ok-fault.field-0 c.in-Fits.declared c.args.notes.now c.object_declared.new.notes
    c.in_ok-fault.ensures c.in-Fits.is h)
    c.declared_object.ensures.scope

use Rattle.std.proofs.lemmas.Result.{IfOk-weaker}
use Rattle.c_syntax.specs.Declarations.{item_of}
use Rattle.c_check_declarations.specs.Views.{specified_of}
use Rattle.c_check_declarations.proofs.Itemised.{item_fails, item_fails_scope, item_fits, item_fits_scope, on_ok}
use Rattle.c_check_declarations.proofs.items.sized_item.Goals as goal

pub returns-in-Fails-clause-said : goal.returns-in-Fails-clause-said
returns-in-Fails-clause-said c = item_fails c.args.scopes.now (specified_of c.args.said) (item_of c.args.item.now)
    c.in_ok-fault.field-0 c.in-Fails.fault c.args.notes.now c.object_declared.new.notes c.in_ok-fault.ensures
    c.in-Fails.is

pub returns-in-Fails-clause-scope : goal.returns-in-Fails-clause-scope
returns-in-Fails-clause-scope c = item_fails_scope c.args.scopes.now (specified_of c.args.said)
    (item_of c.args.item.now) c.in_ok-fault.field-0 c.in-Fails.fault c.args.notes.now c.object_declared.new.notes
    c.in_ok-fault.ensures c.in-Fails.is

pub returns-in-Fits-clause-said : goal.returns-in-Fits-clause-said
returns-in-Fits-clause-said c = IfOk-weaker c.declared_item.result _ _ (λ part h.
    item_fits c.args.scopes.now (specified_of c.args.said) (item_of c.args.item.now) c.is_static-is_static.result
    c.in_ok-fault.field-0 c.in-Fits.declared part c.args.notes.now c.object_declared.new.notes
    c.declared_item.new.notes c.in_ok-fault.ensures c.in-Fits.is c.is_static-is_static.ensures h)
    c.declared_item.ensures.said

pub returns-in-Fits-clause-scope : goal.returns-in-Fits-clause-scope
returns-in-Fits-clause-scope c = on_ok c.declared_item.result _ _ (λ h.
    item_fits_scope c.args.scopes.now c.declared_item.new.scopes (specified_of c.args.said)
    (item_of c.args.item.now) c.is_static-is_static.result c.in_ok-fault.field-0 c.in-Fits.declared c.args.notes.now
    c.object_declared.new.notes c.in_ok-fault.ensures c.in-Fits.is c.is_static-is_static.ensures h)
    c.declared_item.ensures.scope

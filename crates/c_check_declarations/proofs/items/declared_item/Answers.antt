use Rattle.c_syntax.specs.Declarations.{value_of}
use Rattle.c_typing.specs.Declarators.{object_allowed}
use Rattle.c_typing.specs.Statements.{bound_item, object_item, scope_faults}
use Rattle.c_check_names.specs.Views.{declared_of}
use Rattle.c_check_declarations.proofs.Itemised.{declared_said, declared_scope}
use Rattle.c_check_declarations.proofs.items.declared_item.Goals as goal

pub returns-clause-said : goal.returns-clause-said
returns-clause-said c =
    let s = c.args.scopes.now in
    let b = c.args.is_static in
    let name = c.args.item.now.declarator.name in
    declared_said (λ t. object_item b s (bound_item b name t s) name (value_of c.args.item.now.initialiser))
    c.scope_fault-fault.result (scope_faults s name) (object_allowed b name.at (declared_of c.args.declared.now))
    c.object_allowed-of.result c.in_ok-part.part c.also.result c.args.notes.now c.allowed_item.new.notes
    c.scope_fault-fault.ensures (c.object_allowed-of.ensures c.args.notes.now) c.also.ensures c.in_ok-part.ensures.said

pub returns-clause-scope : goal.returns-clause-scope
returns-clause-scope c =
    let s = c.args.scopes.now in
    let b = c.args.is_static in
    let name = c.args.item.now.declarator.name in
    declared_scope (λ t. bound_item b name t s) (object_allowed b name.at (declared_of c.args.declared.now))
    c.object_allowed-of.result c.allowed_item.new.scopes c.args.notes.now (c.object_allowed-of.ensures c.args.notes.now)
    c.in_ok-part.ensures.scope

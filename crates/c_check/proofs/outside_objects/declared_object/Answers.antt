use Rattle.std.proofs.Common.{sym, ap, ◌∙◌, Bool, is_some}
use Rattle.c_syntax.specs.Declarations.{item_of}
use Rattle.c_typing.specs.Files.{outer_of}
use Rattle.c_check_names.specs.Views as views
use Rattle.c_check_declarations.specs.Views.{specified_of}
use Rattle.c_check.proofs.StaticObjects.{declared_said, declared_scope, is_same_some}
use Rattle.c_check.proofs.outside_objects.declared_object.Goals as goal

pub returns-clause-said : goal.returns-clause-said
returns-clause-said c =
    let s = c.args.scopes.now in
    let said = specified_of c.args.said in
    let i = item_of c.args.item.now in
    let name = i.declarator.name in
    let type = views.declared_of c.args.declared in
    declared_said s c.add_outer.new.self said name (is_some i.initialiser) i.initialiser
    (views.outer_of c.in_ok-outer.outer) (views.entity_of c.in_ok-entity.entity) type c.object_allowed-of.result
    c.redeclared_fault-fault.result c.in_ok-part.part c.also.result c.args.notes.now c.object_if_allowed.new.notes
    (c.in_ok-outer.ensures ∙ ap (λ (w : Bool). outer_of s said name w type)
    (c.is_some-whole.ensures ∙ sym (is_same_some c.args.item.now.initialiser)))
    c.in_ok-entity.ensures c.in_ok-add_outer.ensures (c.object_allowed-of.ensures c.args.notes.now)
    c.redeclared_fault-fault.ensures c.also.ensures c.in_ok-part.ensures.said

pub returns-clause-scope : goal.returns-clause-scope
returns-clause-scope c =
    let s = c.args.scopes.now in
    let said = specified_of c.args.said in
    let i = item_of c.args.item.now in
    let name = i.declarator.name in
    let type = views.declared_of c.args.declared in
    declared_scope s c.add_outer.new.self c.object_if_allowed.new.scopes said name (is_some i.initialiser)
    (views.outer_of c.in_ok-outer.outer) (views.entity_of c.in_ok-entity.entity) type c.object_allowed-of.result
    c.args.notes.now
    (c.in_ok-outer.ensures ∙ ap (λ (w : Bool). outer_of s said name w type)
    (c.is_some-whole.ensures ∙ sym (is_same_some c.args.item.now.initialiser)))
    c.in_ok-entity.ensures c.in_ok-add_outer.ensures (c.object_allowed-of.ensures c.args.notes.now)
    c.in_ok-part.ensures.scope

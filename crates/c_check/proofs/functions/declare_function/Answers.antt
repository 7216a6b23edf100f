use Rattle.c_check_declarations.specs.Views.{specified_of}
use Rattle.c_check_names.specs.Views as views
use Rattle.c_check.proofs.Signatures.{declared_entity, declared_scope}
use Rattle.c_check.proofs.functions.declare_function.Goals as goal

pub returns : goal.returns
returns c =
    let s = c.args.scopes.now in
    let said = specified_of c.args.said in
    let name = c.args.name.now in
    let g = views.signature_of c.args.signature.now in
    let copy = views.signature_of c.in_ok-copy.copy in
    let o = views.outer_of c.in_ok-outer.outer in (
      declared_entity s said name c.args.whole g copy o (views.entity_of c.in_ok-entity.entity) c.in_ok-copy.ensures
          c.in_ok-outer.ensures c.in_ok-entity.ensures,
      declared_scope s c.add_outer.new.self c.bind.new.self said name c.args.whole g copy
          (views.signature_of c.in_ok-other.other) o (views.entity_of c.in_ok-seen.seen) c.in_ok-copy.ensures
          c.in_ok-other.ensures c.in_ok-outer.ensures c.in_ok-seen.ensures c.in_ok-add_outer.ensures
          c.in_ok-bind.ensures,
    )

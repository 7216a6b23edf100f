use Rattle.c_syntax.specs.Declarations.{declaration_of}
use Rattle.c_check.proofs.StaticObjects.{declaration_fails}
use Rattle.c_check.proofs.outside_items.outside_declaration.Goals as goal

pub returns-in-Fails-clause-said : goal.returns-in-Fails-clause-said
returns-in-Fails-clause-said c = declaration_fails _ c.args.scopes.now (declaration_of c.args.declaration.now)
    c.as_slice.result.now c.in-Fails.fault c.args.notes.now c.as_slice.ensures.value c.in-Fails.ensures.said

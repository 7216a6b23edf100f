use Rattle.c_syntax.specs.Declarations.{declaration_of}
use Rattle.c_check_declarations.specs.Views.{position_of}
use Rattle.c_check_declarations.proofs.Itemised.{declaration_fails}
use Rattle.c_check_declarations.proofs.items.declaration.Goals as goal

pub returns-in-Fails-clause-said : goal.returns-in-Fails-clause-said
returns-in-Fails-clause-said c = declaration_fails c.args.scopes.now (position_of c.args.position)
    (declaration_of c.args.declaration.now) c.as_slice.result.now c.in-Fails.fault c.args.notes.now
    c.as_slice.ensures.value c.in-Fails.ensures.said

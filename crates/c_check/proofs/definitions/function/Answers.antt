use Rattle.std.proofs.Common.{◌∙◌, map}
use Rattle.c_tree.specs.Erased.{array_of, local_of, statements_of}
use Rattle.c_check_names.specs.Views as views
use Rattle.c_check.proofs.Bodies.{made}
use Rattle.c_check.proofs.definitions.function.Goals as goal

pub returns : goal.returns
returns c = λ first h. made c.in_ok-copy.copy c.args.parameters (map local_of c.in_ok-locals.locals.items)
    (map array_of c.in_ok-arrays.arrays.items) (statements_of c.args.body.items) c.args.name.now
    (views.signature_of c.args.signature.now) first c.args.scopes.now c.in_ok-copy.ensures h
    (c.in_ok-locals.ensures ∙ c.locals-seen.ensures) (c.in_ok-arrays.ensures ∙ c.arrays-held.ensures)

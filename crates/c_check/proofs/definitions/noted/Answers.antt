use Rattle.std.proofs.Common.{◌∷◌, [], Some}
use Rattle.c_typing.specs.Checked.{Defines, Fits}
use Rattle.c_typing.specs.Types.{DeclaredFunction}
use Rattle.c_check_names.specs.Views as views
use Rattle.c_check.proofs.Bodies.{noted_fails, noted_said}
use Rattle.c_check.proofs.definitions.noted.Goals as goal

pub returns-in-Fails : goal.returns-in-Fails
returns-in-Fails c = λ part before said.
    let g = views.signature_of c.args.signature in
    noted_fails part c.args.part c.in-Fails.fault (λ f. Fits (f ∷ []) (Defines (views.entity_of c.args.entity)
    (DeclaredFunction (Some g.result) g.parameters) ∷ [])) before c.args.notes.now c.in-Fails.is said

pub returns-in_ok-push-in-Fits : goal.returns-in_ok-push-in-Fits
returns-in_ok-push-in-Fits c = λ part before said. noted_said part c.args.part c.in-Fits.whole
    (views.entity_of c.args.entity) (views.signature_of c.args.signature) before c.args.notes.now c.push.new.self
    c.in-Fits.is c.in_ok-push-in-Fits.ensures said

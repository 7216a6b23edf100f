use Rattle.std.proofs.Common.{rules, tests}
use Rattle.std.proofs.lemmas.Iterator.{cases_from_all, YieldsList-from_slice}
use Rattle.map_text.specs.Maps.{IsMapVariable}
use Rattle.map_file.specs.Views.{variable_of}
use Rattle.map_file.proofs.Deciding.{decided}
use Rattle.map_file.proofs.parts.are_variables.Goals as goal

pub returns : goal.returns
returns c =
    decided IsMapVariable variable_of c.args.variables.now c.all.result
    (cases_from_all _ _ _ (λ x. IsMapVariable (variable_of x)) (λ x. IsMapVariable (variable_of x) → ⊥) c.all.ensures.ran
    (YieldsList-from_slice c.args.variables.now cc) (λ x q k. search (rules, tests)) (λ x q k. search (rules, tests)))

use Rattle.std.proofs.Common.{rules, tests}
use Rattle.std.proofs.lemmas.Iterator.{cases_from_all, YieldsList-from_slice}
use Rattle.map_text.specs.Maps.{IsMapArray}
use Rattle.map_file.specs.Views.{array_of}
use Rattle.map_file.proofs.Deciding.{decided}
use Rattle.map_file.proofs.parts.are_arrays.Goals as goal

pub returns : goal.returns
returns c =
    decided IsMapArray array_of c.args.arrays.now c.all.result
    (cases_from_all _ _ _ (λ x. IsMapArray (array_of x)) (λ x. IsMapArray (array_of x) → ⊥) c.all.ensures.ran
    (YieldsList-from_slice c.args.arrays.now cc) (λ x q k. search (rules, tests)) (λ x q k. search (rules, tests)))

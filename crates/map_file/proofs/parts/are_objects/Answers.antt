use Rattle.std.proofs.Common.{rules, tests}
use Rattle.std.proofs.lemmas.Iterator.{cases_from_all, YieldsList-from_slice}
use Rattle.map_text.specs.Maps.{IsMapObject}
use Rattle.map_file.specs.Views.{object_of}
use Rattle.map_file.proofs.Deciding.{decided}
use Rattle.map_file.proofs.parts.are_objects.Goals as goal

pub returns : goal.returns
returns c =
    decided IsMapObject object_of c.args.objects.now c.all.result
    (cases_from_all _ _ _ (λ x. IsMapObject (object_of x)) (λ x. IsMapObject (object_of x) → ⊥) c.all.ensures.ran
    (YieldsList-from_slice c.args.objects.now cc) (λ x q k. search (rules, tests)) (λ x q k. search (rules, tests)))

use Rattle.std.proofs.Common.{rules, tests}
use Rattle.std.proofs.lemmas.Iterator.{cases_from_all, YieldsList-from_slice}
use Rattle.map_text.specs.Entries.{standing_of}
use Rattle.map_text.specs.Maps.{IsStanding}
use Rattle.map_file.specs.Views.{function_of}
use Rattle.map_file.proofs.Deciding.{decided}
use Rattle.map_file.proofs.standings.stand.Goals as goal

pub returns : goal.returns
returns c =
    let vs = (function_of c.args.function.now).variables in
    decided (IsStanding vs) standing_of c.args.entries.now c.all.result
    (cases_from_all _ _ _ (λ x. IsStanding vs (standing_of x)) (λ x. IsStanding vs (standing_of x) → ⊥)
    c.all.ensures.ran (YieldsList-from_slice c.args.entries.now cc) (λ x q k. search (rules, tests))
    (λ x q k. search (rules, tests)))

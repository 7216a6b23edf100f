use Rattle.std.proofs.Common.{rules, tests}
use Rattle.std.proofs.lemmas.Iterator.{cases_from_all, YieldsList-from_slice}
use Rattle.map_text.specs.Rules.{IsMapBlock}
use Rattle.map_file.specs.Views.{block_of}
use Rattle.map_file.proofs.Deciding.{decided}
use Rattle.map_file.proofs.points.are_blocks.Goals as goal

pub returns : goal.returns
returns c =
    decided IsMapBlock block_of c.args.blocks.now c.all.result
    (cases_from_all _ _ _ (λ x. IsMapBlock (block_of x)) (λ x. IsMapBlock (block_of x) → ⊥) c.all.ensures.ran
    (YieldsList-from_slice c.args.blocks.now cc) (λ x q k. search (rules, tests)) (λ x q k. search (rules, tests)))

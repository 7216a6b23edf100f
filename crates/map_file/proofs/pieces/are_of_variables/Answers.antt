use Rattle.std.proofs.Common.{rules, tests}
use Rattle.std.proofs.lemmas.Iterator.{cases_from_all, YieldsList-from_slice}
use Rattle.map_text.specs.Rules.{IsMapPiece}
use Rattle.map_file.specs.Views.{function_of}
use Rattle.map_file.proofs.Deciding.{decided_all}
use Rattle.map_file.proofs.pieces.are_of_variables.Goals as goal

pub returns : goal.returns
returns c =
    let vs = (function_of c.args.function.now).variables in
    decided_all (IsMapPiece vs) c.args.pieces.now c.all.result
    (cases_from_all _ _ _ (λ x. IsMapPiece vs x) (λ x. IsMapPiece vs x → ⊥) c.all.ensures.ran
    (YieldsList-from_slice c.args.pieces.now cc) (λ x q k. search (rules, tests)) (λ x q k. search (rules, tests)))

use Rattle.std.proofs.Common.{◌≡◌, rules, w32}
use Rattle.std.proofs.lemmas.Int.{to_z-of_z}
use Rattle.ia32_emit.specs.Locations.{distance}
use Rattle.parallel_copies.proofs.LegalMoves.{asked-by_test}
use Rattle.parallel_copies.proofs.legal.can_repair.Goals as goal

pub returns-clause-asked : goal.returns-clause-asked
returns-clause-asked c =
    asked-by_test (distance c.args.word) c.args.moves.now c.pass.result
    (rw (to_z-of_z w32 c.args.word (search rules)) at c.pass.ensures)

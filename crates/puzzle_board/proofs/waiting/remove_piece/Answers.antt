use Rattle.std.proofs.Common.{refl}
use Rattle.puzzle_board.proofs.Stored.{remove-settled}
use Rattle.puzzle_board.proofs.waiting.remove_piece.Goals as goal

pub returns-in-At : goal.returns-in-At
returns-in-At g c = record {
  states = refl;
  filed = λ pieces p e f.
      remove-settled c.args.waiting.now pieces c.args.states.now c.args.number p _ c.in-At.is c.requires.within e f;
  nodes = refl;
}

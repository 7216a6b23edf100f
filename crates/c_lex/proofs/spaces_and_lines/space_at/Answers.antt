use Rattle.std.proofs.Common.{sym, subst, ℕ, List}
use Rattle.c_lex.specs.Pieces.{Begins, Space}
use Rattle.c_lex.proofs.SkipPieces.{space_begins}
use Rattle.c_lex.proofs.spaces_and_lines.space_at.Goals as goal

pub returns : goal.returns
returns c = λ fresh.
    let h = c.requires in
    subst (λ (bs : List ℕ). Begins fresh bs 1 Space) (sym h.2) (space_begins fresh h.0 h.1 h.3)

use Rattle.std.proofs.Common.{arith}
use Rattle.std.proofs.Common.{[], ◌∷◌}
use Rattle.pcc_base.specs.Ascii.{percent, colon}
use Rattle.c_lex.proofs.Fronts.{starts_not}
use Rattle.c_lex.proofs.MarkPieces.{mark_begins, no_mark_begins}
use Rattle.c_lex.proofs.mark_tokens.mark_at.Goals as goal

pub returns-in_err-length : goal.returns-in_err-length
returns-in_err-length c =
    λ fresh. rw c.from_residual.ensures
    (no_mark_begins fresh c.args.rest.now c.requires.byte c.requires.number c.in_err-length.ensures)

pub returns : goal.returns
returns c = λ fresh.
    mark_begins fresh c.args.rest.now _ _ c.requires.byte c.requires.number
    (λ more. starts_not c.args.rest.now (percent ∷ colon ∷ []) _ c.starts_with.ensures.value c.if-starts_with.false
    more)
    c.in_ok-length.ensures

pub returns-then-starts_with : goal.returns-then-starts_with
returns-then-starts_with c = grind arith

use Rattle.std.proofs.Common.{ℕ, ℤ, false, Option, sym, subst}
use Rattle.c_lex.specs.declared.scanned.Scanned.{Scanned}
use Rattle.c_lex.specs.declared.token.TokenKind.TheVariants as kinds
use Rattle.c_lex.specs.Pieces.{Begins, Spelled}
use Rattle.c_lex.specs.Scans.{IsFound}
use Rattle.c_lex.proofs.NumberPieces.{number_begins, number_begins_none, signed_same}
use Rattle.c_lex.proofs.number_tokens.number_at.Goals as goal

pub returns-in_err-value : goal.returns-in_err-value
returns-in_err-value c = λ fresh.
    let number = c.number_length-end.ensures in
    subst (λ (r : Option (ℕ × Scanned)). IsFound fresh c.args.rest.now r) (sym c.from_residual.ensures)
    (number_begins_none fresh c.args.rest.now c.number_length-end.result c.requires number.within number.text
    number.longest c.in_err-value.ensures)

pub returns : goal.returns
returns c = λ fresh.
    let number = c.number_length-end.ensures in
    let found = c.in_ok-value.ensures in
    let begins =
    number_begins fresh c.args.rest.now c.number_length-end.result found.0 number.within number.text number.longest
    found.1 in
    subst (λ (z : ℤ). Begins fresh c.args.rest.now c.number_length-end.result (Spelled (kinds.Number z false)))
    (sym (signed_same c.in_ok-value.value found.0 found.1.1 found.2)) begins

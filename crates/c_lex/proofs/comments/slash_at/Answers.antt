use Rattle.std.proofs.Common.{◌≡◌, ◌≢◌, ◌∷◌, ◌+◌, ◌<◌, ◌∙◌, ap, sym, subst, List, ℕ, Option, drop, length, get_or, refl}
use Rattle.std.proofs.lemmas.List.{take_rest}
use Rattle.std.specs.List.{prefix_len}
use Rattle.pcc_base.specs.Ascii.{star, slash, equals_sign}
use Rattle.c_lex.specs.declared.token.Punct.TheVariants as marks
use Rattle.c_lex.specs.declared.token.TokenKind.TheVariants as kinds
use Rattle.c_lex.specs.declared.scanned.Scanned.{Scanned}
use Rattle.c_lex.specs.Pieces.{Begins, NoneBegins, Comment, Spelled}
use Rattle.c_lex.specs.Scans.{IsFound}
use Rattle.c_lex.proofs.SkipPieces.{no_newline, IsFirstPair, two_first, one_only, slash_ends, slash_begins}
use Rattle.c_lex.proofs.SkipPieces.{slash_equal_begins, line_comment_begins, block_comment_begins}
use Rattle.c_lex.proofs.SkipPieces.{unclosed_begins_none}
use Rattle.c_lex.proofs.comments.slash_at.Goals as goal

pub returns-then-rest-lt2 : goal.returns-then-rest-lt2
returns-then-rest-lt2 c = λ fresh.
    subst (λ (bs : List ℕ). Begins fresh bs 1 (Spelled (kinds.Mark marks.Slash)))
    (sym (one_only c.args.rest.now c.requires.0 c.requires.1 c.if-rest-lt2.true)) (slash_ends fresh)

pub returns-then-rest-eq47 : goal.returns-then-rest-eq47
returns-then-rest-eq47 c = λ fresh.
    let rest = c.args.rest.now in
    let parts = two_first rest c.requires.0 c.requires.1 c.if-rest-lt2.false slash c.if-rest-eq47.true in
    let counted : c.line_length.result ≡ prefix_len no_newline (slash ∷ slash ∷ drop 2 rest) =
    c.line_length.ensures.count ∙ ap (λ (bs : List ℕ). prefix_len no_newline bs) parts in
    subst (λ (bs : List ℕ). Begins fresh bs c.line_length.result Comment) (sym parts)
    (subst (λ (n : ℕ). Begins fresh (slash ∷ slash ∷ drop 2 rest) n Comment) (sym counted)
    (line_comment_begins fresh (drop 2 rest)))

pub returns-in_err-end : goal.returns-in_err-end
returns-in_err-end c = λ fresh.
    let rest = c.args.rest.now in
    let parts = two_first rest c.requires.0 c.requires.1 c.if-rest-lt2.false star c.if-rest-eq42.true in
    let none =
    subst (λ (bs : List ℕ). (j : ℕ) → j + 1 < length bs → get_or bs j 0 ≡ star
    → get_or bs (j + 1) 0 ≢ slash) (take_rest rest 2) c.in_err-end.ensures in
    subst (λ (r : Option (ℕ × Scanned)). IsFound fresh rest r) (sym c.from_residual.ensures)
    (subst (λ (bs : List ℕ). NoneBegins fresh bs) (sym parts) (unclosed_begins_none fresh (drop 2 rest) none))

pub returns-then-rest-eq42 : goal.returns-then-rest-eq42
returns-then-rest-eq42 c = λ fresh.
    let rest = c.args.rest.now in
    let parts = two_first rest c.requires.0 c.requires.1 c.if-rest-lt2.false star c.if-rest-eq42.true in
    let end = c.in_ok-end.end in
    let found = subst (λ (bs : List ℕ). IsFirstPair bs end) (take_rest rest 2) c.in_ok-end.ensures in
    subst (λ (bs : List ℕ). Begins fresh bs (end + 4) Comment) (sym parts)
    (block_comment_begins fresh (drop 2 rest) end found)

pub returns-then-rest-eq61 : goal.returns-then-rest-eq61
returns-then-rest-eq61 c = λ fresh.
    let rest = c.args.rest.now in
    let parts = two_first rest c.requires.0 c.requires.1 c.if-rest-lt2.false equals_sign c.if-rest-eq61.true in
    subst (λ (bs : List ℕ). Begins fresh bs 2 (Spelled (kinds.Mark marks.SlashEqual))) (sym parts)
    (slash_equal_begins fresh (drop 2 rest))

pub returns : goal.returns
returns c = λ fresh.
    let rest = c.args.rest.now in
    let parts = two_first rest c.requires.0 c.requires.1 c.if-rest-lt2.false (get_or rest 1 0) refl in
    subst (λ (bs : List ℕ). Begins fresh bs 1 (Spelled (kinds.Mark marks.Slash))) (sym parts)
    (slash_begins fresh (get_or rest 1 0) (drop 2 rest) c.if-rest-eq47.false c.if-rest-eq42.false c.if-rest-eq61.false)

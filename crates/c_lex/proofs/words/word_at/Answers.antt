use Rattle.std.proofs.Common.{sym, ◌∙◌, ap, subst}
use Rattle.c_lex.specs.declared.token.TokenKind.{TokenKind}
use Rattle.c_lex.specs.declared.token.TokenKind.TheVariants as kinds
use Rattle.c_lex.specs.Pieces.{Begins, Spelled}
use Rattle.c_lex.proofs.WordPieces.{unprefixed, keyword_begins, ident_begins}
use Rattle.c_lex.proofs.words.word_at.Goals as goal
use Rattle.c_lex.proofs.words.word_at.Goals.{in-Some, in-None+in_ok-name_of-in-None}

pub returns : goal.returns
returns c = λ fresh.
    let run = c.word_length-length.ensures in
    let un = unprefixed c.args.rest.now _ _ c.starts_with.ensures.value c.if-starts_with.false
    c.starts_with-else-starts_with.ensures.value c.if-starts_with-2.false in
    let P : TokenKind → Type 0 = λ kind. Begins fresh c.args.rest.now c.word_length-length.result (Spelled kind) in
    elim c.match-keyword_of.branch [
      | in-Some w ↦
          subst P (sym w.kind-is)
          (keyword_begins fresh c.args.rest.now _ _ c.requires run.within run.longest un w.in-Some.ensures)
      | in-None+in_ok-name_of-in-None w ↦
          subst P (sym (w.kind-is ∙ ap kinds.Ident w.in_ok-name_of-in-None.ensures))
          (ident_begins fresh c.args.rest.now _ c.requires run.within run.word run.longest un w.in-None.ensures)
    ]

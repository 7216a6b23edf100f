-- The identifiers of a text are names.
use Rattle.std.proofs.Common.{ℕ, zero, suc, Bool, List, [], ◌∷◌, ◌++◌, IsTrue, sym, subst, arith}
use Rattle.std.specs.Prelude.{flat_map}
use Rattle.std.specs.List.{All}
use Rattle.std.proofs.lemmas.Bool.Decides.{nat_tests}
use Rattle.std.proofs.lemmas.List.Elements.{All-cons, All-nil}
use Rattle.pcc_base.specs.declared.span.Span.{Span}
use Rattle.pcc_base.specs.Names.{IsDigit, IsNameByte, IsName}
use Rattle.c_lex.specs.declared.token.Token.{Token}
use Rattle.c_lex.specs.declared.token.TokenKind.TheVariants as kinds
use Rattle.c_lex.specs.Bytes.{is_letter, is_word_byte}
use Rattle.c_lex.specs.Literals.{AllPass}
use Rattle.c_lex.specs.Pieces.{Piece, Space, Comment, Skipped, Spelled, IsPiece, IsWordText}
use Rattle.c_lex.specs.Tokens.{HasTokens, Reached, Leads, behind, start_of, tokens_of}
use Rattle.c_syntax.specs.Grammar.{unit_tokens}
use Rattle.c_syntax.specs.Statements.{ExternalTree}
use Rattle.c_check_laws.specs.Laws.{AreUnitsOf}
use Rattle.c_check_laws.specs.IdentifiersLaws.{IdentifiersHaveNames}
use Rattle.c_check_laws.specs.Named.{AreSpelled}

-- ---- a word is a name

-- a byte of a word is one of a name
name_byte : (b : ℕ) → IsTrue (is_word_byte b) → IsNameByte b
name_byte b h = grind (arith, nat_tests)

-- so are all bytes of a word
name_bytes : (bs : List ℕ) → AllPass is_word_byte bs → All IsNameByte bs
name_bytes [] h = All-nil IsNameByte
name_bytes (b ∷ bs) h = All-cons IsNameByte b bs (name_byte b h.0) (name_bytes bs h.1)

-- a letter is a byte of a name
letter_byte : (b : ℕ) → IsTrue (is_letter b) → IsNameByte b
letter_byte b h = grind (arith, nat_tests)

-- a letter is no digit
no_digit : (b : ℕ) → IsTrue (is_letter b) → IsDigit b → ⊥
no_digit b h d = grind (arith, nat_tests)

-- a letter and bytes of words are a name
name_of_word : (b : ℕ) (bs : List ℕ) → IsTrue (is_letter b) → AllPass is_word_byte bs → IsName (b ∷ bs)
name_of_word b bs first others = record {
  nonempty = omega arith;
  bytes = All-cons IsNameByte b bs (letter_byte b first) (name_bytes bs others);
  begins = no_digit b first;
}

-- a word is a name
word_name : (bytes : List ℕ) → IsWordText bytes → IsName bytes
word_name bytes h = subst IsName (sym h.2) (name_of_word h.0 h.1 h.3 h.4)

-- ---- the tokens of texts

-- the token of a piece is spelled so
piece_spelled : (fresh : Bool) (rest : List ℕ) (n : ℕ) (piece : Piece) (at : Span) → IsPiece fresh rest n piece
    → AreSpelled (tokens_of piece at)
piece_spelled fresh rest n Space at h = tt
piece_spelled fresh rest n Comment at h = tt
piece_spelled fresh rest n Skipped at h = tt
piece_spelled fresh rest n (Spelled (kinds.Ident name)) at h = (word_name name h.1, tt)
piece_spelled fresh rest n (Spelled (kinds.Word w)) at h = (tt, tt)
piece_spelled fresh rest n (Spelled (kinds.Number z u)) at h = (tt, tt)
piece_spelled fresh rest n (Spelled (kinds.Text bytes)) at h = (tt, tt)
piece_spelled fresh rest n (Spelled (kinds.Mark m)) at h = (tt, tt)

-- two lists of such tokens are one
joined : (a b : List Token) → AreSpelled a → AreSpelled b → AreSpelled (a ++ b)
joined [] b h g = g
joined (t ∷ ts) b h g = (h.0, joined ts b h.1 g)

-- all tokens of a text are spelled so
leads_spelled : (k : ℕ) (from : Reached) (tokens : List Token) (to : Reached) → Leads k from tokens to
    → AreSpelled tokens
leads_spelled zero from tokens to h = subst (λ (ts : List Token). AreSpelled ts) (sym h.1) tt
leads_spelled (suc k) from tokens to h =
    subst (λ (ts : List Token). AreSpelled ts) (sym h.4)
    (joined (tokens_of h.1 from.at) h.3 (piece_spelled from.fresh from.rest h.0 h.1 from.at h.2.is)
    (leads_spelled k (behind from h.0 h.1) h.3 to h.5))

text_spelled : (file : ℕ) (text : List ℕ) (tokens : List Token) → HasTokens file text tokens → AreSpelled tokens
text_spelled file text tokens (k, to, h, e) = leads_spelled k (start_of file text) tokens to h

texts_spelled : (file : ℕ) (texts : List (List ℕ)) (units : List (List ExternalTree)) → AreUnitsOf file texts units
    → AreSpelled (flat_map unit_tokens units)
texts_spelled file [] [] h = tt
texts_spelled file [] (unit ∷ units) h = absurd h
texts_spelled file (text ∷ texts) [] h = absurd h
texts_spelled file (text ∷ texts) (unit ∷ units) ((tokens, height, lexed, tree), h) =
    joined (unit_tokens unit) (flat_map unit_tokens units)
    (subst (λ (ts : List Token). AreSpelled ts) tree.tokens_are (text_spelled file text tokens lexed))
    (texts_spelled (suc file) texts units h)

pub identifiers_have_names : IdentifiersHaveNames
identifiers_have_names texts units h = texts_spelled 0 texts units h

-- The numbers of a text's tokens are of `int`.
use Rattle.std.proofs.Common.{ℕ, zero, suc, ◌≤◌, arith, Bool, true, false, List, ◌++◌, sym, subst, inl, inr}
use Rattle.std.proofs.lemmas.Int.{ints}
use Rattle.std.specs.Prelude.{ℤ, pos, ◌-ℤ◌, nat_lt, take, if◌then◌else◌}
use Rattle.std.specs.List.{AllByRecursion}
use Rattle.byteorder.specs.Endian.{twos_complement}
use Rattle.pcc_base.specs.declared.span.Span.{Span}
use Rattle.c_lex.specs.declared.token.Token.{Token}
use Rattle.c_lex.specs.declared.token.TokenKind.{TokenKind}
use Rattle.c_lex.specs.declared.token.TokenKind.TheVariants as kinds
use Rattle.c_lex.specs.Literals.{IsCharacterConstant}
use Rattle.c_lex.specs.Pieces.{Piece, Space, Comment, Skipped, Spelled, IsPiece}
use Rattle.c_lex.specs.Tokens.{Reached, Leads, behind, tokens_of, start_of, HasTokens}
use Rattle.c_typing.specs.Laws.{IsInt, HasIntIfAny}

abbrev pub HaveInts : List Token → Type 0
HaveInts ts = AllByRecursion (λ (t : Token). HasIntIfAny t.kind) ts

constant_int : (value : ℕ) → value ≤ 0x7fffffff → IsInt (pos value)
constant_int value h = (omega (arith, ints, h), omega (arith, ints, h))

byte_int : (value : ℕ) → value ≤ 255 → IsInt (twos_complement 1 value)
byte_int value h = by (nat_lt value 128)
  where
    by : (t : Bool) → IsInt (if t then pos value else pos value -ℤ pos 256)
    by true = (omega (arith, ints, h), omega (arith, ints, h))
    by false = (omega (arith, ints, h), omega (arith, ints, h))

character_int : (bytes : List ℕ) (z : ℤ) → IsCharacterConstant bytes z → IsInt z
character_int bytes z (value, (inside, e, (front, rest, f, c, small, none)), is) =
    subst IsInt (sym is) (byte_int value small)

kind_int : (fresh : Bool) (rest : List ℕ) (n : ℕ) (kind : TokenKind) → IsPiece fresh rest n (Spelled kind)
    → HasIntIfAny kind
kind_int fresh rest n (kinds.Word word) h = tt
kind_int fresh rest n (kinds.Ident name) h = tt
kind_int fresh rest n (kinds.Number z u) (s, inl (text, longest, (value, c, is))) =
    subst IsInt (sym is) (constant_int value c.1)
kind_int fresh rest n (kinds.Number z u) (s, inr c) = character_int (take n rest) z c
kind_int fresh rest n (kinds.Text bytes) h = tt
kind_int fresh rest n (kinds.Mark mark) h = tt

one_more : (at : Span) (fresh : Bool) (rest : List ℕ) (n : ℕ) (piece : Piece) (others : List Token)
    → IsPiece fresh rest n piece → HaveInts others → HaveInts (tokens_of piece at ++ others)
one_more at fresh rest n Space others h k = k
one_more at fresh rest n Comment others h k = k
one_more at fresh rest n Skipped others h k = k
one_more at fresh rest n (Spelled kind) others h k = (kind_int fresh rest n kind h, k)

leads_ints : (k : ℕ) (from : Reached) (tokens : List Token) (to : Reached) → Leads k from tokens to → HaveInts tokens
leads_ints zero from tokens to h = subst HaveInts (sym h.1) tt
leads_ints (suc k) from tokens to (n, piece, b, others, e, h) =
    subst HaveInts (sym e) (one_more from.at from.fresh from.rest n piece others b.is
    (leads_ints k (behind from n piece) others to h))

pub text_ints : (file : ℕ) (text : List ℕ) (tokens : List Token) → HasTokens file text tokens → HaveInts tokens
text_ints file text tokens (k, to, h, e) = leads_ints k (start_of file text) tokens to h

-- The longest run of word bytes behind a letter is a piece.
use Rattle.std.proofs.Common.{◌≡◌, ◌⊎◌, ◌<◌, ◌≤◌, inl, inr, ℕ, zero, suc, Bool, true, false, List, [], ◌∷◌, eqb}
use Rattle.std.proofs.Common.{take, drop, length, refl, sym, ◌∙◌, ap, subst, arith, IsTrue}
use Rattle.pcc_base.specs.Ascii.{double_quote, percent, apostrophe, slash, capital_l}
use Rattle.c_lex.specs.declared.token.TokenKind.TheVariants as kinds
use Rattle.std.specs.List.{starts_with}
use Rattle.pcc_base.specs.declared.keyword.Keyword.{Keyword}
use Rattle.c_lex.specs.Bytes.{is_letter, is_word_byte}
use Rattle.c_lex.specs.Spellings.{keyword_text}
use Rattle.c_lex.specs.Literals.{AllPass, StartsNot}
use Rattle.c_lex.specs.Pieces.{Piece, Spelled, IsPiece, IsBarred, IsNoKeyword, Begins}
use Rattle.c_lex.proofs.Fronts.{starts_not}
use Rattle.c_lex.proofs.FirstBytes.{kind_of, letter_kind, letter_in_word, letter_is_not, letter_starts_no_number}

-- a run that stops at n isn't longer
stops : (test : ℕ → Bool) (rest : List ℕ) (n m : ℕ) → AllPass test (take m rest) → StartsNot test (drop n rest) → n < m
    → m ≤ length rest → ⊥
stops test [] n m all end below within = omega arith
stops test (b ∷ rest) zero zero all end below within = omega arith
stops test (b ∷ rest) zero (suc m) all end below within = let clash : true ≡ false = sym all.0 ∙ end in cc
stops test (b ∷ rest) (suc n) zero all end below within = omega arith
stops test (b ∷ rest) (suc n) (suc m) all end below within = stops test rest n m all.1 end (omega arith) (omega arith)

-- the rest begins with no `L` before a quote
abbrev pub IsUnprefixed : List ℕ → Type 0
IsUnprefixed rest =
    (quote : ℕ) (others : List ℕ) → rest ≡ capital_l ∷ quote ∷ others → (quote ≡ apostrophe) ⊎ (quote ≡ double_quote)
    → ⊥

-- a letter that is no such `L` isn't where no piece may begin
word_free : (b : ℕ) (others : List ℕ) → IsTrue (is_letter b) → IsUnprefixed (b ∷ others) → IsBarred (b ∷ others) → ⊥
word_free b others l un (inl h) = let e : b ≡ slash = (let e = h.1 in cc) in letter_is_not b slash l refl e
word_free b others l un (inr (inl h)) = let e : b ≡ percent = (let e = h.1 in cc) in letter_is_not b percent l refl e
word_free b others l un (inr (inr (inl h))) = un h.0 h.1 h.2 h.3
word_free b others l un (inr (inr (inr h))) = letter_starts_no_number b others l h.0

-- no piece goes on behind the end of the word bytes
word_longest : (fresh : Bool) (b : ℕ) (others : List ℕ) (n : ℕ) → IsTrue (is_letter b)
    → StartsNot is_word_byte (drop n (b ∷ others)) → (m : ℕ) (other : Piece) → n < m → m ≤ length (b ∷ others)
    → IsPiece fresh (b ∷ others) m other → ⊥
word_longest fresh b others n l end zero other below within is = omega arith
word_longest fresh b others n l end (suc m) other below within is =
    stops is_word_byte (b ∷ others) n (suc m) (letter_kind b others m l (kind_of fresh b others m other is)) end below
    within

-- a letter is among the word bytes
word_nonempty : (b : ℕ) (others : List ℕ) (n : ℕ) → IsTrue (is_letter b) → StartsNot is_word_byte (drop n (b ∷ others))
    → 0 < n
word_nonempty b others zero l end = let clash : true ≡ false = sym (letter_in_word b l) ∙ end in absurd cc
word_nonempty b others (suc n) l end = omega arith

-- a piece that ends where the word bytes do begins the rest, given its first byte
word_begins_at : (fresh : Bool) (b : ℕ) (others : List ℕ) (n : ℕ) (piece : Piece) → IsTrue (is_letter b)
    → n ≤ length (b ∷ others) → StartsNot is_word_byte (drop n (b ∷ others)) → IsUnprefixed (b ∷ others)
    → IsPiece fresh (b ∷ others) n piece → Begins fresh (b ∷ others) n piece
word_begins_at fresh b others n piece l within end un is = record {
  within = within;
  nonempty = word_nonempty b others n l end;
  is = is;
  longest = word_longest fresh b others n l end;
  free = word_free b others l un;
}

-- the rest begins with a letter
abbrev pub BeginsWithLetter : List ℕ → Type 0
BeginsWithLetter rest = (b : ℕ) × (others : List ℕ) × (rest ≡ b ∷ others) × IsTrue (is_letter b)

-- a piece that ends where the word bytes do begins the rest
word_begins : (fresh : Bool) (rest : List ℕ) (n : ℕ) (piece : Piece) → BeginsWithLetter rest → n ≤ length rest
    → StartsNot is_word_byte (drop n rest) → IsUnprefixed rest → IsPiece fresh rest n piece → Begins fresh rest n piece
word_begins fresh rest n piece first =
    subst (λ r. n ≤ length r → StartsNot is_word_byte (drop n r) → IsUnprefixed r → IsPiece fresh r n piece
    → Begins fresh r n piece) (sym first.2)
    (λ within end un is. word_begins_at fresh first.0 first.1 n piece first.3 within end un is)

-- a keyword that is the whole run of word bytes begins the rest
pub keyword_begins : (fresh : Bool) (rest : List ℕ) (n : ℕ) (word : Keyword) → BeginsWithLetter rest → n ≤ length rest
    → StartsNot is_word_byte (drop n rest) → IsUnprefixed rest → keyword_text word ≡ take n rest
    → Begins fresh rest n (Spelled (kinds.Word word))
keyword_begins fresh rest n word first within end un is = word_begins fresh rest n _ first within end un (sym is)

-- the word bytes are an identifier if they are no keyword
ident_at : (fresh : Bool) (b : ℕ) (others : List ℕ) (n : ℕ) → IsTrue (is_letter b)
    → AllPass is_word_byte (take n (b ∷ others)) → StartsNot is_word_byte (drop n (b ∷ others))
    → IsNoKeyword (take n (b ∷ others)) → IsPiece fresh (b ∷ others) n (Spelled (kinds.Ident (take n (b ∷ others))))
ident_at fresh b others zero l all end none = absurd (omega (arith, word_nonempty b others zero l end))
ident_at fresh b others (suc n) l all end none = (refl, (b, take n others, refl, l, all.1), none)

-- an identifier that is the whole run of word bytes begins the rest
pub ident_begins : (fresh : Bool) (rest : List ℕ) (n : ℕ) → BeginsWithLetter rest → n ≤ length rest
    → AllPass is_word_byte (take n rest) → StartsNot is_word_byte (drop n rest) → IsUnprefixed rest
    → IsNoKeyword (take n rest) → Begins fresh rest n (Spelled (kinds.Ident (take n rest)))
ident_begins fresh rest n first within all end un none =
    word_begins fresh rest n _ first within end un
    (subst (λ r. AllPass is_word_byte (take n r) → StartsNot is_word_byte (drop n r) → IsNoKeyword (take n r)
    → IsPiece fresh r n (Spelled (kinds.Ident (take n r)))) (sym first.2)
    (λ a e k. ident_at fresh first.0 first.1 n first.3 a e k) all end none)

-- so no `L` before a quote is there where both tests fail
pub unprefixed : (rest : List ℕ) (r s : Bool) → r ≡ starts_with eqb rest (capital_l ∷ apostrophe ∷ []) → r ≡ false
    → s ≡ starts_with eqb rest (capital_l ∷ double_quote ∷ []) → s ≡ false → IsUnprefixed rest
unprefixed rest r s is fails is_too fails_too quote others e (inl q) =
    starts_not rest (capital_l ∷ apostrophe ∷ []) r is fails others (e ∙ ap (λ x. capital_l ∷ x ∷ others) q)
unprefixed rest r s is fails is_too fails_too quote others e (inr q) =
    starts_not rest (capital_l ∷ double_quote ∷ []) s is_too fails_too others (e ∙ ap (λ x. capital_l ∷ x ∷ others) q)

-- What the first byte of a piece says of its kind.
use Rattle.std.proofs.Common.{◌≡◌, ◌==◌, inl, inr, ℕ, zero, suc, Bool, true, false, not, cond, List, [], ◌∷◌, take}
use Rattle.std.proofs.Common.{refl, sym, ◌∙◌, ap, subst, rules, arith, IsTrue, IsFalse}
use Rattle.std.proofs.lemmas.List.Sums.{take_while-cons}
use Rattle.std.proofs.lemmas.Bool.Decides.{nat_tests}
use Rattle.pcc_base.specs.Ascii.{newline, double_quote, hash, apostrophe, dot, slash}
use Rattle.c_lex.specs.declared.token.TokenKind.TheVariants as kinds
use Rattle.c_lex.specs.declared.token.Punct.{Punct}
use Rattle.c_lex.specs.declared.token.Punct.TheVariants as marks
use Rattle.pcc_base.specs.declared.keyword.Keyword.{Keyword}
use Rattle.pcc_base.specs.declared.keyword.Keyword.TheVariants as words
use Rattle.c_lex.specs.Bytes.{is_space, is_letter, is_digit, is_word_byte}
use Rattle.c_lex.specs.Spellings.{keyword_text, mark_text, IsMark, IsDigraph}
use Rattle.c_lex.specs.Literals.{StartsNumber, IsNumberText, AllPass}
use Rattle.c_lex.specs.Pieces.{Piece, Space, Comment, Skipped, Spelled, IsPiece}

-- what a piece of m bytes is, by the first byte of the rest
pub data Kind (b : ℕ) (rest : List ℕ) (m : ℕ) : Type 0 where
  Spaced : IsTrue (is_space b) → Kind b rest m
  Slashed : b ≡ slash → Kind b rest m
  Hashed : b ≡ hash → Kind b rest m
  Worded : IsTrue (is_letter b) → AllPass is_word_byte (take m rest) → Kind b rest m
  Numbered : StartsNumber rest → Kind b rest m
  Quoted : b ≡ apostrophe → Kind b rest m
  DoubleQuoted : b ≡ double_quote → Kind b rest m
  Marked : (mark : Punct) → IsMark mark (take m rest) → Kind b rest m

-- word bytes, the first of which is a letter
abbrev pub IsWord : List ℕ → Type 0
IsWord [] = ⊥
IsWord (b ∷ bs) = IsTrue (is_letter b) × AllPass is_word_byte (b ∷ bs)

-- each keyword is made of word bytes, and begins with a letter
pub keyword_is_word : (word : Keyword) → IsWord (keyword_text word)
keyword_is_word words.Auto = search rules
keyword_is_word _ = search rules

-- a letter is a word byte
pub letter_in_word : (b : ℕ) → IsTrue (is_letter b) → IsTrue (is_word_byte b)
letter_in_word b h = rw h

-- a line's first byte is the text's
line_first : (t : Bool) (b : ℕ) (xs ys : List ℕ) → cond t (b ∷ xs) [] ≡ hash ∷ ys → b ≡ hash
line_first true b xs ys e = cc
line_first false b xs ys e = cc

-- a preprocessing number at the front starts as one
starts_number : (b : ℕ) (others : List ℕ) (m : ℕ) → IsNumberText (take (suc m) (b ∷ others)) → StartsNumber (b ∷ others)
starts_number b [] zero h = h
starts_number b [] (suc m) h = h
starts_number b (c ∷ others) zero h = inl h
starts_number b (c ∷ others) (suc m) (inl h) = inl h.0
starts_number b (c ∷ others) (suc m) (inr h) = inr (h.0, h.1)

-- the kinds that a piece may be
pub kind_of : (fresh : Bool) (b : ℕ) (others : List ℕ) (m : ℕ) (piece : Piece)
    → IsPiece fresh (b ∷ others) (suc m) piece → Kind b (b ∷ others) (suc m)
kind_of fresh b others m Space h = let same : h.0 ≡ b = cc in Spaced (subst (λ x. IsTrue (is_space x)) same h.2)
kind_of fresh b others m Comment (inl h) = let e = h.1 in Slashed cc
kind_of fresh b others m Comment (inr h) = let e = h.1 in Slashed cc
kind_of fresh b others m Skipped h =
    Hashed (line_first _ b _ _ (sym (take_while-cons (λ x. not (x == newline)) b others) ∙ h.1.2))
kind_of fresh b others m (Spelled (kinds.Word word)) h =
    let w = subst IsWord (sym h) (keyword_is_word word) in Worded w.0 w.1
kind_of fresh b others m (Spelled (kinds.Ident name)) h =
    let w = subst IsWord (sym (h.0 ∙ h.1.2)) (h.1.3, (letter_in_word h.1.0 h.1.3, h.1.4)) in Worded w.0 w.1
kind_of fresh b others m (Spelled (kinds.Number z u)) (s, inl h) = Numbered (starts_number b others m h.0)
kind_of fresh b others m (Spelled (kinds.Number z u)) (s, inr h) = let e = h.1.1 in Quoted cc
kind_of fresh b others m (Spelled (kinds.Text bytes)) h = let e = h.1 in DoubleQuoted cc
kind_of fresh b others m (Spelled (kinds.Mark mark)) h = Marked mark h

-- the bytes don't begin with a letter
abbrev pub BeginsNoWord : List ℕ → Type 0
BeginsNoWord [] = Unit {0}
BeginsNoWord (b ∷ bs) = IsFalse (is_letter b)

-- no mark begins with a letter
-- no spelling of a mark begins with a letter
text_begins_no_word : (mark : Punct) → BeginsNoWord (mark_text mark)
text_begins_no_word marks.Dot = refl
text_begins_no_word _ = refl

-- nor does a digraph
digraph_begins_no_word : (mark : Punct) (bytes : List ℕ) → IsDigraph mark bytes → BeginsNoWord bytes
digraph_begins_no_word marks.LeftBracket bytes h = subst BeginsNoWord (sym h) refl
digraph_begins_no_word marks.RightBracket bytes h = subst BeginsNoWord (sym h) refl
digraph_begins_no_word marks.LeftBrace bytes h = subst BeginsNoWord (sym h) refl
digraph_begins_no_word marks.RightBrace bytes h = subst BeginsNoWord (sym h) refl
digraph_begins_no_word _ bytes h = absurd h

mark_begins_no_word : (mark : Punct) (bytes : List ℕ) → IsMark mark bytes → BeginsNoWord bytes
mark_begins_no_word mark bytes (inl h) = subst BeginsNoWord (sym h) (text_begins_no_word mark)
mark_begins_no_word mark bytes (inr h) = digraph_begins_no_word mark bytes h

-- a letter is no white space
letter_no_space : (b : ℕ) → IsTrue (is_letter b) → IsTrue (is_space b) → ⊥
letter_no_space b l s = grind (arith, nat_tests)

-- a letter is no digit
letter_no_digit : (b : ℕ) → IsTrue (is_letter b) → IsTrue (is_digit b) → ⊥
letter_no_digit b l s = grind (arith, nat_tests)

-- no letter is one of these bytes
pub letter_is_not : (b k : ℕ) → IsTrue (is_letter b) → IsFalse (is_letter k) → b ≡ k → ⊥
letter_is_not b k l other e = let clash : true ≡ false = sym l ∙ ap is_letter e ∙ other in cc

-- a number doesn't start with a letter
pub letter_starts_no_number : (b : ℕ) (others : List ℕ) → IsTrue (is_letter b) → StartsNumber (b ∷ others) → ⊥
letter_starts_no_number b [] l h = letter_no_digit b l h
letter_starts_no_number b (c ∷ others) l (inl h) = letter_no_digit b l h
letter_starts_no_number b (c ∷ others) l (inr h) = letter_is_not b dot l refl h.0

-- where a letter begins the rest, only word bytes make a piece
pub letter_kind : (b : ℕ) (others : List ℕ) (m : ℕ) → IsTrue (is_letter b) → Kind b (b ∷ others) (suc m)
    → AllPass is_word_byte (take (suc m) (b ∷ others))
letter_kind b others m l (Spaced h) = absurd (letter_no_space b l h)
letter_kind b others m l (Slashed h) = absurd (letter_is_not b slash l refl h)
letter_kind b others m l (Hashed h) = absurd (letter_is_not b hash l refl h)
letter_kind b others m l (Worded h all) = all
letter_kind b others m l (Numbered h) = absurd (letter_starts_no_number b others l h)
letter_kind b others m l (Quoted h) = absurd (letter_is_not b apostrophe l refl h)
letter_kind b others m l (DoubleQuoted h) = absurd (letter_is_not b double_quote l refl h)
letter_kind b others m l (Marked mark h) =
    let clash : true ≡ false = sym l ∙ mark_begins_no_word mark _ h in absurd cc

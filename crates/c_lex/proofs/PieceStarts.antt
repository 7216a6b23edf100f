-- What the first bytes of each kind of piece are.
use Rattle.std.proofs.Common.{◌≡◌, ℕ, zero, suc, Bool, true, false, not, ◌||◌, ◌&&◌, List, [], ◌∷◌, ◌++◌, take, IsTrue}
use Rattle.std.proofs.Common.{refl, sym, subst, inl, inr, arith, codes}
use Rattle.std.proofs.lemmas.Bool.Decides.{nat_tests}
use Rattle.std.specs.Prelude.{◌==◌}
use Rattle.std.specs.List.{prefix_len}
use Rattle.pcc_base.specs.Ascii.{newline, exclamation_mark, double_quote, hash, percent, apostrophe, star, dot, slash}
use Rattle.pcc_base.specs.Ascii.{colon, equals_sign, capital_l, left_bracket, is_between}
use Rattle.pcc_base.specs.declared.keyword.Keyword.{Keyword}
use Rattle.pcc_base.specs.declared.keyword.Keyword.TheVariants as words
use Rattle.c_lex.specs.declared.token.Punct.{Punct}
use Rattle.c_lex.specs.declared.token.Punct.TheVariants as marks
use Rattle.c_lex.specs.declared.token.TokenKind.TheVariants as kinds
use Rattle.c_lex.specs.Bytes.{is_space, is_digit, is_letter}
use Rattle.c_lex.specs.Spellings.{keyword_text, mark_text, IsMark, IsDigraph}
use Rattle.c_lex.specs.Literals.{IsNumberText, StartsNumber}
use Rattle.c_lex.specs.Pieces.{Piece, Space, Comment, Skipped, Spelled, IsPiece, IsBarred}

-- a byte that begins a punctuator
abbrev pub is_mark_byte : ℕ → Bool
is_mark_byte b =
    (b == exclamation_mark || is_between (codes "%&") b)
    || (is_between (codes "(/") b
    || (is_between (codes ":?") b
    || ((b == left_bracket || is_between (codes "]^") b) || is_between (codes "{~") b)))

abbrev pub is_empty : List ℕ → Bool
is_empty [] = true
is_empty (b ∷ bs) = false

-- bytes that may be a punctuator: behind `/` only `=` stands, and behind `.` only `.`
abbrev pub may_be_mark : List ℕ → Bool
may_be_mark [] = false
may_be_mark (b ∷ []) = is_mark_byte b
may_be_mark (b ∷ c ∷ bs) =
    is_mark_byte b && ((not (b == slash) || (c == equals_sign && is_empty bs)) && (not (b == dot) || c == dot))

-- the first byte passes
abbrev pub begins_with : (ℕ → Bool) → List ℕ → Bool
begins_with test [] = false
begins_with test (b ∷ bs) = test b

mark_text_may : (mark : Punct) → IsTrue (may_be_mark (mark_text mark))
mark_text_may marks.LeftBracket = refl
mark_text_may _ = refl

digraph_may : (mark : Punct) (bytes : List ℕ) → IsDigraph mark bytes → IsTrue (may_be_mark bytes)
digraph_may marks.LeftBracket bytes e = subst (λ (bs : List ℕ). IsTrue (may_be_mark bs)) (sym e) refl
digraph_may marks.RightBracket bytes e = subst (λ (bs : List ℕ). IsTrue (may_be_mark bs)) (sym e) refl
digraph_may marks.LeftBrace bytes e = subst (λ (bs : List ℕ). IsTrue (may_be_mark bs)) (sym e) refl
digraph_may marks.RightBrace bytes e = subst (λ (bs : List ℕ). IsTrue (may_be_mark bs)) (sym e) refl
digraph_may _ bytes e = absurd e

-- a punctuator passes the test
pub IsMark-may : (mark : Punct) (bytes : List ℕ) → IsMark mark bytes → IsTrue (may_be_mark bytes)
IsMark-may mark bytes (inl e) = subst (λ (bs : List ℕ). IsTrue (may_be_mark bs)) (sym e) (mark_text_may mark)
IsMark-may mark bytes (inr d) = digraph_may mark bytes d

keyword_letter : (word : Keyword) → IsTrue (begins_with is_letter (keyword_text word))
keyword_letter words.Auto = refl
keyword_letter _ = refl

-- which first byte each kind of piece may have
abbrev pub starts : Piece → ℕ → Bool
starts Space b = is_space b
starts Comment b = b == slash
starts Skipped b = b == hash
starts (Spelled (kinds.Word word)) b = is_letter b
starts (Spelled (kinds.Ident name)) b = is_letter b
starts (Spelled (kinds.Number z u)) b = is_digit b || (b == dot || b == apostrophe)
starts (Spelled (kinds.Text bytes)) b = b == double_quote
starts (Spelled (kinds.Mark mark)) b = is_mark_byte b

mark_first : (b : ℕ) (bs : List ℕ) → IsTrue (may_be_mark (b ∷ bs)) → IsTrue (is_mark_byte b)
mark_first b [] h = h
mark_first b (c ∷ cs) h = grind (arith, nat_tests)

number_first : (b : ℕ) (bs : List ℕ) → IsNumberText (b ∷ bs) → IsTrue (is_digit b || (b == dot || b == apostrophe))
number_first b [] h = grind (arith, nat_tests)
number_first b (c ∷ cs) (inl h) = let d : IsTrue (is_digit b) = h.0 in grind (arith, nat_tests)
number_first b (c ∷ cs) (inr h) = subst (λ (x : ℕ). IsTrue (is_digit x || (x == dot || x == apostrophe))) (sym h.0) refl

pub same_first : (test : ℕ → Bool) (b : ℕ) (bs text : List ℕ) → b ∷ bs ≡ text → IsTrue (begins_with test text)
    → IsTrue (test b)
same_first test b bs text e h = subst (λ (xs : List ℕ). IsTrue (begins_with test xs)) (sym e) h

-- what a list that a front begins with begins with
pub take_first : (k : ℕ) (b : ℕ) (others : List ℕ) (c : ℕ) (xs : List ℕ) → take k (b ∷ others) ≡ c ∷ xs → b ≡ c
take_first zero b others c xs e = cc
take_first (suc k) b others c xs e = cc

-- a piece's first byte is one that its kind may have
pub piece_starts : (fresh : Bool) (b : ℕ) (others : List ℕ) (m : ℕ) (other : Piece)
    → IsPiece fresh (b ∷ others) (suc m) other → IsTrue (starts other b)
piece_starts fresh b others m Space (c, e, h) = same_first is_space b (take m others) (c ∷ []) e h
piece_starts fresh b others m Comment (inl (body, e, h)) = same_first (λ x. x == slash) b (take m others) _ e refl
piece_starts fresh b others m Comment (inr (body, e, h)) =
    same_first (λ x. x == slash) b (take m others) (slash ∷ star ∷ body ++ star ∷ slash ∷ []) e refl
piece_starts fresh b others m Skipped (f, (blanks, more, e, passes, rest), is) =
    let first : b ≡ hash =
    take_first (prefix_len (λ x. not (x == newline)) (b ∷ others)) b others hash (blanks ++ more) e in
    grind (arith, nat_tests)
piece_starts fresh b others m (Spelled (kinds.Word word)) e =
    same_first is_letter b (take m others) (keyword_text word) e (keyword_letter word)
piece_starts fresh b others m (Spelled (kinds.Ident name)) (e, (c, cs, is, letter, all), none) =
    same_first is_letter b (take m others) name e
    (subst (λ (xs : List ℕ). IsTrue (begins_with is_letter xs)) (sym is) letter)
piece_starts fresh b others m (Spelled (kinds.Number z u)) (s, inl (text, longest, more)) =
    number_first b (take m others) text
piece_starts fresh b others m (Spelled (kinds.Number z u)) (s, inr (value, (inside, e, has), is)) =
    same_first (λ x. is_digit x || (x == dot || x == apostrophe)) b (take m others)
    (apostrophe ∷ inside ++ apostrophe ∷ []) e refl
piece_starts fresh b others m (Spelled (kinds.Text bytes)) (inside, e, has) =
    same_first (λ x. x == double_quote) b (take m others) (double_quote ∷ inside ++ double_quote ∷ []) e refl
piece_starts fresh b others m (Spelled (kinds.Mark mark)) h =
    mark_first b (take m others) (IsMark-may mark (b ∷ take m others) h)

-- a byte with which what bars a piece may begin
abbrev pub may_bar : ℕ → Bool
may_bar b = (b == slash || (b == percent || b == capital_l)) || (is_digit b || b == dot)

number_bars : (b : ℕ) (others : List ℕ) → StartsNumber (b ∷ others) → IsTrue (may_bar b)
number_bars b [] h = grind (arith, nat_tests)
number_bars b (c ∷ cs) (inl h) = grind (arith, nat_tests)
number_bars b (c ∷ cs) (inr h) = subst (λ (x : ℕ). IsTrue (may_bar x)) (sym h.0) refl

-- what bars a piece begins with such a byte
pub barred_starts : (b : ℕ) (others : List ℕ) → IsBarred (b ∷ others) → IsTrue (may_bar b)
barred_starts b others (inl (body, e, h)) = same_first may_bar b others (slash ∷ star ∷ body) e refl
barred_starts b others (inr (inl (rest, e))) = same_first may_bar b others (percent ∷ colon ∷ rest) e refl
barred_starts b others (inr (inr (inl (quote, rest, e, h)))) =
    same_first may_bar b others (capital_l ∷ quote ∷ rest) e refl
barred_starts b others (inr (inr (inr (h, none)))) = number_bars b others h

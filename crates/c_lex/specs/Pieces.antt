-- The pieces that a text is made of: white space, comments, skipped lines and tokens (C99 6.4, 6.4.9).
-- Each is the longest that begins there.
use Rattle.std.specs.Prelude.{◌≡◌, ◌≢◌, ◌≤◌, ◌<◌, ◌⊎◌, ℕ, Bool, true, false, List, [], ◌∷◌, ◌++◌, length, take, take_while}
use Rattle.std.specs.Prelude.{not, ◌==◌, IsTrue, pos, codes, if◌then◌else◌}
use Rattle.pcc_base.specs.Ascii.{newline, double_quote, hash, apostrophe, star, slash}
use Rattle.pcc_base.specs.declared.keyword.Keyword.{Keyword}
use Rattle.pcc_base.specs.declared.fault.FaultKind.{FaultKind}
use Rattle.pcc_base.specs.declared.fault.FaultKind.TheVariants.{BadByte, BadNumber, Unclosed, BadEscape}
use Rattle.c_lex.specs.declared.token.TokenKind.{TokenKind}
use Rattle.c_lex.specs.declared.token.TokenKind.TheVariants as kinds
use Rattle.c_lex.specs.Bytes.{is_space, is_blank, is_digit, is_letter, is_word_byte}
use Rattle.c_lex.specs.Spellings.{keyword_text, IsMark}
use Rattle.c_lex.specs.Literals.{AllPass, StartsNot, StartsNumber, IsNumberText, IsConstant, IsLiteral}
use Rattle.c_lex.specs.Literals.{IsCharacterConstant, is_closed}

pub data Piece : Type 0 where
  -- one byte of white space
  Space : Piece
  Comment : Piece
  -- a line that the preprocessor left behind
  Skipped : Piece
  Spelled : (kind : TokenKind) → Piece

-- ---- what each piece is

-- to the end of the line
abbrev pub line_of : List ℕ → List ℕ
line_of rest = take_while (λ b. not (b == newline)) rest

-- `//` and no newline
abbrev pub IsLineComment : List ℕ → Type 0
IsLineComment bytes = (body : List ℕ) × (bytes ≡ codes "//" ++ body) × AllPass (λ b. not (b == newline)) body

-- `/*` and the first `*/` behind it
abbrev pub IsBlockComment : List ℕ → Type 0
IsBlockComment bytes =
    (body : List ℕ) × (bytes ≡ codes "/*" ++ body ++ codes "*/")
    × ((before after : List ℕ) → body ++ codes "*" ≢ before ++ (codes "*/" ++ after))

-- behind `#`, spaces and tabs comes a digit or the word `pragma`
abbrev pub IsMarker : List ℕ → Type 0
IsMarker line =
    (blanks more : List ℕ) × (line ≡ hash ∷ blanks ++ more) × AllPass is_blank blanks
    × (((d : ℕ) × (others : List ℕ) × (more ≡ d ∷ others) × IsTrue (is_digit d))
    ⊎ ((others : List ℕ) × (more ≡ codes "pragma" ++ others) × StartsNot is_word_byte others))

-- an identifier, or a keyword (C99 6.4.2.1)
abbrev pub IsWordText : List ℕ → Type 0
IsWordText bytes = (b : ℕ) × (bs : List ℕ) × (bytes ≡ b ∷ bs) × IsTrue (is_letter b) × AllPass is_word_byte bs

-- no keyword has this text
abbrev pub IsNoKeyword : List ℕ → Type 0
IsNoKeyword bytes = (word : Keyword) → keyword_text word ≢ bytes

-- The first n bytes of the rest are such a piece. A line may be skipped where it starts between pieces
-- and had nothing but spaces and tabs so far (`fresh`). A number is the longest preprocessing number; none is unsigned.
abbrev pub IsPiece : Bool → List ℕ → ℕ → Piece → Type 0
IsPiece fresh rest n Space = (b : ℕ) × (take n rest ≡ b ∷ []) × IsTrue (is_space b)
IsPiece fresh rest n Comment = IsLineComment (take n rest) ⊎ IsBlockComment (take n rest)
IsPiece fresh rest n Skipped = (fresh ≡ true) × IsMarker (line_of rest) × (n ≡ length (line_of rest))
IsPiece fresh rest n (Spelled (kinds.Word word)) = take n rest ≡ keyword_text word
IsPiece fresh rest n (Spelled (kinds.Ident name)) = (take n rest ≡ name) × IsWordText name × IsNoKeyword name
IsPiece fresh rest n (Spelled (kinds.Number z unsigned)) =
    (unsigned ≡ false)
    × ((IsNumberText (take n rest) × ((m : ℕ) → n < m → m ≤ length rest → IsNumberText (take m rest) → ⊥)
    × ((value : ℕ) × IsConstant (take n rest) value × (z ≡ pos value)))
    ⊎ IsCharacterConstant (take n rest) z)
IsPiece fresh rest n (Spelled (kinds.Text bytes)) = IsLiteral double_quote (take n rest) bytes
IsPiece fresh rest n (Spelled (kinds.Mark mark)) = IsMark mark (take n rest)

-- ---- where no piece begins

-- `/*` with no `*/` behind it; `%:`; `L` and a quote; a preprocessing number that is no constant
abbrev pub IsBarred : List ℕ → Type 0
IsBarred rest =
    ((body : List ℕ) × (rest ≡ codes "/*" ++ body) × ((before after : List ℕ) → body ≢ before ++ (codes "*/" ++ after)))
    ⊎ ((others : List ℕ) × (rest ≡ codes "%:" ++ others))
    ⊎ ((quote : ℕ) × (others : List ℕ) × (rest ≡ codes "L" ++ quote ∷ others) ×
    ((quote ≡ apostrophe) ⊎ (quote ≡ double_quote)))
    ⊎ (StartsNumber rest
    × ((n value : ℕ) → IsNumberText (take n rest)
    → ((m : ℕ) → n < m → m ≤ length rest → IsNumberText (take m rest) → ⊥) → IsConstant (take n rest) value → ⊥))

-- the piece that begins the rest is its first n bytes: no longer prefix is a piece
pub record Begins (fresh : Bool) (rest : List ℕ) (n : ℕ) (piece : Piece) : Type 0 where
  pub within : n ≤ length rest
  pub nonempty : 0 < n
  pub is : IsPiece fresh rest n piece
  pub longest : (m : ℕ) (other : Piece) → n < m → m ≤ length rest → IsPiece fresh rest m other → ⊥
  pub free : IsBarred rest → ⊥

abbrev pub NoneBegins : Bool → List ℕ → Type 0
NoneBegins fresh rest = (n : ℕ) (piece : Piece) → Begins fresh rest n piece → ⊥

abbrev pub StartsWithStar : List ℕ → Type 0
StartsWithStar [] = ⊥
StartsWithStar (b ∷ rest) = b ≡ star

-- which fault stands where no piece begins the rest
abbrev pub IsFaultOf : List ℕ → FaultKind → Type 0
IsFaultOf [] kind = ⊥
IsFaultOf (b ∷ rest) kind =
    ((b ≡ slash) × (kind ≡ Unclosed) × StartsWithStar rest)
    ⊎ (((b ≡ apostrophe) ⊎ (b ≡ double_quote)) × (kind ≡ (if is_closed b rest then BadEscape else Unclosed)))
    ⊎ (StartsNumber (b ∷ rest) × (kind ≡ BadNumber))
    ⊎ ((b ≢ apostrophe) × (b ≢ double_quote) × (StartsNumber (b ∷ rest) → ⊥) ×
    ((b ≡ slash) → StartsWithStar rest → ⊥) × (kind ≡ BadByte))

-- The longest punctuator is a piece.
use Rattle.std.proofs.Common.{◌≡◌, ◌≢◌, ◌<◌, ◌≤◌, inl, inr, ℕ, zero, suc, Bool, true, false, List, [], ◌∷◌, take}
use Rattle.std.proofs.Common.{length, get_or, refl, sym, ◌∙◌, ap, subst, arith, IsFalse}
use Rattle.std.proofs.lemmas.List.{length-take-le}
use Rattle.pcc_base.specs.Ascii.{double_quote, hash, percent, apostrophe, slash, colon, capital_l}
use Rattle.c_lex.specs.declared.token.TokenKind.TheVariants as kinds
use Rattle.c_lex.specs.declared.token.Punct.{Punct}
use Rattle.c_lex.specs.declared.token.Punct.TheVariants as marks
use Rattle.c_lex.specs.Bytes.{is_letter, is_space}
use Rattle.c_lex.specs.Spellings.{mark_text, IsMark, IsDigraph}
use Rattle.c_lex.specs.Literals.{StartsNumber}
use Rattle.c_lex.specs.Pieces.{Piece, Spelled, IsPiece, IsBarred, Begins, NoneBegins}
use Rattle.c_lex.proofs.FirstBytes.{Kind, Spaced, Slashed, Hashed, Worded, Numbered, Quoted, DoubleQuoted, Marked}
use Rattle.c_lex.proofs.FirstBytes.{kind_of}

-- no spelling of a mark is empty or longer than three bytes
text_length : (mark : Punct) → (0 < length (mark_text mark)) × (length (mark_text mark) ≤ 3)
text_length marks.Dot = (omega arith, omega arith)
text_length _ = (omega arith, omega arith)

-- a digraph is two bytes long
digraph_length : (mark : Punct) (bytes : List ℕ) → IsDigraph mark bytes → length bytes ≡ 2
digraph_length marks.LeftBracket bytes h = ap length h
digraph_length marks.RightBracket bytes h = ap length h
digraph_length marks.LeftBrace bytes h = ap length h
digraph_length marks.RightBrace bytes h = ap length h
digraph_length _ bytes h = absurd h

-- so a mark has one to three bytes
mark_length : (mark : Punct) (bytes : List ℕ) → IsMark mark bytes → (0 < length bytes) × (length bytes ≤ 3)
mark_length mark bytes (inl e) = subst (λ b. (0 < length b) × (length b ≤ 3)) (sym e) (text_length mark)
mark_length mark bytes (inr d) =
    let two : length bytes ≡ 2 = digraph_length mark bytes d in (omega arith, omega arith)

-- no mark is spelled by the first n bytes
abbrev pub NoneOf : ℕ → List ℕ → Type 0
NoneOf n rest = n ≤ length rest → (mark : Punct) → IsMark mark (take n rest) → ⊥

-- no mark that is longer than this begins the rest
abbrev pub NoneBeyond : ℕ → List ℕ → Type 0
NoneBeyond low rest = (mark : Punct) (n : ℕ) → low < n → n ≤ length rest → IsMark mark (take n rest) → ⊥

-- no longer mark of one, two or three bytes: so no longer mark
pub none_beyond : (low : ℕ) (rest : List ℕ) → (low < 3 → NoneOf 3 rest) → (low < 2 → NoneOf 2 rest)
    → (low < 1 → NoneOf 1 rest) → NoneBeyond low rest
none_beyond low rest threes twos ones mark zero below within h = omega arith
none_beyond low rest threes twos ones mark (suc zero) below within h = ones (omega arith) within mark h
none_beyond low rest threes twos ones mark (suc (suc zero)) below within h = twos (omega arith) within mark h
none_beyond low rest threes twos ones mark (suc (suc (suc zero))) below within h = threes (omega arith) within mark h
none_beyond low rest threes twos ones mark (suc (suc (suc (suc n)))) below within h =
    let size = length-take-le (suc (suc (suc (suc n)))) rest within in
    let most = mark_length mark _ h in
    omega (arith, size, most.1)

-- where too few bytes are left, these spell no mark
pub none_of_few : (n : ℕ) (rest : List ℕ) → length rest < n → NoneOf n rest
none_of_few n rest few within = absurd (omega arith)

-- the first byte
front_one : (rest : List ℕ) → 0 < length rest → take 1 rest ≡ get_or rest 0 0 ∷ []
front_one [] h = absurd (omega arith)
front_one (a ∷ rest) h = refl

-- the first two bytes
front_two : (rest : List ℕ) → 1 < length rest → take 2 rest ≡ get_or rest 0 0 ∷ get_or rest 1 0 ∷ []
front_two [] h = absurd (omega arith)
front_two (a ∷ []) h = absurd (omega arith)
front_two (a ∷ b ∷ rest) h = refl

-- the first three bytes
front_three : (rest : List ℕ) → 2 < length rest
    → take 3 rest ≡ get_or rest 0 0 ∷ get_or rest 1 0 ∷ get_or rest 2 0 ∷ []
front_three [] h = absurd (omega arith)
front_three (a ∷ []) h = absurd (omega arith)
front_three (a ∷ b ∷ []) h = absurd (omega arith)
front_three (a ∷ b ∷ c ∷ rest) h = refl

-- bytes at the front that spell no mark
none_of : (n : ℕ) (rest bytes : List ℕ) → take n rest ≡ bytes → ((mark : Punct) → IsMark mark bytes → ⊥) → NoneOf n rest
none_of n rest bytes e none within mark h = none mark (subst (IsMark mark) e h)

-- the first byte spells no mark
pub none_of_one : (rest : List ℕ) → 0 < length rest
    → ((mark : Punct) → IsMark mark (get_or rest 0 0 ∷ []) → ⊥) → NoneOf 1 rest
none_of_one rest h none = none_of 1 rest _ (front_one rest h) none

-- the first two bytes spell no mark
pub none_of_two : (rest : List ℕ) → 1 < length rest
    → ((mark : Punct) → IsMark mark (get_or rest 0 0 ∷ get_or rest 1 0 ∷ []) → ⊥) → NoneOf 2 rest
none_of_two rest h none = none_of 2 rest _ (front_two rest h) none

-- the first three bytes spell no mark
pub none_of_three : (rest : List ℕ) → 2 < length rest
    → ((mark : Punct)
    → IsMark mark (get_or rest 0 0 ∷ get_or rest 1 0 ∷ get_or rest 2 0 ∷ []) → ⊥)
    → NoneOf 3 rest
none_of_three rest h none = none_of 3 rest _ (front_three rest h) none

-- what is said of the longest mark at the front
abbrev pub IsLongest : List ℕ → ℕ → Punct → Type 0
IsLongest rest n mark = (0 < n) × (n ≤ length rest) × IsMark mark (take n rest) × NoneBeyond n rest

-- a mark of one byte is the longest, where none of two and three is there
pub longest_one : (rest : List ℕ) (mark : Punct) → 0 < length rest → NoneOf 3 rest → NoneOf 2 rest
    → IsMark mark (get_or rest 0 0 ∷ []) → IsLongest rest 1 mark
longest_one rest mark h threes twos is = (
  omega arith,
  omega arith,
  subst (IsMark mark) (sym (front_one rest h)) is,
  none_beyond 1 rest (λ _. threes) (λ _. twos) (λ l. absurd (omega arith)),
)

-- one of two, where none of three is there
pub longest_two : (rest : List ℕ) (mark : Punct) → 1 < length rest → NoneOf 3 rest
    → IsMark mark (get_or rest 0 0 ∷ get_or rest 1 0 ∷ []) → IsLongest rest 2 mark
longest_two rest mark h threes is = (
  omega arith,
  omega arith,
  subst (IsMark mark) (sym (front_two rest h)) is,
  none_beyond 2 rest (λ _. threes) (λ l. absurd (omega arith)) (λ l. absurd (omega arith)),
)

-- one of three
pub longest_three : (rest : List ℕ) (mark : Punct) → 2 < length rest
    → IsMark mark (get_or rest 0 0 ∷ get_or rest 1 0 ∷ get_or rest 2 0 ∷ [])
    → IsLongest rest 3 mark
longest_three rest mark h is = (
  omega arith,
  omega arith,
  subst (IsMark mark) (sym (front_three rest h)) is,
  none_beyond 3 rest (λ l. absurd (omega arith)) (λ l. absurd (omega arith)) (λ l. absurd (omega arith)),
)

-- where all of them fail no mark begins the rest
pub none_at_all : (rest : List ℕ) → NoneOf 3 rest → NoneOf 2 rest → NoneOf 1 rest → (mark : Punct) (n : ℕ)
    → n ≤ length rest → IsMark mark (take n rest) → ⊥
none_at_all rest threes twos ones mark zero within h =
    let few = mark_length mark _ h in omega (arith, few.0)
none_at_all rest threes twos ones mark (suc n) within h =
    none_beyond 0 rest (λ _. threes) (λ _. twos) (λ _. ones) mark (suc n) (omega arith) within h

-- the first byte is one with which only marks begin
abbrev pub IsMarkByte : ℕ → Type 0
IsMarkByte b =
    IsFalse (is_letter b) × IsFalse (is_space b) × (b ≢ apostrophe) × (b ≢ double_quote) × (b ≢ slash) × (b ≢ hash)

-- a piece that such a byte begins is a mark, by its kind
mark_kind : (b : ℕ) (others : List ℕ) (m : ℕ) → IsMarkByte b → (StartsNumber (b ∷ others) → ⊥) → Kind b (b ∷ others) m
    → (mark : Punct) × IsMark mark (take m (b ∷ others))
mark_kind b others m byte number (Spaced h) = let clash : true ≡ false = sym h ∙ byte.1 in absurd cc
mark_kind b others m byte number (Slashed h) = absurd (byte.4 h)
mark_kind b others m byte number (Hashed h) = absurd (byte.5 h)
mark_kind b others m byte number (Worded h all) = let clash : true ≡ false = sym h ∙ byte.0 in absurd cc
mark_kind b others m byte number (Numbered h) = absurd (number h)
mark_kind b others m byte number (Quoted h) = absurd (byte.2 h)
mark_kind b others m byte number (DoubleQuoted h) = absurd (byte.3 h)
mark_kind b others m byte number (Marked mark h) = (mark, h)

-- a piece that such a byte begins is a mark
only_marks : (fresh : Bool) (b : ℕ) (others : List ℕ) (m : ℕ) (piece : Piece) → IsMarkByte b
    → (StartsNumber (b ∷ others) → ⊥) → 0 < m → IsPiece fresh (b ∷ others) m piece → (mark : Punct)
    × IsMark mark (take m (b ∷ others))
only_marks fresh b others zero piece byte number positive is = absurd (omega arith)
only_marks fresh b others (suc m) piece byte number positive is =
    mark_kind b others (suc m) byte number (kind_of fresh b others m piece is)

-- such a byte isn't where no piece may begin, but for `%:`
mark_free : (b : ℕ) (others : List ℕ) → IsMarkByte b → (StartsNumber (b ∷ others) → ⊥)
    → ((more : List ℕ) → b ∷ others ≢ percent ∷ colon ∷ more) → IsBarred (b ∷ others) → ⊥
mark_free b others byte number digraph (inl h) = let e : b ≡ slash = (let e = h.1 in cc) in byte.4 e
mark_free b others byte number digraph (inr (inl h)) = digraph h.0 h.1
mark_free b others byte number digraph (inr (inr (inl h))) =
    let e : b ≡ capital_l = (let e = h.2 in cc) in
    let clash : true ≡ false = sym (ap is_letter e) ∙ byte.0 in
    cc
mark_free b others byte number digraph (inr (inr (inr h))) = number h.0

-- the rest begins with such a byte
abbrev pub BeginsWithMarkByte : List ℕ → Type 0
BeginsWithMarkByte rest =
    (b : ℕ) × (others : List ℕ) × (rest ≡ b ∷ others) × IsFalse (is_letter b) × IsFalse (is_space b) × (b ≢ apostrophe)
    × (b ≢ double_quote) × (b ≢ slash) × (b ≢ hash)

-- the longest mark begins the rest
pub mark_begins : (fresh : Bool) (rest : List ℕ) (n : ℕ) (mark : Punct) → BeginsWithMarkByte rest
    → (StartsNumber rest → ⊥) → ((more : List ℕ) → rest ≢ percent ∷ colon ∷ more) → IsLongest rest n mark
    → Begins fresh rest n (Spelled (kinds.Mark mark))
mark_begins fresh rest n mark (b, others, e, letter, space, quote, double, slashed, hashed) =
    subst (λ r. (StartsNumber r → ⊥) → ((more : List ℕ) → r ≢ percent ∷ colon ∷ more) → IsLongest r n mark
    → Begins fresh r n (Spelled (kinds.Mark mark))) (sym e) (λ number digraph h. let byte : IsMarkByte b =
    (letter, space, quote, double, slashed, hashed) in record {
      within = h.1;
      nonempty = h.0;
      is = h.2;
      longest = λ m other below within is. let k = only_marks fresh b others m other byte number (omega arith) is in
          h.3 k.0 m below within k.1;
      free = mark_free b others byte number digraph;
    })

-- where no mark is none of the pieces begins the rest
pub no_mark_begins : (fresh : Bool) (rest : List ℕ) → BeginsWithMarkByte rest → (StartsNumber rest → ⊥)
    → ((mark : Punct) (n : ℕ) → n ≤ length rest → IsMark mark (take n rest) → ⊥) → NoneBegins fresh rest
no_mark_begins fresh rest (b, others, e, letter, space, quote, double, slashed, hashed) =
    subst (λ r. (StartsNumber r → ⊥) → ((mark : Punct) (n : ℕ) → n ≤ length r → IsMark mark (take n r) → ⊥)
    → NoneBegins fresh r) (sym e) (λ number none n piece begins. let k =
    only_marks fresh b others n piece (letter, space, quote, double, slashed, hashed) number begins.nonempty begins.is
    in none k.0 n begins.within k.1)

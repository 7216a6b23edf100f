-- Constants and string literals (C99 6.4.4.1, 6.4.4.4, 6.4.5, 6.4.8).
use Rattle.std.specs.Prelude.{◌≡◌, ◌≢◌, ◌≤◌, ◌<◌, ◌⊎◌, ℕ, Bool, true, false, ◌||◌, List, [], ◌∷◌, ◌++◌, length, ◌==◌}
use Rattle.std.specs.Prelude.{codes}
use Rattle.std.specs.Prelude.{if◌then◌else◌, IsTrue, IsFalse, ℤ}
use Rattle.std.specs.List.{AllByRecursion}
use Rattle.byteorder.specs.Endian.{twos_complement}
use Rattle.pcc_base.specs.Ascii.{bell, backspace, tab, newline, vertical_tab, form_feed, carriage_return, double_quote}
use Rattle.pcc_base.specs.Ascii.{apostrophe, plus, minus, dot, digit_zero, question_mark, capital_e, capital_p}
use Rattle.pcc_base.specs.Ascii.{capital_x, backslash, letter_a, letter_b, letter_e, letter_f, letter_n, letter_p}
use Rattle.pcc_base.specs.Ascii.{letter_r, letter_t, letter_v, letter_x}
use Rattle.c_lex.specs.Bytes.{is_digit, is_octal_digit, is_hexadecimal_digit, is_letter, number_in}

-- each of the bytes passes the test
abbrev pub AllPass : (ℕ → Bool) → List ℕ → Type 0
AllPass test bytes = AllByRecursion (λ b. IsTrue (test b)) bytes

-- ---- numbers

-- e, E, p and P, behind which a sign belongs to a preprocessing number
abbrev pub is_exponent_letter : ℕ → Bool
is_exponent_letter b = (b == letter_e || b == capital_e) || (b == letter_p || b == capital_p)

-- what may follow in a preprocessing number behind its start: digits, letters and dots, and signs
-- behind the letter of an exponent (C99 6.4.8)
abbrev pub GoesOnAsNumber : List ℕ → Type 0
GoesOnAsNumber [] = Unit {0}
GoesOnAsNumber (b ∷ []) = IsTrue (is_digit b || (is_letter b || b == dot))
GoesOnAsNumber (b ∷ c ∷ rest) =
    (IsTrue (is_digit b || (is_letter b || b == dot)) × GoesOnAsNumber (c ∷ rest))
    ⊎ (IsTrue (is_exponent_letter b) × IsTrue (c == plus || c == minus) × GoesOnAsNumber rest)

-- a preprocessing number begins with a digit, or a dot and a digit
abbrev pub IsNumberText : List ℕ → Type 0
IsNumberText [] = ⊥
IsNumberText (b ∷ []) = IsTrue (is_digit b)
IsNumberText (b ∷ c ∷ rest) = (IsTrue (is_digit b) × GoesOnAsNumber (c ∷ rest))
    ⊎ ((b ≡ dot) × IsTrue (is_digit c) × GoesOnAsNumber rest)

abbrev pub StartsNumber : List ℕ → Type 0
StartsNumber [] = ⊥
StartsNumber (b ∷ []) = IsTrue (is_digit b)
StartsNumber (b ∷ c ∷ rest) = IsTrue (is_digit b) ⊎ ((b ≡ dot) × IsTrue (is_digit c))

-- an integer constant without suffix: decimal, octal or hexadecimal (C99 6.4.4.1)
abbrev pub ConstantValue : List ℕ → ℕ → Type 0
ConstantValue bytes value =
    ((d : ℕ) × (ds : List ℕ) × (bytes ≡ d ∷ ds) × IsTrue (is_digit d) × (d ≢ digit_zero) × AllPass is_digit ds
    × (value ≡ number_in 10 bytes))
    ⊎ ((ds : List ℕ) × (bytes ≡ digit_zero ∷ ds) × AllPass is_octal_digit ds × (value ≡ number_in 8 ds))
    ⊎ ((x : ℕ) × (ds : List ℕ) × (bytes ≡ digit_zero ∷ x ∷ ds) × ((x ≡ letter_x) ⊎ (x ≡ capital_x))
    × (0 < length ds) × AllPass is_hexadecimal_digit ds × (value ≡ number_in 16 ds))

-- a constant of the language
abbrev pub IsConstant : List ℕ → ℕ → Type 0
IsConstant bytes value = ConstantValue bytes value × (value ≤ 0x7fffffff)

-- ---- characters

-- the escapes of one letter and what they are worth (C99 6.4.4.4)
abbrev pub simple_escapes : List (ℕ × ℕ)
simple_escapes =
    (apostrophe, apostrophe) ∷ (double_quote, double_quote) ∷ (question_mark, question_mark) ∷ (backslash, backslash)
    ∷ (letter_a, bell) ∷ (letter_b, backspace) ∷ (letter_f, form_feed) ∷ (letter_n, newline)
    ∷ (letter_r, carriage_return) ∷ (letter_t, tab) ∷ (letter_v, vertical_tab) ∷ []

abbrev pub EscapeIn : List (ℕ × ℕ) → ℕ → ℕ → Type 0
EscapeIn [] letter value = ⊥
EscapeIn (e ∷ es) letter value = ((letter ≡ e.0) × (value ≡ e.1)) ⊎ EscapeIn es letter value

-- the rest doesn't begin with a byte that passes the test
abbrev pub StartsNot : (ℕ → Bool) → List ℕ → Type 0
StartsNot test [] = Unit {0}
StartsNot test (b ∷ rest) = IsFalse (test b)

-- The bytes are one character of a literal in such quotes, with this value, where the rest of the literal
-- goes on so: a byte, or an escape, of which an octal one has up to three digits and a hexadecimal one
-- all that follow.
abbrev pub IsCharacter : ℕ → List ℕ → List ℕ → ℕ → Type 0
IsCharacter quote bytes rest value =
    ((bytes ≡ value ∷ []) × (value ≢ quote) × (value ≢ backslash) × (value ≢ newline))
    ⊎ ((letter : ℕ) × (bytes ≡ backslash ∷ letter ∷ []) × EscapeIn simple_escapes letter value)
    ⊎ ((ds : List ℕ) × (bytes ≡ backslash ∷ ds) × (0 < length ds) × (length ds ≤ 3) × AllPass is_octal_digit ds
    × ((length ds ≡ 3) ⊎ StartsNot is_octal_digit rest) × (value ≡ number_in 8 ds))
    ⊎ ((ds : List ℕ) × (bytes ≡ backslash ∷ codes "x" ++ ds) × (0 < length ds) × AllPass is_hexadecimal_digit ds
    × StartsNot is_hexadecimal_digit rest × (value ≡ number_in 16 ds))

-- the inside of a literal has these values, each at most 255
abbrev pub HasValues : ℕ → List ℕ → List ℕ → Type 0
HasValues quote inside [] = inside ≡ []
HasValues quote inside (value ∷ values) =
    (bytes rest : List ℕ) × (inside ≡ bytes ++ rest) × IsCharacter quote bytes rest value × (value ≤ 255)
    × HasValues quote rest values

-- a literal in such quotes
abbrev pub IsLiteral : ℕ → List ℕ → List ℕ → Type 0
IsLiteral quote bytes values = (inside : List ℕ) × (bytes ≡ quote ∷ inside ++ quote ∷ [])
    × HasValues quote inside values

-- a character constant holds one character, whose byte is read as a signed char
abbrev pub IsCharacterConstant : List ℕ → ℤ → Type 0
IsCharacterConstant bytes z = (value : ℕ) × IsLiteral apostrophe bytes (value ∷ []) × (z ≡ twos_complement 1 value)

-- the literal whose inside begins so is closed before the end of the line: a backslash takes the next
-- byte with it
abbrev pub is_closed : ℕ → List ℕ → Bool
is_closed quote [] = false
is_closed quote (b ∷ []) = b == quote
is_closed quote (b ∷ c ∷ rest) =
    if b == quote then true
    else (if b == newline then false
    else (if b == backslash then (if c == newline then false else is_closed quote rest) else is_closed quote
    (c ∷ rest)))

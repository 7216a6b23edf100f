-- How the inside of a literal is read from left to right, one character at a time (C99 6.4.4.4, 6.4.5).
use Rattle.std.specs.Prelude.{◌≡◌, ◌≤◌, ◌<◌, ℕ, ◌+◌, Bool, List, [], ◌∷◌, length, take, drop, nat_le, Option, Some}
use Rattle.std.specs.Prelude.{None, ⊤, ◌==◌, if◌then◌else◌}
use Rattle.pcc_base.specs.Ascii.{newline, backslash, letter_x}
use Rattle.c_lex.specs.declared.quotes.Reading.{Reading}
use Rattle.c_lex.specs.declared.quotes.Reading.TheVariants.{Character, Closing, Faulty}
use Rattle.c_lex.specs.Bytes.{is_octal_digit, is_hexadecimal_digit, number_in}
use Rattle.c_lex.specs.Literals.{simple_escapes}

-- the bytes from the front on that pass the test
abbrev pub front_of : (ℕ → Bool) → List ℕ → List ℕ
front_of test [] = []
front_of test (b ∷ bs) = if test b then b ∷ front_of test bs else []

-- the digits' number, or one above 255 where theirs is above, and how many digits they are
abbrev pub HasFront : ℕ → List ℕ → ℕ → ℕ → Type 0
HasFront base digits number count =
    (number ≤ 255 → number_in base digits ≡ number) × (255 < number → 255 < number_in base digits)
    × (length digits ≡ count)

-- what a table of escapes has for a letter
abbrev pub value_in : List (ℕ × ℕ) → ℕ → Option ℕ
value_in [] letter = None
value_in (e ∷ es) letter = if letter == e.0 then Some e.1 else value_in es letter

-- the character of an escape of one letter
abbrev pub simple_reading : Option ℕ → Reading
simple_reading None = Faulty
simple_reading (Some value) = Character value 2

-- the character whose number the digits spell, behind so many bytes of the escape
abbrev pub coded_reading : ℕ → ℕ → List ℕ → Reading
coded_reading base start digits =
    if length digits == 0 then Faulty
    else (if nat_le (number_in base digits) 255 then Character (number_in base digits) (start + length digits)
    else Faulty)

-- the escape whose backslash stands before these bytes
abbrev pub read_escape : List ℕ → Reading
read_escape [] = Faulty
read_escape (e ∷ rest) =
    if is_octal_digit e then coded_reading 8 1 (front_of is_octal_digit (take 3 (e ∷ rest)))
    else (if e == letter_x then coded_reading 16 2 (front_of is_hexadecimal_digit rest)
    else simple_reading (value_in simple_escapes e))

-- what stands at the front of the rest of a literal
abbrev pub read_character : ℕ → List ℕ → Reading
read_character quote [] = Faulty
read_character quote (b ∷ rest) =
    if b == quote then Closing else (if b == newline then Faulty else
    (if b == backslash then read_escape rest else Character b 1))

-- a character's bytes are some of so many
abbrev pub IsWithin : ℕ → Reading → Type 0
IsWithin n (Character value length) = (0 < length) × (length ≤ n)
IsWithin n Closing = ⊤
IsWithin n Faulty = ⊤

-- reading characters from the front of the text gives the values, which are bytes, and leaves the rest
abbrev pub ReadsFront : ℕ → List ℕ → List ℕ → List ℕ → Type 0
ReadsFront quote text [] rest = text ≡ rest
ReadsFront quote text (value ∷ values) rest =
    (n : ℕ) × (read_character quote text ≡ Character value n) × (value ≤ 255)
    × ReadsFront quote (drop n text) values rest

-- the text is closed behind n bytes, which have these values
abbrev pub IsClosedBehind : ℕ → List ℕ → List ℕ → ℕ → Type 0
IsClosedBehind quote text values n =
    (rest : List ℕ) × ReadsFront quote text values rest × (read_character quote rest ≡ Closing)
    × (n + length rest ≡ length text)

-- reading comes to a place where neither a character nor the closing quote stands
abbrev pub IsNeverClosed : ℕ → List ℕ → Type 0
IsNeverClosed quote text =
    (values rest : List ℕ) × ReadsFront quote text values rest × (read_character quote rest ≡ Faulty)

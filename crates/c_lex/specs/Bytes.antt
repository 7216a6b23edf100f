-- The classes of bytes that tokens are made of (C99 5.2.1, 6.4.2.1, 6.4.4).
use Rattle.std.specs.Prelude.{◌||◌, ◌&&◌, ℕ, ◌-◌, ◌*◌, ◌+◌, Bool, List, [], ◌∷◌, nat_le, ◌==◌, if◌then◌else◌, codes}
use Rattle.pcc_base.specs.Ascii.{tab, carriage_return, space, digit_zero, digit_nine, capital_a, capital_f, underscore}
use Rattle.pcc_base.specs.Ascii.{letter_a, is_between}

-- space, and tab to carriage return: tab, newline, vertical tab, form feed and carriage return
abbrev pub is_space : ℕ → Bool
is_space b = b == space || (nat_le tab b && nat_le b carriage_return)

-- space and tab
abbrev pub is_blank : ℕ → Bool
is_blank b = b == space || b == tab

abbrev pub is_digit : ℕ → Bool
is_digit b = is_between (codes "09") b

abbrev pub is_octal_digit : ℕ → Bool
is_octal_digit b = is_between (codes "07") b

-- a letter or `_`
abbrev pub is_letter : ℕ → Bool
is_letter b = is_between (codes "AZ") b || (b == underscore || is_between (codes "az") b)

abbrev pub is_hexadecimal_digit : ℕ → Bool
is_hexadecimal_digit b = is_digit b || (is_between (codes "AF") b || is_between (codes "af") b)

-- a byte of an identifier
abbrev pub is_word_byte : ℕ → Bool
is_word_byte b = is_letter b || is_digit b

-- what a digit is worth
abbrev pub digit_worth : ℕ → ℕ
digit_worth b =
    if nat_le b digit_nine then b - digit_zero
    else (if nat_le b capital_f then b - (capital_a - 10) else b - (letter_a - 10))

-- the number that digits spell in a base, after digits that are worth n
abbrev pub number_after : ℕ → ℕ → List ℕ → ℕ
number_after base n [] = n
number_after base n (d ∷ ds) = number_after base (n * base + digit_worth d) ds

abbrev pub number_in : ℕ → List ℕ → ℕ
number_in base digits = number_after base 0 digits

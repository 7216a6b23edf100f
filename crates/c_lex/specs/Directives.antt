-- What stands behind the `#` of a line that the preprocessor left behind.
use Rattle.std.specs.Prelude.{◌≡◌, ◌⊎◌, ℕ, List, ◌∷◌, ◌++◌, IsTrue, codes}
use Rattle.c_lex.specs.Bytes.{is_digit, is_word_byte}
use Rattle.c_lex.specs.Literals.{StartsNot}

-- the word `pragma`
abbrev pub IsPragma : List ℕ → Type 0
IsPragma bytes = (others : List ℕ) × (bytes ≡ codes "pragma" ++ others) × StartsNot is_word_byte others

-- a digit or the word `pragma`
abbrev pub IsDirective : List ℕ → Type 0
IsDirective bytes = ((d : ℕ) × (others : List ℕ) × (bytes ≡ d ∷ others) × IsTrue (is_digit d)) ⊎ IsPragma bytes

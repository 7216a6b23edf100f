-- Rows of tokens of one kind, at the front of a list of tokens.
use Rattle.std.specs.Prelude.{◌≡◌, ◌<◌, ◌≤◌, List, [], length, Option, Some, None}
use Rattle.c_lex.specs.declared.token.Token.{Token}
use Rattle.c_grammar.specs.Taking.{with_front}

-- one more of a row is taken, or the row ends here
abbrev pub IsFront : {A : Type 0} → (List Token → List A × List Token) → List Token → List Token → Option A → Type 0
IsFront row old new (Some x) = (row old ≡ with_front x (row new)) × (length new < length old)
IsFront row old new None = (row old ≡ ([], new)) × (new ≡ old)

-- a row, and the tokens behind it
abbrev pub IsRow : {A : Type 0} → (List Token → A × List Token) → List Token → List Token → A → Type 0
IsRow row old new x = (row old ≡ (x, new)) × (length new ≤ length old)

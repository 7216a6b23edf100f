-- What a function of the parsers answers, by a reader of the grammar.
use Rattle.std.specs.Prelude.{◌≡◌, ◌<◌, ◌≤◌, List, length, Option, Some, None, Result, Ok, Err}
use Rattle.c_lex.specs.declared.token.Token.{Token}
use Rattle.c_grammar.specs.Chains.{Step, Fails, Takes, Reads, Found, Faults}
use Rattle.c_parse_expressions.specs.Places.{front_place}
use Rattle.c_parse_expressions.specs.declared.parse_error.ParseError.{ParseError}
use Rattle.c_parse_expressions.specs.declared.parse_error.ParseError.TheVariants.{Fault, NoMemory}

-- a refusal: where it is a fault, the reader fails before a token that stands at its place, and as deep as it says
abbrev pub Refused : {A : Type 0} → Reads A → ParseError → Type 0
Refused reads (Fault deep at) = (us : List Token) × (reads ≡ Faults deep us) × (front_place us ≡ at)
Refused reads NoMemory = Unit {0}

-- a refusal of one turn of a loop
abbrev pub RefusedStep : {A : Type 0} → Step A → ParseError → Type 0
RefusedStep step (Fault deep at) = (us : List Token) × (step ≡ Fails deep us) × (front_place us ≡ at)
RefusedStep step NoMemory = Unit {0}

-- what is taken of a kind: it stands at the front, or nothing is taken
abbrev pub IsTaken : {A : Type 0} → (List Token → Takes A) → List Token → List Token → Option A → Type 0
IsTaken take old new (Some found) = (take old ≡ Some (found, new)) × (length new < length old)
IsTaken take old new None = (take old ≡ None) × (new ≡ old)

-- what stands for the tree that a reader finds, of at least one token, and the tokens behind it
abbrev pub IsRead : {T A : Type 0} → (T → A) → (List Token → Reads A) → List Token → List Token → Result T ParseError
    → Type 0
IsRead tree read old new (Ok x) = (read old ≡ Found (tree x) new) × (length new < length old)
IsRead tree read old new (Err e) = Refused (read old) e

-- the same of a part that may be of no token
abbrev pub IsPartRead : {T A : Type 0} → (T → A) → (List Token → Reads A) → List Token → List Token
    → Result T ParseError → Type 0
IsPartRead tree read old new (Ok x) = (read old ≡ Found (tree x) new) × (length new ≤ length old)
IsPartRead tree read old new (Err e) = Refused (read old) e

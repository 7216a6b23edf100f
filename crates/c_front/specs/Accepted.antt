-- The tokens and the raw trees of source files.
use Rattle.std.specs.Prelude.{◌≤◌, ℕ, suc, ◌+◌, List, [], ◌∷◌, length, ⊤}
use Rattle.c_lex.specs.declared.token.Token.{Token}
use Rattle.c_lex.specs.Tokens.{HasTokens}
use Rattle.c_syntax.specs.Statements.{ExternalTree}
use Rattle.c_syntax.specs.Grammar.{Tree}

-- the tokens of each file, the first of which has this number
abbrev pub HaveTokens : ℕ → List (List ℕ) → List (List Token) → Type 0
HaveTokens file [] [] = ⊤
HaveTokens file [] (tokens ∷ others) = ⊥
HaveTokens file (text ∷ texts) [] = ⊥
HaveTokens file (text ∷ texts) (tokens ∷ others) = HasTokens file text tokens × HaveTokens (suc file) texts others

-- how many tokens files have together
abbrev pub total : List (List Token) → ℕ
total [] = 0
total (tokens ∷ others) = length tokens + total others

-- these tokens have this raw tree, of height at most 256
abbrev pub HasTree : List Token → List ExternalTree → Type 0
HasTree tokens unit = (height : ℕ) × (height ≤ 256) × Tree tokens height unit

-- the raw tree of each file
abbrev pub HaveTrees : List (List Token) → List (List ExternalTree) → Type 0
HaveTrees [] [] = ⊤
HaveTrees [] (unit ∷ units) = ⊥
HaveTrees (tokens ∷ others) [] = ⊥
HaveTrees (tokens ∷ others) (unit ∷ units) = HasTree tokens unit × HaveTrees others units

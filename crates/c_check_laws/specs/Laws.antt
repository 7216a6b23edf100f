-- Files that were lexed and parsed are what typing asks for.
use Rattle.std.specs.Prelude.{ℕ, suc, List, [], ◌∷◌}
use Rattle.c_lex.specs.declared.token.Token.{Token}
use Rattle.c_lex.specs.Tokens.{HasTokens}
use Rattle.c_syntax.specs.Grammar.{Tree}
use Rattle.c_syntax.specs.Statements.{ExternalTree}
use Rattle.c_typing.specs.Laws.{AreSources}

-- the text of the file at this position has tokens, and this is their raw tree
abbrev pub IsUnitOf : ℕ → List ℕ → List ExternalTree → Type 0
IsUnitOf file text unit = (tokens : List Token) × (height : ℕ) × HasTokens file text tokens × Tree tokens height unit

-- the texts of all files, from this position on
abbrev pub AreUnitsOf : ℕ → List (List ℕ) → List (List ExternalTree) → Type 0
AreUnitsOf file [] [] = Unit {0}
AreUnitsOf file [] (unit ∷ units) = ⊥
AreUnitsOf file (text ∷ texts) [] = ⊥
AreUnitsOf file (text ∷ texts) (unit ∷ units) = IsUnitOf file text unit × AreUnitsOf (suc file) texts units

-- the tokens of texts are at different places, and their numbers are of `int`
abbrev pub TextsAreSources : Type 0
TextsAreSources = (texts : List (List ℕ)) (units : List (List ExternalTree)) → AreUnitsOf 0 texts units
    → AreSources units

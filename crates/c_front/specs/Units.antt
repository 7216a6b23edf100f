-- The raw trees of texts.
use Rattle.std.specs.Prelude.{◌≤◌, ℕ, List}
use Rattle.c_lex.specs.declared.token.Token.{Token}
use Rattle.c_syntax.specs.Statements.{ExternalTree}
use Rattle.c_front.specs.Accepted.{HaveTokens, HaveTrees, total}

-- the texts have tokens, at most 65,536 together, and these raw trees, of height at most 256
pub record HaveUnits (texts : List (List ℕ)) (units : List (List ExternalTree)) : Type 0 where
  pub files : List (List Token)
  pub tokens : HaveTokens 0 texts files
  pub few : total files ≤ 0x10000
  pub trees : HaveTrees files units

-- the texts have raw trees, and this holds of them
abbrev pub WithUnits : List (List ℕ) → (List (List ExternalTree) → Type 0) → Type 0
WithUnits texts P = (units : List (List ExternalTree)) × HaveUnits texts units × P units

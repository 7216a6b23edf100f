-- How many tokens files have.
use Rattle.std.proofs.Common.{◌≡◌, ◌+◌, List, [], ◌∷◌, ◌++◌, length, arith}
use Rattle.c_lex.specs.declared.token.Token.{Token}
use Rattle.c_front.specs.Accepted.{total}

-- one file more
pub total_more : (files : List (List Token)) (tokens : List Token) → total (files ++ tokens ∷ [])
    ≡ total files + length tokens
total_more [] tokens = omega arith
total_more (first ∷ files) tokens = omega (arith, total_more files tokens)

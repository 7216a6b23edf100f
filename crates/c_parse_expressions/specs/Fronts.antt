-- What stands at the front of a list of tokens.
use Rattle.std.specs.Prelude.{◌≡◌, List, ◌∷◌}
use Rattle.c_lex.specs.declared.token.Token.{Token}
use Rattle.c_syntax.specs.declared.expression.Specifier.{Specifier}
use Rattle.c_grammar.specs.Taking.{take_specifiers}

-- at least one specifier
abbrev pub BeginsWithSpecifier : List Token → Type 0
BeginsWithSpecifier ts = (s : Specifier) × (ss : List Specifier) × (us : List Token)
    × (take_specifiers ts ≡ (s ∷ ss, us))

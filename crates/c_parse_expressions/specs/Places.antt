-- Where a fault is found, and of which kind.
use Rattle.std.specs.Prelude.{List, [], ◌∷◌, Bool, false, Option, Some, None}
use Rattle.pcc_base.specs.declared.span.Span.{Span}
use Rattle.c_lex.specs.declared.token.Token.{Token}
use Rattle.c_grammar.specs.Heads.{begins}

-- the place of the next token, where there is one
abbrev pub front_place : List Token → Option Span
front_place [] = None
front_place (t ∷ ts) = Some t.at

-- whether an expression may begin with the next token
abbrev pub front_begins : List Token → Bool
front_begins [] = false
front_begins (t ∷ ts) = begins t.kind

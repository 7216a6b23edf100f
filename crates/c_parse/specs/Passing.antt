-- How far the search for a keyword that the language leaves out has come.
use Rattle.std.specs.Prelude.{◌≡◌, List, ◌++◌}
use Rattle.c_lex.specs.declared.token.Token.{Token}
use Rattle.c_parse.specs.ParserRefusals.{NoneUnsupported}

-- no token before these is a keyword that the language leaves out
abbrev pub Passed : List Token → List Token → Type 0
Passed tokens rest = (before : List Token) × NoneUnsupported before × (tokens ≡ before ++ rest)

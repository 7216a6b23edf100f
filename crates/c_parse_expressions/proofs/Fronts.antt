-- What stands at the front of a list of tokens.
use Rattle.std.proofs.Common.{◌≡◌, List, ◌∷◌, Some, refl}
use Rattle.c_lex.specs.declared.token.Token.{Token}
use Rattle.c_syntax.specs.declared.operator.SpecifierWord.{SpecifierWord}
use Rattle.c_grammar.specs.Taking.{specifier_of, take_specifiers}
use Rattle.c_parse_expressions.specs.Fronts.{BeginsWithSpecifier}

-- a specifier at the front
pub begins_at : (ts : List Token) (t : Token) (us : List Token) (w : SpecifierWord) → ts ≡ t ∷ us
    → specifier_of t.kind ≡ Some w → BeginsWithSpecifier ts
begins_at ts t us w e f =
    (record { word = w; at = t.at }, (take_specifiers us).0, (take_specifiers us).1, rw (e, f) refl)

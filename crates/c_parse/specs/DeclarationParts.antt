-- What the parser's functions answer for a part of a declaration, by the readers of the grammar.
use Rattle.std.specs.Prelude.{◌≡◌, false, List, [], ◌∷◌, map}
use Rattle.c_lex.specs.declared.token.Token.{Token}
use Rattle.c_syntax.specs.declared.expression.Specifier.{Specifier}
use Rattle.c_syntax.specs.Declarations.{ParameterTree, parameter_of, ItemTree, item_of}
use Rattle.c_grammar.specs.Taking.{take_specifiers}
use Rattle.c_grammar.specs.DeclarationReading.{Listed}
use Rattle.c_parse_expressions.specs.Places.{front_place}
use Rattle.c_parse_expressions.specs.declared.parse_error.ParseError.{ParseError}
use Rattle.c_parse_expressions.specs.declared.parse_error.ParseError.TheVariants.{Fault, NoMemory}
use Rattle.c_parse.specs.declared.lists.ParameterList.{ParameterList}
use Rattle.c_parse.specs.declared.lists.ItemList.{ItemList}

-- at least one specifier, and the tokens behind them
abbrev pub AreSpecifiers : List Token → List Token → List Specifier → Type 0
AreSpecifiers old new items = (s : Specifier) × (ss : List Specifier) × (items ≡ s ∷ ss)
    × (take_specifiers old ≡ (s ∷ ss, new))

-- a fault at the next token where there is none
abbrev pub NoSpecifiers : List Token → ParseError → Type 0
NoSpecifiers old (Fault deep at) = (take_specifiers old ≡ ([], old)) × (deep ≡ false) × (front_place old ≡ at)
NoSpecifiers old NoMemory = Unit {0}

abbrev pub parameters_listed : ParameterList → Listed ParameterTree
parameters_listed l = (map parameter_of l.parameters.items, l.commas.items)

abbrev pub items_listed : ItemList → Listed ItemTree
items_listed l = (map item_of l.items.items, l.commas.items)

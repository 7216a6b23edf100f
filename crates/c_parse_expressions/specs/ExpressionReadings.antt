-- What the parser's functions answer, by the readers of the grammar.
use Rattle.std.specs.Prelude.{◌≡◌, ℕ, ◌<◌, ◌≤◌, List, length, Result, Ok, Err, ◌-◌}
use Rattle.c_lex.specs.declared.token.Token.{Token}
use Rattle.c_syntax.specs.Expressions.{Expr, expr_of}
use Rattle.c_syntax.specs.ExpressionTokens.{expr_height}
use Rattle.c_grammar.specs.Chains.{Step, Done, Goes, Reads, Found}
use Rattle.c_grammar.specs.Reading as reading
use Rattle.c_grammar.specs.Reading.{Readers, readers}
use Rattle.c_parse_expressions.specs.Readings.{Refused, RefusedStep}
use Rattle.c_parse_expressions.specs.declared.parse_error.ParseError.{ParseError}
use Rattle.c_parse_expressions.specs.declared.found.Values.{Values}
use Rattle.c_parse_expressions.specs.Values.{values_of, height_of_values}
use Rattle.c_parse_expressions.specs.declared.found.Found.{Found as Tree}
use Rattle.c_parse_expressions.specs.declared.turn.Turn.{Turn}
use Rattle.c_parse_expressions.specs.declared.turn.Turn.TheVariants.{More, Last}
use Rattle.c_parse_expressions.specs.declared.turn.ValuesTurn.{ValuesTurn}
use Rattle.c_parse_expressions.specs.declared.turn.ValuesTurn.TheVariants.{MoreValues, LastValues}
use Rattle.c_parse_expressions.specs.declared.expression.Rule.{Rule}
use Rattle.c_parse_expressions.specs.declared.expression.Rule.TheVariants.{Expression, Assignment, Conditional, Binary}
use Rattle.c_parse_expressions.specs.declared.expression.Rule.TheVariants.{Cast}
use Rattle.c_parse_expressions.specs.declared.expression.Rule.TheVariants.{Unary}

-- the height of the tree that was found, above 0 and at most so much
abbrev pub IsHigh : ℕ → Tree → Type 0
IsHigh height f = (f.height ≡ expr_height (expr_of f.tree.value)) × (0 < f.height) × (f.height ≤ height)

-- the expression that a reader finds, of at least one token and at most so high, and the tokens behind it
abbrev pub IsReading : ℕ → (List Token → Reads Expr) → List Token → List Token → Result Tree ParseError → Type 0
IsReading height read old new (Ok f) =
    (read old ≡ Found (expr_of f.tree.value) new) × (length new < length old) × IsHigh height f
IsReading height read old new (Err e) = Refused (read old) e

-- the same behind a first part of the expression
abbrev pub IsPartReading : ℕ → (List Token → Reads Expr) → List Token → List Token → Result Tree ParseError → Type 0
IsPartReading height read old new (Ok f) =
    (read old ≡ Found (expr_of f.tree.value) new) × (length new ≤ length old) × IsHigh height f
IsPartReading height read old new (Err e) = Refused (read old) e

-- one turn of a loop over an expression, of a height that is at most so much
abbrev pub IsTurn : ℕ → Step Expr → Expr → List Token → List Token → Result Turn ParseError → Type 0
IsTurn height step was old new (Ok (More f)) =
    (step ≡ Goes (expr_of f.tree.value) new) × (f.height ≡ expr_height (expr_of f.tree.value)) × (0 < f.height)
    × (f.height ≤ height) × (length new < length old)
IsTurn height step was old new (Ok (Last f)) = (step ≡ Done) × (expr_of f.tree.value ≡ was)
    × (f.height ≡ expr_height was) × (new ≡ old)
IsTurn height step was old new (Err e) = RefusedStep step e

-- the values that a reader finds, each less high than this, and the tokens behind them
abbrev pub AreValues : ℕ → (List Token → Reads reading.Values) → List Token → List Token → Result Values ParseError
    → Type 0
AreValues height read old new (Ok v) =
    (read old ≡ Found (values_of v) new) × (length new ≤ length old) × (v.height ≡ height_of_values v)
    × (v.height < height)
AreValues height read old new (Err e) = Refused (read old) e

-- one turn of a loop over values, each less high than this
abbrev pub IsValuesTurn : ℕ → Step reading.Values → reading.Values → List Token → List Token
    → Result ValuesTurn ParseError → Type 0
IsValuesTurn height step was old new (Ok (MoreValues v)) =
    (step ≡ Goes (values_of v) new) × (v.height ≡ height_of_values v) × (v.height < height) × (length new < length old)
IsValuesTurn height step was old new (Ok (LastValues v)) = (step ≡ Done) × (values_of v ≡ was)
    × (v.height ≡ height_of_values v) × (new ≡ old)
IsValuesTurn height step was old new (Err e) = RefusedStep step e

-- the readers for one less
abbrev pub below : ℕ → Readers
below height = readers (height - 1)

-- the reader of a rule
abbrev pub reader_of : Rule → Readers → List Token → Reads Expr
reader_of Expression b ts = b.expression ts
reader_of Assignment b ts = b.assignment ts
reader_of Conditional b ts = b.conditional ts
reader_of (Binary k) b ts = b.binary k ts
reader_of Cast b ts = b.cast ts
reader_of Unary b ts = b.unary ts

-- a level that there is
abbrev pub IsRule : Rule → Type 0
IsRule (Binary k) = k ≤ 10
IsRule _ = Unit {0}

-- Arguments, one behind the other (C99 6.5.2.2).
use Rattle.std.specs.Prelude.{◌≡◌, List, [], ◌∷◌, ◌++◌, map, Vec, Option, Some, None}
use Rattle.std.specs.declared.alloc.Global.{Global}
use Rattle.pcc_base.specs.declared.span.Span.{Span}
use Rattle.c_syntax.specs.declared.expression.Expression.{Expression as Raw}
use Rattle.c_syntax.specs.Expressions.{expr_of}
use Rattle.c_tree.specs.declared.expression.Expression.{Expression as Built}
use Rattle.c_tree.specs.declared.types.ValueType.{ValueType}
use Rattle.c_tree.specs.Erased.{expression_of}
use Rattle.c_tree.specs.Program.{Expression, Arguments, NoMore, Argument}
use Rattle.c_typing.specs.Checked.{Checked, both, fits, if_fits}
use Rattle.c_typing.specs.Expressions.{Given, first_token, typed_expression}
use Rattle.c_typing.specs.Names.{Scope}
use Rattle.c_typing.specs.Rows.{assigned}

-- expressions before other arguments
abbrev pub before_others : List Expression → Arguments → Arguments
before_others [] others = others
before_others (e ∷ es) others = Argument e (before_others es others)

abbrev pub AreTrees : List Expression → Vec Built Global → Type 0
AreTrees es built = map expression_of built.items ≡ es

abbrev pub AreArguments : Arguments → Vec Built Global → Type 0
AreArguments es built = before_others (map expression_of built.items) NoMore ≡ es

-- an argument, as the parameter asks for it where it has one
abbrev pub for_parameter : Option ValueType → Span → Checked Expression → Checked Expression
for_parameter None at c = c
for_parameter (Some to) at c = if_fits c (assigned to at)

-- one more expression behind others
abbrev pub one_behind : Checked (List Expression) → Checked Expression → Checked (List Expression)
one_behind front c = both front c (λ es e. fits (es ++ e ∷ []))

-- an expression of a list, with its first token
abbrev pub given_of : Scope → Raw → Given
given_of s e = record { at = first_token (expr_of e); value = typed_expression s (expr_of e) }

abbrev pub first_of : Arguments → Option Expression
first_of NoMore = None
first_of (Argument e others) = Some e

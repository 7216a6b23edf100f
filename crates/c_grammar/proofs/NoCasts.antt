-- What is no cast is read as a unary expression.
use Rattle.std.proofs.Common.{◌≡◌, ℕ, ◌≤◌, List, [], ◌∷◌, ◌++◌, None, refl, sym, subst, arith, append_assoc}
use Rattle.pcc_base.specs.declared.span.Span.{Span}
use Rattle.c_lex.specs.declared.token.Token.{Token}
use Rattle.c_lex.specs.declared.token.Punct.TheVariants as marks
use Rattle.c_syntax.specs.declared.operator.UnaryOp.{UnaryOp}
use Rattle.c_syntax.specs.declared.operator.UnaryOp.TheVariants as unary
use Rattle.c_syntax.specs.declared.operator.StepOp.{StepOp}
use Rattle.c_syntax.specs.declared.operator.StepOp.TheVariants as step
use Rattle.c_syntax.specs.Marks.{mark, unary_mark, step_mark}
use Rattle.c_syntax.specs.Expressions.{Expr, Identifier, Number, Text, Parenthesised, Call, Index, Postfix, Prefix}
use Rattle.c_syntax.specs.Expressions.{Unary, Cast, Binary, Conditional, Assignment}
use Rattle.c_syntax.specs.ExpressionTokens.{expr_tokens, looseness, IsExpr}
use Rattle.c_grammar.specs.Taking.{take_mark}
use Rattle.c_grammar.proofs.Heads.{expression_no_specifiers, no_opening, step_no_paren, unary_no_paren}
use Rattle.c_grammar.specs.Reading.{Readers, read_cast, read_unary}
pub use Rattle.c_grammar.proofs.Heads.{no_cast}

-- what is read as a cast is read as a unary expression, where it is one
abbrev IsNoCast : ℕ → Readers → List Token → Type 0
IsNoCast height below ts = read_cast height below ts ≡ read_unary height below ts

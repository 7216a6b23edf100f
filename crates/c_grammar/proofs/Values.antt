-- Several values: their heights, and one more at the end.
use Rattle.std.proofs.Common.{◌≡◌, max, List, [], ◌∷◌, ◌++◌, arith}
use Rattle.c_syntax.specs.Expressions.{Expr, exprs_of}
use Rattle.c_syntax.specs.ExpressionTokens.{expr_height, exprs_height}

pub exprs_height-push : (es : List Expr) (e : Expr) → exprs_height (exprs_of (es ++ e ∷ []))
    ≡ max (exprs_height (exprs_of es)) (expr_height e)
exprs_height-push [] e = omega arith
exprs_height-push (f ∷ es) e = omega (arith, exprs_height-push es e)

-- The law of all expressions of numbers.
use Rattle.c_tree.specs.Evaluation.{evaluate}
use Rattle.c_tree.specs.Program.{Expression}
use Rattle.c_tree.specs.WellTyped.{IsTyped}
use Rattle.lower_laws.specs.Numeric.{IsNumeric}
use Rattle.lower_lines.specs.Expressions.{part_of}
use Rattle.lower_lines.specs.Following.{CallsFollow, IsSite, Lowers, Site, context_of}

-- Where calls follow, a typed expression of numbers does what the source does: a part of `ExpressionsLower` of
-- `lower_lines`.
abbrev pub NumbersLower : Type 0
NumbersLower = (S : Site) → IsSite S → CallsFollow S → (e : Expression) → IsTyped S.program S.function e
    → IsNumeric S.program e
    → Lowers S (part_of (context_of S) e) (evaluate S.calls e)

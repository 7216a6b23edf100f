-- The laws of operators on two pointers, and of a pointer and the null constant; each is a part of `ExpressionsLower`
-- of `lower_lines`.
use Rattle.std.specs.Prelude.{◌≡◌}
use Rattle.c_tree.specs.declared.expression.BinaryOp.{BinaryOp}
use Rattle.c_tree.specs.declared.expression.BinaryOp.TheVariants.{Equal, NotEqual}
use Rattle.c_tree.specs.declared.types.IntegerType.{IntegerType}
use Rattle.c_tree.specs.declared.types.ValueType.TheVariants.{Integer, Pointer}
use Rattle.c_tree.specs.Evaluation.{evaluate}
use Rattle.c_tree.specs.Program.{Binary, Expression, int}
use Rattle.c_tree.specs.WellTyped.{TakesPointers}
use Rattle.lower_lines.specs.Expressions.{part_of}
use Rattle.lower_lines.specs.Following.{IsSite, Lowers, Site, context_of}

-- Two pointers: whether they are the same (C99 6.5.9p6), their order (6.5.8p5), and how many elements lie between them
-- (6.5.6p9). The last two trap where the arrays differ.
abbrev pub PointersAreCompared : Type 0
PointersAreCompared = (S : Site) → IsSite S → (operator : BinaryOp) → TakesPointers operator → (a b : Expression)
    (t u : IntegerType) → Lowers S (part_of (context_of S) a) (evaluate S.calls a)
    → (part_of (context_of S) a).of ≡ Pointer t → Lowers S (part_of (context_of S) b) (evaluate S.calls b)
    → (part_of (context_of S) b).of ≡ Pointer u
    → Lowers S (part_of (context_of S) (Binary int operator a b)) (evaluate S.calls (Binary int operator a b))

-- the operators that compare a pointer with the null constant (C99 6.5.9p5)
abbrev pub ComparesNull : BinaryOp → Type 0
ComparesNull Equal = Unit {0}
ComparesNull NotEqual = Unit {0}
ComparesNull _ = ⊥

-- a pointer and the null constant, in this order
abbrev pub NullsAreCompared : Type 0
NullsAreCompared = (S : Site) → IsSite S → (operator : BinaryOp) → ComparesNull operator → (a b : Expression)
    (t u : IntegerType) → Lowers S (part_of (context_of S) a) (evaluate S.calls a)
    → (part_of (context_of S) a).of ≡ Pointer t → Lowers S (part_of (context_of S) b) (evaluate S.calls b)
    → (part_of (context_of S) b).of ≡ Integer u
    → Lowers S (part_of (context_of S) (Binary int operator a b)) (evaluate S.calls (Binary int operator a b))

-- the null constant and a pointer, in this order
abbrev pub TurnedNullsAreCompared : Type 0
TurnedNullsAreCompared = (S : Site) → IsSite S → (operator : BinaryOp) → ComparesNull operator → (a b : Expression)
    (t u : IntegerType) → Lowers S (part_of (context_of S) a) (evaluate S.calls a)
    → (part_of (context_of S) a).of ≡ Integer u → Lowers S (part_of (context_of S) b) (evaluate S.calls b)
    → (part_of (context_of S) b).of ≡ Pointer t
    → Lowers S (part_of (context_of S) (Binary int operator a b)) (evaluate S.calls (Binary int operator a b))

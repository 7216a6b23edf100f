-- The laws of the lines of pointers, by their kinds; each is a part of `ExpressionsLower` of `lower_lines`.
use Rattle.std.specs.Prelude.{◌≡◌, ◌⊎◌, ℕ, Some, slice_get}
use Rattle.c_tree.specs.declared.expression.ArrayRef.{ArrayRef}
use Rattle.c_tree.specs.declared.expression.BinaryOp.{BinaryOp}
use Rattle.c_tree.specs.declared.expression.BinaryOp.TheVariants.{Add}
use Rattle.c_tree.specs.declared.expression.StepOp.{StepOp}
use Rattle.c_tree.specs.declared.types.IntegerType.{IntegerType}
use Rattle.c_tree.specs.declared.types.ValueType.{ValueType}
use Rattle.c_tree.specs.declared.types.ValueType.TheVariants.{Integer, Pointer}
use Rattle.c_tree.specs.Evaluation.{evaluate}
use Rattle.c_tree.specs.Program.{Address, Assign, Binary, Cast, Element, Expression, Local, LocalPlace, Read, Start}
use Rattle.c_tree.specs.Program.{Step, Update}
use Rattle.c_tree.specs.WellTyped.{IsArray, MovesPointer}
use Rattle.lower_lines.specs.Expressions.{part_of}
use Rattle.lower_lines.specs.Following.{IsSite, Lowers, Site, context_of}

-- the name of an array or a string, as a pointer to its first element (C99 6.3.2.1p3)
abbrev pub StartsLower : Type 0
StartsLower = (S : Site) → IsSite S → (t : IntegerType) (array : ArrayRef) → IsArray S.program S.function array t
    → Lowers S (part_of (context_of S) (Start t array)) (evaluate S.calls (Start t array))

-- a local that is a pointer, which an op may use where it stands
abbrev pub PointersAreRead : Type 0
PointersAreRead = (S : Site) → IsSite S → (k : ℕ) (l : Local) (t : IntegerType) → slice_get S.function.locals k ≡ Some l
    → l.of ≡ Pointer t → Lowers S (part_of (context_of S) (Read (Pointer t) (LocalPlace k)))
    (evaluate S.calls (Read (Pointer t) (LocalPlace k)))

-- a value of the type goes to a pointer: one of the same type, or a number, which is then the null constant
-- (C99 6.3.2.3p3)
abbrev pub GoesToPointer : IntegerType → ValueType → Type 0
GoesToPointer t of = (of ≡ Pointer t) ⊎ ((u : IntegerType) × (of ≡ Integer u))

-- a cast to a pointer
abbrev pub PointersConvert : Type 0
PointersConvert = (S : Site) → IsSite S → (t : IntegerType) (e : Expression)
    → Lowers S (part_of (context_of S) e) (evaluate S.calls e) → GoesToPointer t (part_of (context_of S) e).of
    → Lowers S (part_of (context_of S) (Cast (Pointer t) e)) (evaluate S.calls (Cast (Pointer t) e))

-- an assignment to a local that is a pointer
abbrev pub PointersAreAssigned : Type 0
PointersAreAssigned = (S : Site) → IsSite S → (k : ℕ) (l : Local) (t : IntegerType)
    → slice_get S.function.locals k ≡ Some l → l.of ≡ Pointer t → (e : Expression)
    → Lowers S (part_of (context_of S) e) (evaluate S.calls e) → GoesToPointer t (part_of (context_of S) e).of
    → Lowers S (part_of (context_of S) (Assign (Pointer t) (LocalPlace k) e))
    (evaluate S.calls (Assign (Pointer t) (LocalPlace k) e))

-- a pointer plus or minus a number, in this order (C99 6.5.6p8)
abbrev pub SumsLower : Type 0
SumsLower = (S : Site) → IsSite S → (operator : BinaryOp) → MovesPointer operator → (a b : Expression) (t : IntegerType)
    → Lowers S (part_of (context_of S) a) (evaluate S.calls a) → (part_of (context_of S) a).of ≡ Pointer t
    → (u : IntegerType) → Lowers S (part_of (context_of S) b) (evaluate S.calls b)
    → (part_of (context_of S) b).of ≡ Integer u
    → Lowers S (part_of (context_of S) (Binary (Pointer t) operator a b))
    (evaluate S.calls (Binary (Pointer t) operator a b))

-- a number plus a pointer, in this order
abbrev pub TurnedSumsLower : Type 0
TurnedSumsLower = (S : Site) → IsSite S → (a b : Expression) (t u : IntegerType)
    → Lowers S (part_of (context_of S) a) (evaluate S.calls a) → (part_of (context_of S) a).of ≡ Integer u
    → Lowers S (part_of (context_of S) b) (evaluate S.calls b) → (part_of (context_of S) b).of ≡ Pointer t
    → Lowers S (part_of (context_of S) (Binary (Pointer t) Add a b)) (evaluate S.calls (Binary (Pointer t) Add a b))

-- `&a[i]`, where `a` is a pointer and `i` a number (C99 6.5.3.2p3)
abbrev pub IndexesAreAddressed : Type 0
IndexesAreAddressed = (S : Site) → IsSite S → (a b : Expression) (t : IntegerType)
    → Lowers S (part_of (context_of S) a) (evaluate S.calls a) → (part_of (context_of S) a).of ≡ Pointer t
    → (u : IntegerType) → Lowers S (part_of (context_of S) b) (evaluate S.calls b)
    → (part_of (context_of S) b).of ≡ Integer u
    → Lowers S (part_of (context_of S) (Address t (Element t a b))) (evaluate S.calls (Address t (Element t a b)))

-- `&i[a]`, where the number comes first
abbrev pub TurnedAreAddressed : Type 0
TurnedAreAddressed = (S : Site) → IsSite S → (a b : Expression) (t u : IntegerType)
    → Lowers S (part_of (context_of S) a) (evaluate S.calls a) → (part_of (context_of S) a).of ≡ Integer u
    → Lowers S (part_of (context_of S) b) (evaluate S.calls b) → (part_of (context_of S) b).of ≡ Pointer t
    → Lowers S (part_of (context_of S) (Address t (Element t a b))) (evaluate S.calls (Address t (Element t a b)))

-- `p += n` and `p -= n`, where p is a local (C99 6.5.16.2)
abbrev pub PointersAreMoved : Type 0
PointersAreMoved = (S : Site) → IsSite S → (operator : BinaryOp) → MovesPointer operator → (k : ℕ) (l : Local)
    (t : IntegerType) → slice_get S.function.locals k ≡ Some l → l.of ≡ Pointer t → (e : Expression) (u : IntegerType)
    → Lowers S (part_of (context_of S) e) (evaluate S.calls e) → (part_of (context_of S) e).of ≡ Integer u
    → Lowers S (part_of (context_of S) (Update (Pointer t) operator (LocalPlace k) e))
    (evaluate S.calls (Update (Pointer t) operator (LocalPlace k) e))

-- `++` and `--` of a local that is a pointer (C99 6.5.2.4 and 6.5.3.1)
abbrev pub PointersAreStepped : Type 0
PointersAreStepped = (S : Site) → IsSite S → (operator : StepOp) (k : ℕ) (l : Local) (t : IntegerType)
    → slice_get S.function.locals k ≡ Some l → l.of ≡ Pointer t
    → Lowers S (part_of (context_of S) (Step (Pointer t) operator (LocalPlace k)))
    (evaluate S.calls (Step (Pointer t) operator (LocalPlace k)))

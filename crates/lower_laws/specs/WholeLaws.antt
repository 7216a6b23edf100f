-- The laws of the lines of expressions of any type, by their kinds; each is a part of `ExpressionsLower` of
-- `lower_lines`.
use Rattle.std.specs.Prelude.{◌≡◌, ◌≢◌, ℕ, List, [], ◌∷◌, Some, slice_get}
use Rattle.c_tree.specs.declared.types.IntegerType.{IntegerType}
use Rattle.c_tree.specs.declared.types.ValueType.TheVariants.{Void, Pointer}
use Rattle.c_tree.specs.Evaluation.{evaluate, evaluate_all}
use Rattle.c_tree.specs.Program.{Argument, Arguments, Call, Conditional, Expression, Function, Local, NoMore}
use Rattle.c_tree.specs.WellTyped.{CanAssign, IsResult}
use Rattle.lower_lines.specs.Expressions.{all_passed, part_of, parts_of}
use Rattle.lower_lines.specs.Following.{CallsFollow, IsSite, Lowers, LowersAll, Site, context_of, parameters_in}
use Rattle.lower_laws.specs.PointersLaws.{GoesToPointer}

-- an expression does what the source does
abbrev pub Does : Site → Expression → Type 0
Does S e = Lowers S (part_of (context_of S) e) (evaluate S.calls e)

-- ---- `?:` (C99 6.5.15)

-- of two pointers, or of one and the null constant
abbrev pub PointersAreChosen : Type 0
PointersAreChosen = (S : Site) → IsSite S → (t : IntegerType) (q a b : Expression) → Does S q
    → (part_of (context_of S) q).of ≢ Void → Does S a → GoesToPointer t (part_of (context_of S) a).of → Does S b
    → GoesToPointer t (part_of (context_of S) b).of → Does S (Conditional (Pointer t) q a b)

-- of void
abbrev pub VoidsAreChosen : Type 0
VoidsAreChosen = (S : Site) → IsSite S → (q a b : Expression) → Does S q → (part_of (context_of S) q).of ≢ Void
    → Does S a → Does S b → Does S (Conditional Void q a b)

-- ---- arguments and calls (C99 6.5.2.2)

-- each argument does what the source does, and may be assigned to its parameter
abbrev pub ArePassed : Site → List Local → Arguments → Type 0
ArePassed S [] NoMore = Unit {0}
ArePassed S (l ∷ ls) (Argument e es) = Does S e × CanAssign l.of (part_of (context_of S) e).of × ArePassed S ls es
ArePassed S _ _ = ⊥

-- arguments, as their parameters take them: a number as a word, a pointer or the null constant as two
abbrev pub AllArgumentsPass : Type 0
AllArgumentsPass = (S : Site) → IsSite S → (parameters : List Local) (arguments : Arguments)
    → ArePassed S parameters arguments
    → LowersAll S parameters (all_passed (context_of S) parameters (parts_of (context_of S) arguments))
    (evaluate_all S.calls arguments)

-- a call of a function of void or of an integer type, where calls follow
abbrev pub AllCallsLower : Type 0
AllCallsLower = (S : Site) → IsSite S → CallsFollow S → (k : ℕ) (f : Function)
    → slice_get S.program.functions k ≡ Some f → IsResult f.result → (arguments : Arguments)
    → ArePassed S (parameters_in f) arguments → Does S (Call f.result k arguments)

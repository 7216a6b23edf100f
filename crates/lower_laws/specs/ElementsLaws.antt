-- The laws of the lines that assign to elements with an operator, and of `++` and `--` of them, by their kinds; each is
-- a part of `ExpressionsLower` of `lower_lines`. An element is found once, loaded, and stored to.
use Rattle.std.specs.Prelude.{◌≡◌, ◌⊎◌, ◌<◌, ◌≤◌, ℕ, false, pos, true}
use Rattle.c_tree.specs.declared.expression.BinaryOp.{BinaryOp}
use Rattle.c_tree.specs.declared.expression.StepOp.{StepOp}
use Rattle.c_tree.specs.declared.types.IntegerType.{IntegerType}
use Rattle.c_tree.specs.declared.types.ValueType.TheVariants.{Integer, Pointer}
use Rattle.c_tree.specs.Evaluation.{Found, evaluate, load, locate, updated}
use Rattle.c_tree.specs.Operators.{numbers_type, step_op, step_result, step_type}
use Rattle.c_tree.specs.Program.{Element, Expression, Step, Target, Update, value_type}
use Rattle.c_tree.specs.Store as source
use Rattle.c_tree.specs.Store.{Evaluated, Gives, Held, HoldsNumber, and_then}
use Rattle.lower_lines.specs.Expressions.{Addressed, part_of, place_of, stepped_element, updated_element}
use Rattle.lower_lines.specs.Following.{IsSite, Lowers, LowersPlace, Site, context_of}
use Rattle.lower_lines.specs.Parts.{Part}
use Rattle.lower_lines.specs.Variables.{local_variables, own}
use Rattle.lower_laws.specs.PlacesLaws.{AddressFollows, KeepsTurns}

-- ---- any element that has an address

-- a variable where a pointer stands: one of the two of its level that are for pointers, or a local's
abbrev pub IsPlain : Site → ℕ → ℕ → Type 0
IsPlain S level v = (v < local_variables S.function)
    ⊎ ((v ≡ (own (context_of S) level).array) ⊎ (v ≡ (own (context_of S) level).number))

-- where an address stands that an old value and the ops on it leave alone
pub record IsClear (S : Site) (a : Addressed) : Type 0 where
  pub kept : (level : ℕ) → a.spot false level ≡ own (context_of S) level
  pub plain : (level : ℕ) → IsPlain S level (a.spot true level).array × IsPlain S level (a.spot true level).number

-- what an assignment to a place does with an operator that works in a type
abbrev pub updating : IntegerType → IntegerType → BinaryOp → (source.State → Evaluated Found)
    → (source.State → Evaluated Held) → source.State → Evaluated Held
updating t within operator run run' s =
    and_then (run s) (λ found u.
    and_then (load found u) (λ old v. and_then (run' v) (updated (Integer t) within operator found old)))

-- what `++` and `--` of a place do
abbrev pub stepping : IntegerType → StepOp → (source.State → Evaluated Found) → source.State → Evaluated Held
stepping t operator run s =
    and_then (run s) (λ found u.
    and_then (load found u) (λ old v.
    and_then (updated (Integer t) (step_type operator (Integer t)) (step_op operator) found old (HoldsNumber (pos 1)) v)
    (λ new w. Gives (step_result operator old new) w)))

-- An element that has an address is assigned to with an operator, which works in the type that its type and that of the
-- value tell.
abbrev pub ElementsAreUpdated : Type 0
ElementsAreUpdated = (S : Site) → IsSite S → (t : IntegerType) (operator : BinaryOp) (to : Addressed)
    (run : source.State → Evaluated Found) → AddressFollows S t to run → IsClear S to → KeepsTurns run → (a : Part)
    (run' : source.State → Evaluated Held) (u : IntegerType) → Lowers S a run' → a.of ≡ Integer u → 1 ≤ a.levels
    → Lowers S (updated_element (context_of S) t operator to a)
    (updating t (numbers_type operator t u) operator run run')

-- `++` and `--` of it
abbrev pub ElementsAreStepped : Type 0
ElementsAreStepped = (S : Site) → IsSite S → (t : IntegerType) (operator : StepOp) (to : Addressed)
    (run : source.State → Evaluated Found) → AddressFollows S t to run → IsClear S to → KeepsTurns run
    → Lowers S (stepped_element (context_of S) operator t to) (stepping t operator run)

-- ---- what a pointer goes to; the assigned value has the type of its part

abbrev pub TargetsAreUpdated : Type 0
TargetsAreUpdated = (S : Site) → IsSite S → (operator : BinaryOp) (e : Expression) (t : IntegerType)
    → Lowers S (part_of (context_of S) e) (evaluate S.calls e) → (part_of (context_of S) e).of ≡ Pointer t
    → (value : Expression) (u : IntegerType) → value_type value ≡ Integer u
    → Lowers S (part_of (context_of S) value) (evaluate S.calls value)
    → (part_of (context_of S) value).of ≡ Integer u
    → Lowers S (part_of (context_of S) (Update (Integer t) operator (Target t e) value))
    (evaluate S.calls (Update (Integer t) operator (Target t e) value))

abbrev pub TargetsAreStepped : Type 0
TargetsAreStepped = (S : Site) → IsSite S → (operator : StepOp) (e : Expression) (t : IntegerType)
    → Lowers S (part_of (context_of S) e) (evaluate S.calls e) → (part_of (context_of S) e).of ≡ Pointer t
    → Lowers S (part_of (context_of S) (Step (Integer t) operator (Target t e)))
    (evaluate S.calls (Step (Integer t) operator (Target t e)))

-- ---- `a[i]`, where `a` is a pointer and `i` a number

abbrev pub IndexesAreUpdated : Type 0
IndexesAreUpdated = (S : Site) → IsSite S → (operator : BinaryOp) (a b : Expression) (t : IntegerType)
    → Lowers S (part_of (context_of S) a) (evaluate S.calls a) → (part_of (context_of S) a).of ≡ Pointer t
    → (u : IntegerType) → Lowers S (part_of (context_of S) b) (evaluate S.calls b)
    → (part_of (context_of S) b).of ≡ Integer u → (value : Expression) (w : IntegerType) → value_type value ≡ Integer w
    → Lowers S (part_of (context_of S) value) (evaluate S.calls value)
    → (part_of (context_of S) value).of ≡ Integer w
    → Lowers S (part_of (context_of S) (Update (Integer t) operator (Element t a b) value))
    (evaluate S.calls (Update (Integer t) operator (Element t a b) value))

abbrev pub IndexesAreStepped : Type 0
IndexesAreStepped = (S : Site) → IsSite S → (operator : StepOp) (a b : Expression) (t : IntegerType)
    → Lowers S (part_of (context_of S) a) (evaluate S.calls a) → (part_of (context_of S) a).of ≡ Pointer t
    → (u : IntegerType) → Lowers S (part_of (context_of S) b) (evaluate S.calls b)
    → (part_of (context_of S) b).of ≡ Integer u
    → Lowers S (part_of (context_of S) (Step (Integer t) operator (Element t a b)))
    (evaluate S.calls (Step (Integer t) operator (Element t a b)))

-- ---- `i[a]`, where the number comes first (C99 6.5.2.1p2)

abbrev pub TurnedAreUpdated : Type 0
TurnedAreUpdated = (S : Site) → IsSite S → (operator : BinaryOp) (a b : Expression) (t u : IntegerType)
    → Lowers S (part_of (context_of S) a) (evaluate S.calls a) → (part_of (context_of S) a).of ≡ Integer u
    → Lowers S (part_of (context_of S) b) (evaluate S.calls b) → (part_of (context_of S) b).of ≡ Pointer t
    → (value : Expression) (w : IntegerType) → value_type value ≡ Integer w
    → Lowers S (part_of (context_of S) value) (evaluate S.calls value)
    → (part_of (context_of S) value).of ≡ Integer w
    → Lowers S (part_of (context_of S) (Update (Integer t) operator (Element t a b) value))
    (evaluate S.calls (Update (Integer t) operator (Element t a b) value))

abbrev pub TurnedAreStepped : Type 0
TurnedAreStepped = (S : Site) → IsSite S → (operator : StepOp) (a b : Expression) (t u : IntegerType)
    → Lowers S (part_of (context_of S) a) (evaluate S.calls a) → (part_of (context_of S) a).of ≡ Integer u
    → Lowers S (part_of (context_of S) b) (evaluate S.calls b) → (part_of (context_of S) b).of ≡ Pointer t
    → Lowers S (part_of (context_of S) (Step (Integer t) operator (Element t a b)))
    (evaluate S.calls (Step (Integer t) operator (Element t a b)))

-- ---- places: each is a part of `PlacesLower` of `lower_lines`

-- `a[i]`, where `a` is a pointer and `i` a number
abbrev pub IndexesLower : Type 0
IndexesLower = (S : Site) → IsSite S → (a b : Expression) (t : IntegerType)
    → Lowers S (part_of (context_of S) a) (evaluate S.calls a) → (part_of (context_of S) a).of ≡ Pointer t
    → (u : IntegerType) → Lowers S (part_of (context_of S) b) (evaluate S.calls b)
    → (part_of (context_of S) b).of ≡ Integer u
    → LowersPlace S (Integer t) (place_of (context_of S) (Element t a b)) (locate S.calls (Element t a b))

-- `i[a]`, where the number comes first
abbrev pub TurnedLower : Type 0
TurnedLower = (S : Site) → IsSite S → (a b : Expression) (t u : IntegerType)
    → Lowers S (part_of (context_of S) a) (evaluate S.calls a) → (part_of (context_of S) a).of ≡ Integer u
    → Lowers S (part_of (context_of S) b) (evaluate S.calls b) → (part_of (context_of S) b).of ≡ Pointer t
    → LowersPlace S (Integer t) (place_of (context_of S) (Element t a b)) (locate S.calls (Element t a b))

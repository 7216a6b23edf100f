-- The laws of the lines that read elements of arrays and static objects, and assign to them, by their kinds.
use Rattle.std.specs.Prelude.{◌≡◌, ◌+◌, ◌≤◌, ℕ, Bool, false, true, pos, List, ◌∷◌, replicate, slice_get}
use Rattle.std.specs.Prelude.{length, Some}
use Rattle.pcc_base.specs.Outcome.{ArrayName, Static, InFrame}
use Rattle.c_eval_laws.specs.Bounds.{state_of}
use Rattle.c_tree.specs.declared.expression.ArrayRef.{ArrayRef}
use Rattle.c_tree.specs.declared.expression.ArrayRef.TheVariants as refs
use Rattle.c_tree.specs.declared.expression.BinaryOp.{BinaryOp}
use Rattle.c_tree.specs.declared.expression.StepOp.{StepOp}
use Rattle.c_tree.specs.declared.types.IntegerType.{IntegerType}
use Rattle.c_tree.specs.declared.types.ValueType.TheVariants.{Integer, Pointer}
use Rattle.c_tree.specs.Evaluation.{Found, evaluate, load, locate, own_array, store, zeroed}
use Rattle.c_tree.specs.Program.{Address, Assign, Element, Expression, Function, Program, Read, StaticObject}
use Rattle.c_tree.specs.Program.{StaticPlace, Step, Target, Update, value_type}
use Rattle.c_tree.specs.Store as source
use Rattle.c_tree.specs.Store.{Evaluated, Held, and_then, array_named, array_of, in_type}
use Rattle.c_tree.specs.WellTyped.{IsArray}
use Rattle.flow_graph.specs.States as graph
use Rattle.flow_graph.specs.States.{depth_of}
use Rattle.lower_lines.specs.Expressions.{Addressed, AtAddress, assigned_element, element_of, part_of, read_part}
use Rattle.lower_lines.specs.Expressions.{place_of, target_of}
use Rattle.lower_lines.specs.Following.{Begins, FollowsPlace, IsSite, IsSteady, Lowers, LowersPlace, Site, Stand}
use Rattle.lower_lines.specs.Following.{context_of}
use Rattle.lower_lines.specs.Lines.{Line}
use Rattle.lower_lines.specs.Parts.{Part}
use Rattle.lower_lines.specs.Relation.{IsArrayOf, Shows}
use Rattle.lower_lines.specs.Variables.{levels_of, own}

-- The lines of an address lead to where a pointer to the element stands, wherever they stand themselves, and whether
-- anything is stored after them or not.
abbrev pub AddressFollows : Site → IntegerType → Addressed → (source.State → Evaluated Found) → Type 0
AddressFollows S element a run =
    (active : List Function) (stays : Bool) (block level : ℕ) (before : List Line) (s : source.State) (g : graph.State)
    → Stand S before (a.lines stays block level) → level + a.levels ≤ levels_of S.function → Begins S active s g
    → FollowsPlace S active before (a.lines stays block level) level element (a.spot stays level) s g (run s)

-- an element that has an address is read
abbrev pub ElementsAreRead : Type 0
ElementsAreRead = (S : Site) → IsSite S → (t : IntegerType) (a : Addressed) (run : source.State → Evaluated Found)
    → AddressFollows S t a run → 1 ≤ a.levels
    → Lowers S (read_part (context_of S) (Integer t) (AtAddress t a)) (λ s. and_then (run s) load)

-- the address of what a pointer goes to
abbrev pub TargetsFollow : Type 0
TargetsFollow = (S : Site) → IsSite S → (e : Expression) (t : IntegerType)
    → Lowers S (part_of (context_of S) e) (evaluate S.calls e) → (part_of (context_of S) e).of ≡ Pointer t
    → AddressFollows S t (target_of (context_of S) (part_of (context_of S) e)) (locate S.calls (Target t e))

-- what a pointer goes to is read
abbrev pub TargetsAreRead : Type 0
TargetsAreRead = (S : Site) → IsSite S → (e : Expression) (t : IntegerType)
    → Lowers S (part_of (context_of S) e) (evaluate S.calls e) → (part_of (context_of S) e).of ≡ Pointer t
    → Lowers S (part_of (context_of S) (Read (Integer t) (Target t e)))
    (evaluate S.calls (Read (Integer t) (Target t e)))

-- a static object that is no array is read
abbrev pub ObjectsAreRead : Type 0
ObjectsAreRead = (S : Site) → IsSite S → (k : ℕ) (o : StaticObject) → slice_get S.program.objects k ≡ Some o
    → length o.elements ≡ 1 → Lowers S (part_of (context_of S) (Read (Integer o.element) (StaticPlace k)))
    (evaluate S.calls (Read (Integer o.element) (StaticPlace k)))

-- a number is assigned to a static object that is no array
abbrev pub ObjectsAreAssigned : Type 0
ObjectsAreAssigned = (S : Site) → IsSite S → (k : ℕ) (o : StaticObject) → slice_get S.program.objects k ≡ Some o
    → length o.elements ≡ 1 → (e : Expression) (u : IntegerType)
    → Lowers S (part_of (context_of S) e) (evaluate S.calls e) → (part_of (context_of S) e).of ≡ Integer u
    → Lowers S (part_of (context_of S) (Assign (Integer o.element) (StaticPlace k) e))
    (evaluate S.calls (Assign (Integer o.element) (StaticPlace k) e))

-- a number is assigned to it with an operator; its expression has the type of its part
abbrev pub ObjectsAreUpdated : Type 0
ObjectsAreUpdated = (S : Site) → IsSite S → (operator : BinaryOp) (k : ℕ) (o : StaticObject)
    → slice_get S.program.objects k ≡ Some o → length o.elements ≡ 1 → (e : Expression) (u : IntegerType)
    → value_type e ≡ Integer u → Lowers S (part_of (context_of S) e) (evaluate S.calls e)
    → (part_of (context_of S) e).of ≡ Integer u
    → Lowers S (part_of (context_of S) (Update (Integer o.element) operator (StaticPlace k) e))
    (evaluate S.calls (Update (Integer o.element) operator (StaticPlace k) e))

-- `++` and `--` of it
abbrev pub ObjectsAreStepped : Type 0
ObjectsAreStepped = (S : Site) → IsSite S → (operator : StepOp) (k : ℕ) (o : StaticObject)
    → slice_get S.program.objects k ≡ Some o → length o.elements ≡ 1
    → Lowers S (part_of (context_of S) (Step (Integer o.element) operator (StaticPlace k)))
    (evaluate S.calls (Step (Integer o.element) operator (StaticPlace k)))

-- where an address stands that is in the temporaries of its level, or whose variables nothing changes that stores
-- nothing
pub record IsSettled (S : Site) (a : Addressed) : Type 0 where
  pub kept : (level : ℕ) → a.spot false level ≡ own (context_of S) level
  pub steady : (level : ℕ) → IsSteady S level (a.spot true level).array × IsSteady S level (a.spot true level).number

-- it leaves no more turns than there were
abbrev pub KeepsTurns : {A : Type 0} → (source.State → Evaluated A) → Type 0
KeepsTurns run = (s : source.State) → (state_of (run s)).turns ≤ s.turns

-- what an assignment to a place does
abbrev pub assigned : IntegerType → (source.State → Evaluated Found) → (source.State → Evaluated Held) → source.State
    → Evaluated Held
assigned t run run' s =
    and_then (run s) (λ found u. and_then (run' u) (λ v w. store found (in_type (Integer t) v) w))

-- a number is assigned to an element that has an address
abbrev pub ElementsAreAssigned : Type 0
ElementsAreAssigned = (S : Site) → IsSite S → (t : IntegerType) (to : Addressed) (run : source.State → Evaluated Found)
    → AddressFollows S t to run → IsSettled S to → KeepsTurns run → 1 ≤ to.levels → (a : Part)
    (run' : source.State → Evaluated Held) (u : IntegerType) → Lowers S a run' → a.of ≡ Integer u → KeepsTurns run'
    → Lowers S (assigned_element (context_of S) t to a) (assigned t run run')

-- a number is assigned to what a pointer goes to
abbrev pub TargetsAreAssigned : Type 0
TargetsAreAssigned = (S : Site) → IsSite S → (e : Expression) (t : IntegerType)
    → Lowers S (part_of (context_of S) e) (evaluate S.calls e) → (part_of (context_of S) e).of ≡ Pointer t
    → (value : Expression) (u : IntegerType) → Lowers S (part_of (context_of S) value) (evaluate S.calls value)
    → (part_of (context_of S) value).of ≡ Integer u
    → Lowers S (part_of (context_of S) (Assign (Integer t) (Target t e) value))
    (evaluate S.calls (Assign (Integer t) (Target t e) value))

-- ---- `a[i]`, where `a` is a pointer and `i` a number

-- its address
abbrev pub IndexesFollow : Type 0
IndexesFollow = (S : Site) → IsSite S → (a b : Expression) (t : IntegerType)
    → Lowers S (part_of (context_of S) a) (evaluate S.calls a) → (part_of (context_of S) a).of ≡ Pointer t
    → (u : IntegerType) → Lowers S (part_of (context_of S) b) (evaluate S.calls b)
    → (part_of (context_of S) b).of ≡ Integer u → AddressFollows S t
    (element_of (context_of S) t (Pointer t) (part_of (context_of S) a) (part_of (context_of S) b))
    (locate S.calls (Element t a b))

-- it is read
abbrev pub IndexesAreRead : Type 0
IndexesAreRead = (S : Site) → IsSite S → (a b : Expression) (t : IntegerType)
    → Lowers S (part_of (context_of S) a) (evaluate S.calls a) → (part_of (context_of S) a).of ≡ Pointer t
    → (u : IntegerType) → Lowers S (part_of (context_of S) b) (evaluate S.calls b)
    → (part_of (context_of S) b).of ≡ Integer u → Lowers S (part_of (context_of S) (Read (Integer t) (Element t a b)))
    (evaluate S.calls (Read (Integer t) (Element t a b)))

-- a number is assigned to it
abbrev pub IndexesAreAssigned : Type 0
IndexesAreAssigned = (S : Site) → IsSite S → (a b : Expression) (t : IntegerType)
    → Lowers S (part_of (context_of S) a) (evaluate S.calls a) → (part_of (context_of S) a).of ≡ Pointer t
    → (u : IntegerType) → Lowers S (part_of (context_of S) b) (evaluate S.calls b)
    → (part_of (context_of S) b).of ≡ Integer u → (value : Expression) (w : IntegerType)
    → Lowers S (part_of (context_of S) value) (evaluate S.calls value)
    → (part_of (context_of S) value).of ≡ Integer w
    → Lowers S (part_of (context_of S) (Assign (Integer t) (Element t a b) value))
    (evaluate S.calls (Assign (Integer t) (Element t a b) value))

-- ---- `i[a]`, where the number comes first (C99 6.5.2.1p2)

-- its address
abbrev pub TurnedFollow : Type 0
TurnedFollow = (S : Site) → IsSite S → (a b : Expression) (t u : IntegerType)
    → Lowers S (part_of (context_of S) a) (evaluate S.calls a) → (part_of (context_of S) a).of ≡ Integer u
    → Lowers S (part_of (context_of S) b) (evaluate S.calls b) → (part_of (context_of S) b).of ≡ Pointer t
    → AddressFollows S t
    (element_of (context_of S) t (Integer u) (part_of (context_of S) a) (part_of (context_of S) b))
    (locate S.calls (Element t a b))

-- it is read
abbrev pub TurnedAreRead : Type 0
TurnedAreRead = (S : Site) → IsSite S → (a b : Expression) (t u : IntegerType)
    → Lowers S (part_of (context_of S) a) (evaluate S.calls a) → (part_of (context_of S) a).of ≡ Integer u
    → Lowers S (part_of (context_of S) b) (evaluate S.calls b) → (part_of (context_of S) b).of ≡ Pointer t
    → Lowers S (part_of (context_of S) (Read (Integer t) (Element t a b)))
    (evaluate S.calls (Read (Integer t) (Element t a b)))

-- a number is assigned to it
abbrev pub TurnedAreAssigned : Type 0
TurnedAreAssigned = (S : Site) → IsSite S → (a b : Expression) (t u : IntegerType)
    → Lowers S (part_of (context_of S) a) (evaluate S.calls a) → (part_of (context_of S) a).of ≡ Integer u
    → Lowers S (part_of (context_of S) b) (evaluate S.calls b) → (part_of (context_of S) b).of ≡ Pointer t
    → (value : Expression) (w : IntegerType)
    → Lowers S (part_of (context_of S) value) (evaluate S.calls value)
    → (part_of (context_of S) value).of ≡ Integer w
    → Lowers S (part_of (context_of S) (Assign (Integer t) (Element t a b) value))
    (evaluate S.calls (Assign (Integer t) (Element t a b) value))

-- ---- arrays that a function names

-- the array that an op of a function names, in its youngest call
abbrev pub named : graph.State → ArrayRef → ArrayName
named g (refs.Static k) = Static k
named g (refs.Frame k) = InFrame k (depth_of g)

-- it is the one that the source names, of elements of its type
abbrev pub NamesAreAlike : Type 0
NamesAreAlike = (p : Program) (f : Function) (older : List Function) (s : source.State) (g : graph.State)
    (t : IntegerType) (array : ArrayRef) → Shows p (f ∷ older) s g → IsArray p f array t
    → IsArrayOf p (f ∷ older) t (array_of s array) × (array_of s array ≡ named g array)

-- an array of the youngest call is there with the source's elements, and becomes zero on both sides
abbrev pub ArraysAreCleared : Type 0
ArraysAreCleared = (p : Program) (f : Function) (older : List Function) (s : source.State) (g : graph.State) (k : ℕ)
    (t : IntegerType) → Shows p (f ∷ older) s g → IsArray p f (refs.Frame k) t
    → (slice_get g.current.arrays k ≡ Some (array_named s (own_array s k)))
    × Shows p (f ∷ older) (source.with_array (own_array s k) (zeroed (array_named s (own_array s k))) s)
    (graph.with_array (InFrame k (depth_of g)) (replicate (length (array_named s (own_array s k))) (pos 0)) g)

-- the address of what a pointer goes to, as a value
abbrev pub TargetsAreAddressed : Type 0
TargetsAreAddressed = (S : Site) → IsSite S → (e : Expression) (t : IntegerType)
    → Lowers S (part_of (context_of S) e) (evaluate S.calls e) → (part_of (context_of S) e).of ≡ Pointer t
    → Lowers S (part_of (context_of S) (Address t (Target t e))) (evaluate S.calls (Address t (Target t e)))

-- what a pointer goes to is a place that does what the source does: a part of `PlacesLower` of `lower_lines`
abbrev pub TargetsLower : Type 0
TargetsLower = (S : Site) → IsSite S → (e : Expression) (t : IntegerType)
    → Lowers S (part_of (context_of S) e) (evaluate S.calls e) → (part_of (context_of S) e).of ≡ Pointer t
    → LowersPlace S (Integer t) (place_of (context_of S) (Target t e)) (locate S.calls (Target t e))

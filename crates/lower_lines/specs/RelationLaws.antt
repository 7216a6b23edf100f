-- The laws of the relation between states of a source and of its graphs (`specs/Relation.antt` of `lower_lines`): one
-- for each kind of change that an op of scalar programs makes.
use Rattle.std.specs.Prelude.{◌≡◌, ◌≢◌, ◌≤◌, ◌<◌, ℕ, suc, ◌+◌, ◌*◌, ℤ, List, [], ◌∷◌, ◌++◌, length, slice_get}
use Rattle.std.specs.Prelude.{Some}
use Rattle.pcc_base.specs.Outcome.{ArrayName, Null, Value, Number, Visit}
use Rattle.c_tree.specs.declared.types.IntegerType.{IntegerType}
use Rattle.c_tree.specs.declared.types.ValueType.TheVariants.{Integer, Pointer}
use Rattle.c_tree.specs.Program.{Local, Function, Program}
use Rattle.c_tree.specs.Sizes.{bytes_of}
use Rattle.c_tree.specs.Store as source
use Rattle.c_tree.specs.Store.{HoldsNumber, HoldsPointer, held, with_local}
use Rattle.flow_graph.specs.Meaning.{Moved, accessed}
use Rattle.flow_graph.specs.States as graph
use Rattle.flow_graph.specs.States.{elements_of, with_value}
use Rattle.lower_lines.specs.Parts.{bits_of}
use Rattle.lower_lines.specs.Programs.{lowered}
use Rattle.lower_lines.specs.Relation.{AreNumbersOf, HoldsAt, IsArrayOf, IsOf, Keeps, Shows, array_value}
use Rattle.lower_lines.specs.Shown.{first_variable}
use Rattle.lower_lines.specs.Variables.{local_variables, typed_spot}

-- a temporary that changes is none of what the source shows
abbrev pub TemporariesAreFree : Type 0
TemporariesAreFree =
    (p : Program) (f : Function) (older : List Function) (s : source.State) (g : graph.State) (v : ℕ) (x : Value)
    → Shows p (f ∷ older) s g → local_variables f ≤ v → Shows p (f ∷ older) s (with_value v x g)

-- the variables of a local hold its value, which is of its type
abbrev pub LocalsAreHeld : Type 0
LocalsAreHeld =
    (p : Program) (f : Function) (older : List Function) (s : source.State) (g : graph.State) (k : ℕ) (l : Local)
    → Shows p (f ∷ older) s g → slice_get f.locals k ≡ Some l
    → HoldsAt g.current.variables l.of (typed_spot l.of (first_variable f.locals k)) (held s k)
    × IsOf p (f ∷ older) l.of (held s k)

-- a number goes to a local
abbrev pub NumbersAreSet : Type 0
NumbersAreSet =
    (p : Program) (f : Function) (older : List Function) (s : source.State) (g : graph.State) (k : ℕ) (l : Local)
    (t : IntegerType) (n : ℤ) → Shows p (f ∷ older) s g → slice_get f.locals k ≡ Some l → l.of ≡ Integer t
    → Shows p (f ∷ older) (with_local k (HoldsNumber n) s) (with_value (first_variable f.locals k) (Number n) g)

-- a pointer goes to a local, first its array and then its index
abbrev pub PointersAreSet : Type 0
PointersAreSet =
    (p : Program) (f : Function) (older : List Function) (s : source.State) (g : graph.State) (k : ℕ) (l : Local)
    (t : IntegerType) (array : ArrayName) (index : ℤ) → Shows p (f ∷ older) s g → slice_get f.locals k ≡ Some l
    → l.of ≡ Pointer t → IsArrayOf p (f ∷ older) t array
    → Shows p (f ∷ older) (with_local k (HoldsPointer array index) s) (with_value (suc (first_variable f.locals k))
    (Number index) (with_value (first_variable f.locals k) (array_value array) g))

-- a byte is written
abbrev pub BytesAreWritten : Type 0
BytesAreWritten =
    (p : Program) (active : List Function) (s : source.State) (g : graph.State) (byte : ℕ) → Shows p active s g
    → Shows p active (record s { written = s.written ++ byte ∷ [] }) (record g { written = g.written ++ byte ∷ [] })

-- a byte is taken
abbrev pub BytesAreTaken : Type 0
BytesAreTaken =
    (p : Program) (active : List Function) (s : source.State) (g : graph.State) (bytes : List ℕ) → Shows p active s g
    → Shows p active (record s { left = bytes; taken = s.taken + 1 }) (record g { left = bytes; taken = g.taken + 1 })

-- what is shown depends neither on turns and visits, nor on where a graph stands
abbrev pub TurnsAndVisitsAreFree : Type 0
TurnsAndVisitsAreFree =
    (p : Program) (active : List Function) (s : source.State) (g : graph.State) (turns : ℕ) (visits : List Visit)
    (block point : ℕ) → Shows p active s g
    → Shows p active (record s { turns = turns; visits = visits }) (record g { block = block; point = point })

-- what lines keep, they keep one after another
abbrev pub KeptTwice : Type 0
KeptTwice = (first level : ℕ) (g h i : graph.State) → Keeps first level g h → Keeps first level h i
    → Keeps first level g i

-- what is kept at a level is kept at a lower one
abbrev pub KeptBelow : Type 0
KeptBelow = (first level other : ℕ) (g h : graph.State) → level ≤ other → Keeps first other g h
    → Keeps first level g h

-- a variable that is no temporary below the level may change
abbrev pub KeptByChange : Type 0
KeptByChange = (first level v : ℕ) (x : Value) (g : graph.State) → (v < first → Keeps first level g (with_value v x g))
    × (first + level * 5 ≤ v → Keeps first level g (with_value v x g))

-- ---- arrays

-- An array that a pointer of the type names is there in the graphs, with elements of this width, which are those that
-- the source has: a static object, or an array of an active call of any depth.
abbrev pub ArraysAreThere : Type 0
ArraysAreThere =
    (p : Program) (active : List Function) (s : source.State) (g : graph.State) (t : IntegerType) (array : ArrayName)
    → Shows p active s g → IsArrayOf p active t array → array ≢ Null
    → elements_of (lowered p) g array ≡ Some (bytes_of t, source.array_named s array)

-- so an access of the type reaches these elements
abbrev pub ArraysAreReached : Type 0
ArraysAreReached =
    (p : Program) (active : List Function) (s : source.State) (g : graph.State) (t : IntegerType) (array : ArrayName)
    → Shows p active s g → IsArrayOf p active t array → array ≢ Null → (go : List ℤ → Moved)
    → accessed (lowered p) g (bits_of t) array go ≡ go (source.array_named s array)

-- the elements of an array that a pointer of the type names are numbers of the type
abbrev pub ArraysFit : Type 0
ArraysFit =
    (p : Program) (active : List Function) (s : source.State) (g : graph.State) (t : IntegerType) (array : ArrayName)
    → Shows p active s g → IsArrayOf p active t array → AreNumbersOf t (source.array_named s array)

-- an array that a pointer of the type names gets other elements of the type on both sides, as many as before
abbrev pub ArraysAreSet : Type 0
ArraysAreSet =
    (p : Program) (active : List Function) (s : source.State) (g : graph.State) (t : IntegerType) (array : ArrayName)
    (elements : List ℤ) → Shows p active s g → IsArrayOf p active t array
    → length elements ≡ length (source.array_named s array) → AreNumbersOf t elements
    → Shows p active (source.with_array array elements s) (graph.with_array array elements g)

-- where an array gets other elements, all temporaries are kept
abbrev pub KeptByArrays : Type 0
KeptByArrays = (first level : ℕ) (g : graph.State) (array : ArrayName) (elements : List ℤ)
    → Keeps first level g (graph.with_array array elements g)

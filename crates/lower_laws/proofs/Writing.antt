-- Elements of arrays and static objects that numbers are assigned to.
use Rattle.std.proofs.Common.{◌≡◌, ◌≢◌, ℕ, ◌+◌, ◌<◌, ◌≤◌, Bool, true, false, ℤ, pos, List, [], ◌∷◌, ◌++◌}
use Rattle.std.proofs.Common.{length, Option, Some, None, refl, sym, ap, ◌∙◌, subst, append-nil}
use Rattle.std.specs.Prelude.{slice_get, IsSomeAnd, ◌==◌}
use Rattle.pcc_base.specs.Outcome.{ArrayName, Null, Static, InFrame, Unknown}
use Rattle.c_eval_laws.specs.Bounds.{state_of}
use Rattle.c_tree.specs.declared.types.IntegerType.{IntegerType}
use Rattle.c_tree.specs.declared.types.ValueType.TheVariants.{Integer, Pointer}
use Rattle.c_tree.specs.Evaluation.{InObject, element_written, evaluate, store}
use Rattle.c_tree.specs.Operators.{Computes}
use Rattle.c_tree.specs.Program.{Function, StaticObject}
use Rattle.c_tree.specs.Store as source
use Rattle.c_tree.specs.Store.{Evaluated, Gives, Ends, Held, HoldsNumber, HoldsPointer, and_then, array_named}
use Rattle.c_tree.specs.Store.{converted}
use Rattle.flow_graph.specs.declared.op.Op.TheVariants as op
use Rattle.flow_graph.specs.Meaning.{stored}
use Rattle.flow_graph.specs.States as graph
use Rattle.flow_graph.specs.States.{depth_of, number_at, number_of, value_at}
use Rattle.lower_lines.specs.Expressions.{assigned_object, part_of}
use Rattle.lower_lines.specs.Following.{Begins, Comes, Follows, IsSite, Lowers, MayWant, Site, Stand, behind}
use Rattle.lower_lines.specs.Following.{context_of}
use Rattle.lower_lines.specs.Lines.{Line, Emit, open_after, ops_in}
use Rattle.lower_lines.specs.Parts.{Wanted, Dropped, Own, ToLocal, Tests, Part, bits_of, converted_lines, converting}
use Rattle.lower_lines.specs.Parts.{made}
use Rattle.lower_lines.specs.Parts.{operand}
use Rattle.lower_lines.specs.Relation.{HoldsAt, IsArrayOf, Keeps, Shows}
use Rattle.lower_lines.specs.Variables.{Spot, levels_of, local_spot, local_variables, own}
use Rattle.lower_lines.proofs.Arrays.{arrays-fit, arrays-reached, arrays-set, element-fits, kept-by-arrays}
use Rattle.lower_lines.proofs.Changes.{kept-none, turns-free}
use Rattle.lower_lines.proofs.Depths.{with_frame}
use Rattle.lower_lines.proofs.Locals.{length-slice_set}
use Rattle.lower_lines.proofs.Steps.{put-step}
use Rattle.lower_laws.proofs.Binary.{Fits, compound-lowers, turns-fall, works-follow}
use Rattle.lower_laws.proofs.Converting.{behind-number, converting-works}
use Rattle.lower_laws.proofs.Going.{stand-back, stand-front}
use Rattle.lower_laws.proofs.Levels.{levels-one, levels-below}
use Rattle.lower_laws.proofs.Operands.{number-operand}
use Rattle.lower_laws.proofs.Unary.{follows-behind}
use Rattle.lower_laws.proofs.Accesses.{element-stores, store-trapped, stored-is, stored-shows, with_stored}
use Rattle.lower_laws.proofs.PlacesReading.{object-read, trap-ends}
use Rattle.lower_laws.specs.PlacesLaws.{ObjectsAreAssigned}

-- ---- what other elements don't change

pub visits-same : (array : ArrayName) (elements : List ℤ) (u : source.State)
    → (source.with_array array elements u).visits ≡ u.visits
visits-same Null elements u = refl
visits-same (Static k) elements u = refl
visits-same (InFrame k depth) elements u = refl
visits-same Unknown elements u = refl

pub turns-same : (array : ArrayName) (elements : List ℤ) (u : source.State)
    → (source.with_array array elements u).turns ≡ u.turns
turns-same Null elements u = refl
turns-same (Static k) elements u = refl
turns-same (InFrame k depth) elements u = refl
turns-same Unknown elements u = refl

pub value-same : (array : ArrayName) (elements : List ℤ) (h : graph.State) (x : ℕ)
    → value_at (graph.with_array array elements h) x ≡ value_at h x
value-same Null elements h x = refl
value-same (Static k) elements h x = refl
value-same (InFrame k depth) elements h x = by (depth == depth_of h)
  where
    by : (mine : Bool) → value_at (with_frame mine k depth elements h) x ≡ value_at h x
    by true = refl
    by false = refl
value-same Unknown elements h x = refl

-- ---- the value of an assignment

module _ (S : Site) (site : IsSite S) (older : List Function) (level x : ℕ) (n : ℤ) (before : List Line)
    (t : source.State) (g : graph.State) (fits : g.current.function ≡ S.number)
    (shows : Shows S.program (S.function ∷ older) t g) (room : level < levels_of S.function)
    (at_x : number_at g x ≡ Some n) where
  made-fits : (w : IntegerType) (block : ℕ) (wanted : Wanted) (lines : List Line)
      → made (context_of S) block level wanted (Integer w) (λ to. converting (context_of S) level w to.number x) ≡ lines
      → Stand S before lines → MayWant S wanted (Integer w)
      → Fits S (S.function ∷ older) before lines level wanted (Integer w) t g (Gives (HoldsNumber (converted w n)) t)
  made-fits w block wanted lines same stands may = (
    subst (λ (ls : List Line). Follows S (S.function ∷ older) before ls level wanted (Integer w) t g
        (Gives (HoldsNumber (converted w n)) t)) same
        (works-follow S site older level (λ to. converting (context_of S) level w to x) before t g
        (Computes (HoldsNumber (converted w n))) block wanted w room shows fits
        (converting-works S site older level x n before t g fits shows room at_x w)
        (subst (λ (ls : List Line). Stand S before ls) (sym same) stands) may),
    tt,
  )

  pub converted-fits : (w : IntegerType) (block : ℕ) (wanted : Wanted)
      → Stand S before (converted_lines (context_of S) block level wanted w x) → MayWant S wanted (Integer w)
      → Fits S (S.function ∷ older) before (converted_lines (context_of S) block level wanted w x) level wanted
      (Integer w) t g (Gives (HoldsNumber (converted w n)) t)
  converted-fits w block Dropped stands may = (
    (
      g,
      [],
      shows,
      kept-none (local_variables S.function) level g,
      tt,
      sym (append-nil t.visits),
      λ o c. subst (λ (ls : List Line). Comes S t.turns (behind ls g) o) (append-nil before) c,
    ),
    tt,
  )
  converted-fits w block Own stands may =
      made-fits w block Own (converting (context_of S) level w (own (context_of S) level).number x) (append-nil _)
      stands
      may
  converted-fits w block (ToLocal j) stands may =
      made-fits w block (ToLocal j) (converting (context_of S) level w (local_spot (context_of S) j).number x)
      (append-nil _) stands may
  converted-fits w block (Tests yes' no') stands may = made-fits w block (Tests yes' no') _ refl stands may

-- ---- a store through a pointer in variables

module _ (S : Site) (site : IsSite S) (older : List Function) (t : IntegerType) (before : List Line)
    (u : source.State) (h : graph.State) (fits : h.current.function ≡ S.number)
    (shows : Shows S.program (S.function ∷ older) u h) (array : ArrayName) (index : ℤ) (spot : Spot)
    (holds : HoldsAt h.current.variables (Pointer t) spot (HoldsPointer array index))
    (is : IsArrayOf S.program (S.function ∷ older) t array) (level x : ℕ) (n : ℤ) (at_x : number_at h x ≡ Some n)
    (room : level < levels_of S.function) (block : ℕ) (wanted : Wanted) (may : MayWant S wanted (Integer t)) where
  abbrev saving : Line
  saving = Emit (op.Store (bits_of t) spot.array spot.number x)

  abbrev value : List Line
  value = converted_lines (context_of S) block level wanted t x

  abbrev others : List ℤ
  others = source.with_element (array_named u array) index (converted t n)

  abbrev later : graph.State
  later = with_stored S site older t before u h fits shows array index spot holds is n

  later-keeps : Keeps (local_variables S.function) level h later
  later-keeps = kept-by-arrays (local_variables S.function) level h array _

  later-at : number_at later x ≡ Some n
  later-at = ap number_of (value-same array _ h x) ∙ at_x

  pub store-fits : (element : Option ℤ) → source.element_at (array_named u array) index ≡ element
      → Stand S before (saving ∷ value)
      → Fits S (S.function ∷ older) before (saving ∷ value) level wanted (Integer t) u h
      (element_written array index (HoldsNumber (converted t n)) u element)
  store-fits None there stands = (
    trap-ends S (S.function ∷ older) u h before shows
        (store-trapped S site older t before u h fits shows array index spot holds is n x there at_x
        (stand-front S before (saving ∷ []) value stands)),
    tt,
  )
  store-fits (Some old) there stands =
      let after = source.with_array array others u in
      let rest = converted-fits S site older level x n (before ++ saving ∷ []) after later (later-keeps.function ∙ fits)
      (stored-shows S site older t before u h fits shows array index spot holds is n) room later-at t block wanted
      (stand-back S before (saving ∷ []) value stands) may in (
        follows-behind S (S.function ∷ older) before (saving ∷ []) value level wanted (Integer t) u after h later []
            (Gives (HoldsNumber (converted t n)) after) later-keeps
            (visits-same array others u ∙ sym (append-nil u.visits))
            (λ o r. element-stores S site older t before u h fits shows array index spot holds is n old x o there at_x
            (stand-front S before (saving ∷ []) value stands)
            (subst (λ (k : ℕ). Comes S k (behind (before ++ saving ∷ []) later) o) (turns-same array others u) r))
            rest.0,
        tt,
      )

-- ---- static objects

module _ (S : Site) (site : IsSite S) (older : List Function) (k : ℕ) (o : StaticObject)
    (e : slice_get S.program.objects k ≡ Some o) (one : length o.elements ≡ 1) (before : List Line)
    (u : source.State) (h : graph.State) (begins : Begins S (S.function ∷ older) u h) (level x : ℕ) (n : ℤ)
    (at_x : number_at h x ≡ Some n) (room : level < levels_of S.function) (block : ℕ) (wanted : Wanted)
    (may : MayWant S wanted (Integer o.element)) where
  abbrev putting : Line
  putting = Emit (op.Put (bits_of o.element) k x)

  abbrev behind_put : List Line
  behind_put = converted_lines (context_of S) block level wanted o.element x

  abbrev elements : List ℤ
  elements = array_named u (Static k)

  abbrev changed : source.State
  changed = source.with_array (Static k) (source.with_element elements (pos 0) (converted o.element n)) u

  abbrev put : graph.State
  put = graph.with_array (Static k) (graph.with_element elements (pos 0) (stored (bits_of o.element) n)) h

  is-there : IsSomeAnd (slice_get S.program.objects k) (λ y. y.element ≡ o.element)
  is-there = subst (λ (y : Option StaticObject). IsSomeAnd y (λ z. z.element ≡ o.element)) (sym e) refl

  no-null : Static k ≢ Null
  no-null same = cc

  put-shows : Shows S.program (S.function ∷ older) changed put
  put-shows =
      subst (λ (m : ℤ). Shows S.program (S.function ∷ older) changed
      (graph.with_array (Static k) (graph.with_element elements (pos 0) m) h)) (sym (stored-is o.element n))
      (arrays-set S.program (S.function ∷ older) u h o.element (Static k)
      (source.with_element elements (pos 0) (converted o.element n)) begins.shows is-there
      (length-slice_set elements 0 (converted o.element n))
      (element-fits o.element elements (pos 0) n
      (arrays-fit S.program (S.function ∷ older) u h o.element (Static k) begins.shows is-there)))

  put-keeps : Keeps (local_variables S.function) level h put
  put-keeps = kept-by-arrays (local_variables S.function) level h (Static k) _

  pub put-fits : Stand S before (putting ∷ behind_put)
      → Fits S (S.function ∷ older) before (putting ∷ behind_put) level wanted (Integer o.element) u h
      (store (InObject k) (HoldsNumber (converted o.element n)) u)
  put-fits stands =
      let (old, there) = object-read S older k o u h e one begins.shows in
      let rest = converted-fits S site older level x n (before ++ putting ∷ []) changed put
      (put-keeps.function ∙ begins.function) put-shows room at_x o.element block wanted
      (stand-back S before (putting ∷ []) behind_put stands) may in
      subst (λ (m : Option ℤ). Fits S (S.function ∷ older) before (putting ∷ behind_put) level wanted
      (Integer o.element) u h (element_written (Static k) (pos 0) (HoldsNumber (converted o.element n)) u m)) (sym
      there) (
        follows-behind S (S.function ∷ older) before (putting ∷ []) behind_put level wanted (Integer o.element) u
            changed
            h put [] (Gives (HoldsNumber (converted o.element n)) changed) put-keeps (sym (append-nil u.visits))
            (λ outcome r. put-step S site before h begins.function (bits_of o.element) k x u.turns n old elements
            outcome
            (stand-front S before (putting ∷ []) behind_put stands) at_x
            (λ go. arrays-reached S.program (S.function ∷ older) u (behind before h) o.element (Static k)
            (turns-free S.program (S.function ∷ older) u h u.turns u.visits (open_after 0 before)
            (length (ops_in before)) begins.shows) is-there no-null go) there r) rest.0,
        tt,
      )

-- a number, however it is made, is assigned to an object
pub object-assigned : (S : Site) → IsSite S → (k : ℕ) (o : StaticObject) → slice_get S.program.objects k ≡ Some o
    → length o.elements ≡ 1 → (a : Part) (run : source.State → Evaluated Held) (w : IntegerType) → Lowers S a run
    → a.of ≡ Integer w → ((s : source.State) → (state_of (run s)).turns ≤ s.turns) → 1 ≤ a.levels
    → Lowers S (assigned_object (context_of S) o.element k a)
    (λ s. and_then (run s) (λ v t. store (InObject k) (source.in_type (Integer o.element) v) t))
object-assigned S site k o e one a run w lowers of falls some =
    compound-lowers S (assigned_object (context_of S) o.element k a) _ refl refl
    (λ older block level wanted before s g stands room may b.
    behind-number S older level before ((operand (context_of S) true a).lines block level)
    (Emit (op.Put (bits_of o.element) k ((operand (context_of S) true a).spot level).number)
    ∷ converted_lines (context_of S) (block + (operand (context_of S) true a).blocks) level wanted o.element
    ((operand (context_of S) true a).spot level).number) wanted (Integer o.element)
    ((operand (context_of S) true a).spot level) s g (run s)
    (λ v t. store (InObject k) (source.in_type (Integer o.element) v) t) b (falls s)
    (number-operand S older a run w lowers of block level before s g
    (stand-front S before ((operand (context_of S) true a).lines block level) _ stands) room b)
    (λ n t h at begins. put-fits S site older k o e one (before ++ (operand (context_of S) true a).lines block level)
    t h
    begins level ((operand (context_of S) true a).spot level).number n at
    (levels-below level a.levels (levels_of S.function) room some)
    (block + (operand (context_of S) true a).blocks) wanted may
    (stand-back S before ((operand (context_of S) true a).lines block level) _ stands)))

pub objects-assigned : ObjectsAreAssigned
objects-assigned S site k o e one value w lowers of =
    object-assigned S site k o e one (part_of (context_of S) value) (evaluate S.calls value) w lowers of
    (turns-fall S site value) (levels-one (context_of S) value)

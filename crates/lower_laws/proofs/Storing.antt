-- What goes into a pointer: another pointer, or a number, which is the null constant; and assignments to locals that
-- are pointers.
use Rattle.std.proofs.Common.{◌≡◌, ℕ, ◌+◌, ◌<◌, ◌≤◌, pos, List, [], ◌∷◌, ◌++◌, Option, Some, inl, inr}
use Rattle.std.proofs.Common.{refl, sym, subst, arith, append-nil, append_assoc}
use Rattle.std.specs.Prelude.{slice_get, IsSomeAnd}
use Rattle.pcc_base.specs.Outcome.{Null, Number}
use Rattle.c_eval_laws.specs.Bounds.{state_of}
use Rattle.c_tree.specs.declared.types.IntegerType.{IntegerType}
use Rattle.c_tree.specs.declared.types.ValueType.{ValueType}
use Rattle.c_tree.specs.declared.types.ValueType.TheVariants.{Integer, Pointer}
use Rattle.c_tree.specs.Evaluation.{evaluate}
use Rattle.c_tree.specs.Program.{Local, Function}
use Rattle.c_tree.specs.Store as source
use Rattle.c_tree.specs.Store.{Evaluated, Gives, Ends, Held, HoldsNumber, HoldsPointer, and_then, held, with_local}
use Rattle.flow_graph.specs.declared.op.Op.TheVariants as op
use Rattle.flow_graph.specs.States as graph
use Rattle.flow_graph.specs.States.{with_value}
use Rattle.lower_lines.specs.Expressions.{assigned_local, cast_part, local_part, part_of, stored_lines}
use Rattle.lower_lines.specs.Following.{Begins, Comes, GivesOf, GoesInto, IsSite, Lowers, MayWant, Site, Stand}
use Rattle.lower_lines.specs.Following.{behind, context_of}
use Rattle.lower_lines.specs.Lines.{Line, Emit}
use Rattle.lower_lines.specs.Parts.{Wanted, Dropped, Own, ToLocal, Tests, Part, as_pointer, in_type, null_lines}
use Rattle.lower_lines.specs.Relation.{IsOf}
use Rattle.lower_lines.specs.Variables.{Spot, levels_of, local_variables}
use Rattle.lower_lines.proofs.Changes.{kept-none}
use Rattle.lower_lines.proofs.Steps.{const-step, jump-step}
use Rattle.lower_laws.proofs.Assigning.{held-set}
use Rattle.lower_laws.proofs.Binary.{Fits, compound-lowers, turns-fall}
use Rattle.lower_laws.proofs.Converting.{as_type, behind-part, lowers-fit}
use Rattle.lower_laws.proofs.Going.{Goes, stand-back, stand-front}
use Rattle.lower_laws.proofs.Levels.{levels-one, levels-below}
use Rattle.lower_laws.proofs.Made.{start-stands}
use Rattle.lower_laws.proofs.Pairs.{Falls}
use Rattle.lower_laws.proofs.Making.{MayHold, pointer-made, put}
use Rattle.lower_laws.proofs.Moving.{pointers-read}
use Rattle.lower_laws.specs.PointersLaws.{GoesToPointer, PointersAreAssigned, PointersConvert}

-- ---- the null pointer

abbrev null_ops : Spot → List Line
null_ops to = Emit (op.Const to.array (pos 0)) ∷ Emit (op.Const to.number (pos 0)) ∷ []

null-goes : (S : Site) (site : IsSite S) (before : List Line) (g : graph.State) (turns level : ℕ) (to : Spot)
    → g.current.function ≡ S.number → MayHold S level to → Stand S before (null_ops to)
    → Goes S turns (behind before g) turns (behind (before ++ null_ops to) (put to Null (pos 0) g)) []
null-goes S site before g turns level to fits takes stands o r =
    let first = Emit (op.Const to.array (pos 0)) in
    let second = Emit (op.Const to.number (pos 0)) in
    const-step S site before g fits to.array (pos 0) turns o
    (stand-front S before (first ∷ []) (second ∷ []) stands) takes.array
    (const-step S site (before ++ first ∷ []) (with_value to.array (Number (pos 0)) g) fits to.number (pos 0) turns o
    (stand-back S before (first ∷ []) (second ∷ []) stands) takes.number
    (subst (λ (ls : List Line). Comes S turns (behind ls (put to Null (pos 0) g)) o)
    (sym (append_assoc before (first ∷ []) (second ∷ []))) r))

null-fits : (S : Site) (site : IsSite S) (older : List Function) (t : IntegerType) (level : ℕ) (wanted : Wanted)
    (before : List Line) (s : source.State) (g : graph.State) → Stand S before (null_lines (context_of S) level wanted)
    → level < levels_of S.function → MayWant S wanted (Pointer t) → Begins S (S.function ∷ older) s g
    → Fits S (S.function ∷ older) before (null_lines (context_of S) level wanted) level wanted (Pointer t) s g
    (Gives (HoldsPointer Null (pos 0)) s)
null-fits S site older t level Dropped before s g stands room may b = (
  (
    g,
    [],
    b.shows,
    kept-none (local_variables S.function) level g,
    tt,
    sym (append-nil s.visits),
    λ o c. subst (λ (ls : List Line). Comes S s.turns (behind ls g) o) (append-nil before) c,
  ),
  tt,
)
null-fits S site older t level Own before s g stands room may b = (
  pointer-made S site older level before s s g g t Null (pos 0) [] null_ops room b.shows b.function
      (kept-none (local_variables S.function) level g) (sym (append-nil s.visits)) tt
      (λ to takes here. null-goes S site before g s.turns level to b.function takes here) 0 Own stands may,
  tt,
)
null-fits S site older t level (ToLocal k) before s g stands room may b = (
  pointer-made S site older level before s s g g t Null (pos 0) [] null_ops room b.shows b.function
      (kept-none (local_variables S.function) level g) (sym (append-nil s.visits)) tt
      (λ to takes here. null-goes S site before g s.turns level to b.function takes here) 0 (ToLocal k) stands may,
  tt,
)
null-fits S site older t level (Tests yes' no') before s g stands room may b =
    let (other, starts) = start-stands S no' may.2 in (
      (
        g,
        [],
        b.shows,
        kept-none (local_variables S.function) level g,
        tt,
        sym (append-nil s.visits),
        λ o c. jump-step S site before g b.function no' s.turns o other stands starts c,
      ),
      tt,
    )

-- ---- a value that goes to a pointer

same-part : (S : Site) (t : IntegerType) (of : ValueType) (a : Part) → of ≡ Pointer t
    → as_pointer (context_of S) t of a ≡ a
same-part S t of a e =
    subst (λ (p : ValueType). as_pointer (context_of S) t p a ≡ a) (sym e) refl

-- every pointer is one in its type
pointer-same : (S : Site) (active : List Function) (t : IntegerType) (r : Evaluated Held)
    → GivesOf S.program active (Pointer t) r → and_then r (as_type (Pointer t)) ≡ r
pointer-same S active t (Gives (HoldsPointer array index) s) typed = refl
pointer-same S active t (Gives (HoldsNumber n) s) typed = absurd typed
pointer-same S active t (Ends end s) typed = refl

module _ (S : Site) (site : IsSite S) (older : List Function) (t : IntegerType) (a : Part)
    (run : source.State → Evaluated Held) (la : Lowers S a run) (one : 1 ≤ a.levels) (falls : Falls run) where
  abbrev Fit : Part → Type 0
  Fit part = (block level : ℕ) (wanted : Wanted) (before : List Line) (s : source.State) (g : graph.State)
      → Stand S before (part.lines block level wanted) → level + part.levels ≤ levels_of S.function
      → MayWant S wanted (Pointer t) → Begins S (S.function ∷ older) s g
      → Fits S (S.function ∷ older) before (part.lines block level wanted) level wanted (Pointer t) s g
      (and_then (run s) (as_type (Pointer t)))

  number-fits : (u : IntegerType) → a.of ≡ Integer u → Fit (as_pointer (context_of S) t (Integer u) a)
  number-fits u of block level wanted before s g stands room may b =
      behind-part S older level before (a.lines block level Dropped) (null_lines (context_of S) level wanted) Dropped
      (Integer u) wanted (Pointer t) s g (run s) (as_type (Pointer t)) tt b (falls s)
      (subst (λ (p : ValueType). Fits S (S.function ∷ older) before (a.lines block level Dropped) level Dropped p s g
      (run s)) of
      (lowers-fit S a run la (S.function ∷ older) block level Dropped before s g
      (stand-front S before (a.lines block level Dropped) (null_lines (context_of S) level wanted) stands) room tt b))
      (λ v w h typed holds begins keeps. rest v w h typed begins)
    where
      rest : (v : Held) (w : source.State) (h : graph.State) → IsOf S.program (S.function ∷ older) (Integer u) v
          → Begins S (S.function ∷ older) w h
          → Fits S (S.function ∷ older) (before ++ a.lines block level Dropped)
          (null_lines (context_of S) level wanted) level wanted (Pointer t) w h (as_type (Pointer t) v w)
      rest (HoldsNumber n) w h typed begins =
          null-fits S site older t level wanted (before ++ a.lines block level Dropped) w h
          (stand-back S before (a.lines block level Dropped) (null_lines (context_of S) level wanted) stands)
          (levels-below level a.levels (levels_of S.function) room one) may begins
      rest (HoldsPointer array index) w h typed begins = absurd typed

  pointer-fits : a.of ≡ Pointer t → Fit a
  pointer-fits of block level wanted before s g stands room may b =
      let fits = subst (λ (p : ValueType). Fits S (S.function ∷ older) before
      (a.lines block level wanted) level wanted p s g (run s)) of
      (lowers-fit S a run la (S.function ∷ older) block level wanted before s g stands room
      (subst (λ (p : ValueType). MayWant S wanted p) (sym of) may) b) in
      subst (λ (r : Evaluated Held). Fits S (S.function ∷ older) before (a.lines block level wanted) level wanted
      (Pointer t) s g r) (sym (pointer-same S (S.function ∷ older) t (run s) fits.1)) fits

  pub in_pointer-fits : GoesToPointer t a.of → Fit (in_type (context_of S) (Pointer t) a)
  in_pointer-fits (inl of) =
      subst (λ (p : Part). Fit p) (sym (same-part S t a.of a of)) (pointer-fits of)
  in_pointer-fits (inr (u, of)) =
      subst (λ (p : ValueType). Fit (as_pointer (context_of S) t p a)) (sym of) (number-fits u of)

pub pointers-convert : PointersConvert
pointers-convert S site t e lowers goes =
    compound-lowers S (cast_part (context_of S) (Pointer t) (part_of (context_of S) e)) _ refl refl
    (λ older. in_pointer-fits S site older t (part_of (context_of S) e) (evaluate S.calls e) lowers
    (levels-one (context_of S) e) (turns-fall S site e) goes)

-- ---- assignments to a local

-- what an assignment does with its value
abbrev pub assigning : IntegerType → ℕ → Held → source.State → Evaluated Held
assigning t k v s = Gives (source.in_type (Pointer t) v) (with_local k (source.in_type (Pointer t) v) s)

-- what it does with a value of its type
abbrev storing : ℕ → Held → source.State → Evaluated Held
storing k v s = Gives v (with_local k v s)

assigning-same : (t : IntegerType) (k : ℕ) (r : Evaluated Held)
    → and_then (and_then r (as_type (Pointer t))) (storing k) ≡ and_then r (assigning t k)
assigning-same t k (Gives v s) = refl
assigning-same t k (Ends end s) = refl

type-falls : (t : IntegerType) (turns : ℕ) (r : Evaluated Held) → (state_of r).turns ≤ turns
    → (state_of (and_then r (as_type (Pointer t)))).turns ≤ turns
type-falls t turns (Gives v s) fall = fall
type-falls t turns (Ends end s) fall = fall

-- it is read again, where it is wanted
module _ (S : Site) (site : IsSite S) (older : List Function) (k : ℕ) (l : Local) (t : IntegerType)
    (e : slice_get S.function.locals k ≡ Some l) (of : l.of ≡ Pointer t) (block level : ℕ) (before : List Line)
    (s : source.State) (g : graph.State) (v : Held) (room : level + 1 ≤ levels_of S.function)
    (b : Begins S (S.function ∷ older) s g) (is : held s k ≡ v) where
  read-again : (wanted : Wanted) → Stand S before ((local_part (context_of S) (Pointer t) k).lines block level wanted)
      → MayWant S wanted (Pointer t)
      → Fits S (S.function ∷ older) before ((local_part (context_of S) (Pointer t) k).lines block level wanted) level
      wanted (Pointer t) s g (Gives v s)
  read-again wanted stands may =
      subst (λ (x : Held). Fits S (S.function ∷ older) before
      ((local_part (context_of S) (Pointer t) k).lines block level wanted) level wanted (Pointer t) s g (Gives x s)) is
      (lowers-fit S (local_part (context_of S) (Pointer t) k) (λ w. Gives (held w k) w)
      (pointers-read S site k l t e of) (S.function ∷ older) block level wanted before s g stands room may b)

  stored-fits : (wanted : Wanted) → Stand S before (stored_lines (context_of S) block level wanted (Pointer t) k)
      → MayWant S wanted (Pointer t) → IsOf S.program (S.function ∷ older) (Pointer t) v
      → Fits S (S.function ∷ older) before (stored_lines (context_of S) block level wanted (Pointer t) k) level wanted
      (Pointer t) s g (Gives v s)
  stored-fits Dropped stands may typed = (
    (
      g,
      [],
      b.shows,
      kept-none (local_variables S.function) level g,
      tt,
      sym (append-nil s.visits),
      λ o c. subst (λ (ls : List Line). Comes S s.turns (behind ls g) o) (append-nil before) c,
    ),
    typed,
  )
  stored-fits Own stands may typed = read-again Own stands may
  stored-fits (ToLocal j) stands may typed = read-again (ToLocal j) stands may
  stored-fits (Tests yes' no') stands may typed = read-again (Tests yes' no') stands may

level-one : (S : Site) (t : IntegerType) (a : Part) → 1 ≤ a.levels → GoesToPointer t a.of
    → 1 ≤ (in_type (context_of S) (Pointer t) a).levels
level-one S t a one (inl of) = subst (λ (p : Part). 1 ≤ p.levels) (sym (same-part S t a.of a of)) one
level-one S t a one (inr (u, of)) =
    subst (λ (p : ValueType). 1 ≤ (as_pointer (context_of S) t p a).levels) (sym of) one

up-one : (level levels top : ℕ) → level + levels ≤ top → 1 ≤ levels → level + 1 ≤ top
up-one level levels top h one = omega (arith, h, one)

module _ (S : Site) (site : IsSite S) (k : ℕ) (l : Local) (t : IntegerType)
    (e : slice_get S.function.locals k ≡ Some l) (of : l.of ≡ Pointer t) (a : Part)
    (run : source.State → Evaluated Held) (la : Lowers S a run) (goes : GoesToPointer t a.of) (one : 1 ≤ a.levels)
    (falls : Falls run) where
  abbrev value : Part
  value = in_type (context_of S) (Pointer t) a

  by : (older : List Function) (block level : ℕ) (wanted : Wanted) (before : List Line) (s : source.State)
      (g : graph.State)
      → Stand S before (value.lines block level (ToLocal k)
      ++ stored_lines (context_of S) (block + value.blocks (ToLocal k)) level wanted (Pointer t) k)
      → level + value.levels ≤ levels_of S.function → MayWant S wanted (Pointer t)
      → Begins S (S.function ∷ older) s g
      → Fits S (S.function ∷ older) before (value.lines block level (ToLocal k)
      ++ stored_lines (context_of S) (block + value.blocks (ToLocal k)) level wanted (Pointer t) k) level wanted
      (Pointer t) s g (and_then (run s) (assigning t k))
  by older block level wanted before s g stands room may b =
      let front = value.lines block level (ToLocal k) in
      let back = stored_lines (context_of S) (block + value.blocks (ToLocal k)) level wanted (Pointer t) k in
      subst (λ (r : Evaluated Held). Fits S (S.function ∷ older) before (front ++ back) level wanted (Pointer t) s g
      r) (assigning-same t k (run s))
      (behind-part S older level before front back (ToLocal k) (Pointer t) wanted (Pointer t) s g
      (and_then (run s) (as_type (Pointer t))) (storing k) tt b (type-falls t s.turns (run s) (falls s))
      (in_pointer-fits S site older t a run la one falls goes block level (ToLocal k) before s g
      (stand-front S before front back stands) room
      (subst (λ (o : Option Local). IsSomeAnd o (λ m. GoesInto (Pointer t) m.of)) (sym e)
      (subst (λ (p : ValueType). GoesInto (Pointer t) p) (sym of) refl)) b)
      (λ v w h typed holds begins keeps. stored-fits S site older k l t e of (block + value.blocks (ToLocal k)) level
      (before ++ front) (with_local k v w) h v
      (up-one level value.levels (levels_of S.function) room (level-one S t a one goes)) begins
      (held-set S.program S.function older k l v w h e begins.shows) wanted (stand-back S before front back stands)
      may typed))

  pub assigned-lowers : Lowers S (assigned_local (context_of S) (Pointer t) k a)
      (λ s. and_then (run s) (assigning t k))
  assigned-lowers = compound-lowers S (assigned_local (context_of S) (Pointer t) k a) _ refl refl by

pub pointers-assigned : PointersAreAssigned
pointers-assigned S site k l t there of e lowers goes =
    let h = assigned-lowers S site k l t there of (part_of (context_of S) e) (evaluate S.calls e) lowers goes
    (levels-one (context_of S) e) (turns-fall S site e) in h

-- A pointer that is delivered where it is wanted, and `++` and `--` of locals that are pointers.
use Rattle.std.proofs.Common.{◌≡◌, ℕ, suc, ◌+◌, ◌<◌, ◌≤◌, ℤ, pos, List, [], ◌∷◌, ◌++◌, max, Some, inl, refl, sym}
use Rattle.std.proofs.Common.{◌∙◌, subst, arith, append-nil}
use Rattle.std.specs.Prelude.{slice_get}
use Rattle.pcc_base.specs.Outcome.{ArrayName}
use Rattle.c_tree.specs.declared.expression.StepOp.{StepOp}
use Rattle.c_tree.specs.declared.expression.StepOp.TheVariants.{PreIncrement, PreDecrement, PostIncrement}
use Rattle.c_tree.specs.declared.expression.StepOp.TheVariants.{PostDecrement}
use Rattle.c_tree.specs.declared.types.IntegerType.{IntegerType}
use Rattle.c_tree.specs.declared.types.IntegerType.TheVariants.{Int}
use Rattle.c_tree.specs.declared.types.ValueType.TheVariants.{Pointer}
use Rattle.c_tree.specs.Evaluation.{InLocal, updated}
use Rattle.c_tree.specs.Operators.{step_op}
use Rattle.c_tree.specs.Program.{Local, Function}
use Rattle.c_tree.specs.Store as source
use Rattle.c_tree.specs.Store.{Evaluated, Gives, Ends, Held, HoldsNumber, HoldsPointer, and_then, held}
use Rattle.c_tree.specs.WellTyped.{MovesPointer}
use Rattle.flow_graph.specs.States as graph
use Rattle.lower_lines.specs.Expressions.{AtLocal, local_part, one_part, stepped_after, stepped_lines, update_part}
use Rattle.lower_lines.specs.Following.{Begins, Comes, IsSite, Lowers, MayWant, Site, Stand, behind, context_of}
use Rattle.lower_lines.specs.Lines.{Line}
use Rattle.lower_lines.specs.Parts.{Wanted, Dropped, Own, ToLocal, Tests, Part, compound, delivered, made}
use Rattle.lower_lines.specs.Parts.{tested_blocks}
use Rattle.lower_lines.specs.Relation.{HoldsAt, IsArrayOf, IsOf, Shows}
use Rattle.lower_lines.specs.Variables.{Spot, levels_of, local_variables, moved, own}
use Rattle.lower_lines.proofs.Changes.{kept-below, kept-none}
use Rattle.lower_laws.proofs.Atoms.{constants-lower}
use Rattle.lower_laws.proofs.Binary.{Fits, compound-lowers}
use Rattle.lower_laws.proofs.Converting.{begins-again, lowers-fit}
use Rattle.lower_laws.proofs.Going.{stand-back, stand-front}
use Rattle.lower_laws.proofs.Stepping.{lowers-same}
use Rattle.lower_laws.proofs.Unary.{follows-behind}
use Rattle.lower_laws.proofs.Both.{Placed, local-holds, own-again, pointer-not-void}
use Rattle.lower_laws.proofs.Making.{pointer-made}
use Rattle.lower_laws.proofs.Moving.{pointer-moved, pointers-read}
use Rattle.lower_laws.proofs.Summing.{index-apart, scratch-apart}
use Rattle.lower_laws.proofs.Testing.{pointer-tested}
use Rattle.lower_laws.proofs.PointersUpdating.{update-lowers, updating}
use Rattle.lower_laws.specs.PointersLaws.{PointersAreStepped}
use Rattle.lower_laws.proofs.Levels.{first-room, second-room}

-- ---- a pointer that stands somewhere

module _ (S : Site) (site : IsSite S) (older : List Function) (level other : ℕ) (before : List Line) (t : source.State)
    (g : graph.State) (fits : g.current.function ≡ S.number) (shows : Shows S.program (S.function ∷ older) t g)
    (room : level < levels_of S.function) (element : IntegerType) (array : ArrayName) (index : ℤ) (x : Spot)
    (holds : HoldsAt g.current.variables (Pointer element) x (HoldsPointer array index))
    (is : IsArrayOf S.program (S.function ∷ older) element array) (px : Placed S other (Pointer element) x) where
  copied-fits : (block : ℕ) (wanted : Wanted) (lines : List Line)
      → made (context_of S) block level wanted (Pointer element) (λ to. moved (Pointer element) to x) ≡ lines
      → Stand S before lines → MayWant S wanted (Pointer element)
      → Fits S (S.function ∷ older) before lines level wanted (Pointer element) t g (Gives (HoldsPointer array index) t)
  copied-fits block wanted lines same stands may =
      subst (λ (ls : List Line). Fits S (S.function ∷ older) before ls level wanted (Pointer element) t g
      (Gives (HoldsPointer array index) t)) same (
        pointer-made S site older level before t t g g element array index [] (λ to. moved (Pointer element) to x) room
            shows fits (kept-none (local_variables S.function) level g) (sym (append-nil t.visits)) is
            (λ to takes here. pointer-moved S site before g element to x t.turns array index fits holds.0 holds.1
            (index-apart S level other element to x takes.place px) here) block wanted
            (subst (λ (ls : List Line). Stand S before ls) (sym same) stands) may,
        is,
      )

  -- whatever is wanted of it
  pub delivered-fits : (block : ℕ) (wanted : Wanted)
      → Stand S before (delivered (context_of S) block level wanted (Pointer element) x)
      → MayWant S wanted (Pointer element)
      → Fits S (S.function ∷ older) before (delivered (context_of S) block level wanted (Pointer element) x) level
      wanted (Pointer element) t g (Gives (HoldsPointer array index) t)
  delivered-fits block Dropped stands may = (
    (
      g,
      [],
      shows,
      kept-none (local_variables S.function) level g,
      tt,
      sym (append-nil t.visits),
      λ o c. subst (λ (ls : List Line). Comes S t.turns (behind ls g) o) (append-nil before) c,
    ),
    is,
  )
  delivered-fits block Own stands may = copied-fits block Own _ (append-nil _) stands may
  delivered-fits block (ToLocal j) stands may = copied-fits block (ToLocal j) _ (append-nil _) stands may
  delivered-fits block (Tests yes' no') stands may =
      let apart = scratch-apart S level other element x px in (
        pointer-tested S site older level before t g fits shows room array index x holds.0 holds.1 apart.0 apart.1 block
            yes' no' stands may.1 may.2 element,
        is,
      )

-- ---- steps

step-moves : (operator : StepOp) → MovesPointer (step_op operator)
step-moves PreIncrement = tt
step-moves PreDecrement = tt
step-moves PostIncrement = tt
step-moves PostDecrement = tt

-- what the assignment that a step is does
abbrev new_given : IntegerType → StepOp → ℕ → source.State → Evaluated Held
new_given t operator k s = updated (Pointer t) Int (step_op operator) (InLocal k) (held s k) (HoldsNumber (pos 1)) s

-- lines after which an old value is given in place of the new one
abbrev old_given : IntegerType → StepOp → ℕ → Held → source.State → Evaluated Held
old_given t operator k v s = and_then (new_given t operator k s) (λ new u. Gives v u)

same-room : (level j top : ℕ) → suc level + j ≤ top → level + j ≤ top
same-room level j top h = omega (arith, h)

below-top : (level j top : ℕ) → suc level + j ≤ top → level < top
below-top level j top h = omega (arith, h)

module _ (S : Site) (site : IsSite S) (k : ℕ) (l : Local) (t : IntegerType)
    (e : slice_get S.function.locals k ≡ Some l) (of : l.of ≡ Pointer t) (operator : StepOp) where
  abbrev update : Part
  update = update_part (context_of S) (Pointer t) (step_op operator) (AtLocal k) (one_part (context_of S))

  abbrev name : Part
  name = local_part (context_of S) (Pointer t) k

  update-does : Lowers S update (new_given t operator k)
  update-does =
      lowers-same S update (updating t (step_op operator) k (λ s. Gives (HoldsNumber (pos 1)) s))
      (new_given t operator k) (λ s. refl)
      (update-lowers S site (step_op operator) (step-moves operator) k l t e of (one_part (context_of S))
      (λ s. Gives (HoldsNumber (pos 1)) s) Int (constants-lower S site Int (pos 1)) refl (λ s. omega arith))

  keep-new : (r : Evaluated Held) → r ≡ and_then r (λ v u. Gives v u)
  keep-new (Gives v u) = refl
  keep-new (Ends end u) = refl

  -- before its value is used
  pub before-lowers : Lowers S (compound (Pointer t) update.levels update.blocks update.lines)
      (λ s. and_then (new_given t operator k s) (λ v u. Gives v u))
  before-lowers =
      lowers-same S (compound (Pointer t) update.levels update.blocks update.lines) (new_given t operator k) _
      (λ s. keep-new (new_given t operator k s)) update-does

  -- ---- after it

  module _ (older : List Function) where
    abbrev Fit : List Line → List Line → ℕ → Wanted → source.State → graph.State → Evaluated Held → Type 0
    Fit before lines level wanted s g r =
        Fits S (S.function ∷ older) before lines level wanted (Pointer t) s g r

    new-fits : (block level : ℕ) (wanted : Wanted) (before : List Line) (s : source.State) (g : graph.State)
        → Stand S before (update.lines block level wanted) → level + update.levels ≤ levels_of S.function
        → MayWant S wanted (Pointer t) → Begins S (S.function ∷ older) s g
        → Fit before (update.lines block level wanted) level wanted s g (new_given t operator k s)
    new-fits block level wanted before s g stands room may b =
        lowers-fit S update (new_given t operator k) update-does (S.function ∷ older) block level wanted before s g
        stands room may b

    name-fits : (block level : ℕ) (wanted : Wanted) (before : List Line) (s : source.State) (g : graph.State)
        → Stand S before (name.lines block level wanted) → level + name.levels ≤ levels_of S.function
        → MayWant S wanted (Pointer t) → Begins S (S.function ∷ older) s g
        → Fit before (name.lines block level wanted) level wanted s g (Gives (held s k) s)
    name-fits block level wanted before s g stands room may b =
        lowers-fit S name (λ u. Gives (held u k) u) (pointers-read S site k l t e of) (S.function ∷ older) block level
        wanted before s g stands room may b

    -- the value is another one, which nobody wants
    dropped-old : (before lines : List Line) (level : ℕ) (s : source.State) (g : graph.State) (r : Evaluated Held)
        (v : Held) → IsOf S.program (S.function ∷ older) (Pointer t) v → Fit before lines level Dropped s g r
        → Fit before lines level Dropped s g (and_then r (λ new u. Gives v u))
    dropped-old before lines level s g (Ends end u) v is (ends, typed) = (ends, tt)
    dropped-old before lines level s g (Gives new u) v is (follows, typed) = (follows, is)

    behind-new : (block level : ℕ) (wanted : Wanted) (before : List Line) (s : source.State) (g : graph.State)
        (array : ArrayName) (index : ℤ) (r : Evaluated Held) → level < levels_of S.function
        → MayWant S wanted (Pointer t) → g.current.function ≡ S.number
        → HoldsAt g.current.variables (Pointer t) (own (context_of S) level) (HoldsPointer array index)
        → IsArrayOf S.program (S.function ∷ older) t array
        → Stand S before (update.lines block (suc level) Dropped
        ++ delivered (context_of S) (block + update.blocks Dropped) level wanted (Pointer t) (own (context_of S) level))
        → Fit before (update.lines block (suc level) Dropped) (suc level) Dropped s g r
        → Fit before (update.lines block (suc level) Dropped
        ++ delivered (context_of S) (block + update.blocks Dropped) level wanted (Pointer t) (own (context_of S) level))
        level wanted s g (and_then r (λ new u. Gives (HoldsPointer array index) u))
    behind-new block level wanted before s g array index (Ends end u) room may fits holds is stands (ends, typed) =
        (ends, tt)
    behind-new block level wanted before s g array index (Gives new u) room may fits holds is stands
        ((h, us, shows, keeps, nothing, seen, goes), typed) =
        let ups = update.lines block (suc level) Dropped in
        let last = delivered (context_of S) (block + update.blocks Dropped) level wanted (Pointer t)
        (own (context_of S) level) in
        let rest = delivered-fits S site older level level (before ++ ups) u h (keeps.function ∙ fits) shows room t
        array index (own (context_of S) level)
        (own-again S level g h (Pointer t) (HoldsPointer array index) keeps holds) is (inl refl)
        (block + update.blocks Dropped) wanted (stand-back S before ups last stands) may in (
          follows-behind S (S.function ∷ older) before ups last level wanted (Pointer t) s u g h us
              (Gives (HoldsPointer array index) u)
              (kept-below (local_variables S.function) level (suc level) g h (omega arith) keeps) seen goes rest.0,
          is,
        )

    behind-old : (block level : ℕ) (wanted : Wanted) (before : List Line) (s : source.State) (g : graph.State)
        (v : Held) → Stand S before (stepped_after (context_of S) (Pointer t) name update block level wanted)
        → suc level + update.levels ≤ levels_of S.function → MayWant S wanted (Pointer t)
        → Begins S (S.function ∷ older) s g → Fit before (name.lines block level Own) level Own s g (Gives v s)
        → Fit before (stepped_after (context_of S) (Pointer t) name update block level wanted) level wanted s g
        (old_given t operator k v s)
    behind-old block level wanted before s g (HoldsNumber n) stands room may b (follows, typed) = absurd typed
    behind-old block level wanted before s g (HoldsPointer array index) stands room may b
        ((h, us, shows, keeps, holds, seen, goes), typed) =
        let xs = name.lines block level Own in
        let ys = update.lines block (suc level) Dropped
        ++ delivered (context_of S) (block + update.blocks Dropped) level wanted (Pointer t)
        (own (context_of S) level) in
        let again = begins-again S older s s g h level b shows keeps (omega arith) in
        let behind_name = stand-back S before xs ys stands in
        let rest = behind-new block level wanted (before ++ xs) s h array index (new_given t operator k s)
        (below-top level update.levels (levels_of S.function) room) may again.function holds typed behind_name
        (new-fits block (suc level) Dropped (before ++ xs) s h
        (stand-front S (before ++ xs) (update.lines block (suc level) Dropped) _ behind_name) room tt again) in (
          follows-behind S (S.function ∷ older) before xs ys level wanted (Pointer t) s s g h us
              (old_given t operator k (HoldsPointer array index) s) keeps seen goes rest.0,
          rest.1,
        )

    by-after : (block level : ℕ) (wanted : Wanted) (before : List Line) (s : source.State) (g : graph.State)
        → Stand S before (stepped_after (context_of S) (Pointer t) name update block level wanted)
        → level + max name.levels (suc update.levels) ≤ levels_of S.function → MayWant S wanted (Pointer t)
        → Begins S (S.function ∷ older) s g
        → Fit before (stepped_after (context_of S) (Pointer t) name update block level wanted) level wanted s g
        (old_given t operator k (held s k) s)
    by-after block level wanted before s g stands room may b =
        behind-old block level wanted before s g (held s k) stands
        (second-room level name.levels update.levels (levels_of S.function) room) may b
        (name-fits block level Own before s g (stand-front S before (name.lines block level Own) _ stands)
        (first-room level name.levels update.levels (levels_of S.function) room) (pointer-not-void t) b)

    after-fits : (block level : ℕ) (wanted : Wanted) (before : List Line) (s : source.State) (g : graph.State)
        → Stand S before (stepped_lines (context_of S) (Pointer t) name update block level wanted)
        → level + max name.levels (suc update.levels) ≤ levels_of S.function → MayWant S wanted (Pointer t)
        → Begins S (S.function ∷ older) s g
        → Fit before (stepped_lines (context_of S) (Pointer t) name update block level wanted) level wanted s g
        (old_given t operator k (held s k) s)
    after-fits block level Dropped before s g stands room may b =
        dropped-old before (update.lines block level Dropped) level s g (new_given t operator k s) (held s k)
        (local-holds S older k l (Pointer t) e of s g b.shows).1
        (new-fits block level Dropped before s g stands
        (same-room level update.levels (levels_of S.function)
        (second-room level name.levels update.levels (levels_of S.function) room)) tt b)
    after-fits block level Own before s g stands room may b = by-after block level Own before s g stands room may b
    after-fits block level (ToLocal j) before s g stands room may b =
        by-after block level (ToLocal j) before s g stands room may b
    after-fits block level (Tests yes' no') before s g stands room may b =
        by-after block level (Tests yes' no') before s g stands room may b

  pub after-lowers : Lowers S (compound (Pointer t) (max name.levels (suc update.levels))
      (λ wanted. update.blocks Dropped + tested_blocks wanted (Pointer t))
      (stepped_lines (context_of S) (Pointer t) name update))
      (λ s. old_given t operator k (held s k) s)
  after-lowers = compound-lowers S _ _ refl refl (λ older block level wanted before s g stands room may b.
      after-fits older block level wanted before s g stands room may b)

pub pointers-stepped : PointersAreStepped
pointers-stepped S site PreIncrement k l t e of = before-lowers S site k l t e of PreIncrement
pointers-stepped S site PreDecrement k l t e of = before-lowers S site k l t e of PreDecrement
pointers-stepped S site PostIncrement k l t e of = after-lowers S site k l t e of PostIncrement
pointers-stepped S site PostDecrement k l t e of = after-lowers S site k l t e of PostDecrement

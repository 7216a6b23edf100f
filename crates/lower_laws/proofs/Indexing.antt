-- The address of `a[i]`, where a pointer and a number are evaluated: the index moves.
use Rattle.std.proofs.Common.{◌≡◌, ◌≢◌, ◌⊎◌, ℕ, zero, suc, ◌+◌, ◌*◌, ◌<◌, ◌≤◌, Bool, true, false, ◌&&◌, ℤ, ◌+ℤ◌}
use Rattle.std.proofs.Common.{List, [], ◌∷◌, ◌++◌, max, Option, Some, None, inl, inr, refl, sym, ap, ◌∙◌, subst}
use Rattle.std.proofs.Common.{arith, append_assoc, append-nil}
use Rattle.std.proofs.lemmas.Bool.Decides.{eqb_tells}
use Rattle.std.proofs.Math.Nat.{le-max_left, le-max_right}
use Rattle.std.specs.Int.{w32, int_wrap}
use Rattle.std.specs.Prelude.{slice_get, slice_set, if◌then◌else◌, ◌==◌}
use Rattle.std.proofs.lemmas.Option.{same_Some}
use Rattle.pcc_base.specs.declared.run.Width.TheVariants.{Two}
use Rattle.pcc_base.specs.Outcome.{ArrayName, Value, Number, Visit}
use Rattle.c_eval_laws.proofs.Agreeing.{trees_keep}
use Rattle.c_eval_laws.specs.Bounds.{state_of}
use Rattle.c_tree.specs.declared.expression.BinaryOp.TheVariants.{Add}
use Rattle.c_tree.specs.declared.types.IntegerType.{IntegerType}
use Rattle.c_tree.specs.declared.types.IntegerType.TheVariants.{Int}
use Rattle.c_tree.specs.declared.types.ValueType.{ValueType}
use Rattle.c_tree.specs.declared.types.ValueType.TheVariants.{Integer, Pointer}
use Rattle.c_tree.specs.Evaluation as evaluation
use Rattle.c_tree.specs.Evaluation.{Found, InLocal, InObject, AtIndex, computed, evaluate, load, locate}
use Rattle.c_tree.specs.Operators.{binary_value}
use Rattle.c_tree.specs.Program.{Element, Function}
use Rattle.c_tree.specs.Store as source
use Rattle.c_tree.specs.Store.{Evaluated, Gives, Ends, Held, HoldsNumber, HoldsPointer, and_then}
use Rattle.flow_graph.specs.declared.op.Op.TheVariants as op
use Rattle.flow_graph.specs.States as graph
use Rattle.flow_graph.specs.States.{number_at, number_of, with_value, with_variables}
use Rattle.lower_lines.specs.Expressions.{AtAddress, array_kept, element_of, element_spot, element_sum, kept_if}
use Rattle.lower_lines.specs.Expressions.{assigned_element, part_of, read_part, target_of}
use Rattle.lower_lines.specs.Following.{Begins, Comes, FollowsPlace, IsSite, IsSteady, Lowers, Site, Stand}
use Rattle.lower_lines.specs.Following.{behind, context_of}
use Rattle.lower_lines.specs.Lines.{Line, Emit}
use Rattle.lower_lines.specs.Parts.{Part, if_stays, operand, standing}
use Rattle.lower_lines.specs.Relation.{HoldsAt, IsArrayOf, Keeps, Shows, array_value}
use Rattle.lower_lines.specs.Variables.{ForArray, ForNumber, Spot, copied, levels_of, local_variables, own, temporary}
use Rattle.lower_lines.proofs.Changes.{kept-below, kept-by-change, kept-none, kept-twice, temporaries-free}
use Rattle.lower_lines.proofs.Locals.{get-set_other, get-set_same}
use Rattle.lower_lines.proofs.Steps.{copy-step, two-step}
use Rattle.lower_laws.proofs.Atoms.{with-older}
use Rattle.lower_laws.proofs.Binary.{turns-fall}
use Rattle.lower_laws.proofs.Converting.{begins-again}
use Rattle.lower_laws.proofs.Going.{Goes, goes-end, stand-back, stand-front}
use Rattle.lower_laws.proofs.Levels.{max-behind}
use Rattle.lower_laws.proofs.Made.{variable-there}
use Rattle.lower_laws.proofs.Operands.{NumberStands, number-operand}
use Rattle.lower_laws.proofs.Pairs.{Falls, IsPlaced, goes-both, operand-placed}
use Rattle.lower_laws.proofs.Widths.{temporary-width}
use Rattle.lower_laws.proofs.PlacesAssigning.{address-stays, elements-assigned, local-spots, settled-standing}
use Rattle.lower_laws.proofs.PlacesReading.{elements-read, some-if, standing-pointer}
use Rattle.lower_laws.specs.PlacesLaws.{IndexesAreAssigned, IndexesAreRead, IndexesFollow, IsSettled}
use Rattle.lower_laws.specs.PlacesLaws.{assigned}

-- ---- copies

set-same : {A : Type 0} (xs : List A) (k : ℕ) (x : A) → slice_get xs k ≡ Some x → slice_set xs k x ≡ xs
set-same [] k x e = refl
set-same (y ∷ xs) zero x e = ap (λ z. z ∷ xs) (sym (same_Some y x e))
set-same (y ∷ xs) (suc k) x e = ap (λ zs. y ∷ zs) (set-same xs k x e)

same-state : (g : graph.State) (k : ℕ) (v : Value) → slice_get g.current.variables k ≡ Some v → with_value k v g ≡ g
same-state g k v e = ap (λ (vs : List Value). with_variables vs g) (set-same g.current.variables k v e)

pub copy-goes : (S : Site) (site : IsSite S) (before : List Line) (g : graph.State) (to from turns : ℕ) (v : Value)
    → g.current.function ≡ S.number → slice_get g.current.variables from ≡ Some v → Stand S before (copied to from)
    → Goes S turns (behind before g) turns (behind (before ++ copied to from) (with_value to v g)) []
copy-goes S site before g to from turns v fits there stands o r =
    elim (eqb_tells to from) [
      | inl same ↦ by same.0 (ap (λ (k : ℕ). slice_get g.current.variables k) same.1 ∙ there)
      | inr other ↦ copies other.0
    ]
  where
    by : (to == from) ≡ true → slice_get g.current.variables to ≡ Some v → Comes S turns (behind before g) o
    by e read =
        let nothing : before ++ copied to from ≡ before =
        ap (λ (b : Bool). before ++ (if b then [] else Emit (op.Copy to from) ∷ [])) e ∙ append-nil before in
        subst (λ (ls : List Line). Comes S turns (behind ls g) o) nothing
        (subst (λ (h : graph.State). Comes S turns (behind (before ++ copied to from) h) o) (same-state g to v read) r)

    copies : (to == from) ≡ false → Comes S turns (behind before g) o
    copies e =
        copy-step S site before g fits to from v turns o
        (subst (λ (b : Bool). Stand S before (if b then [] else Emit (op.Copy to from) ∷ [])) e stands) there
        (subst (λ (b : Bool). Comes S turns (behind (before ++ (if b then [] else Emit (op.Copy to from) ∷ []))
        (with_value to v g)) o) e r)

-- ---- places behind lines

pub place-behind : (S : Site) (active : List Function) (before xs ys : List Line) (level : ℕ) (t : IntegerType)
    (spot : Spot) (s u : source.State) (g h : graph.State) (us : List Visit) (r : Evaluated Found)
    → Keeps (local_variables S.function) level g h → u.visits ≡ s.visits ++ us
    → Goes S s.turns (behind before g) u.turns (behind (before ++ xs) h) us
    → FollowsPlace S active (before ++ xs) ys level t spot u h r
    → FollowsPlace S active before (xs ++ ys) level t spot s g r
place-behind S active before xs ys level t spot s u g h us (Ends end w) keeps seen goes ends =
    goes-end S end s u w (behind before g) (behind (before ++ xs) h) us seen goes ends
place-behind S active before xs ys level t spot s u g h us (Gives (InLocal k) w) keeps seen goes f = absurd f
place-behind S active before xs ys level t spot s u g h us (Gives (InObject k) w) keeps seen goes f = absurd f
place-behind S active before xs ys level t spot s u g h us (Gives (AtIndex array index) w) keeps seen goes
    (i, vs, shows, kept, holds, is, more, on) = (
      i,
      us ++ vs,
      shows,
      kept-twice (local_variables S.function) level g h i keeps kept,
      holds,
      is,
      more ∙ ap (λ (ws : List Visit). ws ++ vs) seen ∙ append_assoc s.visits us vs,
      goes-both S s.turns u.turns w.turns g h i before xs ys us vs goes on,
    )

-- ---- the sum

module _ (S : Site) (site : IsSite S) (older : List Function) (t : IntegerType) (level : ℕ) (before : List Line)
    (z : source.State) (i : graph.State) (fits : i.current.function ≡ S.number)
    (shows : Shows S.program (S.function ∷ older) z i) (room : level < levels_of S.function) (array : ArrayName)
    (index : ℤ) (x : Spot) (holds : HoldsAt i.current.variables (Pointer t) x (HoldsPointer array index))
    (is : IsArrayOf S.program (S.function ∷ older) t array) (y : ℕ) (m : ℤ) (at_y : number_at i y ≡ Some m)
    (placed : (x ≡ own (context_of S) level)
    ⊎ ((x.array < local_variables S.function) × (x.number < local_variables S.function)))
    (py : IsPlaced S (suc level) y) where
  abbrev for-array : ℕ
  for-array = temporary (context_of S) level ForArray

  abbrev for-number : ℕ
  for-number = temporary (context_of S) level ForNumber

  abbrev sum : ℤ
  sum = int_wrap w32 (index +ℤ m)

  abbrev copy : ℕ → graph.State
  copy to = with_value to (array_value array) i

  number-apart : x.number ≢ for-array
  number-apart = by x placed
    where
      own-apart : (a b : ℕ) → a + b + 1 ≡ a + b + 0 → ⊥
      own-apart a b e = omega (arith, e)

      low-apart : (a b v : ℕ) → v < a → v ≡ a + b + 0 → ⊥
      low-apart a b v low e = omega (arith, low, e)

      by : (p : Spot)
          → ((p ≡ own (context_of S) level)
          ⊎ ((p.array < local_variables S.function) × (p.number < local_variables S.function)))
          → p.number ≢ temporary (context_of S) level ForArray
      by p (inl e) same =
          own-apart (local_variables S.function) (level * 5) (sym (ap (λ (q : Spot). q.number) e) ∙ same)
      by p (inr low) same = low-apart (local_variables S.function) (level * 5) p.number low.1 same

  array-apart : x.array ≢ for-number
  array-apart = by x placed
    where
      own-apart : (a b : ℕ) → a + b + 0 ≡ a + b + 1 → ⊥
      own-apart a b e = omega (arith, e)

      low-apart : (a b v : ℕ) → v < a → v ≡ a + b + 1 → ⊥
      low-apart a b v low e = omega (arith, low, e)

      by : (p : Spot)
          → ((p ≡ own (context_of S) level)
          ⊎ ((p.array < local_variables S.function) × (p.number < local_variables S.function)))
          → p.array ≢ temporary (context_of S) level ForNumber
      by p (inl e) same = own-apart (local_variables S.function) (level * 5) (sym (ap (λ (q : Spot). q.array) e) ∙ same)
      by p (inr low) same = low-apart (local_variables S.function) (level * 5) p.array low.0 same

  second-apart : y ≢ for-array
  second-apart = by py
    where
      own-apart : (a l v : ℕ) → v ≡ a + suc l * 5 + 1 → v ≡ a + l * 5 + 0 → ⊥
      own-apart a l v e f = omega (arith, e, f)

      low-apart : (a b v : ℕ) → v < a → v ≡ a + b + 0 → ⊥
      low-apart a b v low e = omega (arith, low, e)

      by : IsPlaced S (suc level) y → y ≢ temporary (context_of S) level ForArray
      by (inl e) same = own-apart (local_variables S.function) level y e same
      by (inr low) same = low-apart (local_variables S.function) (level * 5) y low same

  -- what the copy of the array leaves
  abbrev Copied : ℕ → Type 0
  Copied to = Shows S.program (S.function ∷ older) z (copy to) × Keeps (local_variables S.function) level i (copy to)
      × (slice_get (copy to).current.variables to ≡ Some (array_value array))
      × (number_at (copy to) x.number ≡ Some index) × (number_at (copy to) y ≡ Some m) × (to ≢ for-number)

  low0 : (a b : ℕ) → a ≤ a + b + 0
  low0 a b = omega arith

  high0 : (a b : ℕ) → a + b ≤ a + b + 0
  high0 a b = omega arith

  low1 : (a b : ℕ) → a ≤ a + b + 1
  low1 a b = omega arith

  high1 : (a b : ℕ) → a + b ≤ a + b + 1
  high1 a b = omega arith

  into-own : Copied for-array
  into-own = (
    temporaries-free S.program S.function older z i for-array (array_value array) shows
        (low0 (local_variables S.function) (level * 5)),
    (kept-by-change (local_variables S.function) level for-array (array_value array) i).1
        (high0 (local_variables S.function) (level * 5)),
    get-set_same i.current.variables for-array (array_value array)
        (variable-there S.program S.function older z i for-array Two shows
        (temporary-width (context_of S) level ForArray room)),
    ap number_of (get-set_other i.current.variables for-array x.number (array_value array) number-apart
        ∙ holds.1),
    ap number_of (get-set_other i.current.variables for-array y (array_value array) second-apart) ∙ at_y,
    λ same. two-apart (local_variables S.function) (level * 5) same,
  )
    where
      two-apart : (a b : ℕ) → a + b + 0 ≡ a + b + 1 → ⊥
      two-apart a b e = omega (arith, e)

  where-it-is : Copied x.array
  where-it-is =
      let same : copy x.array ≡ i = same-state i x.array (array_value array) holds.0 in (
        subst (λ (q : graph.State). Shows S.program (S.function ∷ older) z q) (sym same) shows,
        subst (λ (q : graph.State). Keeps (local_variables S.function) level i q) (sym same)
            (kept-none (local_variables S.function) level i),
        subst (λ (q : graph.State). slice_get q.current.variables x.array ≡ Some (array_value array)) (sym same)
            holds.0,
        subst (λ (q : graph.State). number_at q x.number ≡ Some index) (sym same) (ap number_of holds.1),
        subst (λ (q : graph.State). number_at q y ≡ Some m) (sym same) at_y,
        array-apart,
      )

  copied-in : (o : Option Spot) → Copied (array_kept (context_of S) o x level)
  copied-in None = into-own
  copied-in (Some p) = where-it-is

  sum-at : (to : ℕ) → Copied to
      → Stand S before (element_sum (element_spot (context_of S) to level) x y)
      → FollowsPlace S (S.function ∷ older) before (element_sum (element_spot (context_of S) to level) x y) level t
      (element_spot (context_of S) to level) z i (Gives (AtIndex array sum) z)
  sum-at to (shown, keeps, array_at_it, at_x, at_second, apart) stands =
      let adding = Emit (op.Add for-number x.number y) in (
        with_value for-number (Number sum) (copy to),
        [],
        temporaries-free S.program S.function older z (copy to) for-number (Number sum) shown
            (low1 (local_variables S.function) (level * 5)),
        kept-twice (local_variables S.function) level i (copy to) (with_value for-number (Number sum) (copy to)) keeps
            ((kept-by-change (local_variables S.function) level for-number (Number sum) (copy to)).1
            (high1 (local_variables S.function) (level * 5))),
        (
          get-set_other (copy to).current.variables for-number to (Number sum) apart ∙ array_at_it,
          get-set_same (copy to).current.variables for-number (Number sum)
              (variable-there S.program S.function older z (copy to) for-number Two shown
              (temporary-width (context_of S) level ForNumber room)),
        ),
        is,
        sym (append-nil z.visits),
        goes-both S z.turns z.turns z.turns i (copy to) (with_value for-number (Number sum) (copy to)) before
            (copied to x.array) (adding ∷ []) [] []
            (copy-goes S site before i to x.array z.turns (array_value array) fits holds.0
            (stand-front S before (copied to x.array) (adding ∷ []) stands))
            (λ o r. two-step S site (before ++ copied to x.array) (copy to) fits (op.Add for-number x.number y)
            for-number
            x.number y (λ p q. int_wrap w32 (p +ℤ q)) index m z.turns o
            (stand-back S before (copied to x.array) (adding ∷ []) stands) refl refl refl refl at_x at_second r),
      )

  pub sum-follows : (o : Option Spot)
      → Stand S before (element_sum (element_spot (context_of S) (array_kept (context_of S) o x level) level) x y)
      → FollowsPlace S (S.function ∷ older) before
      (element_sum (element_spot (context_of S) (array_kept (context_of S) o x level) level) x y) level t
      (element_spot (context_of S) (array_kept (context_of S) o x level) level) z i (Gives (AtIndex array sum) z)
  sum-follows o stands = sum-at (array_kept (context_of S) o x level) (copied-in o) stands

-- ---- both operands, and the sum

-- a pointer stands in the temporaries of its level, or in the variables of a local
two-spots : (S : Site) (a : Part) (run : source.State → Evaluated Held) (t : IntegerType) (spot : Option Spot)
    → ((p : Spot) → spot ≡ Some p → a.stands ≡ Some p) → Lowers S a run → a.of ≡ Pointer t → (level : ℕ)
    → ((standing (context_of S) a spot).spot level ≡ own (context_of S) level)
    ⊎ ((((standing (context_of S) a spot).spot level).array < local_variables S.function)
    × (((standing (context_of S) a spot).spot level).number < local_variables S.function))
two-spots S a run t None from lowers of level = inl refl
two-spots S a run t (Some p) from lowers of level = inr (local-spots S a run t p (from p refl) lowers of)

-- what is made of the pointer and the number
abbrev moving : Held → Held → source.State → Evaluated Found
moving p v z = and_then (computed (binary_value Int Add p v) z) (λ q w. Gives (evaluation.target_of q) w)

module _ (S : Site) (site : IsSite S) (t : IntegerType) (a b : Part) (run run' : source.State → Evaluated Held)
    (la : Lowers S a run) (of : a.of ≡ Pointer t) (u : IntegerType) (lb : Lowers S b run') (of' : b.of ≡ Integer u)
    (falls : Falls run) (older : List Function) (stays : Bool) (block level : ℕ) (before : List Line)
    (s : source.State) (g : graph.State) (room : level + max a.levels (suc b.levels) ≤ levels_of S.function)
    (begins : Begins S (S.function ∷ older) s g) where
  abbrev x : Spot
  x = (operand (context_of S) b.simple a).spot level

  abbrev y : ℕ
  y = ((operand (context_of S) true b).spot (suc level)).number

  abbrev first : List Line
  first = (operand (context_of S) b.simple a).lines block level

  abbrev second : List Line
  second = (operand (context_of S) true b).lines (block + (operand (context_of S) b.simple a).blocks) (suc level)

  abbrev at : Spot
  at = element_spot (context_of S) (array_kept (context_of S) (kept_if (stays && b.simple) a.stands) x level) level

  abbrev last : List Line
  last = element_sum at x y

  room-first : level + a.levels ≤ levels_of S.function
  room-first = let m = le-max_left a.levels (suc b.levels) in omega (arith, room, m)

  room-second : suc level + b.levels ≤ levels_of S.function
  room-second = let m = le-max_right a.levels (suc b.levels) in omega (arith, room, m)

  room-last : level < levels_of S.function
  room-last = let m = le-max_right a.levels (suc b.levels) in omega (arith, room, m)

  from : (p : Spot) → if_stays b.simple a.stands ≡ Some p → a.stands ≡ Some p
  from p e = some-if b.simple a.stands p e

  number-fits : (w : source.State) (h : graph.State) (array : ArrayName) (index : ℤ) (r : Evaluated Held) → run' w ≡ r
      → Stand S (before ++ first) (second ++ last) → Begins S (S.function ∷ older) w h
      → HoldsAt h.current.variables (Pointer t) x (HoldsPointer array index)
      → IsArrayOf S.program (S.function ∷ older) t array
      → NumberStands S (S.function ∷ older) (before ++ first) second (suc level)
      ((operand (context_of S) true b).spot (suc level)) w h r
      → FollowsPlace S (S.function ∷ older) (before ++ first) (second ++ last) level t at w h
      (and_then r (moving (HoldsPointer array index)))
  number-fits w h array index (Ends end z) gives stands there holds is ends = ends
  number-fits w h array index (Gives v z) gives stands there holds is (
    i,
    us,
    n,
    value,
    shows,
    keeps,
    seen,
    at_y,
    goes,
  ) =
      let settled : IsSettled S (target_of (context_of S) a) =
      record { kept = λ k. refl; steady = settled-standing S a run t a.stands (λ p e. e) la of } in
      let still = address-stays S older (target_of (context_of S) a) b run' b.simple refl settled lb level t array
      index w z
      h i v gives there shows keeps holds in
      subst (λ (q : Held). FollowsPlace S (S.function ∷ older) (before ++ first) (second ++ last) level t at w h
      (moving (HoldsPointer array index) q z)) (sym value)
      (place-behind S (S.function ∷ older) (before ++ first) second last level t at w z h i us
      (Gives (AtIndex array (int_wrap w32 (index +ℤ n))) z)
      (kept-below (local_variables S.function) level (suc level) h i (omega arith) keeps) seen goes
      (sum-follows S site older t level ((before ++ first) ++ second) z i (keeps.function ∙ there.function) shows
      room-last
      array index x still is y n at_y (two-spots S a run t (if_stays b.simple a.stands) from la of level)
      (operand-placed S b run' u true lb of' (suc level)) (kept_if (stays && b.simple) a.stands)
      (stand-back S (before ++ first) second last stands)))

  pointer-fits : (r : Evaluated Held) → (state_of r).turns ≤ s.turns → Stand S before (first ++ (second ++ last))
      → FollowsPlace S (S.function ∷ older) before first level t x s g
      (and_then r (λ v w. Gives (evaluation.target_of v) w))
      → FollowsPlace S (S.function ∷ older) before (first ++ (second ++ last)) level t at s g
      (and_then r (λ p w. and_then (run' w) (moving p)))
  pointer-fits (Ends end w) fall stands ends = ends
  pointer-fits (Gives (HoldsNumber n) w) fall stands (h, us, shows, keeps, holds, is, seen, goes) = absurd is
  pointer-fits (Gives (HoldsPointer array index) w) fall stands (h, us, shows, keeps, holds, is, seen, goes) =
      let there = begins-again S older s w g h level begins shows keeps fall in
      let behind_first = stand-back S before first (second ++ last) stands in
      place-behind S (S.function ∷ older) before first (second ++ last) level t at s w g h us
      (and_then (run' w) (moving (HoldsPointer array index))) keeps seen goes
      (number-fits w h array index (run' w) refl behind_first there holds is
      (number-operand S older b run' u lb of' (block + (operand (context_of S) b.simple a).blocks) (suc level)
      (before ++ first) w h (stand-front S (before ++ first) second last behind_first) room-second there))

  pub index-fits : Stand S before (first ++ (second ++ last))
      → FollowsPlace S (S.function ∷ older) before (first ++ (second ++ last)) level t at s g
      (and_then (run s) (λ p w. and_then (run' w) (moving p)))
  index-fits stands =
      pointer-fits (run s) (falls s) stands
      (standing-pointer S older a run t (if_stays b.simple a.stands) from la of block level before s g
      (stand-front S before first (second ++ last) stands) room-first begins)

pub indexes-follow : IndexesFollow
indexes-follow S site a b t la of u lb of' active stays block level before s g stands room begins =
    with-older S.function active (λ calls. Begins S calls s g → FollowsPlace S calls before
    ((element_of (context_of S) t (Pointer t) (part_of (context_of S) a) (part_of (context_of S) b)).lines stays block
    level) level t
    ((element_of (context_of S) t (Pointer t) (part_of (context_of S) a) (part_of (context_of S) b)).spot stays level) s
    g (locate S.calls (Element t a b) s)) begins.youngest
    (λ older there. index-fits S site t (part_of (context_of S) a) (part_of (context_of S) b) (evaluate S.calls a)
    (evaluate S.calls b) la of u lb of' (turns-fall S site a) older stays block level before s g room there stands)
    begins

pub indexes-read : IndexesAreRead
indexes-read S site a b t la of u lb of' =
    subst (λ (p : ValueType). Lowers S (read_part (context_of S) (Integer t) (AtAddress t
    (element_of (context_of S) t p (part_of (context_of S) a) (part_of (context_of S) b))))
    (λ s. and_then (locate S.calls (Element t a b) s) load)) (sym of)
    (elements-read S site t
    (element_of (context_of S) t (Pointer t) (part_of (context_of S) a) (part_of (context_of S) b))
    (locate S.calls (Element t a b)) (indexes-follow S site a b t la of u lb of')
    (max-behind (part_of (context_of S) a).levels (part_of (context_of S) b).levels))

-- where the address stands
index-settled : (S : Site) (a b : Part) (run : source.State → Evaluated Held) (t : IntegerType) → Lowers S a run
    → a.of ≡ Pointer t → IsSettled S (element_of (context_of S) t (Pointer t) a b)
index-settled S a b run t lowers of = record {
  kept = λ level. refl;
  steady = λ level. (by b.simple a.stands refl level, number-steady level);
}
  where
    number-steady : (level : ℕ) → IsSteady S level (temporary (context_of S) level ForNumber)
    number-steady level = inr (low (local_variables S.function) (level * 5), high (local_variables S.function) level)
      where
        low : (a b : ℕ) → a + b ≤ a + b + 1
        low a b = omega arith

        high : (a b : ℕ) → a + b * 5 + 1 < a + suc b * 5
        high a b = omega arith

    array-steady : (level : ℕ) → IsSteady S level (temporary (context_of S) level ForArray)
    array-steady level = inr (low (local_variables S.function) (level * 5), high (local_variables S.function) level)
      where
        low : (a b : ℕ) → a + b ≤ a + b + 0
        low a b = omega arith

        high : (a b : ℕ) → a + b * 5 + 0 < a + suc b * 5
        high a b = omega arith

    by : (simple : Bool) (spot : Option Spot) → a.stands ≡ spot → (level : ℕ)
        → IsSteady S level (array_kept (context_of S) (kept_if simple spot)
        ((standing (context_of S) a (if_stays simple spot)).spot level) level)
    by false spot e level = array-steady level
    by true None e level = array-steady level
    by true (Some p) e level = inl (local-spots S a run t p e lowers of).0

pub indexes-assigned : IndexesAreAssigned
indexes-assigned S site a b t la of u lb of' value w lv of'' =
    subst (λ (p : ValueType). Lowers S (assigned_element (context_of S) t
    (element_of (context_of S) t p (part_of (context_of S) a) (part_of (context_of S) b)) (part_of (context_of S)
    value))
    (assigned t (locate S.calls (Element t a b)) (evaluate S.calls value))) (sym of)
    (elements-assigned S site t
    (element_of (context_of S) t (Pointer t) (part_of (context_of S) a) (part_of (context_of S) b))
    (locate S.calls (Element t a b)) (indexes-follow S site a b t la of u lb of')
    (index-settled S (part_of (context_of S) a) (part_of (context_of S) b) (evaluate S.calls a) t la of)
    (λ s. ((trees_keep S.bound S.calls site.keeps).places (Element t a b) s).after.turns)
    (max-behind (part_of (context_of S) a).levels (part_of (context_of S) b).levels) (part_of (context_of S) value)
    (evaluate S.calls value) w lv of'' (turns-fall S site value))

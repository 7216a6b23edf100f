-- `i[a]`, where the number comes first: both operands, their sum, and the element.
use Rattle.std.proofs.Common.{◌≡◌, ◌≢◌, ℕ, suc, ◌+◌, ◌*◌, ◌<◌, ◌≤◌, true, ℤ, ◌+ℤ◌}
use Rattle.std.proofs.Common.{List, [], ◌∷◌, ◌++◌, max, Option, Some, None, inl, inr, refl, sym, ap, ◌∙◌, subst}
use Rattle.std.proofs.Common.{arith, append-nil}
use Rattle.std.proofs.Math.Nat.{le-max_left, le-max_right}
use Rattle.std.specs.Int.{w32, int_wrap}
use Rattle.pcc_base.specs.declared.run.Width.TheVariants.{Two}
use Rattle.pcc_base.specs.Outcome.{ArrayName, Number}
use Rattle.c_eval_laws.proofs.Agreeing.{trees_keep}
use Rattle.c_eval_laws.specs.Bounds.{state_of}
use Rattle.c_tree.specs.declared.expression.BinaryOp.TheVariants.{Add}
use Rattle.c_tree.specs.declared.types.IntegerType.{IntegerType}
use Rattle.c_tree.specs.declared.types.IntegerType.TheVariants.{Int}
use Rattle.c_tree.specs.declared.types.ValueType.{ValueType}
use Rattle.c_tree.specs.declared.types.ValueType.TheVariants.{Integer, Pointer}
use Rattle.c_tree.specs.Evaluation as evaluation
use Rattle.c_tree.specs.Evaluation.{Found, InLocal, InObject, AtIndex, computed, evaluate, load, locate}
use Rattle.c_tree.specs.Operators.{binary_value}
use Rattle.c_tree.specs.Program.{Element, Function}
use Rattle.c_tree.specs.Store as source
use Rattle.c_tree.specs.Store.{Evaluated, Gives, Ends, Held, HoldsNumber, HoldsPointer, and_then}
use Rattle.flow_graph.specs.declared.op.Op.TheVariants as op
use Rattle.flow_graph.specs.States as graph
use Rattle.flow_graph.specs.States.{number_at, number_of, with_value, with_variables}
use Rattle.lower_lines.specs.Expressions.{AtAddress, element_of, element_sum}
use Rattle.lower_lines.specs.Expressions.{assigned_element, part_of, read_part}
use Rattle.lower_lines.specs.Following.{Begins, FollowsPlace, IsSite, Lowers, Site, Stand}
use Rattle.lower_lines.specs.Following.{context_of}
use Rattle.lower_lines.specs.Lines.{Line, Emit}
use Rattle.lower_lines.specs.Parts.{Part, operand, standing}
use Rattle.lower_lines.specs.Relation.{HoldsAt, IsArrayOf, Shows, array_value}
use Rattle.lower_lines.specs.Variables.{ForArray, ForNumber, Spot, copied, levels_of, local_variables, own, temporary}
use Rattle.lower_lines.proofs.Changes.{kept-below, kept-by-change, kept-twice, temporaries-free}
use Rattle.lower_lines.proofs.Locals.{get-set_other, get-set_same}
use Rattle.lower_lines.proofs.Steps.{two-step}
use Rattle.lower_laws.proofs.Atoms.{with-older}
use Rattle.lower_laws.proofs.Binary.{turns-fall}
use Rattle.lower_laws.proofs.Converting.{begins-again}
use Rattle.lower_laws.proofs.Going.{stand-back, stand-front}
use Rattle.lower_laws.proofs.Levels.{max-behind}
use Rattle.lower_laws.proofs.Made.{variable-there}
use Rattle.lower_laws.proofs.Operands.{NumberStands}
use Rattle.lower_laws.proofs.Pairs.{Falls, IsPlaced, goes-both, operand-placed}
use Rattle.lower_laws.proofs.Widths.{temporary-width}
use Rattle.lower_laws.proofs.PlacesAssigning.{elements-assigned, local-spots}
use Rattle.lower_laws.proofs.PlacesReading.{elements-read, standing-pointer}
use Rattle.lower_laws.specs.PlacesLaws.{IsSettled}
use Rattle.lower_laws.specs.PlacesLaws.{assigned}
use Rattle.lower_lines.specs.Expressions.{assigned_element}
use Rattle.lower_laws.proofs.Pairs.{any-operand, operand-placed, stays-by}
use Rattle.lower_laws.proofs.Indexing.{copy-goes, place-behind}
use Rattle.lower_laws.specs.PlacesLaws.{TurnedAreAssigned, TurnedAreRead, TurnedFollow}

-- what is made of the number and the pointer
abbrev turned : Held → Held → source.State → Evaluated Found
turned x y z = and_then (computed (binary_value Int Add x y) z) (λ q w. Gives (evaluation.target_of q) w)

module _ (S : Site) (site : IsSite S) (t u : IntegerType) (a b : Part) (run run' : source.State → Evaluated Held)
    (la : Lowers S a run) (of : a.of ≡ Integer u) (lb : Lowers S b run') (of' : b.of ≡ Pointer t)
    (falls : Falls run) (older : List Function) (block level : ℕ) (before : List Line)
    (s : source.State) (g : graph.State) (room : level + max a.levels (suc b.levels) ≤ levels_of S.function)
    (begins : Begins S (S.function ∷ older) s g) where
  abbrev x : Spot
  x = (operand (context_of S) b.simple a).spot level

  abbrev y : Spot
  y = (operand (context_of S) true b).spot (suc level)

  abbrev first : List Line
  first = (operand (context_of S) b.simple a).lines block level

  abbrev second : List Line
  second = (operand (context_of S) true b).lines (block + (operand (context_of S) b.simple a).blocks) (suc level)

  abbrev at : Spot
  at = own (context_of S) level

  abbrev last : List Line
  last = element_sum at y x.number

  room-first : level + a.levels ≤ levels_of S.function
  room-first = let m = le-max_left a.levels (suc b.levels) in omega (arith, room, m)

  room-second : suc level + b.levels ≤ levels_of S.function
  room-second = let m = le-max_right a.levels (suc b.levels) in omega (arith, room, m)

  room-last : level < levels_of S.function
  room-last = let m = le-max_right a.levels (suc b.levels) in omega (arith, room, m)

  low0 : (m n : ℕ) → m ≤ m + n + 0
  low0 m n = omega arith

  high0 : (m n : ℕ) → m + n ≤ m + n + 0
  high0 m n = omega arith

  low1 : (m n : ℕ) → m ≤ m + n + 1
  low1 m n = omega arith

  high1 : (m n : ℕ) → m + n ≤ m + n + 1
  high1 m n = omega arith

  -- the pointer's index isn't where its array is copied
  index-apart : (o : Option Spot) → ((p : Spot) → o ≡ Some p → b.stands ≡ Some p)
      → ((standing (context_of S) b o).spot (suc level)).number ≢ at.array
  index-apart None from same = own-apart (local_variables S.function) level same
    where
      own-apart : (m l : ℕ) → m + suc l * 5 + 1 ≡ m + l * 5 + 0 → ⊥
      own-apart m l e = omega (arith, e)
  index-apart (Some p) from same =
      low-apart (local_variables S.function) (level * 5) p.number (local-spots S b run' t p (from p refl) lb of').1 same
    where
      low-apart : (m n v : ℕ) → v < m → v ≡ m + n + 0 → ⊥
      low-apart m n v low e = omega (arith, low, e)

  number-apart : x.number ≢ at.array
  number-apart = by (operand-placed S a run u b.simple la of level)
    where
      own-apart : (m n v : ℕ) → v ≡ m + n + 1 → v ≡ m + n + 0 → ⊥
      own-apart m n v e f = omega (arith, e, f)

      low-apart : (m n v : ℕ) → v < m → v ≡ m + n + 0 → ⊥
      low-apart m n v low e = omega (arith, low, e)

      by : IsPlaced S level x.number → x.number ≢ temporary (context_of S) level ForArray
      by (inl e) same = own-apart (local_variables S.function) (level * 5) x.number e same
      by (inr low) same = low-apart (local_variables S.function) (level * 5) x.number low same

  two-apart : (m n : ℕ) → m + n + 0 ≡ m + n + 1 → ⊥
  two-apart m n e = omega (arith, e)

  -- the sum, behind both
  sum-goes : (front : List Line) (z : source.State) (i : graph.State) (array : ArrayName) (index m : ℤ)
      → i.current.function ≡ S.number → Shows S.program (S.function ∷ older) z i
      → HoldsAt i.current.variables (Pointer t) y (HoldsPointer array index)
      → IsArrayOf S.program (S.function ∷ older) t array → number_at i x.number ≡ Some m → Stand S front last
      → FollowsPlace S (S.function ∷ older) front last level t at z i
      (Gives (AtIndex array (int_wrap w32 (index +ℤ m))) z)
  sum-goes front z i array index m fits shows holds is at_x stands =
      let sum = int_wrap w32 (index +ℤ m) in
      let copy = with_value at.array (array_value array) i in
      let done = with_value at.number (Number sum) copy in
      let adding = Emit (op.Add at.number y.number x.number) in
      let wide = temporary-width (context_of S) level ForArray room-last in
      let wide' = temporary-width (context_of S) level ForNumber room-last in
      let shown = temporaries-free S.program S.function older z i at.array (array_value array) shows
      (low0 (local_variables S.function) (level * 5)) in
      let index_at = ap number_of (get-set_other i.current.variables at.array y.number (array_value array)
      (index-apart b.stands (λ p e. e)) ∙ holds.1) in
      let number_there = ap number_of (get-set_other i.current.variables at.array x.number (array_value array)
      number-apart) ∙ at_x in (
        done,
        [],
        temporaries-free S.program S.function older z copy at.number (Number sum) shown
            (low1 (local_variables S.function) (level * 5)),
        kept-twice (local_variables S.function) level i copy done
            ((kept-by-change (local_variables S.function) level at.array (array_value array) i).1
            (high0 (local_variables S.function) (level * 5)))
            ((kept-by-change (local_variables S.function) level at.number (Number sum) copy).1
            (high1 (local_variables S.function) (level * 5))),
        (
          get-set_other copy.current.variables at.number at.array (Number sum)
              (λ same. two-apart (local_variables S.function) (level * 5) same)
              ∙ get-set_same i.current.variables at.array (array_value array)
              (variable-there S.program S.function older z i at.array Two shows wide),
          get-set_same copy.current.variables at.number (Number sum)
              (variable-there S.program S.function older z copy at.number Two shown wide'),
        ),
        is,
        sym (append-nil z.visits),
        goes-both S z.turns z.turns z.turns i copy done front (copied at.array y.array) (adding ∷ []) [] []
            (copy-goes S site front i at.array y.array z.turns (array_value array) fits holds.0
            (stand-front S front (copied at.array y.array) (adding ∷ []) stands))
            (λ o r. two-step S site (front ++ copied at.array y.array) copy fits (op.Add at.number y.number x.number)
            at.number y.number x.number (λ p q. int_wrap w32 (p +ℤ q)) index m z.turns o
            (stand-back S front (copied at.array y.array) (adding ∷ []) stands) refl refl refl refl index_at
            number_there r),
      )

  -- the pointer has been evaluated
  pointer-fits : (v : Held) (w : source.State) (h : graph.State) (m : ℤ) (r : Evaluated Held) → run s ≡ Gives v w
      → run' w ≡ r → v ≡ HoldsNumber m → Stand S (before ++ first) (second ++ last) → Begins S (S.function ∷ older) w h
      → number_at h x.number ≡ Some m
      → FollowsPlace S (S.function ∷ older) (before ++ first) second (suc level) t y w h
      (and_then r (λ q z. Gives (evaluation.target_of q) z))
      → FollowsPlace S (S.function ∷ older) (before ++ first) (second ++ last) level t at w h
      (and_then r (turned (HoldsNumber m)))
  pointer-fits v w h m (Ends end z) ea eb number stands there at_x ends = ends
  pointer-fits v w h m (Gives (HoldsNumber n) z) ea eb number stands there at_x
      (i, us, shows, keeps, holds, is, seen, goes) = absurd is
  pointer-fits v w h m (Gives (HoldsPointer array index) z) ea eb number stands there at_x
      (i, us, shows, keeps, holds, is, seen, goes) =
      let still = stays-by S older a b run run' u la of lb b.simple refl a.stands refl level s w z h i v
      (HoldsPointer array index) m ea eb there shows keeps number at_x in
      place-behind S (S.function ∷ older) (before ++ first) second last level t at w z h i us
      (Gives (AtIndex array (int_wrap w32 (index +ℤ m))) z)
      (kept-below (local_variables S.function) level (suc level) h i (omega arith) keeps) seen goes
      (sum-goes ((before ++ first) ++ second) z i array index m (keeps.function ∙ there.function) shows holds is still
      (stand-back S (before ++ first) second last stands))

  number-fits : (r : Evaluated Held) → run s ≡ r → (state_of r).turns ≤ s.turns
      → Stand S before (first ++ (second ++ last)) → NumberStands S (S.function ∷ older) before first level x s g r
      → FollowsPlace S (S.function ∷ older) before (first ++ (second ++ last)) level t at s g
      (and_then r (λ p w. and_then (run' w) (turned p)))
  number-fits (Ends end w) ea fall stands ends = ends
  number-fits (Gives v w) ea fall stands (h, us, m, value, shows, keeps, seen, at_x, goes) =
      let there = begins-again S older s w g h level begins shows keeps fall in
      let behind_first = stand-back S before first (second ++ last) stands in
      subst (λ (q : Held). FollowsPlace S (S.function ∷ older) before (first ++ (second ++ last)) level t at s g
      (and_then (run' w) (turned q))) (sym value)
      (place-behind S (S.function ∷ older) before first (second ++ last) level t at s w g h us
      (and_then (run' w) (turned (HoldsNumber m))) keeps seen goes
      (pointer-fits v w h m (run' w) ea refl value behind_first there at_x
      (standing-pointer S older b run' t b.stands (λ p e. e) lb of'
      (block + (operand (context_of S) b.simple a).blocks) (suc level) (before ++ first) w h
      (stand-front S (before ++ first) second last behind_first) room-second there)))

  pub turned-fits : Stand S before (first ++ (second ++ last))
      → FollowsPlace S (S.function ∷ older) before (first ++ (second ++ last)) level t at s g
      (and_then (run s) (λ p w. and_then (run' w) (turned p)))
  turned-fits stands =
      number-fits (run s) refl (falls s) stands
      (any-operand S older a run u b.simple la of block level before s g
      (stand-front S before first (second ++ last) stands) room-first begins)

pub turned-follow : TurnedFollow
turned-follow S site a b t u la of lb of' active stays block level before s g stands room begins =
    with-older S.function active (λ calls. Begins S calls s g → FollowsPlace S calls before
    ((element_of (context_of S) t (Integer u) (part_of (context_of S) a) (part_of (context_of S) b)).lines stays block
    level) level t (own (context_of S) level) s g (locate S.calls (Element t a b) s)) begins.youngest
    (λ older there. turned-fits S site t u (part_of (context_of S) a) (part_of (context_of S) b) (evaluate S.calls a)
    (evaluate S.calls b) la of lb of' (turns-fall S site a) older block level before s g room there stands)
    begins

pub turned-read : TurnedAreRead
turned-read S site a b t u la of lb of' =
    subst (λ (p : ValueType). Lowers S (read_part (context_of S) (Integer t) (AtAddress t
    (element_of (context_of S) t p (part_of (context_of S) a) (part_of (context_of S) b))))
    (λ s. and_then (locate S.calls (Element t a b) s) load)) (sym of)
    (elements-read S site t
    (element_of (context_of S) t (Integer u) (part_of (context_of S) a) (part_of (context_of S) b))
    (locate S.calls (Element t a b)) (turned-follow S site a b t u la of lb of')
    (max-behind (part_of (context_of S) a).levels (part_of (context_of S) b).levels))

-- where the address stands
turned-settled : (S : Site) (a b : Part) (t u : IntegerType) → IsSettled S (element_of (context_of S) t (Integer u) a b)
turned-settled S a b t u = record {
  kept = λ level. refl;
  steady = λ level. (
    inr (low0 (local_variables S.function) (level * 5), high0 (local_variables S.function) level),
    inr (low1 (local_variables S.function) (level * 5), high1 (local_variables S.function) level),
  );
}
  where
    low0 : (m n : ℕ) → m + n ≤ m + n + 0
    low0 m n = omega arith

    high0 : (m n : ℕ) → m + n * 5 + 0 < m + suc n * 5
    high0 m n = omega arith

    low1 : (m n : ℕ) → m + n ≤ m + n + 1
    low1 m n = omega arith

    high1 : (m n : ℕ) → m + n * 5 + 1 < m + suc n * 5
    high1 m n = omega arith

pub turned-assigned : TurnedAreAssigned
turned-assigned S site a b t u la of lb of' value w lv of'' =
    subst (λ (p : ValueType). Lowers S (assigned_element (context_of S) t
    (element_of (context_of S) t p (part_of (context_of S) a) (part_of (context_of S) b)) (part_of (context_of S)
    value))
    (assigned t (locate S.calls (Element t a b)) (evaluate S.calls value))) (sym of)
    (elements-assigned S site t
    (element_of (context_of S) t (Integer u) (part_of (context_of S) a) (part_of (context_of S) b))
    (locate S.calls (Element t a b)) (turned-follow S site a b t u la of lb of')
    (turned-settled S (part_of (context_of S) a) (part_of (context_of S) b) t u)
    (λ s. ((trees_keep S.bound S.calls site.keeps).places (Element t a b) s).after.turns)
    (max-behind (part_of (context_of S) a).levels (part_of (context_of S) b).levels) (part_of (context_of S) value)
    (evaluate S.calls value) w lv of'' (turns-fall S site value))

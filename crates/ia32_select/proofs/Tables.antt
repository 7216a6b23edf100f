-- What a table has between points, one point at a time.
use Rattle.std.proofs.Common.{◌≡◌, ◌≢◌, ◌⊎◌, ◌≤◌, ◌<◌, ◌+◌, ℕ, zero, suc, Bool, true, false, List, [], ◌∷◌}
use Rattle.std.proofs.Common.{Option, Some, None, inl, inr, refl, sym, ap, subst, ◌∙◌, arith, length, drop, get_or}
use Rattle.std.specs.Prelude.{◌==◌, slice_get, slice_set, if◌then◌else◌}
use Rattle.std.proofs.Math.ListN.{drop_of_length-le}
use Rattle.std.proofs.lemmas.Bool.Decides.{eqb_tells, nat_tests}
use Rattle.std.proofs.lemmas.List.{drop_more, length-set}
use Rattle.std.proofs.lemmas.Option.{none-some, same_Some}
use Rattle.ia32_insn.specs.declared.insn.Insn.{Insn}
use Rattle.flow_graph.specs.Graphs.{Flow, IsIn, Stands, points_of}
use Rattle.flow_liveness.proofs.Placed.{block-within}
use Rattle.puzzle_board.specs.Places.{PlaceMap}
use Rattle.ia32_rows.proofs.Moves.{alike}
use Rattle.ia32_laws.specs.Supports.{AreMoves}
use Rattle.ia32_placements.specs.Laws.{AllMove}
use Rattle.ia32_placements.specs.Placed.{placement_in}
use Rattle.ia32_select.specs.EdgeMoves.{AreBetween, AreNext}
use Rattle.ia32_select.specs.MoveTables.{Fills, IsDone, Ways, between_in, is_to, on_way}

-- ---- one point

to-is : (o : Option ℕ) (next : ℕ) → is_to o next ≡ true → o ≡ Some next
to-is None next e = cc
to-is (Some p) next e = ap Some (alike p next e)

is-to : (o : Option ℕ) (next : ℕ) → is_to o next ≡ false → o ≡ Some next → ⊥
is-to None next e f = none-some next f
is-to (Some p) next e f = clash p next e (same_Some p next f)
  where
    clash : (p q : ℕ) → (p == q) ≡ false → p ≡ q → ⊥
    clash p q e f = grind (arith, nat_tests)

-- the way to a point has what both have that lead there
way-right : (P : List Insn → Type 0) (first second : Option ℕ) (a b : List Insn) (next : ℕ)
    → (first ≡ Some next → P a) → (second ≡ Some next → P b) → (first ≡ Some next) ⊎ (second ≡ Some next)
    → P (on_way (Some ((first, a), (second, b))) next)
way-right P first second a b next f g either = chosen (is_to first next) refl
  where
    other : (d : Bool) → is_to second next ≡ d → (is_to first next ≡ false)
        → P (if d then b else [])
    other true e no-first = g (to-is second next e)
    other false e no-first =
        elim either [
          | inl is ↦ absurd (is-to first next no-first is)
          | inr is ↦ absurd (is-to second next e is)
        ]

    chosen : (c : Bool) → is_to first next ≡ c → P (if c then a else (if is_to second next then b else []))
    chosen true e = f (to-is first next e)
    chosen false e = other (is_to second next) refl e

get-same : {X : Type 0} (xs : List X) (i : ℕ) (x : X) → i < length xs → slice_get (slice_set xs i x) i ≡ Some x
get-same [] i x h = absurd (omega (arith, h))
get-same (y ∷ ys) zero x h = refl
get-same (y ∷ ys) (suc i) x h = get-same ys i x (omega (arith, h))

get-other : {X : Type 0} (xs : List X) (i j : ℕ) (x : X) → j ≢ i → slice_get (slice_set xs i x) j ≡ slice_get xs j
get-other [] i j x other = refl
get-other (y ∷ ys) zero zero x other = absurd (other refl)
get-other (y ∷ ys) zero (suc j) x other = refl
get-other (y ∷ ys) (suc i) zero x other = refl
get-other (y ∷ ys) (suc i) (suc j) x other = get-other ys i j x (λ same. other (ap suc same))

pub fills-point : (flow : Flow) (places : PlaceMap) (point : ℕ) (first second : Option ℕ) (a b : List Insn)
    (old new : List Ways) → AreNext flow point (first, second)
    → ((to : ℕ) → first ≡ Some to → AreBetween flow places point to a)
    → ((to : ℕ) → second ≡ Some to → AreBetween flow places point to b) → point < length old
    → new ≡ slice_set old point ((first, a), (second, b)) → Fills flow places (λ p. p ≡ point) old new
fills-point flow places point first second a b old new nexts f g inside e =
    let ways : Ways = ((first, a), (second, b)) in
    let here : slice_get new point ≡ Some ways =
    ap (λ (t : List Ways). slice_get t point) e ∙ get-same old point ways inside in
    let done : IsDone flow places new point = λ next s.
    subst (λ (o : Option Ways). AreBetween flow places point next (on_way o next)) (sym here)
    (way-right (AreBetween flow places point next) first second a b next (f next) (g next) (nexts.all next s)) in
    record {
      points = ap (λ (t : List Ways). length t) e ∙ length-set old point ways;
      done = λ p either. elim (eqb_tells p point) [
        | inl same ↦ subst (IsDone flow places new) (sym same.1) done
        | inr other ↦ elim either [
          | inl same ↦ absurd (other.1 same)
          | inr before ↦ λ next s. subst (λ (o : Option Ways). AreBetween flow places p next (on_way o next))
              (sym (ap (λ (t : List Ways). slice_get t p) e ∙ get-other old point p ways other.1)) (before next s)
        ]
      ];
    }

-- ---- the points of a block

-- what was done stays, and each point of the block is done or left
pub record FillsSome (flow : Flow) (places : PlaceMap) (block : ℕ) (rest : List ℕ) (old new : List Ways) : Type 0 where
  pub points : length new ≡ length old
  pub stays : (p : ℕ) → IsDone flow places old p → IsDone flow places new p
  pub left : (p : ℕ) → Stands flow p block → IsDone flow places new p ⊎ IsIn p rest

pub block-first : (flow : Flow) (places : PlaceMap) (block : ℕ) (table : List Ways) (points : List ℕ)
    → points ≡ points_of flow block → FillsSome flow places block points table table
block-first flow places block table points e =
    record {
      points = refl;
      stays = λ p done. done;
      left = λ p stands. inr (subst (IsIn p) (sym e) stands);
    }

pub block-more : (flow : Flow) (places : PlaceMap) (block : ℕ) (points : List ℕ) (i d : ℕ) (old mid new : List Ways)
    → i < length points → FillsSome flow places block (drop i points) old mid
    → Fills flow places (λ p. p ≡ get_or points i d) mid new
    → FillsSome flow places block (drop (i + 1) points) old new
block-more flow places block points i d old mid new inside so-far one =
    record {
      points = one.points ∙ so-far.points;
      stays = λ p done. one.done p (inr (so-far.stays p done));
      left = λ p stands. by p (so-far.left p stands);
    }
  where
    in-rest : (p : ℕ) → IsIn p (get_or points i d ∷ drop (i + 1) points)
        → IsDone flow places new p ⊎ IsIn p (drop (i + 1) points)
    in-rest p (inl same) = inl (one.done p (inl (sym same)))
    in-rest p (inr among) = inr among

    by : (p : ℕ) → IsDone flow places mid p ⊎ IsIn p (drop i points)
        → IsDone flow places new p ⊎ IsIn p (drop (i + 1) points)
    by p (inl done) = inl (one.done p (inr done))
    by p (inr among) = in-rest p (subst (IsIn p) (drop_more points i d inside) among)

pub block-last : (flow : Flow) (places : PlaceMap) (block : ℕ) (points : List ℕ) (i : ℕ) (old new : List Ways)
    → length points ≤ i → FillsSome flow places block (drop i points) old new
    → Fills flow places (λ p. Stands flow p block) old new
block-last flow places block points i old new past so-far =
    record {
      points = so-far.points;
      done = λ p either. by p either;
    }
  where
    none : (p : ℕ) → IsDone flow places new p ⊎ IsIn p (drop i points) → IsDone flow places new p
    none p (inl done) = done
    none p (inr among) = absurd (subst (IsIn p) (drop_of_length-le points past) among)

    by : (p : ℕ) → Stands flow p block ⊎ IsDone flow places old p → IsDone flow places new p
    by p (inl stands) = none p (so-far.left p stands)
    by p (inr done) = so-far.stays p done

-- ---- all blocks

-- the points of the first blocks are done
pub record AreDone (flow : Flow) (places : PlaceMap) (blocks : ℕ) (table : List Ways) : Type 0 where
  pub points : length table ≡ length flow.ops
  pub done : (block p : ℕ) → block < blocks → Stands flow p block → IsDone flow places table p

pub blocks-more : (flow : Flow) (places : PlaceMap) (block : ℕ) (old new : List Ways)
    → AreDone flow places block old → Fills flow places (λ p. Stands flow p block) old new
    → AreDone flow places (block + 1) new
blocks-more flow places block old new so-far one =
    record {
      points = one.points ∙ so-far.points;
      done = λ b p less stands. elim (eqb_tells b block) [
        | inl same ↦ one.done p (inl (subst (λ (x : ℕ). Stands flow p x) same.1 stands))
        | inr other ↦ one.done p (inr (so-far.done b p (smaller b block other.1 less) stands))
      ];
    }
  where
    smaller : (b n : ℕ) → b ≢ n → b < n + 1 → b < n
    smaller b n other less = grind (arith, other, less)

pub between-all : (flow : Flow) (places : PlaceMap) (between : ℕ → ℕ → List Insn) (point next : ℕ)
    → AreBetween flow places point next (between point next)
    → AreMoves flow (placement_in flow places between) point next
between-all flow places between point next h =
    record { few = h.few; straight = h.straight; spelled = h.spelled; copies = h.copies }

pub blocks-last : (flow : Flow) (places : PlaceMap) (blocks : ℕ) (table : List Ways) → length flow.blocks ≤ blocks
    → AreDone flow places blocks table → AllMove flow places (between_in table)
blocks-last flow places blocks table past all point next leads =
    let within = block-within flow.blocks leads.0.0 point leads.0.1 in
    between-all flow places (between_in table) point next
    (all.done leads.0.0 point (omega (arith, within, past)) leads.0.1 next leads)

-- The variables of a point's pieces, each once, and their distances.
use Rattle.std.proofs.Common.{ℕ, zero, suc, ◌≡◌, ◌≢◌, ◌<◌, ◌≤◌, ◌+◌, ◌⊎◌, inl, inr, true, false, List}
use Rattle.std.proofs.Common.{[], ◌∷◌, ◌++◌, length, take, get_or, Option, Some, None, refl, sym, ap, subst, arith}
use Rattle.std.proofs.Common.{◌∙◌}
use Rattle.std.specs.Prelude.{slice_get}
use Rattle.std.specs.List.{AllByRecursion}
use Rattle.std.proofs.lemmas.Option.{none-some, same_Some, slice_get-get_or}
use Rattle.pcc_base.proofs.Lists.{all-at, all-push, element-at}
use Rattle.flow_graph.specs.Graphs.{Flow, IsDistinct, IsIn}
use Rattle.flow_graph.specs.Lives.{IsAscending}
use Rattle.flow_graph.proofs.Ascending.{ascending-push}
use Rattle.flow_graph.proofs.Points.{every-from}
use Rattle.flow_liveness.specs.Distances.{AreDistances, distance_at}
use Rattle.flow_liveness.proofs.Naming.{in-either, in-left, in-right}
use Rattle.puzzle_board.specs.declared.piece.Piece.{Piece}
use Rattle.puzzle_solver.specs.declared.order.Candidate.{Candidate}
use Rattle.allocator.specs.Order.{AreInOrder, Precedes}
use Rattle.allocator.specs.Spills.{AreCandidates, AreListed, HasDistance, HasPiece, IsNewAt, variables_of}

-- ---- pieces by their numbers

pub order-at :
    (pieces : List Piece) (j k : ℕ) (p q : Piece) → AreInOrder pieces → slice_get pieces j ≡ Some p
    → slice_get pieces k ≡ Some q → j < k → Precedes p q
order-at [] j k p q o e f lt = absurd (none-some p e)
order-at (x ∷ pieces) zero zero p q o e f lt = absurd (omega (arith, lt))
order-at (x ∷ pieces) zero (suc k) p q o e f lt =
    subst (λ (y : Piece). Precedes y q) (same_Some x p e) (all-at (Precedes x) pieces k q o.0 f)
order-at (x ∷ pieces) (suc j) zero p q o e f lt = absurd (omega (arith, lt))
order-at (x ∷ pieces) (suc j) (suc k) p q o e f lt = order-at pieces j k p q o.1 e f (omega (arith, lt))

no-greater : (p q : Piece) → Precedes p q → p.var ≤ q.var
no-greater p q (inl low) = omega (arith, low)
no-greater p q (inr (same, x, z)) = omega (arith, same)

smaller : (p q : Piece) → Precedes p q → p.var ≢ q.var → p.var < q.var
smaller p q (inl low) other = low
smaller p q (inr (same, x, z)) other = absurd (other same)

all-front :
    (P : Piece → Type 0) (pieces : List Piece) (i : ℕ)
    → ((j : ℕ) (q : Piece) → j < i → slice_get pieces j ≡ Some q → P q) → AllByRecursion P (take i pieces)
all-front P pieces zero h = tt
all-front P [] (suc i) h = tt
all-front P (q ∷ pieces) (suc i) h =
    (h 0 q (omega arith) refl, all-front P pieces i (λ j r lt e. h (suc j) r (omega (arith, lt)) e))

piece-before :
    (pieces : List Piece) (i : ℕ) (p : Piece) → slice_get pieces (suc i) ≡ Some p
    → (q : Piece) × (slice_get pieces i ≡ Some q)
piece-before [] i p e = absurd (none-some p e)
piece-before (x ∷ pieces) zero p e = (x, refl)
piece-before (x ∷ pieces) (suc i) p e = piece-before pieces i p e

-- a piece of a new variable is above all those before it
below-new :
    (pieces : List Piece) (i j : ℕ) (p q : Piece) → AreInOrder pieces → IsNewAt pieces i true
    → slice_get pieces i ≡ Some p → j < i → slice_get pieces j ≡ Some q → q.var < p.var
below-new pieces zero j p q o new e lt f = absurd (omega (arith, lt))
below-new pieces (suc i) j p q o new e lt f = by (piece-before pieces i p e) (split j i (omega (arith, lt)))
  where
    split : (a b : ℕ) → a ≤ b → (a < b) ⊎ (a ≡ b)
    split a b le = grind arith

    by : (r : Piece) × (slice_get pieces i ≡ Some r) → (j < i) ⊎ (j ≡ i) → q.var < p.var
    by (r, is) (inl less) =
        let low = no-greater q r (order-at pieces j i q r o f is less) in
        let up = smaller r p (order-at pieces i (suc i) r p o is e (omega arith)) (new i r p refl is e) in
        omega (arith, low, up)
    by (r, is) (inr same) =
        smaller q p (order-at pieces j (suc i) q p o f e (omega (arith, lt)))
        (new j q p (ap suc same) f e)

-- ---- members

pub has-left : (ps qs : List Piece) (v : ℕ) → HasPiece ps v → HasPiece (ps ++ qs) v
has-left [] qs v (k, q, is, e) = absurd (none-some q is)
has-left (x ∷ ps) qs v (zero, q, is, e) = (0, q, is, e)
has-left (x ∷ ps) qs v (suc k, q, is, e) =
    let (j, r, at, f) = has-left ps qs v (k, q, is, e) in (suc j, r, at, f)

has-last : (ps : List Piece) (p : Piece) → HasPiece (ps ++ p ∷ []) p.var
has-last [] p = (0, p, refl, refl)
has-last (x ∷ ps) p = let (j, r, at, f) = has-last ps p in (suc j, r, at, f)

has-either : (ps : List Piece) (p : Piece) (v : ℕ) → HasPiece (ps ++ p ∷ []) v → HasPiece ps v ⊎ (p.var ≡ v)
has-either [] p v (zero, q, is, e) = inr (ap (λ (r : Piece). r.var) (same_Some p q is) ∙ e)
has-either [] p v (suc k, q, is, e) = absurd (none-some q is)
has-either (x ∷ ps) p v (zero, q, is, e) = inl (0, q, is, e)
has-either (x ∷ ps) p v (suc k, q, is, e) =
    elim (has-either ps p v (k, q, is, e)) [
      | inl h ↦ inl (suc h.0, h.1, h.2, h.3)
      | inr same ↦ inr same
    ]

has-front :
    (pieces : List Piece) (i j : ℕ) (q : Piece) → j < i → slice_get pieces j ≡ Some q → HasPiece (take i pieces) q.var
has-front [] i j q lt e = absurd (none-some q e)
has-front (x ∷ pieces) zero j q lt e = absurd (omega (arith, lt))
has-front (x ∷ pieces) (suc i) zero q lt e = (0, q, e, refl)
has-front (x ∷ pieces) (suc i) (suc j) q lt e =
    let (k, r, at, f) = has-front pieces i j q (omega (arith, lt)) e in (suc k, r, at, f)

-- ---- candidates

variables-push :
    (cs : List Candidate) (c : Candidate) → variables_of (cs ++ c ∷ []) ≡ variables_of cs ++ c.variable ∷ []
variables-push [] c = refl
variables-push (d ∷ cs) c = ap (λ (vs : List ℕ). d.variable ∷ vs) (variables-push cs c)

pub listed-none : (lists : List (List (ℕ × ℕ))) (point : ℕ) → AreListed lists point [] []
listed-none lists point = record {
  rising = tt;
  each = λ v. ((λ i. absurd i), λ h. nothing v h);
  distances = tt;
} where
  nothing : (v : ℕ) → HasPiece [] v → ⊥
  nothing v (k, q, is, e) = none-some q is

push-new :
    (lists : List (List (ℕ × ℕ))) (point : ℕ) (ps : List Piece) (p : Piece) (cs : List Candidate) (c : Candidate)
    → AllByRecursion (λ q. q.var < p.var) ps → AreListed lists point ps cs → c.variable ≡ p.var
    → c.distance ≡ distance_at lists point c.variable → AreListed lists point (ps ++ p ∷ []) (cs ++ c ∷ [])
push-new lists point ps p cs c below l is far = record {
  rising =
      subst IsAscending (sym (variables-push cs c))
      (ascending-push (variables_of cs) c.variable l.rising
      (every-from (λ v. v < c.variable) (variables_of cs) (λ v i. low v ((l.each v).0 i))));
  each = λ v. (
    (λ i. to v (in-either v (variables_of cs) (c.variable ∷ [])
        (subst (λ (vs : List ℕ). IsIn v vs) (variables-push cs c) i))),
    λ h. subst (λ (vs : List ℕ). IsIn v vs) (sym (variables-push cs c)) (from v (has-either ps p v h)),
  );
  distances = all-push (λ d. d.distance ≡ distance_at lists point d.variable) cs c l.distances far;
} where
  low : (v : ℕ) → HasPiece ps v → v < c.variable
  low v (k, q, at, e) =
      let less = all-at (λ r. r.var < p.var) ps k q below at in omega (arith, less, e, is)

  to : (v : ℕ) → IsIn v (variables_of cs) ⊎ IsIn v (c.variable ∷ []) → HasPiece (ps ++ p ∷ []) v
  to v (inl i) = has-left ps (p ∷ []) v ((l.each v).0 i)
  to v (inr (inl e)) = subst (λ (w : ℕ). HasPiece (ps ++ p ∷ []) w) (sym is ∙ e) (has-last ps p)
  to v (inr (inr none)) = absurd none

  from : (v : ℕ) → HasPiece ps v ⊎ (p.var ≡ v) → IsIn v (variables_of cs ++ c.variable ∷ [])
  from v (inl h) = in-left v (variables_of cs) (c.variable ∷ []) ((l.each v).1 h)
  from v (inr e) = in-right v (variables_of cs) (c.variable ∷ []) (inl (is ∙ e))

push-same :
    (lists : List (List (ℕ × ℕ))) (point : ℕ) (ps : List Piece) (p : Piece) (cs : List Candidate)
    → HasPiece ps p.var → AreListed lists point ps cs → AreListed lists point (ps ++ p ∷ []) cs
push-same lists point ps p cs has l = record {
  rising = l.rising;
  each = λ v. ((λ i. has-left ps (p ∷ []) v ((l.each v).0 i)), λ h. from v (has-either ps p v h));
  distances = l.distances;
} where
  from : (v : ℕ) → HasPiece ps v ⊎ (p.var ≡ v) → IsIn v (variables_of cs)
  from v (inl h) = (l.each v).1 h
  from v (inr e) = (l.each v).1 (subst (λ (w : ℕ). HasPiece ps w) e has)

front-more :
    (pieces : List Piece) (i : ℕ) (p : Piece) → slice_get pieces i ≡ Some p → take (suc i) pieces
    ≡ take i pieces ++ p ∷ []
front-more [] i p e = absurd (none-some p e)
front-more (x ∷ pieces) zero p e = ap (λ (q : Piece). q ∷ []) (same_Some x p e)
front-more (x ∷ pieces) (suc i) p e = ap (λ (qs : List Piece). x ∷ qs) (front-more pieces i p e)

next-is : (i : ℕ) → i + 1 ≡ suc i
next-is i = omega arith

front-next : (pieces : List Piece) (i : ℕ) (p : Piece) → slice_get pieces i ≡ Some p → take (i + 1) pieces
    ≡ take i pieces ++ p ∷ []
front-next pieces i p e = ap (λ (n : ℕ). take n pieces) (next-is i) ∙ front-more pieces i p e

-- a piece more, of a new variable or of the same as before
pub listed-new :
    (lists : List (List (ℕ × ℕ))) (point : ℕ) (pieces : List Piece) (i : ℕ) (p : Piece) (cs : List Candidate)
    (c : Candidate)
    → AreInOrder pieces → IsNewAt pieces i true → slice_get pieces i ≡ Some p
    → AreListed lists point (take i pieces) cs → c.variable ≡ p.var → c.distance ≡ distance_at lists point c.variable
    → AreListed lists point (take (i + 1) pieces) (cs ++ c ∷ [])
listed-new lists point pieces i p cs c o new e l is far =
    subst (λ (ps : List Piece). AreListed lists point ps (cs ++ c ∷ [])) (sym (front-next pieces i p e))
    (push-new lists point (take i pieces) p cs c
    (all-front (λ q. q.var < p.var) pieces i (λ j q lt f. below-new pieces i j p q o new e lt f)) l is far)

pub listed-same :
    (lists : List (List (ℕ × ℕ))) (point : ℕ) (pieces : List Piece) (i : ℕ) (p : Piece) (cs : List Candidate)
    → IsNewAt pieces i false → slice_get pieces i ≡ Some p → AreListed lists point (take i pieces) cs
    → AreListed lists point (take (i + 1) pieces) cs
listed-same lists point pieces i p cs old e l =
    let (j, r, next, at, same) = old p e in
    subst (λ (ps : List Piece). AreListed lists point ps cs) (sym (front-next pieces i p e))
    (push-same lists point (take i pieces) p cs
    (subst (λ (v : ℕ). HasPiece (take i pieces) v) same (has-front pieces i j r (omega (arith, next)) at)) l)

-- ---- as the definition has them

distinct : (vs : List ℕ) → IsAscending vs → IsDistinct vs
distinct [] a = tt
distinct (v ∷ vs) a = (apart vs a.0, distinct vs a.1)
  where
    apart : (ws : List ℕ) → AllByRecursion (λ w. v < w) ws → AllByRecursion (λ w. w ≢ v) ws
    apart [] h = tt
    apart (w ∷ ws) h = ((λ e. let low = h.0 in absurd (omega (arith, low, e))), apart ws h.1)

pub distance-is :
    (flow : Flow) (lists : List (List (ℕ × ℕ))) (point v : ℕ) (o : Option ℕ) → AreDistances flow lists
    → o ≡ distance_at lists point v → HasDistance flow v point o
distance-is flow lists point v (Some n) are e = (are.some point v n).0 (sym e)
distance-is flow lists point v None are e = (are.none point v).0 (sym e)

pub candidates-are :
    (flow : Flow) (lists : List (List (ℕ × ℕ))) (point : ℕ) (pieces : List Piece) (cs : List Candidate)
    → AreDistances flow lists → AreListed lists point pieces cs → AreCandidates flow point pieces cs
candidates-are flow lists point pieces cs are l = record {
  once = distinct (variables_of cs) l.rising;
  each = l.each;
  distances = λ k c e.
      distance-is flow lists point c.variable c.distance are
      (all-at (λ d. d.distance ≡ distance_at lists point d.variable) cs k c l.distances e);
}

-- ---- at a number

pub listed-new-at :
    (lists : List (List (ℕ × ℕ))) (point : ℕ) (pieces : List Piece) (i : ℕ) (d : Piece) (cs : List Candidate)
    (c : Candidate)
    → AreInOrder pieces → IsNewAt pieces i true → i < length pieces → AreListed lists point (take i pieces) cs
    → c.variable ≡ (get_or pieces i d).var → c.distance ≡ distance_at lists point c.variable
    → AreListed lists point (take (i + 1) pieces) (cs ++ c ∷ [])
listed-new-at lists point pieces i d cs c o new lt l is far =
    listed-new lists point pieces i (get_or pieces i d) cs c o new (slice_get-get_or pieces i d lt) l is far

pub listed-same-at :
    (lists : List (List (ℕ × ℕ))) (point : ℕ) (pieces : List Piece) (i : ℕ) (cs : List Candidate)
    → IsNewAt pieces i false → i < length pieces → AreListed lists point (take i pieces) cs
    → AreListed lists point (take (i + 1) pieces) cs
listed-same-at lists point pieces i cs old lt l =
    let (p, e) = element-at pieces i lt in listed-same lists point pieces i p cs old e l

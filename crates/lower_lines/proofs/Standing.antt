-- Where lines stand in their graph: the point behind lines, the next one, and where a block starts.
use Rattle.std.proofs.Common.{◌≡◌, ◌≢◌, ℕ, suc, ◌+◌, ◌<◌, Bool, true, false, cond, List, [], ◌∷◌, ◌++◌}
use Rattle.std.proofs.Common.{length, Some, refl, sym, ap, ◌∙◌, subst, arith, eq-eqb}
use Rattle.std.proofs.Common.{inl, inr}
use Rattle.std.specs.Prelude.{slice_get, if◌then◌else◌, ◌==◌}
use Rattle.std.specs.List.{AllByRecursion}
use Rattle.std.proofs.lemmas.Bool.Decides.{eqb_tells}
use Rattle.flow_graph.specs.declared.op.Op.{Op}
use Rattle.flow_graph.specs.Graphs.{following, is_end}
use Rattle.lower_lines.specs.Following.{Closes}
use Rattle.lower_lines.specs.Lines.{Line, Start, Emit, ops_in, starts_in, open_after, points_from}

-- ---- lines one after another

pub ops-append : (xs ys : List Line) → ops_in (xs ++ ys) ≡ ops_in xs ++ ops_in ys
ops-append [] ys = refl
ops-append (Start block ∷ xs) ys = ops-append xs ys
ops-append (Emit op ∷ xs) ys = ap (λ (is : List Op). op ∷ is) (ops-append xs ys)

pub starts-append : (xs ys : List Line) → starts_in (xs ++ ys) ≡ starts_in xs ++ starts_in ys
starts-append [] ys = refl
starts-append (Start block ∷ xs) ys = ap (λ (bs : List ℕ). block ∷ bs) (starts-append xs ys)
starts-append (Emit op ∷ xs) ys = starts-append xs ys

pub open-append : (block : ℕ) (xs ys : List Line) → open_after block (xs ++ ys) ≡ open_after (open_after block xs) ys
open-append block [] ys = refl
open-append block (Start other ∷ xs) ys = open-append other xs ys
open-append block (Emit op ∷ xs) ys = open-append block xs ys

-- whether a block is open in between
pub closes-parts : (opened closed : Bool) (xs ys : List Line) → Closes opened (xs ++ ys) closed
    → (between : Bool) × Closes opened xs between × Closes between ys closed
closes-parts opened closed [] ys c = (opened, refl, c)
closes-parts opened closed (Start block ∷ xs) ys c =
    let r = closes-parts true closed xs ys c.1 in
    (r.0, (c.0, r.1), r.2)
closes-parts opened closed (Emit op ∷ xs) ys c =
    let r = closes-parts (if is_end op then false else true) closed xs ys c.1 in
    (r.0, (c.0, r.1), r.2)

pub closes-append : (opened between closed : Bool) (xs ys : List Line) → Closes opened xs between
    → Closes between ys closed → Closes opened (xs ++ ys) closed
closes-append opened between closed [] ys a b = subst (λ (o : Bool). Closes o ys closed) (sym a) b
closes-append opened between closed (Start block ∷ xs) ys a b = (a.0, closes-append true between closed xs ys a.1 b)
closes-append opened between closed (Emit op ∷ xs) ys a b =
    (a.0, closes-append (if is_end op then false else true) between closed xs ys a.1 b)

-- ---- the points of a block

-- whether the ops behind lines stand in a block
abbrev pub here_after : ℕ → Bool → List Line → Bool
here_after block here [] = here
here_after block here (Start other ∷ lines) = here_after block (other == block) lines
here_after block here (Emit op ∷ lines) = here_after block here lines

pub points-append : (block p : ℕ) (here : Bool) (xs ys : List Line) → points_from block p here (xs ++ ys)
    ≡ points_from block p here xs ++ points_from block (p + length (ops_in xs)) (here_after block here xs) ys
points-append block p here [] ys = let e : p ≡ p + 0 = omega arith in ap (λ (k : ℕ). points_from block k here ys) e
points-append block p here (Start other ∷ xs) ys = points-append block p (other == block) xs ys
points-append block p true (Emit op ∷ xs) ys =
    let e : suc p + length (ops_in xs) ≡ p + suc (length (ops_in xs)) = omega arith in
    ap (λ (ps : List ℕ). p ∷ ps) (points-append block (suc p) true xs ys
    ∙ ap (λ (k : ℕ). points_from block (suc p) true xs ++ points_from block k (here_after block true xs) ys) e)
points-append block p false (Emit op ∷ xs) ys =
    let e : suc p + length (ops_in xs) ≡ p + suc (length (ops_in xs)) = omega arith in
    points-append block (suc p) false xs ys
    ∙ ap (λ (k : ℕ). points_from block (suc p) false xs ++ points_from block k (here_after block false xs) ys) e

-- where a block is open, the ops that follow stand in that one
pub here-open : (block open' : ℕ) (here opened : Bool) (xs : List Line) → Closes opened xs true
    → (opened ≡ true → here ≡ (open' == block)) → here_after block here xs ≡ (open_after open' xs == block)
here-open block open' here opened [] c h = h c
here-open block open' here opened (Start other ∷ xs) c h =
    here-open block other (other == block) true xs c.1 (λ e. refl)
here-open block open' here opened (Emit op ∷ xs) c h =
    here-open block open' here (if is_end op then false else true) xs c.1 (λ e. h c.0)

-- points come in order
pub points-below : (block p : ℕ) (here : Bool) (xs : List Line)
    → AllByRecursion (λ q. q < p + length (ops_in xs)) (points_from block p here xs)
points-below block p here [] = tt
points-below block p here (Start other ∷ xs) = points-below block p (other == block) xs
points-below block p true (Emit op ∷ xs) =
    let e : suc p + length (ops_in xs) ≡ p + suc (length (ops_in xs)) = omega arith in (
      omega arith,
      subst (λ (k : ℕ). AllByRecursion (λ q. q < k) (points_from block (suc p) true xs)) e
          (points-below block (suc p) true xs),
    )
points-below block p false (Emit op ∷ xs) =
    let e : suc p + length (ops_in xs) ≡ p + suc (length (ops_in xs)) = omega arith in
    subst (λ (k : ℕ). AllByRecursion (λ q. q < k) (points_from block (suc p) false xs)) e
    (points-below block (suc p) false xs)

-- the block that is open behind lines has been started
pub open-started : (P : ℕ → Type 0) (open' : ℕ) (opened : Bool) (xs : List Line) → Closes opened xs true
    → (opened ≡ true → P open') → AllByRecursion P (starts_in xs) → P (open_after open' xs)
open-started P open' opened [] c h all = h c
open-started P open' opened (Start other ∷ xs) c h all = open-started P other true xs c.1 (λ e. all.0) all.1
open-started P open' opened (Emit op ∷ xs) c h all =
    open-started P open' (if is_end op then false else true) xs c.1 (λ e. h c.0) all

-- a block that isn't started has no points
pub not-started : (block p : ℕ) (xs : List Line) → AllByRecursion (λ b. b ≢ block) (starts_in xs)
    → points_from block p false xs ≡ []
not-started block p [] h = refl
not-started block p (Start other ∷ xs) h =
    ap (λ (b : Bool). points_from block p b xs) (other-test other block h.0) ∙ not-started block p xs h.1
  where
    other-test : (m n : ℕ) → m ≢ n → (m == n) ≡ false
    other-test m n ne =
        elim (eqb_tells m n) [
          | inl same ↦ absurd (ne same.1)
          | inr other' ↦ other'.0
        ]
not-started block p (Emit op ∷ xs) h = not-started block (suc p) xs h

-- ---- the next point

pub following-behind : (p : ℕ) (front rest : List ℕ) → AllByRecursion (λ q. q < p) front
    → following p (front ++ rest) ≡ following p rest
following-behind p [] rest below = refl
following-behind p (q ∷ front) rest below =
    elim (eqb_tells q p) [
      | inl same ↦ absurd (smaller q p below.0 same.1)
      | inr other ↦ ap (λ (b : Bool). cond b (slice_get (front ++ rest) 0) (following p (front ++ rest))) other.0
          ∙ following-behind p front rest below.1
    ]
  where
    smaller : (m n : ℕ) → m < n → m ≡ n → ⊥
    smaller m n h e = omega (arith, h, e)

pub following-next : (p q : ℕ) (front rest : List ℕ) → AllByRecursion (λ r. r < p) front
    → following p (front ++ (p ∷ q ∷ rest)) ≡ Some q
following-next p q front rest below = following-behind p front (p ∷ q ∷ rest) below
    ∙ ap (λ (b : Bool). cond b (Some q) (following p (q ∷ rest))) (eq-eqb p p refl)

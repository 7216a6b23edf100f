-- A board without the pieces of spilled variables, solved.
use Rattle.std.proofs.Common.{ℕ, zero, suc, ◌≡◌, ◌<◌, ◌≤◌, ◌+◌, ◌↔◌, inl, inr, Bool, true, false, cond, ◌||◌, ◌==◌}
use Rattle.std.proofs.Common.{List, [], ◌∷◌, ◌++◌, length, map, take, Option, Some, None, refl, sym, ap, subst}
use Rattle.std.proofs.Common.{arith, ◌∙◌, true≢false}
use Rattle.std.specs.Prelude.{slice_get}
use Rattle.std.specs.List.{AllByRecursion, Contains}
use Rattle.std.proofs.lemmas.Bool.{cases_eq}
use Rattle.std.proofs.lemmas.List.{take_all, length-map}
use Rattle.std.proofs.lemmas.List.Sorted.{Contains-permutation, IsPermutation-sym}
use Rattle.std.proofs.lemmas.Option.{none-some, same_Some, slice_get_within}
use Rattle.flow_graph.specs.Graphs.{Flow, IsIn, has_point}
use Rattle.flow_graph.proofs.Points.{every-from}
use Rattle.flow_liveness.proofs.Naming.{equal-test, in-test, other-test, test-in}
use Rattle.allocator.specs.PointMaps.{unspilled}
use Rattle.puzzle_board.specs.declared.area.Area.{Area}
use Rattle.puzzle_board.specs.declared.piece.Piece.{Piece}
use Rattle.puzzle_board.specs.declared.piece.Spot.{Spot}
use Rattle.puzzle_board.specs.declared.piece.State.{State}
use Rattle.puzzle_board.specs.declared.piece.State.TheVariants.{Unplaced, At, Removed}
use Rattle.puzzle_board.specs.Boards.{Puzzle, remaining, remaining_in, removed_in, standing, standing_in}
use Rattle.puzzle_board.specs.Boards.{spot_in, without_variable}
use Rattle.puzzle_board.specs.Classes.{IsAmong}
use Rattle.puzzle_board.specs.Placements.{IsLegalPlacement, Standing}
use Rattle.puzzle_solver.specs.Onward.{is_removed}
use Rattle.puzzle_solver.specs.Solved.{IsSolved}
use Rattle.puzzle_solver.specs.declared.order.Candidate.{Candidate}
use Rattle.puzzle_solver.specs.Orders.{IsSpillOrder}
use Rattle.puzzle_solver.specs.Prefixes.{IsShortest, without_variables}
use Rattle.allocator.specs.PointPuzzles.{puzzle_of, unplaced_states}
use Rattle.allocator.specs.Solutions.{AreSpots, spots_of, standing_by}
use Rattle.allocator.specs.Spills.{AreCandidates, HasPiece, variables_of}

-- ---- which pieces are removed

marked : List Piece → List Bool → List ℕ → List Bool
marked [] flags vs = []
marked (p ∷ pieces) [] vs = []
marked (p ∷ pieces) (flag ∷ flags) vs = (has_point p.var vs || flag) ∷ marked pieces flags vs

abbrev flags_of : List State → List Bool
flags_of states = map is_removed states

or-true : (b : Bool) → (b || true) ≡ true
or-true true = refl
or-true false = refl

or-false : (b : Bool) → (b || false) ≡ b
or-false true = refl
or-false false = refl

test-same : (m n : ℕ) → (m == n) ≡ (n == m)
test-same m n = elim (cases_eq m n) [
  | inl same ↦ equal-test m n same ∙ sym (equal-test n m (sym same))
  | inr other ↦ other-test m n other ∙ sym (other-test n m (λ e. other (sym e)))
]

-- one flag, once the pieces of a variable and then of others are removed
flag-one :
    (b rest : Bool) (s : State) → (rest || is_removed (cond b Removed s)) ≡ (cond b true rest || is_removed s)
flag-one true rest s = or-true rest
flag-one false rest s = refl

flags-one :
    (pieces : List Piece) (states : List State) (v : ℕ) (vs : List ℕ)
    → marked pieces (flags_of (removed_in pieces states v)) vs ≡ marked pieces (flags_of states) (v ∷ vs)
unfolding marked
flags-one [] states v vs = refl
flags-one (p ∷ pieces) [] v vs = refl
flags-one (p ∷ pieces) (s ∷ states) v vs =
    let first : (has_point p.var vs || is_removed (cond (p.var == v) Removed s))
    ≡ (cond (v == p.var) true (has_point p.var vs) || is_removed s) =
    flag-one (p.var == v) (has_point p.var vs) s
    ∙ ap (λ (b : Bool). cond b true (has_point p.var vs) || is_removed s) (test-same p.var v) in
    ap (λ (b : Bool). b ∷ marked pieces (flags_of (removed_in pieces states v)) vs) first
    ∙ ap (λ (more : List Bool). (cond (v == p.var) true (has_point p.var vs) || is_removed s) ∷ more)
    (flags-one pieces states v vs)

marked-none : (pieces : List Piece) (flags : List Bool) → length flags ≡ length pieces → marked pieces flags [] ≡ flags
unfolding marked
marked-none [] [] e = refl
marked-none [] (f ∷ flags) e = absurd (omega (arith, e))
marked-none (p ∷ pieces) [] e = absurd (omega (arith, e))
marked-none (p ∷ pieces) (f ∷ flags) e =
    ap (λ (more : List Bool). f ∷ more) (marked-none pieces flags (omega (arith, e)))

removed-long :
    (pieces : List Piece) (states : List State) (v : ℕ) → length states ≡ length pieces
    → length (flags_of (removed_in pieces states v)) ≡ length pieces
removed-long [] [] v e = refl
removed-long [] (s ∷ states) v e = absurd (omega (arith, e))
removed-long (p ∷ pieces) [] v e = absurd (omega (arith, e))
removed-long (p ∷ pieces) (s ∷ states) v e =
    let rest = removed-long pieces states v (omega (arith, e)) in omega (arith, rest)

flags-long : (states : List State) → length (flags_of states) ≡ length states
flags-long [] = refl
flags-long (s ∷ states) = let rest = flags-long states in omega (arith, rest)

flags-without :
    (vs : List ℕ) (board : Puzzle) → length board.states ≡ length board.pieces
    → flags_of (without_variables board vs).states ≡ marked board.pieces (flags_of board.states) vs
flags-without [] board e = sym (marked-none board.pieces (flags_of board.states) (flags-long board.states ∙ e))
flags-without (v ∷ vs) board e =
    flags-without vs (without_variable board v)
    (sym (flags-long (removed_in board.pieces board.states v)) ∙ removed-long board.pieces board.states v e)
    ∙ flags-one board.pieces board.states v vs

pub without-pieces : (vs : List ℕ) (board : Puzzle) → (without_variables board vs).pieces ≡ board.pieces
without-pieces [] board = refl
without-pieces (v ∷ vs) board = without-pieces vs (without_variable board v)

without-areas : (vs : List ℕ) (board : Puzzle) → (without_variables board vs).areas ≡ board.areas
without-areas [] board = refl
without-areas (v ∷ vs) board = without-areas vs (without_variable board v)

abbrev spilled_flags : List Piece → List ℕ → List Bool
spilled_flags pieces vs = map (λ p. has_point p.var vs) pieces

marked-fresh : (pieces : List Piece) (vs : List ℕ)
    → marked pieces (flags_of (unplaced_states pieces)) vs ≡ spilled_flags pieces vs
unfolding marked
marked-fresh [] vs = refl
marked-fresh (p ∷ pieces) vs =
    ap (λ (b : Bool). b ∷ marked pieces (flags_of (unplaced_states pieces)) vs) (or-false (has_point p.var vs))
    ∙ ap (λ (more : List Bool). has_point p.var vs ∷ more) (marked-fresh pieces vs)

fresh-long : (pieces : List Piece) → length (unplaced_states pieces) ≡ length pieces
fresh-long [] = refl
fresh-long (p ∷ pieces) = let rest = fresh-long pieces in omega (arith, rest)

-- ---- what is left, by these flags

heads : {A : Type 0} (x y : A) (xs ys : List A) → x ∷ xs ≡ y ∷ ys → x ≡ y
heads x y xs ys e = cc

tails : {A : Type 0} (x y : A) (xs ys : List A) → x ∷ xs ≡ y ∷ ys → xs ≡ ys
tails x y xs ys e = cc

remaining-flags :
    (pieces : List Piece) (states : List State) (vs : List ℕ) → flags_of states ≡ spilled_flags pieces vs
    → remaining_in pieces states ≡ unspilled vs pieces
remaining-flags [] states vs e = refl
remaining-flags (p ∷ pieces) [] vs e = absurd (cc)
remaining-flags (p ∷ pieces) (Unplaced ∷ states) vs e =
    let rest = remaining-flags pieces states vs (tails _ _ (flags_of states) (spilled_flags pieces vs) e) in
    let here : has_point p.var vs ≡ false = sym (heads _ _ (flags_of states) (spilled_flags pieces vs) e) in
    ap (λ (ps : List Piece). p ∷ ps) rest
    ∙ ap (λ (b : Bool). cond b (unspilled vs pieces) (p ∷ unspilled vs pieces)) (sym here)
remaining-flags (p ∷ pieces) (At spot ∷ states) vs e =
    let rest = remaining-flags pieces states vs (tails _ _ (flags_of states) (spilled_flags pieces vs) e) in
    let here : has_point p.var vs ≡ false = sym (heads _ _ (flags_of states) (spilled_flags pieces vs) e) in
    ap (λ (ps : List Piece). p ∷ ps) rest
    ∙ ap (λ (b : Bool). cond b (unspilled vs pieces) (p ∷ unspilled vs pieces)) (sym here)
remaining-flags (p ∷ pieces) (Removed ∷ states) vs e =
    let rest = remaining-flags pieces states vs (tails _ _ (flags_of states) (spilled_flags pieces vs) e) in
    let here : has_point p.var vs ≡ true = sym (heads _ _ (flags_of states) (spilled_flags pieces vs) e) in
    rest ∙ ap (λ (b : Bool). cond b (unspilled vs pieces) (p ∷ unspilled vs pieces)) (sym here)

standing-spots :
    (pieces : List Piece) (states : List State) → standing_by pieces (spots_of states) ≡ standing_in pieces states
standing-spots [] states = refl
standing-spots (p ∷ pieces) [] = refl
standing-spots (p ∷ pieces) (Unplaced ∷ states) = standing-spots pieces states
standing-spots (p ∷ pieces) (At spot ∷ states) =
    ap (λ (more : List Standing). record { piece = p; spot = spot } ∷ more) (standing-spots pieces states)
standing-spots (p ∷ pieces) (Removed ∷ states) = standing-spots pieces states

fewer : (pieces : List Piece) (states : List State) → length (standing_in pieces states)
    ≤ length (remaining_in pieces states)
fewer [] states = omega arith
fewer (p ∷ pieces) [] = omega arith
fewer (p ∷ pieces) (Unplaced ∷ states) = let rest = fewer pieces states in omega (arith, rest)
fewer (p ∷ pieces) (At spot ∷ states) = let rest = fewer pieces states in omega (arith, rest)
fewer (p ∷ pieces) (Removed ∷ states) = fewer pieces states

-- where as many stand as remain, none is unplaced
placed-all :
    (pieces : List Piece) (states : List State) (k : ℕ)
    → length (remaining_in pieces states) ≤ length (standing_in pieces states) → k < length pieces
    → slice_get states k ≡ Some Unplaced → ⊥
placed-all [] states k all lt e = absurd (omega (arith, lt))
placed-all (p ∷ pieces) [] k all lt e = none-some Unplaced e
placed-all (p ∷ pieces) (Unplaced ∷ states) k all lt e =
    let most = fewer pieces states in absurd (omega (arith, all, most))
placed-all (p ∷ pieces) (At spot ∷ states) zero all lt e = absurd (cc)
placed-all (p ∷ pieces) (At spot ∷ states) (suc k) all lt e =
    placed-all pieces states k (omega (arith, all)) (omega (arith, lt)) e
placed-all (p ∷ pieces) (Removed ∷ states) zero all lt e = absurd (cc)
placed-all (p ∷ pieces) (Removed ∷ states) (suc k) all lt e = placed-all pieces states k all (omega (arith, lt)) e

not-spilled : (v : ℕ) (vs : List ℕ) → false ≡ has_point v vs → IsIn v vs → ⊥
not-spilled v vs e i = true≢false (sym (in-test v vs i) ∙ sym e)

without-told :
    (pieces : List Piece) (states : List State) (vs : List ℕ) (k : ℕ) (p : Piece)
    → flags_of states ≡ spilled_flags pieces vs → slice_get pieces k ≡ Some p
    → (slice_get states k ≡ Some Unplaced → ⊥) → (slice_get (spots_of states) k ≡ Some None) ↔ IsIn p.var vs
without-told [] states vs k p e at un = absurd (none-some p at)
without-told (q ∷ pieces) [] vs k p e at un = absurd (cc)
without-told (q ∷ pieces) (Unplaced ∷ states) vs zero p e at un = absurd (un refl)
without-told (q ∷ pieces) (At spot ∷ states) vs zero p e at un =
    let here = heads _ _ (flags_of states) (spilled_flags pieces vs) e in (
      (λ f. absurd (cc)),
      (λ i. absurd (not-spilled q.var vs here
          (subst (λ (r : Piece). IsIn r.var vs) (sym (same_Some q p at)) i))),
    )
without-told (q ∷ pieces) (Removed ∷ states) vs zero p e at un =
    let here = heads _ _ (flags_of states) (spilled_flags pieces vs) e in (
      (λ f. subst (λ (r : Piece). IsIn r.var vs) (same_Some q p at) (test-in q.var vs (sym here))),
      (λ i. refl),
    )
without-told (q ∷ pieces) (s ∷ states) vs (suc k) p e at un =
    without-told pieces states vs k p (tails _ _ (flags_of states) (spilled_flags pieces vs) e) at un

spots-long : (states : List State) → length (spots_of states) ≡ length states
spots-long [] = refl
spots-long (s ∷ states) = let rest = spots-long states in omega (arith, rest)

-- the spots of a board that is solved without these variables
module _
    (areas : List Area) (pieces : List Piece) (vs : List ℕ) (new : Puzzle)
    (solved : IsSolved (without_variables (puzzle_of areas pieces) vs) new) where
  areas-are : new.areas ≡ areas
  areas-are = solved.onward.areas ∙ without-areas vs (puzzle_of areas pieces)

  pieces-are : new.pieces ≡ pieces
  pieces-are = solved.onward.pieces ∙ without-pieces vs (puzzle_of areas pieces)

  flags : flags_of new.states ≡ spilled_flags pieces vs
  flags =
      solved.onward.removed
      ∙ (flags-without vs (puzzle_of areas pieces) (fresh-long pieces) ∙ marked-fresh pieces vs)

  placed : IsLegalPlacement areas (remaining_in pieces new.states) (standing_in pieces new.states)
  placed =
      subst (λ (a : List Area). IsLegalPlacement a (remaining_in pieces new.states) (standing_in pieces new.states))
      areas-are
      (subst (λ (ps : List Piece). IsLegalPlacement new.areas (remaining_in ps new.states) (standing_in ps new.states))
      pieces-are solved.placed)

  left : remaining_in pieces new.states ≡ unspilled vs pieces
  left = remaining-flags pieces new.states vs flags

  unplaced : (k : ℕ) (p : Piece) → slice_get pieces k ≡ Some p → slice_get new.states k ≡ Some Unplaced → ⊥
  unplaced k p at e =
      let many : length (remaining_in pieces new.states) ≡ length (standing_in pieces new.states) =
      sym (ap (λ (ps : List Piece). length ps) placed.each)
      ∙ length-map (standing_in pieces new.states) (λ (s : Standing). s.piece) in
      placed-all pieces new.states k (omega (arith, many)) (slice_get_within pieces k p at) e

  pub spots-are : AreSpots areas pieces vs (spots_of new.states)
  spots-are = record {
    many = spots-long new.states ∙ (sym (flags-long new.states) ∙ (ap (λ (bs : List Bool). length bs) flags
        ∙ length-map pieces (λ (p : Piece). has_point p.var vs)));
    without = λ k p at. without-told pieces new.states vs k p flags at (unplaced k p at);
    placed =
        subst (λ (ps : List Piece). IsLegalPlacement areas ps (standing_by pieces (spots_of new.states))) left
        (subst (λ (ss : List Standing). IsLegalPlacement areas (remaining_in pieces new.states) ss)
        (sym (standing-spots pieces new.states)) placed);
  }

-- ---- the order

fresh-remaining : (pieces : List Piece) → remaining_in pieces (unplaced_states pieces) ≡ pieces
fresh-remaining [] = refl
fresh-remaining (p ∷ pieces) = ap (λ (ps : List Piece). p ∷ ps) (fresh-remaining pieces)

fresh-standing : (pieces : List Piece) → standing_in pieces (unplaced_states pieces) ≡ []
fresh-standing [] = refl
fresh-standing (p ∷ pieces) = fresh-standing pieces

pub nothing-stands : (areas : List Area) (pieces : List Piece) → standing (puzzle_of areas pieces) ≡ []
nothing-stands areas pieces = fresh-standing pieces

all-by :
    (P : Piece → Type 0) (pieces : List Piece) → ((k : ℕ) (p : Piece) → slice_get pieces k ≡ Some p → P p)
    → AllByRecursion P pieces
all-by P [] h = tt
all-by P (p ∷ pieces) h = (h 0 p refl, all-by P pieces (λ k q e. h (suc k) q e))

in-contains : (cs : List Candidate) (v : ℕ) → IsIn v (variables_of cs)
    → (c : Candidate) × Contains cs c × (c.variable ≡ v)
in-contains [] v i = absurd i
in-contains (c ∷ cs) v (inl e) = (c, (0, omega arith, refl), e)
in-contains (c ∷ cs) v (inr h) =
    let (d, (k, lt, is), e) = in-contains cs v h in (d, (suc k, omega (arith, lt), is), e)

contains-in : (cs : List Candidate) (c : Candidate) → Contains cs c → IsIn c.variable (variables_of cs)
contains-in [] c (k, lt, is) = absurd (omega (arith, lt))
contains-in (d ∷ cs) c (zero, lt, is) = inl (ap (λ (e : Candidate). e.variable) is)
contains-in (d ∷ cs) c (suc k, lt, is) = inr (contains-in cs c (k, omega (arith, lt), is))

in-among : (vs : List ℕ) (v : ℕ) → IsIn v vs → IsAmong vs v
in-among [] v i = absurd i
in-among (w ∷ vs) v (inl e) = inl (sym e)
in-among (w ∷ vs) v (inr h) = inr (in-among vs v h)

order-in :
    (cs : List Candidate) (order : List ℕ) (v : ℕ) → IsSpillOrder cs order → IsIn v (variables_of cs) → IsIn v order
order-in cs order v s i =
    let (c, has, e) = in-contains cs v i in
    let there = contains-in s.sorted c (Contains-permutation cs s.sorted c s.permuted has) in
    subst (λ (vs : List ℕ). IsIn v vs) (sym s.variables)
    (subst (λ (w : ℕ). IsIn w (variables_of s.sorted)) e there)

in-order :
    (cs : List Candidate) (order : List ℕ) (v : ℕ) → IsSpillOrder cs order → IsIn v order → IsIn v (variables_of cs)
in-order cs order v s i =
    let (c, has, e) = in-contains s.sorted v (subst (λ (vs : List ℕ). IsIn v vs) s.variables i) in
    let there = contains-in cs c (Contains-permutation s.sorted cs c (IsPermutation-sym cs s.sorted s.permuted) has) in
    subst (λ (w : ℕ). IsIn w (variables_of cs)) e there

-- each variable of a piece is in the order
pub pieces-ordered :
    (flow : Flow) (point : ℕ) (areas : List Area) (pieces : List Piece) (cs : List Candidate) (order : List ℕ)
    → AreCandidates flow point pieces cs → IsSpillOrder cs order
    → AllByRecursion (λ p. IsAmong order p.var) (remaining (puzzle_of areas pieces))
pieces-ordered flow point areas pieces cs order are s =
    subst (AllByRecursion (λ p. IsAmong order p.var)) (sym (fresh-remaining pieces))
    (all-by (λ p. IsAmong order p.var) pieces
    (λ k p e. in-among order p.var (order-in cs order p.var s ((are.each p.var).1 (k, p, e, refl)))))

in-front : (n : ℕ) (vs : List ℕ) (v : ℕ) → IsIn v (take n vs) → IsIn v vs
in-front zero vs v i = absurd i
in-front (suc n) [] v i = absurd i
in-front (suc n) (w ∷ vs) v (inl e) = inl e
in-front (suc n) (w ∷ vs) v (inr h) = inr (in-front n vs v h)

-- and each spilled variable has a piece
pub spilled-pieces :
    (flow : Flow) (point : ℕ) (board : Puzzle) (pieces : List Piece) (cs : List Candidate) (order spilled : List ℕ)
    → AreCandidates flow point pieces cs → IsSpillOrder cs order → IsShortest board order spilled
    → AllByRecursion (HasPiece pieces) spilled
spilled-pieces flow point board pieces cs order spilled are s short =
    every-from (HasPiece pieces) spilled
    (λ v i. (are.each v).0 (in-order cs order v s
    (in-front (length spilled) order v (subst (λ (vs : List ℕ). IsIn v vs) short.prefix i))))

-- ---- the spots so far

spots-step :
    (states : List State) (i : ℕ) (o : Option Spot) → i < length states → o ≡ spot_in (slice_get states i)
    → take (suc i) (spots_of states) ≡ take i (spots_of states) ++ o ∷ []
spots-step [] i o lt e = absurd (omega (arith, lt))
spots-step (s ∷ states) zero o lt e = ap (λ (x : Option Spot). x ∷ []) (sym e)
spots-step (s ∷ states) (suc i) o lt e =
    ap (λ (more : List (Option Spot)). spot_in (Some s) ∷ more) (spots-step states i o (omega (arith, lt)) e)

pub spots-more :
    (states : List State) (i : ℕ) (o : Option Spot) (spots new : List (Option Spot)) → i < length states
    → o ≡ spot_in (slice_get states i) → spots ≡ take i (spots_of states) → new ≡ spots ++ o ∷ []
    → new ≡ take (i + 1) (spots_of states)
spots-more states i o spots new lt e far is =
    is ∙ (ap (λ (ss : List (Option Spot)). ss ++ o ∷ []) far ∙ (sym (spots-step states i o lt e)
    ∙ ap (λ (n : ℕ). take n (spots_of states)) (next-is i)))
  where
    next-is : (n : ℕ) → suc n ≡ n + 1
    next-is n = omega arith

pub spots-end :
    (states : List State) (i : ℕ) (spots : List (Option Spot)) → length states ≤ i
    → spots ≡ take i (spots_of states) → spots ≡ spots_of states
spots-end states i spots le far =
    far ∙ take_all i (spots_of states) (let e = spots-long states in omega (arith, e, le))

-- Variables are removed one after another, until the board is solvable.
use Rattle.std.proofs.Common.{ℕ, zero, suc, ◌≡◌, ◌≤◌, ◌<◌, ◌⊎◌, inl, inr, refl, sym, ◌∙◌, ap, subst, Bool, true}
use Rattle.std.proofs.Common.{false, cond, ◌==◌, List, [], ◌∷◌, ◌++◌, length, take, drop, slice_index_or, arith}
use Rattle.std.proofs.lemmas.Bool.{eqb-false}
use Rattle.std.specs.Bool.{OnFalse, OnTrue}
use Rattle.std.specs.List.{AllByRecursion}
use Rattle.puzzle_board.specs.declared.area.Area.{Area}
use Rattle.puzzle_board.specs.declared.piece.Piece.{Piece}
use Rattle.puzzle_board.specs.declared.piece.Spot.{Spot}
use Rattle.puzzle_board.specs.declared.piece.State.{State}
use Rattle.puzzle_board.specs.declared.piece.State.TheVariants.{Unplaced, At, Removed}
use Rattle.puzzle_board.specs.Boards.{Puzzle, remaining, remaining_in, removed_in, standing, without_variable}
use Rattle.puzzle_board.specs.Placements.{IsSolvable}
use Rattle.puzzle_solver.specs.Solved.{IsSolved}
use Rattle.puzzle_solver.proofs.Ends.{solved-solvable}
use Rattle.puzzle_board.specs.Classes.{IsAmong}
use Rattle.puzzle_solver.specs.Prefixes.{Fits, IsShortest, without_variables}

-- the first so many variables of the order are removed, nothing stands, and with fewer removed there was no placement
pub record SoFar (old : Puzzle) (order : List ℕ) (i : ℕ) (removed : List ℕ) (new : Puzzle) : Type 0 where
  pub board : new ≡ without_variables old (take i order)
  pub removed_is : removed ≡ take i order
  pub stands : standing new ≡ []
  pub left : AllByRecursion (λ p. IsAmong (drop i order) p.var) (remaining new)
  pub shorter : (n : ℕ) → n < i → ¬ Fits old (take n order)

-- ---- removing

-- one variable more is removed
without-next :
    (board : Puzzle) (order : List ℕ) (i d : ℕ) → i < length order
    → without_variables board (take (suc i) order)
    ≡ without_variable (without_variables board (take i order)) (slice_index_or order i d)
without-next board [] i d within = absurd (omega arith)
without-next board (v ∷ order) zero d within = refl
without-next board (v ∷ order) (suc i) d within = without-next (without_variable board v) order i d (omega arith)

pub without-areas : (board : Puzzle) (vs : List ℕ) → (without_variables board vs).areas ≡ board.areas
without-areas board [] = refl
without-areas board (v ∷ more) = without-areas (without_variable board v) more

-- the pieces that remain without a variable are those of the others
among-rest : (v : ℕ) (more : List ℕ) (w : ℕ) → (w == v) ≡ false → IsAmong (v ∷ more) w → IsAmong more w
among-rest v more w other (inl same) = absurd (eqb-false w v other same)
among-rest v more w other (inr rest) = rest

-- a piece that isn't removed remains, if it isn't the variable's
kept-unplaced :
    (v : ℕ) (more : List ℕ) (p : Piece) (pieces : List Piece) (rest : List State) (b : Bool) → (p.var == v) ≡ b
    → IsAmong (v ∷ more) p.var → AllByRecursion (λ q. IsAmong more q.var) (remaining_in pieces rest)
    → AllByRecursion (λ q. IsAmong more q.var) (remaining_in (p ∷ pieces) (cond b Removed Unplaced ∷ rest))
kept-unplaced v more p pieces rest true is here behind = behind
kept-unplaced v more p pieces rest false is here behind = (among-rest v more p.var is here, behind)

kept-at :
    (v : ℕ) (more : List ℕ) (p : Piece) (pieces : List Piece) (rest : List State) (spot : Spot) (b : Bool)
    → (p.var == v) ≡ b → IsAmong (v ∷ more) p.var
    → AllByRecursion (λ q. IsAmong more q.var) (remaining_in pieces rest)
    → AllByRecursion (λ q. IsAmong more q.var) (remaining_in (p ∷ pieces) (cond b Removed (At spot) ∷ rest))
kept-at v more p pieces rest spot true is here behind = behind
kept-at v more p pieces rest spot false is here behind = (among-rest v more p.var is here, behind)

kept-removed :
    (more : List ℕ) (p : Piece) (pieces : List Piece) (rest : List State) (b : Bool)
    → AllByRecursion (λ q. IsAmong more q.var) (remaining_in pieces rest)
    → AllByRecursion (λ q. IsAmong more q.var) (remaining_in (p ∷ pieces) (cond b Removed Removed ∷ rest))
kept-removed more p pieces rest true behind = behind
kept-removed more p pieces rest false behind = behind

left-removed :
    (v : ℕ) (more : List ℕ) (pieces : List Piece) (states : List State)
    → AllByRecursion (λ p. IsAmong (v ∷ more) p.var) (remaining_in pieces states)
    → AllByRecursion (λ p. IsAmong more p.var) (remaining_in pieces (removed_in pieces states v))
left-removed v more [] states all = tt
left-removed v more (p ∷ pieces) [] all = tt
left-removed v more (p ∷ pieces) (Unplaced ∷ states) all =
    kept-unplaced v more p pieces (removed_in pieces states v) (p.var == v) refl all.0
    (left-removed v more pieces states all.1)
left-removed v more (p ∷ pieces) (At spot ∷ states) all =
    kept-at v more p pieces (removed_in pieces states v) spot (p.var == v) refl all.0
    (left-removed v more pieces states all.1)
left-removed v more (p ∷ pieces) (Removed ∷ states) all =
    kept-removed more p pieces (removed_in pieces states v) (p.var == v) (left-removed v more pieces states all)

drop-next : (order : List ℕ) (i d : ℕ) → i < length order → drop i order ≡ slice_index_or order i d ∷ drop (suc i) order
drop-next [] i d within = absurd (omega arith)
drop-next (v ∷ order) zero d within = refl
drop-next (v ∷ order) (suc i) d within = drop-next order i d (omega arith)

take-next : (order : List ℕ) (i d : ℕ) → i < length order → take (suc i) order
    ≡ take i order ++ slice_index_or order i d ∷ []
take-next [] i d within = absurd (omega arith)
take-next (v ∷ order) zero d within = refl
take-next (v ∷ order) (suc i) d within = ap (λ more. v ∷ more) (take-next order i d (omega arith))

length-front : (order : List ℕ) (i : ℕ) → i ≤ length order → length (take i order) ≡ i
length-front order zero within = refl
length-front [] (suc i) within = absurd (omega arith)
length-front (v ∷ order) (suc i) within = ap suc (length-front order i (omega arith))

-- ---- the loop

pub so_far-none :
    (board : Puzzle) (order : List ℕ) → standing board ≡ []
    → AllByRecursion (λ p. IsAmong order p.var) (remaining board) → SoFar board order 0 [] board
so_far-none board order stands left = record {
  board = refl;
  removed_is = refl;
  stands = stands;
  left = left;
  shorter = λ n less. absurd (omega arith);
}

-- what is solvable now fits
fits-now :
    (old : Puzzle) (order : List ℕ) (i : ℕ) (removed : List ℕ) (now : Puzzle) → SoFar old order i removed now
    → Fits old (take i order) → IsSolvable now.areas (remaining now)
fits-now old order i removed now far (placed, legal) =
    let areas : now.areas ≡ old.areas =
    ap (λ (b : Puzzle). b.areas) far.board ∙ without-areas old (take i order) in
    subst (λ a. IsSolvable a (remaining now)) (sym areas)
    (subst (λ (b : Puzzle). IsSolvable old.areas (remaining b)) (sym far.board) (placed, legal))

-- there is no placement, so one variable more is removed
pub so_far-more :
    (old : Puzzle) (order : List ℕ) (i v d : ℕ) (removed : List ℕ) (now new : Puzzle) → SoFar old order i removed now
    → i < length order → v ≡ slice_index_or order i d → ¬ IsSolvable now.areas (remaining now)
    → new ≡ without_variable now v → standing new ≡ [] → SoFar old order (suc i) (removed ++ v ∷ []) new
so_far-more old order i v d removed now new far within v-is none new-is stands = record {
  board =
      new-is
      ∙ (ap (λ (b : Puzzle). without_variable b v) far.board
      ∙ (ap (λ (w : ℕ). without_variable (without_variables old (take i order)) w) v-is
      ∙ sym (without-next old order i d within)));
  removed_is =
      ap (λ vs. vs ++ v ∷ []) far.removed_is
      ∙ (ap (λ (w : ℕ). take i order ++ w ∷ []) v-is ∙ sym (take-next order i d within));
  stands = stands;
  left =
      let there = drop-next order i d within ∙ ap (λ (w : ℕ). w ∷ drop (suc i) order) (sym v-is) in
      let all = subst (λ (vs : List ℕ). AllByRecursion (λ p. IsAmong vs p.var) (remaining now)) there far.left in
      subst
      (λ (b : Puzzle). AllByRecursion (λ p. IsAmong (drop (suc i) order) p.var) (remaining b))
      (sym new-is)
      (left-removed v (drop (suc i) order) now.pieces now.states all);
  shorter = λ n less. nearer n (split n i (omega arith));
} where
  split : (n i : ℕ) → n ≤ i → (n < i) ⊎ (n ≡ i)
  split n i le = grind arith

  nearer : (n : ℕ) → (n < i) ⊎ (n ≡ i) → ¬ Fits old (take n order)
  nearer n (inl less) = far.shorter n less
  nearer n (inr same) = λ fits.
      none
      (fits-now old order i removed now far
      (subst (λ (m : ℕ). Fits old (take m order)) same fits))

-- ---- the ends

-- the board was solved, so the prefix is the shortest
pub so_far-solved :
    (old : Puzzle) (order : List ℕ) (i : ℕ) (removed : List ℕ) (now new : Puzzle) → SoFar old order i removed now
    → i ≤ length order → IsSolved now new → IsShortest old order removed
so_far-solved old order i removed now new far within solved =
    let long : length removed ≡ i = ap (λ vs. length vs) far.removed_is ∙ length-front order i within in
    let here : now ≡ without_variables old removed =
    far.board ∙ ap (λ (vs : List ℕ). without_variables old vs) (sym far.removed_is) in
    let areas : now.areas ≡ old.areas =
    ap (λ (b : Puzzle). b.areas) here ∙ without-areas old removed in
    record {
      prefix = far.removed_is ∙ ap (λ (n : ℕ). take n order) (sym long);
      fits =
          subst (λ (b : Puzzle). IsSolvable old.areas (remaining b)) here
          (subst (λ (a : List Area). IsSolvable a (remaining now)) areas (solved-solvable now new solved));
      shorter = λ n less. far.shorter n (omega arith);
    }

-- and solved from where the prefix is removed
pub solved-without :
    (old : Puzzle) (order : List ℕ) (i : ℕ) (removed : List ℕ) (now new : Puzzle) → SoFar old order i removed now
    → IsSolved now new → IsSolved (without_variables old removed) new
solved-without old order i removed now new far solved =
    let here : now ≡ without_variables old removed =
    far.board ∙ ap (λ (vs : List ℕ). without_variables old vs) (sym far.removed_is) in
    subst (λ (b : Puzzle). IsSolved b new) here solved

drop-none : (i : ℕ) → drop {A = ℕ} i [] ≡ []
drop-none zero = refl
drop-none (suc i) = refl

behind : (vs : List ℕ) (i : ℕ) → length vs ≤ i → drop i vs ≡ []
behind [] i end = drop-none i
behind (v ∷ vs) zero end = absurd (omega arith)
behind (v ∷ vs) (suc i) end = behind vs i (omega arith)

nothing-solvable :
    (areas : List Area) (ps : List Piece) → AllByRecursion (λ p. IsAmong [] p.var) ps → IsSolvable areas ps
nothing-solvable areas [] all = ([], record { each = refl; legal = tt })
nothing-solvable areas (p ∷ ps) all = absurd all.0

-- behind the whole order no piece remains, so there is a placement
pub none-remain :
    (old : Puzzle) (order : List ℕ) (i : ℕ) (removed : List ℕ) (now : Puzzle) → SoFar old order i removed now
    → length order ≤ i → IsSolvable now.areas (remaining now)
none-remain old order i removed now far end =
    nothing-solvable now.areas (remaining now)
    (subst (λ (vs : List ℕ). AllByRecursion (λ p. IsAmong vs p.var) (remaining now)) (behind order i end) far.left)

-- an answer that can't be false is true
pub surely :
    (r : Bool) (S P : Type 0) → OnFalse r (¬ S) → S → OnTrue r P → P
surely true S P never solvable solved = solved
surely false S P never solvable solved = absurd (never solvable)

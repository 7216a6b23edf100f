-- Boards of which each variable has one piece.
use Rattle.std.proofs.Common.{ℕ, zero, suc, ◌≡◌, ◌≤◌, ◌+◌, refl, sym, ap, ◌∙◌, Bool, true, false, ◌==◌, cond, List}
use Rattle.std.proofs.Common.{[], ◌∷◌, Some, arith}
use Rattle.std.specs.Prelude.{slice_get}
use Rattle.std.proofs.lemmas.Bool.{eqb-true}
use Rattle.std.proofs.lemmas.List.Sums.{sum_by-cons}
use Rattle.std.proofs.lemmas.Option.{none-some, same_Some}
use Rattle.puzzle_board.specs.declared.piece.Piece.{Piece}
use Rattle.puzzle_board.specs.declared.piece.State.{State}
use Rattle.puzzle_board.specs.declared.piece.State.TheVariants.{Unplaced, At, Removed}
use Rattle.puzzle_board.specs.Boards.{Puzzle, remaining_in}
use Rattle.puzzle_solver.specs.Texts.{IsNumbered}
use Rattle.least_spill.specs.Least.{HasOneEach}
use Rattle.least_spill.specs.Removing.{AreApart, holders}

-- ---- among those that remain

-- none of these pieces is the variable's
abbrev NotHeld : ℕ → List Piece → Type 0
NotHeld v pieces = (j : ℕ) (q : Piece) → slice_get pieces j ≡ Some q → q.var ≡ v → ⊥

-- no two of these are one variable's
abbrev OneEach : List Piece → Type 0
OneEach pieces =
    (i j : ℕ) (p q : Piece) → slice_get pieces i ≡ Some p → slice_get pieces j ≡ Some q → p.var ≡ q.var → i ≡ j

holders-cons :
    (v : ℕ) (p : Piece) (ps : List Piece) (b : Bool) → (p.var == v) ≡ b
    → holders v (p ∷ ps) ≡ cond b 1 0 + holders v ps
holders-cons v p ps b is =
    sum_by-cons (λ q. cond (q.var == v) 1 0) p ps ∙ ap (λ (c : Bool). cond c 1 0 + holders v ps) is

none-more :
    (v : ℕ) (p : Piece) (ps : List Piece) (b : Bool) → (p.var == v) ≡ b → (p.var ≡ v → ⊥) → holders v ps ≡ 0
    → holders v (p ∷ ps) ≡ 0
none-more v p ps true is other none = absurd (other (eqb-true p.var v is))
none-more v p ps false is other none = omega (arith, none, holders-cons v p ps false is)

none-remain :
    (v : ℕ) (pieces : List Piece) (states : List State) → NotHeld v pieces
    → holders v (remaining_in pieces states) ≡ 0
none-remain v [] states none = refl
none-remain v (p ∷ pieces) [] none = refl
none-remain v (p ∷ pieces) (Unplaced ∷ states) none =
    none-more v p (remaining_in pieces states) (p.var == v) refl (none 0 p refl)
    (none-remain v pieces states (λ j. none (suc j)))
none-remain v (p ∷ pieces) (At spot ∷ states) none =
    none-more v p (remaining_in pieces states) (p.var == v) refl (none 0 p refl)
    (none-remain v pieces states (λ j. none (suc j)))
none-remain v (p ∷ pieces) (Removed ∷ states) none = none-remain v pieces states (λ j. none (suc j))

one-more :
    (v : ℕ) (p : Piece) (ps : List Piece) (b : Bool) → (p.var == v) ≡ b → holders v ps ≤ 1
    → (p.var ≡ v → holders v ps ≡ 0) → holders v (p ∷ ps) ≤ 1
one-more v p ps true is one none =
    omega (arith, none (eqb-true p.var v is), holders-cons v p ps true is)
one-more v p ps false is one none = omega (arith, one, holders-cons v p ps false is)

-- the others are other variables'
others :
    (v : ℕ) (p : Piece) (pieces : List Piece) → OneEach (p ∷ pieces) → p.var ≡ v → NotHeld v pieces
others v p pieces one is = λ j q here same.
    let places = one 0 (suc j) p q refl here (is ∙ sym same) in absurd (omega (arith, places))

later : (p : Piece) (pieces : List Piece) → OneEach (p ∷ pieces) → OneEach pieces
later p pieces one = λ i j q r at_q at_r same.
    let places = one (suc i) (suc j) q r at_q at_r same in omega (arith, places)

one-remains :
    (v : ℕ) (pieces : List Piece) (states : List State) → OneEach pieces → holders v (remaining_in pieces states) ≤ 1
one-remains v [] states one = omega arith
one-remains v (p ∷ pieces) [] one = omega arith
one-remains v (p ∷ pieces) (Unplaced ∷ states) one =
    one-more v p (remaining_in pieces states) (p.var == v) refl (one-remains v pieces states (later p pieces one))
    (λ is. none-remain v pieces states (others v p pieces one is))
one-remains v (p ∷ pieces) (At spot ∷ states) one =
    one-more v p (remaining_in pieces states) (p.var == v) refl (one-remains v pieces states (later p pieces one))
    (λ is. none-remain v pieces states (others v p pieces one is))
one-remains v (p ∷ pieces) (Removed ∷ states) one = one-remains v pieces states (later p pieces one)

pub single-apart : (board : Puzzle) → HasOneEach board → AreApart board
single-apart board one = λ v. one-remains v board.pieces board.states one

-- ---- board files

numbered-at :
    (n : ℕ) (pieces : List Piece) (i : ℕ) (p : Piece) → IsNumbered n pieces → slice_get pieces i ≡ Some p
    → p.var ≡ n + i
numbered-at n [] i p numbered at = absurd (none-some p at)
numbered-at n (q ∷ pieces) zero p numbered at =
    let same = ap (λ (r : Piece). r.var) (same_Some q p at) in omega (arith, same, numbered.0)
numbered-at n (q ∷ pieces) (suc i) p numbered at = omega (arith, numbered-at (suc n) pieces i p numbered.1 at)

-- where piece i has variable i, each variable has one piece
pub numbered-single : (board : Puzzle) → IsNumbered 0 board.pieces → HasOneEach board
numbered-single board numbered = λ i j p q at_p at_q same.
    let first = numbered-at 0 board.pieces i p numbered at_p in
    let second = numbered-at 0 board.pieces j q numbered at_q in
    omega (arith, first, second, same)

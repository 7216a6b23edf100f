-- Candidates that ascend by their keys are in spill order.
use Rattle.std.proofs.Common.{ℕ, ◌≡◌, ◌<◌, ◌≤◌, ◌+◌, ◌⊎◌, inl, inr, false, List, length}
use Rattle.std.proofs.Common.{zero, suc, [], ◌∷◌, ◌++◌, map, get_or, Option, Some, None, refl, sym, ap, subst, arith}
use Rattle.std.specs.List.{AllAdjacentBelow, Contains}
use Rattle.std.proofs.lemmas.List.Sorted.{Contains-permutation}
use Rattle.std.specs.List.Sorted.{IsSortedByKey}
use Rattle.std.specs.Option.{option_cmp}
use Rattle.std.specs.Ordering.{is_lt, nat_cmp, ordering_then}
use Rattle.std.specs.declared.cmp.Ordering.{Ordering}
use Rattle.std.specs.declared.cmp.Ordering.TheVariants.{Less, Equal, Greater}
use Rattle.std.proofs.lemmas.Cmp.{ranked}
use Rattle.std.specs.declared.cmp.Reverse.{Reverse}
use Rattle.puzzle_board.specs.declared.piece.Piece.{Piece}
use Rattle.puzzle_board.specs.declared.piece.State.{State}
use Rattle.puzzle_board.specs.declared.piece.State.TheVariants.{Unplaced, At, Removed}
use Rattle.puzzle_board.specs.Boards.{Puzzle, remaining, remaining_in, with_piece}
use Rattle.puzzle_board.specs.Classes.{IsAmong}
use Rattle.puzzle_solver.specs.declared.order.Candidate.{Candidate}
use Rattle.puzzle_solver.specs.Orders.{IsFurther, IsSpillOrder, SpillsBefore, reversed, sort_key}

-- numbers compared one after the other
number-order :
    (j k m n : ℕ) (r s : Ordering) → r ≡ nat_cmp j k → s ≡ nat_cmp n m → is_lt (ordering_then r s) ≡ false
    → (k < j) ⊎ ((j ≡ k) × (m ≤ n))
number-order j k m n Less s first second up = absurd (cc)
number-order j k m n Greater s first second up = inl (ranked j k Greater first)
number-order j k m n Equal Less first second up = absurd (cc)
number-order j k m n Equal Equal first second up =
    inr (ranked j k Equal first, let same = ranked n m Equal second in omega arith)
number-order j k m n Equal Greater first second up =
    inr (ranked j k Equal first, let above = ranked n m Greater second in omega arith)

variable-order : (m n : ℕ) (s : Ordering) → s ≡ nat_cmp n m → is_lt s ≡ false → m ≤ n
variable-order m n Less second up = absurd (cc)
variable-order m n Equal second up = let same = ranked n m Equal second in omega arith
variable-order m n Greater second up = let above = ranked n m Greater second in omega arith

-- distances and variables by their keys
key-order :
    (a b : Option ℕ) (m n : ℕ)
    → is_lt (ordering_then (option_cmp (λ (x y : Reverse ℕ). nat_cmp y.0 x.0) (reversed b) (reversed a)) (nat_cmp n m))
    ≡ false
    → IsFurther a b ⊎ ((a ≡ b) × (m ≤ n))
key-order None None m n up = inr (refl, variable-order m n (nat_cmp n m) refl up)
key-order None (Some k) m n up = inl tt
key-order (Some j) None m n up = absurd (cc)
key-order (Some j) (Some k) m n up =
    elim (number-order j k m n (nat_cmp j k) (nat_cmp n m) refl refl up) [
      | inl h ↦ inl h
      | inr h ↦ inr (ap Some h.0, h.1)
    ]

-- candidates that ascend by their keys
pub in-order :
    (candidates : List Candidate)
    → IsSortedByKey sort_key
    (λ (x y : Option (Reverse ℕ) × ℕ). ordering_then (option_cmp (λ (r s : Reverse ℕ). nat_cmp s.0 r.0) x.0 y.0)
    (nat_cmp x.1 y.1))
    candidates
    → AllAdjacentBelow SpillsBefore candidates (length candidates)
in-order candidates up k d within =
    let c = get_or candidates k d in
    let e = get_or candidates (k + 1) d in
    key-order c.distance e.distance c.variable e.variable (up k d (omega arith) within)

among-at :
    (candidates : List Candidate) (k : ℕ) (c : Candidate) → k < length candidates → get_or candidates k c ≡ c
    → IsAmong (map (λ (d : Candidate). d.variable) candidates) c.variable
among-at [] k c within is = absurd (omega arith)
among-at (d ∷ candidates) zero c within is = inl (ap (λ (e : Candidate). e.variable) (sym is))
among-at (d ∷ candidates) (suc k) c within is = inr (among-at candidates k c (omega arith) is)

-- the variable of each candidate is in the order
pub ordered-among :
    (candidates : List Candidate) (order : List ℕ) (c : Candidate) → IsSpillOrder candidates order
    → Contains candidates c → IsAmong order c.variable
ordered-among candidates order c s h =
    let there = Contains-permutation candidates s.sorted c s.permuted h in
    subst (λ (vs : List ℕ). IsAmong vs c.variable) (sym s.variables) (among-at s.sorted there.0 c there.1 there.2)

-- one piece more remains
remaining-more-in :
    (pieces : List Piece) (states : List State) (p : Piece) → length states ≡ length pieces
    → remaining_in (pieces ++ p ∷ []) (states ++ Unplaced ∷ []) ≡ remaining_in pieces states ++ p ∷ []
remaining-more-in [] [] p same = refl
remaining-more-in [] (s ∷ states) p same = absurd (omega arith)
remaining-more-in (q ∷ pieces) [] p same = absurd (omega arith)
remaining-more-in (q ∷ pieces) (Unplaced ∷ states) p same =
    ap (λ more. q ∷ more) (remaining-more-in pieces states p (omega arith))
remaining-more-in (q ∷ pieces) (At spot ∷ states) p same =
    ap (λ more. q ∷ more) (remaining-more-in pieces states p (omega arith))
remaining-more-in (q ∷ pieces) (Removed ∷ states) p same = remaining-more-in pieces states p (omega arith)

pub remaining-more :
    (board : Puzzle) (p : Piece) → length board.states ≡ length board.pieces
    → remaining (with_piece board p) ≡ remaining board ++ p ∷ []
remaining-more board p same = remaining-more-in board.pieces board.states p same

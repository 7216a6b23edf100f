-- The variables of narrow pieces are in their spill order.
use Rattle.std.proofs.Common.{ℕ, zero, suc, ◌≡◌, ◌<◌, List, [], ◌∷◌, ◌+◌, ◌++◌}
use Rattle.std.proofs.Common.{◌∙◌, add-one, ap, take, length, map, arith, refl, get_or}
use Rattle.std.specs.List.{AllByRecursion, Contains}
use Rattle.std.proofs.lemmas.List.{length_push}
use Rattle.puzzle_board.specs.declared.piece.Piece.{Piece}
use Rattle.puzzle_solver.specs.declared.order.Candidate.{Candidate}
use Rattle.puzzle_solver.specs.Orders.{IsSpillOrder}
use Rattle.puzzle_board.specs.Boards.{Puzzle, remaining, with_piece}
use Rattle.puzzle_board.specs.Classes.{IsAmong}
use Rattle.puzzle_solver.proofs.Orders.{ordered-among, remaining-more}
use Rattle.graph_tests.specs.Narrow.{narrow_of}

contains-later :
    (d : Candidate) (candidates : List Candidate) (c : Candidate) → Contains candidates c
    → Contains (d ∷ candidates) c
contains-later d candidates c (k, within, is) = (suc k, omega arith, is)

all-among :
    (candidates : List Candidate) (order : List ℕ)
    → ((c : Candidate) → Contains candidates c → IsAmong order c.variable)
    → AllByRecursion (λ p. IsAmong order p.var) (map narrow_of candidates)
all-among [] order h = tt
all-among (d ∷ candidates) order h = (
  h d (zero, omega arith, refl),
  all-among candidates order (λ c i. h c (contains-later d candidates c i)),
)

pub narrow-among :
    (candidates : List Candidate) (order : List ℕ) → IsSpillOrder candidates order
    → AllByRecursion (λ p. IsAmong order p.var) (map narrow_of candidates)
narrow-among candidates order s = all-among candidates order (λ c h. ordered-among candidates order c s h)

narrow-more :
    (candidates : List Candidate) (i : ℕ) (d : Candidate) → i < length candidates
    → map narrow_of (take i candidates) ++ narrow_of (get_or candidates i d) ∷ []
    ≡ map narrow_of (take (suc i) candidates)
narrow-more [] i d within = absurd (omega arith)
narrow-more (c ∷ candidates) zero d within = refl
narrow-more (c ∷ candidates) (suc i) d within =
    ap (λ more. narrow_of c ∷ more) (narrow-more candidates i d (omega arith))

-- one piece more remains
pub narrow-step :
    (board : Puzzle) (candidates : List Candidate) (i : ℕ) (d : Candidate) → length board.states ≡ length board.pieces
    → i < length candidates → remaining board ≡ map narrow_of (take i candidates)
    → remaining (with_piece board (narrow_of (get_or candidates i d))) ≡ map narrow_of (take (i + 1) candidates)
narrow-step board candidates i d same within so_far =
    remaining-more board (narrow_of (get_or candidates i d)) same
    ∙ (ap (λ ps. ps ++ narrow_of (get_or candidates i d) ∷ []) so_far
    ∙ rw add-one (narrow-more candidates i d within))

pub counted-step :
    (board : Puzzle) (p : Piece) (i : ℕ) → length board.pieces ≡ i → length (with_piece board p).pieces ≡ i + 1
counted-step board p i same = length_push board.pieces p ∙ ap (λ n. n + 1) same

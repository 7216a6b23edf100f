-- Removing a variable's pieces one after another.
use Rattle.std.proofs.Common.{ℕ, zero, suc, ◌≡◌, ◌<◌, ap, ◌==◌, true, false, cond, List, [], ◌∷◌}
use Rattle.std.proofs.Common.{length, take, slice_set, slice_index_or, arith}
use Rattle.puzzle_board.specs.declared.piece.Piece.{Piece}
use Rattle.puzzle_board.specs.declared.piece.State.{State}
use Rattle.puzzle_board.specs.declared.piece.State.TheVariants.{Removed}
use Rattle.puzzle_board.specs.Boards.{removed_in}

-- one piece more is looked at, which is the variable's
pub removed_in-take_yes :
    (pieces : List Piece) (states : List State) (v i : ℕ) (d : Piece) → i < length pieces
    → length states ≡ length pieces → ((slice_index_or pieces i d).var == v) ≡ true
    → removed_in (take (suc i) pieces) states v ≡ slice_set (removed_in (take i pieces) states v) i Removed
removed_in-take_yes [] states v i d within same is = absurd (omega arith)
removed_in-take_yes (p ∷ pieces) [] v i d within same is = absurd (omega arith)
removed_in-take_yes (p ∷ pieces) (s ∷ states) v zero d within same is = ap (λ b. cond b Removed s ∷ states) is
removed_in-take_yes (p ∷ pieces) (s ∷ states) v (suc i) d within same is =
    ap (λ more. cond (p.var == v) Removed s ∷ more)
    (removed_in-take_yes pieces states v i d (omega arith) (omega arith) is)

-- one piece more is looked at, which isn't
pub removed_in-take_no :
    (pieces : List Piece) (states : List State) (v i : ℕ) (d : Piece) → i < length pieces
    → length states ≡ length pieces → ((slice_index_or pieces i d).var == v) ≡ false
    → removed_in (take (suc i) pieces) states v ≡ removed_in (take i pieces) states v
removed_in-take_no [] states v i d within same is = absurd (omega arith)
removed_in-take_no (p ∷ pieces) [] v i d within same is = absurd (omega arith)
removed_in-take_no (p ∷ pieces) (s ∷ states) v zero d within same is = ap (λ b. cond b Removed s ∷ states) is
removed_in-take_no (p ∷ pieces) (s ∷ states) v (suc i) d within same is =
    ap (λ more. cond (p.var == v) Removed s ∷ more)
    (removed_in-take_no pieces states v i d (omega arith) (omega arith) is)

-- The lines of a placement, one after another.
use Rattle.std.proofs.Common.{ℕ, zero, suc, ◌≡◌, ◌+◌, List, [], ◌∷◌, ◌++◌, take, Some}
use Rattle.std.proofs.Common.{refl, sym, ap, arith, ◌∙◌, add-one, append_assoc}
use Rattle.std.specs.List.{slice_get}
use Rattle.std.proofs.lemmas.List.{append-nil}
use Rattle.std.proofs.lemmas.Option.{none-some, same_Some}
use Rattle.pcc_base.specs.Ascii.{newline, space}
use Rattle.pcc_base.specs.declared.run.Width.TheVariants.{One}
use Rattle.puzzle_board.specs.declared.piece.Kind.TheVariants.{X}
use Rattle.puzzle_board.specs.declared.piece.Piece.{Piece}
use Rattle.puzzle_board.specs.declared.piece.State.{State}
use Rattle.puzzle_solver.specs.Texts.{line_of, lines_from}

no-more : (n : ℕ) → n ≡ n + zero
no-more n = omega arith

pub one-on : (n i : ℕ) → suc n + i ≡ n + suc i
one-on n i = omega arith

none-less : (i : ℕ) → 0 + i ≡ i
none-less i = omega arith

lines-more-from :
    (n : ℕ) (pieces : List Piece) (states : List State) (i : ℕ) (p : Piece) (s : State) → slice_get pieces i ≡ Some p
    → slice_get states i ≡ Some s
    → lines_from n (take (suc i) pieces) states ≡ lines_from n (take i pieces) states ++ line_of (n + i) p s
lines-more-from n [] states i p s e d = absurd (none-some p e)
lines-more-from n (q ∷ pieces) [] i p s e d = absurd (none-some s d)
lines-more-from n (q ∷ pieces) (t ∷ states) zero p s e d =
    rw (same_Some q p e, same_Some t s d) (append-nil (line_of n p s) ∙ ap (λ m. line_of m p s) (no-more n))
lines-more-from n (q ∷ pieces) (t ∷ states) (suc i) p s e d =
    ap (λ more. line_of n q t ++ more) (lines-more-from (suc n) pieces states i p s e d)
    ∙ (sym (append_assoc (line_of n q t) (lines_from (suc n) (take i pieces) states) (line_of (suc n + i) p s))
    ∙ ap (λ m. (line_of n q t ++ lines_from (suc n) (take i pieces) states) ++ line_of m p s) (one-on n i))

-- one piece more is written
pub lines-more :
    (pieces : List Piece) (states : List State) (i : ℕ) (p : Piece) (s : State) → slice_get pieces i ≡ Some p
    → slice_get states i ≡ Some s
    → lines_from 0 (take (i + 1) pieces) states ≡ lines_from 0 (take i pieces) states ++ line_of i p s
lines-more pieces states i p s e d =
    rw add-one (lines-more-from 0 pieces states i p s e d
    ∙ ap (λ m. lines_from 0 (take i pieces) states ++ line_of m p s)
    (none-less i))

-- a line that is put together piece by piece
pub put-line :
    (out a b c d e f g h i number area columns : List ℕ) (k w : ℕ) → a ≡ out ++ number → b ≡ a ++ space ∷ []
    → c ≡ b ++ k ∷ [] → d ≡ c ++ w ∷ [] → e ≡ d ++ space ∷ [] → f ≡ e ++ area → g ≡ f ++ space ∷ [] → h ≡ g ++ columns
    → i ≡ h ++ newline ∷ []
    → i ≡ out ++ (number ++ (space ∷ ((k ∷ w ∷ []) ++ (space ∷ (area ++ (space ∷ (columns ++ newline ∷ [])))))))
put-line out a b c d e f g h i number area columns k w is-a is-b is-c is-d is-e is-f is-g is-h is-i =
    rw (is-i, is-h, is-g, is-f, is-e, is-d, is-c, is-b, is-a) (simp append_assoc refl)

-- the line of a piece by what is read of it, behind the lines before
pub line-step :
    (pieces : List Piece) (states : List State) (i : ℕ) (p : Piece) (s : State) (before after : List ℕ)
    → slice_get pieces i ≡ Some p → slice_get states i ≡ Some s
    → before ≡ lines_from 0 (take i pieces) states → after ≡ before ++ line_of i p s
    → after ≡ lines_from 0 (take (i + 1) pieces) states
line-step pieces states i p s before after e d so_far is =
    is ∙ (ap (λ text. text ++ line_of i p s) so_far ∙ sym (lines-more pieces states i p s e d))

pub some-piece : Piece
some-piece = record { kind = X; width = One; var = 0 }

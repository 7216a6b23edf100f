-- The pieces that remain once variables are removed, and how many they are.
use Rattle.std.proofs.Common.{ℕ, zero, suc, ◌≡◌, ◌≤◌, ◌+◌, ◌⊎◌, inl, inr, refl, sym, ◌∙◌, ap, Bool, true, false}
use Rattle.std.proofs.Common.{◌&&◌, ◌==◌, cond, List, [], ◌∷◌, ◌++◌, length, Some, arith}
use Rattle.std.specs.Prelude.{slice_get, count_by}
use Rattle.std.proofs.lemmas.Bool.Decides.{nat_tests}
use Rattle.std.proofs.lemmas.List.Sums.{sum_by-cons}
use Rattle.std.proofs.lemmas.Option.{none-some, same_Some}
use Rattle.pcc_base.specs.declared.run.Width.{Width}
use Rattle.pcc_base.specs.declared.run.Width.TheVariants.{One, Two}
use Rattle.puzzle_board.specs.declared.piece.Kind.{Kind}
use Rattle.puzzle_board.specs.declared.piece.Kind.TheVariants.{X, Y, Z}
use Rattle.puzzle_board.specs.declared.piece.Piece.{Piece}
use Rattle.puzzle_board.specs.declared.piece.Spot.{Spot}
use Rattle.puzzle_board.specs.declared.piece.State.{State}
use Rattle.puzzle_board.specs.declared.piece.State.TheVariants.{Unplaced, At, Removed}
use Rattle.puzzle_board.specs.Boards.{Puzzle, is_piece, pieces_of, remaining, remaining_in, removed_in, same_letter}
use Rattle.puzzle_board.specs.Boards.{same_width, standing, standing_in, without_variable}
use Rattle.puzzle_solver.specs.Prefixes.{without_variables}
use Rattle.least_spill.specs.Removing.{holders}
pub use Rattle.puzzle_solver.proofs.Spilling.{without-areas}
use Rattle.least_spill.proofs.Ordered.{same-test}

-- ---- without a variable

-- the pieces that aren't the variable's
abbrev pub rest : ℕ → List Piece → List Piece
rest v [] = []
rest v (p ∷ ps) = cond (p.var == v) (rest v ps) (p ∷ rest v ps)

abbrev pub rests : List ℕ → List Piece → List Piece
rests [] ps = ps
rests (v ∷ vs) ps = rests vs (rest v ps)

-- a piece that isn't removed remains, if it isn't the variable's
kept-unplaced :
    (p : Piece) (pieces : List Piece) (more : List State) (left : List Piece) (b : Bool)
    → remaining_in pieces more ≡ left
    → remaining_in (p ∷ pieces) (cond b Removed Unplaced ∷ more) ≡ cond b left (p ∷ left)
kept-unplaced p pieces more left true is = is
kept-unplaced p pieces more left false is = ap (λ ps. p ∷ ps) is

kept-at :
    (p : Piece) (pieces : List Piece) (more : List State) (left : List Piece) (spot : Spot) (b : Bool)
    → remaining_in pieces more ≡ left
    → remaining_in (p ∷ pieces) (cond b Removed (At spot) ∷ more) ≡ cond b left (p ∷ left)
kept-at p pieces more left spot true is = is
kept-at p pieces more left spot false is = ap (λ ps. p ∷ ps) is

kept-removed :
    (p : Piece) (pieces : List Piece) (more : List State) (left : List Piece) (b : Bool)
    → remaining_in pieces more ≡ left → remaining_in (p ∷ pieces) (cond b Removed Removed ∷ more) ≡ left
kept-removed p pieces more left true is = is
kept-removed p pieces more left false is = is

remaining-rest :
    (v : ℕ) (pieces : List Piece) (states : List State)
    → remaining_in pieces (removed_in pieces states v) ≡ rest v (remaining_in pieces states)
remaining-rest v [] states = refl
remaining-rest v (p ∷ pieces) [] = refl
remaining-rest v (p ∷ pieces) (Unplaced ∷ states) =
    kept-unplaced p pieces (removed_in pieces states v) (rest v (remaining_in pieces states)) (p.var == v)
    (remaining-rest v pieces states)
remaining-rest v (p ∷ pieces) (At spot ∷ states) =
    kept-at p pieces (removed_in pieces states v) (rest v (remaining_in pieces states)) spot (p.var == v)
    (remaining-rest v pieces states)
remaining-rest v (p ∷ pieces) (Removed ∷ states) =
    kept-removed p pieces (removed_in pieces states v) (rest v (remaining_in pieces states)) (p.var == v)
    (remaining-rest v pieces states)

pub remaining-without :
    (board : Puzzle) (v : ℕ) → remaining (without_variable board v) ≡ rest v (remaining board)
remaining-without board v = remaining-rest v board.pieces board.states

pub remaining-rests :
    (board : Puzzle) (vs : List ℕ) → remaining (without_variables board vs) ≡ rests vs (remaining board)
remaining-rests board [] = refl
remaining-rests board (v ∷ vs) =
    remaining-rests (without_variable board v) vs ∙ ap (λ ps. rests vs ps) (remaining-without board v)

pub without-push :
    (board : Puzzle) (vs : List ℕ) (v : ℕ)
    → without_variables board (vs ++ v ∷ []) ≡ without_variable (without_variables board vs) v
without-push board [] v = refl
without-push board (w ∷ vs) v = without-push (without_variable board w) vs v

-- ---- nothing stands

still-unplaced :
    (p : Piece) (pieces : List Piece) (more : List State) (b : Bool) → standing_in pieces more ≡ []
    → standing_in (p ∷ pieces) (cond b Removed Unplaced ∷ more) ≡ []
still-unplaced p pieces more true is = is
still-unplaced p pieces more false is = is

still-removed :
    (p : Piece) (pieces : List Piece) (more : List State) (b : Bool) → standing_in pieces more ≡ []
    → standing_in (p ∷ pieces) (cond b Removed Removed ∷ more) ≡ []
still-removed p pieces more true is = is
still-removed p pieces more false is = is

none-stands :
    (v : ℕ) (pieces : List Piece) (states : List State) → standing_in pieces states ≡ []
    → standing_in pieces (removed_in pieces states v) ≡ []
none-stands v [] states none = refl
none-stands v (p ∷ pieces) [] none = refl
none-stands v (p ∷ pieces) (Unplaced ∷ states) none =
    still-unplaced p pieces (removed_in pieces states v) (p.var == v) (none-stands v pieces states none)
none-stands v (p ∷ pieces) (At spot ∷ states) none = absurd (cc)
none-stands v (p ∷ pieces) (Removed ∷ states) none =
    still-removed p pieces (removed_in pieces states v) (p.var == v) (none-stands v pieces states none)

pub without-stands :
    (board : Puzzle) (vs : List ℕ) → standing board ≡ [] → standing (without_variables board vs) ≡ []
without-stands board [] none = none
without-stands board (v ∷ vs) none =
    without-stands (without_variable board v) vs (none-stands v board.pieces board.states none)

-- ---- counting

count-cons :
    (f : Piece → Bool) (p : Piece) (ps : List Piece) → count_by f (p ∷ ps) ≡ cond (f p) 1 0 + count_by f ps
count-cons f p ps = sum_by-cons (λ q. cond (f q) 1 0) p ps

tested : (b c : Bool) → b ≡ c → cond b 1 0 ≡ cond {A = ℕ} c 1 0
tested b c is = ap {B = ℕ} (λ (a : Bool). cond a 1 0) is

fewer-step :
    (f : Piece → Bool) (p : Piece) (ps left : List Piece) (b : Bool) → count_by f left ≤ count_by f ps
    → count_by f (cond b left (p ∷ left)) ≤ count_by f (p ∷ ps)
fewer-step f p ps left true le = omega (arith, le, count-cons f p ps)
fewer-step f p ps left false le = omega (arith, le, count-cons f p ps, count-cons f p left)

-- no more pieces of any kind remain than there were
fewer-rest : (f : Piece → Bool) (v : ℕ) (ps : List Piece) → count_by f (rest v ps) ≤ count_by f ps
fewer-rest f v [] = omega arith
fewer-rest f v (p ∷ ps) = fewer-step f p ps (rest v ps) (p.var == v) (fewer-rest f v ps)

pub fewer-rests : (f : Piece → Bool) (vs : List ℕ) (ps : List Piece) → count_by f (rests vs ps) ≤ count_by f ps
fewer-rests f [] ps = omega arith
fewer-rests f (v ∷ vs) ps = omega (arith, fewer-rests f vs (rest v ps), fewer-rest f v ps)

length-step :
    (v : ℕ) (p : Piece) (ps left : List Piece) (b : Bool) → (p.var == v) ≡ b
    → length ps ≡ length left + holders v ps
    → suc (length ps) ≡ length (cond b left (p ∷ left)) + holders v (p ∷ ps)
length-step v p ps left true is all =
    omega (arith, all, count-cons (λ q. q.var == v) p ps, tested (p.var == v) true is)
length-step v p ps left false is all =
    omega (arith, all, count-cons (λ q. q.var == v) p ps, tested (p.var == v) false is)

-- what doesn't remain is the variable's
length-rest : (v : ℕ) (ps : List Piece) → length ps ≡ length (rest v ps) + holders v ps
length-rest v [] = refl
length-rest v (p ∷ ps) = length-step v p ps (rest v ps) (p.var == v) refl (length-rest v ps)

-- each variable takes one piece at most
pub length-rests :
    (vs : List ℕ) (ps : List Piece) → ((v : ℕ) → holders v ps ≤ 1) → length ps ≤ length (rests vs ps) + length vs
length-rests [] ps one = omega arith
length-rests (v ∷ vs) ps one =
    let later = length-rests vs (rest v ps)
    (λ w. omega (arith, one w, fewer-rest (λ q. q.var == w) v ps)) in
    omega (arith, later, length-rest v ps, one v)

-- each piece is of one kind and width
pub six-kinds :
    (ps : List Piece) → length ps
    ≡ pieces_of ps X One + pieces_of ps X Two + pieces_of ps Y One + pieces_of ps Y Two + pieces_of ps Z One
    + pieces_of ps Z Two
six-kinds [] = refl
six-kinds (p ∷ ps) =
    omega (
      arith,
      six-kinds ps,
      count-cons (is_piece X One) p ps,
      count-cons (is_piece X Two) p ps,
      count-cons (is_piece Y One) p ps,
      count-cons (is_piece Y Two) p ps,
      count-cons (is_piece Z One) p ps,
      count-cons (is_piece Z Two) p ps,
      one p.kind p.width,
    ) where
      one : (k : Kind) (w : Width) → cond (same_letter k X && same_width w One) 1 0
          + cond (same_letter k X && same_width w Two) 1 0 + cond (same_letter k Y && same_width w One) 1 0
          + cond (same_letter k Y && same_width w Two) 1 0 + cond (same_letter k Z && same_width w One) 1 0
          + cond (same_letter k Z && same_width w Two) 1 0
          ≡ 1
      one X One = refl
      one X Two = refl
      one Y One = refl
      one Y Two = refl
      one Z One = refl
      one Z Two = refl

-- ---- the one piece of a variable

abbrev pub IsIn : Piece → List Piece → Type 0
IsIn p [] = ⊥
IsIn p (q ∷ qs) = (p ≡ q) ⊎ IsIn p qs

held-step :
    (p q : Piece) (qs : List Piece) → 1 ≤ holders p.var qs → 1 ≤ holders p.var (q ∷ qs)
held-step p q qs some = omega (arith, some, count-cons (λ r. r.var == p.var) q qs)

held : (p : Piece) (ps : List Piece) → IsIn p ps → 1 ≤ holders p.var ps
held p [] none = absurd none
held p (q ∷ qs) (inl is) =
    let test = same-test q.var p.var (ap (λ (r : Piece). r.var) (sym is)) in
    omega (arith, count-cons (λ r. r.var == p.var) q qs, tested (q.var == p.var) true test)
held p (q ∷ qs) (inr there) = held-step p q qs (held p qs there)

out-step :
    (v : ℕ) (p : Piece) (ps : List Piece) (b : Bool) → (p.var == v) ≡ b → holders v (p ∷ ps) ≤ 0 → rest v ps ≡ ps
    → cond b (rest v ps) (p ∷ rest v ps) ≡ p ∷ ps
out-step v p ps true is none same =
    absurd (omega (arith, none, count-cons (λ q. q.var == v) p ps, tested (p.var == v) true is))
out-step v p ps false is none same = ap (λ qs. p ∷ qs) same

-- where no piece is the variable's all remain
out-none : (v : ℕ) (ps : List Piece) → holders v ps ≤ 0 → rest v ps ≡ ps
out-none v [] none = refl
out-none v (p ∷ ps) none =
    out-step v p ps (p.var == v) refl none
    (out-none v ps (omega (arith, none, count-cons (λ q. q.var == v) p ps)))

one-step :
    (f : Piece → Bool) (p q : Piece) (qs : List Piece) (b : Bool) → (q.var == p.var) ≡ b → holders p.var (q ∷ qs) ≤ 1
    → 1 ≤ holders p.var qs → count_by f qs ≡ count_by f (rest p.var qs) + cond (f p) 1 0
    → count_by f (q ∷ qs) ≡ count_by f (cond b (rest p.var qs) (q ∷ rest p.var qs)) + cond (f p) 1 0
one-step f p q qs true is one some more =
    absurd (omega (arith, one, some, count-cons (λ r. r.var == p.var) q qs, tested (q.var == p.var) true is))
one-step f p q qs false is one some more =
    omega (arith, more, count-cons f q qs, count-cons f q (rest p.var qs))

-- the variable's one piece is missing of those that were
pub one-out :
    (f : Piece → Bool) (p : Piece) (ps : List Piece) → IsIn p ps → holders p.var ps ≤ 1
    → count_by f ps ≡ count_by f (rest p.var ps) + cond (f p) 1 0
one-out f p [] none one = absurd none
one-out f p (q ∷ qs) (inl is) one =
    let test = same-test q.var p.var (ap (λ (r : Piece). r.var) (sym is)) in
    let none : holders p.var qs ≤ 0 =
    omega (arith, one, count-cons (λ r. r.var == p.var) q qs, tested (q.var == p.var) true test) in
    let left : rest p.var (q ∷ qs) ≡ qs =
    ap (λ (b : Bool). cond b (rest p.var qs) (q ∷ rest p.var qs)) test ∙ out-none p.var qs none in
    omega (
      arith,
      count-cons f q qs,
      ap (λ (ps : List Piece). count_by f ps) left,
      tested (f p) (f q) (ap (λ (r : Piece). f r) is),
    )
one-out f p (q ∷ qs) (inr there) one =
    let some = held p qs there in
    one-step f p q qs (q.var == p.var) refl one some
    (one-out f p qs there (omega (arith, one, count-cons (λ r. r.var == p.var) q qs)))

-- an unplaced piece is one of those that remain
pub in-remaining :
    (pieces : List Piece) (states : List State) (number : ℕ) (p : Piece) → slice_get pieces number ≡ Some p
    → slice_get states number ≡ Some Unplaced → IsIn p (remaining_in pieces states)
in-remaining [] states number p is unplaced = absurd (none-some p is)
in-remaining (q ∷ pieces) [] number p is unplaced = absurd (none-some Unplaced unplaced)
in-remaining (q ∷ pieces) (Unplaced ∷ states) zero p is unplaced = inl (sym (same_Some q p is))
in-remaining (q ∷ pieces) (At spot ∷ states) zero p is unplaced = absurd (cc)
in-remaining (q ∷ pieces) (Removed ∷ states) zero p is unplaced = absurd (cc)
in-remaining (q ∷ pieces) (Unplaced ∷ states) (suc number) p is unplaced =
    inr (in-remaining pieces states number p is unplaced)
in-remaining (q ∷ pieces) (At spot ∷ states) (suc number) p is unplaced =
    inr (in-remaining pieces states number p is unplaced)
in-remaining (q ∷ pieces) (Removed ∷ states) (suc number) p is unplaced =
    in-remaining pieces states number p is unplaced

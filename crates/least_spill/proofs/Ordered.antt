-- Variables in ascending order, without which a board is the same as without them in any other order.
use Rattle.std.proofs.Common.{ℕ, zero, suc, ◌≡◌, ◌≤◌, ◌<◌, ◌+◌, refl, sym, ◌∙◌, ap, subst, Bool, true}
use Rattle.std.proofs.Common.{false, ◌==◌, ◌||◌, cond, List, [], ◌∷◌, length, slice_index, arith}
use Rattle.std.specs.List.Sorted.{IsPermutation, IsSorted, IsStrictlyIncreasing}
use Rattle.std.specs.Ordering.{nat_cmp}
use Rattle.std.proofs.lemmas.Bool.Decides.{nat_tests}
use Rattle.std.proofs.lemmas.List.Sorted.{IsNonDecreasingBy-from_sort, sum_by-IsPermutation}
use Rattle.std.proofs.lemmas.List.Sums.{sum_by-cons}
use Rattle.puzzle_board.specs.declared.piece.Piece.{Piece}
use Rattle.puzzle_board.specs.declared.piece.State.{State}
use Rattle.puzzle_board.specs.declared.piece.State.TheVariants.{Removed}
use Rattle.puzzle_board.specs.Boards.{Puzzle, removed_in, without_variable}
use Rattle.puzzle_solver.specs.Prefixes.{without_variables}
use Rattle.least_spill.specs.Removing.{occurrences}

-- ---- which pieces are removed

abbrev among : ℕ → List ℕ → Bool
among v [] = false
among v (w ∷ ws) = v == w || among v ws

abbrev marked : List ℕ → List Piece → List State → List State
marked vs [] states = states
marked vs (p ∷ pieces) [] = []
marked vs (p ∷ pieces) (s ∷ states) = cond (among p.var vs) Removed s ∷ marked vs pieces states

marked-none : (pieces : List Piece) (states : List State) → marked [] pieces states ≡ states
marked-none [] states = refl
marked-none (p ∷ pieces) [] = refl
marked-none (p ∷ pieces) (s ∷ states) = ap (λ more. s ∷ more) (marked-none pieces states)

mark : (b m : Bool) (s : State) → cond m Removed (cond b Removed s) ≡ cond (b || m) Removed s
mark true true s = refl
mark true false s = refl
mark false true s = refl
mark false false s = refl

marked-more :
    (v : ℕ) (vs : List ℕ) (pieces : List Piece) (states : List State)
    → marked vs pieces (removed_in pieces states v) ≡ marked (v ∷ vs) pieces states
marked-more v vs [] states = refl
marked-more v vs (p ∷ pieces) [] = refl
marked-more v vs (p ∷ pieces) (s ∷ states) =
    ap (λ (t : State). t ∷ marked vs pieces (removed_in pieces states v)) (mark (p.var == v) (among p.var vs) s)
    ∙ ap (λ more. cond (p.var == v || among p.var vs) Removed s ∷ more) (marked-more v vs pieces states)

states-without :
    (board : Puzzle) (vs : List ℕ) → (without_variables board vs).states ≡ marked vs board.pieces board.states
states-without board [] = sym (marked-none board.pieces board.states)
states-without board (v ∷ vs) =
    states-without (without_variable board v) vs ∙ marked-more v vs board.pieces board.states

pub without-pieces : (board : Puzzle) (vs : List ℕ) → (without_variables board vs).pieces ≡ board.pieces
without-pieces board [] = refl
without-pieces board (v ∷ vs) = without-pieces (without_variable board v) vs

-- ---- in any order

occurs-cons :
    (v w : ℕ) (ws : List ℕ) (b : Bool) → (w == v) ≡ b → occurrences v (w ∷ ws) ≡ cond b 1 0 + occurrences v ws
occurs-cons v w ws b is =
    sum_by-cons (λ u. cond (u == v) 1 0) w ws ∙ ap (λ (c : Bool). cond c 1 0 + occurrences v ws) is

other-way : (v w : ℕ) (b : Bool) → (v == w) ≡ b → (w == v) ≡ b
other-way v w b is = grind (arith, nat_tests)

-- a variable is among those where it occurs
occurs :
    (v w : ℕ) (ws : List ℕ) (b m : Bool) → (v == w) ≡ b → (m ≡ true → 1 ≤ occurrences v ws)
    → (m ≡ false → occurrences v ws ≡ 0)
    → ((b || m) ≡ true → 1 ≤ occurrences v (w ∷ ws)) × ((b || m) ≡ false → occurrences v (w ∷ ws) ≡ 0)
occurs v w ws true m is some none = (
  λ h. omega (arith, occurs-cons v w ws true (other-way v w true is)),
  λ h. absurd (cc),
)
occurs v w ws false m is some none = (
  λ h. omega (arith, some h, occurs-cons v w ws false (other-way v w false is)),
  λ h. omega (arith, none h, occurs-cons v w ws false (other-way v w false is)),
)

among-occurs :
    (v : ℕ) (ws : List ℕ)
    → (among v ws ≡ true → 1 ≤ occurrences v ws) × (among v ws ≡ false → occurrences v ws ≡ 0)
among-occurs v [] = (λ h. absurd (cc), λ h. refl)
among-occurs v (w ∷ ws) =
    let more = among-occurs v ws in occurs v w ws (v == w) (among v ws) refl more.0 more.1

same-among :
    (v : ℕ) (xs ys : List ℕ) (b c : Bool) → among v xs ≡ b → among v ys ≡ c → occurrences v xs ≡ occurrences v ys
    → among v xs ≡ among v ys
same-among v xs ys true true x y same = x ∙ sym y
same-among v xs ys true false x y same =
    absurd (omega (arith, same, (among-occurs v xs).0 x, (among-occurs v ys).1 y))
same-among v xs ys false true x y same =
    absurd (omega (arith, same, (among-occurs v xs).1 x, (among-occurs v ys).0 y))
same-among v xs ys false false x y same = x ∙ sym y

same-marked :
    (xs ys : List ℕ) (pieces : List Piece) (states : List State)
    → ((v : ℕ) → occurrences v xs ≡ occurrences v ys) → marked xs pieces states ≡ marked ys pieces states
same-marked xs ys [] states same = refl
same-marked xs ys (p ∷ pieces) [] same = refl
same-marked xs ys (p ∷ pieces) (s ∷ states) same =
    ap (λ (b : Bool). cond b Removed s ∷ marked xs pieces states)
    (same-among p.var xs ys (among p.var xs) (among p.var ys) refl refl (same p.var))
    ∙ ap (λ more. cond (among p.var ys) Removed s ∷ more) (same-marked xs ys pieces states same)

pub permuted-occurs :
    (xs ys : List ℕ) → IsPermutation xs ys → (v : ℕ) → occurrences v xs ≡ occurrences v ys
permuted-occurs xs ys permuted v = sym (sum_by-IsPermutation (λ u. cond (u == v) 1 0) xs ys permuted)

-- the same pieces are removed
pub permuted-states :
    (board : Puzzle) (xs ys : List ℕ) → IsPermutation xs ys
    → (without_variables board xs).states ≡ (without_variables board ys).states
permuted-states board xs ys permuted =
    states-without board xs
    ∙ (same-marked xs ys board.pieces board.states (permuted-occurs xs ys permuted)
    ∙ sym (states-without board ys))

-- ---- ascending

pub same-test : (m n : ℕ) → m ≡ n → (m == n) ≡ true
same-test m n is = grind (arith, nat_tests)

more-occur : (v w : ℕ) (ws : List ℕ) → occurrences v ws ≤ occurrences v (w ∷ ws)
more-occur v w ws = omega (arith, occurs-cons v w ws (w == v) refl)

-- a number that is the same as the next occurs twice
twice :
    (xs : List ℕ) (k : ℕ) → suc k < length xs → slice_index xs k ≡ slice_index xs (suc k)
    → 2 ≤ occurrences (slice_index xs k) xs
twice [] k within same = absurd (omega arith)
twice (x ∷ []) zero within same = absurd (omega arith)
twice (x ∷ y ∷ xs) zero within same =
    omega (
      arith,
      occurs-cons x x (y ∷ xs) true (same-test x x refl),
      occurs-cons x y xs true (same-test y x (sym same)),
    )
twice (x ∷ xs) (suc k) within same =
    omega (arith, twice xs k (omega arith) same, more-occur (slice_index xs k) x xs)

less : (m n : ℕ) → m ≤ n → (m ≡ n → ⊥) → m < n
less m n le other = grind arith

-- numbers in order, each of which occurs once, ascend
pub sorted-ascends :
    (xs : List ℕ) → IsSorted nat_cmp xs → ((v : ℕ) → occurrences v xs ≤ 1) → IsStrictlyIncreasing xs
sorted-ascends xs sorted once = λ k within.
    less (slice_index xs k) (slice_index xs (k + 1))
    (IsNonDecreasingBy-from_sort (λ x. x) xs sorted k (k + 1) 0 (omega arith) within)
    (λ same.
    let next : k + 1 ≡ suc k = omega arith in
    let twin = subst (λ (n : ℕ). slice_index xs k ≡ slice_index xs n) next same in
    omega (arith, twice xs k (omega arith) twin, once (slice_index xs k)))

-- Segments in the order of their addresses overlap where one begins before the end of the one before it.
use Rattle.std.proofs.Common.{◌≡◌, ◌↔◌, ℕ, suc, ◌+◌, ◌<◌, ◌≤◌, List, ◌∷◌, length, All, AllPairs, refl}
use Rattle.std.proofs.Common.{arith, get_or, Bool, true, false}
use Rattle.std.proofs.Math.Dec.{ltb}
use Rattle.std.proofs.lemmas.Bool.{ltb-true, ltb-false}
use Rattle.std.specs.Bool.{Decides}
use Rattle.std.specs.List.Sorted.{IsNonDecreasingBy, IsPermutation}
use Rattle.std.proofs.lemmas.List.Sorted.{IsPermutation-sym}
use Rattle.std.proofs.lemmas.List.Elements.{All-cons, All-head, All-tail}
use Rattle.std.proofs.lemmas.List.Kept.{AllPairs-cons}
use Rattle.elf_image.specs.declared.distinct.Extent.{Extent}
use Rattle.elf_image.specs.MemoryExtents.{AreDistinct}
use Rattle.elf_image.proofs.Pairs.{pairs-permuted, pairs-split}

-- where it has memory, it begins at this address or behind it
abbrev pub BeginsFrom : ℕ → Extent → Type 0
BeginsFrom end extent = 0 < extent.size → end ≤ extent.address

-- those that are left begin behind what came before, and have no address in common
abbrev pub Follow : ℕ → List Extent → Type 0
Follow end extents = All (BeginsFrom end) extents × AllPairs AreDistinct extents

abbrev pub InOrder : List Extent → Type 0
InOrder extents = IsNonDecreasingBy (λ (extent : Extent). extent.address) extents

-- the rest of what is in order is in order
pub order-rest : (x : Extent) (xs : List Extent) → InOrder (x ∷ xs) → InOrder xs
order-rest x xs ordered = λ i j d less inside. ordered (suc i) (suc j) d (omega (arith, less)) (omega (arith, inside))

-- each later one begins where the first does, or behind it
order-first : (x : Extent) (xs : List Extent) → InOrder (x ∷ xs) → All (λ y. x.address ≤ y.address) xs
order-first x xs ordered = λ k d inside. ordered 0 (suc k) d (omega arith) (omega (arith, inside))

-- all begin at 0 or behind
pub from-zero : (extents : List Extent) → AllPairs AreDistinct extents ↔ Follow 0 extents
from-zero extents = (λ pairs. (λ k d inside some. omega arith, pairs), λ follow. follow.1)

-- one without memory has no address in common with any
empty-apart : (x : Extent) (xs : List Extent) → x.size ≡ 0 → All (AreDistinct x) xs
empty-apart x xs none = λ k d inside address a b. omega (arith, a.0, a.1, none)

-- and changes nothing for those behind it
pub step-empty : (end : ℕ) (x : Extent) (xs : List Extent) → x.size ≡ 0 → Follow end (x ∷ xs) ↔ Follow end xs
step-empty end x xs none = (
  λ follow. (All-tail (BeginsFrom end) x xs follow.0, (pairs-split AreDistinct x xs follow.1).1),
  λ follow. (
    All-cons (BeginsFrom end) x xs (λ some. omega (arith, some, none)) follow.0,
    AllPairs-cons AreDistinct x xs (empty-apart x xs none) follow.1,
  ),
)

-- one that begins where the first does or behind it, and is apart from it, begins behind its end
begins-behind : (x y : Extent) (before : Bool) → ltb y.address (x.address + x.size) ≡ before → x.address ≤ y.address
    → AreDistinct x y → BeginsFrom (x.address + x.size) y
begins-behind x y true e later apart some =
    absurd (apart y.address (later, ltb-true y.address (x.address + x.size) e) (omega arith, omega (arith, some)))
begins-behind x y false e later apart some = ltb-false y.address (x.address + x.size) e

-- one with memory that begins behind what came before
pub step-some : (end : ℕ) (x : Extent) (xs : List Extent) → InOrder (x ∷ xs) → 0 < x.size → end ≤ x.address
    → Follow end (x ∷ xs) ↔ Follow (x.address + x.size) xs
step-some end x xs ordered some begins = (
  λ follow.
      let pairs = pairs-split AreDistinct x xs follow.1 in
      let later = order-first x xs ordered in
      (λ k d inside. begins-behind x (get_or xs k d) _ refl (later k d inside) (pairs.0 k d inside), pairs.1),
  λ follow. (
    All-cons (BeginsFrom end) x xs (λ _. begins)
        (λ k d inside with-memory. omega (arith, begins, follow.0 k d inside with-memory)),
    AllPairs-cons AreDistinct x xs (λ k d inside address a b.
        omega (arith, a.1, b.0, b.1, follow.0 k d inside (omega (arith, b.0, b.1)))) follow.1,
  ),
)

-- one with memory that begins before the end of what came before
pub step-overlap : (end : ℕ) (x : Extent) (xs : List Extent) → 0 < x.size → x.address < end → Follow end (x ∷ xs) → ⊥
step-overlap end x xs some before follow =
    let begins = All-head (BeginsFrom end) x xs follow.0 some in omega (arith, before, begins)

-- where nothing is left, nothing overlaps
pub nothing-follows : (end : ℕ) (extents : List Extent) → length extents ≡ 0 → Follow end extents
nothing-follows end extents none =
    (λ k d inside. absurd (omega (arith, inside, none)), λ i j d less inside. absurd (omega (arith, inside, none)))

-- the order of segments doesn't matter
pub sorted-apart : (before after : List Extent) (apart : Bool) → IsPermutation before after
    → Decides apart (AllPairs AreDistinct after) → Decides apart (AllPairs AreDistinct before)
sorted-apart before after apart moved decides =
    let turned : (x y : Extent) → AreDistinct x y → AreDistinct y x =
    λ x y distinct address a b. distinct address b a in (
      λ e. pairs-permuted AreDistinct turned after before (IsPermutation-sym before after moved) (decides.0 e),
      λ all. decides.1 (pairs-permuted AreDistinct turned before after moved all),
    )

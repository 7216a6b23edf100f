-- The block that a statement starts, by its place in a list.
use Rattle.std.proofs.Common.{◌≡◌, ℕ, zero, suc, ◌≤◌, List, [], ◌∷◌, refl, arith, length, Option, None}
use Rattle.std.specs.Prelude.{slice_index_or}
use Rattle.lower.specs.StartedBlocks.{starts_at}

pub start-there : (starts : List (Option ℕ)) (place : ℕ) → slice_index_or starts place None ≡ starts_at starts place
start-there [] place = refl
start-there (x ∷ xs) zero = refl
start-there (x ∷ xs) (suc place) = start-there xs place

pub start-none : (starts : List (Option ℕ)) (place : ℕ) → length starts ≤ place → None ≡ starts_at starts place
start-none [] place w = refl
start-none (x ∷ xs) zero w = absurd (omega (arith, w))
start-none (x ∷ xs) (suc place) w = start-none xs place (omega (arith, w))

-- Numbers filed by class on index lists: a list for each class, which has exactly the numbers of the class.
use Rattle.std.specs.Prelude.{ℕ, zero, suc, ◌≡◌, ◌≢◌, ◌≤◌, ◌+◌, ◌⊎◌, Bool, false, ◌==◌, if◌then◌else◌}
use Rattle.std.specs.Prelude.{List, [], ◌∷◌, length, Option, Some, None, slice_get}
use Rattle.index_lists.specs.Lists.{Lists}

-- the class of a number, if it has one
abbrev pub class_at : List (Option ℕ) → ℕ → Option ℕ
class_at [] number = None
class_at (c ∷ classes) zero = c
class_at (c ∷ classes) (suc number) = class_at classes number

abbrev pub is_class : Option ℕ → ℕ → Bool
is_class None class = false
is_class (Some c) class = c == class

-- how many numbers have this class
abbrev pub class_count : List (Option ℕ) → ℕ → ℕ
class_count [] class = 0
class_count (c ∷ classes) class = (if is_class c class then 1 else 0) + class_count classes class

-- the number is one of these
abbrev pub IsAmong : List ℕ → ℕ → Type 0
IsAmong [] number = ⊥
IsAmong (x ∷ xs) number = (number ≡ x) ⊎ IsAmong xs number

-- so many lists, each of exactly the numbers of its class
pub record IsFiled (s : Lists) (many : ℕ) (classes : List (Option ℕ)) : Type 0 where
  pub as_many : length s.lists ≡ many
  pub room : length classes ≤ s.nodes
  pub listed : (number class : ℕ) → class_at classes number ≡ Some class
      → (xs : List ℕ) × (slice_get s.lists class ≡ Some xs) × IsAmong xs number
  pub only : (number class : ℕ) (xs : List ℕ) → slice_get s.lists class ≡ Some xs → IsAmong xs number
      → class_at classes number ≡ Some class
  pub counted : (class : ℕ) (xs : List ℕ) → slice_get s.lists class ≡ Some xs
      → length xs ≡ class_count classes class

-- one number has this class now, if any, and every other the class that it had
pub record IsRefiled (old new : List (Option ℕ)) (number : ℕ) (class : Option ℕ) : Type 0 where
  pub here : class_at new number ≡ class
  pub others : (other : ℕ) → other ≢ number → class_at new other ≡ class_at old other
  pub counts : (c : ℕ) → class_count new c + (if is_class (class_at old number) c then 1 else 0)
      ≡ class_count old c + (if is_class class c then 1 else 0)

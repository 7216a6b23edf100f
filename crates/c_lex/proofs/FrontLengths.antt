-- How many bytes stand before the first at which std's `position` stops.
use Rattle.std.proofs.Common.{◌≡◌, ◌≤◌, ◌∙◌, ℕ, Bool, not, cond, List, [], ◌∷◌, length, refl, sym, subst, arith}
use Rattle.std.proofs.lemmas.Bool.Decides.{nat_tests}
use Rattle.std.proofs.lemmas.List.Sums.{prefix_len-le-length}
use Rattle.std.specs.List.{prefix_len, position, position_or_len}
use Rattle.std.specs.Prelude.{nat_lt, Option, Some, None}
use Rattle.std.specs.Option.{unwrap_or}

-- tests that answer alike pass as many bytes
prefix_alike : (p q : ℕ → Bool) → ((b : ℕ) → p b ≡ q b) → (bytes : List ℕ) → prefix_len p bytes ≡ prefix_len q bytes
prefix_alike p q alike [] = refl
prefix_alike p q alike (b ∷ bytes) = let here = alike b in let behind = prefix_alike p q alike bytes in cc

-- a place in a list, or the list's length where the place is behind the list
place_or_end : (n whole : ℕ) → n ≤ whole → unwrap_or (cond (nat_lt n whole) (Some n) None) whole ≡ n
place_or_end n whole within = grind (arith, nat_tests)

-- where `position` finds the first byte that stops, or else the end, so many bytes in front stay
pub front_length : (stays stops : ℕ → Bool) → ((b : ℕ) → not (stops b) ≡ stays b) → (bytes : List ℕ) (found : Option ℕ)
    → found ≡ position stops bytes → unwrap_or found (length bytes) ≡ prefix_len stays bytes
front_length stays stops opposite bytes found is =
    subst (λ (r : Option ℕ). unwrap_or r (length bytes) ≡ prefix_len stays bytes) (sym is)
    (place_or_end (position_or_len stops bytes) (length bytes) (prefix_len-le-length (λ b. not (stops b)) bytes)
    ∙ prefix_alike (λ b. not (stops b)) stays opposite bytes)

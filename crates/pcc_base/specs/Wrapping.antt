-- Numbers of a fixed width, in two's complement (C99 6.2.6.2 and 6.3.1.3).
use Rattle.std.specs.Prelude.{ℕ, ◌-◌, ◌^◌, ◌≡◌, ℤ, pos, neg_ℤ, ◌+ℤ◌, ◌*ℤ◌, ◌≤ℤ◌, ◌<ℤ◌}

-- z and r differ by a multiple of the modulus
abbrev pub IsCongruent : ℤ → ℤ → ℤ → Type 0
IsCongruent modulus z r = (k : ℤ) × (z ≡ r +ℤ (k *ℤ modulus))

-- r is the signed number of w bits that equals z modulo 2 to the power w
pub record IsWrapped (w : ℕ) (z r : ℤ) : Type 0 where
  pub above : neg_ℤ (pos (2 ^ (w - 1))) ≤ℤ r
  pub below : r <ℤ pos (2 ^ (w - 1))
  pub congruent : IsCongruent (pos (2 ^ w)) z r

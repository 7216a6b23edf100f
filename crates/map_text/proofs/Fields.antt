-- Digits of the fields of a text.
use Rattle.std.proofs.Common.{◌≡◌, ◌<◌, ℕ, zero, suc, ◌+◌, ◌*◌, ◌/◌, ◌%◌, ◌^◌, [], ◌∷◌, length, decimal}
use Rattle.std.proofs.Common.{refl, arith, length-append}
use Rattle.std.proofs.Math.Nat.{pow-suc}
use Rattle.std.specs.List.{AllByRecursion}
use Rattle.std.proofs.lemmas.Fmt.{decimal_by_steps}
use Rattle.pcc_base.specs.Ascii.{digit_zero}
use Rattle.pcc_base.specs.Names.{IsDigit}
use Rattle.pcc_base.proofs.Lists.{all-append}
use Rattle.map_text.specs.Words.{hexadecimal, hexadecimal_digit}

-- decimal digits
pub decimal-digits : (n : ℕ) → n < 2 ^ 64 → AllByRecursion IsDigit (decimal n)
decimal-digits = decimal_by_steps (λ n ds. AllByRecursion IsDigit ds)
    (λ n h. ((omega arith, omega arith), tt))
    (λ n ds h all. all-append IsDigit ds ((digit_zero + n % 10) ∷ []) all ((omega arith, omega arith), tt))

pub hexadecimal-length : (k n : ℕ) → length (hexadecimal k n) ≡ k
hexadecimal-length zero n = refl
hexadecimal-length (suc k) n = rw (
  length-append (hexadecimal k (n / 16)) (hexadecimal_digit (n % 16) ∷ []),
  hexadecimal-length k (n / 16),
) (omega arith)

-- a number with one digit less
pub sixteenth : (k n : ℕ) → n < 16 ^ suc k → n / 16 < 16 ^ k
sixteenth k n small = let p : 16 ^ suc k ≡ 16 ^ k * 16 = pow-suc 16 k in omega arith

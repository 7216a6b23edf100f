-- A number, its Euclidean remainder, and the remainder less the divisor are congruent.
use Rattle.std.proofs.Common.{ℕ, suc, ℤ, pos, neg_ℤ, ◌+ℤ◌, ◌-ℤ◌, ◌*ℤ◌, ◌<ℤ◌, ◌≤ℤ◌, ◌≡◌, ◌<◌, ◌+◌, ◌-◌, ◌*◌, ◌/◌, ◌^◌}
use Rattle.std.proofs.Common.{arith, ap, sym, ◌∙◌, subst}
use lib.IntN.{negsuc, suc_ℤ}
use Rattle.std.proofs.Math.IntN.{suc_ℤ-*ℤ}
use Rattle.std.proofs.Math.Nat.{pow-succ'}
use Rattle.std.specs.Int.{int_rem_euclid}
use Rattle.std.proofs.lemmas.Int.{ints}
use Rattle.pcc_base.specs.Wrapping.{IsCongruent, IsWrapped}

-- a number is its Euclidean remainder and a multiple of the positive divisor
euclid : (z d : ℤ) → pos 0 <ℤ d → IsCongruent d z (int_rem_euclid z d)
euclid (pos a) (pos n) p = (pos (a / n), omega (arith, ints))
euclid (negsuc a) (pos n) p = (negsuc (a / n), omega (arith, ints))
euclid z (negsuc n) p = absurd (omega (arith, ints))

-- the same, for a number that is the remainder
pub low_congruent : (n d r : ℤ) → pos 0 <ℤ d → r ≡ int_rem_euclid n d → IsCongruent d n r
low_congruent n d r p e = subst (λ x. IsCongruent d n x) (sym e) (euclid n d p)

-- what is congruent stays so when the modulus is taken away
pub less_congruent : (n d r : ℤ) → IsCongruent d n r → IsCongruent d n (r -ℤ d)
less_congruent n d r h = (suc_ℤ h.0, h.1 ∙ rw suc_ℤ-*ℤ (omega (arith, ints)))

-- multiples of n that are less than n apart are one
close_multiples : (j i n : ℕ) → j * n < i * n + n → i * n < j * n + n → j ≡ i
close_multiples j i n p q = grind arith

-- congruent numbers less than the modulus apart are one
congruent_once : (h : ℕ) (z a b k l : ℤ) → neg_ℤ (pos h) ≤ℤ a → a <ℤ pos h → neg_ℤ (pos h) ≤ℤ b → b <ℤ pos h → z
    ≡ a +ℤ (k *ℤ pos (2 * h)) → z ≡ b +ℤ (l *ℤ pos (2 * h)) → a ≡ b
congruent_once h z a b (pos j) (pos i) p q r s e f =
    let same : j ≡ i = close_multiples j i (2 * h) (omega (arith, ints)) (omega (arith, ints)) in
    let product : j * (2 * h) ≡ i * (2 * h) = ap (λ x. x * (2 * h)) same in
    omega (arith, ints)
congruent_once h z a b (pos j) (negsuc i) p q r s e f = absurd (omega (arith, ints))
congruent_once h z a b (negsuc j) (pos i) p q r s e f = absurd (omega (arith, ints))
congruent_once h z a b (negsuc j) (negsuc i) p q r s e f =
    let same : j ≡ i = close_multiples j i (2 * h) (omega (arith, ints)) (omega (arith, ints)) in
    let product : j * (2 * h) ≡ i * (2 * h) = ap (λ x. x * (2 * h)) same in
    omega (arith, ints)

-- a number equals only one signed number of a width
pub wrapped_once : (w : ℕ) (z a b : ℤ) → 0 < w → IsWrapped w z a → IsWrapped w z b → a ≡ b
wrapped_once w z a b p r s =
    let suc_width : w ≡ suc (w - 1) = omega arith in
    let double : 2 ^ w ≡ 2 * 2 ^ (w - 1) = ap (λ x. 2 ^ x) suc_width ∙ pow-succ' 2 (w - 1) in
    congruent_once (2 ^ (w - 1)) z a b r.congruent.0 s.congruent.0 r.above r.below s.above s.below
    (subst (λ m. z ≡ a +ℤ (r.congruent.0 *ℤ pos m)) double r.congruent.1)
    (subst (λ m. z ≡ b +ℤ (s.congruent.0 *ℤ pos m)) double s.congruent.1)

-- The hexadecimal digits of a number, from the highest on.
use Rattle.std.proofs.Common.{◌≡◌, ℕ, ◌+◌, ◌-◌, ◌*◌, ◌/◌, ◌%◌, ◌^◌, ◌<◌, [], ◌∷◌, ◌++◌, refl, sym, ap, ◌∙◌, add-one}
use Rattle.std.proofs.Common.{pow-add, arith}
use Rattle.std.proofs.Math.Nat.{div-div-eq-div-mul, div-one}
use Rattle.map_text.specs.Words.{hexadecimal, hexadecimal_digit}

-- one digit more is the lowest
hexadecimal-lowest : (k n : ℕ) → hexadecimal (k + 1) n ≡ hexadecimal k (n / 16) ++ hexadecimal_digit (n % 16) ∷ []
hexadecimal-lowest k n = rw add-one refl

-- a number without four more of its bits
bits-fewer : (n k : ℕ) → k < 8 → n / 2 ^ (4 * (7 - k)) / 16 ≡ n / 2 ^ (4 * (8 - k))
bits-fewer n k h =
    let more : 4 * (7 - k) + 4 ≡ 4 * (8 - k) = omega arith in
    div-div-eq-div-mul n (2 ^ (4 * (7 - k))) 16
    ∙ ap (λ (p : ℕ). n / p) (sym (pow-add 2 (4 * (7 - k)) 4) ∙ ap (λ (j : ℕ). 2 ^ j) more)

-- the first k + 1 of the eight digits are the first k and the next one
pub hexadecimal-next : (n k : ℕ) → k < 8
    → hexadecimal (k + 1) (n / 2 ^ (4 * (8 - (k + 1))))
    ≡ hexadecimal k (n / 2 ^ (4 * (8 - k))) ++ hexadecimal_digit (n / 2 ^ (4 * (7 - k)) % 16) ∷ []
hexadecimal-next n k h =
    let place : 8 - (k + 1) ≡ 7 - k = omega arith in
    ap (λ (j : ℕ). hexadecimal (k + 1) (n / 2 ^ (4 * j))) place
    ∙ hexadecimal-lowest k (n / 2 ^ (4 * (7 - k)))
    ∙ ap (λ (m : ℕ). hexadecimal k m ++ hexadecimal_digit (n / 2 ^ (4 * (7 - k)) % 16) ∷ []) (bits-fewer n k h)

-- after eight digits none is left
pub hexadecimal-all : (n k : ℕ) → k ≡ 8 → hexadecimal k (n / 2 ^ (4 * (8 - k))) ≡ hexadecimal 8 n
hexadecimal-all n k h = rw h (ap (hexadecimal 8) (div-one n))

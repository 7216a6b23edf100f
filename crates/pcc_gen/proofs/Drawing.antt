-- A draw, as the code computes it.
use Rattle.std.proofs.Common.{◌≡◌, ℕ, ◌+◌, ◌*◌, ◌%◌, ◌/◌, ◌^◌, ap, ◌∙◌}
use Rattle.std.proofs.Math.Nat.{mod-add-mod, mul_comm}
use Rattle.pcc_gen.specs.Generated.{draw, next}

pub next_computed : (x : ℕ) → (x * 1103515245 % 2 ^ 32 + 12345) % 2 ^ 32 ≡ next x
unfolding next
next_computed x =
    mod-add-mod (x * 1103515245) (2 ^ 32) 12345 ∙ ap (λ p. (p + 12345) % 2 ^ 32) (mul_comm x 1103515245)

pub draw_computed : (k x y : ℕ) → y ≡ next x → y / 65536 % 32768 % k ≡ draw k x
unfolding draw
draw_computed k x y is = ap (λ z. z / 65536 % 32768 % k) is

-- Words of four bytes: the signed numbers that they read as, and distances.
use Rattle.std.specs.Prelude.{◌≡◌, ◌<◌, ◌≤◌, ℕ, ◌+◌, ◌%◌, ◌^◌, ℤ, [], FitsSigned}
use Rattle.std.specs.Int.{w32, cast_unsigned, cast_signed}
use Rattle.std.proofs.Common.{refl, ap, ◌∙◌, subst, arith, inl, inr}
use Rattle.std.proofs.lemmas.Int.{ints, to_z-of_z}
use Rattle.std.proofs.lemmas.Bool.{cases_lt, lt-ltb, le-ltb}
use Rattle.byteorder.specs.Endian.{little_bytes, twos_complement}
use Rattle.byteorder.specs.Numbers.{little_number-reads_back}
use Rattle.ia32_insn.specs.Spelling.{ReadsSigned}
use Rattle.ia32_insn.specs.Preferred.{word_bytes}
use Rattle.ia32_asm.specs.Sections.{distance_word}

-- a word as two's complement
pub twos_complement-word : (w : ℕ) → w < 2 ^ 32 → twos_complement 4 w ≡ cast_signed w32 w
twos_complement-word w h =
    elim (cases_lt w (2 ^ 31)) [
      | inl p ↦ rw (lt-ltb w (2 ^ 31) p) refl
      | inr q ↦ rw (le-ltb w (2 ^ 31) q, lt-ltb w (2 ^ 32) h) refl
    ]

-- four bytes of a word read as its signed number
pub reads_word : (w : ℕ) → w < 2 ^ 32 → ReadsSigned 4 (little_bytes 4 w) (cast_signed w32 w)
reads_word w h =
    record {
      count = refl;
      reads =
          ap (twos_complement 4) (little_number-reads_back 4 w [] h) ∙ twos_complement-word w h;
    }

-- a signed number of 32 bits is read from its bytes
pub reads_signed : (z : ℤ) → FitsSigned w32 z → ReadsSigned 4 (word_bytes z) z
reads_signed z f =
    subst (λ (y : ℤ). ReadsSigned 4 (word_bytes z) y) (to_z-of_z w32 z f)
    (reads_word (cast_unsigned w32 z) (omega (arith, ints)))

-- behind the distance from one place to another stands that other place, also where both are moved on
pub distance-leads : (base from to : ℕ) → from ≤ 2 ^ 32 → base + to < 2 ^ 32
    → (base + from + distance_word from to) % 2 ^ 32 ≡ base + to
distance-leads base from to h k = omega arith

-- a distance is a word
pub distance-fits : (from to : ℕ) → distance_word from to < 2 ^ 32
distance-fits from to = omega arith

-- Signed numbers as words and bytes: what operations on words make of them.
use Rattle.std.proofs.Common.{◌≡◌, ℕ, ◌-◌, ◌*◌, ◌%◌, ◌^◌, ◌<◌, ℤ, ◌+ℤ◌, ◌-ℤ◌, ◌*ℤ◌, pos, negsuc, sym, ap, ◌∙◌, arith}
use Rattle.std.specs.Prelude.{FitsSigned, bit_and, bit_or, bit_xor}
use Rattle.std.specs.Int.{w8, w32, cast_unsigned, cast_signed, int_wrap, int_bit_and, int_bit_or, int_bit_xor}
use Rattle.std.proofs.Math.Nat.{mod-lt}
use Rattle.std.proofs.lemmas.Nat.{and_le_l, or_of_32, xor_of_32}
use Rattle.std.proofs.lemmas.Int.{ints, to_z-of_z, of_z-to_z, wrapping_add-bits, wrapping_sub-bits, wrapping_mul-bits}
use Rattle.std.proofs.lemmas.Int.{SFits-int_wrap}
use Rattle.flow_graph.proofs.Numbers.{and-fits, or-fits, xor-fits}
use Rattle.ia32_insn.specs.declared.insn.AluOp.TheVariants as alu
use Rattle.ia32_insn.specs.Arithmetic.{alu_value, sum, difference, product}

-- the bits of a number are a word
pub word-fits : (z : ℤ) → FitsSigned w32 z → cast_unsigned w32 z < 2 ^ 32
word-fits z fits = omega (arith, ints)

-- and those of a number of 8 bits a byte
pub byte-fits : (z : ℤ) → FitsSigned w8 z → cast_unsigned w8 z < 256
byte-fits z fits = omega (arith, ints)

-- the low byte of a number's word is that of the number wrapped at 8 bits
pub low-byte : (n : ℤ) → FitsSigned w32 n → cast_unsigned w32 n % 256 ≡ cast_unsigned w8 (int_wrap w8 n)
unfolding int_wrap
low-byte (pos a) h = sym (of_z-to_z w8 (a % 256) (mod-lt a (omega arith)))
low-byte (negsuc a) h =
    let small = h.sfits in
    let same : (0x1_0000_0000 - ℕ.suc a) % 256 ≡ 256 - 1 - a % 256 = omega (arith, small) in
    same ∙ sym (of_z-to_z w8 (256 - 1 - a % 256) (omega arith))

-- What an operation makes of the words of two numbers is the word of what the function makes of the numbers.
pub record IsComputedBy (how : ℕ → ℕ → ℕ) (f : ℤ → ℤ → ℤ) : Type 0 where
  pub fits : (x y : ℤ) → FitsSigned w32 x → FitsSigned w32 y → FitsSigned w32 (f x y)
  pub word : (x y : ℤ) → FitsSigned w32 x → FitsSigned w32 y
      → cast_unsigned w32 (f x y) ≡ how (cast_unsigned w32 x) (cast_unsigned w32 y)
  pub below : (m n : ℕ) → m < 2 ^ 32 → n < 2 ^ 32 → how m n < 2 ^ 32

-- ADD
pub sum-computed : IsComputedBy (alu_value alu.Add) (λ x y. int_wrap w32 (x +ℤ y))
sum-computed =
    record {
      fits = λ x y f g. SFits-int_wrap w32 (x +ℤ y);
      word = λ x y f g. word x y f g;
      below = λ m n f g. omega arith;
    }
  where
    word : (x y : ℤ) → FitsSigned w32 x → FitsSigned w32 y
        → cast_unsigned w32 (int_wrap w32 (x +ℤ y)) ≡ sum (cast_unsigned w32 x) (cast_unsigned w32 y)
    word x y f g =
        let m : ℕ = cast_unsigned w32 x in
        let n : ℕ = cast_unsigned w32 y in
        let bits = wrapping_add-bits w32 m n (word-fits x f) (word-fits y g) in
        let same : x +ℤ y ≡ cast_signed w32 m +ℤ cast_signed w32 n = ap (λ (z : ℤ). z +ℤ y) (sym (to_z-of_z w32 x f))
        ∙ ap (λ (z : ℤ). cast_signed w32 m +ℤ z) (sym (to_z-of_z w32 y g)) in
        ap (λ (z : ℤ). cast_unsigned w32 (int_wrap w32 z)) same ∙ ap (cast_unsigned w32) (sym bits)
        ∙ of_z-to_z w32 (sum m n) (omega arith)

-- SUB
pub difference-computed : IsComputedBy (alu_value alu.Sub) (λ x y. int_wrap w32 (x -ℤ y))
difference-computed =
    record {
      fits = λ x y f g. SFits-int_wrap w32 (x -ℤ y);
      word = λ x y f g. word x y f g;
      below = λ m n f g. omega arith;
    }
  where
    word : (x y : ℤ) → FitsSigned w32 x → FitsSigned w32 y
        → cast_unsigned w32 (int_wrap w32 (x -ℤ y)) ≡ difference (cast_unsigned w32 x) (cast_unsigned w32 y)
    word x y f g =
        let m : ℕ = cast_unsigned w32 x in
        let n : ℕ = cast_unsigned w32 y in
        let bits = wrapping_sub-bits w32 m n (word-fits x f) (word-fits y g) in
        let same : x -ℤ y ≡ cast_signed w32 m -ℤ cast_signed w32 n = ap (λ (z : ℤ). z -ℤ y) (sym (to_z-of_z w32 x f))
        ∙ ap (λ (z : ℤ). cast_signed w32 m -ℤ z) (sym (to_z-of_z w32 y g)) in
        ap (λ (z : ℤ). cast_unsigned w32 (int_wrap w32 z)) same ∙ ap (cast_unsigned w32) (sym bits)
        ∙ of_z-to_z w32 (difference m n) (omega arith)

-- IMUL
pub product-computed : IsComputedBy product (λ x y. int_wrap w32 (x *ℤ y))
product-computed =
    record {
      fits = λ x y f g. SFits-int_wrap w32 (x *ℤ y);
      word = λ x y f g. word x y f g;
      below = λ m n f g. mod-lt (m * n) (omega arith);
    }
  where
    word : (x y : ℤ) → FitsSigned w32 x → FitsSigned w32 y
        → cast_unsigned w32 (int_wrap w32 (x *ℤ y)) ≡ product (cast_unsigned w32 x) (cast_unsigned w32 y)
    word x y f g =
        let m : ℕ = cast_unsigned w32 x in
        let n : ℕ = cast_unsigned w32 y in
        let bits = wrapping_mul-bits w32 m n (word-fits x f) (word-fits y g) in
        let same : x *ℤ y ≡ cast_signed w32 m *ℤ cast_signed w32 n = ap (λ (z : ℤ). z *ℤ y) (sym (to_z-of_z w32 x f))
        ∙ ap (λ (z : ℤ). cast_signed w32 m *ℤ z) (sym (to_z-of_z w32 y g)) in
        ap (λ (z : ℤ). cast_unsigned w32 (int_wrap w32 z)) same ∙ ap (cast_unsigned w32) (sym bits)
        ∙ of_z-to_z w32 (product m n) (mod-lt (m * n) (omega arith))

-- AND, OR, XOR
and-below : (m n : ℕ) → m < 2 ^ 32 → bit_and m n < 2 ^ 32
and-below m n h = let less = and_le_l m n in omega arith

pub and-computed : IsComputedBy (alu_value alu.And) (int_bit_and w32)
and-computed =
    record {
      fits = λ x y f g. and-fits x y;
      word = λ x y f g. of_z-to_z w32 (bit_and (cast_unsigned w32 x) (cast_unsigned w32 y))
          (and-below (cast_unsigned w32 x) (cast_unsigned w32 y) (word-fits x f));
      below = λ m n f g. and-below m n f;
    }

pub or-computed : IsComputedBy (alu_value alu.Or) (int_bit_or w32)
or-computed =
    record {
      fits = λ x y f g. or-fits x y;
      word = λ x y f g. of_z-to_z w32 (bit_or (cast_unsigned w32 x) (cast_unsigned w32 y))
          (or_of_32 (cast_unsigned w32 x) (cast_unsigned w32 y) (word-fits x f) (word-fits y g));
      below = λ m n f g. or_of_32 m n f g;
    }

pub xor-computed : IsComputedBy (alu_value alu.Xor) (int_bit_xor w32)
xor-computed =
    record {
      fits = λ x y f g. xor-fits x y;
      word = λ x y f g. of_z-to_z w32 (bit_xor (cast_unsigned w32 x) (cast_unsigned w32 y))
          (xor_of_32 (cast_unsigned w32 x) (cast_unsigned w32 y) (word-fits x f) (word-fits y g));
      below = λ m n f g. xor_of_32 m n f g;
    }

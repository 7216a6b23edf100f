-- ModRM, SIB and displacement of the preferred spelling read as the operand.
use Rattle.std.specs.Prelude.{◌≡◌, ◌≢◌, ℕ, zero, suc, ◌^◌, ◌<◌, ℤ, pos, negsuc, int_le, true, false, not, ◌&&◌, ◌==◌}
use Rattle.std.specs.Prelude.{List, [], ◌∷◌, ◌++◌, Option, Some, None, option_map, refl}
use Rattle.std.proofs.Common.{sym, ◌∙◌, ap, inl, inr, append_assoc, append-nil, arith, lit<}
use Rattle.std.specs.Int.{w8, w32, cast_unsigned}
use Rattle.std.specs.Int.RustNames.{FitsSigned}
use Rattle.std.proofs.lemmas.Bool.{cases_Bool, cases_eq, and_parts, eqb-false, ne_eqb, eq-eqb, not-true}
use Rattle.std.proofs.lemmas.Bool.Decides.{nat_tests}
use Rattle.std.proofs.lemmas.Int.{ints}
use Rattle.byteorder.specs.Endian.{little_number, twos_complement}
use Rattle.byteorder.specs.Numbers.{little_number-reads_back, length-bytes_low_first}
use Rattle.ia32_insn.specs.Registers.{number32, number8}
use Rattle.ia32_insn.specs.declared.register_names.Reg32.{Reg32}
use Rattle.ia32_insn.specs.declared.register_names.Reg32.TheVariants.{Eax, Ecx, Edx, Ebx, Esp, Ebp, Esi, Edi}
use Rattle.ia32_insn.specs.declared.register_names.Reg8.{Reg8}
use Rattle.ia32_insn.specs.declared.register_names.Reg8.TheVariants.{Al, Cl, Dl, Bl, Ah, Ch, Dh, Bh}
use Rattle.ia32_insn.specs.declared.operand.Mem.{Mem}
use Rattle.ia32_insn.specs.Spelling.{ReadsSigned, IsAddress, HasSib, IsMemory, HasFields, Operand, InRegister, InMemory}
use Rattle.ia32_insn.specs.Spelling.{high_field, middle_field, low_field, base_named, displacement_size, index_named}
use Rattle.ia32_insn.specs.Preferred.{byte_bytes, word_bytes, fits_byte, fields_byte, base_number, mod_for}
use Rattle.ia32_insn.specs.Preferred.{displacement_for, scale_bits, sib_for, needs_sib, fields_for}
use Rattle.ia32_asm.specs.Parts.{IsOperand, IsIndex}
pub use Rattle.ia32_insn.proofs.Registers.{number32_below as number32-lt}
pub use Rattle.ia32_insn.proofs.Rows.{number8_below as number8-lt}
pub use Rattle.ia32_asm.proofs.Words.{reads_signed as reads-word}

-- ---- what is pushed

-- ModRM, SIB and displacement in turn
pub items-sib : (old : List ℕ) (reg : ℕ) (m : Mem) (z : ℤ) (modrm sib mode : ℕ) (one two three : List ℕ)
    → needs_sib m.index m.base ≡ true
    → z ≡ m.disp → mode ≡ mod_for m.base z → modrm ≡ fields_byte mode reg 4 → sib ≡ sib_for m.index m.base
    → one ≡ old ++ modrm ∷ [] → two ≡ one ++ sib ∷ [] → three ≡ two ++ displacement_for m.base z
    → three ≡ old ++ fields_for reg (InMemory m)
items-sib old reg m z modrm sib mode one two three need same a b c d e f =
    rw (need, f, e, d, b, a, c, same) (simp append_assoc)

-- ModRM and displacement in turn
pub items-base : (old : List ℕ) (reg : ℕ) (m : Mem) (z : ℤ) (modrm number mode : ℕ) (one two : List ℕ)
    → needs_sib m.index m.base ≡ false
    → z ≡ m.disp → mode ≡ mod_for m.base z → number ≡ base_number m.base → modrm ≡ fields_byte mode reg number
    → one ≡ old ++ modrm ∷ [] → two ≡ one ++ displacement_for m.base z
    → two ≡ old ++ fields_for reg (InMemory m)
items-base old reg m z modrm number mode one two need same a n b d e =
    rw (need, e, d, b, a, n, same) (simp append_assoc)

-- ---- bytes of fields

high-fields : (h m l : ℕ) → m < 8 → l < 8 → high_field (fields_byte h m l) ≡ h
high-fields h m l p q = omega arith

middle-fields : (h m l : ℕ) → m < 8 → l < 8 → middle_field (fields_byte h m l) ≡ m
middle-fields h m l p q = omega arith

low-fields : (h m l : ℕ) → l < 8 → low_field (fields_byte h m l) ≡ l
low-fields h m l q = omega arith

fields-lt : (h m l : ℕ) → h < 4 → m < 8 → l < 8 → fields_byte h m l < 256
fields-lt h m l o p q = omega arith

-- ---- numbers

base_number-lt : (base : Option Reg32) → base_number base < 8
base_number-lt None = lit< tt
base_number-lt (Some r) = number32-lt r

-- a signed number's bits are below 2 ^ 32, and read as the number
word-bits : (z : ℤ) → FitsSigned w32 z → cast_unsigned w32 z < 256 ^ 4
word-bits (pos n) fits = omega (arith, fits)
word-bits (negsuc n) fits = omega arith

word-signed : (z : ℤ) → FitsSigned w32 z → twos_complement 4 (cast_unsigned w32 z) ≡ z
word-signed z fits = grind (arith, ints, nat_tests)

-- so does a byte
byte-signed : (z : ℤ) → fits_byte z ≡ true → twos_complement 1 (cast_unsigned w8 z) ≡ z
byte-signed z fits = grind (arith, ints, nat_tests)

pub reads-byte : (z : ℤ) → fits_byte z ≡ true → ReadsSigned 1 (byte_bytes z) z
reads-byte z fits =
    let back : little_number 1 (byte_bytes z) ≡ cast_unsigned w8 z = omega arith in
    record { count = refl; reads = rw back (byte-signed z fits) }

-- ---- mod and displacement

-- a number that is at most 0 and at least 0
zero-of : (z : ℤ) → (int_le z (pos 0) && int_le (pos 0) z) ≡ true → z ≡ pos 0
zero-of z e = grind (arith, ints, nat_tests)

-- what mod says, by its cases
data Mode (r : Reg32) (z : ℤ) : Type 0 where
  Absent : mod_for (Some r) z ≡ 0 → z ≡ pos 0 → number32 r ≢ 5 → Mode r z
  Short : mod_for (Some r) z ≡ 1 → fits_byte z ≡ true → Mode r z
  Long : mod_for (Some r) z ≡ 2 → Mode r z

mode_of : (r : Reg32) (z : ℤ) → Mode r z
mode_of r z =
    elim (cases_Bool (int_le z (pos 0) && int_le (pos 0) z && not (number32 r == 5))) [
      | inl t ↦
          (let parts = and_parts (int_le z (pos 0) && int_le (pos 0) z) (not (number32 r == 5)) t in
          Absent (rw t refl) (zero-of z parts.0) (eqb-false _ _ (not-true _ parts.1)))
      | inr f ↦ elim (cases_Bool (fits_byte z)) [ inl t ↦ Short (rw (f, t) refl) t | inr g ↦ Long (rw (f, g) refl) ]
    ]

mod_for-lt : (base : Option Reg32) (z : ℤ) → mod_for base z < 3
mod_for-lt None z = lit< tt
mod_for-lt (Some r) z = elim (mode_of r z) [
  | Absent e a b ↦ rw e (lit< tt)
  | Short e a ↦ rw e (lit< tt)
  | Long e ↦
      rw e (lit< tt)
]

-- the base that mod and the number name is the base
base-named : (base : Option Reg32) (z : ℤ) → option_map (λ r. number32 r) base
    ≡ base_named (mod_for base z) (base_number base)
base-named None z = refl
base-named (Some r) z =
    elim (mode_of r z) [
      | Absent e a other ↦ rw (e, ne_eqb (number32 r) 5 other) refl
      | Short e a ↦ rw e refl
      | Long e ↦
          rw e refl
    ]

-- the displacement has as many bytes as mod says, and they read as it
displacement-reads : (base : Option Reg32) (z : ℤ) → FitsSigned w32 z
    → ReadsSigned (displacement_size (mod_for base z) (base_number base)) (displacement_for base z) z
displacement-reads None z fits = reads-word z fits
displacement-reads (Some r) z fits =
    elim (mode_of r z) [
      | Absent e a other ↦ rw (e, ne_eqb (number32 r) 5 other) (record { count = refl; reads = sym a })
      | Short e a ↦ rw e (reads-byte z a)
      | Long e ↦ rw e (reads-word z fits)
    ]

-- ---- index and SIB

scale_bits-lt : (factor : ℕ) → scale_bits factor < 4
scale_bits-lt factor = grind (arith, nat_tests)

scale_bits-power : (scale : ℕ) → scale < 4 → 2 ^ scale_bits (2 ^ scale) ≡ 2 ^ scale
scale_bits-power zero h = refl
scale_bits-power (suc zero) h = refl
scale_bits-power (suc (suc zero)) h = refl
scale_bits-power (suc (suc (suc zero))) h = refl
scale_bits-power (suc (suc (suc (suc k)))) h = absurd (omega arith)

-- an index that a SIB byte names is one
index-named : (scale number : ℕ) (index : Option (Reg32 × ℕ)) → scale < 4
    → option_map (λ (i : Reg32 × ℕ). (number32 i.0, i.1)) index ≡ index_named scale number → IsIndex index
index-named scale number None h e = tt
index-named scale number (Some i) h e =
    elim (cases_eq number 4) [
      | inl four ↦ absurd (none (rw (eq-eqb number 4 four) at e))
      | inr other ↦
          named other (rw (ne_eqb number 4 other) at e)
    ]
  where
    none : ◌≡◌ {A = Option (ℕ × ℕ)} (Some (number32 i.0, i.1)) None → ⊥
    none e = cc

    named : number ≢ 4 → ◌≡◌ {A = Option (ℕ × ℕ)} (Some (number32 i.0, i.1)) (Some (number, 2 ^ scale))
        → IsIndex (Some i)
    named other e =
        let pair : ◌≡◌ {A = ℕ × ℕ} (number32 i.0, i.1) (number, 2 ^ scale) = cc in
        let register : number32 i.0 ≡ number = ap (λ (p : ℕ × ℕ). p.0) pair in
        let factor : i.1 ≡ 2 ^ scale = ap (λ (p : ℕ × ℕ). p.1) pair in
        (λ (four : number32 i.0 ≡ 4). other (sym register ∙ four), rw factor (scale_bits-power scale h))

-- the SIB byte
sib-lt : (index : Option (Reg32 × ℕ)) (base : Option Reg32) → sib_for index base < 256
sib-lt None base = fields-lt 0 4 (base_number base) (lit< tt) (lit< tt) (base_number-lt base)
sib-lt (Some i) base = fields-lt _ _ _ (scale_bits-lt i.1) (number32-lt i.0) (base_number-lt base)

sib-base : (index : Option (Reg32 × ℕ)) (base : Option Reg32) → low_field (sib_for index base) ≡ base_number base
sib-base None base = low-fields 0 4 (base_number base) (base_number-lt base)
sib-base (Some i) base = low-fields (scale_bits i.1) (number32 i.0) (base_number base) (base_number-lt base)

sib-index : (index : Option (Reg32 × ℕ)) (base : Option Reg32) → IsIndex index
    → option_map (λ (i : Reg32 × ℕ). (number32 i.0, i.1)) index
    ≡ index_named (high_field (sib_for index base)) (middle_field (sib_for index base))
sib-index None base h = rw (middle-fields 0 4 (base_number base) (lit< tt) (base_number-lt base)) refl
sib-index (Some i) base h =
    rw (
      high-fields (scale_bits i.1) (number32 i.0) (base_number base) (number32-lt i.0) (base_number-lt base),
      middle-fields (scale_bits i.1) (number32 i.0) (base_number base) (number32-lt i.0) (base_number-lt base),
      ne_eqb (number32 i.0) 4 h.0,
      h.1,
    ) refl

-- ---- the operand

-- the operand may be spelled: its register has a number, or its index is one
abbrev pub IsSpelled : Operand → Type 0
IsSpelled (InRegister number) = number < 8
IsSpelled (InMemory m) = IsIndex m.index

none-index : (index : Option (Reg32 × ℕ))
    → ◌≡◌ {A = Option (ℕ × ℕ)} (option_map (λ (i : Reg32 × ℕ). (number32 i.0, i.1)) index) None → IsIndex index
none-index None e = tt
none-index (Some i) e = absurd (cc)

memory-index : (mode number : ℕ) (m : Mem) (bytes : List ℕ) → IsMemory mode number m bytes → IsIndex m.index
memory-index mode number m bytes (inl h) = none-index m.index h.1.index_is
memory-index mode number m bytes (inr h) =
    index-named (high_field h.1.0) (middle_field h.1.0) m.index (omega (arith, h.1.3)) h.1.4.index_is

-- what fields say of what they spell
pub fields-spelled : (reg : ℕ) (o : Operand) (bytes : List ℕ) → HasFields reg o bytes → (reg < 8) × IsSpelled o
fields-spelled reg (InRegister number) bytes h = (omega (arith, h.3), omega (arith, h.4))
fields-spelled reg (InMemory m) bytes h = (omega (arith, h.4), memory-index (high_field h.0) (low_field h.0) m h.1 h.5)

-- no SIB byte
no-sib : (index : Option (Reg32 × ℕ)) (base : Option Reg32) → needs_sib index base ≡ false
    → (◌≡◌ {A = Option (ℕ × ℕ)} (option_map (λ (i : Reg32 × ℕ). (number32 i.0, i.1)) index) None)
    × (base_number base ≢ 4)
no-sib None base e = (refl, eqb-false (base_number base) 4 e)
no-sib (Some i) base e = absurd (cc)

address-preferred : (m : Mem) (index : Option (ℕ × ℕ)) → FitsSigned w32 m.disp
    → option_map (λ (i : Reg32 × ℕ). (number32 i.0, i.1)) m.index ≡ index
    → IsAddress (mod_for m.base m.disp) (base_number m.base) index m (displacement_for m.base m.disp)
address-preferred m index fits e = record {
  base_is = base-named m.base m.disp;
  index_is = e;
  displacement = displacement-reads m.base m.disp fits;
}

memory-at : (high low mode number : ℕ) (m : Mem) (bytes : List ℕ) → high ≡ mode → low ≡ number
    → IsMemory mode number m bytes → IsMemory high low m bytes
memory-at high low mode number m bytes a b h = rw (a, b) h

-- the preferred fields are fields of the operand
pub fields-preferred : (reg : ℕ) (o : Operand) → reg < 8 → IsSpelled o → IsOperand o
    → HasFields reg o (fields_for reg o)
fields-preferred reg (InRegister number) r h fits = (
  fields_byte 3 reg number,
  refl,
  high-fields 3 reg number r h,
  middle-fields 3 reg number r h,
  low-fields 3 reg number h,
)
fields-preferred reg (InMemory m) r h fits =
    elim (cases_Bool (needs_sib m.index m.base)) [
      | inl t ↦ rw t (with_sib)
      | inr f ↦
          rw f (without_sib (no-sib m.index m.base f))
    ]
  where
    with_sib : HasFields reg (InMemory m) (fields_byte (mod_for m.base m.disp) reg 4 ∷ sib_for m.index m.base
        ∷ displacement_for m.base m.disp)
    with_sib =
        let small = mod_for-lt m.base m.disp in
        let high = high-fields (mod_for m.base m.disp) reg 4 r (lit< tt) in
        let address = address-preferred m _ fits (sib-index m.index m.base h) in
        let sib : HasSib (mod_for m.base m.disp) m (sib_for m.index m.base ∷ displacement_for m.base m.disp) = (
          sib_for m.index m.base,
          displacement_for m.base m.disp,
          refl,
          sib-lt m.index m.base,
          rw (sib-base m.index m.base) address,
        ) in (
          fields_byte (mod_for m.base m.disp) reg 4,
          sib_for m.index m.base ∷ displacement_for m.base m.disp,
          refl,
          omega (arith, high, small),
          middle-fields (mod_for m.base m.disp) reg 4 r (lit< tt),
          memory-at _ _ (mod_for m.base m.disp) 4 m _ high (low-fields (mod_for m.base m.disp) reg 4 (lit< tt))
              (inr (refl, sib)),
        )

    without_sib : (◌≡◌ {A = Option (ℕ × ℕ)} (option_map (λ (i : Reg32 × ℕ). (number32 i.0, i.1)) m.index) None)
        × (base_number m.base ≢ 4)
        → HasFields reg (InMemory m) (fields_byte (mod_for m.base m.disp) reg (base_number m.base)
        ∷ displacement_for m.base m.disp)
    without_sib none =
        let small = mod_for-lt m.base m.disp in
        let below = base_number-lt m.base in
        let high = high-fields (mod_for m.base m.disp) reg (base_number m.base) r below in (
          fields_byte (mod_for m.base m.disp) reg (base_number m.base),
          displacement_for m.base m.disp,
          refl,
          omega (arith, high, small),
          middle-fields (mod_for m.base m.disp) reg (base_number m.base) r below,
          memory-at _ _ (mod_for m.base m.disp) (base_number m.base) m _ high
              (low-fields (mod_for m.base m.disp) reg (base_number m.base) below)
              (inl (none.1, address-preferred m None fits none.0)),
        )

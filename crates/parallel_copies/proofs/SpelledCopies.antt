-- The instructions of the copies are straight code, and each has a spelling.
use Rattle.std.proofs.Common.{◌≡◌, ◌≢◌, ℕ, zero, suc, ◌+◌, ◌*◌, ◌/◌, ◌%◌, ◌^◌, ◌<◌, ◌≤◌, ℤ, List, [], ◌∷◌, Some, None, refl}
use Rattle.std.proofs.Common.{sym, subst, inl, inr, arith}
use Rattle.std.specs.Prelude.{⊤, ◌⊎◌, neg_ℤ, pos, FitsSigned}
use Rattle.std.specs.Int.{w32}
use Rattle.std.proofs.lemmas.Int.{ints}
use Rattle.pcc_base.specs.declared.run.Width.{Width}
use Rattle.pcc_base.specs.declared.run.Width.TheVariants.{One, Two}
use Rattle.ia32_insn.specs.declared.register_names.Reg32.{Reg32}
use Rattle.ia32_insn.specs.declared.register_names.Reg32.TheVariants.{Ebp}
use Rattle.ia32_insn.specs.declared.register_names.Reg8.{Reg8}
use Rattle.ia32_insn.specs.declared.register_names.Reg8.TheVariants.{Al, Cl, Dl, Bl, Ah, Ch, Dh, Bh}
use Rattle.ia32_insn.specs.Registers.{number32, number8}
use Rattle.ia32_insn.proofs.Registers.{number32_below}
use Rattle.ia32_insn.specs.Places.{Place, InWord, InByte, InSlot}
use Rattle.ia32_insn.specs.declared.operand.Mem.{Mem}
use Rattle.ia32_insn.specs.Spelling.{HasSpelling, InMemory, InRegister, IsAddress, IsMemory, Row}
use Rattle.ia32_insn.specs.Preferred.{word_bytes}
use Rattle.ia32_asm.proofs.Words.{reads_signed}
use Rattle.ia32_rows.specs.Placements.{below}
use Rattle.ia32_rows.specs.Effects.{IsStraight}
use Rattle.parallel_copies.specs.Steps.{NotSlots, copy_insn, swap_insn}
use Rattle.parallel_copies.proofs.PlaceKinds.{IsSource}
use Rattle.parallel_copies.proofs.Single.{CanExchange, CanTake}
use Rattle.ia32_insn.proofs.Rows.{number8_below}

-- ---- straight code

pub copy-straight : (word : ℕ) (d : Width) (p q : Place) → IsSource word d p → CanTake d q → NotSlots p q
    → IsStraight (copy_insn p q)
copy-straight word d (InWord r) (InWord q) h k n = tt
copy-straight word d (InWord r) (InSlot q) h k n = tt
copy-straight word d (InByte r) (InByte q) h k n = tt
copy-straight word d (InByte r) (InSlot q) h k n = tt
copy-straight word d (InSlot r) (InWord q) h k n = tt
copy-straight word d (InSlot r) (InByte q) h k n = tt
copy-straight word d (InSlot r) (InSlot q) h k n = absurd n
copy-straight word Two (InWord r) (InByte q) h k n = absurd k
copy-straight word One (InWord r) (InByte q) (inl h) k n = absurd h
copy-straight word One (InWord r) (InByte q) (inr h) k n = absurd h
copy-straight word One (InByte r) (InWord q) h k n = absurd k
copy-straight word Two (InByte r) (InWord q) (inl h) k n = absurd h
copy-straight word Two (InByte r) (InWord q) (inr h) k n = absurd h

pub swap-straight : (d : Width) (p q : Place) → CanExchange d p → CanExchange d q → IsStraight (swap_insn p q)
swap-straight d (InWord r) (InWord q) h k = tt
swap-straight d (InByte r) (InByte q) h k = tt
swap-straight Two (InWord r) (InByte q) h k = absurd k
swap-straight One (InWord r) (InByte q) h k = absurd h
swap-straight Two (InWord r) (InSlot q) h k = absurd k
swap-straight One (InWord r) (InSlot q) h k = absurd k
swap-straight Two (InByte r) q h k = absurd h
swap-straight One (InByte r) (InWord q) h k = absurd k
swap-straight One (InByte r) (InSlot q) h k = absurd k
swap-straight Two (InSlot r) q h k = absurd h
swap-straight One (InSlot r) q h k = absurd h

-- ---- spellings

-- two registers behind an opcode of one byte
registers-row : (opcode reg number : ℕ) → reg < 8 → number < 8
    → (bytes : List ℕ) × Row (opcode ∷ []) reg (InRegister number) bytes
registers-row opcode reg number h k =
    let modrm : ℕ = 192 + 8 * reg + number in
    (opcode ∷ modrm ∷ [], (modrm ∷ [], refl, (modrm, refl, omega arith, omega arith, omega arith)))

-- a register and the memory at a distance from EBP
at_distance : ℤ → Mem
at_distance z = record { base = Some Ebp; index = None; disp = z }

distance-address : (z : ℤ) → FitsSigned w32 z → IsAddress 2 5 None (at_distance z) (word_bytes z)
unfolding at_distance
distance-address z fits = record { base_is = refl; index_is = refl; displacement = reads_signed z fits }

distance-memory : (mode number : ℕ) (z : ℤ) → mode ≡ 2 → number ≡ 5 → FitsSigned w32 z
    → IsMemory mode number (at_distance z) (word_bytes z)
distance-memory mode number z e f fits =
    subst (λ (m : ℕ). IsMemory m number (at_distance z) (word_bytes z)) (sym e)
    (subst (λ (n : ℕ). IsMemory 2 n (at_distance z) (word_bytes z)) (sym f)
    (inl ((λ k. absurd (omega (arith, k))), distance-address z fits)))

memory-row : (opcode reg : ℕ) (z : ℤ) → reg < 8 → FitsSigned w32 z
    → (bytes : List ℕ) × Row (opcode ∷ []) reg (InMemory (at_distance z)) bytes
memory-row opcode reg z h fits =
    let modrm : ℕ = 133 + 8 * reg in (
      opcode ∷ modrm ∷ word_bytes z,
      (
        modrm ∷ word_bytes z,
        refl,
        (
          modrm,
          word_bytes z,
          refl,
          omega arith,
          omega arith,
          distance-memory (modrm / 64) (modrm % 8) z (omega arith) (omega arith) fits,
        ),
      ),
    )

below-fits : (k : ℕ) → k ≤ 2 ^ 31 → FitsSigned w32 (neg_ℤ (pos k))
below-fits k h = omega (arith, ints)

below-row : (opcode reg k : ℕ) → reg < 8 → k ≤ 2 ^ 31
    → (bytes : List ℕ) × Row (opcode ∷ []) reg (InMemory (below k)) bytes
unfolding at_distance
below-row opcode reg k h short = memory-row opcode reg (neg_ℤ (pos k)) h (below-fits k short)

-- an offset of 32 bits
abbrev pub IsShort : Place → Type 0
IsShort (InWord r) = ⊤
IsShort (InByte r) = ⊤
IsShort (InSlot k) = k ≤ 2 ^ 31

pub place-short : (word : ℕ) (d : Width) (p : Place) → word ≤ 2 ^ 31 → IsSource word d p → IsShort p
place-short word d (InWord r) s h = tt
place-short word d (InByte r) s h = tt
place-short word Two (InSlot k) s (inl h) = h.1
place-short word Two (InSlot k) s (inr h) = omega (arith, h)
place-short word One (InSlot k) s (inl h) = h.1
place-short word One (InSlot k) s (inr h) = absurd h

pub copy-spelled : (p q : Place) → IsShort p → IsShort q → HasSpelling (copy_insn p q)
copy-spelled (InWord s) (InWord d) h k =
    let row = registers-row 0x89 (number32 s) (number32 d) (number32_below s) (number32_below d) in (row.0, inl row.1)
copy-spelled (InWord s) (InByte d) h k = (0x90 ∷ [], refl)
copy-spelled (InWord s) (InSlot d) h k =
    let row = below-row 0x89 (number32 s) d (number32_below s) k in (row.0, inl row.1)
copy-spelled (InByte s) (InWord d) h k = (0x90 ∷ [], refl)
copy-spelled (InByte s) (InByte d) h k =
    let row = registers-row 0x88 (number8 s) (number8 d) (number8_below s) (number8_below d) in (row.0, inl row.1)
copy-spelled (InByte s) (InSlot d) h k =
    let row = below-row 0x88 (number8 s) d (number8_below s) k in (row.0, inl row.1)
copy-spelled (InSlot s) (InWord d) h k = below-row 0x8b (number32 d) s (number32_below d) h
copy-spelled (InSlot s) (InByte d) h k = below-row 0x8a (number8 d) s (number8_below d) h
copy-spelled (InSlot s) (InSlot d) h k = (0x90 ∷ [], refl)

pub swap-spelled : (p q : Place) → HasSpelling (swap_insn p q)
swap-spelled (InWord s) (InWord d) = registers-row 0x87 (number32 s) (number32 d) (number32_below s) (number32_below d)
swap-spelled (InWord s) (InByte d) = (0x90 ∷ [], refl)
swap-spelled (InWord s) (InSlot d) = (0x90 ∷ [], refl)
swap-spelled (InByte s) (InWord d) = (0x90 ∷ [], refl)
swap-spelled (InByte s) (InByte d) = registers-row 0x86 (number8 s) (number8 d) (number8_below s) (number8_below d)
swap-spelled (InByte s) (InSlot d) = (0x90 ∷ [], refl)
swap-spelled (InSlot s) q = (0x90 ∷ [], refl)

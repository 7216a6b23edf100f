-- A place that calls spare is in EBX or a slot.
use Rattle.std.proofs.Common.{◌≡◌, ◌⊎◌, ℕ, ◌+◌, ◌*◌, ◌/◌, ◌%◌, ◌<◌, ◌≤◌, List, get_or, drop, inl, inr, refl, sym, ap}
use Rattle.std.proofs.Common.{◌∙◌, arith}
use Rattle.std.proofs.lemmas.List.{get_or-drop}
use Rattle.byteorder.specs.Endian.{little_from}
use Rattle.ia32_insn.specs.declared.register_names.Reg32.TheVariants.{Eax, Ecx, Edx, Ebx, Esp, Ebp, Esi, Edi}
use Rattle.ia32_insn.specs.declared.register_names.Reg8.TheVariants.{Al, Cl, Dl, Bl, Ah, Ch, Dh, Bh}
use Rattle.ia32_insn.specs.Registers.{AreRegisters}
use Rattle.ia32_insn.specs.Places.{Place, InWord, InByte, InSlot}
use Rattle.ia32_insn.specs.State as machine
use Rattle.ia32_insn.specs.Meaning.{byte_of, word_of}
use Rattle.ia32_rows.specs.Contains.{IsPlaceIn}
use Rattle.ia32_laws.specs.Supports.{IsSparedByCall}
use Rattle.ia32_laws.specs.Protected.{IsSame}

-- the first two bytes of a word in cells
pub first-byte : (p : ℕ) (bs : List ℕ) → get_or bs p 0 < 256 → get_or bs p 0 ≡ little_from 0 4 (drop p bs) % 256
first-byte p bs small =
    counted (get_or (drop p bs) 0 0) (little_from 1 3 (drop p bs)) (get_or bs p 0)
    (get_or-drop p bs 0 0 ∙ ap (λ (m : ℕ). get_or bs m 0) (let e : p + 0 ≡ p = omega arith in e)) small
  where
    counted : (x k w : ℕ) → x ≡ w → w < 256 → w ≡ (x + 256 * k) % 256
    counted x k w e small = omega arith

pub second-byte : (p : ℕ) (bs : List ℕ) → get_or bs p 0 < 256 → get_or bs (p + 1) 0 < 256
    → get_or bs (p + 1) 0 ≡ little_from 0 4 (drop p bs) / 256 % 256
second-byte p bs small also =
    counted (get_or (drop p bs) 0 0) (get_or (drop p bs) 1 0) (little_from 2 2 (drop p bs)) (get_or bs p 0)
    (get_or bs (p + 1) 0)
    (get_or-drop p bs 0 0 ∙ ap (λ (m : ℕ). get_or bs m 0) (let e : p + 0 ≡ p = omega arith in e))
    (get_or-drop p bs 1 0) small also
  where
    counted : (x y k w v : ℕ) → x ≡ w → y ≡ v → w < 256 → v < 256 → v ≡ (x + 256 * (y + 256 * k)) / 256 % 256
    counted x y k w v e f small also = omega arith

low-byte-is : (s : machine.State) → AreRegisters s.registers → byte_of Bl s ≡ word_of Ebx s % 256
low-byte-is s h = first-byte 12 s.registers (h.below 12)

pub high-byte-is : (s : machine.State) → AreRegisters s.registers → byte_of Bh s ≡ word_of Ebx s / 256 % 256
high-byte-is s h = second-byte 12 s.registers (h.below 12) (h.below 13)

-- cells of a register are not outside it
pub outside : (low k : ℕ) → (k < low) ⊎ (low + 4 ≤ k) → low ≤ k → k < low + 4 → ⊥
outside low k (inl h) a b = omega arith
outside low k (inr h) a b = omega arith

-- it contains what it did where EBX and the slots do
pub spared-kept : (base frame : ℕ) (place : Place) (s m : machine.State) → AreRegisters s.registers
    → AreRegisters m.registers → IsPlaceIn frame place → IsSparedByCall place → word_of Ebx m ≡ word_of Ebx s
    → ((slot : ℕ) → place ≡ InSlot slot → IsSame base (InSlot slot) s m) → IsSame base place s m
spared-kept base frame (InWord Eax) s m old new inside spared same slots = absurd (spared.0 refl)
spared-kept base frame (InWord Ecx) s m old new inside spared same slots = absurd (spared.1 refl)
spared-kept base frame (InWord Edx) s m old new inside spared same slots = absurd (spared.2 refl)
spared-kept base frame (InWord Ebx) s m old new inside spared same slots = same
spared-kept base frame (InWord Esp) s m old new inside spared same slots = absurd inside
spared-kept base frame (InWord Ebp) s m old new inside spared same slots = absurd inside
spared-kept base frame (InWord Esi) s m old new inside spared same slots = absurd inside
spared-kept base frame (InWord Edi) s m old new inside spared same slots = absurd inside
spared-kept base frame (InByte Bl) s m old new inside spared same slots =
    low-byte-is m new ∙ ap (λ (w : ℕ). w % 256) same ∙ sym (low-byte-is s old)
spared-kept base frame (InByte Bh) s m old new inside spared same slots =
    high-byte-is m new ∙ ap (λ (w : ℕ). w / 256 % 256) same ∙ sym (high-byte-is s old)
spared-kept base frame (InByte Al) s m old new inside spared same slots =
    absurd (outside 0 0 spared.0 (omega arith) (omega arith))
spared-kept base frame (InByte Ah) s m old new inside spared same slots =
    absurd (outside 0 1 spared.0 (omega arith) (omega arith))
spared-kept base frame (InByte Cl) s m old new inside spared same slots =
    absurd (outside 4 4 spared.1 (omega arith) (omega arith))
spared-kept base frame (InByte Ch) s m old new inside spared same slots =
    absurd (outside 4 5 spared.1 (omega arith) (omega arith))
spared-kept base frame (InByte Dl) s m old new inside spared same slots =
    absurd (outside 8 8 spared.2 (omega arith) (omega arith))
spared-kept base frame (InByte Dh) s m old new inside spared same slots =
    absurd (outside 8 9 spared.2 (omega arith) (omega arith))
spared-kept base frame (InSlot slot) s m old new inside spared same slots = slots slot refl

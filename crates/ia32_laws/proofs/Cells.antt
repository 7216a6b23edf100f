-- A byte of a register is as before where the register's word is.
use Rattle.std.proofs.Common.{◌≡◌, ℕ, ◌+◌, ◌*◌, ◌<◌, List, drop, get_or, ap, ◌∙◌, arith}
use Rattle.std.proofs.lemmas.List.{get_or-drop}
use Rattle.byteorder.specs.Endian.{little_from}
use Rattle.ia32_insn.specs.declared.register_names.Reg8.{Reg8}
use Rattle.ia32_insn.specs.declared.register_names.Reg8.TheVariants.{Al, Cl, Dl, Bl, Ah, Ch, Dh, Bh}
use Rattle.ia32_insn.specs.declared.register_names.Reg32.TheVariants.{Eax, Ecx, Edx, Ebx}
use Rattle.ia32_insn.specs.Registers.{AreRegisters}
use Rattle.ia32_insn.specs.State.{State}
use Rattle.ia32_insn.specs.Meaning.{byte_of, word_of}

-- the first two bytes of a word in cells
first-two : (p : ℕ) (bs cs : List ℕ) → get_or bs p 0 < 256 → get_or cs p 0 < 256 → get_or bs (p + 1) 0 < 256
    → get_or cs (p + 1) 0 < 256 → little_from 0 4 (drop p bs) ≡ little_from 0 4 (drop p cs)
    → (get_or bs p 0 ≡ get_or cs p 0) × (get_or bs (p + 1) 0 ≡ get_or cs (p + 1) 0)
first-two p bs cs one two three four e =
    counted (get_or (drop p bs) 0 0) (get_or (drop p bs) 1 0) (little_from 2 2 (drop p bs)) (get_or (drop p cs) 0 0)
    (get_or (drop p cs) 1 0) (little_from 2 2 (drop p cs)) (get_or bs p 0) (get_or bs (p + 1) 0) (get_or cs p 0)
    (get_or cs (p + 1) 0) (first bs) (get_or-drop p bs 1 0) (first cs) (get_or-drop p cs 1 0) one two three four e
  where
    first : (xs : List ℕ) → get_or (drop p xs) 0 0 ≡ get_or xs p 0
    first xs = get_or-drop p xs 0 0 ∙ ap (λ (m : ℕ). get_or xs m 0) (let e : p + 0 ≡ p = omega arith in e)

    counted : (x y k u v l a b c d : ℕ) → x ≡ a → y ≡ b → u ≡ c → v ≡ d → a < 256 → c < 256 → b < 256 → d < 256
        → x + 256 * (y + 256 * k) ≡ u + 256 * (v + 256 * l) → (a ≡ c) × (b ≡ d)
    counted x y k u v l a b c d e f g h i j m n o = (omega arith, omega arith)

pub byte-same : (r : Reg8) (s u : State) → AreRegisters s.registers → AreRegisters u.registers
    → word_of Eax u ≡ word_of Eax s → word_of Ecx u ≡ word_of Ecx s → word_of Edx u ≡ word_of Edx s
    → word_of Ebx u ≡ word_of Ebx s → byte_of r u ≡ byte_of r s
byte-same r s u old new eax ecx edx ebx = by r
  where
    two : (p : ℕ) → little_from 0 4 (drop p u.registers) ≡ little_from 0 4 (drop p s.registers)
        → (get_or u.registers p 0 ≡ get_or s.registers p 0)
        × (get_or u.registers (p + 1) 0 ≡ get_or s.registers (p + 1) 0)
    two p e = first-two p u.registers s.registers (new.below p) (old.below p) (new.below (p + 1)) (old.below (p + 1)) e

    by : (r : Reg8) → byte_of r u ≡ byte_of r s
    by Al = (two 0 eax).0
    by Cl = (two 4 ecx).0
    by Dl = (two 8 edx).0
    by Bl = (two 12 ebx).0
    by Ah = (two 0 eax).1
    by Ch = (two 4 ecx).1
    by Dh = (two 8 edx).1
    by Bh = (two 12 ebx).1

-- The registers of the first state, and where the start stands in a text.
use Rattle.std.proofs.Common.{◌≡◌, ℕ, ◌+◌, ◌≤◌, List, [], ◌++◌, length}
use Rattle.std.proofs.Common.{replicate, get_or, refl, ◌∙◌, inl, inr, arith}
use Rattle.std.proofs.Common.{append_assoc}
use Rattle.std.proofs.lemmas.Bool.{cases_lt}
use Rattle.std.proofs.lemmas.List.{length-replicate, get_or-replicate, get_or_past}
use Rattle.ia32_insn.specs.Registers.{AreRegisters, zero_registers}
use Rattle.ia32_insn.specs.Items.{Object, Symbols, Places, IsText}
use Rattle.ia32_insn.specs.Items.{text_start}
use Rattle.ia32_insn.specs.declared.item.Item.{Item}
use Rattle.ia32_rows.specs.Paths.{IsAt}

-- ---- the registers

zero-each : (n k : ℕ) → get_or (replicate {A = ℕ} n 0) k 0 ≡ 0
zero-each n k =
    elim (cases_lt k n) [
      | inl before ↦ get_or-replicate n k 0 0 before
      | inr past ↦ get_or_past (replicate n 0) k 0
          (let l = length-replicate {A = ℕ} n 0 in let m : length (replicate {A = ℕ} n 0) ≤ k = omega arith in m)
    ]

pub zero-registers : AreRegisters zero_registers
zero-registers = record { cells = length-replicate {A = ℕ} 32 0; below = λ k. let e = zero-each 32 k in omega arith }

-- ---- the parts of a text

-- the first of six parts, and the rest
front-part : (s c p g e k : List ℕ) → s ++ c ++ p ++ g ++ e ++ k ≡ s ++ (c ++ p ++ g ++ e ++ k)
front-part s c p g e k = simp append_assoc refl

none-before : (n : ℕ) → n ≡ n + length {A = ℕ} []
none-before n = omega arith

-- the start stands at the text's beginning
pub start-here : (functions : List (List Item)) (order : List ℕ) (objects : List Object) (main : ℕ)
    (places : List Places) (symbols : Symbols) (text : List ℕ)
    → (h : IsText functions order objects main places symbols text) → IsAt text text_start h.start
start-here functions order objects main places symbols text h =
    record {
      done = [];
      rest = h.code ++ h.putchar ++ h.getchar ++ h.exit ++ h.check;
      whole = h.whole
          ∙ front-part h.start h.code h.putchar h.getchar h.exit h.check;
      place = none-before text_start;
    }

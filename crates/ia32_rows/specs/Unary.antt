-- Laws of the rows that change one word, to its negation and to its complement, and of those that extend a byte.
use Rattle.std.specs.Prelude.{◌≡◌, ◌-◌, ◌%◌, ◌^◌, ◌<◌, ◌≤◌, ℕ, Ok}
use Rattle.pcc_base.specs.declared.run.Width.TheVariants.{One, Two}
use Rattle.ia32_insn.specs.declared.register_names.Reg32.TheVariants.{Ebp}
use Rattle.ia32_insn.specs.Places.{Place}
use Rattle.ia32_insn.specs.declared.insn.Insn.TheVariants as insn
use Rattle.ia32_insn.specs.State.{State}
use Rattle.ia32_insn.specs.Arithmetic.{complement, extended8, negation}
use Rattle.ia32_insn.specs.Meaning.{load, word_of}
use Rattle.ia32_rows.specs.Sites.{Site, Framed}
use Rattle.ia32_rows.specs.Rows.{changing, widening}
use Rattle.ia32_rows.specs.Contains.{Contains, IsPlaceIn, HoldsWord}
use Rattle.ia32_rows.specs.Laws.{Puts}

-- NEG and NOT (Intel manual, volume 2)
abbrev pub NegationPuts : Type 0
NegationPuts =
    (site : Site) (frame : ℕ) (p q : Place) (x : ℕ) (s : State) → Framed site frame s → 16 ≤ frame → IsPlaceIn frame p
    → HoldsWord q → IsPlaceIn frame q → Contains s Two q x → x < 2 ^ 32
    → (u : State) × Puts site frame (changing insn.Neg p q) p (negation x) s u

abbrev pub ComplementPuts : Type 0
ComplementPuts =
    (site : Site) (frame : ℕ) (p q : Place) (x : ℕ) (s : State) → Framed site frame s → 16 ≤ frame → IsPlaceIn frame p
    → HoldsWord q → IsPlaceIn frame q → Contains s Two q x → x < 2 ^ 32
    → (u : State) × Puts site frame (changing insn.Not p q) p (complement x) s u

-- MOVSX of the byte of a place
abbrev pub ExtensionPuts : Type 0
ExtensionPuts =
    (site : Site) (frame : ℕ) (p q : Place) (b : ℕ) (s : State) → Framed site frame s → 16 ≤ frame → IsPlaceIn frame p
    → IsPlaceIn frame q → Contains s One q b → b < 256
    → (u : State) × Puts site frame (widening insn.MovSx8 p q) p (extended8 b) s u

-- MOVZX of the byte of a place
abbrev pub ZeroExtensionPuts : Type 0
ZeroExtensionPuts =
    (site : Site) (frame : ℕ) (p q : Place) (b : ℕ) (s : State) → Framed site frame s → 16 ≤ frame → IsPlaceIn frame p
    → IsPlaceIn frame q → Contains s One q b → b < 256
    → (u : State) × Puts site frame (widening insn.MovZx8 p q) p b s u

-- A word below EBP, and what loads of its lowest byte and of its lowest two bytes give.
abbrev pub LowestBytes : Type 0
LowestBytes =
    (site : Site) (frame k w : ℕ) (s : State) → Framed site frame s → 4 ≤ k → k ≤ frame
    → load 4 (word_of Ebp s - k) s ≡ Ok w
    → (load 1 (word_of Ebp s - k) s ≡ Ok (w % 256)) × (load 2 (word_of Ebp s - k) s ≡ Ok (w % 2 ^ 16))

-- The items of the table of tests can be assembled.
use Rattle.std.specs.Prelude.{◌≡◌, ℕ, List, [], ◌∷◌}
use Rattle.std.proofs.Common.{refl, sym, subst, arith}
use Rattle.ia32_insn.specs.declared.register_names.Reg32.TheVariants.{Eax}
use Rattle.ia32_insn.specs.declared.insn.Cond.TheVariants.{E}
use Rattle.ia32_insn.specs.declared.insn.Insn.TheVariants as insn
use Rattle.ia32_insn.specs.declared.item.Item.{Item}
use Rattle.ia32_insn.specs.declared.item.Item.TheVariants as item
use Rattle.ia32_asm.specs.Sections.{StandOnce, CanAssemble}
use Rattle.ia32_asm.proofs.Assembling.{can_assemble, absent_none, absent_more, once_none, once_other, once_mark}

-- the items from each place on
abbrev from_10 : List Item
from_10 = []

abbrev from_9 : List Item
from_9 = item.Plain insn.Ret ∷ from_10

abbrev from_8 : List Item
from_8 = item.Point 3 ∷ from_9

abbrev from_7 : List Item
from_7 = item.Label 3 ∷ from_8

abbrev from_6 : List Item
from_6 = item.JumpTo 7 ∷ from_7

abbrev from_5 : List Item
from_5 = item.AddressOf Eax 5 ∷ from_6

abbrev from_4 : List Item
from_4 = item.CallFunction 2 ∷ from_5

abbrev from_3 : List Item
from_3 = item.JumpIf E 3 ∷ from_4

abbrev from_2 : List Item
from_2 = item.Plain insn.Nop ∷ from_3

abbrev from_1 : List Item
from_1 = item.Label 7 ∷ from_2

abbrev from_0 : List Item
from_0 = item.Point 1 ∷ from_1

label_number : (m n : ℕ) → item.Label m ≡ item.Label n → m ≡ n
label_number m n e = cc

point_number : (m n : ℕ) → item.Point m ≡ item.Point n → m ≡ n
point_number m n e = cc

labels_once : StandOnce item.Label from_0
labels_once = (once_other item.Label (item.Point 1) from_1 (λ n e. (cc))
    (once_mark item.Label (item.Label 7) from_2
    (absent_more (item.Label 7) (item.Plain insn.Nop) from_3 (λ e. (cc))
    (absent_more (item.Label 7) (item.JumpIf E 3) from_4 (λ e. (cc))
    (absent_more (item.Label 7) (item.CallFunction 2) from_5 (λ e. (cc))
    (absent_more (item.Label 7) (item.AddressOf Eax 5) from_6 (λ e. (cc))
    (absent_more (item.Label 7) (item.JumpTo 7) from_7 (λ e. (cc))
    (absent_more (item.Label 7) (item.Label 3) from_8 (λ e. absurd (omega (arith, label_number 3 7 e)))
    (absent_more (item.Label 7) (item.Point 3) from_9 (λ e. (cc))
    (absent_more (item.Label 7) (item.Plain insn.Ret) from_10 (λ e. (cc)) (absent_none (item.Label 7))))))))))
    (once_other item.Label (item.Plain insn.Nop) from_3 (λ n e. (cc))
    (once_other item.Label (item.JumpIf E 3) from_4 (λ n e. (cc))
    (once_other item.Label (item.CallFunction 2) from_5 (λ n e. (cc))
    (once_other item.Label (item.AddressOf Eax 5) from_6 (λ n e. (cc))
    (once_other item.Label (item.JumpTo 7) from_7 (λ n e. (cc))
    (once_mark item.Label (item.Label 3) from_8
    (absent_more (item.Label 3) (item.Point 3) from_9 (λ e. (cc))
    (absent_more (item.Label 3) (item.Plain insn.Ret) from_10 (λ e. (cc)) (absent_none (item.Label 3))))
    (once_other item.Label (item.Point 3) from_9 (λ n e. (cc))
    (once_other item.Label (item.Plain insn.Ret) from_10 (λ n e. (cc)) (once_none item.Label)))))))))))

points_once : StandOnce item.Point from_0
points_once = (once_mark item.Point (item.Point 1) from_1
    (absent_more (item.Point 1) (item.Label 7) from_2 (λ e. (cc))
    (absent_more (item.Point 1) (item.Plain insn.Nop) from_3 (λ e. (cc))
    (absent_more (item.Point 1) (item.JumpIf E 3) from_4 (λ e. (cc))
    (absent_more (item.Point 1) (item.CallFunction 2) from_5 (λ e. (cc))
    (absent_more (item.Point 1) (item.AddressOf Eax 5) from_6 (λ e. (cc))
    (absent_more (item.Point 1) (item.JumpTo 7) from_7 (λ e. (cc))
    (absent_more (item.Point 1) (item.Label 3) from_8 (λ e. (cc))
    (absent_more (item.Point 1) (item.Point 3) from_9 (λ e. absurd (omega (arith, point_number 3 1 e)))
    (absent_more (item.Point 1) (item.Plain insn.Ret) from_10 (λ e. (cc)) (absent_none (item.Point 1)))))))))))
    (once_other item.Point (item.Label 7) from_2 (λ n e. (cc))
    (once_other item.Point (item.Plain insn.Nop) from_3 (λ n e. (cc))
    (once_other item.Point (item.JumpIf E 3) from_4 (λ n e. (cc))
    (once_other item.Point (item.CallFunction 2) from_5 (λ n e. (cc))
    (once_other item.Point (item.AddressOf Eax 5) from_6 (λ n e. (cc))
    (once_other item.Point (item.JumpTo 7) from_7 (λ n e. (cc))
    (once_other item.Point (item.Label 3) from_8 (λ n e. (cc))
    (once_mark item.Point (item.Point 3) from_9
    (absent_more (item.Point 3) (item.Plain insn.Ret) from_10 (λ e. (cc)) (absent_none (item.Point 3)))
    (once_other item.Point (item.Plain insn.Ret) from_10 (λ n e. (cc)) (once_none item.Point)))))))))))

pub table_can : (items : List Item) → items ≡ from_0 → CanAssemble items
table_can items e =
    subst CanAssemble (sym e) (can_assemble from_0
    (tt, (tt, ((0x90 ∷ [], refl), (tt, (tt, (tt, (tt, (tt, (tt, ((0xc3 ∷ [], refl), tt))))))))))
    (tt, (tt, (tt, ((7, refl), (tt, (tt, ((1, refl), (tt, (tt, (tt, tt)))))))))) labels_once points_once
    (omega arith))

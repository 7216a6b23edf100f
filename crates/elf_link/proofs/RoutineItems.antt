-- The items of the routines can be assembled, and need no places.
use Rattle.std.specs.Prelude.{◌≡◌, ⊤, ◌<◌, ℕ, zero, suc, ◌+◌, ◌^◌, pos, List, [], ◌∷◌, ◌++◌, length, slice_get, Some}
use Rattle.std.specs.Prelude.{None}
use Rattle.std.specs.List.{AllByRecursion}
use Rattle.std.specs.Int.{w32, cast_signed}
use Rattle.std.proofs.Common.{refl, subst, arith, inl, inr}
use Rattle.std.proofs.lemmas.Option.{same_Some}
use Rattle.byteorder.specs.Endian.{little_bytes}
use Rattle.ia32_insn.specs.Registers.{number32}
use Rattle.ia32_insn.specs.declared.register_names.Reg32.{Reg32}
use Rattle.ia32_insn.specs.declared.register_names.Reg32.TheVariants.{Eax, Ecx, Edx, Ebx, Esp}
use Rattle.ia32_insn.specs.declared.operand.Rm32.TheVariants as rm
use Rattle.ia32_insn.specs.declared.operand.Rm8.TheVariants as rm8
use Rattle.ia32_insn.specs.declared.insn.Insn.TheVariants as insn
use Rattle.ia32_insn.specs.declared.item.Item.{Item}
use Rattle.ia32_insn.specs.declared.item.Item.TheVariants as item
use Rattle.ia32_insn.specs.Spelling.{HasSpelling, ReadsSigned, IsAddress}
use Rattle.ia32_insn.specs.Items.{Symbols, Places, ItemAt, ItemsAt, near, absolute, start_items, putchar_items}
use Rattle.ia32_insn.specs.Items.{getchar_items, exit_items, check_items}
use Rattle.ia32_asm.specs.Sections.{CanAssemble, IsSpelled, HasLabel, items_size}
use Rattle.ia32_asm.proofs.Words.{reads_word}

-- a plain instruction with a spelling, or a call of a function
abbrev pub IsPlainly : Item → Type 0
IsPlainly (item.Plain i) = HasSpelling i
IsPlainly (item.Label l) = ⊥
IsPlainly (item.Point p) = ⊥
IsPlainly (item.JumpTo l) = ⊥
IsPlainly (item.JumpIf c l) = ⊥
IsPlainly (item.CallFunction f) = ⊤
IsPlainly (item.CallStub s) = ⊥
IsPlainly (item.JumpTrap c) = ⊥
IsPlainly (item.AddressOf r k) = ⊥

abbrev pub ArePlainly : List Item → Type 0
ArePlainly items = AllByRecursion IsPlainly items

plainly_at : (items : List Item) → ArePlainly items → (j : ℕ) (i : Item) → slice_get items j ≡ Some i → IsPlainly i
plainly_at [] h j i e = absurd (cc)
plainly_at (x ∷ xs) h zero i e = subst IsPlainly (same_Some x i e) h.0
plainly_at (x ∷ xs) h (suc j) i e = plainly_at xs h.1 j i e

plainly_spelled : (i : Item) → IsPlainly i → IsSpelled i
plainly_spelled (item.Plain i) h = h
plainly_spelled (item.Label l) h = tt
plainly_spelled (item.Point p) h = tt
plainly_spelled (item.JumpTo l) h = tt
plainly_spelled (item.JumpIf c l) h = tt
plainly_spelled (item.CallFunction f) h = tt
plainly_spelled (item.CallStub s) h = tt
plainly_spelled (item.JumpTrap c) h = tt
plainly_spelled (item.AddressOf r k) h = tt

plainly_labelled : (items : List Item) (i : Item) → IsPlainly i → HasLabel items i
plainly_labelled items (item.Plain i) h = tt
plainly_labelled items (item.Label l) h = tt
plainly_labelled items (item.Point p) h = tt
plainly_labelled items (item.JumpTo l) h = absurd h
plainly_labelled items (item.JumpIf c l) h = absurd h
plainly_labelled items (item.CallFunction f) h = tt
plainly_labelled items (item.CallStub s) h = tt
plainly_labelled items (item.JumpTrap c) h = tt
plainly_labelled items (item.AddressOf r k) h = tt

pub plainly_can : (items : List Item) → ArePlainly items → items_size items < 2 ^ 30 → CanAssemble items
plainly_can items h size =
    record {
      spelled = λ j i e. plainly_spelled i (plainly_at items h j i e);
      labelled = λ j i e. plainly_labelled items i (plainly_at items h j i e);
      labels_once = λ i j n e f. absurd (plainly_at items h i (item.Label n) e);
      points_once = λ i j n e f. absurd (plainly_at items h i (item.Point n) e);
      size = size;
    }

-- such items are the same with any places
any_place : (symbols : Symbols) (p q : Places) (address : ℕ) (x : Item) (bytes : List ℕ) → IsPlainly x
    → ItemAt symbols p address x bytes → ItemAt symbols q address x bytes
any_place symbols p q address (item.Plain i) bytes h a = a
any_place symbols p q address (item.Label l) bytes h a = absurd h
any_place symbols p q address (item.Point n) bytes h a = absurd h
any_place symbols p q address (item.JumpTo l) bytes h a = absurd h
any_place symbols p q address (item.JumpIf c l) bytes h a = absurd h
any_place symbols p q address (item.CallFunction f) bytes h a = a
any_place symbols p q address (item.CallStub s) bytes h a = absurd h
any_place symbols p q address (item.JumpTrap c) bytes h a = absurd h
any_place symbols p q address (item.AddressOf r k) bytes h a = absurd h

pub any_places : (symbols : Symbols) (p q : Places) (address : ℕ) (items : List Item) (bytes : List ℕ)
    → ArePlainly items
    → ItemsAt symbols p address items bytes → ItemsAt symbols q address items bytes
any_places symbols p q address [] bytes h a = a
any_places symbols p q address (x ∷ xs) bytes h a = (
  a.0,
  a.1,
  a.2,
  any_place symbols p q address x a.0 h.0 a.3,
  any_places symbols p q (address + length a.0) xs a.1 h.1 a.4,
)

-- ---- the routines

-- a word to a register
pub word_to : (r : Reg32) (n : ℕ) → n < 2 ^ 32 → HasSpelling (insn.MovImm (rm.Reg r) (cast_signed w32 n))
word_to r n h = ((0xb8 + number32 r) ∷ little_bytes 4 n, inl (little_bytes 4 n, refl, reads_word n h))

one_to_depth : (depth : ℕ) → depth < 2 ^ 32 → HasSpelling (insn.MovImm (rm.Mem (absolute depth)) (pos 1))
one_to_depth depth h =
    let place : IsAddress 0 5 None (absolute depth) (little_bytes 4 depth) =
    record { base_is = refl; index_is = refl; displacement = reads_word depth h } in (
      0xc7 ∷ 0x05 ∷ little_bytes 4 depth ++ little_bytes 4 1,
      (
        5 ∷ little_bytes 4 depth,
        little_bytes 4 1,
        refl,
        (5, little_bytes 4 depth, refl, omega arith, refl, inl (λ e. absurd (omega (arith, e)), place)),
        reads_word 1 (omega arith),
      ),
    )

near_stack : (n : ℕ) → ReadsSigned 1 (n ∷ []) (pos n) → IsAddress 1 4 None (near Esp n) (n ∷ [])
near_stack n h = record { base_is = refl; index_is = refl; displacement = h }

interrupt : HasSpelling (insn.Int 0x80)
interrupt = (0xcd ∷ 0x80 ∷ [], refl)

push_ebx : HasSpelling (insn.Push (rm.Reg Ebx))
push_ebx = (0x53 ∷ [], inl refl)

pop_ebx : HasSpelling (insn.Pop Ebx)
pop_ebx = (0x5b ∷ [], refl)

pub returned : HasSpelling insn.Ret
returned = (0xc3 ∷ [], refl)

argument_address : HasSpelling (insn.Lea Ecx (near Esp 8))
argument_address = (
  0x8d ∷ 0x4c ∷ 0x24 ∷ 0x08 ∷ [],
  (
    0x4c ∷ 0x24 ∷ 0x08 ∷ [],
    refl,
    (
      0x4c,
      0x24 ∷ 0x08 ∷ [],
      refl,
      omega arith,
      refl,
      inr (refl, (0x24, 8 ∷ [], refl, omega arith, near_stack 8 (record { count = refl; reads = refl }))),
    ),
  ),
)

argument_byte : HasSpelling (insn.MovZx8 Eax (rm8.Mem (near Esp 8)))
argument_byte = (
  0x0f ∷ 0xb6 ∷ 0x44 ∷ 0x24 ∷ 0x08 ∷ [],
  (
    0x44 ∷ 0x24 ∷ 0x08 ∷ [],
    refl,
    (
      0x44,
      0x24 ∷ 0x08 ∷ [],
      refl,
      omega arith,
      refl,
      inr (refl, (0x24, 8 ∷ [], refl, omega arith, near_stack 8 (record { count = refl; reads = refl }))),
    ),
  ),
)

argument_word : HasSpelling (insn.MovLoad Ebx (near Esp 4))
argument_word = (
  0x8b ∷ 0x5c ∷ 0x24 ∷ 0x04 ∷ [],
  (
    0x5c ∷ 0x24 ∷ 0x04 ∷ [],
    refl,
    (
      0x5c,
      0x24 ∷ 0x04 ∷ [],
      refl,
      omega arith,
      refl,
      inr (refl, (0x24, 4 ∷ [], refl, omega arith, near_stack 4 (record { count = refl; reads = refl }))),
    ),
  ),
)

pub start_plainly : (stack depth main : ℕ) → stack < 2 ^ 32 → depth < 2 ^ 32 → ArePlainly (start_items stack depth main)
start_plainly stack depth main s d = (
  word_to Esp stack s,
  (
    one_to_depth depth d,
    (
      tt,
      (
        (0x89 ∷ 0xc3 ∷ [], inl (0xc3 ∷ [], refl, (0xc3, refl, refl, refl, refl))),
        (word_to Eax 1 (omega arith), (interrupt, tt)),
      ),
    ),
  ),
)

pub putchar_plainly : ArePlainly putchar_items
putchar_plainly = (
  push_ebx,
  (
    word_to Eax 4 (omega arith),
    (
      word_to Ebx 1 (omega arith),
      (argument_address, (word_to Edx 1 (omega arith), (interrupt, (argument_byte, (pop_ebx, (returned, tt)))))),
    ),
  ),
)

pub getchar_plainly : ArePlainly getchar_items
getchar_plainly = (
  push_ebx,
  (
    (0x68 ∷ little_bytes 4 0, (little_bytes 4 0, refl, reads_word 0 (omega arith))),
    (
      word_to Eax 3 (omega arith),
      (
        word_to Ebx 0 (omega arith),
        (
          (0x89 ∷ 0xe1 ∷ [], inl (0xe1 ∷ [], refl, (0xe1, refl, refl, refl, refl))),
          (
            word_to Edx 1 (omega arith),
            (
              interrupt,
              (
                (
                  0x83 ∷ 0xe8 ∷ 0x01 ∷ [],
                  inl (
                    0xe8 ∷ [],
                    1 ∷ [],
                    refl,
                    (0xe8, refl, refl, refl, refl),
                    record { count = refl; reads = refl },
                  ),
                ),
                (
                  (0x59 ∷ [], refl),
                  (
                    (0x09 ∷ 0xc8 ∷ [], inl (0xc8 ∷ [], refl, (0xc8, refl, refl, refl, refl))),
                    (pop_ebx, (returned, tt)),
                  ),
                ),
              ),
            ),
          ),
        ),
      ),
    ),
  ),
)

pub exit_plainly : ArePlainly exit_items
exit_plainly = (argument_word, (word_to Eax 1 (omega arith), (interrupt, tt)))

pub check_plainly : ArePlainly check_items
check_plainly = ((0x0f ∷ 0x0b ∷ [], refl), tt)

-- Calls and jumps lead to their targets.
use Rattle.std.specs.Prelude.{◌≡◌, ℕ, ◌+◌, ◌-◌, ◌<◌, ◌≤◌, ◌^◌, ◌%◌, true, false, ℤ, List, [], ◌∷◌, ◌++◌, length, Some}
use Rattle.std.specs.Int.{w32, cast_signed}
use Rattle.std.proofs.Common.{refl, sym, ap, ◌∙◌, subst, arith}
use Rattle.std.proofs.lemmas.List.{length-append}
use Rattle.std.proofs.lemmas.Int.{of_z-to_z}
use Rattle.byteorder.specs.Endian.{little_bytes}
use Rattle.ia32_insn.specs.declared.insn.Insn.{Insn}
use Rattle.ia32_insn.specs.Spelling.{Spells, ReadsSigned}
use Rattle.ia32_insn.specs.Preferred.{word_bytes}
use Rattle.ia32_insn.specs.Items.{Symbols, LeadsTo}
use Rattle.ia32_asm.specs.declared.section.Relocation.{Relocation}
use Rattle.ia32_asm.specs.declared.section.Target.{Target}
use Rattle.ia32_asm.specs.Sections.{target_address, is_relative, distance_word, word_for, resolved}
use Rattle.ia32_asm.specs.Pieces.{relocation_for}
use Rattle.ia32_asm.proofs.Resolved.{with_word-at}
use Rattle.ia32_asm.proofs.Words.{reads_word, distance-leads, distance-fits}

abbrev pub four_zeros : List ℕ
four_zeros = 0 ∷ 0 ∷ 0 ∷ 0 ∷ []

-- the relocation of a target at the end of an instruction
abbrev pub last_four : ℕ → Target → Relocation
last_four end t = record { at = end - 4; relative = is_relative t; target = t }

-- its word takes the place of the zeros
pub word-placed : (symbols : Symbols) (base o : ℕ) (front op tail : List ℕ) (t : Target) → length front ≡ o
    → resolved symbols base (relocation_for (o + (length op + 4)) (Some t)) (front ++ ((op ++ four_zeros) ++ tail))
    ≡ front ++ ((op ++ little_bytes 4 (word_for symbols base (last_four (o + (length op + 4)) t))) ++ tail)
word-placed symbols base o front op tail t e =
    with_word-at front op four_zeros tail (o + (length op + 4) - 4)
    (word_for symbols base (last_four (o + (length op + 4)) t)) (omega arith) refl

-- an opcode whose instructions have the distance behind it
abbrev pub IsOpcode : (ℤ → Insn) → List ℕ → Type 0
IsOpcode instruction op = (z : ℤ) (four : List ℕ) → ReadsSigned 4 four z → Spells (instruction z) (op ++ four)

leads_by : (instruction : ℤ → Insn) (op : List ℕ) → IsOpcode instruction op → (start target word : ℕ) → word < 2 ^ 32
    → (start + (length op + 4) + word) % 2 ^ 32 ≡ target → LeadsTo instruction start target (op ++ little_bytes 4 word)
leads_by instruction op spells start target word fits e = (
  cast_signed w32 word,
  spells (cast_signed w32 word) (little_bytes 4 word) (reads_word word fits),
  ap (λ (n : ℕ). (start + length (op ++ little_bytes 4 word) + n) % 2 ^ 32) (of_z-to_z w32 word fits)
      ∙ ap (λ (n : ℕ). (start + n + word) % 2 ^ 32) (length-append op (little_bytes 4 word)) ∙ e,
)

-- a jump to a label of the section leads to it, wherever the section stands
pub label_leads : (instruction : ℤ → Insn) (op : List ℕ) → IsOpcode instruction op → (base o t : ℕ) → base + t < 2 ^ 32
    → o + (length op + 4) ≤ 2 ^ 32
    → LeadsTo instruction (base + o) (base + t) (op
    ++ word_bytes (cast_signed w32 (distance_word (o + (length op + 4)) t)))
label_leads instruction op spells base o t h k =
    let word : ℕ = distance_word (o + (length op + 4)) t in
    let fits : word < 2 ^ 32 = distance-fits (o + (length op + 4)) t in
    let leads : (base + o + (length op + 4) + word) % 2 ^ 32 ≡ base + t =
    ap (λ (n : ℕ). (n + word) % 2 ^ 32) (omega arith) ∙ distance-leads base (o + (length op + 4)) t k h
    in
    subst (λ (xs : List ℕ). LeadsTo instruction (base + o) (base + t) (op ++ xs))
    (ap (little_bytes 4) (sym (of_z-to_z w32 word fits)))
    (leads_by instruction op spells (base + o) (base + t) word fits leads)

-- a call or jump leads to its target once the word is there
pub target_leads : (instruction : ℤ → Insn) (op : List ℕ) → IsOpcode instruction op
    → (symbols : Symbols) (base o address : ℕ) (t : Target)
    → is_relative t ≡ true → target_address symbols t ≡ Some address → address < 2 ^ 32 → base + (o + (length op + 4))
    ≤ 2 ^ 32
    → LeadsTo instruction (base + o) address (op
    ++ little_bytes 4 (word_for symbols base (last_four (o + (length op + 4)) t)))
target_leads instruction op spells symbols base o address t r e fits room =
    let from : ℕ = base + (o + (length op + 4)) in
    let word : word_for symbols base (last_four (o + (length op + 4)) t) ≡ distance_word from address =
    rw (r, e) (ap (λ (n : ℕ). distance_word n address) (omega arith))
    in
    let leads : (base + o + (length op + 4) + distance_word from address) % 2 ^ 32 ≡ address =
    ap (λ (n : ℕ). (n + distance_word from address) % 2 ^ 32) (omega arith) ∙ distance-leads 0 from address room
    (omega (arith, fits)) ∙ omega arith
    in
    subst (λ (n : ℕ). LeadsTo instruction (base + o) address (op ++ little_bytes 4 n)) (sym word)
    (leads_by instruction op spells (base + o) address (distance_word from address) (distance-fits from address) leads)

-- and what has an address holds it
pub target_word : (symbols : Symbols) (base end address : ℕ) (t : Target) → is_relative t ≡ false
    → target_address symbols t ≡ Some address
    → word_for symbols base (last_four end t) ≡ address
target_word symbols base end address t r e = rw (r, e) refl

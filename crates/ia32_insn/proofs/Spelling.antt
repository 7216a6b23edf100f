-- What is read is what is spelled, and nothing else: so bytes begin with one spelling at most, and no spelling
-- is longer than 15 bytes.
use Rattle.std.specs.Prelude.{◌≡◌, ℕ, ◌+◌, ◌≤◌, ℤ, List, ◌∷◌, length, take, Option, Some, None, IfSome, IfNone, refl}
use Rattle.std.proofs.Common.{sym, ◌∙◌, ap, subst, arith, inl}
use Rattle.std.proofs.lemmas.List.{length-take-le}
use Rattle.byteorder.specs.Endian.{little_number, twos_complement}
use Rattle.byteorder.specs.Numbers.{little_from-take}
use Rattle.ia32_insn.specs.Registers.{number32}
use Rattle.ia32_insn.specs.declared.register_names.Reg32.{Reg32}
use Rattle.ia32_insn.specs.declared.operand.Rm32.TheVariants as rm
use Rattle.ia32_insn.specs.declared.insn.Insn.{Insn}
use Rattle.ia32_insn.specs.declared.insn.Insn.TheVariants as insn
use Rattle.ia32_insn.specs.Spelling.{Spells, Begins, NoneBegins}
use Rattle.ia32_insn.specs.Reading.{read_insn}
use Rattle.ia32_insn.proofs.Parts.{Part, Part-take, take-Part}
use Rattle.ia32_insn.proofs.Rows.{spelling_reads}
use Rattle.ia32_insn.proofs.Found.{Found, insn_found}

-- every spelling is read
pub read_insn-complete : (i : Insn) (n : ℕ) (bytes : List ℕ) → Begins i n bytes → read_insn bytes ≡ Some (i, n)
read_insn-complete i n bytes h =
    let p : Part (Spells i) n bytes = Part-take (Spells i) n bytes h.0 h.1 in
    ap read_insn p.bytes_are
    ∙ spelling_reads i p.front p.holds p.after
    ∙ ap (λ (k : ℕ). let o : Option (Insn × ℕ) = Some (i, k) in o) (sym p.count)

-- what is known of an instruction that is read
found_at : (bytes : List ℕ) (i : Insn) (n : ℕ) → read_insn bytes ≡ Some (i, n) → Found bytes (i, n)
found_at bytes i n e =
    let Holds : Option (Insn × ℕ) → Type 0 = λ o. IfSome o (Found bytes) in
    subst Holds e (insn_found bytes)

-- and what is read is spelled
pub read_insn-sound : (i : Insn) (n : ℕ) (bytes : List ℕ) → read_insn bytes ≡ Some (i, n) → Begins i n bytes
read_insn-sound i n bytes e = take-Part (Spells i) n bytes (found_at bytes i n e).part

begins_if : (bytes : List ℕ) (o : Option (Insn × ℕ)) → IfSome o (Found bytes)
    → IfSome o (λ found. Begins found.0 found.1 bytes)
begins_if bytes None h = tt
begins_if bytes (Some found) h = take-Part (Spells found.0) found.1 bytes h.part

-- the same, of what a reading gives
pub read_begins : (bytes : List ℕ) → IfSome (read_insn bytes) (λ found. Begins found.0 found.1 bytes)
read_begins bytes = begins_if bytes (read_insn bytes) (insn_found bytes)

short_if : (bytes : List ℕ) (o : Option (Insn × ℕ)) → IfSome o (Found bytes) → IfSome o (λ found. found.1 ≤ 15)
short_if bytes None h = tt
short_if bytes (Some found) h = h.short

-- and it has 15 bytes at most
pub read_short : (bytes : List ℕ) → IfSome (read_insn bytes) (λ found. found.1 ≤ 15)
read_short bytes = short_if bytes (read_insn bytes) (insn_found bytes)

-- bytes begin with one spelling at most
pub begins_once : (i j : Insn) (m n : ℕ) (bytes : List ℕ) → Begins i m bytes → Begins j n bytes → (i ≡ j) × (m ≡ n)
begins_once i j m n bytes a b =
    let x : Insn × ℕ = (i, m) in
    let y : Insn × ℕ = (j, n) in
    let found : Some x ≡ Some y = sym (read_insn-complete i m bytes a) ∙ read_insn-complete j n bytes b in
    let same : x ≡ y = cc in
    (ap (λ (z : Insn × ℕ). z.0) same, ap (λ (z : Insn × ℕ). z.1) same)

-- where nothing is read, no instruction is spelled
pub none_begins : (bytes : List ℕ) → read_insn bytes ≡ None → NoneBegins bytes
none_begins bytes e i n h = absurd (let p = read_insn-complete i n bytes h in cc)

none_if : (bytes : List ℕ) (o : Option (Insn × ℕ)) → read_insn bytes ≡ o → IfNone o (NoneBegins bytes)
none_if bytes None e = none_begins bytes e
none_if bytes (Some found) e = tt

pub read_none : (bytes : List ℕ) → IfNone (read_insn bytes) (NoneBegins bytes)
read_none bytes = none_if bytes (read_insn bytes) refl

-- a spelling has one byte at least
pub begins_some : (i : Insn) (n : ℕ) (bytes : List ℕ) → Begins i n bytes → 1 ≤ n
begins_some i n bytes h = (found_at bytes i n (read_insn-complete i n bytes h)).some

-- and 15 bytes at most
pub begins_short : (i : Insn) (n : ℕ) (bytes : List ℕ) → Begins i n bytes → n ≤ 15
begins_short i n bytes h = (found_at bytes i n (read_insn-complete i n bytes h)).short

-- NOP is spelled by its opcode
pub nop_begins : (rest : List ℕ) → Begins insn.Nop 1 (0x90 ∷ rest)
nop_begins rest = (omega arith, refl)

-- INT is spelled by its opcode and a byte
pub int_begins : (n : ℕ) (rest : List ℕ) → Begins (insn.Int n) 2 (0xcd ∷ n ∷ rest)
int_begins n rest = (omega arith, refl)

-- MOV r32, imm32 is spelled by its opcode and four bytes
pub mov_begins : (r : Reg32) (z : ℤ) (rest : List ℕ) → 4 ≤ length rest → twos_complement 4 (little_number 4 rest) ≡ z
    → Begins (insn.MovImm (rm.Reg r) z) 5 ((0xb8 + number32 r) ∷ rest)
mov_begins r z rest h e = (
  omega arith,
  inl (
    take 4 rest,
    refl,
    record {
      count = length-take-le 4 rest h;
      reads =
          ap (twos_complement 4) (little_from-take 0 4 4 rest (omega arith)) ∙ e;
    },
  ),
)

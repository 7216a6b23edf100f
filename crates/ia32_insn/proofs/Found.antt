-- What is read is spelled.
use Rattle.std.specs.Prelude.{◌≡◌, ◌⊎◌, ℕ, ◌+◌, ◌-◌, ◌≤◌, ◌<◌, ℤ, true, ◌&&◌, ◌||◌, ◌==◌, nat_le, nat_lt, List, [], ◌∷◌}
use Rattle.std.specs.Prelude.{◌++◌, length, drop, Option, Some, IfSome, refl}
use Rattle.std.proofs.Common.{sym, ◌∙◌, ap, subst, arith, inl, inr, append_assoc}
use Rattle.std.proofs.Math.Seq.{drop-append_seam}
use Rattle.std.proofs.lemmas.Bool.{cond_both, and_parts, or_cases, eqb-true, leb-true, ltb-true}
use Rattle.std.proofs.lemmas.List.{length-append}
use Rattle.ia32_insn.specs.declared.operand.Rm32.{Rm32}
use Rattle.ia32_insn.specs.declared.operand.Rm8.{Rm8}
use Rattle.ia32_insn.specs.declared.insn.Insn.{Insn}
use Rattle.ia32_insn.specs.declared.insn.Insn.TheVariants as insn
use Rattle.ia32_insn.specs.Spelling.{ReadsSigned, HasFields, operand32, operand8, shift_number, Spells}
use Rattle.ia32_insn.specs.Reading.{◌>>=◌, condition_at, shift_at, read_signed, read_byte, read_fields32, read_fields8}
use Rattle.ia32_insn.specs.Reading.{lone_insn, byte_insn, short_insn, long_insn, fields32_insn, fields8_insn}
use Rattle.ia32_insn.specs.Reading.{immediate_insn, extended32_insn, extended8_insn, sixteen_insn, read_lone}
use Rattle.ia32_insn.specs.Reading.{read_with_byte, read_with_signed, read_with32, read_with8, read_immediate}
use Rattle.ia32_insn.specs.Reading.{read_shift, read_extended, read_sixteen, read_two_byte, has_fields32, has_fields8}
use Rattle.ia32_insn.specs.Reading.{has_long, has_short, has_byte, read_opcode, read_insn}
use Rattle.ia32_insn.proofs.Parts.{Part, then_holds}
use Rattle.ia32_insn.proofs.Numbers.{number-shift_at}
use Rattle.ia32_insn.proofs.Fields.{Fielded, read_signed-part, read_fields32-part, read_fields8-part}
use Rattle.ia32_insn.proofs.Makes.{lone_spells, byte_spells, short_spells, long_spells, near_spells, fields32_spells}
use Rattle.ia32_insn.proofs.Makes.{fields8_spells, extended32_spells, extended8_spells, sixteen_spells}
use Rattle.ia32_insn.proofs.Makes.{short_immediate_spells, long_immediate_spells, mov_immediate_spells, shift_spells}

-- an instruction whose spelling, of 1 to 15 bytes, begins the bytes
pub record Found (bytes : List ℕ) (read : Insn × ℕ) : Type 0 where
  pub part : Part (Spells read.0) read.1 bytes
  pub some : 1 ≤ read.1
  pub short : read.1 ≤ 15

-- ---- by what follows the opcode

-- one part and then another
two_parts : {P Q : List ℕ → Type 0} (m n : ℕ) (bytes : List ℕ) (p : Part P m bytes) (q : Part Q n (drop m bytes))
    → bytes ≡ (p.front ++ q.front) ++ q.after
two_parts m n bytes p q =
    let rest : drop m bytes ≡ p.after =
    ap (λ k. drop k bytes) p.count ∙ ap (drop (length p.front)) p.bytes_are ∙ drop-append_seam p.front p.after in
    p.bytes_are ∙ ap (λ bs. p.front ++ bs) (sym rest ∙ q.bytes_are) ∙ sym (append_assoc p.front q.front q.after)

read_byte-part : (bytes : List ℕ) → IfSome (read_byte bytes) (λ n. Part (λ xs. xs ≡ n ∷ []) 1 bytes)
unfolding read_byte
read_byte-part [] = tt
read_byte-part (n ∷ rest) = record { front = n ∷ []; after = rest; bytes_are = refl; count = refl; holds = refl }

with32_found : (opcode : List ℕ) (size : ℕ) (make : ℕ → Rm32 → Option Insn) (rest : List ℕ) → size ≡ length opcode
    → size ≤ 2 → ((reg : ℕ) (x : Rm32) (fields : List ℕ) → reg < 8 → HasFields reg (operand32 x) fields
    → IfSome (make reg x) (λ i. Spells i (opcode ++ fields)))
    → IfSome (read_with32 size make rest) (Found (opcode ++ rest))
unfolding read_with32
with32_found opcode size make rest size_is small spells =
    then_holds (read_fields32 rest) (λ f. make f.0 f.1
    >>= (λ i. Some (i, size + f.2))) (λ f. Fielded rest f.0 (operand32 f.1) f.2) (Found (opcode ++ rest))
    (read_fields32-part rest)
    (λ f s.
    let p = s.part in
    then_holds (make f.0 f.1) (λ i. Some (i, size + f.2)) (λ i. Spells i (opcode ++ p.front)) (Found (opcode ++ rest))
    (spells f.0 f.1 p.front s.below p.holds)
    (λ i h. record {
      part = record {
        front = opcode ++ p.front;
        after = p.after;
        bytes_are = ap (λ bs. opcode ++ bs) p.bytes_are ∙ sym (append_assoc opcode p.front p.after);
        count = omega (arith, length-append opcode p.front, p.count);
        holds = h;
      };
      some = omega (arith, s.some);
      short = omega (arith, s.short);
    }))

with8_found : (opcode : List ℕ) (size : ℕ) (make : ℕ → Rm8 → Option Insn) (rest : List ℕ) → size ≡ length opcode
    → size ≤ 2 → ((reg : ℕ) (x : Rm8) (fields : List ℕ) → reg < 8 → HasFields reg (operand8 x) fields
    → IfSome (make reg x) (λ i. Spells i (opcode ++ fields)))
    → IfSome (read_with8 size make rest) (Found (opcode ++ rest))
unfolding read_with8
with8_found opcode size make rest size_is small spells =
    then_holds (read_fields8 rest) (λ f. make f.0 f.1
    >>= (λ i. Some (i, size + f.2))) (λ f. Fielded rest f.0 (operand8 f.1) f.2) (Found (opcode ++ rest))
    (read_fields8-part rest)
    (λ f s.
    let p = s.part in
    then_holds (make f.0 f.1) (λ i. Some (i, size + f.2)) (λ i. Spells i (opcode ++ p.front)) (Found (opcode ++ rest))
    (spells f.0 f.1 p.front s.below p.holds)
    (λ i h. record {
      part = record {
        front = opcode ++ p.front;
        after = p.after;
        bytes_are = ap (λ bs. opcode ++ bs) p.bytes_are ∙ sym (append_assoc opcode p.front p.after);
        count = omega (arith, length-append opcode p.front, p.count);
        holds = h;
      };
      some = omega (arith, s.some);
      short = omega (arith, s.short);
    }))

-- a signed number of at most four bytes
with_signed_found : (opcode : List ℕ) (size n : ℕ) (make : ℤ → Option Insn) (rest : List ℕ) → size ≡ length opcode
    → 1 ≤ size → size ≤ 2 → n ≤ 4
    → ((z : ℤ) (xs : List ℕ) → ReadsSigned n xs z → IfSome (make z) (λ i. Spells i (opcode ++ xs)))
    → IfSome (read_with_signed size n make rest) (Found (opcode ++ rest))
unfolding read_with_signed
with_signed_found opcode size n make rest size_is some small few spells =
    then_holds (read_signed n rest) (λ z. make z
    >>= (λ i. Some (i, size + n))) (λ z. Part (λ xs. ReadsSigned n xs z) n rest) (Found (opcode ++ rest))
    (read_signed-part n rest)
    (λ z p.
    then_holds (make z) (λ i. Some (i, size + n)) (λ i. Spells i (opcode ++ p.front)) (Found (opcode ++ rest))
    (spells z p.front p.holds)
    (λ i h. record {
      part = record {
        front = opcode ++ p.front;
        after = p.after;
        bytes_are = ap (λ bs. opcode ++ bs) p.bytes_are ∙ sym (append_assoc opcode p.front p.after);
        count = omega (arith, length-append opcode p.front, p.count);
        holds = h;
      };
      some = omega arith;
      short = omega arith;
    }))

-- fields, and then a signed number
immediate_found : (opcode n : ℕ) (rest : List ℕ) → n ≤ 4
    → ((reg : ℕ) (x : Rm32) (z : ℤ) (fields xs : List ℕ) → reg < 8 → HasFields reg (operand32 x) fields
    → ReadsSigned n xs z → IfSome (immediate_insn opcode reg x z) (λ i. Spells i (opcode ∷ fields ++ xs)))
    → IfSome (read_immediate n (immediate_insn opcode) rest) (Found (opcode ∷ rest))
unfolding read_immediate
immediate_found opcode n rest few spells =
    then_holds (read_fields32 rest) (λ f. read_signed n (drop f.2 rest)
    >>= (λ z. immediate_insn opcode f.0 f.1 z >>= (λ i. Some (i, 1 + f.2 + n))))
    (λ f. Fielded rest f.0 (operand32 f.1) f.2) (Found (opcode ∷ rest)) (read_fields32-part rest)
    (λ f s.
    let p = s.part in
    then_holds (read_signed n (drop f.2 rest)) (λ z. immediate_insn opcode f.0 f.1 z
    >>= (λ i. Some (i, 1 + f.2 + n))) (λ z. Part (λ xs. ReadsSigned n xs z) n (drop f.2 rest))
    (Found (opcode ∷ rest)) (read_signed-part n (drop f.2 rest))
    (λ z q.
    then_holds (immediate_insn opcode f.0 f.1 z) (λ i. Some (i, 1 + f.2 + n))
    (λ i. Spells i (opcode ∷ p.front ++ q.front)) (Found (opcode ∷ rest))
    (spells f.0 f.1 z p.front q.front s.below p.holds q.holds)
    (λ i h. record {
      part = record {
        front = opcode ∷ p.front ++ q.front;
        after = q.after;
        bytes_are = ap (λ bs. opcode ∷ bs) (two_parts f.2 n rest p q);
        count = omega (arith, length-append p.front q.front, p.count, q.count);
        holds = h;
      };
      some = omega arith;
      short = omega (arith, s.short);
    })))

-- fields, and then a byte
shift_found : (rest : List ℕ) → IfSome (read_shift rest) (Found (0xc1 ∷ rest))
unfolding read_shift
shift_found rest =
    then_holds (read_fields32 rest) (λ f. read_byte (drop f.2 rest)
    >>= (λ n. shift_at f.0 >>= (λ op. Some (insn.ShiftImm op f.1 n, 2 + f.2))))
    (λ f. Fielded rest f.0 (operand32 f.1) f.2) (Found (0xc1 ∷ rest)) (read_fields32-part rest)
    (λ f s.
    let p = s.part in
    then_holds (read_byte (drop f.2 rest)) (λ n. shift_at f.0 >>= (λ op. Some (insn.ShiftImm op f.1 n, 2 + f.2)))
    (λ n. Part (λ xs. xs ≡ n ∷ []) 1 (drop f.2 rest)) (Found (0xc1 ∷ rest)) (read_byte-part (drop f.2 rest))
    (λ n q.
    then_holds (shift_at f.0) (λ op. Some (insn.ShiftImm op f.1 n, 2 + f.2)) (λ op. shift_number op
    ≡ f.0) (Found (0xc1 ∷ rest)) (number-shift_at f.0 s.below)
    (λ op e.
    let Ends : List ℕ → Type 0 = λ xs. Spells (insn.ShiftImm op f.1 n) (0xc1 ∷ p.front ++ xs) in
    record {
      part = record {
        front = 0xc1 ∷ p.front ++ q.front;
        after = q.after;
        bytes_are = ap (λ bs. 0xc1 ∷ bs) (two_parts f.2 1 rest p q);
        count = omega (arith, length-append p.front q.front, p.count, q.count);
        holds = subst Ends (sym q.holds) (shift_spells f.0 n op f.1 p.front e p.holds);
      };
      some = omega arith;
      short = omega (arith, s.short);
    })))

with_byte_found : (opcode : ℕ) (rest : List ℕ) → IfSome (read_with_byte (byte_insn opcode) rest) (Found (opcode ∷ rest))
unfolding read_with_byte read_byte
with_byte_found opcode [] = tt
with_byte_found opcode (n ∷ rest) =
    then_holds (byte_insn opcode n) (λ i. Some (i, 2)) (λ i. Spells i (opcode ∷ n ∷ [])) (Found (opcode ∷ n ∷ rest))
    (byte_spells opcode n)
    (λ i h. record {
      part = record { front = opcode ∷ n ∷ []; after = rest; bytes_are = refl; count = refl; holds = h };
      some = omega arith;
      short = omega arith;
    })

lone_found : (opcode : ℕ) (rest : List ℕ) → IfSome (read_lone (lone_insn opcode)) (Found (opcode ∷ rest))
unfolding read_lone
lone_found opcode rest =
    then_holds (lone_insn opcode) (λ i. Some (i, 1)) (λ i. Spells i (opcode ∷ [])) (Found (opcode ∷ rest))
    (lone_spells opcode)
    (λ i h. record {
      part = record { front = opcode ∷ []; after = rest; bytes_are = refl; count = refl; holds = h };
      some = omega arith;
      short = omega arith;
    })

-- ---- the map

-- what is read after an opcode that is known
known : (a b : ℕ) (rest : List ℕ) (read : ℕ → Option (Insn × ℕ)) → a ≡ b → IfSome (read b) (Found (b ∷ rest))
    → IfSome (read a) (Found (a ∷ rest))
known a b rest read e h =
    let Holds : ℕ → Type 0 = λ n. IfSome (read n) (Found (n ∷ rest)) in
    subst Holds (sym e) h

extended_found : (opcode : ℕ) (rest : List ℕ) → IfSome (read_extended opcode rest) (Found (0x0f ∷ opcode ∷ rest))
unfolding read_extended
extended_found opcode rest =
    let Holds : Option (Insn × ℕ) → Type 0 = λ o. IfSome o (Found (0x0f ∷ opcode ∷ rest)) in
    cond_both (opcode == 0x0b) _ _ Holds
    (λ e.
    let Spelt : ℕ → Type 0 = λ n. Found (0x0f ∷ n ∷ rest) (insn.Ud2, 2) in
    subst Spelt (sym (eqb-true opcode 0x0b e)) (record {
      part =
          record { front = 0x0f ∷ 0x0b ∷ []; after = rest; bytes_are = refl; count = refl; holds = refl };
      some =
          omega arith;
      short = omega arith;
    }))
    (λ e. cond_both (nat_le 0x80 opcode && nat_lt opcode 0x90) _ _ Holds
    (λ e.
    let parts = and_parts (nat_le 0x80 opcode) (nat_lt opcode 0x90) e in
    with_signed_found (0x0f ∷ opcode ∷ []) 2 4 (λ z. Some (insn.Jcc (condition_at (opcode - 0x80)) z)) rest refl
    (omega arith) (omega arith) (omega arith)
    (λ z xs h. near_spells opcode z xs (leb-true 0x80 opcode parts.0) (ltb-true opcode 0x90 parts.1) h))
    (λ e. cond_both (nat_le 0x90 opcode && nat_lt opcode 0xa0 || opcode == 0xb6 || opcode == 0xbe) _ _ Holds
    (λ e. with8_found (0x0f ∷ opcode ∷ []) 2 (extended8_insn opcode) rest refl (omega arith) (extended8_spells opcode))
    (λ e. cond_both (opcode == 0xaf || opcode == 0xb7 || opcode == 0xbf) _ _ Holds
    (λ e. with32_found (0x0f ∷ opcode ∷ []) 2 (extended32_insn opcode) rest refl (omega arith)
    (extended32_spells opcode))
    (λ e. tt))))

two_byte_found : (rest : List ℕ) → IfSome (read_two_byte rest) (Found (0x0f ∷ rest))
unfolding read_two_byte
two_byte_found [] = tt
two_byte_found (opcode ∷ rest) = extended_found opcode rest

sixteen_found : (rest : List ℕ) → IfSome (read_sixteen rest) (Found (0x66 ∷ rest))
unfolding read_sixteen
sixteen_found [] = tt
sixteen_found (opcode ∷ rest) =
    with32_found (0x66 ∷ opcode ∷ []) 2 (sixteen_insn opcode) rest refl (omega arith) (sixteen_spells opcode)

-- 81 and C7
long_immediate_found : (opcode : ℕ) (rest : List ℕ) → (opcode ≡ 0x81) ⊎ (opcode ≡ 0xc7)
    → IfSome (read_immediate 4 (immediate_insn opcode) rest) (Found (opcode ∷ rest))
long_immediate_found opcode rest (inl e) =
    known opcode 0x81 rest (λ n. read_immediate 4 (immediate_insn n) rest) e
    (immediate_found 0x81 4 rest (omega arith) long_immediate_spells)
long_immediate_found opcode rest (inr e) =
    known opcode 0xc7 rest (λ n. read_immediate 4 (immediate_insn n) rest) e
    (immediate_found 0xc7 4 rest (omega arith) mov_immediate_spells)

one_or_other : (opcode a b : ℕ) → (opcode == a || opcode == b) ≡ true → (opcode ≡ a) ⊎ (opcode ≡ b)
one_or_other opcode a b e =
    elim (or_cases (opcode == a) (opcode == b) e) [
      | inl x ↦ inl (eqb-true opcode a x)
      | inr x ↦ inr (eqb-true opcode b x)
    ]

opcode_found : (opcode : ℕ) (rest : List ℕ) → IfSome (read_opcode opcode rest) (Found (opcode ∷ rest))
unfolding read_opcode
opcode_found opcode rest =
    let Holds : Option (Insn × ℕ) → Type 0 = λ o. IfSome o (Found (opcode ∷ rest)) in
    cond_both (opcode == 0x0f) _ _ Holds
    (λ e. known opcode 0x0f rest (λ n. read_two_byte rest) (eqb-true opcode 0x0f e) (two_byte_found rest))
    (λ e. cond_both (opcode == 0x66) _ _ Holds
    (λ e. known opcode 0x66 rest (λ n. read_sixteen rest) (eqb-true opcode 0x66 e) (sixteen_found rest))
    (λ e. cond_both (has_fields32 opcode) _ _ Holds
    (λ e. with32_found (opcode ∷ []) 1 (fields32_insn opcode) rest refl (omega arith) (fields32_spells opcode))
    (λ e. cond_both (has_fields8 opcode) _ _ Holds
    (λ e. with8_found (opcode ∷ []) 1 (fields8_insn opcode) rest refl (omega arith) (fields8_spells opcode))
    (λ e. cond_both (opcode == 0x81
    || opcode == 0xc7) _ _ Holds (λ e. long_immediate_found opcode rest (one_or_other opcode 0x81 0xc7 e))
    (λ e. cond_both (opcode == 0x83) _ _ Holds
    (λ e. known opcode 0x83 rest (λ n. read_immediate 1 (immediate_insn n) rest) (eqb-true opcode 0x83 e)
    (immediate_found 0x83 1 rest (omega arith) short_immediate_spells))
    (λ e. cond_both (opcode == 0xc1) _ _ Holds
    (λ e. known opcode 0xc1 rest (λ n. read_shift rest) (eqb-true opcode 0xc1 e) (shift_found rest))
    (λ e. cond_both (has_long opcode) _ _ Holds
    (λ e. with_signed_found (opcode ∷ []) 1 4 (long_insn opcode) rest refl (omega arith) (omega arith) (omega arith)
    (long_spells opcode))
    (λ e. cond_both (has_short opcode) _ _ Holds
    (λ e. with_signed_found (opcode ∷ []) 1 1 (short_insn opcode) rest refl (omega arith) (omega arith)
    (omega arith) (short_spells opcode))
    (λ e. cond_both (has_byte opcode) _ _ Holds (λ e. with_byte_found opcode rest)
    (λ e. lone_found opcode rest))))))))))

-- the instruction that is read is spelled
pub insn_found : (bytes : List ℕ) → IfSome (read_insn bytes) (Found bytes)
unfolding read_insn
insn_found [] = tt
insn_found (opcode ∷ rest) = opcode_found opcode rest

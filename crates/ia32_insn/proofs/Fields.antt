-- ModRM, SIB, displacements and numbers are read exactly where they are spelled.
use Rattle.std.specs.Prelude.{◌≡◌, ◌≢◌, ℕ, suc, ◌+◌, ◌^◌, ◌≤◌, ◌<◌, ℤ, Bool, true, false, ◌&&◌, ◌==◌, nat_le, nat_lt}
use Rattle.std.specs.Prelude.{cond, List, [], ◌∷◌, ◌++◌, length, Option, Some, None, IfSome, option_map, if◌then◌else◌}
use Rattle.std.specs.Prelude.{refl}
use Rattle.std.proofs.Common.{sym, ◌∙◌, ap, subst, arith, inl, inr}
use Rattle.std.proofs.Math.Seq.{take-append_seam}
use Rattle.std.proofs.lemmas.Bool.{cond_both, cond-true, cond-false, eqb-true, eqb-false, ltb-true, leb-true, le-leb}
use Rattle.std.proofs.lemmas.Bool.{lt-ltb, eq-eqb, ne_eqb}
use Rattle.std.proofs.lemmas.Bool.Decides.{nat_tests}
use Rattle.std.proofs.lemmas.List.{length-take-le, length-append}
use Rattle.byteorder.specs.Endian.{little_number, twos_complement}
use Rattle.byteorder.specs.Numbers.{little_from-take}
use Rattle.ia32_insn.specs.Registers.{number32}
use Rattle.ia32_insn.specs.declared.register_names.Reg32.{Reg32}
use Rattle.ia32_insn.specs.declared.operand.Mem.{Mem}
use Rattle.ia32_insn.specs.declared.operand.Rm32.{Rm32}
use Rattle.ia32_insn.specs.declared.operand.Rm32.TheVariants as rm
use Rattle.ia32_insn.specs.declared.operand.Rm8.{Rm8}
use Rattle.ia32_insn.specs.declared.operand.Rm8.TheVariants as rm8
use Rattle.ia32_insn.specs.Spelling.{ReadsSigned, high_field, middle_field, low_field, displacement_size, index_named}
use Rattle.ia32_insn.specs.Spelling.{IsAddress, HasSib, IsMemory, Operand, InRegister, InMemory, HasFields, operand32}
use Rattle.ia32_insn.specs.Spelling.{operand8}
use Rattle.ia32_insn.specs.Reading.{◌>>=◌, register_at, read_signed, read_base, read_index, read_address, read_sib}
use Rattle.ia32_insn.specs.Reading.{read_memory, read_fields, rm32_of, rm8_of, read_fields32, read_fields8}
use Rattle.ia32_insn.proofs.Parts.{Part, Part-take, then_holds, then_reads}
use Rattle.ia32_insn.proofs.Numbers.{register_at-number, number-register_at, byte_register_at-number}
use Rattle.ia32_insn.proofs.Numbers.{number-byte_register_at}

-- ---- numbers

-- the number in the first bytes doesn't depend on those after them
little_number-front : (xs after : List ℕ) → little_number (length xs) (xs ++ after) ≡ little_number (length xs) xs
little_number-front xs after =
    sym (little_from-take 0 (length xs) (length xs) (xs ++ after) (omega arith)) ∙ ap (little_number (length xs))
    (take-append_seam xs after)

pub read_signed-reads : (n : ℕ) (xs after : List ℕ) (z : ℤ) → ReadsSigned n xs z → read_signed n (xs ++ after) ≡ Some z
unfolding read_signed
read_signed-reads n xs after z h =
    let room : n ≤ length (xs ++ after) = omega (arith, length-append xs after, h.count) in
    let number : little_number n (xs ++ after) ≡ little_number n xs =
    subst (λ (k : ℕ). little_number k (xs ++ after) ≡ little_number k xs) h.count (little_number-front xs after) in
    rw (le-leb n (length (xs ++ after)) room, number, h.reads) refl

pub read_signed-part : (n : ℕ) (bytes : List ℕ)
    → IfSome (read_signed n bytes) (λ z. Part (λ xs. ReadsSigned n xs z) n bytes)
unfolding read_signed
read_signed-part n bytes =
    let found : Option ℤ = Some (twos_complement n (little_number n bytes)) in
    let Holds : Option ℤ → Type 0 = λ o. IfSome o (λ z. Part (λ xs. ReadsSigned n xs z) n bytes) in
    cond_both (nat_le n (length bytes)) found None Holds
    (λ e.
    let room : n ≤ length bytes = leb-true n (length bytes) e in
    Part-take (λ xs. ReadsSigned n xs (twos_complement n (little_number n bytes))) n bytes room
    (record {
      count = length-take-le n bytes room;
      reads =
          ap (twos_complement n) (little_from-take 0 n n bytes (omega arith));
    }))
    (λ e. tt)

-- ---- memory operands

-- a base is read from its number
base_at : (none : Bool) (number : ℕ) (o : Option Reg32) → option_map number32 o ≡ cond none None (Some number)
    → o ≡ cond none None (Some (register_at number))
base_at true number None e = refl
base_at true number (Some r) e = absurd (let no : Some (number32 r) ≡ None = e in cc)
base_at false number None e = absurd (let no : None ≡ Some number = e in cc)
base_at false number (Some r) e =
    let whole : Some (number32 r) ≡ Some number = e in
    let same : number32 r ≡ number = cc in
    ap Some (sym (register_at-number r) ∙ ap register_at same)

named_at : (none : Bool) (number : ℕ) → number < 8 → option_map number32 (cond none None (Some (register_at number)))
    ≡ cond none None (Some number)
named_at true number h = refl
named_at false number h = ap Some (number-register_at number h)

-- an index as its number and its factor
abbrev index_number : Reg32 × ℕ → ℕ × ℕ
index_number i = (number32 i.0, i.1)

index_at : (none : Bool) (number factor : ℕ) (o : Option (Reg32 × ℕ)) → option_map index_number o
    ≡ cond none None (Some (number, factor)) → o ≡ cond none None (Some (register_at number, factor))
index_at true number factor None e = refl
index_at true number factor (Some i) e = absurd (let no : Some (index_number i) ≡ None = e in cc)
index_at false number factor None e =
    absurd (let pair : ℕ × ℕ = (number, factor) in let no : None ≡ Some pair = e in cc)
index_at false number factor (Some i) e =
    let pair : ℕ × ℕ = (number, factor) in
    let whole : Some (index_number i) ≡ Some pair = e in
    let same : index_number i ≡ pair = cc in
    let first : register_at number ≡ i.0 =
    ap register_at (sym (ap (λ (p : ℕ × ℕ). p.0) same)) ∙ register_at-number i.0 in
    let second : factor ≡ i.1 = sym (ap (λ (p : ℕ × ℕ). p.1) same) in
    let made : Reg32 → ℕ → Option (Reg32 × ℕ) = λ r k. Some (r, k) in
    sym (ap (λ r. made r factor) first ∙ ap (made i.0) second)

index_named_at : (none : Bool) (number factor : ℕ) → number < 8
    → option_map index_number (cond none None (Some (register_at number, factor)))
    ≡ cond none None (Some (number, factor))
index_named_at true number factor h = refl
index_named_at false number factor h =
    let made : ℕ → Option (ℕ × ℕ) = λ k. Some (k, factor) in
    ap made (number-register_at number h)

-- an address with this base and this index is read
read_address-reads : (mode base : ℕ) (named : Option (ℕ × ℕ)) (index : Option (Reg32 × ℕ)) (m : Mem) (xs after : List ℕ)
    → m.index ≡ index → IsAddress mode base named m xs → read_address mode base index (xs ++ after)
    ≡ Some (m, length xs)
unfolding read_address read_base
read_address-reads mode base named index m xs after index_is h =
    let size : displacement_size mode base ≡ length xs = sym h.displacement.count in
    let base_is : m.base ≡ read_base mode base = base_at (mode == 0 && base == 5) base m.base h.base_is in
    let made : Option Reg32 → Option (Reg32 × ℕ) → ℕ → Option (Mem × ℕ) =
    λ b i k. Some (record { base = b; index = i; disp = m.disp }, k) in
    then_reads (read_signed (displacement_size mode base) (xs ++ after))
    (λ disp. Some (record { base = read_base mode base; index = index; disp = disp }, displacement_size mode base))
    m.disp
    (read_signed-reads (displacement_size mode base) xs after m.disp h.displacement)
    ∙ ap (λ b. made b index (displacement_size mode base)) (sym base_is)
    ∙ ap (λ i. made m.base i (displacement_size mode base)) (sym index_is)
    ∙ ap (made m.base m.index) size

-- at most four bytes of displacement
displacement_short : (mode base : ℕ) → displacement_size mode base ≤ 4
displacement_short mode base = grind (arith, nat_tests)

-- a memory operand that is read in so many bytes is spelled there
record Spelled (P : Mem → List ℕ → Type 0) (limit : ℕ) (bytes : List ℕ) (read : Mem × ℕ) : Type 0 where
  pub part : Part (P read.0) read.1 bytes
  pub short : read.1 ≤ limit

read_address-part : (mode base : ℕ) (named : Option (ℕ × ℕ)) (index : Option (Reg32 × ℕ)) (bytes : List ℕ) → base < 8
    → option_map index_number index ≡ named
    → IfSome (read_address mode base index bytes) (Spelled (IsAddress mode base named) 4 bytes)
unfolding read_address read_base
read_address-part mode base named index bytes below index_is =
    let size : ℕ = displacement_size mode base in
    then_holds (read_signed (displacement_size mode base) bytes)
    (λ disp. Some (record { base = read_base mode base; index = index; disp = disp }, displacement_size mode base))
    (λ z. Part (λ xs. ReadsSigned (displacement_size mode base) xs z) (displacement_size mode base) bytes)
    (Spelled (IsAddress mode base named) 4 bytes)
    (read_signed-part (displacement_size mode base) bytes)
    (λ z p. record {
      part = record {
        front = p.front;
        after = p.after;
        bytes_are = p.bytes_are;
        count = p.count;
        holds = record {
          base_is = named_at (mode == 0 && base == 5) base below;
          index_is = index_is;
          displacement =
              p.holds;
        };
      };
      short = displacement_short mode base;
    })

-- one byte more in front
one_more : (n : ℕ) → 1 + n ≡ suc n
one_more n = omega arith

read_sib-reads : (mode : ℕ) (m : Mem) (xs after : List ℕ) → HasSib mode m xs → read_sib mode (xs ++ after)
    ≡ Some (m, length xs)
unfolding read_sib read_index
read_sib-reads mode m xs after (sib, rest, xs_are, byte, h) =
    let counted : Mem × ℕ → Option (Mem × ℕ) = λ r. Some (r.0, 1 + r.1) in
    let index_is : m.index ≡ read_index (high_field sib) (middle_field sib) =
    index_at (middle_field sib == 4) (middle_field sib) (2 ^ high_field sib) m.index h.index_is in
    let address =
    read_address-reads mode (low_field sib) (index_named (high_field sib) (middle_field sib))
    (read_index (high_field sib) (middle_field sib)) m rest after index_is h in
    let rest_read : Option (Mem × ℕ) =
    read_address mode (low_field sib) (read_index (high_field sib) (middle_field sib)) (rest ++ after)
    >>= counted in
    let read : read_sib mode ((sib ∷ rest) ++ after) ≡ Some (m, suc (length rest)) =
    cond-true (nat_lt sib 256) rest_read None (lt-ltb sib 256 byte)
    ∙ then_reads (read_address mode (low_field sib) (read_index (high_field sib) (middle_field sib)) (rest ++ after))
    counted (m, length rest) address
    ∙ ap (λ (k : ℕ). let o : Option (Mem × ℕ) = Some (m, k) in o) (one_more (length rest)) in
    let Reads : List ℕ → Type 0 = λ bs. read_sib mode (bs ++ after) ≡ Some (m, length bs) in
    subst Reads (sym xs_are) read

-- a part and one byte in front of it
after_byte : {P Q : List ℕ → Type 0} (n byte : ℕ) (bytes : List ℕ) → Part P n bytes
    → ((front : List ℕ) → P front → Q (byte ∷ front)) → Part Q (1 + n) (byte ∷ bytes)
after_byte n byte bytes p holds =
    record {
      front = byte ∷ p.front;
      after = p.after;
      bytes_are = ap (λ bs. byte ∷ bs) p.bytes_are;
      count = let e = p.count in omega arith;
      holds = holds p.front p.holds;
    }

read_sib-part : (mode : ℕ) (bytes : List ℕ) → IfSome (read_sib mode bytes) (Spelled (HasSib mode) 5 bytes)
unfolding read_sib read_index
read_sib-part mode [] = tt
read_sib-part mode (sib ∷ rest) =
    let Holds : Mem × ℕ → Type 0 = Spelled (HasSib mode) 5 (sib ∷ rest) in
    let counted : Mem × ℕ → Option (Mem × ℕ) = λ r. Some (r.0, 1 + r.1) in
    let index : Option (Reg32 × ℕ) = read_index (high_field sib) (middle_field sib) in
    let named : Option (ℕ × ℕ) = index_named (high_field sib) (middle_field sib) in
    let index_is : option_map index_number index ≡ named =
    index_named_at (middle_field sib == 4) (middle_field sib) (2 ^ high_field sib) (omega arith) in
    cond_both (nat_lt sib 256) (read_address mode (low_field sib) index rest >>= counted) None (λ o. IfSome o Holds)
    (λ e.
    let byte : sib < 256 = ltb-true sib 256 e in
    then_holds (read_address mode (low_field sib) index rest) counted
    (Spelled (IsAddress mode (low_field sib) named) 4 rest) Holds
    (read_address-part mode (low_field sib) named index rest (omega arith) index_is)
    (λ m s. record {
      part = after_byte m.1 sib rest s.part (λ front h. (sib, front, refl, byte, h));
      short = let short = s.short in omega arith;
    }))
    (λ e. tt)

read_memory-reads : (mode number : ℕ) (m : Mem) (xs after : List ℕ) → IsMemory mode number m xs
    → read_memory mode number (xs ++ after) ≡ Some (m, length xs)
unfolding read_memory
read_memory-reads mode number m xs after (inl (other, h)) =
    let index_is : m.index ≡ None = index_at true 0 0 m.index h.index_is in
    cond-false (number == 4) (read_sib mode (xs ++ after)) (read_address mode number None (xs ++ after))
    (ne_eqb number 4 other)
    ∙ read_address-reads mode number None None m xs after index_is h
read_memory-reads mode number m xs after (inr (same, h)) =
    cond-true (number == 4) (read_sib mode (xs ++ after)) (read_address mode number None (xs ++ after))
    (eq-eqb number 4 same)
    ∙ read_sib-reads mode m xs after h

-- a part of which more is known
Part-holds : {P Q : List ℕ → Type 0} (n : ℕ) (bytes : List ℕ) → Part P n bytes → ((front : List ℕ) → P front → Q front)
    → Part Q n bytes
Part-holds n bytes p holds =
    record { front = p.front; after = p.after; bytes_are = p.bytes_are; count = p.count; holds = holds p.front p.holds }

-- where something is read of which one thing holds, so does another
holds_then : {A : Type 0} (o : Option A) {P Q : A → Type 0} → IfSome o P → ((x : A) → P x → Q x) → IfSome o Q
holds_then None h next = tt
holds_then (Some x) h next = next x h

read_memory-part : (mode number : ℕ) (bytes : List ℕ) → number < 8
    → IfSome (read_memory mode number bytes) (Spelled (IsMemory mode number) 5 bytes)
unfolding read_memory
read_memory-part mode number bytes below =
    let Holds : Mem × ℕ → Type 0 = Spelled (IsMemory mode number) 5 bytes in
    cond_both (number == 4) (read_sib mode bytes) (read_address mode number None bytes) (λ o. IfSome o Holds)
    (λ e.
    let same : number ≡ 4 = eqb-true number 4 e in
    holds_then (read_sib mode bytes) (read_sib-part mode bytes)
    (λ m s. record { part = Part-holds m.1 bytes s.part (λ front h. inr (same, h)); short = s.short }))
    (λ e.
    let other : number ≢ 4 = eqb-false number 4 e in
    holds_then (read_address mode number None bytes) (read_address-part mode number None None bytes below refl)
    (λ m s. record {
      part = Part-holds m.1 bytes s.part (λ front h. inl (other, h));
      short = let short =
          s.short in omega arith;
    }))

-- ---- ModRM

-- what is read where mod isn't 3
abbrev if_memory : ℕ → List ℕ → Option (ℕ × Operand × ℕ)
if_memory modrm rest =
    if nat_lt (high_field modrm) 3
    then (read_memory (high_field modrm) (low_field modrm) rest
    >>= (λ m. Some (middle_field modrm, InMemory m.0, 1 + m.1))) else None

-- ModRM and what follows it are read
pub read_fields-reads : (reg : ℕ) (operand : Operand) (xs after : List ℕ) → HasFields reg operand xs
    → read_fields (xs ++ after) ≡ Some (reg, operand, length xs)
unfolding read_fields
read_fields-reads reg (InRegister number) xs after (modrm, xs_are, mode, reg_is, number_is) =
    let made : ℕ → ℕ → Option (ℕ × Operand × ℕ) = λ r n. Some (r, InRegister n, 1) in
    let memory : Option (ℕ × Operand × ℕ) = if_memory modrm after in
    let read : read_fields ((modrm ∷ []) ++ after) ≡ Some (reg, InRegister number, 1) =
    cond-true (high_field modrm == 3) (made (middle_field modrm) (low_field modrm)) memory
    (eq-eqb (high_field modrm) 3 mode)
    ∙ ap (λ r. made r (low_field modrm)) reg_is ∙ ap (made reg) number_is in
    let Reads : List ℕ → Type 0 = λ bs. read_fields (bs ++ after) ≡ Some (reg, InRegister number, length bs) in
    subst Reads (sym xs_are) read
read_fields-reads reg (InMemory m) xs after (modrm, rest, xs_are, mode, reg_is, h) =
    let other : high_field modrm ≢ 3 = omega arith in
    let counted : Mem × ℕ → Option (ℕ × Operand × ℕ) = λ r. Some (middle_field modrm, InMemory r.0, 1 + r.1) in
    let made : ℕ → ℕ → Option (ℕ × Operand × ℕ) = λ r k. Some (r, InMemory m, k) in
    let register : Option (ℕ × Operand × ℕ) = Some (middle_field modrm, InRegister (low_field modrm), 1) in
    let memory : Option (ℕ × Operand × ℕ) = read_memory (high_field modrm) (low_field modrm) (rest ++ after)
    >>= counted in
    let read : read_fields ((modrm ∷ rest) ++ after) ≡ Some (reg, InMemory m, suc (length rest)) =
    cond-false (high_field modrm == 3) register (if_memory modrm (rest ++ after)) (ne_eqb (high_field modrm) 3 other)
    ∙ cond-true (nat_lt (high_field modrm) 3) memory None (lt-ltb (high_field modrm) 3 mode)
    ∙ then_reads (read_memory (high_field modrm) (low_field modrm) (rest ++ after)) counted (
      m,
      length rest,
    ) (read_memory-reads (high_field modrm) (low_field modrm) m rest after h)
    ∙ ap (λ r. made r (1 + length rest)) reg_is ∙ ap (made reg) (one_more (length rest)) in
    let Reads : List ℕ → Type 0 = λ bs. read_fields (bs ++ after) ≡ Some (reg, InMemory m, length bs) in
    subst Reads (sym xs_are) read

-- fields that are read in so many bytes are spelled there
pub record Fielded (bytes : List ℕ) (reg : ℕ) (operand : Operand) (n : ℕ) : Type 0 where
  pub part : Part (HasFields reg operand) n bytes
  pub below : reg < 8
  pub some : 1 ≤ n
  pub short : n ≤ 6

pub read_fields-part : (bytes : List ℕ) → IfSome (read_fields bytes) (λ f. Fielded bytes f.0 f.1 f.2)
unfolding read_fields
read_fields-part [] = tt
read_fields-part (modrm ∷ rest) =
    let Holds : ℕ × Operand × ℕ → Type 0 = λ f. Fielded (modrm ∷ rest) f.0 f.1 f.2 in
    let counted : Mem × ℕ → Option (ℕ × Operand × ℕ) = λ r. Some (middle_field modrm, InMemory r.0, 1 + r.1) in
    let register : Option (ℕ × Operand × ℕ) = Some (middle_field modrm, InRegister (low_field modrm), 1) in
    let memory : Option (ℕ × Operand × ℕ) = read_memory (high_field modrm) (low_field modrm) rest >>= counted in
    cond_both (high_field modrm == 3) register (if_memory modrm rest) (λ o. IfSome o Holds)
    (λ e. record {
      part = record {
        front = modrm ∷ [];
        after = rest;
        bytes_are = refl;
        count = refl;
        holds =
            (modrm, refl, eqb-true (high_field modrm) 3 e, refl, refl);
      };
      below = omega arith;
      some = omega arith;
      short = omega arith;
    })
    (λ e. cond_both (nat_lt (high_field modrm) 3) memory None (λ o. IfSome o Holds)
    (λ e.
    let mode : high_field modrm < 3 = ltb-true (high_field modrm) 3 e in
    then_holds (read_memory (high_field modrm) (low_field modrm) rest) counted
    (Spelled (IsMemory (high_field modrm) (low_field modrm)) 5 rest) Holds
    (read_memory-part (high_field modrm) (low_field modrm) rest (omega arith))
    (λ m s. record {
      part = after_byte m.1 modrm rest s.part (λ front h. (modrm, front, refl, mode, refl, h));
      below = omega arith;
      some = omega arith;
      short = let short = s.short in omega arith;
    }))
    (λ e. tt))

-- ---- operands of 32 and of 8 bits

rm32_of-operand : (x : Rm32) → rm32_of (operand32 x) ≡ x
rm32_of-operand (rm.Reg r) = ap rm.Reg (register_at-number r)
rm32_of-operand (rm.Mem m) = refl

rm8_of-operand : (x : Rm8) → rm8_of (operand8 x) ≡ x
rm8_of-operand (rm8.Reg r) = ap rm8.Reg (byte_register_at-number r)
rm8_of-operand (rm8.Mem m) = refl

operand-rm32_of : (reg : ℕ) (operand : Operand) (xs : List ℕ) → HasFields reg operand xs → operand32 (rm32_of operand)
    ≡ operand
operand-rm32_of reg (InRegister number) xs (modrm, xs_are, mode, reg_is, number_is) =
    ap InRegister (number-register_at number (omega arith))
operand-rm32_of reg (InMemory m) xs h = refl

operand-rm8_of : (reg : ℕ) (operand : Operand) (xs : List ℕ) → HasFields reg operand xs → operand8 (rm8_of operand)
    ≡ operand
operand-rm8_of reg (InRegister number) xs (modrm, xs_are, mode, reg_is, number_is) =
    ap InRegister (number-byte_register_at number (omega arith))
operand-rm8_of reg (InMemory m) xs h = refl

pub read_fields32-reads : (reg : ℕ) (x : Rm32) (xs after : List ℕ) → HasFields reg (operand32 x) xs
    → read_fields32 (xs ++ after) ≡ Some (reg, x, length xs)
unfolding read_fields32
read_fields32-reads reg x xs after h =
    let made : Rm32 → Option (ℕ × Rm32 × ℕ) = λ y. Some (reg, y, length xs) in
    then_reads (read_fields (xs ++ after)) (λ f. Some (f.0, rm32_of f.1, f.2)) (
      reg,
      operand32 x,
      length xs,
    ) (read_fields-reads reg (operand32 x) xs after h)
    ∙ ap made (rm32_of-operand x)

pub read_fields8-reads : (reg : ℕ) (x : Rm8) (xs after : List ℕ) → HasFields reg (operand8 x) xs
    → read_fields8 (xs ++ after) ≡ Some (reg, x, length xs)
unfolding read_fields8
read_fields8-reads reg x xs after h =
    let made : Rm8 → Option (ℕ × Rm8 × ℕ) = λ y. Some (reg, y, length xs) in
    then_reads (read_fields (xs ++ after)) (λ f. Some (f.0, rm8_of f.1, f.2)) (
      reg,
      operand8 x,
      length xs,
    ) (read_fields-reads reg (operand8 x) xs after h)
    ∙ ap made (rm8_of-operand x)

pub read_fields32-part : (bytes : List ℕ) → IfSome (read_fields32 bytes) (λ f. Fielded bytes f.0 (operand32 f.1) f.2)
unfolding read_fields32
read_fields32-part bytes =
    then_holds (read_fields bytes) (λ f. Some (f.0, rm32_of f.1, f.2)) (λ f. Fielded bytes f.0 f.1 f.2)
    (λ f. Fielded bytes f.0 (operand32 f.1) f.2)
    (read_fields-part bytes)
    (λ f s.
    let Holds : Operand → Type 0 = λ o. Fielded bytes f.0 o f.2 in
    subst Holds (sym (operand-rm32_of f.0 f.1 s.part.front s.part.holds)) s)

pub read_fields8-part : (bytes : List ℕ) → IfSome (read_fields8 bytes) (λ f. Fielded bytes f.0 (operand8 f.1) f.2)
unfolding read_fields8
read_fields8-part bytes =
    then_holds (read_fields bytes) (λ f. Some (f.0, rm8_of f.1, f.2)) (λ f. Fielded bytes f.0 f.1 f.2)
    (λ f. Fielded bytes f.0 (operand8 f.1) f.2)
    (read_fields-part bytes)
    (λ f s.
    let Holds : Operand → Type 0 = λ o. Fielded bytes f.0 o f.2 in
    subst Holds (sym (operand-rm8_of f.0 f.1 s.part.front s.part.holds)) s)

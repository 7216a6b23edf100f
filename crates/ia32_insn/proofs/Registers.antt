-- The laws of the registers: a register that was set has its value, and the others keep theirs.
use Rattle.std.proofs.Common.{◌≡◌, ◌≢◌, ◌⊎◌, ℕ, ◌+◌, ◌-◌, ◌^◌, ◌<◌, ◌≤◌, List, [], ◌∷◌, ◌++◌, length, take, drop}
use Rattle.std.proofs.Common.{get_or, refl, sym, ap, ◌∙◌, inl, inr, arith, append_assoc, length-append, length-drop}
use Rattle.std.proofs.lemmas.Bool.{cases_eq, cases_lt}
use Rattle.std.proofs.Math.ListN.{set, length-set}
use Rattle.std.proofs.lemmas.List.{drop-append-le, drop_all, get_or-append_right, get_or-drop, get_or-take}
use Rattle.std.proofs.lemmas.List.{get_or-set_other, get_or-set_same, get_or_append_left, get_or_past, length-take-le}
use Rattle.byteorder.specs.Endian.{little_bytes, little_from}
use Rattle.byteorder.specs.Numbers.{length-bytes_low_first, little_number-reads_back}
use Rattle.ia32_insn.specs.declared.register_names.Reg32.{Reg32}
use Rattle.ia32_insn.specs.declared.register_names.Reg32.TheVariants.{Eax, Ecx, Edx, Ebx, Esp, Ebp, Esi, Edi}
use Rattle.ia32_insn.proofs.Words.{bytes_of_words-lt}
use Rattle.ia32_insn.specs.Registers.{AreRegisters, number32, register, with_register, word_place}

-- there are eight registers
pub number32_below : (r : Reg32) → number32 r < 8
number32_below Eax = omega arith
number32_below Ecx = omega arith
number32_below Edx = omega arith
number32_below Ebx = omega arith
number32_below Esp = omega arith
number32_below Ebp = omega arith
number32_below Esi = omega arith
number32_below Edi = omega arith

-- the cells with others in the four from place p on
abbrev with_four : ℕ → ℕ → List ℕ → List ℕ
with_four p v bs = take p bs ++ little_bytes 4 v ++ drop (p + 4) bs

-- as many cells as before
length-with_four : (p v : ℕ) (bs : List ℕ) → p + 4 ≤ length bs → length (with_four p v bs) ≡ length bs
length-with_four p v bs h =
    let front : length (take p bs) ≡ p = length-take-le p bs (omega arith) in
    let four = length-bytes_low_first 0 4 v in
    let rest = length-drop (p + 4) bs in
    let first = length-append (take p bs) (little_bytes 4 v) in
    let whole = length-append (take p bs ++ little_bytes 4 v) (drop (p + 4) bs) in
    omega (arith, front, four, rest, first, whole)

-- the cells from place p on
drop-with_four : (p v : ℕ) (bs : List ℕ) → p + 4 ≤ length bs → drop p (with_four p v bs) ≡ little_bytes 4 v
    ++ drop (p + 4) bs
drop-with_four p v bs h =
    let front : length (take p bs) ≡ p = length-take-le p bs (omega arith) in
    ap (drop p) (append_assoc (take p bs) (little_bytes 4 v) (drop (p + 4) bs))
    ∙ drop-append-le p (take p bs) (little_bytes 4 v ++ drop (p + 4) bs) (omega arith)
    ∙ ap (λ (l : List ℕ). l ++ (little_bytes 4 v ++ drop (p + 4) bs)) (drop_all p (take p bs) (omega arith))

-- a cell before the four, or after them, is as before
pub get_or-with_four : (p v i : ℕ) (bs : List ℕ) → p + 4 ≤ length bs → (i < p) ⊎ (p + 4 ≤ i)
    → get_or (with_four p v bs) i 0 ≡ get_or bs i 0
get_or-with_four p v i bs h (inl before) =
    let front : length (take p bs) ≡ p = length-take-le p bs (omega arith) in
    ap (λ (l : List ℕ). get_or l i 0) (append_assoc (take p bs) (little_bytes 4 v) (drop (p + 4) bs))
    ∙ get_or_append_left (take p bs) (little_bytes 4 v ++ drop (p + 4) bs) 0 i (omega arith)
    ∙ get_or-take p bs i 0 before
get_or-with_four p v i bs h (inr after) =
    let front : length (take p bs) ≡ p = length-take-le p bs (omega arith) in
    let four = length-bytes_low_first 0 4 v in
    let first : length (take p bs ++ little_bytes 4 v) ≡ p + 4 =
    omega (arith, four, length-append (take p bs) (little_bytes 4 v)) in
    let same : p + 4 + (i - (p + 4)) ≡ i = omega arith in
    get_or-append_right (take p bs ++ little_bytes 4 v) (drop (p + 4) bs) (p + 4) i 0 first after
    ∙ get_or-drop (p + 4) bs (i - (p + 4)) 0
    ∙ ap (λ (m : ℕ). get_or bs m 0) same

-- the number in four cells is that of the same four elsewhere
pub little_from-same : (p : ℕ) (xs ys : List ℕ) → ((m : ℕ) → m < 4 → get_or xs (p + m) 0 ≡ get_or ys (p + m) 0)
    → little_from 0 4 (drop p xs) ≡ little_from 0 4 (drop p ys)
little_from-same p xs ys same =
    let at : (m : ℕ) → m < 4 → get_or (drop p xs) m 0 ≡ get_or (drop p ys) m 0 =
    λ m h. get_or-drop p xs m 0 ∙ same m h ∙ sym (get_or-drop p ys m 0) in
    let a = at 0 (omega arith) in
    let b = at 1 (omega arith) in
    let c = at 2 (omega arith) in
    let d = at 3 (omega arith) in
    rw (a, b, c, d) refl

-- a register that is set leaves as many cells
pub length-with_register : (r : Reg32) (v : ℕ) (bs : List ℕ) → length bs ≡ 32 → length (with_register r v bs) ≡ 32
length-with_register r v bs e =
    let below = number32_below r in
    length-with_four (word_place r) v bs (omega arith) ∙ e

-- a register that is set has the value
pub register-with_same : (r : Reg32) (v : ℕ) (bs : List ℕ) → length bs ≡ 32 → v < 2 ^ 32
    → register r (with_register r v bs) ≡ v
register-with_same r v bs e h =
    let below = number32_below r in
    ap (little_from 0 4) (drop-with_four (word_place r) v bs (omega arith))
    ∙ little_number-reads_back 4 v (drop (word_place r + 4) bs) h

-- a register keeps its value where another is set
pub register-with_other : (r q : Reg32) (v : ℕ) (bs : List ℕ) → length bs ≡ 32 → number32 r ≢ number32 q
    → register r (with_register q v bs) ≡ register r bs
register-with_other r q v bs e other =
    let below = number32_below q in
    little_from-same (word_place r) (with_register q v bs) bs
    (λ m h. get_or-with_four (word_place q) v (word_place r + m) bs (omega arith)
    (elim (cases_lt (number32 r) (number32 q)) [
      | inl before ↦ inl (omega arith)
      | inr after ↦ inr (omega arith)
    ]))

-- each of the four is a byte
get_or-four : (p v i : ℕ) (bs : List ℕ) → p + 4 ≤ length bs → p ≤ i → i < p + 4 → get_or (with_four p v bs) i 0 < 256
get_or-four p v i bs h low high =
    let back : p + (i - p) ≡ i = omega arith in
    let moved = get_or-drop p (with_four p v bs) (i - p) 0 ∙ ap (λ (m : ℕ). get_or (with_four p v bs) m 0) back in
    let from = ap (λ (l : List ℕ). get_or l (i - p) 0) (drop-with_four p v bs h) in
    let front = get_or_append_left (little_bytes 4 v) (drop (p + 4) bs) 0 (i - p) (omega arith) in
    let byte : get_or (little_bytes 4 v) (i - p) 0 < 256 = bytes_of_words-lt (v ∷ []) (i - p) in
    omega (arith, moved, from, front, byte)

-- registers stay registers where one is set
pub AreRegisters-with_register : (r : Reg32) (v : ℕ) (bs : List ℕ) → AreRegisters bs
    → AreRegisters (with_register r v bs)
AreRegisters-with_register r v bs shape =
    let below = number32_below r in
    let room : word_place r + 4 ≤ length bs = omega (arith, shape.cells) in
    record {
      cells = length-with_register r v bs shape.cells;
      below = λ i. elim (cases_lt i (word_place r)) [
        | inl before ↦ rw (get_or-with_four (word_place r) v i bs room (inl before)) (shape.below i)
        | inr from ↦ elim (cases_lt i (word_place r + 4)) [
          | inl within ↦ get_or-four (word_place r) v i bs room from within
          | inr after ↦ rw (get_or-with_four (word_place r) v i bs room (inr after)) (shape.below i)
        ]
      ];
    }

-- and where one byte is
pub AreRegisters-set : (p v : ℕ) (bs : List ℕ) → v < 256 → AreRegisters bs → AreRegisters (set bs p v)
AreRegisters-set p v bs h shape =
    record {
      cells = length-set bs p v ∙ shape.cells;
      below = λ i. grind (
        arith,
        get_or-set_same bs i v 0,
        get_or-set_other bs p i v 0,
        cases_eq i p,
        shape.below i,
        get_or_past (set bs p v) i 0,
        length-set bs p v,
      );
    }

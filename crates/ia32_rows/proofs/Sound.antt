-- States whose memory is a text and the data behind it: which loads and stores are done there, and what they leave.
use Rattle.std.proofs.Common.{◌≡◌, ◌≢◌, ◌⊎◌, ℕ, ◌+◌, ◌-◌, ◌*◌, ◌%◌, ◌^◌, ◌<◌, ◌≤◌, Bool, true, false, List, [], ◌∷◌}
use Rattle.std.proofs.Common.{◌++◌, length, take, drop, Option, Some, None, Ok, nat_le, refl, sym, ap, subst, ◌∙◌, inl}
use Rattle.std.proofs.Common.{inr, arith, get_or, length-drop}
use Rattle.std.specs.Prelude.{◌&&◌, if◌then◌else◌, Result}
use Rattle.std.proofs.lemmas.Bool.{le-leb, leb-true, lt-leb, and_parts}
use Rattle.std.proofs.lemmas.List.{get_or-drop, get_or-take}
use Rattle.byteorder.specs.Endian.{little_bytes, little_from}
use Rattle.byteorder.specs.Numbers.{length-bytes_low_first, little_from-lt}
use Rattle.pcc_base.specs.Outcome.{End}
use Rattle.ia32_insn.specs.declared.register_names.Reg32.{Reg32}
use Rattle.ia32_insn.specs.Registers.{number32, word_place}
use Rattle.ia32_insn.proofs.Registers.{register-with_same, register-with_other, AreRegisters-with_register}
use Rattle.ia32_insn.specs.declared.flags.Flags.{Flags}
use Rattle.ia32_insn.specs.State.{State, Area, IsApart, AreApart, has_bytes, bytes_at, stored, with_bytes, at_address}
use Rattle.ia32_insn.specs.Meaning.{and_then, or_end, denied, load, load_bytes, store, word_of, with_word, with_flags}
use Rattle.ia32_insn.specs.Keeps.{AreDisjoint, KeepsAllButMemory}
use Rattle.ia32_insn.specs.Items.{text_start, text_area}
use Rattle.ia32_insn.proofs.Access.{load-elsewhere, load-stored, store-keeps_rest, and_then-ok, or_end-ok, ok-once}
use Rattle.ia32_insn.proofs.Memory.{inside, load-store_same}
use Rattle.ia32_insn.proofs.Splices.{length-replaced}
use Rattle.ia32_rows.specs.Sites.{data_from, IsSound}
use Rattle.ia32_rows.proofs.Small.{replaced-small}

-- ---- loads

and-false : (a b : Bool) → b ≡ false → (a && b) ≡ false
and-false true b e = e
and-false false b e = refl

first-one : (xs : List ℕ) → 0 < length xs → take 1 xs ≡ get_or xs 0 0 ∷ []
first-one [] h = absurd (omega arith)
first-one (x ∷ xs) h = refl

-- a number is loaded from the data
load-either : (t : Bool) (n a : ℕ) (x y : List ℕ) (s : State) → (v : ℕ)
    × (and_then (or_end (if t then Some x else Some y) (denied a s))
    (λ found. let r : Result ℕ End = Ok (little_from 0 n found) in r) ≡ Ok v)
load-either true n a x y s = (little_from 0 n x, refl)
load-either false n a x y s = (little_from 0 n y, refl)

pub load-in : (text : List ℕ) (low high n a : ℕ) (s : State) → IsSound text low high s → low ≤ a → a + n ≤ high
    → (v : ℕ) × (load n a s ≡ Ok v)
load-in text low high n a s h from to =
    let t : Bool = has_bytes (text_area text) a n in
    let here : List ℕ = take n (drop (a - low) h.bytes) in
    let size = h.size in
    let one : nat_le low a ≡ true = le-leb low a from in
    let two : nat_le (a + n) (low + length h.bytes) ≡ true = le-leb (a + n) (low + length h.bytes) (omega arith) in
    let found : bytes_at n a s.memory ≡ (if t then Some (take n (drop (a - text_start) text)) else Some here) =
    ap (bytes_at n a) h.memory ∙ rw (one, two) refl in
    let v = load-either t n a (take n (drop (a - text_start) text)) here s in (
      v.0,
      ap (λ (o : Option (List ℕ)). and_then (or_end o (denied a s))
          (λ f. let r : Result ℕ End = Ok (little_from 0 n f) in r)) found ∙ v.1,
    )

-- what is loaded depends on memory alone
pub load-same : (n a v : ℕ) (s t : State) → t.memory ≡ s.memory → load n a s ≡ Ok v → load n a t ≡ Ok v
load-same n a v s t same e =
    let read = and_then-ok (load_bytes n a s) (λ found. let r : Result ℕ End = Ok (little_from 0 n found) in r) v e in
    let found : bytes_at n a s.memory ≡ Some read.0 = or_end-ok (bytes_at n a s.memory) (denied a s) read.0 read.1 in
    ap (λ (o : Option (List ℕ)). and_then (or_end o (denied a t))
    (λ f. let r : Result ℕ End = Ok (little_from 0 n f) in r)) (ap (bytes_at n a) same ∙ found) ∙ read.2

-- the bytes at a place of the data
pub bytes-in : (text : List ℕ) (low high n a : ℕ) (s : State) → (h : IsSound text low high s) → low ≤ a → a + n ≤ high
    → 0 < n → bytes_at n a s.memory ≡ Some (take n (drop (a - low) h.bytes))
bytes-in text low high n a s h from to some =
    let above = h.above in
    let size = h.size in
    let no : nat_le (a + n) (text_start + length text) ≡ false =
    lt-leb (a + n) (text_start + length text) (omega arith) in
    let one : nat_le low a ≡ true = le-leb low a from in
    let two : nat_le (a + n) (low + length h.bytes) ≡ true = le-leb (a + n) (low + length h.bytes) (omega arith) in
    let rest : Option (List ℕ) = Some (take n (drop (a - low) h.bytes)) in
    let none : (nat_le text_start a && nat_le (a + n) (text_start + length text)) ≡ false =
    and-false (nat_le text_start a) (nat_le (a + n) (text_start + length text)) no in
    ap (bytes_at n a) h.memory ∙ rw (none, one, two) refl

-- a byte that is loaded is the one byte there
pub one-byte : (text : List ℕ) (low high a w : ℕ) (s : State) → IsSound text low high s → low ≤ a → a + 1 ≤ high
    → load 1 a s ≡ Ok w → load_bytes 1 a s ≡ Ok (w ∷ [])
one-byte text low high a w s h from to e =
    let size = h.size in
    let rest : List ℕ = drop (a - low) h.bytes in
    let found = bytes-in text low high 1 a s h from to (omega arith) in
    let long : 0 < length rest = let l = length-drop (a - low) h.bytes in omega (arith, l) in
    let one : take 1 rest ≡ get_or rest 0 0 ∷ [] = first-one rest long in
    let bytes : load_bytes 1 a s ≡ Ok (get_or rest 0 0 ∷ []) =
    ap (λ (o : Option (List ℕ)). or_end o (denied a s)) (found ∙ ap Some one) in
    let loaded : load 1 a s ≡ Ok (get_or rest 0 0 + 256 * 0) =
    ap (λ (r : Result (List ℕ) End). and_then r (λ f. let q : Result ℕ End = Ok (little_from 0 1 f) in q)) bytes in
    let same : get_or rest 0 0 + 256 * 0 ≡ w = ok-once (get_or rest 0 0 + 256 * 0) w (sym loaded ∙ e) in
    bytes ∙ ap (λ (x : ℕ). let q : Result (List ℕ) End = Ok (x ∷ []) in q)
    (let k : get_or rest 0 0 ≡ w = omega (arith, same) in k)

-- what is found behind one of two tests
either-found : (t u : Bool) (x y z : List ℕ) → (if t then Some x else (if u then Some y else None)) ≡ Some z
    → (t ≡ true) ⊎ (u ≡ true)
either-found true u x y z e = inl refl
either-found false true x y z e = inr refl
either-found false false x y z e = absurd (let no : None ≡ Some z = e in cc)

-- a load that is done is in the text or in the data
pub load-place : (text : List ℕ) (low high n a v : ℕ) (s : State) → IsSound text low high s → low ≤ a → load n a s
    ≡ Ok v → 0 < n → a + n ≤ high
load-place text low high n a v s h from e some =
    let read = and_then-ok (load_bytes n a s) (λ found. let r : Result ℕ End = Ok (little_from 0 n found) in r) v e in
    let found : bytes_at n a s.memory ≡ Some read.0 = or_end-ok (bytes_at n a s.memory) (denied a s) read.0 read.1 in
    let above = h.above in
    let size = h.size in
    elim (either-found (has_bytes (text_area text) a n) (has_bytes (data_from low h.bytes) a n)
    (take n (drop (a - text_start) text)) (take n (drop (a - low) h.bytes)) read.0
    (sym (ap (bytes_at n a) h.memory) ∙ found)) [
      | inl t ↦ let end : a + n ≤ text_start + length text =
          leb-true (a + n) (text_start + length text)
          (and_parts (nat_le text_start a) (nat_le (a + n) (text_start + length text)) t).1 in absurd (omega arith)
      | inr t ↦ let end : a + n ≤ low + length h.bytes =
          leb-true (a + n) (low + length h.bytes)
          (and_parts (nat_le low a) (nat_le (a + n) (low + length h.bytes)) t).1 in omega arith
    ]

-- ---- stores

some-once : (x y : List ℕ) → Some x ≡ Some y → x ≡ y
some-once x y e = cc

-- what a store of a word in the data leaves
pub record Stored (text : List ℕ) (low high a value : ℕ) (s t : State) : Type 0 where
  pub is : store 4 a value s ≡ Ok t
  pub sound : IsSound text low high t
  pub same : load 4 a t ≡ Ok value
  pub byte : load 1 a t ≡ Ok (value % 256)
  pub apart : (n b v : ℕ) → AreDisjoint a 4 b n → load n b s ≡ Ok v → load n b t ≡ Ok v
  pub rest : KeepsAllButMemory s t

-- no address is one of the text and one of the data
pub areas-apart : (text : List ℕ) (low high : ℕ) (s : State) → IsSound text low high s → AreApart s.memory
areas-apart text low high s h =
    let apart : IsApart (text_area text) (data_from low h.bytes) = λ address in_text in_data.
    let before = inside (text_area text) address 1 in_text in
    let behind = inside (data_from low h.bytes) address 1 in_data in
    absurd (omega (arith, before.to, behind.from, h.above))
    in
    subst AreApart (sym h.memory) ((apart, tt), (tt, tt))

pub store-in : (text : List ℕ) (low high a value : ℕ) (s : State) → IsSound text low high s → low ≤ a → a + 4 ≤ high
    → value < 2 ^ 32 → (t : State) × Stored text low high a value s t
store-in text low high a value s h from to fits =
    let new : List ℕ = little_bytes 4 value in
    let four : length new ≡ 4 = length-bytes_low_first 0 4 value in
    let size = h.size in
    let one : nat_le low a ≡ true = le-leb low a from in
    let two : nat_le (a + length new) (low + length h.bytes) ≡ true =
    le-leb (a + length new) (low + length h.bytes) (omega (arith, four)) in
    let memory : List Area = text_area text ∷ with_bytes a new (data_from low h.bytes) ∷ [] in
    let done : stored a new s.memory ≡ Some memory = ap (stored a new) h.memory ∙ rw (one, two) refl in
    let t : State = record s { memory = memory } in
    let is : store 4 a value s ≡ Ok t = ap (λ (o : Option (List Area)).
    and_then (or_end o (denied a s)) (λ m. let r : Result State End = Ok (record s { memory = m }) in r)) done in
    let bytes : List ℕ = take (a - low) h.bytes ++ new ++ drop (a - low + length new) h.bytes in
    let long : length bytes ≡ length h.bytes = length-replaced (a - low) new h.bytes (omega (arith, four)) in
    let sound : IsSound text low high t = record {
      bytes = bytes;
      memory = refl;
      size = ap (λ (k : ℕ). low + k) long ∙ size;
      above = h.above;
      below = h.below;
      small = replaced-small (a - low) 4 value (a - low + length new) h.bytes h.small;
      registers = h.registers;
    } in
    let old = load-in text low high 4 a s h from to in
    let four_more : 0 < length new = omega (arith, four) in
    let before = bytes-in text low high 4 a s h from to (omega arith) in
    let before_long : bytes_at (length new) a s.memory ≡ Some (take 4 (drop (a - low) h.bytes)) =
    subst (λ (k : ℕ). bytes_at k a s.memory ≡ Some (take 4 (drop (a - low) h.bytes))) (sym four) before in
    let after_long : bytes_at (length new) a memory ≡ Some new =
    load-store_same a new (take 4 (drop (a - low) h.bytes)) s.memory memory four_more
    (areas-apart text low high s h) before_long done in
    let after : bytes_at 4 a memory ≡ Some new = subst (λ (k : ℕ). bytes_at k a memory ≡ Some new) four after_long in
    let there : take 4 (drop (a - low) bytes) ≡ new =
    some-once (take 4 (drop (a - low) bytes)) new
    (sym (bytes-in text low high 4 a t sound from to (omega arith)) ∙ after) in
    let first : get_or (drop (a - low) bytes) 0 0 ≡ value % 256 =
    sym (get_or-take 4 (drop (a - low) bytes) 0 0 (omega arith)) ∙ ap (λ (l : List ℕ). get_or l 0 0) there in
    let tail_long : 0 < length (drop (a - low) bytes) = let l = length-drop (a - low) bytes in omega (arith, l, long) in
    let byte : load 1 a t ≡ Ok (value % 256) =
    ap (λ (o : Option (List ℕ)). and_then (or_end o (denied a t))
    (λ f. let r : Result ℕ End = Ok (little_from 0 1 f) in r))
    (bytes-in text low high 1 a t sound from (omega arith) (omega arith)
    ∙ ap Some (first-one (drop (a - low) bytes) tail_long))
    ∙ ap (λ (x : ℕ). let r : Result ℕ End = Ok x in r)
    (let k : get_or (drop (a - low) bytes) 0 0 + 256 * 0 ≡ value % 256 = omega (arith, first) in k) in (
      t,
      record {
        is = is;
        sound = sound;
        byte = byte;
        same = load-stored 4 a value old.0 s t (omega arith) fits (areas-apart text low high s h) old.1 is;
        apart = λ n b v places e. load-elsewhere a 4 b n value s t is places ∙ e;
        rest = store-keeps_rest a new s t is;
      },
    )

-- ---- registers

pub sound-with_word : (text : List ℕ) (low high : ℕ) (r : Reg32) (v : ℕ) (s : State) → IsSound text low high s
    → IsSound text low high (with_word r v s)
sound-with_word text low high r v s h =
    record {
      bytes = h.bytes;
      memory = h.memory;
      size = h.size;
      above = h.above;
      below = h.below;
      small = h.small;
      registers = AreRegisters-with_register r v s.registers h.registers;
    }

pub word-same : (text : List ℕ) (low high : ℕ) (r : Reg32) (v : ℕ) (s : State) → IsSound text low high s → v < 2 ^ 32
    → word_of r (with_word r v s) ≡ v
word-same text low high r v s h fits = register-with_same r v s.registers h.registers.cells fits

pub word-other : (text : List ℕ) (low high : ℕ) (r q : Reg32) (v : ℕ) (s : State) → IsSound text low high s
    → number32 r ≢ number32 q → word_of r (with_word q v s) ≡ word_of r s
word-other text low high r q v s h other = register-with_other r q v s.registers h.registers.cells other

pub word-below : (text : List ℕ) (low high : ℕ) (r : Reg32) (s : State) → IsSound text low high s → word_of r s < 2 ^ 32
word-below text low high r s h =
    let each : (k : ℕ) → get_or (drop (word_place r) s.registers) k 0 < 256 = λ k. let below =
    h.registers.below (word_place r + k) in rw (get_or-drop (word_place r) s.registers k 0) below in
    little_from-lt 0 4 (drop (word_place r) s.registers) each

-- a state at another address
pub sound-at : (text : List ℕ) (low high address : ℕ) (s : State) → IsSound text low high s
    → IsSound text low high (at_address address s)
sound-at text low high address s h =
    record {
      bytes = h.bytes;
      memory = h.memory;
      size = h.size;
      above = h.above;
      below = h.below;
      small = h.small;
      registers = h.registers;
    }

-- and with other flags
pub sound-with_flags : (text : List ℕ) (low high : ℕ) (flags : Option Flags) (s : State) → IsSound text low high s
    → IsSound text low high (with_flags flags s)
sound-with_flags text low high flags s h =
    record {
      bytes = h.bytes;
      memory = h.memory;
      size = h.size;
      above = h.above;
      below = h.below;
      small = h.small;
      registers = h.registers;
    }

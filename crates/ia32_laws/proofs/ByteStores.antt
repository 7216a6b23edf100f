-- A byte that is stored where a word of 0 stands makes it the byte's word.
use Rattle.std.proofs.Common.{◌≡◌, ℕ, ◌+◌, ◌-◌, ◌*◌, ◌<◌, ◌≤◌, true, List, [], ◌∷◌, ◌++◌, length, take}
use Rattle.std.proofs.Common.{drop, Option, Some, Ok, nat_le, refl, sym, ap, ◌∙◌, inl, arith, get_or}
use Rattle.std.specs.Prelude.{Result}
use Rattle.std.proofs.lemmas.Bool.{le-leb}
use Rattle.std.proofs.lemmas.List.{get_or-drop, get_or-take}
use Rattle.std.proofs.Math.Nat.{mod-eq_of_lt}
use Rattle.byteorder.specs.Endian.{little_bytes, little_from}
use Rattle.pcc_base.specs.Outcome.{End}
use Rattle.ia32_insn.specs.State.{State, Area, may_store, stored, with_bytes}
use Rattle.ia32_insn.specs.Meaning.{and_then, denied, load, or_end, store, store_bytes}
use Rattle.ia32_insn.specs.Keeps.{AreDisjoint, KeepsAllButMemory}
use Rattle.ia32_insn.specs.Items.{text_area}
use Rattle.ia32_insn.proofs.Access.{load-elsewhere, load-stored, ok-once, store-keeps_rest}
use Rattle.ia32_insn.proofs.Splices.{length-replaced}
use Rattle.ia32_rows.specs.Sites.{Site, SoundAt, data_from}
use Rattle.ia32_rows.proofs.Small.{with-small}
use Rattle.ia32_rows.proofs.Sets.{disjoint-part}
use Rattle.ia32_rows.proofs.Sound.{areas-apart, bytes-in, load-in}

-- ---- the bytes of a word

-- the byte at a place of the data
byte-loaded : (site : Site) (a : ℕ) (s : State) → (h : SoundAt site s) → site.low ≤ a → a + 1 ≤ site.high
    → load 1 a s ≡ Ok (get_or h.bytes (a - site.low) 0)
byte-loaded site a s h from to =
    let bs : List ℕ = drop (a - site.low) h.bytes in
    let loaded : load 1 a s ≡ Ok (get_or (take 1 bs) 0 0 + 256 * 0) =
    ap (λ (o : Option (List ℕ)). and_then (or_end o (denied a s))
    (λ f. let r : Result ℕ End = Ok (little_from 0 1 f) in r))
    (bytes-in site.text site.low site.high 1 a s h from to (omega arith)) in
    loaded ∙ ap (λ (x : ℕ). let r : Result ℕ End = Ok x in r)
    (alone (get_or (take 1 bs) 0 0) ∙ get_or-take 1 bs 0 0 (omega arith) ∙ get_or-drop (a - site.low) h.bytes 0 0
    ∙ ap (λ (m : ℕ). get_or h.bytes m 0) (none (a - site.low)))
  where
    alone : (x : ℕ) → x + 256 * 0 ≡ x
    alone x = omega arith

    none : (m : ℕ) → m + 0 ≡ m
    none m = omega arith

-- a word there, by its bytes
word-loaded : (site : Site) (a : ℕ) (s : State) → (h : SoundAt site s) → site.low ≤ a → a + 4 ≤ site.high
    → load 4 a s ≡ Ok (get_or h.bytes (a - site.low) 0 + 256 * (get_or h.bytes (a + 1 - site.low) 0
    + 256 * (get_or h.bytes (a + 2 - site.low) 0 + 256 * get_or h.bytes (a + 3 - site.low) 0)))
word-loaded site a s h from to =
    let bs : List ℕ = drop (a - site.low) h.bytes in
    let loaded : load 4 a s ≡ Ok (get_or (take 4 bs) 0 0 + 256 * (get_or (take 4 bs) 1 0
    + 256 * (get_or (take 4 bs) 2 0 + 256 * (get_or (take 4 bs) 3 0 + 256 * 0)))) =
    ap (λ (o : Option (List ℕ)). and_then (or_end o (denied a s))
    (λ f. let r : Result ℕ End = Ok (little_from 0 4 f) in r))
    (bytes-in site.text site.low site.high 4 a s h from to (omega arith)) in
    loaded ∙ ap (λ (x : ℕ). let r : Result ℕ End = Ok x in r)
    (four (get_or (take 4 bs) 0 0) (get_or (take 4 bs) 1 0) (get_or (take 4 bs) 2 0) (get_or (take 4 bs) 3 0)
    (get_or h.bytes (a - site.low) 0) (get_or h.bytes (a + 1 - site.low) 0) (get_or h.bytes (a + 2 - site.low) 0)
    (get_or h.bytes (a + 3 - site.low) 0)
    (at 0 (a - site.low) (omega arith) (omega arith)) (at 1 (a + 1 - site.low) (omega arith) (omega (arith, from)))
    (at 2 (a + 2 - site.low) (omega arith) (omega (arith, from)))
    (at 3 (a + 3 - site.low) (omega arith) (omega (arith, from))))
  where
    at : (i m : ℕ) → i < 4 → a - site.low + i ≡ m
        → get_or (take 4 (drop (a - site.low) h.bytes)) i 0 ≡ get_or h.bytes m 0
    at i m few e =
        get_or-take 4 (drop (a - site.low) h.bytes) i 0 few ∙ get_or-drop (a - site.low) h.bytes i 0
        ∙ ap (λ (k : ℕ). get_or h.bytes k 0) e

    four : (p q r t x y z w : ℕ) → p ≡ x → q ≡ y → r ≡ z → t ≡ w
        → p + 256 * (q + 256 * (r + 256 * (t + 256 * 0))) ≡ x + 256 * (y + 256 * (z + 256 * w))
    four p q r t x y z w e f g h = omega arith

-- ---- the store

-- what the store of a byte leaves
pub record ByteStored (site : Site) (a y : ℕ) (s t : State) : Type 0 where
  pub may : may_store 1 a s.memory ≡ true
  pub is : store_bytes a (y ∷ []) s ≡ Ok t
  pub sound : SoundAt site t
  pub same : load 4 a t ≡ Ok y
  pub apart : (n b v : ℕ) → AreDisjoint a 4 b n → load n b s ≡ Ok v → load n b t ≡ Ok v
  pub rest : KeepsAllButMemory s t

one-little : (y : ℕ) → y < 256 → little_bytes 1 y ≡ y ∷ []
one-little y h = ap (λ (x : ℕ). x ∷ []) (mod-eq_of_lt h)

pub byte-stores : (site : Site) (a y : ℕ) (s : State) → SoundAt site s → site.low ≤ a → a + 4 ≤ site.high
    → load 4 a s ≡ Ok 0 → y < 256 → (t : State) × ByteStored site a y s t
byte-stores site a y s h from to zero small =
    let size = h.size in
    let new : List ℕ = y ∷ [] in
    let one : nat_le site.low a ≡ true = le-leb site.low a from in
    let two : nat_le (a + 1) (site.low + length h.bytes) ≡ true =
    le-leb (a + 1) (site.low + length h.bytes) (omega arith) in
    let memory : List Area = text_area site.text ∷ with_bytes a new (data_from site.low h.bytes) ∷ [] in
    let done : stored a new s.memory ≡ Some memory = ap (stored a new) h.memory ∙ rw (one, two) refl in
    let t : State = record s { memory = memory } in
    let is : store_bytes a new s ≡ Ok t = ap (λ (o : Option (List Area)).
    and_then (or_end o (denied a s)) (λ m. let r : Result State End = Ok (record s { memory = m }) in r)) done in
    let bytes : List ℕ = take (a - site.low) h.bytes ++ new ++ drop (a - site.low + 1) h.bytes in
    let long : length bytes ≡ length h.bytes = length-replaced (a - site.low) new h.bytes (omega arith) in
    let sound : SoundAt site t = record {
      bytes = bytes;
      memory = refl;
      size = ap (λ (k : ℕ). site.low + k) long ∙ size;
      above = h.above;
      below = h.below;
      small = with-small (a - site.low) (a - site.low + 1) y h.bytes small h.small;
      registers = h.registers;
    } in
    let as_store : store 1 a y s ≡ Ok t = ap (λ (bs : List ℕ). store_bytes a bs s) (one-little y small) ∙ is in
    let old = load-in site.text site.low site.high 1 a s h from (omega arith) in
    let first : get_or bytes (a - site.low) 0 ≡ y =
    ok-once (get_or bytes (a - site.low) 0) y
    (sym (byte-loaded site a t sound from (omega arith))
    ∙ load-stored 1 a y old.0 s t (omega arith) small (areas-apart site.text site.low site.high s h) old.1 as_store) in
    let before : get_or h.bytes (a - site.low) 0 + 256 * (get_or h.bytes (a + 1 - site.low) 0
    + 256 * (get_or h.bytes (a + 2 - site.low) 0 + 256 * get_or h.bytes (a + 3 - site.low) 0)) ≡ 0 =
    ok-once _ 0 (sym (word-loaded site a s h from to) ∙ zero) in
    let kept : (b : ℕ) → a + 1 ≤ b → b + 1 ≤ site.high
    → get_or bytes (b - site.low) 0 ≡ get_or h.bytes (b - site.low) 0 =
    λ b low high. ok-once (get_or bytes (b - site.low) 0) (get_or h.bytes (b - site.low) 0)
    (sym (byte-loaded site b t sound (omega (arith, low, from)) high)
    ∙ load-elsewhere a 1 b 1 y s t as_store (inl low)
    ∙ byte-loaded site b s h (omega (arith, low, from)) high) in (
      t,
      record {
        may = ap (may_store 1 a) h.memory ∙ rw (one, two) refl;
        is = is;
        sound = sound;
        same = word-loaded site a t sound from to ∙ ap (λ (x : ℕ). let r : Result ℕ End = Ok x in r)
            (counted (get_or bytes (a - site.low) 0) (get_or bytes (a + 1 - site.low) 0)
            (get_or bytes (a + 2 - site.low) 0) (get_or bytes (a + 3 - site.low) 0) (get_or h.bytes (a - site.low) 0)
            (get_or h.bytes (a + 1 - site.low) 0) (get_or h.bytes (a + 2 - site.low) 0)
            (get_or h.bytes (a + 3 - site.low) 0) y first (kept (a + 1) (omega arith) (omega (arith, to)))
            (kept (a + 2) (omega arith) (omega (arith, to))) (kept (a + 3) (omega arith) (omega (arith, to))) before);
        apart = λ n b v places e. load-elsewhere a 1 b n y s t as_store
            (disjoint-part a 4 a 1 b n (omega arith) (omega arith) places) ∙ e;
        rest = store-keeps_rest a new s t is;
      },
    )
  where
    counted : (p q r u x z v w y : ℕ) → p ≡ y → q ≡ z → r ≡ v → u ≡ w → x + 256 * (z + 256 * (v + 256 * w)) ≡ 0
        → p + 256 * (q + 256 * (r + 256 * u)) ≡ y
    counted p q r u x z v w y a b c d e = omega arith

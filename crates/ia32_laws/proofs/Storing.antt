-- The word of a place goes to an address: its low byte, its low 16 bits, or all of it.
use Rattle.std.proofs.Common.{◌≡◌, ◌≢◌, ◌⊎◌, ℕ, zero, suc, ◌+◌, ◌-◌, ◌*◌, ◌%◌, ◌^◌, ◌<◌, ◌≤◌, Bool, true, nat_le}
use Rattle.std.proofs.Common.{List, [], ◌∷◌, ◌++◌, length, take, drop, get_or, Option, Some, Ok, inl, inr, refl, sym}
use Rattle.std.proofs.Common.{ap, subst, ◌∙◌, arith, eq-eqb}
use Rattle.std.specs.Prelude.{◌==◌, ⊤, Result, if◌then◌else◌, slice_index}
use Rattle.std.proofs.lemmas.Bool.{le-leb}
use Rattle.std.proofs.lemmas.List.{get_or-drop}
use Rattle.byteorder.specs.Endian.{little_bytes}
use Rattle.byteorder.specs.Numbers.{length-bytes_low_first}
use Rattle.pcc_base.specs.Outcome.{End}
use Rattle.pcc_base.specs.declared.run.Width.TheVariants.{Two}
use Rattle.ia32_insn.specs.declared.register_names.Reg32.{Reg32}
use Rattle.ia32_insn.specs.declared.register_names.Reg32.TheVariants.{Eax, Esp, Ebp, Esi, Edi}
use Rattle.ia32_insn.specs.declared.register_names.Reg8.TheVariants.{Al}
use Rattle.ia32_insn.specs.Registers.{AreRegisters, number32}
use Rattle.ia32_insn.specs.Places.{Place, InWord, InByte, InSlot}
use Rattle.ia32_insn.specs.declared.operand.Mem.{Mem}
use Rattle.ia32_insn.specs.declared.operand.Rm32.TheVariants as rm
use Rattle.ia32_insn.specs.declared.operand.Rm8.TheVariants as rm8
use Rattle.ia32_insn.specs.declared.insn.Insn.{Insn}
use Rattle.ia32_insn.specs.declared.insn.Insn.TheVariants as insn
use Rattle.ia32_insn.specs.State.{Area, State, at_address, stored, with_bytes}
use Rattle.ia32_insn.specs.Keeps.{AreDisjoint, KeepsAllButMemory}
use Rattle.ia32_insn.specs.Meaning.{address_of, and_then, byte_of, denied, effect, load, or_end, store, with_word}
use Rattle.ia32_insn.specs.Meaning.{word_of}
use Rattle.ia32_insn.specs.Items.{near, plain, text_area}
use Rattle.ia32_insn.proofs.Access.{load-elsewhere, load-stored, store-keeps_rest}
use Rattle.ia32_insn.proofs.Splices.{length-replaced}
use Rattle.flow_graph.specs.declared.op.Bits.{Bits}
use Rattle.flow_graph.specs.declared.op.Bits.TheVariants.{Eight, Sixteen, ThirtyTwo}
use Rattle.flow_graph.specs.Meaning.{bytes_of}
use Rattle.ia32_rows.specs.Sites.{Anywhere, Framed, Site, SoundAt, data_from}
use Rattle.ia32_rows.proofs.Small.{replaced-small}
use Rattle.ia32_rows.proofs.Sound.{areas-apart, load-in, sound-with_word, word-below, word-other, word-same}
use Rattle.ia32_rows.specs.Rows.{low_byte, read, store_to, storing, target_of}
use Rattle.ia32_rows.specs.Effects.{IsStraight, Keeps, Leads, Makes, OutsideWord}
use Rattle.ia32_rows.specs.Contains.{Contains, HoldsWord, IsPlaceIn}
use Rattle.ia32_rows.specs.Laws.{IsWorking}
use Rattle.ia32_rows.proofs.Instructions.{store-at}
use Rattle.ia32_rows.proofs.Kept.{contains-kept, framed-kept, keeps-same, keeps-stricter, keeps-then, other-cells}
use Rattle.ia32_rows.proofs.Kept.{result-keeps, word-kept}
use Rattle.ia32_rows.proofs.Moves.{general-below, gives-word, read-gives}
use Rattle.ia32_rows.proofs.Straight.{leads-join}
use Rattle.ia32_rows.proofs.Sums.{esi-works}
use Rattle.ia32_laws.proofs.Goes.{Goes, goes-of, low-byte-is}
use Rattle.ia32_laws.specs.AccessesLaws.{ElementStores, OutsideScratch, PlaceStores, Stores}
use Rattle.ia32_laws.proofs.Loading.{near-address, place-at}

-- ---- memory

-- what a store of n bytes in the data leaves
pub record StoredIn (site : Site) (n a value : ℕ) (s t : State) : Type 0 where
  pub is : store n a value s ≡ Ok t
  pub sound : SoundAt site t
  pub same : load n a t ≡ Ok value
  pub apart : (m b v : ℕ) → AreDisjoint a n b m → load m b s ≡ Ok v → load m b t ≡ Ok v
  pub rest : KeepsAllButMemory s t

pub stores-in : (site : Site) (n a value : ℕ) (s : State) → SoundAt site s → 0 < n → site.low ≤ a → a + n ≤ site.high
    → value < 256 ^ n → (t : State) × StoredIn site n a value s t
stores-in site n a value s h some from to fits =
    let new : List ℕ = little_bytes n value in
    let size = h.size in
    let all : length new ≡ n = length-bytes_low_first 0 n value in
    let one : nat_le site.low a ≡ true = le-leb site.low a from in
    let two : nat_le (a + length new) (site.low + length h.bytes) ≡ true =
    le-leb (a + length new) (site.low + length h.bytes) (omega (arith, all, size, to)) in
    let memory : List Area = text_area site.text ∷ with_bytes a new (data_from site.low h.bytes) ∷ [] in
    let done : stored a new s.memory ≡ Some memory = ap (stored a new) h.memory ∙ rw (one, two) refl in
    let t : State = record s { memory = memory } in
    let is : store n a value s ≡ Ok t = ap (λ (o : Option (List Area)).
    and_then (or_end o (denied a s)) (λ m. let r : Result State End = Ok (record s { memory = m }) in r)) done in
    let bytes : List ℕ = take (a - site.low) h.bytes ++ new ++ drop (a - site.low + length new) h.bytes in
    let long : length bytes ≡ length h.bytes =
    length-replaced (a - site.low) new h.bytes (omega (arith, all, size, from, to)) in
    let sound : SoundAt site t = record {
      bytes = bytes;
      memory = refl;
      size = ap (λ (k : ℕ). site.low + k) long ∙ size;
      above = h.above;
      below = h.below;
      small = replaced-small (a - site.low) n value (a - site.low + length new) h.bytes h.small;
      registers = h.registers;
    } in
    let old = load-in site.text site.low site.high n a s h from to in (
      t,
      record {
        is = is;
        sound = sound;
        same = load-stored n a value old.0 s t some fits (areas-apart site.text site.low site.high s h) old.1 is;
        apart = λ m b v places e. load-elsewhere a n b m value s t is places ∙ e;
        rest = store-keeps_rest a new s t is;
      },
    )

stored-in-keeps : (R : ℕ → Type 0) (site : Site) (n a v : ℕ) (s t : State) → StoredIn site n a v s t
    → Keeps R (λ b m. AreDisjoint a n b m) s t
stored-in-keeps R site n a v s t h =
    record {
      cells = λ k r. ap (λ (cells : List ℕ). slice_index cells k) h.rest.registers;
      loads = λ m b w k e. h.apart m b w k e;
      left = h.rest.left;
      taken = h.rest.taken;
      written = h.rest.written;
    }

-- ---- one instruction

-- an instruction that stores n bytes in memory
put-stores : (site : Site) (frame : ℕ) (i : Insn) (mem : Mem) (n a v : ℕ) (s : State) → Framed site frame s
    → IsStraight i → 0 < n → address_of mem s ≡ a → site.low ≤ a → a + n ≤ site.high → v < 256 ^ n
    → ((address : ℕ) → effect i 0 (at_address address s)
    ≡ store n (address_of mem (at_address address s)) v (at_address address s))
    → (u : State) × Stores site frame (plain i ∷ []) a n v s u × Keeps (λ k. ⊤) (λ b m. AreDisjoint a n b m) s u
put-stores site frame i mem n a v s framed straight some at from to fits does =
    let m = stores-in site n a v s framed.sound some from to fits in
    let u : State = m.0 in
    let keeps : Keeps (λ k. ⊤) (λ b m. AreDisjoint a n b m) s u = stored-in-keeps (λ k. ⊤) site n a v s u m.1 in
    let makes : Makes site i s u = record {
      straight = straight;
      does = λ address. does address
          ∙ ap (λ (b : ℕ). store n b v (at_address address s)) (place-at mem address s ∙ at)
          ∙ store-at n a v address s u m.1.is;
      sound = m.1.sound;
    } in (
      u,
      record {
        leads = (u, makes, refl);
        framed = framed-kept (λ k. ⊤) (λ b m. AreDisjoint a n b m) site frame s u framed keeps m.1.sound
            (λ k below. tt) (λ k below. tt);
        value = m.1.same;
        keeps = keeps-stricter (λ k. ⊤) OutsideScratch (λ b m. AreDisjoint a n b m) (λ b m. AreDisjoint a n b m) s u
            (λ k h. tt) (λ b m h. h) keeps;
      },
      keeps,
    )

-- the address in EDI is that of the memory near it
edi-address : (site : Site) (s : State) → SoundAt site s → address_of (near Edi 0) s ≡ word_of Edi s
edi-address site s sound =
    near-address (word_of Edi s) (word-below site.text site.low site.high Edi s sound)

-- ---- XCHG with EAX

-- ESI and EAX change places
abbrev swapped : State → State
swapped s = with_word Eax (word_of Esi s) (with_word Esi (word_of Eax s) s)

record Swaps (site : Site) (frame : ℕ) (s u : State) : Type 0 where
  makes : Makes site (insn.Xchg (rm.Reg Esi) Eax) s u
  framed : Framed site frame u
  eax : word_of Eax u ≡ word_of Esi s
  esi : word_of Esi u ≡ word_of Eax s
  keeps : Keeps (λ k. OutsideWord Eax k × OutsideWord Esi k) Anywhere s u

swaps : (site : Site) (frame : ℕ) (s : State) → Framed site frame s → Swaps site frame s (swapped s)
swaps site frame s framed =
    let m : State = with_word Esi (word_of Eax s) s in
    let R : ℕ → Type 0 = λ k. OutsideWord Eax k × OutsideWord Esi k in
    let sound_m : SoundAt site m = sound-with_word site.text site.low site.high Esi (word_of Eax s) s framed.sound in
    let sound : SoundAt site (swapped s) =
    sound-with_word site.text site.low site.high Eax (word_of Esi s) m sound_m in
    let first : Keeps (OutsideWord Esi) Anywhere s m =
    result-keeps site Esi (word_of Eax s) s.flags s framed.sound in
    let second : Keeps (OutsideWord Eax) Anywhere m (swapped s) =
    result-keeps site Eax (word_of Esi s) m.flags m sound_m in
    let keeps : Keeps R Anywhere s (swapped s) = keeps-then R Anywhere s m (swapped s)
    (keeps-stricter (OutsideWord Esi) R Anywhere Anywhere s m (λ k h. h.1) (λ a n l. l) first)
    (keeps-stricter (OutsideWord Eax) R Anywhere Anywhere m (swapped s) (λ k h. h.0) (λ a n l. l) second) in
    record {
      makes = record { straight = tt; does = λ address. refl; sound = sound };
      framed = framed-kept R Anywhere site frame s (swapped s) framed keeps sound
          (λ k below. (other-cells Esp Eax (λ e. omega arith) k below, other-cells Esp Esi (λ e. omega arith) k below))
          (λ k below. (other-cells Ebp Eax (λ e. omega arith) k below, other-cells Ebp Esi (λ e. omega arith) k below));
      eax = word-same site.text site.low site.high Eax (word_of Esi s) m sound_m
          (word-below site.text site.low site.high Esi s framed.sound);
      esi = word-other site.text site.low site.high Esi Eax (word_of Esi s) m sound_m (λ e. omega arith)
          ∙ word-same site.text site.low site.high Esi (word_of Eax s) s framed.sound
          (word-below site.text site.low site.high Eax s framed.sound);
      keeps = keeps;
    }

-- four bytes are those of their number
four-bytes : (x y z w p q r t : ℕ) → x < 256 → y < 256 → z < 256 → w < 256 → p < 256 → q < 256 → r < 256 → t < 256
    → x + 256 * (y + 256 * (z + 256 * (w + 256 * 0))) ≡ p + 256 * (q + 256 * (r + 256 * (t + 256 * 0)))
    → (x ≡ p) × (y ≡ q) × (z ≡ r) × (w ≡ t)
four-bytes x y z w p q r t a b c d e f g h same = (omega arith, omega arith, omega arith, omega arith)

-- so where the word of EAX is as before, its cells are
eax-cells : (s u : State) → AreRegisters s.registers → AreRegisters u.registers → word_of Eax u ≡ word_of Eax s
    → (k : ℕ) → k < 4 → slice_index u.registers k ≡ slice_index s.registers k
eax-cells s u old new same = each
  where
    at : (xs : List ℕ) (i : ℕ) → get_or (drop 0 xs) i 0 ≡ get_or xs i 0
    at xs i = get_or-drop 0 xs i 0 ∙ ap (λ (m : ℕ). get_or xs m 0) (let e : 0 + i ≡ i = omega arith in e)

    four : (get_or u.registers 0 0 ≡ get_or s.registers 0 0) × (get_or u.registers 1 0 ≡ get_or s.registers 1 0)
        × (get_or u.registers 2 0 ≡ get_or s.registers 2 0) × (get_or u.registers 3 0 ≡ get_or s.registers 3 0)
    four = four-bytes (get_or u.registers 0 0) (get_or u.registers 1 0) (get_or u.registers 2 0)
        (get_or u.registers 3 0) (get_or s.registers 0 0) (get_or s.registers 1 0) (get_or s.registers 2 0)
        (get_or s.registers 3 0) (new.below 0) (new.below 1) (new.below 2) (new.below 3) (old.below 0) (old.below 1)
        (old.below 2) (old.below 3)
        (sum (at u.registers 0) (at u.registers 1) (at u.registers 2) (at u.registers 3) (at s.registers 0)
        (at s.registers 1) (at s.registers 2) (at s.registers 3) same)
      where
        sum : {a b c d x y z w a' b' c' d' x' y' z' w' : ℕ} → a ≡ a' → b ≡ b' → c ≡ c' → d ≡ d' → x ≡ x' → y ≡ y'
            → z ≡ z' → w ≡ w'
            → a + 256 * (b + 256 * (c + 256 * (d + 256 * 0))) ≡ x + 256 * (y + 256 * (z + 256 * (w + 256 * 0)))
            → a' + 256 * (b' + 256 * (c' + 256 * (d' + 256 * 0)))
            ≡ x' + 256 * (y' + 256 * (z' + 256 * (w' + 256 * 0)))
        sum e f g h i j k l same = omega arith

    each : (k : ℕ) → k < 4 → slice_index u.registers k ≡ slice_index s.registers k
    each zero lt = four.0
    each (suc zero) lt = four.1
    each (suc (suc zero)) lt = four.2
    each (suc (suc (suc zero))) lt = four.3
    each (suc (suc (suc (suc k)))) lt = absurd (omega (arith, lt))

-- ---- a byte of ESI

-- the low byte of ESI by AL, whose word comes back
byte-stores : (site : Site) (frame : ℕ) (k a x : ℕ) (s : State) → Framed site frame s → word_of Esi s ≡ x
    → word_of Edi s ≡ a → site.low ≤ a → a + 1 ≤ site.high
    → (u : State) × Stores site frame (storing Eight (near Edi 0) (InSlot k)) a 1 (x % 256) s u
byte-stores site frame k a x s framed esi edi from to =
    let K : ℕ → ℕ → Type 0 = λ b m. AreDisjoint a 1 b m in
    let R : ℕ → Type 0 = λ c. OutsideWord Eax c × OutsideWord Esi c in
    let one : State = swapped s in
    let first = swaps site frame s framed in
    let edi_one : word_of Edi one ≡ a =
    word-kept R Anywhere Edi s one first.keeps
    (λ c below. (other-cells Edi Eax (λ e. omega arith) c below, other-cells Edi Esi (λ e. omega arith) c below)) ∙ edi
    in
    let al : byte_of Al one ≡ x % 256 =
    low-byte-is Eax one first.framed.sound.registers tt ∙ ap (λ (w : ℕ). w % 256) (first.eax ∙ esi) in
    let second = put-stores site frame (insn.Mov8 (rm8.Mem (near Edi 0)) Al) (near Edi 0) 1 a (byte_of Al one) one
    first.framed tt (omega arith) (edi-address site one first.framed.sound ∙ edi_one) from to
    (first.framed.sound.registers.below 0) (λ address. refl) in
    let two : State = second.0 in
    let third = swaps site frame two second.1.framed in
    let u : State = swapped two in
    let esi_two : word_of Esi two ≡ word_of Eax s =
    word-kept (λ c. ⊤) K Esi one two second.2 (λ c below. tt) ∙ first.esi in
    let eax : word_of Eax u ≡ word_of Eax s = third.eax ∙ esi_two in
    let whole : Keeps R K s u = keeps-then R K s one u
    (keeps-stricter R R Anywhere K s one (λ c h. h) (λ b m h. tt) first.keeps)
    (keeps-then R K one two u
    (keeps-stricter (λ c. ⊤) R K K one two (λ c h. tt) (λ b m h. h) second.2)
    (keeps-stricter R R Anywhere K two u (λ c h. h) (λ b m h. tt) third.keeps)) in
    let cells : (c : ℕ) → OutsideScratch c → slice_index u.registers c ≡ slice_index s.registers c =
    λ c h. by c (split c) (λ o. whole.cells c (o, h.0))
    (eax-cells s u framed.sound.registers third.framed.sound.registers eax c) in (
      u,
      record {
        leads = (
          one,
          first.makes,
          leads-join site (plain (insn.Mov8 (rm8.Mem (near Edi 0)) Al) ∷ []) (plain (insn.Xchg (rm.Reg Esi) Eax) ∷ [])
              one two u second.1.leads (u, third.makes, refl),
        );
        framed = third.framed;
        value = third.keeps.loads 1 a (x % 256) tt
            (second.1.value ∙ ap (λ (w : ℕ). let r : Result ℕ End = Ok w in r) al);
        keeps = record {
          cells = cells;
          loads = whole.loads;
          left = whole.left;
          taken = whole.taken;
          written = whole.written;
        };
      },
    )
  where
    split : (c : ℕ) → (c < 4) ⊎ (4 ≤ c)
    split zero = inl (omega arith)
    split (suc zero) = inl (omega arith)
    split (suc (suc zero)) = inl (omega arith)
    split (suc (suc (suc zero))) = inl (omega arith)
    split (suc (suc (suc (suc c)))) = inr (omega arith)

    by : {P : Type 0} (c : ℕ) → (c < 4) ⊎ (4 ≤ c) → (OutsideWord Eax c → P) → (c < 4 → P) → P
    by c (inl lt) out in_eax = in_eax lt
    by c (inr le) out in_eax = out (inr le)

-- ---- of any width

-- the value's word to its register, unless it stands there
pub record IsRead (site : Site) (frame : ℕ) (q : Place) (x : ℕ) (s u : State) : Type 0 where
  pub goes : Goes (OutsideWord Esi) site frame (read (target_of q) q) s u
  pub value : word_of (target_of q) u ≡ x

pub alone : (r : Reg32) → (number32 r == number32 r) ≡ true
alone r = eq-eqb (number32 r) (number32 r) refl

pub target-read : (site : Site) (frame : ℕ) (q : Place) (x : ℕ) (s : State) → Framed site frame s → HoldsWord q
    → IsPlaceIn frame q → Contains s Two q x → x < 2 ^ 32 → (u : State) × IsRead site frame q x s u
target-read site frame (InWord r) x s framed holds placed contains fits = (
  s,
  record {
    goes = record {
      leads = subst (λ (b : Bool). Leads site (if b then [] else plain (insn.Mov (rm.Reg r) r) ∷ []) s s)
          (sym (alone r)) refl;
      framed = framed;
      keeps = keeps-same (OutsideWord Esi) Anywhere s;
    };
    value = contains;
  },
)
target-read site frame (InByte r) x s framed holds placed contains fits = absurd holds
target-read site frame (InSlot k) x s framed holds placed contains fits =
    let g = read-gives site frame Esi (InSlot k) x s framed esi-works holds placed contains fits in
    (g.0, record { goes = goes-of site frame (read Esi (InSlot k)) Esi x s g.0 g.1; value = g.1.value })

-- it is no register of scratch but ESI
pub target-general : (frame : ℕ) (q : Place) → HoldsWord q → IsPlaceIn frame q → number32 (target_of q) ≢ number32 Edi
target-general frame (InWord r) holds placed e = let b = general-below r placed in omega (arith, e, b)
target-general frame (InByte r) holds placed e = absurd holds
target-general frame (InSlot k) holds placed e = omega (arith, e)

-- the memory is that at the address in EDI, unless the value stands in a register
abbrev IsDirect : Mem → Place → Type 0
IsDirect mem (InWord r) = ⊤
IsDirect mem (InByte r) = ⊤
IsDirect mem (InSlot k) = mem ≡ near Edi 0

edi-direct : (q : Place) → IsDirect (near Edi 0) q
edi-direct (InWord r) = tt
edi-direct (InByte r) = tt
edi-direct (InSlot k) = refl

-- the low bits of that register to memory
storing-stores : (site : Site) (frame : ℕ) (bits : Bits) (mem : Mem) (q : Place) (a x : ℕ) (s : State)
    → Framed site frame s → HoldsWord q → IsPlaceIn frame q → IsDirect mem q → word_of (target_of q) s ≡ x → x < 2 ^ 32
    → address_of mem s ≡ a → site.low ≤ a → a + bytes_of bits ≤ site.high
    → (u : State) × Stores site frame (storing bits mem q) a (bytes_of bits) (x % 2 ^ (8 * bytes_of bits)) s u
storing-stores site frame ThirtyTwo mem q a x s framed holds placed direct is fits at from to =
    let put = put-stores site frame (insn.Mov (rm.Mem mem) (target_of q)) mem 4 a (word_of (target_of q) s) s framed tt
    (omega arith) at from to (omega (arith, is, fits)) (λ address. refl) in
    let same : word_of (target_of q) s ≡ x % 2 ^ 32 = omega (arith, is, fits) in
    (put.0, subst (λ (v : ℕ). Stores site frame (storing ThirtyTwo mem q) a 4 v s put.0) same put.1)
storing-stores site frame Sixteen mem q a x s framed holds placed direct is fits at from to =
    let put = put-stores site frame (insn.Mov16 (rm.Mem mem) (target_of q)) mem 2 a (word_of (target_of q) s % 2 ^ 16) s
    framed tt (omega arith) at from to (omega arith) (λ address. refl) in
    (put.0, subst (λ (v : ℕ). Stores site frame (storing Sixteen mem q) a 2 (v % 2 ^ 16) s put.0) is put.1)
storing-stores site frame Eight mem (InWord r) a x s framed holds placed direct is fits at from to =
    let byte : byte_of (low_byte r) s ≡ x % 256 =
    low-byte-is r s framed.sound.registers placed ∙ ap (λ (w : ℕ). w % 256) is in
    let put = put-stores site frame (insn.Mov8 (rm8.Mem mem) (low_byte r)) mem 1 a (byte_of (low_byte r) s) s framed tt
    (omega arith) at from to (omega (arith, byte)) (λ address. refl) in
    (put.0, subst (λ (v : ℕ). Stores site frame (storing Eight mem (InWord r)) a 1 v s put.0) byte put.1)
storing-stores site frame Eight mem (InByte r) a x s framed holds placed direct is fits at from to = absurd holds
storing-stores site frame Eight mem (InSlot k) a x s framed holds placed direct is fits at from to =
    let edi : word_of Edi s ≡ a =
    sym (edi-address site s framed.sound) ∙ ap (λ (m : Mem). address_of m s) (sym direct) ∙ at in
    subst (λ (m : Mem). (u : State) × Stores site frame (storing Eight m (InSlot k)) a 1 (x % 256) s u) (sym direct)
    (byte-stores site frame k a x s framed is edi from to)

pub element-stores : ElementStores
element-stores site frame bits q a x s framed holds placed contains fits edi from to =
    let K : ℕ → ℕ → Type 0 = λ b m. AreDisjoint a (bytes_of bits) b m in
    let first = target-read site frame q x s framed holds placed contains fits in
    let m : State = first.0 in
    let edi_m : word_of Edi m ≡ a =
    word-kept (OutsideWord Esi) Anywhere Edi s m first.1.goes.keeps (other-cells Edi Esi (λ e. omega arith)) ∙ edi in
    let second = storing-stores site frame bits (near Edi 0) q a x m first.1.goes.framed holds placed (edi-direct q)
    first.1.value fits (edi-address site m first.1.goes.framed.sound ∙ edi_m) from to in
    let u : State = second.0 in (
      u,
      record {
        leads = leads-join site (read (target_of q) q) (storing bits (near Edi 0) q) s m u first.1.goes.leads
            second.1.leads;
        framed = second.1.framed;
        value = second.1.value;
        keeps = keeps-then OutsideScratch K s m u
            (keeps-stricter (OutsideWord Esi) OutsideScratch Anywhere K s m (λ k h. h.0) (λ b n h. tt)
            first.1.goes.keeps) second.1.keeps;
      },
    )

-- ---- at any address

pub edi-works : IsWorking Edi
edi-works = ((λ e. omega arith), (λ e. omega arith))

lea-makes : (site : Site) (frame : ℕ) (mem : Mem) (a : ℕ) (s : State) → Framed site frame s → address_of mem s ≡ a
    → Makes site (insn.Lea Edi mem) s (with_word Edi a s)
lea-makes site frame mem a s framed at =
    subst (λ (b : ℕ). Makes site (insn.Lea Edi mem) s (with_word Edi b s)) at
    (record {
      straight = tt;
      does = λ address. ap (λ (b : ℕ).
          let q : Result State End = Ok (with_word Edi b (at_address address s)) in q) (place-at mem address s);
      sound = sound-with_word site.text site.low site.high Edi (address_of mem s) s framed.sound;
    })

pub place-stores : PlaceStores
place-stores site frame bits mem (InWord r) a x s framed holds placed contains fits at from to =
    storing-stores site frame bits mem (InWord r) a x s framed holds placed tt contains fits at from to
place-stores site frame bits mem (InByte r) a x s framed holds placed contains fits at from to = absurd holds
place-stores site frame bits mem (InSlot k) a x s framed holds placed contains fits at from to =
    let K : ℕ → ℕ → Type 0 = λ b m. AreDisjoint a (bytes_of bits) b m in
    let high = framed.sound.below in
    let lea = gives-word site frame (insn.Lea Edi mem) Edi a s framed edi-works (some-below bits a to high)
    (lea-makes site frame mem a s framed at) in
    let m : State = lea.0 in
    let held = contains-kept (OutsideWord Edi) Anywhere s m Two (InSlot k) x lea.1.keeps
    (other-cells Ebp Edi (λ e. omega arith)) tt (tt, tt) contains in
    let second = element-stores site frame bits (InSlot k) a x m lea.1.framed holds placed held fits lea.1.value from to
    in (
      second.0,
      record {
        leads = leads-join site (plain (insn.Lea Edi mem) ∷ []) (store_to bits (InSlot k)) s m second.0 lea.1.leads
            second.1.leads;
        framed = second.1.framed;
        value = second.1.value;
        keeps = keeps-then OutsideScratch K s m second.0
            (keeps-stricter (OutsideWord Edi) OutsideScratch Anywhere K s m (λ j h. h.1) (λ b l h. tt) lea.1.keeps)
            second.1.keeps;
      },
    )
  where
    some-below : (bits : Bits) (a : ℕ) → a + bytes_of bits ≤ site.high → site.high < 0x1_0000_0000
        → a < 0x1_0000_0000
    some-below bits a h k = omega (arith, h, k)

-- A byte is copied to a slot.
use Rattle.std.proofs.Common.{◌≡◌, ℕ, ◌+◌, ◌-◌, ◌*◌, ◌%◌, ◌<◌, ◌≤◌, List, [], ◌∷◌, ◌++◌, length, take, drop}
use Rattle.std.proofs.Common.{Option}
use Rattle.std.proofs.Common.{Some, Ok, get_or, refl, sym, ap, subst, ◌∙◌, inl, inr, arith, length-append}
use Rattle.std.specs.Prelude.{⊤, Result}
use Rattle.std.proofs.lemmas.Bool.{le-leb}
use Rattle.std.proofs.lemmas.List.{get_or-append_right, get_or-drop, get_or-take, get_or_append_left, length-take-le}
use Rattle.byteorder.specs.Endian.{little_bytes, little_from}
use Rattle.byteorder.specs.Numbers.{length-bytes_low_first}
use Rattle.pcc_base.specs.Outcome.{End}
use Rattle.ia32_insn.specs.declared.register_names.Reg32.TheVariants.{Esp, Ebp, Esi}
use Rattle.ia32_insn.specs.declared.register_names.Reg8.{Reg8}
use Rattle.ia32_insn.specs.Registers.{byte_place}
use Rattle.ia32_insn.specs.Places.{InWord, InByte, InSlot}
use Rattle.ia32_insn.specs.declared.operand.Rm8.TheVariants as rm8
use Rattle.ia32_insn.specs.declared.insn.Insn.TheVariants as insn
use Rattle.ia32_insn.specs.State.{State, Area, stored, with_bytes}
use Rattle.ia32_insn.specs.Keeps.{AreDisjoint, KeepsAllButMemory}
use Rattle.ia32_insn.specs.Items.{text_area}
use Rattle.ia32_insn.specs.Meaning.{and_then, or_end, denied, address_of, load, store, word_of, with_word, byte_of}
use Rattle.ia32_insn.proofs.Access.{load-elsewhere, load-stored, store-keeps_rest, ok-once}
use Rattle.ia32_insn.proofs.Splices.{length-replaced}
use Rattle.ia32_rows.specs.Placements.{below}
use Rattle.ia32_rows.specs.Sites.{Site, SoundAt, Framed, Anywhere, data_from}
use Rattle.ia32_rows.proofs.Small.{replaced-small}
use Rattle.ia32_rows.proofs.Sound.{areas-apart, bytes-in, load-in, word-below}
use Rattle.ia32_rows.proofs.Frames.{below-address}
use Rattle.ia32_rows.specs.Rows.{read, write}
use Rattle.ia32_rows.specs.Effects.{Makes, Keeps, OutsideWord}
use Rattle.ia32_rows.specs.Contains.{ApartFromPlace, Untouched}
use Rattle.ia32_rows.specs.Laws.{CopyToSlotPuts}
use Rattle.ia32_rows.proofs.Kept.{framed-kept, keeps-stricter, keeps-then, other-cells, result-keeps, word-kept}
use Rattle.ia32_rows.proofs.Straight.{leads-join}
use Rattle.ia32_rows.proofs.Instructions.{load-makes, store-at}
use Rattle.ia32_rows.proofs.Moves.{write-puts}

-- ---- bytes in memory

-- the low byte of a word that is loaded is the byte that is loaded there
pub word-low : (site : Site) (a w b : ℕ) (s : State) → SoundAt site s → site.low ≤ a → a + 4 ≤ site.high
    → load 4 a s ≡ Ok w → load 1 a s ≡ Ok b → b < 256 → w % 256 ≡ b
word-low site a w b s sound from to four one small =
    let rest : List ℕ = drop (a - site.low) sound.bytes in
    let whole = bytes-in site.text site.low site.high 4 a s sound from to (omega arith) in
    let first = bytes-in site.text site.low site.high 1 a s sound from (omega arith) (omega arith) in
    let word : load 4 a s ≡ Ok (little_from 0 4 (take 4 rest)) =
    ap (λ (o : Option (List ℕ)). and_then (or_end o (denied a s))
    (λ f. let r : Result ℕ End = Ok (little_from 0 4 f) in r)) whole in
    let byte : load 1 a s ≡ Ok (little_from 0 1 (take 1 rest)) =
    ap (λ (o : Option (List ℕ)). and_then (or_end o (denied a s))
    (λ f. let r : Result ℕ End = Ok (little_from 0 1 f) in r)) first in
    let is_word = ok-once (little_from 0 4 (take 4 rest)) w (sym word ∙ four) in
    let is_byte = ok-once (little_from 0 1 (take 1 rest)) b (sym byte ∙ one) in
    let low = get_or-take 4 rest 0 0 (omega arith) in
    let same = get_or-take 1 rest 0 0 (omega arith) in
    counted (get_or (take 4 rest) 0 0) (little_from 1 3 (take 4 rest)) w (get_or (take 1 rest) 0 0) b (get_or rest 0 0)
    is_word is_byte low same small
  where
    counted : (x k w y b z : ℕ) → x + 256 * k ≡ w → y + 256 * 0 ≡ b → x ≡ z → y ≡ z → b < 256 → w % 256 ≡ b
    counted x k w y b z e f g h i = omega arith

-- what a store of a byte in the data leaves
pub record StoredByte (site : Site) (a value : ℕ) (s t : State) : Type 0 where
  pub is : store 1 a value s ≡ Ok t
  pub sound : SoundAt site t
  pub same : load 1 a t ≡ Ok value
  pub apart : (n b v : ℕ) → AreDisjoint a 1 b n → load n b s ≡ Ok v → load n b t ≡ Ok v
  pub rest : KeepsAllButMemory s t

pub store-byte-in : (site : Site) (a value : ℕ) (s : State) → SoundAt site s → site.low ≤ a → a + 1 ≤ site.high
    → value < 256 → (t : State) × StoredByte site a value s t
store-byte-in site a value s h from to fits =
    let new : List ℕ = little_bytes 1 value in
    let one_long : length new ≡ 1 = length-bytes_low_first 0 1 value in
    let size = h.size in
    let one = le-leb site.low a from in
    let two = le-leb (a + length new) (site.low + length h.bytes) (omega (arith, one_long)) in
    let memory : List Area = text_area site.text ∷ with_bytes a new (data_from site.low h.bytes) ∷ [] in
    let done : stored a new s.memory ≡ Some memory = ap (stored a new) h.memory ∙ rw (one, two) refl in
    let t : State = record s { memory = memory } in
    let is : store 1 a value s ≡ Ok t = ap (λ (o : Option (List Area)).
    and_then (or_end o (denied a s)) (λ m. let r : Result State End = Ok (record s { memory = m }) in r)) done in
    let bytes : List ℕ = take (a - site.low) h.bytes ++ new ++ drop (a - site.low + length new) h.bytes in
    let long : length bytes ≡ length h.bytes = length-replaced (a - site.low) new h.bytes (omega (arith, one_long)) in
    let sound : SoundAt site t = record {
      bytes = bytes;
      memory = refl;
      size = ap (λ (k : ℕ). site.low + k) long ∙ size;
      above = h.above;
      below = h.below;
      small = replaced-small (a - site.low) 1 value (a - site.low + length new) h.bytes h.small;
      registers = h.registers;
    } in
    let old = load-in site.text site.low site.high 1 a s h from to in (
      t,
      record {
        is = is;
        sound = sound;
        same = load-stored 1 a value old.0 s t (omega arith) fits (areas-apart site.text site.low site.high s h) old.1
            is;
        apart = λ n b v places e. load-elsewhere a 1 b n value s t is places ∙ e;
        rest = store-keeps_rest a new s t is;
      },
    )

-- MOV of a byte of a register to the frame
store_byte-makes : (site : Site) (frame : ℕ) (r : Reg8) (k : ℕ) (s : State) → Framed site frame s → 4 ≤ k → k ≤ frame
    → (t : State) × StoredByte site (word_of Ebp s - k) (byte_of r s) s t × Makes site (insn.Mov8 (rm8.Mem (below k))
    r) s t
store_byte-makes site frame r k s framed some within =
    let esp = framed.esp in
    let room = framed.room in
    let top = framed.top in
    let at = below-address k s (omega arith) (omega arith)
    (word-below site.text site.low site.high Ebp s framed.sound) in
    let m = store-byte-in site (word_of Ebp s - k) (byte_of r s) s framed.sound (omega arith) (omega arith)
    (framed.sound.registers.below (byte_place r)) in (
      m.0,
      m.1,
      record {
        straight = tt;
        does = λ address. store-at 1 (address_of (below k) s) (byte_of r s) address s m.0
            (ap (λ (a : ℕ). store 1 a (byte_of r s) s) at ∙ m.1.is);
        sound = m.1.sound;
      },
    )

-- ---- the copy

-- one byte of memory
pub stored_byte-keeps : (site : Site) (a v : ℕ) (s t : State) → StoredByte site a v s t
    → Keeps (λ k. ⊤) (λ b n. AreDisjoint a 4 b n) s t
stored_byte-keeps site a v s t h =
    record {
      cells = λ k r. ap (λ (cells : List ℕ). get_or cells k 0) h.rest.registers;
      loads = λ n b w k e. h.apart n b w (narrow a b n k) e;
      left = h.rest.left;
      taken = h.rest.taken;
      written = h.rest.written;
    }
  where
    narrow : (a b n : ℕ) → AreDisjoint a 4 b n → AreDisjoint a 1 b n
    narrow a b n (inl p) = inl (omega arith)
    narrow a b n (inr p) = inr p

-- the low byte of ESI, once a number came there, is that of the number
scratch-low : (w : ℕ) (s : State) → length s.registers ≡ 32 → word_of Esi (with_word Esi w s) % 256 ≡ w % 256
scratch-low w s long =
    let front : length (take 24 s.registers) ≡ 24 = length-take-le 24 s.registers (omega arith) in
    let four = length-bytes_low_first 0 4 w in
    let both = length-append (take 24 s.registers) (little_bytes 4 w) in
    let cell : get_or (with_word Esi w s).registers 24 0 ≡ get_or (little_bytes 4 w) 0 0 =
    get_or_append_left (take 24 s.registers ++ little_bytes 4 w) (drop 28 s.registers) 0 24 (omega arith)
    ∙ get_or-append_right (take 24 s.registers) (little_bytes 4 w) 24 24 0 front (omega arith) in
    let first : get_or (drop 24 (with_word Esi w s).registers) 0 0 ≡ w % 256 =
    get_or-drop 24 (with_word Esi w s).registers 0 0 ∙ cell in
    counted (get_or (drop 24 (with_word Esi w s).registers) 0 0)
    (little_from 1 3 (drop 24 (with_word Esi w s).registers)) w first
  where
    counted : (x k w : ℕ) → x ≡ w % 256 → (x + 256 * k) % 256 ≡ w % 256
    counted x k w e = omega arith

pub copy_to_slot-puts : CopyToSlotPuts
copy_to_slot-puts site frame k (InWord q) b s framed to from contains small = absurd contains
copy_to_slot-puts site frame k (InByte q) b s framed to from contains small =
    let low = to.low in
    let esp = framed.esp in
    let room = framed.room in
    let top = framed.top in
    let made = store_byte-makes site frame q k s framed (omega arith) to.high in
    let t : State = made.0 in
    let a : ℕ = word_of Ebp s - k in
    let K : ℕ → ℕ → Type 0 = ApartFromPlace (word_of Ebp s) (InSlot k) in
    let keeps : Keeps (λ c. ⊤) K s t = stored_byte-keeps site a (byte_of q s) s t made.1 in
    let ebp : word_of Ebp t ≡ word_of Ebp s = word-kept (λ c. ⊤) K Ebp s t keeps (λ m below. tt) in
    let one : load 1 a t ≡ Ok b = made.1.same ∙ ap (λ (v : ℕ). let r : Result ℕ End = Ok v in r) contains in
    let four = load-in site.text site.low site.high 4 a t made.1.sound (omega arith) (omega arith) in
    let w : ℕ = four.0 in
    let is : w % 256 ≡ b = word-low site a w b t made.1.sound (omega arith) (omega arith) four.1 one small in (
      w,
      is,
      t,
      record {
        leads = (t, made.2, refl);
        holds = (
          subst (λ (e : ℕ). load 4 (e - k) t ≡ Ok w) (sym ebp) four.1,
          subst (λ (e : ℕ). load 1 (e - k) t ≡ Ok (w % 256)) (sym ebp)
              (subst (λ (v : ℕ). load 1 a t ≡ Ok v) (sym is) one),
        );
        framed = framed-kept (λ c. ⊤) K site frame s t framed keeps made.2.sound (λ m below. tt) (λ m below. tt);
        keeps = keeps-stricter (λ c. ⊤) (Untouched (InSlot k)) K K s t (λ c q. tt) (λ a n l. l) keeps;
      },
    )
copy_to_slot-puts site frame k (InSlot j) b s framed to from contains small =
    let low = from.low in
    let high = from.high in
    let mine = to.low in
    let mine_high = to.high in
    let esp = framed.esp in
    let room = framed.room in
    let top = framed.top in
    let a : ℕ = word_of Ebp s - j in
    let four = load-in site.text site.low site.high 4 a s framed.sound (omega arith) (omega arith) in
    let w : ℕ = four.0 in
    let is : w % 256 ≡ b = word-low site a w b s framed.sound (omega arith) (omega arith) four.1 contains small in
    let makes = load-makes site frame Esi j w s framed (omega arith) high four.1 in
    let m : State = with_word Esi w s in
    let kept : Keeps (OutsideWord Esi) Anywhere s m = result-keeps site Esi w s.flags s framed.sound in
    let framed_m : Framed site frame m = framed-kept (OutsideWord Esi) Anywhere site frame s m framed kept makes.sound
    (other-cells Esp Esi (λ e. omega arith)) (other-cells Ebp Esi (λ e. omega arith)) in
    let v : ℕ = word_of Esi m in
    let low_byte : v % 256 ≡ b = scratch-low w s framed.sound.registers.cells ∙ is in
    let two = write-puts site frame (InSlot k) Esi v m framed_m (omega arith) to refl in
    let u : State = two.0 in
    let K : ℕ → ℕ → Type 0 = ApartFromPlace (word_of Ebp s) (InSlot k) in
    let ebp : word_of Ebp m ≡ word_of Ebp s = word-kept (OutsideWord Esi) Anywhere Ebp s m kept
    (other-cells Ebp Esi (λ e. omega arith)) in (
      v,
      low_byte,
      u,
      record {
        leads = leads-join site (read Esi (InSlot j)) (write (InSlot k) Esi) s m u (m, makes, refl) two.1.leads;
        holds = two.1.holds;
        framed = two.1.framed;
        keeps = keeps-then (Untouched (InSlot k)) K s m u
            (keeps-stricter (OutsideWord Esi) (Untouched (InSlot k)) Anywhere K s m (λ c q. q.1) (λ a n l. tt)
            kept)
            (subst (λ (e : ℕ). Keeps (Untouched (InSlot k)) (ApartFromPlace e (InSlot k)) m u) ebp two.1.keeps);
      },
    )

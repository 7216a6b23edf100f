-- What one instruction of the copies does: it copies from a place to another, or exchanges two registers.
use Rattle.std.proofs.Common.{◌≡◌, ◌≢◌, ℕ, ◌+◌, ◌-◌, ◌*◌, ◌%◌, ◌^◌, ◌<◌, ◌≤◌, List, [], ◌∷◌, ◌++◌, length, take, drop}
use Rattle.std.proofs.Common.{Option, Some, Ok, get_or, refl, sym, ap, subst, ◌∙◌, inl, inr, arith}
use Rattle.std.specs.Prelude.{⊤, ◌⊎◌, Result, slice_index}
use Rattle.std.proofs.lemmas.Bool.{le-leb}
use Rattle.std.proofs.lemmas.List.{get_or-set_same, get_or-set_other}
use Rattle.byteorder.specs.Endian.{little_bytes}
use Rattle.byteorder.specs.Numbers.{length-bytes_low_first}
use Rattle.pcc_base.specs.Outcome.{End}
use Rattle.pcc_base.specs.declared.run.Width.{Width}
use Rattle.pcc_base.specs.declared.run.Width.TheVariants.{One, Two}
use Rattle.ia32_insn.specs.declared.register_names.Reg32.{Reg32}
use Rattle.ia32_insn.specs.declared.register_names.Reg32.TheVariants.{Eax, Ecx, Edx, Ebx, Esp, Ebp, Esi, Edi}
use Rattle.ia32_insn.specs.declared.register_names.Reg8.{Reg8}
use Rattle.ia32_insn.specs.Registers.{number32, number8, byte_place}
use Rattle.ia32_insn.proofs.Registers.{AreRegisters-set}
use Rattle.ia32_insn.specs.Places.{Place, InWord, InByte, InSlot, IsGeneral}
use Rattle.ia32_insn.specs.declared.operand.Rm32.TheVariants as rm
use Rattle.ia32_insn.specs.declared.operand.Rm8.TheVariants as rm8
use Rattle.ia32_insn.specs.declared.insn.Insn.{Insn}
use Rattle.ia32_insn.specs.declared.insn.Insn.TheVariants as insn
use Rattle.ia32_insn.specs.declared.item.Item.TheVariants as item
use Rattle.ia32_insn.specs.State.{State, Area, stored, with_bytes}
use Rattle.ia32_insn.specs.Meaning.{and_then, or_end, denied, address_of, load, store, word_of, with_word, byte_of}
use Rattle.ia32_insn.specs.Meaning.{with_byte}
use Rattle.ia32_insn.specs.Keeps.{AreDisjoint, KeepsAllButMemory}
use Rattle.ia32_insn.specs.Items.{text_area}
use Rattle.ia32_insn.proofs.Access.{load-elsewhere, load-stored, store-keeps_rest}
use Rattle.ia32_insn.proofs.Splices.{length-replaced}
use Rattle.ia32_rows.specs.Placements.{below}
use Rattle.ia32_rows.specs.Sites.{Site, SoundAt, Framed, Anywhere, data_from}
use Rattle.ia32_rows.specs.Effects.{Makes, Leads, Keeps, OutsideWord}
use Rattle.ia32_rows.specs.Contains.{Contains, OutsidePlace}
use Rattle.ia32_rows.specs.Laws.{IsWorking}
use Rattle.ia32_rows.proofs.Sound.{Stored, areas-apart, load-in, word-below, word-same, word-other, sound-with_word}
use Rattle.ia32_rows.proofs.Frames.{below-address}
use Rattle.ia32_rows.proofs.Instructions.{move-makes, byte-makes, load-makes, load_byte-makes, store-makes, store-at}
use Rattle.ia32_rows.proofs.Kept.{keeps-then, keeps-stricter, result-keeps, byte-keeps, stored-keeps, word-kept}
use Rattle.ia32_rows.proofs.Kept.{other-cells, framed-kept, HasCells}
use Rattle.ia32_rows.proofs.Moves.{gives-word, general-works, byte-below}
use Rattle.parallel_copies.specs.Copies.{Fits, IsInside, ApartFromTarget, size_of}
use Rattle.parallel_copies.specs.Steps.{NotSlots, copy_insn, swap_insn}
use Rattle.ia32_rows.proofs.Bytes.{StoredByte, store-byte-in}

-- ---- a copy

-- a place to which an instruction may bring a word or a byte
abbrev pub CanTake : Width → Place → Type 0
CanTake Two (InWord r) = IsWorking r
CanTake Two (InByte r) = ⊥
CanTake Two (InSlot k) = ⊤
CanTake One (InWord r) = ⊥
CanTake One (InByte r) = ⊤
CanTake One (InSlot k) = ⊤

-- one instruction brings a number to a place, and keeps all else
pub record Carries (site : Site) (frame : ℕ) (i : Insn) (width : Width) (to : Place) (n : ℕ) (s u : State) : Type 0
  where
    pub leads : Leads site (item.Plain i ∷ []) s u
    pub framed : Framed site frame u
    pub contains : Contains u width to n
    pub keeps : Keeps (OutsidePlace to) (ApartFromTarget (word_of Ebp s) width to) s u

-- to a register
carries-word : (site : Site) (frame : ℕ) (i : Insn) (r : Reg32) (n : ℕ) (s : State) → Framed site frame s → IsWorking r
    → n < 2 ^ 32 → Makes site i s (with_word r n s) → (u : State) × Carries site frame i Two (InWord r) n s u
carries-word site frame i r n s framed works fits makes =
    let given = gives-word site frame i r n s framed works fits makes in
    let u : State = given.0 in
    let g = given.1 in (
      u,
      record {
        leads = g.leads;
        framed = g.framed;
        contains = g.value;
        keeps = keeps-stricter (OutsideWord r) (OutsidePlace (InWord r)) Anywhere
            (ApartFromTarget (word_of Ebp s) Two (InWord r)) s u (λ k q. q) (λ a m l. tt) g.keeps;
      },
    )

-- to a byte of one
carries-byte : (site : Site) (frame : ℕ) (i : Insn) (r : Reg8) (n : ℕ) (s : State) → Framed site frame s
    → Makes site i s (with_byte r n s) → (u : State) × Carries site frame i One (InByte r) n s u
carries-byte site frame i r n s framed makes =
    let u : State = with_byte r n s in
    let b = byte-below r in
    let cells = framed.sound.registers.cells in (
      u,
      record {
        leads = (u, makes, refl);
        framed = framed-kept (λ k. k ≢ byte_place r) Anywhere site frame s u framed (byte-keeps r n s) makes.sound
            (λ m below e. omega (arith, e)) (λ m below e. omega (arith, e));
        contains = get_or-set_same s.registers (byte_place r) n 0 (omega (arith, cells));
        keeps = keeps-stricter (λ k. k ≢ byte_place r) (OutsidePlace (InByte r)) Anywhere
            (ApartFromTarget (word_of Ebp s) One (InByte r)) s u (λ k q. q) (λ a m l. tt) (byte-keeps r n s);
      },
    )

-- to the word of a slot
carries-slot : (site : Site) (frame k : ℕ) (i : Insn) (n : ℕ) (s t : State) → Framed site frame s
    → Stored site.text site.low site.high (word_of Ebp s - k) n s t → Makes site i s t
    → (u : State) × Carries site frame i Two (InSlot k) n s u
carries-slot site frame k i n s t framed stored makes =
    let K : ℕ → ℕ → Type 0 = ApartFromTarget (word_of Ebp s) Two (InSlot k) in
    let keeps : Keeps (λ c. ⊤) K s t = stored-keeps (λ c. ⊤) site (word_of Ebp s - k) n s t stored in
    let ebp : word_of Ebp t ≡ word_of Ebp s = word-kept (λ c. ⊤) K Ebp s t keeps (λ m below. tt) in (
      t,
      record {
        leads = (t, makes, refl);
        framed = framed-kept (λ c. ⊤) K site frame s t framed keeps makes.sound (λ m below. tt) (λ m below. tt);
        contains = subst (λ (e : ℕ). load 4 (e - k) t ≡ Ok n) (sym ebp) stored.same;
        keeps = keeps-stricter (λ c. ⊤) (OutsidePlace (InSlot k)) K K s t (λ c q. tt) (λ a m l. l) keeps;
      },
    )

-- ---- a byte in memory

-- to the lowest byte of a slot
carries-slot_byte : (site : Site) (frame : ℕ) (r : Reg8) (k : ℕ) (s : State) → Framed site frame s → 4 ≤ k → k ≤ frame
    → (u : State) × Carries site frame (insn.Mov8 (rm8.Mem (below k)) r) One (InSlot k) (byte_of r s) s u
carries-slot_byte site frame r k s framed some within =
    let esp = framed.esp in
    let room = framed.room in
    let top = framed.top in
    let K : ℕ → ℕ → Type 0 = ApartFromTarget (word_of Ebp s) One (InSlot k) in
    let at = below-address k s (omega arith) (omega arith)
    (word-below site.text site.low site.high Ebp s framed.sound) in
    let stored = store-byte-in site (word_of Ebp s - k) (byte_of r s) s framed.sound (omega arith) (omega arith)
    (framed.sound.registers.below (byte_place r)) in
    let t : State = stored.0 in
    let h = stored.1 in
    let keeps : Keeps (λ c. ⊤) K s t = record {
      cells = λ c q. ap (λ (cells : List ℕ). slice_index cells c) h.rest.registers;
      loads = λ n b w k e. h.apart n b w k e;
      left = h.rest.left;
      taken = h.rest.taken;
      written = h.rest.written;
    } in
    let ebp : word_of Ebp t ≡ word_of Ebp s = word-kept (λ c. ⊤) K Ebp s t keeps (λ m below. tt) in
    let makes : Makes site (insn.Mov8 (rm8.Mem (below k)) r) s t = record {
      straight = tt;
      does = λ address. store-at 1 (address_of (below k) s) (byte_of r s) address s t
          (ap (λ (a : ℕ). store 1 a (byte_of r s) s) at ∙ h.is);
      sound = h.sound;
    } in (
      t,
      record {
        leads = (t, makes, refl);
        framed = framed-kept (λ c. ⊤) K site frame s t framed keeps h.sound (λ m below. tt) (λ m below. tt);
        contains = subst (λ (e : ℕ). load 1 (e - k) t ≡ Ok (byte_of r s)) (sym ebp) h.same;
        keeps = keeps-stricter (λ c. ⊤) (OutsidePlace (InSlot k)) K K s t (λ c q. tt) (λ a m l. l) keeps;
      },
    )

-- ---- every copy

pub copy-carries : (site : Site) (frame : ℕ) (width : Width) (from to : Place) (n : ℕ) (s : State) → Framed site frame s
    → CanTake width to → NotSlots from to → Contains s width from n → Fits width n → IsInside frame from
    → IsInside frame to → (u : State) × Carries site frame (copy_insn from to) width to n s u
copy-carries site frame Two (InWord q) (InWord r) n s framed takes slots contains fits inside to_inside =
    carries-word site frame (insn.Mov (rm.Reg r) q) r n s framed takes fits
    (subst (λ (v : ℕ). Makes site (insn.Mov (rm.Reg r) q) s (with_word r v s)) contains
    (move-makes site r q s framed.sound))
copy-carries site frame Two (InWord q) (InByte r) n s framed takes slots contains fits inside to_inside = absurd takes
copy-carries site frame Two (InWord q) (InSlot k) n s framed takes slots contains fits inside to_inside =
    let m = store-makes site frame q k s framed to_inside.0 to_inside.1 in
    carries-slot site frame k (insn.Mov (rm.Mem (below k)) q) n s m.0 framed
    (subst (λ (v : ℕ). Stored site.text site.low site.high (word_of Ebp s - k) v s m.0) contains m.1) m.2
copy-carries site frame Two (InByte q) to n s framed takes slots contains fits inside to_inside = absurd contains
copy-carries site frame Two (InSlot k) (InWord r) n s framed takes slots contains fits inside to_inside =
    let low = inside.0 in
    carries-word site frame (insn.MovLoad r (below k)) r n s framed takes fits
    (load-makes site frame r k n s framed (omega arith) inside.1 contains)
copy-carries site frame Two (InSlot k) (InByte r) n s framed takes slots contains fits inside to_inside = absurd takes
copy-carries site frame Two (InSlot k) (InSlot j) n s framed takes slots contains fits inside to_inside = absurd slots
copy-carries site frame One (InWord q) to n s framed takes slots contains fits inside to_inside = absurd contains
copy-carries site frame One (InByte q) (InWord r) n s framed takes slots contains fits inside to_inside = absurd takes
copy-carries site frame One (InByte q) (InByte r) n s framed takes slots contains fits inside to_inside =
    carries-byte site frame (insn.Mov8 (rm8.Reg r) q) r n s framed
    (subst (λ (v : ℕ). Makes site (insn.Mov8 (rm8.Reg r) q) s (with_byte r v s)) contains
    (byte-makes site r q s framed.sound))
copy-carries site frame One (InByte q) (InSlot k) n s framed takes slots contains fits inside to_inside =
    let made = carries-slot_byte site frame q k s framed to_inside.0 to_inside.1 in (
      made.0,
      subst (λ (v : ℕ). Carries site frame (insn.Mov8 (rm8.Mem (below k)) q) One (InSlot k) v s made.0) contains
          made.1,
    )
copy-carries site frame One (InSlot k) (InWord r) n s framed takes slots contains fits inside to_inside = absurd takes
copy-carries site frame One (InSlot k) (InByte r) n s framed takes slots contains fits inside to_inside =
    let low = inside.0 in
    carries-byte site frame (insn.Mov8Load r (below k)) r n s framed
    (load_byte-makes site frame r k n s framed (omega arith) inside.1 contains fits)
copy-carries site frame One (InSlot k) (InSlot j) n s framed takes slots contains fits inside to_inside = absurd slots

-- ---- an exchange

abbrev pub OutsideBoth : Place → Place → ℕ → Type 0
OutsideBoth p q k = OutsidePlace p k × OutsidePlace q k

-- one instruction exchanges what two places contain, and keeps all else
pub record Exchanges (site : Site) (frame : ℕ) (i : Insn) (width : Width) (p q : Place) (s u : State) : Type 0 where
  pub leads : Leads site (item.Plain i ∷ []) s u
  pub framed : Framed site frame u
  pub forth : (d : Width) (n : ℕ) → Contains s d p n → Contains u d q n
  pub back : (d : Width) (n : ℕ) → Contains s d q n → Contains u d p n
  pub stack : HasCells (OutsideBoth p q) Ebp
  pub keeps : Keeps (OutsideBoth p q) Anywhere s u

-- a register has what another had
words-contain : (s u : State) (p q : Reg32) → word_of q u ≡ word_of p s → (d : Width) (n : ℕ)
    → Contains s d (InWord p) n → Contains u d (InWord q) n
words-contain s u p q e One n is = absurd is
words-contain s u p q e Two n is = e ∙ is

bytes-contain : (s u : State) (p q : Reg8) → byte_of q u ≡ byte_of p s → (d : Width) (n : ℕ)
    → Contains s d (InByte p) n → Contains u d (InByte q) n
bytes-contain s u p q e One n is = e ∙ is
bytes-contain s u p q e Two n is = absurd is

exchange-words : (site : Site) (frame : ℕ) (a b : Reg32) (s : State) → Framed site frame s → IsWorking a → IsWorking b
    → number32 a ≢ number32 b
    → (u : State) × Exchanges site frame (insn.Xchg (rm.Reg b) a) Two (InWord a) (InWord b) s u
exchange-words site frame a b s framed works_a works_b other =
    let sound = framed.sound in
    let x : ℕ = word_of a s in
    let y : ℕ = word_of b s in
    let m : State = with_word b x s in
    let sound_m : SoundAt site m = sound-with_word site.text site.low site.high b x s sound in
    let u : State = with_word a y m in
    let sound_u : SoundAt site u = sound-with_word site.text site.low site.high a y m sound_m in
    let R : ℕ → Type 0 = OutsideBoth (InWord a) (InWord b) in
    let one : Keeps R Anywhere s m = keeps-stricter (OutsideWord b) R Anywhere Anywhere s m (λ k q. q.1) (λ p n l. l)
    (result-keeps site b x s.flags s sound) in
    let two : Keeps R Anywhere m u = keeps-stricter (OutsideWord a) R Anywhere Anywhere m u (λ k q. q.0) (λ p n l. l)
    (result-keeps site a y m.flags m sound_m) in
    let keeps : Keeps R Anywhere s u = keeps-then R Anywhere s m u one two in
    let ebp_cells : HasCells R Ebp =
    λ k below. (other-cells Ebp a works_a.1 k below, other-cells Ebp b works_b.1 k below) in
    let at_a : word_of a u ≡ y = word-same site.text site.low site.high a y m sound_m
    (word-below site.text site.low site.high b s sound) in
    let at_b : word_of b u ≡ x = word-other site.text site.low site.high b a y m sound_m (λ e. other (sym e))
    ∙ word-same site.text site.low site.high b x s sound (word-below site.text site.low site.high a s sound) in (
      u,
      record {
        leads = (u, record { straight = tt; does = λ address. refl; sound = sound_u }, refl);
        framed = framed-kept R Anywhere site frame s u framed keeps sound_u
            (λ k below. (other-cells Esp a works_a.0 k below, other-cells Esp b works_b.0 k below)) ebp_cells;
        forth = words-contain s u a b at_b;
        back = words-contain s u b a at_a;
        stack = ebp_cells;
        keeps = keeps;
      },
    )

exchange-bytes : (site : Site) (frame : ℕ) (a b : Reg8) (s : State) → Framed site frame s
    → byte_place a ≢ byte_place b
    → (u : State) × Exchanges site frame (insn.Xchg8 (rm8.Reg b) a) One (InByte a) (InByte b) s u
exchange-bytes site frame a b s framed other =
    let registers = framed.sound.registers in
    let x : ℕ = byte_of a s in
    let y : ℕ = byte_of b s in
    let m : State = with_byte b x s in
    let u : State = with_byte a y m in
    let below_a = byte-below a in
    let below_b = byte-below b in
    let cells = registers.cells in
    let registers_m = AreRegisters-set (byte_place b) x s.registers (registers.below (byte_place a)) registers in
    let cells_m = registers_m.cells in
    let sound_u : SoundAt site u = record {
      bytes = framed.sound.bytes;
      memory = framed.sound.memory;
      size = framed.sound.size;
      above = framed.sound.above;
      below = framed.sound.below;
      small = framed.sound.small;
      registers = AreRegisters-set (byte_place a) y m.registers (registers.below (byte_place b)) registers_m;
    } in
    let R : ℕ → Type 0 = OutsideBoth (InByte a) (InByte b) in
    let one : Keeps R Anywhere s m = keeps-stricter (λ k. k ≢ byte_place b) R Anywhere Anywhere s m (λ k q. q.1)
    (λ p n l. l) (byte-keeps b x s) in
    let two : Keeps R Anywhere m u = keeps-stricter (λ k. k ≢ byte_place a) R Anywhere Anywhere m u (λ k q. q.0)
    (λ p n l. l) (byte-keeps a y m) in
    let keeps : Keeps R Anywhere s u = keeps-then R Anywhere s m u one two in
    let ebp_cells : HasCells R Ebp = λ k below. ((λ e. omega (arith, e)), (λ e. omega (arith, e))) in
    let at_a : byte_of a u ≡ y = get_or-set_same m.registers (byte_place a) y 0 (omega (arith, cells_m)) in
    let at_b : byte_of b u ≡ x =
    get_or-set_other m.registers (byte_place a) (byte_place b) y 0 (λ e. other (sym e))
    ∙ get_or-set_same s.registers (byte_place b) x 0 (omega (arith, cells)) in (
      u,
      record {
        leads = (u, record { straight = tt; does = λ address. refl; sound = sound_u }, refl);
        framed = framed-kept R Anywhere site frame s u framed keeps sound_u
            (λ k below. ((λ e. omega (arith, e)), (λ e. omega (arith, e)))) ebp_cells;
        forth = bytes-contain s u a b at_b;
        back = bytes-contain s u b a at_a;
        stack = ebp_cells;
        keeps = keeps;
      },
    )

-- a place that may be exchanged with another
abbrev pub CanExchange : Width → Place → Type 0
CanExchange Two (InWord r) = IsWorking r
CanExchange Two (InByte r) = ⊥
CanExchange Two (InSlot k) = ⊥
CanExchange One (InWord r) = ⊥
CanExchange One (InByte r) = ⊤
CanExchange One (InSlot k) = ⊥

abbrev pub AreOther : Place → Place → Type 0
AreOther (InWord a) (InWord b) = number32 a ≢ number32 b
AreOther (InByte a) (InByte b) = byte_place a ≢ byte_place b
AreOther (InWord a) (InByte b) = ⊤
AreOther (InWord a) (InSlot k) = ⊤
AreOther (InByte a) (InWord b) = ⊤
AreOther (InByte a) (InSlot k) = ⊤
AreOther (InSlot k) q = ⊤

pub swap-exchanges : (site : Site) (frame : ℕ) (width : Width) (p q : Place) (s : State) → Framed site frame s
    → CanExchange width p → CanExchange width q → AreOther p q
    → (u : State) × Exchanges site frame (swap_insn p q) width p q s u
swap-exchanges site frame Two (InWord a) (InWord b) s framed first second other =
    exchange-words site frame a b s framed first second other
swap-exchanges site frame Two (InWord a) (InByte b) s framed first second other = absurd second
swap-exchanges site frame Two (InWord a) (InSlot k) s framed first second other = absurd second
swap-exchanges site frame Two (InByte a) q s framed first second other = absurd first
swap-exchanges site frame Two (InSlot k) q s framed first second other = absurd first
swap-exchanges site frame One (InWord a) q s framed first second other = absurd first
swap-exchanges site frame One (InByte a) (InWord b) s framed first second other = absurd second
swap-exchanges site frame One (InByte a) (InByte b) s framed first second other =
    exchange-bytes site frame a b s framed other
swap-exchanges site frame One (InByte a) (InSlot k) s framed first second other = absurd second
swap-exchanges site frame One (InSlot k) q s framed first second other = absurd first

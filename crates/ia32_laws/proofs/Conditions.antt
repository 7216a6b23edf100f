-- 1 or 0 to a place, by a condition.
use Rattle.std.proofs.Common.{◌≡◌, ◌≢◌, ◌⊎◌, ℕ, ◌+◌, ◌-◌, ◌*◌, ◌<◌, ◌≤◌, Bool, true, false, List, [], ◌∷◌}
use Rattle.std.proofs.Common.{Option, Some, Ok, get_or, refl, sym, ap}
use Rattle.std.proofs.Common.{subst, ◌∙◌, inl, inr, arith}
use Rattle.std.specs.Prelude.{Result, ⊤}
use Rattle.std.proofs.lemmas.List.{get_or-set_same}
use Rattle.pcc_base.specs.Outcome.{End, Stopped}
use Rattle.pcc_base.specs.declared.run.Stop.TheVariants.{Flags as UnknownFlags}
use Rattle.ia32_insn.specs.declared.register_names.Reg32.{Reg32}
use Rattle.ia32_insn.specs.declared.register_names.Reg32.TheVariants.{Eax, Ecx, Edx, Ebx, Esp, Ebp, Esi, Edi}
use Rattle.ia32_insn.specs.declared.register_names.Reg8.{Reg8}
use Rattle.ia32_insn.specs.Registers.{number32, byte_place}
use Rattle.ia32_insn.specs.Places.{InWord, InByte, InSlot, IsGeneral}
use Rattle.ia32_insn.specs.declared.operand.Rm8.TheVariants as rm8
use Rattle.ia32_insn.specs.declared.insn.Cond.{Cond}
use Rattle.ia32_insn.specs.declared.insn.Insn.TheVariants as insn
use Rattle.ia32_insn.specs.State.{State, at_address}
use Rattle.ia32_insn.specs.Keeps.{AreDisjoint}
use Rattle.ia32_insn.specs.Items.{plain}
use Rattle.ia32_insn.specs.Arithmetic.{holds}
use Rattle.ia32_insn.specs.Meaning.{address_of, and_then, bit, byte_of, load, or_end, store, with_byte}
use Rattle.ia32_insn.specs.Meaning.{word_of}
use Rattle.ia32_rows.specs.Placements.{below}
use Rattle.ia32_rows.specs.Sites.{Anywhere, Framed, Site, SoundAt}
use Rattle.ia32_rows.proofs.Frames.{below-address, with_result}
use Rattle.ia32_rows.proofs.Sound.{word-below, word-same}
use Rattle.ia32_rows.specs.Effects.{Keeps, Makes, OutsideWord}
use Rattle.ia32_rows.specs.Contains.{ApartFromPlace, IsPlaceIn, Untouched}
use Rattle.ia32_rows.specs.Laws.{Puts}
use Rattle.ia32_rows.proofs.Kept.{byte-keeps, framed-kept, keeps-stricter, keeps-then, other-cells}
use Rattle.ia32_rows.proofs.Kept.{word-kept}
use Rattle.ia32_rows.proofs.Instructions.{byte_number-makes, result-makes, store-at}
use Rattle.ia32_rows.proofs.Moves.{byte-below, general-works, write-puts}
use Rattle.ia32_rows.proofs.Straight.{leads-join}
use Rattle.ia32_rows.proofs.Sums.{esi-works}
use Rattle.ia32_rows.specs.Rows.{comparing, low_byte, set_row}
use Rattle.ia32_laws.specs.CoresLaws.{SetPuts}
use Rattle.ia32_rows.proofs.Bytes.{StoredByte, store-byte-in, stored_byte-keeps}
use Rattle.ia32_rows.proofs.Unary.{zero_slot-makes}
use Rattle.ia32_laws.proofs.Flags.{places-compare}
use Rattle.ia32_laws.proofs.Goes.{Goes, goes-stricter, goes-then, result-goes}

-- ---- to a register

bit-small : (b : Bool) → bit b < 256
bit-small true = omega arith
bit-small false = omega arith

set-makes : (site : Site) (c : Cond) (r : Reg8) (b : Bool) (s : State) → SoundAt site s → holds c s.flags ≡ Some b
    → Makes site (insn.SetCc c (rm8.Reg r)) s (with_byte r (bit b) s)
set-makes site c r b s sound e =
    record {
      straight = tt;
      does = λ address. ap (λ (o : Option Bool). and_then (or_end o (Stopped UnknownFlags (at_address address s).eip))
          (λ known. let q : Result State End = Ok (with_byte r (bit known) (at_address address s)) in q)) e;
      sound = (byte_number-makes site r (bit b) s sound (bit-small b)).sound;
    }

-- where the lowest byte of a register for variables stands
low-at : (d : Reg32) → IsGeneral d → byte_place (low_byte d) ≡ 4 * number32 d
low-at Eax h = refl
low-at Ecx h = refl
low-at Edx h = refl
low-at Ebx h = refl
low-at Esp h = absurd h
low-at Ebp h = absurd h
low-at Esi h = absurd h
low-at Edi h = absurd h

set_register-goes : (site : Site) (frame : ℕ) (c : Cond) (d : Reg32) (b : Bool) (s : State) → Framed site frame s
    → IsGeneral d → holds c s.flags ≡ Some b
    → (u : State) × Goes (OutsideWord d) site frame (set_row c (InWord d)) s u × (word_of d u ≡ bit b)
set_register-goes site frame c d b s framed general e =
    let r : Reg8 = low_byte d in
    let at = low-at d general in
    let small = byte-below r in
    let cells = framed.sound.registers.cells in
    let R : ℕ → Type 0 = λ k. k ≢ byte_place r in
    let m : State = with_byte r (bit b) s in
    let makes = set-makes site c r b s framed.sound e in
    let framed_m : Framed site frame m = framed-kept R Anywhere site frame s m framed (byte-keeps r (bit b) s)
    makes.sound (λ j below k. omega (arith, small, k)) (λ j below k. omega (arith, small, k)) in
    let first : Goes R site frame (plain (insn.SetCc c (rm8.Reg r)) ∷ []) s m =
    record { leads = (m, makes, refl); framed = framed_m; keeps = byte-keeps r (bit b) s } in
    let v : ℕ = byte_of r m in
    let is : v ≡ bit b = get_or-set_same s.registers (byte_place r) (bit b) 0 (omega (arith, cells, small)) in
    let second = result-goes site frame (insn.MovZx8 d (rm8.Reg r)) d v m.flags m framed_m (general-works d general)
    (record { straight = tt; does = λ address. refl; sound = result-makes site d v m.flags m framed_m.sound }) in
    let u : State = with_result d v m.flags m in
    let value = word-same site.text site.low site.high d v m framed_m.sound
    (let one = bit-small b in omega (arith, is, one)) ∙ is in (
      u,
      goes-then (OutsideWord d) site frame (plain (insn.SetCc c (rm8.Reg r)) ∷ [])
          (plain (insn.MovZx8 d (rm8.Reg r)) ∷ []) s m u
          (goes-stricter R (OutsideWord d) site frame (plain (insn.SetCc c (rm8.Reg r)) ∷ []) s m
          (λ k h. apart k (number32 d) (byte_place r) at h) first) second,
      value,
    )
  where
    apart : (k n b : ℕ) → b ≡ 4 * n → (k < 4 * n) ⊎ (4 * n + 4 ≤ k) → k ≢ b
    apart k n b e (inl h) f = omega (arith, e, f)
    apart k n b e (inr h) f = omega (arith, e, f)

-- ---- to a slot

-- SETcc of the low byte of a slot
set_slot-makes : (site : Site) (frame : ℕ) (c : Cond) (k : ℕ) (b : Bool) (s : State) → Framed site frame s → 4 ≤ k
    → k ≤ frame → holds c s.flags ≡ Some b
    → (t : State) × StoredByte site (word_of Ebp s - k) (bit b) s t × Makes site (insn.SetCc c (rm8.Mem (below k))) s t
set_slot-makes site frame c k b s framed some within e =
    let esp = framed.esp in
    let room = framed.room in
    let top = framed.top in
    let at = below-address k s (omega arith) (omega arith)
    (word-below site.text site.low site.high Ebp s framed.sound) in
    let m = store-byte-in site (word_of Ebp s - k) (bit b) s framed.sound (omega arith) (omega arith) (bit-small b) in (
      m.0,
      m.1,
      record {
        straight = tt;
        does = λ address. ap (λ (o : Option Bool).
            and_then (or_end o (Stopped UnknownFlags (at_address address s).eip))
            (λ known. store 1 (address_of (below k) s) (bit known) (at_address address s))) e
            ∙ store-at 1 (address_of (below k) s) (bit b) address s m.0
            (ap (λ (a : ℕ). store 1 a (bit b) s) at ∙ m.1.is);
        sound = m.1.sound;
      },
    )

set_slot-puts : (site : Site) (frame : ℕ) (c : Cond) (k : ℕ) (b : Bool) (s : State) → Framed site frame s → 16 ≤ frame
    → IsPlaceIn frame (InSlot k) → holds c s.flags ≡ Some b
    → (u : State) × Puts site frame (set_row c (InSlot k)) (InSlot k) (bit b) s u
set_slot-puts site frame c k b s framed room placed e =
    let low = placed.low in
    let S : ℕ → Type 0 = Untouched (InSlot k) in
    let K : ℕ → ℕ → Type 0 = ApartFromPlace (word_of Ebp s) (InSlot k) in
    let first = set_slot-makes site frame c k b s framed (omega arith) placed.high e in
    let m : State = first.0 in
    let kept : Keeps (λ j. ⊤) K s m = stored_byte-keeps site (word_of Ebp s - k) (bit b) s m first.1 in
    let ebp : word_of Ebp m ≡ word_of Ebp s = word-kept (λ j. ⊤) K Ebp s m kept (λ j below. tt) in
    let framed_m : Framed site frame m = framed-kept (λ j. ⊤) K site frame s m framed kept first.2.sound
    (λ j below. tt) (λ j below. tt) in
    let held : load 1 (word_of Ebp m - k) m ≡ Ok (bit b) =
    subst (λ (a : ℕ). load 1 (a - k) m ≡ Ok (bit b)) (sym ebp) first.1.same in
    let makes = zero_slot-makes site frame Esi k (bit b) m framed_m (omega arith) placed.high held in
    let n : State = with_result Esi (bit b) m.flags m in
    let second = result-goes site frame (insn.MovZx8 Esi (rm8.Mem (below k))) Esi (bit b) m.flags m framed_m esi-works
    makes in
    let value : word_of Esi n ≡ bit b = word-same site.text site.low site.high Esi (bit b) m framed_m.sound
    (let one = bit-small b in omega (arith, one)) in
    let third = write-puts site frame (InSlot k) Esi (bit b) n second.framed room placed value in
    let u : State = third.0 in
    let same : word_of Ebp n ≡ word_of Ebp s = word-kept (OutsideWord Esi) Anywhere Ebp m n second.keeps
    (other-cells Ebp Esi (λ f. omega arith)) ∙ ebp in (
      u,
      record {
        leads = (m, first.2, (n, makes, third.1.leads));
        holds = third.1.holds;
        framed = third.1.framed;
        keeps = keeps-then S K s m u (keeps-stricter (λ j. ⊤) S K K s m (λ j q. tt) (λ a j l. l) kept)
            (keeps-then S K m n u
            (keeps-stricter (OutsideWord Esi) S Anywhere K m n (λ j q. q.1) (λ a j l. tt) second.keeps)
            (subst (λ (a : ℕ). Keeps S (ApartFromPlace a (InSlot k)) n u) same third.1.keeps));
      },
    )

-- ---- after a comparison

pub set-puts : SetPuts
set-puts site frame c t (InByte d) q r x y s framed room word to a a_placed b b_placed one two fits decided =
    absurd word
set-puts site frame c t (InWord d) q r x y s framed room word to a a_placed b b_placed one two fits decided =
    let known = places-compare site frame q r x y s framed a a_placed b b_placed one two fits in
    let m : State = known.0 in
    let last = set_register-goes site frame c d t m known.1.framed to (ap (holds c) known.1.flags ∙ decided) in
    let u : State = last.0 in
    let S : ℕ → Type 0 = Untouched (InWord d) in
    let K : ℕ → ℕ → Type 0 = ApartFromPlace (word_of Ebp s) (InWord d) in (
      u,
      record {
        leads = leads-join site (comparing q r) (set_row c (InWord d)) s m u known.1.leads last.1.leads;
        holds = last.2;
        framed = last.1.framed;
        keeps = keeps-then S K s m u
            (keeps-stricter (OutsideWord Esi) S Anywhere K s m (λ k h. h.1) (λ j n l. tt) known.1.keeps)
            (keeps-stricter (OutsideWord d) S Anywhere K m u (λ k h. h.0) (λ j n l. tt) last.1.keeps);
      },
    )
set-puts site frame c t (InSlot d) q r x y s framed room word to a a_placed b b_placed one two fits decided =
    let known = places-compare site frame q r x y s framed a a_placed b b_placed one two fits in
    let m : State = known.0 in
    let last = set_slot-puts site frame c d t m known.1.framed room to (ap (holds c) known.1.flags ∙ decided) in
    let u : State = last.0 in
    let S : ℕ → Type 0 = Untouched (InSlot d) in
    let K : ℕ → ℕ → Type 0 = ApartFromPlace (word_of Ebp s) (InSlot d) in
    let ebp : word_of Ebp m ≡ word_of Ebp s = word-kept (OutsideWord Esi) Anywhere Ebp s m known.1.keeps
    (other-cells Ebp Esi (λ e. omega arith)) in (
      u,
      record {
        leads = leads-join site (comparing q r) (set_row c (InSlot d)) s m u known.1.leads last.1.leads;
        holds = last.1.holds;
        framed = last.1.framed;
        keeps = keeps-then S K s m u
            (keeps-stricter (OutsideWord Esi) S Anywhere K s m (λ k h. h.1) (λ j n l. tt) known.1.keeps)
            (subst (λ (a : ℕ). Keeps S (ApartFromPlace a (InSlot d)) m u) ebp last.1.keeps);
      },
    )

-- Rows that change one word.
use Rattle.std.proofs.Common.{◌≡◌, ℕ, ◌^◌, ◌<◌, ◌≤◌, [], ◌∷◌, ◌++◌, Option, None, refl, Ok, ◌-◌}
use Rattle.std.proofs.Common.{subst, ap, arith}
use Rattle.pcc_base.specs.declared.run.Width.TheVariants.{One, Two}
use Rattle.ia32_insn.specs.declared.register_names.Reg8.{Reg8}
use Rattle.ia32_insn.specs.declared.register_names.Reg32.{Reg32}
use Rattle.ia32_insn.specs.declared.register_names.Reg32.TheVariants.{Esp, Ebp}
use Rattle.ia32_insn.specs.Places.{Place, InWord, InByte, InSlot}
use Rattle.ia32_insn.specs.declared.flags.Flags.{Flags}
use Rattle.ia32_insn.specs.declared.operand.Rm32.TheVariants as rm
use Rattle.ia32_insn.specs.declared.operand.Rm8.TheVariants as rm8
use Rattle.ia32_insn.specs.declared.insn.Insn.{Insn}
use Rattle.ia32_insn.specs.declared.insn.Insn.TheVariants as insn
use Rattle.ia32_insn.specs.State.{State, at_address}
use Rattle.ia32_insn.specs.Arithmetic.{complement, extended8, negation}
use Rattle.ia32_insn.specs.Meaning.{and_then, address_of, byte_of, load, word_of, with_word}
use Rattle.ia32_insn.specs.Items.{plain}
use Rattle.std.specs.Prelude.{Result}
use Rattle.std.proofs.lemmas.Int.{ints}
use Rattle.pcc_base.specs.Outcome.{End}
use Rattle.ia32_rows.specs.Placements.{below}
use Rattle.ia32_rows.specs.Sites.{Site, SoundAt, Framed, Anywhere}
use Rattle.ia32_rows.proofs.Frames.{with_result}
use Rattle.ia32_rows.proofs.Sound.{load-same, word-same}
use Rattle.ia32_rows.specs.Rows.{extend, read, target_of, write}
use Rattle.ia32_rows.specs.Effects.{Makes, Keeps, OutsideWord}
use Rattle.ia32_rows.specs.Contains.{Contains, HoldsWord, IsPlaceIn}
use Rattle.ia32_rows.specs.Laws.{Gives, IsWorking, Puts}
use Rattle.ia32_rows.specs.Unary.{ComplementPuts, ExtensionPuts, NegationPuts, ZeroExtensionPuts}
use Rattle.ia32_rows.proofs.Kept.{framed-kept, other-cells, result-keeps}
use Rattle.ia32_rows.proofs.Instructions.{below-loaded, result-makes}
use Rattle.ia32_rows.proofs.Moves.{extend-gives, read-gives, extended-fits as extended-small}
use Rattle.ia32_rows.proofs.Sums.{gives-behind, target-puts, target-works}

-- ---- on a register

-- an instruction that leaves a word in a register, with any flags
pub gives-flagged : (site : Site) (frame : ℕ) (i : Insn) (t : Reg32) (v : ℕ) (flags : Option Flags) (s : State)
    → Framed site frame s → IsWorking t → v < 2 ^ 32 → Makes site i s (with_result t v flags s)
    → (u : State) × Gives site frame (plain i ∷ []) t v s u
gives-flagged site frame i t v flags s framed works fits makes =
    let u : State = with_result t v flags s in
    let keeps : Keeps (OutsideWord t) Anywhere s u = result-keeps site t v flags s framed.sound in (
      u,
      record {
        leads = (u, makes, refl);
        value = word-same site.text site.low site.high t v s framed.sound fits;
        framed = framed-kept (OutsideWord t) Anywhere site frame s u framed keeps makes.sound
            (other-cells Esp t works.0) (other-cells Ebp t works.1);
        keeps = keeps;
      },
    )

-- NEG and NOT of a register
neg-makes : (site : Site) (t : Reg32) (s : State) → SoundAt site s
    → Makes site (insn.Neg (rm.Reg t)) s (with_result t (negation (word_of t s)) None s)
neg-makes site t s sound =
    record {
      straight = tt;
      does = λ address. refl;
      sound = result-makes site t (negation (word_of t s)) None s sound;
    }

not-makes : (site : Site) (t : Reg32) (s : State) → SoundAt site s
    → Makes site (insn.Not (rm.Reg t)) s (with_result t (complement (word_of t s)) s.flags s)
not-makes site t s sound =
    record {
      straight = tt;
      does = λ address. refl;
      sound = result-makes site t (complement (word_of t s)) s.flags s sound;
    }

-- ---- from a place to a place

-- a change of the register puts the result in its place
changed-puts : (site : Site) (frame : ℕ) (i : Insn) (f : ℕ → ℕ) (p q : Place) (x : ℕ) (s : State)
    → Framed site frame s → 16 ≤ frame → IsPlaceIn frame p → HoldsWord q → IsPlaceIn frame q → Contains s Two q x
    → x < 2 ^ 32
    → ((m : State) → Framed site frame m → word_of (target_of p) m ≡ x → (u : State)
    × Gives site frame (plain i ∷ []) (target_of p) (f x) m u)
    → (u : State) × Puts site frame (read (target_of p) q ++ plain i ∷ [] ++ write p (target_of p)) p (f x) s u
changed-puts site frame i f p q x s framed room to holds placed contains fits gives =
    let t : Reg32 = target_of p in
    let first = read-gives site frame t q x s framed (target-works frame p to) holds placed contains fits in
    let second = gives first.0 first.1.framed first.1.value in
    target-puts site frame (read t q ++ plain i ∷ []) p (f x) s room to
    (second.0, gives-behind site frame (read t q) (plain i ∷ []) t x (f x) s first.0 second.0 first.1 second.1)

pub negation-puts : NegationPuts
negation-puts site frame p q x s framed room to holds placed contains fits =
    changed-puts site frame (insn.Neg (rm.Reg (target_of p))) negation p q x s framed room to holds placed contains fits
    (λ m framed_m is. gives-flagged site frame (insn.Neg (rm.Reg (target_of p))) (target_of p) (negation x) None m
    framed_m (target-works frame p to) (omega arith)
    (subst (λ (v : ℕ). Makes site (insn.Neg (rm.Reg (target_of p))) m (with_result (target_of p) (negation v) None m))
    is
    (neg-makes site (target_of p) m framed_m.sound)))

pub complement-puts : ComplementPuts
complement-puts site frame p q x s framed room to holds placed contains fits =
    changed-puts site frame (insn.Not (rm.Reg (target_of p))) complement p q x s framed room to holds placed contains
    fits
    (λ m framed_m is. gives-flagged site frame (insn.Not (rm.Reg (target_of p))) (target_of p) (complement x) m.flags m
    framed_m (target-works frame p to) (omega arith)
    (subst (λ (v : ℕ).
    Makes site (insn.Not (rm.Reg (target_of p))) m (with_result (target_of p) (complement v) m.flags m)) is
    (not-makes site (target_of p) m framed_m.sound)))

-- ---- bytes

extend_slot-makes : (site : Site) (frame : ℕ) (r : Reg32) (k v : ℕ) (s : State) → Framed site frame s → 0 < k
    → k ≤ frame → load 1 (word_of Ebp s - k) s ≡ Ok v
    → Makes site (insn.MovSx8 r (rm8.Mem (below k))) s (with_result r (extended8 v) s.flags s)
extend_slot-makes site frame r k v s framed some within held =
    let loaded = below-loaded site frame k 1 v s framed some within held in
    record {
      straight = tt;
      does = λ address. ap (λ (x : Result ℕ End). and_then x
          (λ value. let q : Result State End = Ok (with_word r (extended8 value) (at_address address s)) in q))
          (load-same 1 (address_of (below k) s) v s (at_address address s) refl loaded);
      sound = result-makes site r (extended8 v) s.flags s framed.sound;
    }

extend-gives-any : (site : Site) (frame : ℕ) (t : Reg32) (q : Place) (b : ℕ) (s : State) → Framed site frame s
    → IsWorking t → IsPlaceIn frame q → Contains s One q b → b < 256
    → (u : State) × Gives site frame (extend insn.MovSx8 t q) t (extended8 b) s u
extend-gives-any site frame t (InWord r) b s framed works placed contains small = absurd contains
extend-gives-any site frame t (InByte r) b s framed works placed contains small =
    extend-gives site frame t r b s framed works contains small
extend-gives-any site frame t (InSlot k) b s framed works placed contains small =
    let low = placed.low in
    gives-flagged site frame (insn.MovSx8 t (rm8.Mem (below k))) t (extended8 b) s.flags s framed works
    (extended-small b small)
    (extend_slot-makes site frame t k b s framed (omega arith) placed.high contains)

pub extension-puts : ExtensionPuts
extension-puts site frame p q b s framed room to placed contains small =
    target-puts site frame (extend insn.MovSx8 (target_of p) q) p (extended8 b) s room to
    (extend-gives-any site frame (target_of p) q b s framed (target-works frame p to) placed contains small)

-- ---- bytes with zero bits above them

zero-makes : (site : Site) (r : Reg32) (q : Reg8) (s : State) → SoundAt site s
    → Makes site (insn.MovZx8 r (rm8.Reg q)) s (with_result r (byte_of q s) s.flags s)
zero-makes site r q s sound =
    record { straight = tt; does = λ address. refl; sound = result-makes site r (byte_of q s) s.flags s sound }

pub zero_slot-makes : (site : Site) (frame : ℕ) (r : Reg32) (k v : ℕ) (s : State) → Framed site frame s → 0 < k
    → k ≤ frame → load 1 (word_of Ebp s - k) s ≡ Ok v
    → Makes site (insn.MovZx8 r (rm8.Mem (below k))) s (with_result r v s.flags s)
zero_slot-makes site frame r k v s framed some within held =
    let loaded = below-loaded site frame k 1 v s framed some within held in
    record {
      straight = tt;
      does = λ address. ap (λ (x : Result ℕ End). and_then x
          (λ value. let q : Result State End = Ok (with_word r value (at_address address s)) in q))
          (load-same 1 (address_of (below k) s) v s (at_address address s) refl loaded);
      sound = result-makes site r v s.flags s framed.sound;
    }

zero-gives : (site : Site) (frame : ℕ) (t : Reg32) (q : Place) (b : ℕ) (s : State) → Framed site frame s
    → IsWorking t → IsPlaceIn frame q → Contains s One q b → b < 256
    → (u : State) × Gives site frame (extend insn.MovZx8 t q) t b s u
zero-gives site frame t (InWord r) b s framed works placed contains small = absurd contains
zero-gives site frame t (InByte r) b s framed works placed contains small =
    gives-flagged site frame (insn.MovZx8 t (rm8.Reg r)) t b s.flags s framed works (omega (arith, small))
    (subst (λ (v : ℕ). Makes site (insn.MovZx8 t (rm8.Reg r)) s (with_result t v s.flags s)) contains
    (zero-makes site t r s framed.sound))
zero-gives site frame t (InSlot k) b s framed works placed contains small =
    let low = placed.low in
    gives-flagged site frame (insn.MovZx8 t (rm8.Mem (below k))) t b s.flags s framed works (omega (arith, small))
    (zero_slot-makes site frame t k b s framed (omega arith) placed.high contains)

pub zero_extension-puts : ZeroExtensionPuts
zero_extension-puts site frame p q b s framed room to placed contains small =
    target-puts site frame (extend insn.MovZx8 (target_of p) q) p b s room to
    (zero-gives site frame (target_of p) q b s framed (target-works frame p to) placed contains small)

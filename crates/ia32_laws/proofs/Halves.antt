-- Rows of the low byte and the low 16 bits of a word.
use Rattle.std.proofs.Common.{◌≡◌, ◌≢◌, ℕ, ◌-◌, ◌%◌, ◌^◌, ◌<◌, ◌≤◌, [], ◌∷◌, Ok, refl, ap, ◌∙◌, arith}
use Rattle.std.specs.Prelude.{⊤, Result}
use Rattle.std.proofs.lemmas.Int.{ints}
use Rattle.std.proofs.lemmas.List.{get_or-set_same}
use Rattle.pcc_base.specs.Outcome.{End}
use Rattle.pcc_base.specs.declared.run.Width.TheVariants.{Two}
use Rattle.ia32_insn.specs.declared.register_names.Reg32.{Reg32}
use Rattle.ia32_insn.specs.declared.register_names.Reg32.TheVariants.{Ebp}
use Rattle.ia32_insn.specs.Places.{Place, InWord, InByte, InSlot}
use Rattle.ia32_insn.specs.declared.operand.Rm32.TheVariants as rm
use Rattle.ia32_insn.specs.declared.insn.Insn.TheVariants as insn
use Rattle.ia32_insn.specs.Registers.{byte_place}
use Rattle.ia32_insn.specs.State.{State, at_address}
use Rattle.ia32_insn.specs.Arithmetic.{extended16}
use Rattle.ia32_insn.specs.Meaning.{address_of, and_then, load, with_byte, with_word, word_of}
use Rattle.ia32_insn.specs.Items.{plain}
use Rattle.ia32_rows.specs.Placements.{below}
use Rattle.ia32_rows.specs.Sites.{Anywhere, Framed, Site, SoundAt}
use Rattle.ia32_rows.proofs.Frames.{with_result}
use Rattle.ia32_rows.proofs.Sound.{load-same, word-same}
use Rattle.ia32_rows.specs.Effects.{Keeps, Makes, OutsideWord}
use Rattle.ia32_rows.specs.Contains.{ApartFromPlace, Contains, HoldsWord, IsPlaceIn, Untouched}
use Rattle.ia32_rows.specs.Laws.{IsWorking}
use Rattle.ia32_rows.specs.Rows.{target_of}
use Rattle.ia32_rows.proofs.Kept.{byte-keeps, framed-kept, keeps-stricter, other-cells}
use Rattle.ia32_rows.proofs.Instructions.{below-loaded, load_byte-makes, result-makes}
use Rattle.ia32_rows.proofs.Lowest.{lowest-bytes}
use Rattle.ia32_rows.proofs.Moves.{byte-below, copy-puts, copy_byte-puts}
use Rattle.ia32_rows.specs.Rows.{extend_half, halving, low_byte}
use Rattle.ia32_laws.specs.CoresLaws.{HalfPuts, LowPuts}
use Rattle.ia32_laws.proofs.Goes.{Goes, low-byte-is, puts-plain, result-goes, target-within}
use Rattle.ia32_laws.proofs.Goes.{target-works, then-written}

-- ---- a byte

-- the low byte, taken once and again
again : (x : ℕ) → x % 256 % 256 ≡ x % 256
again x = omega arith

pub low-puts : LowPuts
low-puts site frame (InWord r) q x s framed room to holds placed contains fits =
    copy-puts site frame (InWord r) q x s framed tt to holds placed contains fits
low-puts site frame (InSlot k) q x s framed room to holds placed contains fits =
    copy-puts site frame (InSlot k) q x s framed tt to holds placed contains fits
low-puts site frame (InByte r) (InByte q) x s framed room to holds placed contains fits = absurd holds
low-puts site frame (InByte r) (InWord q) x s framed room to holds placed contains fits =
    let byte = low-byte-is q s framed.sound.registers placed ∙ ap (λ (k : ℕ). k % 256) contains in
    let put = copy_byte-puts site frame r (InByte (low_byte q)) (x % 256) s framed tt byte (omega arith) in (
      put.0,
      record {
        leads = put.1.leads;
        holds = put.1.holds ∙ again x;
        framed = put.1.framed;
        keeps = put.1.keeps;
      },
    )
low-puts site frame (InByte r) (InSlot k) x s framed room to holds placed contains fits =
    let low = placed.low in
    let byte = (lowest-bytes site frame k x s framed (omega arith) placed.high contains).0 in
    let u : State = with_byte r (x % 256) s in
    let small : x % 256 < 256 = omega arith in
    let makes = load_byte-makes site frame r k (x % 256) s framed (omega arith) placed.high byte small in
    let cells = framed.sound.registers.cells in
    let below = byte-below r in
    let keeps : Keeps (λ k. k ≢ byte_place r) Anywhere s u = byte-keeps r (x % 256) s in (
      u,
      record {
        leads = (u, makes, refl);
        holds = get_or-set_same s.registers (byte_place r) (x % 256) 0 (omega (arith, cells, below));
        framed = framed-kept (λ k. k ≢ byte_place r) Anywhere site frame s u framed keeps makes.sound
            (λ j small e. omega (arith, below, e, small)) (λ j small e. omega (arith, below, e, small));
        keeps = keeps-stricter (λ k. k ≢ byte_place r) (Untouched (InByte r)) Anywhere
            (ApartFromPlace (word_of Ebp s) (InByte r)) s u (λ k h. h.0) (λ j n l. tt) keeps;
      },
    )

-- ---- 16 bits

extended-small : (h : ℕ) → h < 2 ^ 16 → extended16 h < 2 ^ 32
extended-small h small = grind (arith, ints)

half-makes : (site : Site) (t r : Reg32) (s : State) → SoundAt site s
    → Makes site (insn.MovSx16 t (rm.Reg r)) s (with_result t (extended16 (word_of r s % 2 ^ 16)) s.flags s)
half-makes site t r s sound =
    record {
      straight = tt;
      does = λ address. refl;
      sound = result-makes site t (extended16 (word_of r s % 2 ^ 16)) s.flags s sound;
    }

-- of a register
half-of : (site : Site) (frame : ℕ) (t r : Reg32) (x : ℕ) (s : State) → Framed site frame s → IsWorking t
    → word_of r s ≡ x
    → (u : State) × Goes (OutsideWord t) site frame (plain (insn.MovSx16 t (rm.Reg r)) ∷ []) s u
    × (word_of t u ≡ extended16 (x % 2 ^ 16))
half-of site frame t r x s framed works is =
    let v : ℕ = extended16 (word_of r s % 2 ^ 16) in (
      with_result t v s.flags s,
      result-goes site frame (insn.MovSx16 t (rm.Reg r)) t v s.flags s framed works
          (half-makes site t r s framed.sound),
      word-same site.text site.low site.high t v s framed.sound (extended-small (word_of r s % 2 ^ 16) (omega arith))
          ∙ ap (λ (k : ℕ). extended16 (k % 2 ^ 16)) is,
    )

-- of a slot
half_slot-makes : (site : Site) (frame : ℕ) (t : Reg32) (k h : ℕ) (s : State) → Framed site frame s → 0 < k
    → k ≤ frame → load 2 (word_of Ebp s - k) s ≡ Ok h
    → Makes site (insn.MovSx16 t (rm.Mem (below k))) s (with_result t (extended16 h) s.flags s)
half_slot-makes site frame t k h s framed some within held =
    let loaded = below-loaded site frame k 2 h s framed some within held in
    record {
      straight = tt;
      does = λ address. ap (λ (x : Result ℕ End). and_then x
          (λ value. let q : Result State End = Ok (with_word t (extended16 value) (at_address address s)) in q))
          (load-same 2 (address_of (below k) s) h s (at_address address s) refl loaded);
      sound = result-makes site t (extended16 h) s.flags s framed.sound;
    }

half-goes : (site : Site) (frame : ℕ) (t : Reg32) (q : Place) (x : ℕ) (s : State) → Framed site frame s → IsWorking t
    → HoldsWord q → IsPlaceIn frame q → Contains s Two q x → x < 2 ^ 32
    → (u : State) × Goes (OutsideWord t) site frame (extend_half t q) s u × (word_of t u ≡ extended16 (x % 2 ^ 16))
half-goes site frame t (InWord r) x s framed works holds placed contains fits =
    half-of site frame t r x s framed works contains
half-goes site frame t (InByte r) x s framed works holds placed contains fits = absurd holds
half-goes site frame t (InSlot k) x s framed works holds placed contains fits =
    let low = placed.low in
    let half = (lowest-bytes site frame k x s framed (omega arith) placed.high contains).1 in
    let v : ℕ = extended16 (x % 2 ^ 16) in (
      with_result t v s.flags s,
      result-goes site frame (insn.MovSx16 t (rm.Mem (below k))) t v s.flags s framed works
          (half_slot-makes site frame t k (x % 2 ^ 16) s framed (omega arith) placed.high half),
      word-same site.text site.low site.high t v s framed.sound (extended-small (x % 2 ^ 16) (omega arith)),
    )

pub half-puts : HalfPuts
half-puts site frame p q x s framed room to holds placed contains fits =
    let t : Reg32 = target_of p in
    let works = target-works frame p to in
    let first = half-goes site frame t q x s framed works holds placed contains fits in
    let last = then-written (OutsideWord t) (λ c. ⊤) site frame (extend_half t q) p t (extended16 (x % 2 ^ 16)) s
    first.0
    first.1 (other-cells Ebp t works.1) (λ c h g. target-within p c h) room to first.2 in
    (last.0, puts-plain site frame (halving p q) p (extended16 (x % 2 ^ 16)) s last.0 last.1)

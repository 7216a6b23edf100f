-- What the checks before an access do to the machine: they end the run with the trap, or lead to what follows them,
-- with the array's word and the index in their registers.
use Rattle.std.proofs.Common.{◌≡◌, ℕ, ◌+◌, ◌-◌, ◌%◌, ◌^◌, ◌<◌, ◌≤◌, Bool, true, false, List, [], ◌∷◌, ◌++◌}
use Rattle.std.proofs.Common.{Option, Some, Ok, refl, sym, ap, subst, ◌∙◌, arith, append_assoc, eq-eqb}
use Rattle.std.specs.Prelude.{◌==◌, Result, not, if◌then◌else◌}
use Rattle.std.specs.Int.Bits.{and_self, bit_and}
use Rattle.std.proofs.lemmas.Bool.Decides.{nat_tests}
use Rattle.pcc_base.specs.Outcome.{End}
use Rattle.pcc_base.specs.declared.run.Width.TheVariants.{Two}
use Rattle.ia32_insn.specs.declared.register_names.Reg32.{Reg32}
use Rattle.ia32_insn.specs.declared.register_names.Reg32.TheVariants.{Ebp, Esi, Edi}
use Rattle.ia32_insn.specs.Registers.{number32}
use Rattle.ia32_insn.specs.Places.{Place, InWord, InByte, InSlot}
use Rattle.ia32_insn.specs.declared.operand.Rm32.TheVariants as rm
use Rattle.ia32_insn.specs.declared.flags.Flags.{Flags}
use Rattle.ia32_insn.specs.declared.insn.AluOp.TheVariants as alu
use Rattle.ia32_insn.specs.declared.insn.Cond.{Cond}
use Rattle.ia32_insn.specs.declared.insn.Cond.TheVariants as cond
use Rattle.ia32_insn.specs.declared.insn.Insn.{Insn}
use Rattle.ia32_insn.specs.declared.insn.Insn.TheVariants as insn
use Rattle.ia32_insn.specs.declared.item.Item.{Item}
use Rattle.ia32_insn.specs.declared.item.Item.TheVariants as item
use Rattle.ia32_insn.specs.State.{State, at_address}
use Rattle.ia32_insn.specs.Arithmetic.{alu_carry, alu_flags, holds}
use Rattle.ia32_insn.specs.Meaning.{address_of, and_then, load, operate, with_flags, word_of}
use Rattle.ia32_insn.specs.Items.{check_items, plain}
use Rattle.ia32_rows.specs.Paths.{Comes}
use Rattle.ia32_rows.specs.Sites.{Anywhere, Framed, ReadyAt, Site, SoundAt, StandsFrom}
use Rattle.ia32_rows.proofs.Sound.{load-same, sound-at, sound-with_flags, word-below}
use Rattle.ia32_rows.proofs.Steps.{comes-then}
use Rattle.ia32_rows.specs.Rows.{check_array, check_index, checking, count_before, index_register, read, target_of}
use Rattle.ia32_rows.specs.Effects.{Keeps, Leads, Makes, OutsideWord}
use Rattle.ia32_rows.specs.Contains.{Contains, HoldsWord, IsPlaceIn}
use Rattle.ia32_rows.proofs.Kept.{contains-kept, keeps-same, keeps-then, other-cells, word-kept}
use Rattle.ia32_rows.proofs.Moves.{read-gives}
use Rattle.ia32_rows.proofs.Straight.{straight-goes}
use Rattle.ia32_laws.proofs.Goes.{Goes, goes-of, goes-stricter, goes-then}
use Rattle.ia32_laws.proofs.Traps.{check-passes, check-traps}
use Rattle.ia32_laws.specs.AccessesLaws.{FailsAccess, OutsideScratch}
use Rattle.ia32_laws.proofs.Elements.{all-memory, ebp-outside, scratch-outside}
use Rattle.ia32_laws.proofs.Loading.{loaded-at}
use Rattle.ia32_laws.proofs.Storing.{edi-works, target-general, target-read, alone}

-- ---- on the way

-- The machine came to items at an address; of registers ESI and EDI alone changed, and no memory.
pub record Came (site : Site) (frame : ℕ) (items : List Item) (s m : State) (address : ℕ) : Type 0 where
  pub comes : Comes site.text s (at_address address m)
  pub ready : ReadyAt site items (at_address address m)
  pub framed : Framed site frame m
  pub keeps : Keeps OutsideScratch Anywhere s m

came-straight : (site : Site) (frame : ℕ) (xs ys : List Item) (s m u : State) (a : ℕ) → Came site frame (xs ++ ys) s m a
    → Goes OutsideScratch site frame xs m u → (b : ℕ) × Came site frame ys s u b
came-straight site frame xs ys s m u a c g =
    let went = straight-goes site xs ys m u a c.framed.sound c.ready g.leads in (
      went.0,
      record {
        comes = comes-then site.text s (at_address a m) (at_address went.0 u) c.comes went.1;
        ready = went.2;
        framed = g.framed;
        keeps = keeps-then OutsideScratch Anywhere s m u c.keeps g.keeps;
      },
    )

came-passes : (site : Site) (frame : ℕ) (how : Cond) (ys : List Item) (s m : State) (a : ℕ)
    → Came site frame (item.JumpTrap (Some how) ∷ ys) s m a → holds how m.flags ≡ Some false
    → (b : ℕ) × Came site frame ys s m b
came-passes site frame how ys s m a c e =
    let last = check-passes site how ys (at_address a m) (sound-at site.text site.low site.high a m c.framed.sound)
    c.ready e in (
      last.0,
      record {
        comes = comes-then site.text s (at_address a m) (at_address last.0 m) c.comes last.1;
        ready = last.2;
        framed = c.framed;
        keeps = c.keeps;
      },
    )

came-traps : (site : Site) (frame : ℕ) (how : Cond) (ys : List Item) (s m : State) (a : ℕ)
    → StandsFrom site check_items site.symbols.check → Came site frame (item.JumpTrap (Some how) ∷ ys) s m a
    → holds how m.flags ≡ Some true → (u : State) × FailsAccess site s u
came-traps site frame how ys s m a stands c e =
    let last = check-traps site how ys (at_address a m) (sound-at site.text site.low site.high a m c.framed.sound)
    stands
    c.ready e in (
      at_address last.0 m,
      record {
        comes = comes-then site.text s (at_address a m) (at_address last.0 m) c.comes last.1;
        clear = last.2;
        halts = last.3;
        taken = c.keeps.taken;
        written = c.keeps.written;
      },
    )

-- ---- flags

-- an instruction that changes flags alone
flags-goes : (R : ℕ → Type 0) (site : Site) (frame : ℕ) (i : Insn) (flags : Option Flags) (s : State)
    → Framed site frame s → Makes site i s (with_flags flags s)
    → Goes R site frame (plain i ∷ []) s (with_flags flags s)
flags-goes R site frame i flags s framed makes =
    let u : State = with_flags flags s in
    record {
      leads = (u, makes, refl);
      framed = record { sound = makes.sound; esp = framed.esp; room = framed.room; top = framed.top };
      keeps = record {
        cells = λ k r. refl;
        loads = λ n a w k e. load-same n a w s u refl e;
        left = refl;
        taken = refl;
        written = refl;
      };
    }

test-makes : (site : Site) (t : Reg32) (w : ℕ) (s : State) → SoundAt site s → word_of t s ≡ w
    → Makes site (insn.Test (rm.Reg t) t) s (with_flags (Some (alu_flags alu.And w w)) s)
test-makes site t w s sound is =
    subst (λ (v : ℕ). Makes site (insn.Test (rm.Reg t) t) s (with_flags (Some (alu_flags alu.And v v)) s)) is
    (record {
      straight = tt;
      does = λ address. refl;
      sound = sound-with_flags site.text site.low site.high
          (Some (alu_flags alu.And (word_of t s) (word_of t s))) s sound;
    })

-- the four bytes before an address
count-address : (w : ℕ) → 4 ≤ w → w < 0x1_0000_0000 → (w + 0 + 0xfffffffc) % 0x1_0000_0000 ≡ w - 4
count-address w h k = omega (arith, h, k)

compare-makes : (site : Site) (t r : Reg32) (w i n : ℕ) (s : State) → SoundAt site s → word_of t s ≡ w
    → word_of r s ≡ i → 4 ≤ w → load 4 (w - 4) s ≡ Ok n
    → Makes site (insn.AluLoad alu.Cmp r (count_before t)) s (with_flags (Some (alu_flags alu.Cmp i n)) s)
compare-makes site t r w i n s sound base index front held =
    let below = word-below site.text site.low site.high t s sound in
    let at : address_of (count_before t) s ≡ w - 4 =
    ap (λ (b : ℕ). (b + 0 + 0xfffffffc) % 0x1_0000_0000) base ∙ count-address w front (omega (arith, base, below)) in
    let loaded : load 4 (address_of (count_before t) s) s ≡ Ok n = ap (λ (a : ℕ). load 4 a s) at ∙ held in
    subst (λ (v : ℕ). Makes site (insn.AluLoad alu.Cmp r (count_before t)) s
    (with_flags (Some (alu_flags alu.Cmp v n)) s))
    index
    (record {
      straight = tt;
      does = λ address. ap (λ (x : Result ℕ End). and_then x
          (λ value. operate alu.Cmp (rm.Reg r) value (at_address address s)))
          (loaded-at 4 (count_before t) n address s loaded);
      sound = sound-with_flags site.text site.low site.high (Some (alu_flags alu.Cmp (word_of r s) n)) s sound;
    })

-- ---- the array's word

-- the flags of TEST of the array's word, which is in its register
record Tested (site : Site) (frame : ℕ) (p : Place) (w : ℕ) (ys : List Item) (s u : State) (b : ℕ) : Type 0 where
  came : Came site frame (item.JumpTrap (Some cond.E) ∷ ys) s u b
  base : word_of (target_of p) u ≡ w
  flags : u.flags ≡ Some (alu_flags alu.And w w)

tested : (site : Site) (frame : ℕ) (p : Place) (w : ℕ) (ys : List Item) (s : State) (a : ℕ) → HoldsWord p
    → IsPlaceIn frame p → Contains s Two p w → w < 2 ^ 32 → Came site frame (check_array p ++ ys) s s a
    → (u : State) × (b : ℕ) × Tested site frame p w ys s u b
tested site frame p w ys s a holds placed contains fits came =
    let t : Reg32 = target_of p in
    let one : List Item = plain (insn.Test (rm.Reg t) t) ∷ [] in
    let back : List Item = item.JumpTrap (Some cond.E) ∷ ys in
    let first = target-read site frame p w s came.framed holds placed contains fits in
    let m : State = first.0 in
    let makes = test-makes site t w m first.1.goes.framed.sound first.1.value in
    let u : State = with_flags (Some (alu_flags alu.And w w)) m in
    let both : Goes OutsideScratch site frame (read t p ++ one) s u =
    goes-then OutsideScratch site frame (read t p) one s m u
    (goes-stricter (OutsideWord Esi) OutsideScratch site frame (read t p) s m (λ k h. h.0) first.1.goes)
    (flags-goes OutsideScratch site frame (insn.Test (rm.Reg t) t) (Some (alu_flags alu.And w w)) m
    first.1.goes.framed makes) in
    let same : check_array p ++ ys ≡ (read t p ++ one) ++ back =
    append_assoc (read t p) (plain (insn.Test (rm.Reg t) t) ∷ item.JumpTrap (Some cond.E) ∷ []) ys
    ∙ sym (append_assoc (read t p) one back) in
    let there : Came site frame ((read t p ++ one) ++ back) s s a =
    subst (λ (is : List Item). Came site frame is s s a) same came in
    let last = came-straight site frame (read t p ++ one) back s s u a there both in
    (u, last.0, record { came = last.1; base = first.1.value; flags = refl })

-- ---- the index

-- the index to its register, unless it stands there
record IndexRead (site : Site) (frame : ℕ) (q : Place) (x : ℕ) (s u : State) : Type 0 where
  goes : Goes (OutsideWord Edi) site frame (read (index_register q) q) s u
  value : word_of (index_register q) u ≡ x

index-read : (site : Site) (frame : ℕ) (q : Place) (x : ℕ) (s : State) → Framed site frame s → HoldsWord q
    → IsPlaceIn frame q → Contains s Two q x → x < 2 ^ 32 → (u : State) × IndexRead site frame q x s u
index-read site frame (InWord r) x s framed holds placed contains fits = (
  s,
  record {
    goes = record {
      leads = subst (λ (b : Bool). Leads site (if b then [] else plain (insn.Mov (rm.Reg r) r) ∷ []) s s)
          (sym (alone r)) refl;
      framed = framed;
      keeps = keeps-same (OutsideWord Edi) Anywhere s;
    };
    value = contains;
  },
)
index-read site frame (InByte r) x s framed holds placed contains fits = absurd holds
index-read site frame (InSlot k) x s framed holds placed contains fits =
    let g = read-gives site frame Edi (InSlot k) x s framed edi-works holds placed contains fits in
    (g.0, record { goes = goes-of site frame (read Edi (InSlot k)) Edi x s g.0 g.1; value = g.1.value })

-- the flags of CMP of the index with the number of elements; both words are in their registers
record Indexed (site : Site) (frame : ℕ) (p q : Place) (w i n : ℕ) (ys : List Item) (s u : State) (b : ℕ) : Type 0 where
  came : Came site frame (item.JumpTrap (Some cond.Ae) ∷ ys) s u b
  base : word_of (target_of p) u ≡ w
  index : word_of (index_register q) u ≡ i
  flags : u.flags ≡ Some (alu_flags alu.Cmp i n)

indexed : (site : Site) (frame : ℕ) (p q : Place) (w i n : ℕ) (ys : List Item) (s m : State) (a : ℕ) → HoldsWord p
    → IsPlaceIn frame p → word_of (target_of p) m ≡ w → 4 ≤ w → load 4 (w - 4) m ≡ Ok n → HoldsWord q
    → IsPlaceIn frame q → Contains m Two q i → i < 2 ^ 32 → Came site frame (check_index p q ++ ys) s m a
    → (u : State) × (b : ℕ) × Indexed site frame p q w i n ys s u b
indexed site frame p q w i n ys s m a p_holds p_placed base front held holds placed contains fits came =
    let t : Reg32 = target_of p in
    let r : Reg32 = index_register q in
    let one : List Item = plain (insn.AluLoad alu.Cmp r (count_before t)) ∷ [] in
    let back : List Item = item.JumpTrap (Some cond.Ae) ∷ ys in
    let first = index-read site frame q i m came.framed holds placed contains fits in
    let v : State = first.0 in
    let base_v : word_of t v ≡ w =
    word-kept (OutsideWord Edi) Anywhere t m v first.1.goes.keeps
    (other-cells t Edi (target-general frame p p_holds p_placed)) ∙ base in
    let makes = compare-makes site t r w i n v first.1.goes.framed.sound base_v first.1.value front
    (first.1.goes.keeps.loads 4 (w - 4) n tt held) in
    let flags = Some (alu_flags alu.Cmp i n) in
    let u : State = with_flags flags v in
    let both : Goes OutsideScratch site frame (read r q ++ one) m u =
    goes-then OutsideScratch site frame (read r q) one m v u
    (goes-stricter (OutsideWord Edi) OutsideScratch site frame (read r q) m v (λ k h. h.1) first.1.goes)
    (flags-goes OutsideScratch site frame (insn.AluLoad alu.Cmp r (count_before t)) flags v first.1.goes.framed makes)
    in
    let same : check_index p q ++ ys ≡ (read r q ++ one) ++ back =
    append_assoc (read r q) (plain (insn.AluLoad alu.Cmp r (count_before t)) ∷ item.JumpTrap (Some cond.Ae) ∷ []) ys
    ∙ sym (append_assoc (read r q) one back) in
    let there : Came site frame ((read r q ++ one) ++ back) s m a =
    subst (λ (is : List Item). Came site frame is s m a) same came in
    let last = came-straight site frame (read r q ++ one) back s m u a there both in
    (u, last.0, record { came = last.1; base = base_v; index = first.1.value; flags = refl })

-- ---- what the flags say

test-null : (w : ℕ) → w ≡ 0 → (w == 0) ≡ true
test-null w e = grind (arith, nat_tests)

test-some : (w : ℕ) → 4 ≤ w → (w == 0) ≡ false
test-some w e = grind (arith, nat_tests)

zero-flag : (w : ℕ) → (bit_and w w == 0) ≡ (w == 0)
zero-flag w = ap (λ (v : ℕ). v == 0) (and_self w)

index-below : (i n : ℕ) → i < n → not (alu_carry alu.Cmp i n) ≡ false
index-below i n h = grind (arith, nat_tests)

index-past : (i n : ℕ) → n ≤ i → not (alu_carry alu.Cmp i n) ≡ true
index-past i n h = grind (arith, nat_tests)

-- ---- both checks

module _ (site : Site) (frame : ℕ) (p q : Place) (w i n : ℕ) (ys : List Item) (s : State) (a : ℕ)
    (p_holds : HoldsWord p)
    (p_placed : IsPlaceIn frame p) (p_contains : Contains s Two p w) (w_fits : w < 2 ^ 32) (holds_q : HoldsWord q)
    (placed : IsPlaceIn frame q) (contains : Contains s Two q i) (fits : i < 2 ^ 32)
    (came : Came site frame (checking p q ++ ys) s s a)
  where
    parted : Came site frame (check_array p ++ (check_index p q ++ ys)) s s a
    parted = subst (λ (is : List Item). Came site frame is s s a)
        (append_assoc (check_array p) (check_index p q) ys) came

    first : (u : State) × (b : ℕ) × Tested site frame p w (check_index p q ++ ys) s u b
    first = tested site frame p w (check_index p q ++ ys) s a p_holds p_placed p_contains w_fits parted

    -- where there is no array
    pub null-fails : w ≡ 0 → StandsFrom site check_items site.symbols.check → (u : State) × FailsAccess site s u
    null-fails none stands =
        came-traps site frame cond.E (check_index p q ++ ys) s first.0 first.1 stands first.2.came
        (ap (holds cond.E) first.2.flags ∙ ap (λ (b : Bool). Some b) (zero-flag w ∙ test-null w none))

    -- where there is one
    second : 4 ≤ w → load 4 (w - 4) s ≡ Ok n → (u : State) × (b : ℕ) × Indexed site frame p q w i n ys s u b
    second front held =
        let m : State = first.0 in
        let past = came-passes site frame cond.E (check_index p q ++ ys) s m first.1 first.2.came
        (ap (holds cond.E) first.2.flags ∙ ap (λ (b : Bool). Some b) (zero-flag w ∙ test-some w front)) in
        indexed site frame p q w i n ys s m past.0 p_holds p_placed first.2.base front
        (past.1.keeps.loads 4 (w - 4) n tt held) holds_q placed
        (contains-kept OutsideScratch Anywhere s m Two q i past.1.keeps ebp-outside (scratch-outside frame q placed)
        (all-memory (word_of Ebp s) q) contains) fits past.1

    -- an index past its elements
    pub past-fails : 4 ≤ w → load 4 (w - 4) s ≡ Ok n → n ≤ i → StandsFrom site check_items site.symbols.check
        → (u : State) × FailsAccess site s u
    past-fails front held over stands =
        let there = second front held in
        came-traps site frame cond.Ae ys s there.0 there.1 stands there.2.came
        (ap (holds cond.Ae) there.2.flags ∙ ap (λ (b : Bool). Some b) (index-past i n over))

    -- and one that is not
    pub checks-pass : 4 ≤ w → load 4 (w - 4) s ≡ Ok n → i < n
        → (u : State) × (b : ℕ) × Came site frame ys s u b × (word_of (target_of p) u ≡ w)
        × (word_of (index_register q) u ≡ i)
    checks-pass front held within =
        let there = second front held in
        let last = came-passes site frame cond.Ae ys s there.0 there.1 there.2.came
        (ap (holds cond.Ae) there.2.flags ∙ ap (λ (b : Bool). Some b) (index-below i n within)) in
        (there.0, last.0, last.1, there.2.base, there.2.index)

-- Rows of shifts.
use Rattle.std.proofs.Common.{◌≡◌, ◌≢◌, ◌⊎◌, ℕ, ◌+◌, ◌-◌, ◌*◌, ◌%◌, ◌^◌, ◌<◌, ◌≤◌, Bool, true, false, List, []}
use Rattle.std.proofs.Common.{◌∷◌, ◌++◌}
use Rattle.std.proofs.Common.{None, refl, sym, ap, subst, ◌∙◌, inl, inr, arith}
use Rattle.std.specs.Prelude.{◌==◌, ◌&&◌, not, ⊤, nat_lt, slice_index, if◌then◌else◌}
use Rattle.std.proofs.lemmas.List.{get_or-set_same}
use Rattle.pcc_base.specs.declared.run.Width.TheVariants.{One, Two}
use Rattle.ia32_insn.specs.declared.register_names.Reg32.{Reg32}
use Rattle.ia32_insn.specs.declared.register_names.Reg32.TheVariants.{Ecx, Ebp, Esi}
use Rattle.ia32_insn.specs.declared.register_names.Reg8.{Reg8}
use Rattle.ia32_insn.specs.declared.register_names.Reg8.TheVariants.{Al, Cl, Dl, Bl, Ah, Ch, Dh, Bh}
use Rattle.ia32_insn.specs.Registers.{number8, number32, byte_place}
use Rattle.ia32_insn.specs.Places.{Place, InWord, InByte, InSlot}
use Rattle.ia32_insn.specs.declared.operand.Rm32.TheVariants as rm
use Rattle.ia32_insn.specs.declared.operand.Rm8.TheVariants as rm8
use Rattle.ia32_insn.specs.declared.insn.Insn.{Insn}
use Rattle.ia32_insn.specs.declared.insn.Insn.TheVariants as insn
use Rattle.ia32_insn.specs.declared.insn.ShiftOp.{ShiftOp}
use Rattle.ia32_insn.specs.declared.item.Item.{Item}
use Rattle.ia32_insn.specs.State.{State}
use Rattle.ia32_insn.specs.Arithmetic.{shift_value}
use Rattle.ia32_insn.specs.Meaning.{byte_of, with_byte, word_of}
use Rattle.ia32_insn.specs.Items.{plain}
use Rattle.ia32_rows.specs.Placements.{below}
use Rattle.ia32_rows.specs.Sites.{Anywhere, Framed, Site}
use Rattle.ia32_rows.proofs.Frames.{with_result}
use Rattle.ia32_rows.proofs.Sound.{word-same}
use Rattle.ia32_rows.specs.Rows.{is_in, read, write}
use Rattle.ia32_rows.specs.Effects.{Keeps, Leads, Makes, OutsideWord}
use Rattle.ia32_rows.specs.Contains.{Contains, HoldsWord, IsPlaceIn, Untouched}
use Rattle.ia32_rows.specs.Laws.{Gives, IsWorking}
use Rattle.ia32_rows.proofs.Kept.{HasCells, byte-keeps, contains-kept, framed-kept, keeps-same, other-cells}
use Rattle.ia32_rows.proofs.Kept.{word-kept}
use Rattle.ia32_rows.proofs.Instructions.{byte-makes, load_byte-makes, result-makes}
use Rattle.ia32_rows.proofs.Moves.{alike, byte-below, general-works, read-gives, unlike}
use Rattle.ia32_rows.proofs.Sums.{esi-works, nothing-read}
use Rattle.ia32_rows.specs.Rows.{into_count}
use Rattle.ia32_laws.specs.CoresLaws.{SparedByShift}
use Rattle.ia32_laws.specs.CoresLaws.{PutsBeside, ShiftPuts}
use Rattle.ia32_laws.proofs.Goes.{Goes, byte-outside, goes-of, goes-stricter, goes-then, result-goes, then-written}

-- ---- the count

-- a byte of a register of one number is the same byte
same-byte : (r q : Reg8) → number8 r ≡ number8 q → byte_place r ≡ byte_place q
same-byte r q e = counted (byte_place r) (byte_place q) (number8 r) (number8 q) (placed r) (placed q) e
  where
    place : ℕ → ℕ
    place n = if nat_lt n 4 then 4 * n else 4 * (n - 4) + 1

    placed : (b : Reg8) → byte_place b ≡ place (number8 b)
    placed Al = refl
    placed Cl = refl
    placed Dl = refl
    placed Bl = refl
    placed Ah = refl
    placed Ch = refl
    placed Dh = refl
    placed Bh = refl

    counted : (b c m n : ℕ) → b ≡ place m → c ≡ place n → m ≡ n → b ≡ c
    counted b c m n f g h = f ∙ ap place h ∙ sym g

-- one instruction that gives CL a byte
count-one : (site : Site) (frame : ℕ) (i : Insn) (b : ℕ) (s : State) → Framed site frame s → b < 256
    → Makes site i s (with_byte Cl b s)
    → (u : State) × Goes SparedByShift site frame (plain i ∷ []) s u × (byte_of Cl u ≡ b)
count-one site frame i b s framed small makes =
    let u : State = with_byte Cl b s in
    let cells = framed.sound.registers.cells in
    let keeps : Keeps SparedByShift Anywhere s u = byte-keeps Cl b s in (
      u,
      record {
        leads = (u, makes, refl);
        framed = framed-kept SparedByShift Anywhere site frame s u framed keeps makes.sound
            (λ m below e. omega (arith, e)) (λ m below e. omega (arith, e));
        keeps = keeps;
      },
      get_or-set_same s.registers 4 b 0 (omega (arith, cells)),
    )

-- the count comes to CL
count-goes : (site : Site) (frame : ℕ) (c : Place) (b : ℕ) (s : State) → Framed site frame s → IsPlaceIn frame c
    → Contains s One c b → b < 256
    → (u : State) × Goes SparedByShift site frame (into_count c) s u × (byte_of Cl u ≡ b)
count-goes site frame (InWord r) b s framed placed contains small = absurd contains
count-goes site frame (InByte r) b s framed placed contains small = chosen (number8 r == number8 Cl) refl
  where
    chosen : (t : Bool) → (number8 r == number8 Cl) ≡ t
        → (u : State) × Goes SparedByShift site frame (if t then [] else plain (insn.Mov8 (rm8.Reg Cl) r) ∷ []) s u
        × (byte_of Cl u ≡ b)
    chosen true e = (
      s,
      record { leads = refl; framed = framed; keeps = keeps-same SparedByShift Anywhere s },
      ap (λ (k : ℕ). slice_index s.registers k) (sym (same-byte r Cl (alike (number8 r) (number8 Cl) e))) ∙ contains,
    )
    chosen false e =
        count-one site frame (insn.Mov8 (rm8.Reg Cl) r) b s framed small
        (subst (λ (v : ℕ). Makes site (insn.Mov8 (rm8.Reg Cl) r) s (with_byte Cl v s)) contains
        (byte-makes site Cl r s framed.sound))
count-goes site frame (InSlot k) b s framed placed contains small =
    let low = placed.low in
    count-one site frame (insn.Mov8Load Cl (below k)) b s framed small
    (load_byte-makes site frame Cl k b s framed (omega arith) placed.high contains small)

-- ---- the shift

shift-makes : (site : Site) (frame : ℕ) (how : ShiftOp) (t : Reg32) (s : State) → Framed site frame s
    → Makes site (insn.ShiftCl how (rm.Reg t)) s (with_result t (shift_value how (word_of t s) (byte_of Cl s)) None s)
shift-makes site frame how t s framed =
    record {
      straight = tt;
      does = λ address. refl;
      sound = result-makes site t (shift_value how (word_of t s) (byte_of Cl s)) None s framed.sound;
    }

-- the count stands outside the register, or the first operand is in it already
abbrev IsOutsideByte : Reg32 → Place → Type 0
IsOutsideByte t (InWord r) = ⊥
IsOutsideByte t (InByte r) = OutsideWord t (byte_place r)
IsOutsideByte t (InSlot k) = ⊤

abbrev IsSafe : Reg32 → Place → Place → Type 0
IsSafe t first count = IsOutsideByte t count ⊎ (read t first ≡ [])

count-there : (site : Site) (frame : ℕ) (t : Reg32) (q c : Place) (x b : ℕ) (s m : State) → IsWorking t
    → IsSafe t q c → Gives site frame (read t q) t x s m → Contains s One c b → Contains m One c b
count-there site frame t q (InWord r) x b s m works safe gives contains = absurd contains
count-there site frame t q (InByte r) x b s m works (inl outside) gives contains =
    contains-kept (OutsideWord t) Anywhere s m One (InByte r) b gives.keeps (other-cells Ebp t works.1) outside tt
    contains
count-there site frame t q (InSlot k) x b s m works (inl outside) gives contains =
    contains-kept (OutsideWord t) Anywhere s m One (InSlot k) b gives.keeps (other-cells Ebp t works.1) tt (tt, tt)
    contains
count-there site frame t q c x b s m works (inr nothing) gives contains =
    let same : s ≡ m = subst (λ (items : List Item). Leads site items s m) nothing gives.leads in
    subst (λ (u : State). Contains u One c b) same contains

-- the cells of a register other than ECX are not CL
other-than-count : (t : Reg32) → number32 t ≢ 1 → HasCells SparedByShift t
other-than-count t other m below e = apart (number32 t) m other below e
  where
    apart : (n m : ℕ) → n ≢ 1 → m < 4 → 4 * n + m ≡ 4 → ⊥
    apart n m other below e = other (omega (arith, e))

-- the shift in a register that may be changed, other than ECX
shift-in : (site : Site) (frame : ℕ) (how : ShiftOp) (t : Reg32) (p q c : Place) (x b : ℕ) (s : State)
    → Framed site frame s → 16 ≤ frame → IsWorking t → number32 t ≢ 1
    → ((k : ℕ) → Untouched p k → OutsideWord t k) → IsSafe t q c → IsPlaceIn frame p → HoldsWord q → IsPlaceIn frame q
    → IsPlaceIn frame c → Contains s Two q x → Contains s One c b → x < 2 ^ 32 → b < 256
    → shift_value how x b < 2 ^ 32
    → (u : State) × PutsBeside SparedByShift site frame
    (read t q ++ (into_count c ++ plain (insn.ShiftCl how (rm.Reg t)) ∷ []) ++ write p t) p (shift_value how x b) s u
shift-in site frame how t p q c x b s framed room works other within safe to a a_placed c_placed one two fits small
    all =
    let R : ℕ → Type 0 = λ k. OutsideWord t k × SparedByShift k in
    let i : Insn = insn.ShiftCl how (rm.Reg t) in
    let first = read-gives site frame t q x s framed works a a_placed one fits in
    let m : State = first.0 in
    let there = count-there site frame t q c x b s m works safe first.1 two in
    let second = count-goes site frame c b m first.1.framed c_placed there small in
    let n : State = second.0 in
    let is : word_of t n ≡ x = word-kept SparedByShift Anywhere t m n second.1.keeps (other-than-count t other)
    ∙ first.1.value in
    let v : ℕ = shift_value how (word_of t n) (byte_of Cl n) in
    let same : v ≡ shift_value how x b = ap (λ (k : ℕ). shift_value how k (byte_of Cl n)) is
    ∙ ap (shift_value how x) second.2 in
    let third = result-goes site frame i t v None n second.1.framed works
    (shift-makes site frame how t n second.1.framed)
    in
    let u : State = with_result t v None n in
    let value : word_of t u ≡ shift_value how x b = word-same site.text site.low site.high t v n
    second.1.framed.sound (subst (λ (k : ℕ). k < 2 ^ 32) (sym same) all) ∙ same in
    let goes : Goes R site frame (read t q ++ (into_count c ++ plain i ∷ [])) s u =
    goes-then R site frame (read t q) (into_count c ++ plain i ∷ []) s m u
    (goes-stricter (OutsideWord t) R site frame (read t q) s m (λ k h. h.0)
    (goes-of site frame (read t q) t x s m first.1))
    (goes-then R site frame (into_count c) (plain i ∷ []) m n u
    (goes-stricter SparedByShift R site frame (into_count c) m n (λ k h. h.1) second.1)
    (goes-stricter (OutsideWord t) R site frame (plain i ∷ []) n u (λ k h. h.0) third)) in
    then-written R SparedByShift site frame (read t q ++ (into_count c ++ plain i ∷ [])) p t (shift_value how x b) s u
    goes (λ k below. (other-cells Ebp t works.1 k below, (λ e. omega (arith, e)))) (λ k h g. (within k h, g)) room to
    value

-- a byte is outside a register that it isn't in, and outside ESI
byte-not-in : (frame : ℕ) (t : Reg32) (c : Place) (s : State) (b : ℕ) → Contains s One c b → is_in t c ≡ false
    → IsOutsideByte t c
byte-not-in frame t (InWord r) s b contains e = absurd contains
byte-not-in frame t (InByte r) s b contains e = byte-outside t r (unlike (number8 r % 4) (number32 t) e)
byte-not-in frame t (InSlot k) s b contains e = tt

byte-not-scratch : (c : Place) (s : State) (b : ℕ) → Contains s One c b → IsOutsideByte Esi c
byte-not-scratch (InWord r) s b contains = absurd contains
byte-not-scratch (InByte r) s b contains = let h = byte-below r in inl (omega arith)
byte-not-scratch (InSlot k) s b contains = tt

-- the row that works in this register puts the result in its place
abbrev IsDone : Site → ℕ → ShiftOp → Place → Place → Place → ℕ → State → Reg32 → Type 0
IsDone site frame how p q c v s t =
    (u : State) × PutsBeside SparedByShift site frame
    (read t q ++ (into_count c ++ plain (insn.ShiftCl how (rm.Reg t)) ∷ []) ++ write p t) p v s u

pub shift-puts : ShiftPuts
shift-puts site frame how (InWord d) q c x b s framed room to a a_placed c_placed one two fits small all =
    chosen (number32 d == number32 Ecx) (is_in d c) (is_in d q) refl refl refl
  where
    in-esi : IsDone site frame how (InWord d) q c (shift_value how x b) s Esi
    in-esi = shift-in site frame how Esi (InWord d) q c x b s framed room esi-works (λ e. omega (arith, e)) (λ k h. h.1)
        (inl (byte-not-scratch c s b two)) to a a_placed c_placed one two fits small all

    in-own : (number32 d == number32 Ecx) ≡ false → IsSafe d q c
        → IsDone site frame how (InWord d) q c (shift_value how x b) s d
    in-own other safe = shift-in site frame how d (InWord d) q c x b s framed room (general-works d to)
        (unlike (number32 d) (number32 Ecx) other) (λ k h. h.0) safe to a a_placed c_placed one two fits small all

    chosen : (counts has first : Bool) → (number32 d == number32 Ecx) ≡ counts → is_in d c ≡ has → is_in d q ≡ first
        → IsDone site frame how (InWord d) q c (shift_value how x b) s
        (if counts then Esi else (if has && not first then Esi else d))
    chosen true has first e f g = in-esi
    chosen false true true e f g = in-own e (inr (nothing-read d q a g))
    chosen false true false e f g = in-esi
    chosen false false true e f g = in-own e (inl (byte-not-in frame d c s b two f))
    chosen false false false e f g = in-own e (inl (byte-not-in frame d c s b two f))
shift-puts site frame how (InByte d) q c x b s framed room to a a_placed c_placed one two fits small all =
    shift-in site frame how Esi (InByte d) q c x b s framed room esi-works (λ e. omega (arith, e)) (λ k h. h.1)
    (inl (byte-not-scratch c s b two)) to a a_placed c_placed one two fits small all
shift-puts site frame how (InSlot d) q c x b s framed room to a a_placed c_placed one two fits small all =
    shift-in site frame how Esi (InSlot d) q c x b s framed room esi-works (λ e. omega (arith, e)) (λ k h. h.1)
    (inl (byte-not-scratch c s b two)) to a a_placed c_placed one two fits small all

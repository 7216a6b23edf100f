-- Rows of divisions.
use Rattle.std.proofs.Common.{◌≡◌, ◌≢◌, ◌⊎◌, ℕ, ◌+◌, ◌-◌, ◌*◌, ◌^◌, ◌<◌, Bool, true, false, [], ◌∷◌, ◌++◌}
use Rattle.std.proofs.Common.{Option, Some, None, Ok, refl, sym, ap, subst, ◌∙◌, inl, inr, arith}
use Rattle.std.specs.Prelude.{◌==◌, ◌||◌, List, Result, bit_xor, if◌then◌else◌}
use Rattle.std.specs.Int.Bits.{xor_self}
use Rattle.pcc_base.specs.Outcome.{End}
use Rattle.pcc_base.specs.declared.run.Width.TheVariants.{Two}
use Rattle.ia32_insn.specs.declared.register_names.Reg32.{Reg32}
use Rattle.ia32_insn.specs.declared.register_names.Reg32.TheVariants.{Eax, Edx, Ebp, Esi}
use Rattle.ia32_insn.specs.Registers.{number32}
use Rattle.ia32_insn.specs.Places.{Place, InWord, InByte, InSlot}
use Rattle.ia32_insn.specs.declared.operand.Mem.{Mem}
use Rattle.ia32_insn.specs.declared.operand.Rm32.{Rm32}
use Rattle.ia32_insn.specs.declared.operand.Rm32.TheVariants as rm
use Rattle.ia32_insn.specs.declared.insn.AluOp.TheVariants as alu
use Rattle.ia32_insn.specs.declared.insn.Insn.{Insn}
use Rattle.ia32_insn.specs.declared.insn.Insn.TheVariants as insn
use Rattle.ia32_insn.specs.declared.item.Item.{Item}
use Rattle.ia32_insn.specs.State.{State, at_address}
use Rattle.ia32_insn.specs.Arithmetic.{divided, is_negative, sign_word, signed_divided}
use Rattle.ia32_insn.specs.Meaning.{address_of, and_then, dividend, effect, load, read32, take_quotient, with_word}
use Rattle.ia32_insn.specs.Meaning.{word_of}
use Rattle.ia32_insn.specs.Items.{plain}
use Rattle.ia32_rows.specs.Placements.{below}
use Rattle.ia32_rows.specs.Sites.{Anywhere, Framed, IsInFrame, Site}
use Rattle.ia32_rows.proofs.Frames.{with_result}
use Rattle.ia32_rows.proofs.Sound.{load-same, sound-with_word, word-same}
use Rattle.ia32_rows.specs.Rows.{read}
use Rattle.ia32_rows.specs.Effects.{IsStraight, Keeps, Makes, OutsideWord}
use Rattle.ia32_rows.specs.Contains.{Contains, HoldsWord, IsPlaceIn}
use Rattle.ia32_rows.proofs.Kept.{HasCells, contains-kept, framed-kept, keeps-same, keeps-stricter, keeps-then}
use Rattle.ia32_rows.proofs.Kept.{other-cells, result-keeps, word-kept}
use Rattle.ia32_rows.proofs.Instructions.{below-loaded, result-makes}
use Rattle.ia32_rows.proofs.Moves.{general-works, read-gives, unlike}
use Rattle.ia32_rows.proofs.Sums.{IsOutside, esi-outside, esi-works, operate-gives}
use Rattle.ia32_rows.specs.Rows.{before_division, clear_divisor, divisor_of, zero_edx}
use Rattle.ia32_laws.specs.CoresLaws.{DivisionStops, QuotientPuts, RemainderPuts, Signed, Signedness, SparedByDivision}
use Rattle.ia32_laws.specs.CoresLaws.{Unsigned, divide_by, divided_by, upper_by, upper_word}
use Rattle.ia32_laws.proofs.Goes.{Goes, goes-of, goes-stricter, goes-then, result-goes, then-written}

-- ---- the divisor

-- the divisor's word is in a register other than EAX and EDX, or in a slot of the frame
abbrev HasDivisor : ℕ → Rm32 → ℕ → State → Type 0
HasDivisor frame (rm.Reg r) y s = (number32 r ≢ 0) × (number32 r ≢ 2) × (word_of r s ≡ y)
HasDivisor frame (rm.Mem m) y s =
    (k : ℕ) × (m ≡ below k) × IsInFrame frame k × (load 4 (word_of Ebp s - k) s ≡ Ok y)

-- it stays there where EAX or EDX changes
divisor-kept : (frame : ℕ) (o : Rm32) (t : Reg32) (y : ℕ) (s u : State) → (number32 t ≡ 0) ⊎ (number32 t ≡ 2)
    → Keeps (OutsideWord t) Anywhere s u → HasDivisor frame o y s → HasDivisor frame o y u
divisor-kept frame (rm.Reg r) t y s u fixed keeps h = (
  h.0,
  h.1,
  word-kept (OutsideWord t) Anywhere r s u keeps (other-cells r t (apart (number32 r) (number32 t) h.0 h.1
      fixed)) ∙ h.2,
)
  where
    apart : (m n : ℕ) → m ≢ 0 → m ≢ 2 → (n ≡ 0) ⊎ (n ≡ 2) → m ≢ n
    apart m n f g (inl e) k = f (k ∙ e)
    apart m n f g (inr e) k = g (k ∙ e)
divisor-kept frame (rm.Mem m) t y s u fixed keeps (k, is, inside, held) =
    let same : word_of Ebp u ≡ word_of Ebp s = word-kept (OutsideWord t) Anywhere Ebp s u keeps
    (other-cells Ebp t (λ e. differs (number32 t) fixed e)) in
    (k, is, inside, subst (λ (a : ℕ). load 4 (a - k) u ≡ Ok y) (sym same) (keeps.loads 4 (word_of Ebp s - k) y tt held))
  where
    differs : (n : ℕ) → (n ≡ 0) ⊎ (n ≡ 2) → 5 ≢ n
    differs n (inl e) k = omega (arith, e, k)
    differs n (inr e) k = omega (arith, e, k)

-- and is read from there, wherever EIP is
divisor-read : (site : Site) (frame : ℕ) (o : Rm32) (y : ℕ) (s : State) (address : ℕ) → Framed site frame s
    → HasDivisor frame o y s → read32 o (at_address address s) ≡ Ok y
divisor-read site frame (rm.Reg r) y s address framed h =
    ap (λ (v : ℕ). let x : Result ℕ End = Ok v in x) h.2
divisor-read site frame (rm.Mem m) y s address framed (k, is, inside, held) =
    let low = inside.low in
    let loaded = below-loaded site frame k 4 y s framed (omega arith) inside.high held in
    ap (λ (a : Mem). load 4 (address_of a (at_address address s)) (at_address address s)) is
    ∙ load-same 4 (address_of (below k) s) y s (at_address address s) refl loaded

-- the divisor out of the way
clear-goes : (site : Site) (frame : ℕ) (r : Place) (y : ℕ) (s : State) → Framed site frame s → HoldsWord r
    → IsPlaceIn frame r → Contains s Two r y → y < 2 ^ 32
    → (m : State) × Goes (OutsideWord Esi) site frame (clear_divisor r) s m × HasDivisor frame (divisor_of r) y m
clear-goes site frame (InWord r) y s framed holds placed contains fits =
    chosen (number32 r == 0) (number32 r == 2) refl refl
  where
    moved : (m : State) × Goes (OutsideWord Esi) site frame (read Esi (InWord r)) s m
        × HasDivisor frame (rm.Reg Esi) y m
    moved =
        let one = read-gives site frame Esi (InWord r) y s framed esi-works holds placed contains fits in (
          one.0,
          goes-of site frame (read Esi (InWord r)) Esi y s one.0 one.1,
          ((λ e. omega (arith, e)), (λ e. omega (arith, e)), one.1.value),
        )

    chosen : (a b : Bool) → (number32 r == 0) ≡ a → (number32 r == 2) ≡ b
        → (m : State) × Goes (OutsideWord Esi) site frame (if a || b then read Esi (InWord r) else []) s m
        × HasDivisor frame (if a || b then rm.Reg Esi else rm.Reg r) y m
    chosen true b e f = moved
    chosen false true e f = moved
    chosen false false e f = (
      s,
      record { leads = refl; framed = framed; keeps = keeps-same (OutsideWord Esi) Anywhere s },
      (unlike (number32 r) 0 e, unlike (number32 r) 2 f, contains),
    )
clear-goes site frame (InByte r) y s framed holds placed contains fits = absurd holds
clear-goes site frame (InSlot k) y s framed holds placed contains fits = (
  s,
  record { leads = refl; framed = framed; keeps = keeps-same (OutsideWord Esi) Anywhere s },
  (k, refl, placed, contains),
)

-- ---- before the division

-- the cells that a division and the way to it leave
abbrev Spared : ℕ → Type 0
Spared k = OutsideWord Esi k × SparedByDivision k

-- a word outside a register that changes
word-there : (t : Reg32) (r : Place) (y : ℕ) (s m : State) → number32 Ebp ≢ number32 t → IsOutside t r
    → Keeps (OutsideWord t) Anywhere s m → Contains s Two r y → Contains m Two r y
word-there t (InWord r) y s m other outside keeps contains =
    contains-kept (OutsideWord t) Anywhere s m Two (InWord r) y keeps (other-cells Ebp t other)
    (other-cells r t outside) tt contains
word-there t (InByte r) y s m other outside keeps contains = absurd outside
word-there t (InSlot k) y s m other outside keeps contains =
    contains-kept (OutsideWord t) Anywhere s m Two (InSlot k) y keeps (other-cells Ebp t other) tt (tt, tt) contains

-- the dividend is in EDX:EAX, and the divisor where it is read
record Divides (how : Signedness) (site : Site) (frame : ℕ) (q r : Place) (x y : ℕ) (s u : State) : Type 0 where
  goes : Goes Spared site frame (before_division (upper_by how) q r) s u
  dividend : word_of Edx u * 2 ^ 32 + word_of Eax u ≡ upper_word how x * 2 ^ 32 + x
  divisor : HasDivisor frame (divisor_of r) y u

sign-small : (x : ℕ) → sign_word x < 2 ^ 32
sign-small x = by (is_negative x)
  where
    by : (b : Bool) → (if b then 0xffffffff else 0) < 0x1_0000_0000
    by true = omega arith
    by false = omega arith

-- the upper word comes to EDX: by CDQ of EAX, or by XOR of EDX with itself
upper-goes : (how : Signedness) (site : Site) (frame x : ℕ) (s : State) → Framed site frame s → word_of Eax s ≡ x
    → (u : State) × Goes (OutsideWord Edx) site frame (plain (upper_by how) ∷ []) s u
    × (word_of Edx u ≡ upper_word how x)
upper-goes Signed site frame x s framed is =
    let v : ℕ = sign_word (word_of Eax s) in
    let makes : Makes site insn.Cdq s (with_result Edx v s.flags s) =
    record { straight = tt; does = λ address. refl; sound = result-makes site Edx v s.flags s framed.sound } in (
      with_result Edx v s.flags s,
      result-goes site frame insn.Cdq Edx v s.flags s framed (general-works Edx tt) makes,
      word-same site.text site.low site.high Edx v s framed.sound (sign-small (word_of Eax s)) ∙ ap sign_word is,
    )
upper-goes Unsigned site frame x s framed is =
    let v : ℕ = word_of Edx s in
    let none : bit_xor v v ≡ 0 = xor_self v in
    let one = operate-gives site frame alu.Xor Edx (InWord Edx) v v s framed (general-works Edx tt) tt tt tt refl refl
    (subst (λ (k : ℕ). k < 2 ^ 32) (sym none) (omega arith)) in
    (one.0, goes-of site frame (plain zero_edx ∷ []) Edx (bit_xor v v) s one.0 one.1, one.1.value ∙ none)

divides : (how : Signedness) (site : Site) (frame : ℕ) (q r : Place) (x y : ℕ) (s : State) → Framed site frame s
    → HoldsWord q → IsPlaceIn frame q → HoldsWord r → IsPlaceIn frame r → Contains s Two q x → Contains s Two r y
    → x < 2 ^ 32 → y < 2 ^ 32 → (u : State) × Divides how site frame q r x y s u
divides how site frame q r x y s framed a a_placed b b_placed one two fits also =
    let first = clear-goes site frame r y s framed b b_placed two also in
    let m : State = first.0 in
    let there : Contains m Two q x = word-there Esi q x s m (λ e. omega (arith, e)) (esi-outside frame q a a_placed)
    first.1.keeps one in
    let second = read-gives site frame Eax q x m first.1.framed (general-works Eax tt) a a_placed there fits in
    let n : State = second.0 in
    let third = upper-goes how site frame x n second.1.framed second.1.value in
    let u : State = third.0 in
    let low : word_of Eax u ≡ x = word-kept (OutsideWord Edx) Anywhere Eax n u third.1.keeps
    (other-cells Eax Edx (λ e. omega (arith, e))) ∙ second.1.value in (
      u,
      record {
        goes = goes-then Spared site frame (clear_divisor r ++ read Eax q) (plain (upper_by how) ∷ []) s n u
            (goes-then Spared site frame (clear_divisor r) (read Eax q) s m n
            (goes-stricter (OutsideWord Esi) Spared site frame (clear_divisor r) s m (λ k h. h.0) first.1)
            (goes-stricter (OutsideWord Eax) Spared site frame (read Eax q) m n (λ k h. h.1.0)
            (goes-of site frame (read Eax q) Eax x m n second.1)))
            (goes-stricter (OutsideWord Edx) Spared site frame (plain (upper_by how) ∷ []) n u (λ k h. h.1.1) third.1);
        dividend = ap (λ (k : ℕ). k * 2 ^ 32 + word_of Eax u) third.2
            ∙ ap (λ (k : ℕ). upper_word how x * 2 ^ 32 + k) low;
        divisor = divisor-kept frame (divisor_of r) Edx y n u (inr refl) third.1.keeps
            (divisor-kept frame (divisor_of r) Eax y m n (inl refl) second.1.keeps first.2);
      },
    )

-- ---- the division

-- what a division does is what is made of the result, wherever EIP is
division-is : (how : Signedness) (site : Site) (frame : ℕ) (q r : Place) (x y : ℕ) (s u : State)
    (result : Option (ℕ × ℕ)) (address : ℕ) → Divides how site frame q r x y s u → divided_by how x y ≡ result
    → effect (divide_by how (divisor_of r)) 0 (at_address address u) ≡ take_quotient result (at_address address u)
division-is Signed site frame q r x y s u result address h e =
    let here : State = at_address address u in
    ap (λ (v : Result ℕ End). and_then v (λ value. take_quotient (signed_divided (dividend here) value) here))
    (divisor-read site frame (divisor_of r) y u address h.goes.framed h.divisor)
    ∙ ap (λ (n : ℕ). take_quotient (signed_divided n y) here) h.dividend
    ∙ ap (λ (o : Option (ℕ × ℕ)). take_quotient o here) e
division-is Unsigned site frame q r x y s u result address h e =
    let here : State = at_address address u in
    ap (λ (v : Result ℕ End). and_then v (λ value. take_quotient (divided (dividend here) value) here))
    (divisor-read site frame (divisor_of r) y u address h.goes.framed h.divisor)
    ∙ ap (λ (n : ℕ). take_quotient (divided n y) here) h.dividend
    ∙ ap (λ (o : Option (ℕ × ℕ)). take_quotient o here) e

division-straight : (how : Signedness) (operand : Rm32) → IsStraight (divide_by how operand)
division-straight Signed operand = tt
division-straight Unsigned operand = tt

pub division-stops : DivisionStops
division-stops how site frame q r x y s framed a a_placed b b_placed one two fits also none =
    let before = divides how site frame q r x y s framed a a_placed b b_placed one two fits also in
    let u : State = before.0 in (
      u,
      record {
        leads = before.1.goes.leads;
        framed = before.1.goes.framed;
        keeps = before.1.goes.keeps;
        traps = λ address. division-is how site frame q r x y s u None address before.1 none;
      },
    )

-- the quotient in EAX and the remainder in EDX
record Divided (how : Signedness) (site : Site) (frame : ℕ) (q r : Place) (v w : ℕ) (s u : State) : Type 0 where
  goes : Goes Spared site frame
      (before_division (upper_by how) q r ++ plain (divide_by how (divisor_of r)) ∷ []) s u
  quotient : word_of Eax u ≡ v
  remainder : word_of Edx u ≡ w

is-divided : (how : Signedness) (site : Site) (frame : ℕ) (q r : Place) (x y v w : ℕ) (s : State)
    → Framed site frame s → HoldsWord q → IsPlaceIn frame q → HoldsWord r → IsPlaceIn frame r → Contains s Two q x
    → Contains s Two r y → x < 2 ^ 32 → y < 2 ^ 32 → divided_by how x y ≡ Some (v, w) → v < 2 ^ 32 → w < 2 ^ 32
    → (u : State) × Divided how site frame q r v w s u
is-divided how site frame q r x y v w s framed a a_placed b b_placed one two fits also some v_fits w_fits =
    let before = divides how site frame q r x y s framed a a_placed b b_placed one two fits also in
    let m : State = before.0 in
    let i : Insn = divide_by how (divisor_of r) in
    let n : State = with_word Eax v m in
    let sound_n = sound-with_word site.text site.low site.high Eax v m before.1.goes.framed.sound in
    let u : State = with_result Edx w None n in
    let makes : Makes site i m u = record {
      straight = division-straight how (divisor_of r);
      does = λ address. division-is how site frame q r x y s m (Some (v, w)) address before.1 some;
      sound = result-makes site Edx w None n sound_n;
    } in
    let one_keeps : Keeps (OutsideWord Eax) Anywhere m n = result-keeps site Eax v m.flags m
    before.1.goes.framed.sound in
    let two_keeps : Keeps (OutsideWord Edx) Anywhere n u = result-keeps site Edx w None n sound_n in
    let keeps : Keeps Spared Anywhere m u = keeps-then Spared Anywhere m n u
    (keeps-stricter (OutsideWord Eax) Spared Anywhere Anywhere m n (λ k h. h.1.0) (λ c d l. l) one_keeps)
    (keeps-stricter (OutsideWord Edx) Spared Anywhere Anywhere n u (λ k h. h.1.1) (λ c d l. l) two_keeps) in
    let last : Goes Spared site frame (plain i ∷ []) m u = record {
      leads = (u, makes, refl);
      framed = framed-kept Spared Anywhere site frame m u before.1.goes.framed keeps makes.sound
          (λ k h. (inl (omega arith), (inr (omega arith), inr (omega arith))))
          (λ k h. (inl (omega arith), (inr (omega arith), inr (omega arith))));
      keeps = keeps;
    } in (
      u,
      record {
        goes = goes-then Spared site frame (before_division (upper_by how) q r) (plain i ∷ []) s m u before.1.goes last;
        quotient = word-kept (OutsideWord Edx) Anywhere Eax n u two_keeps
            (other-cells Eax Edx (λ e. omega (arith, e)))
            ∙ word-same site.text site.low site.high Eax v m before.1.goes.framed.sound v_fits;
        remainder = word-same site.text site.low site.high Edx w n sound_n w_fits;
      },
    )

-- EBP is spared
has-ebp : HasCells Spared Ebp
has-ebp k h = (inl (omega arith), (inr (omega arith), inr (omega arith)))

-- the items before the part is written to its place
abbrev dividing_items : Signedness → Place → Place → List Item
dividing_items how q r = before_division (upper_by how) q r ++ plain (divide_by how (divisor_of r)) ∷ []

pub quotient-puts : QuotientPuts
quotient-puts how site frame p q r x y v w s framed room to a a_placed b b_placed one two fits also some v_fits
    w_fits =
    let done = is-divided how site frame q r x y v w s framed a a_placed b b_placed one two fits also some v_fits w_fits
    in
    then-written Spared SparedByDivision site frame (dividing_items how q r) p Eax v s done.0 done.1.goes has-ebp
    (λ k h g. (h.1, g)) room to done.1.quotient

pub remainder-puts : RemainderPuts
remainder-puts how site frame p q r x y v w s framed room to a a_placed b b_placed one two fits also some v_fits
    w_fits =
    let done = is-divided how site frame q r x y v w s framed a a_placed b b_placed one two fits also some v_fits w_fits
    in
    then-written Spared SparedByDivision site frame (dividing_items how q r) p Edx w s done.0 done.1.goes has-ebp
    (λ k h g. (h.1, g)) room to done.1.remainder

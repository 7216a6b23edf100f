-- The machine follows divisions, and their traps.
use Rattle.std.proofs.Common.{◌≡◌, ℕ, ◌+◌, ◌^◌, ◌<◌, ◌≤◌, Bool, true, false, ℤ, List, [], ◌∷◌, ◌++◌, length}
use Rattle.std.proofs.Common.{Option, Some, None, Err, inl, inr, refl, sym, ap, subst, ◌∙◌, arith, append_assoc}
use Rattle.std.specs.Prelude.{FitsSigned, int_div, int_rem, if◌then◌else◌}
use Rattle.std.specs.Int.{w32, cast_unsigned}
use Rattle.pcc_base.specs.Outcome.{End, Number, Trapped}
use Rattle.pcc_base.specs.declared.run.Trap.TheVariants.{Divide}
use Rattle.pcc_base.specs.declared.run.Width.{Width}
use Rattle.pcc_base.specs.declared.run.Width.TheVariants.{Two}
use Rattle.ia32_insn.specs.declared.register_names.Reg32.{Reg32}
use Rattle.ia32_insn.specs.declared.register_names.Reg32.TheVariants.{Eax, Edx}
use Rattle.ia32_insn.specs.Places.{Place, InWord, InByte, InSlot}
use Rattle.ia32_insn.specs.declared.operand.Rm32.{Rm32}
use Rattle.ia32_insn.specs.declared.insn.Insn.{Insn}
use Rattle.ia32_insn.specs.declared.item.Item.{Item}
use Rattle.ia32_insn.specs.declared.item.Item.TheVariants as item
use Rattle.ia32_insn.specs.State as machine
use Rattle.ia32_insn.specs.State.{at_address}
use Rattle.ia32_insn.specs.Meaning as moved
use Rattle.ia32_insn.specs.Meaning.{effect}
use Rattle.ia32_insn.specs.Items.{plain}
use Rattle.ia32_insn.specs.Runs.{Steps}
use Rattle.flow_graph.specs.declared.op.Op.{Op}
use Rattle.flow_graph.specs.declared.op.Op.TheVariants as op
use Rattle.flow_graph.specs.Graphs.{HasWidth, IsIn}
use Rattle.flow_graph.specs.Liveness.{IsBehind, LeadsTo, defined, uses}
use Rattle.flow_graph.specs.Meaning.{Halts, given, no_quotient, no_unsigned_quotient, sets, unsigned_quotient}
use Rattle.flow_graph.specs.Meaning.{unsigned_remainder}
use Rattle.flow_graph.specs.States as graph
use Rattle.flow_graph.specs.States.{active_of, flow_at, number_of, op_at, value_at}
use Rattle.flow_graph.specs.WellFormed.{IsState}
use Rattle.flow_graph.proofs.Numbers.{quotient-fits, remainder-fits, signed-fits}
use Rattle.ia32_rows.specs.Follows.{ComesToEnd}
use Rattle.ia32_laws.proofs.Landing.{FollowsKept, followed}
use Rattle.ia32_rows.specs.Paths.{Comes, IsAt, IsClear}
use Rattle.ia32_rows.specs.Placements.{Code, placement_of}
use Rattle.ia32_rows.specs.Shows.{Shows}
use Rattle.ia32_rows.specs.Sites.{Framed, ReadyAt, Site, SoundAt}
use Rattle.ia32_rows.proofs.Sound.{sound-at}
use Rattle.ia32_rows.proofs.Spelled.{IsCommon, common-begins}
use Rattle.ia32_rows.proofs.Steps.{at-front, clear-at, perform-halts, step-at}
use Rattle.ia32_rows.specs.Rows.{write}
use Rattle.ia32_rows.specs.Contains.{Contains, HoldsWord, IsPlaceIn}
use Rattle.ia32_rows.specs.Laws.{ArePlacesApart}
use Rattle.ia32_rows.proofs.Kept.{PlaceHasCells, other-cells}
use Rattle.ia32_rows.proofs.Straight.{straight-goes}
use Rattle.ia32_laws.specs.Supports.{IsSpared, IsSupported, site_of}
use Rattle.ia32_laws.specs.KeepsOps.{RowAt, after_at, before_at}
use Rattle.ia32_laws.proofs.Shown.{point-supported}
use Rattle.ia32_laws.proofs.Zones.{shown-in-frame}
use Rattle.ia32_laws.proofs.Puts.{IsLow}
use Rattle.ia32_laws.proofs.Elsewhere.{at-own-address}
use Rattle.ia32_laws.proofs.Words.{word-fits}
use Rattle.ia32_laws.proofs.Ops.{at-after, at-before, given-number, has-number, op-is}
use Rattle.ia32_rows.specs.Rows.{before_division, dividing, divisor_of}
use Rattle.ia32_laws.specs.CoresLaws.{PutsBeside, Signed, Signedness, SparedByDivision, Unsigned, divide_by, divided_by}
use Rattle.ia32_laws.specs.CoresLaws.{upper_by}
use Rattle.ia32_laws.specs.CoresOps.{QuotientFollows, RemainderFollows, UnsignedQuotientFollows}
use Rattle.ia32_laws.specs.CoresOps.{UnsignedRemainderFollows}
use Rattle.ia32_laws.proofs.Beside.{Spares, beside-follows}
use Rattle.ia32_laws.proofs.Dividing.{division-stops, quotient-puts, remainder-puts}
use Rattle.ia32_laws.proofs.Quotients.{division-is, division-traps, unsigned-division-is, unsigned-division-traps}

-- ---- what a division leaves

-- a place apart from EAX and EDX has other cells
apart-from-division : (q : Place) → ArePlacesApart (InWord Eax) q → ArePlacesApart (InWord Edx) q
    → PlaceHasCells SparedByDivision q
apart-from-division (InWord r) one two = λ m below.
    (other-cells r Eax (λ e. one (sym e)) m below, other-cells r Edx (λ e. two (sym e)) m below)
apart-from-division (InByte r) one two = (one, two)
apart-from-division (InSlot k) one two = tt

division-spares : (o : Op)
    → ((q : Place) → IsSpared o q → ArePlacesApart (InWord Eax) q × ArePlacesApart (InWord Edx) q)
    → Spares SparedByDivision o
division-spares o f =
    record {
      esp = λ m below. (inr (omega arith), inr (omega arith));
      ebp = λ m below. (inr (omega arith), inr (omega arith));
      places = λ q spared. apart-from-division q (f q spared).0 (f q spared).1;
    }

-- ---- the trap

-- an instruction that ends the run, and is no NOP
pub plain-halts : (site : Site) (i : Insn) (items : List Item) (s : machine.State) (end : End) → SoundAt site s
    → ReadyAt site (item.Plain i ∷ items) s → IsCommon i → ((after : ℕ) → effect i after s ≡ Err end)
    → IsClear site.text s.eip × Steps s (moved.Halts end)
plain-halts site i items s end sound ready common e =
    let first : List ℕ = ready.stand.0 in
    let rest : List ℕ = ready.stand.1 in
    let whole : IsAt site.text s.eip (first ++ rest) = subst (IsAt site.text s.eip) ready.stand.2 ready.here in
    let front = at-front site.text s.eip first rest whole in
    let other = common-begins i first common ready.stand.3 in
    let long : 0 < length first = let l = ap length other.2 in omega (arith, l) in
    let after : ℕ = s.eip + length first in
    let step = step-at site.text site.low site.high i first s sound front long ready.stand.3 in
    (clear-at site.text s.eip first front other, subst (Steps s) (perform-halts i after s end (e after)) step)

-- a division is no NOP
division-common : (how : Signedness) (operand : Rm32) → IsCommon (divide_by how operand)
division-common Signed operand = tt
division-common Unsigned operand = tt

-- it does the same whatever stands behind it
ends-anyhow : (how : Signedness) (operand : Rm32) (after address : ℕ) (u : machine.State) (end : End)
    → effect (divide_by how operand) 0 (at_address address u) ≡ Err end
    → effect (divide_by how operand) after (at_address address u) ≡ Err end
ends-anyhow Signed operand after address u end e = e
ends-anyhow Unsigned operand after address u end e = e

-- the machine comes to the end of a division that traps
stops : (how : Signedness) (part : Reg32) (code : Code) (input : List ℕ) (g : graph.State) (s : machine.State) (p q r : Place) (x y : ℕ)
    → IsSupported code → IsState code.program g → Shows code input g s
    → RowAt code g (dividing (upper_by how) (divide_by how) part p q r) s → HoldsWord q
    → IsPlaceIn (placement_of code g.current.function).frame q → HoldsWord r
    → IsPlaceIn (placement_of code g.current.function).frame r → Contains s Two q x → Contains s Two r y → x < 2 ^ 32
    → y < 2 ^ 32 → divided_by how x y ≡ None → ComesToEnd code s g (Trapped Divide)
stops how part code input g s p q r x y supported state shown row a a_placed b b_placed one two fits also none =
    let site : Site = site_of code g.current.function in
    let frame : ℕ = (placement_of code g.current.function).frame in
    let framed : Framed site frame s = (shown-in-frame code input g s supported state shown).framed in
    let i : Insn = divide_by how (divisor_of r) in
    let before : List Item = before_division (upper_by how) q r in
    let all : List Item = dividing (upper_by how) (divide_by how) part p q r in
    let rest : List Item = write p part ++ row.rest in
    let there = division-stops how site frame q r x y s framed a a_placed b b_placed one two fits also none in
    let u : machine.State = there.0 in
    let same : all ++ row.rest ≡ before ++ (item.Plain i ∷ rest) =
    append_assoc (before ++ plain i ∷ []) (write p part) row.rest ∙ append_assoc before (plain i ∷ []) rest in
    let own : at_address s.eip s ≡ s = at-own-address code g.current.function (all ++ row.rest) s supported row.ready in
    let ready : ReadyAt site (before ++ (item.Plain i ∷ rest)) (at_address s.eip s) =
    subst (λ (v : machine.State). ReadyAt site (before ++ (item.Plain i ∷ rest)) v) (sym own)
    (subst (λ (xs : List Item). ReadyAt site xs s) same row.ready) in
    let went = straight-goes site before (item.Plain i ∷ rest) s u s.eip framed.sound ready there.1.leads in
    let t : machine.State = at_address went.0 u in
    let ends = plain-halts site i rest t (Trapped Divide)
    (sound-at site.text site.low site.high went.0 u there.1.framed.sound) went.2 (division-common how (divisor_of r))
    (λ after. ends-anyhow how (divisor_of r) after went.0 u (Trapped Divide) (there.1.traps went.0)) in (
      t,
      subst (λ (v : machine.State). Comes code.text v t) own went.1,
      ends.0,
      ends.1,
      there.1.keeps.taken ∙ shown.taken,
      there.1.keeps.written ∙ shown.written,
    )

-- ---- the ops

-- What a division makes of numbers: it traps for some of them, and else gives a quotient or a remainder that fits.
record Divides (how : Signedness) (traps : ℤ → ℤ → Bool) (quotient remainder : ℤ → ℤ → ℤ) : Type 0 where
  stops : (x y : ℤ) → FitsSigned w32 x → FitsSigned w32 y → traps x y ≡ true
      → divided_by how (cast_unsigned w32 x) (cast_unsigned w32 y) ≡ None
  is : (x y : ℤ) → FitsSigned w32 x → FitsSigned w32 y → traps x y ≡ false
      → divided_by how (cast_unsigned w32 x) (cast_unsigned w32 y)
      ≡ Some (cast_unsigned w32 (quotient x y), cast_unsigned w32 (remainder x y))
  quotient_fits : (x y : ℤ) → FitsSigned w32 x → traps x y ≡ false → FitsSigned w32 (quotient x y)
  remainder_fits : (x y : ℤ) → FitsSigned w32 x → traps x y ≡ false → FitsSigned w32 (remainder x y)

signed-divides : Divides Signed no_quotient int_div int_rem
signed-divides = record {
  stops = division-traps;
  is = division-is;
  quotient_fits = quotient-fits;
  remainder_fits = λ x y h e. remainder-fits x y h;
}

unsigned-divides : Divides Unsigned no_unsigned_quotient unsigned_quotient unsigned_remainder
unsigned-divides = record {
  stops = unsigned-division-traps;
  is = unsigned-division-is;
  quotient_fits = λ x y h e. signed-fits _;
  remainder_fits = λ x y h e. signed-fits _;
}

-- the row of a division that has a quotient puts its part into any place
abbrev PutsPart : Signedness → (ℤ → ℤ → Bool) → Reg32 → (ℤ → ℤ → ℤ) → Type 0
PutsPart how traps part f =
    (site : Site) (frame : ℕ) (p q r : Place) (x y : ℤ) (s : machine.State) → Framed site frame s → 16 ≤ frame
    → IsPlaceIn frame p → HoldsWord q → IsPlaceIn frame q → HoldsWord r → IsPlaceIn frame r
    → Contains s Two q (cast_unsigned w32 x) → Contains s Two r (cast_unsigned w32 y) → FitsSigned w32 x
    → FitsSigned w32 y → traps x y ≡ false
    → (u : machine.State) × PutsBeside SparedByDivision site frame
    (dividing (upper_by how) (divide_by how) part p q r) p (cast_unsigned w32 (f x y)) s u

quotient-part : (how : Signedness) (traps : ℤ → ℤ → Bool) (quotient remainder : ℤ → ℤ → ℤ)
    → Divides how traps quotient remainder → PutsPart how traps Eax quotient
quotient-part how traps quotient remainder h site frame p q r x y s framed room to a a_placed b b_placed one two fits
    also some =
    quotient-puts how site frame p q r (cast_unsigned w32 x) (cast_unsigned w32 y) (cast_unsigned w32 (quotient x y))
    (cast_unsigned w32 (remainder x y)) s framed room to a a_placed b b_placed one two (word-fits x fits)
    (word-fits y also) (h.is x y fits also some) (word-fits (quotient x y) (h.quotient_fits x y fits some))
    (word-fits (remainder x y) (h.remainder_fits x y fits some))

remainder-part : (how : Signedness) (traps : ℤ → ℤ → Bool) (quotient remainder : ℤ → ℤ → ℤ)
    → Divides how traps quotient remainder → PutsPart how traps Edx remainder
remainder-part how traps quotient remainder h site frame p q r x y s framed room to a a_placed b b_placed one two fits
    also some =
    remainder-puts how site frame p q r (cast_unsigned w32 x) (cast_unsigned w32 y) (cast_unsigned w32 (quotient x y))
    (cast_unsigned w32 (remainder x y)) s framed room to a a_placed b b_placed one two (word-fits x fits)
    (word-fits y also) (h.is x y fits also some) (word-fits (quotient x y) (h.quotient_fits x y fits some))
    (word-fits (remainder x y) (h.remainder_fits x y fits some))

division-follows : (how : Signedness) (traps : ℤ → ℤ → Bool) (part : Reg32) (f : ℤ → ℤ → ℤ) (o : Op) (d a b : ℕ)
    (code : Code) (input : List ℕ) (g : graph.State) (s : machine.State) → PutsPart how traps part f
    → ((x y : ℤ) → FitsSigned w32 x → FitsSigned w32 y → traps x y ≡ true
    → divided_by how (cast_unsigned w32 x) (cast_unsigned w32 y) ≡ None)
    → ((x y : ℤ) → FitsSigned w32 x → traps x y ≡ false → FitsSigned w32 (f x y))
    → Spares SparedByDivision o → defined o ≡ Some d → IsIn a (uses o) → IsIn b (uses o)
    → ((next : ℕ) → IsBehind (flow_at code.program g.current.function) g.point next
    → LeadsTo (flow_at code.program g.current.function) g.point next o)
    → HasWidth (flow_at code.program g.current.function) d Two
    → HasWidth (flow_at code.program g.current.function) a Two
    → HasWidth (flow_at code.program g.current.function) b Two → IsSupported code → IsState code.program g
    → Shows code input g s → op_at code.program g ≡ Some o
    → RowAt code g (dividing (upper_by how) (divide_by how) part (after_at code g d) (before_at code g a)
    (before_at code g b)) s
    → FollowsKept code input s g false (given (number_of (value_at g a)) (λ x. given (number_of (value_at g b))
    (λ y. if traps x y then Halts (Trapped Divide) else sets code.program g d (Number (f x y)))))
division-follows how traps part f o d a b code input g s puts stops_f fits_f spares sets_d reads_a reads_b leads wd wa wb
    supported state shown has r =
    given-number (FollowsKept code input s g false) (value_at g a) (λ x. given (number_of (value_at g b))
    (λ y. if traps x y then Halts (Trapped Divide) else sets code.program g d (Number (f x y)))) tt (λ x e.
    given-number (FollowsKept code input s g false) (value_at g b)
    (λ y. if traps x y then Halts (Trapped Divide) else sets code.program g d (Number (f x y))) tt
    (λ y k. both-ways x y e k (traps x y) refl))
  where
    items : Place → Place → Place → List Item
    items p q r = dividing (upper_by how) (divide_by how) part p q r

    both-ways : (x y : ℤ) → value_at g a ≡ Some (Number x) → value_at g b ≡ Some (Number y) → (t : Bool)
        → traps x y ≡ t
        → FollowsKept code input s g false
        (if t then Halts (Trapped Divide) else sets code.program g d (Number (f x y)))
    both-ways x y e k true is =
        let here = point-supported code g o supported state has in
        let (place, at) = here.written d sets_d in
        let one = has-number code input g s o a x supported state shown has reads_a wa e in
        let two = has-number code input g s o b y supported state shown has reads_b wb k in
        let row = at-before code g s b two.place (λ p. items place one.place p) two.at
        (at-before code g s a one.place (λ p. items place p (before_at code g b)) one.at
        (at-after code g s d place (λ p. items p (before_at code g a) (before_at code g b)) at r)) in
        stops how part code input g s place one.place two.place (cast_unsigned w32 x) (cast_unsigned w32 y) supported state
        shown row one.holds one.inside two.holds two.inside one.contains two.contains (word-fits x one.fits)
        (word-fits y two.fits) (stops_f x y one.fits two.fits is)
    both-ways x y e k false is =
        let here = point-supported code g o supported state has in
        let (place, at) = here.written d sets_d in
        let for = here.after d place at in
        let framed = (shown-in-frame code input g s supported state shown).framed in
        let four = (supported.supports g.current.function state.active.0.function).four_words in
        let one = has-number code input g s o a x supported state shown has reads_a wa e in
        let two = has-number code input g s o b y supported state shown has reads_b wb k in
        let row = at-before code g s b two.place (λ p. items place one.place p) two.at
        (at-before code g s a one.place (λ p. items place p (before_at code g b)) one.at
        (at-after code g s d place (λ p. items p (before_at code g a) (before_at code g b)) at r)) in
        let w : ℕ = cast_unsigned w32 (f x y) in
        let low : IsLow code (active_of g) shown.frames (Some Two) (Number (f x y)) w =
        (fits_f x y one.fits is, refl) in
        beside-follows SparedByDivision code input g s o d w (Number (f x y)) place
        (items place one.place two.place) supported state shown has sets_d spares leads row at
        (puts (site_of code g.current.function) (placement_of code g.current.function).frame place one.place two.place x
        y s framed four for.inside one.holds one.inside two.holds two.inside one.contains two.contains one.fits two.fits
        is)
        (subst (λ (v : Option Width). IsLow code (active_of g) shown.frames v (Number (f x y)) w) (sym wd) low) tt

pub quotient-follows : QuotientFollows
quotient-follows d a b code input g s supported state shown has r =
    followed code input g s (op.Div d a b) false supported state has (
    let fits = (op-is code g (op.Div d a b) supported state has).fits in
    division-follows Signed no_quotient Eax int_div (op.Div d a b) d a b code input g s
    (quotient-part Signed no_quotient int_div int_rem signed-divides) signed-divides.stops signed-divides.quotient_fits
    (division-spares (op.Div d a b) (λ q h. h)) refl (inl refl) (inr (inl refl)) (λ next h. h) fits.0 fits.1.0
    fits.1.1.0 supported state shown has r)

pub remainder-follows : RemainderFollows
remainder-follows d a b code input g s supported state shown has r =
    followed code input g s (op.Rem d a b) false supported state has (
    let fits = (op-is code g (op.Rem d a b) supported state has).fits in
    division-follows Signed no_quotient Edx int_rem (op.Rem d a b) d a b code input g s
    (remainder-part Signed no_quotient int_div int_rem signed-divides) signed-divides.stops
    signed-divides.remainder_fits (division-spares (op.Rem d a b) (λ q h. h)) refl (inl refl) (inr (inl refl))
    (λ next h. h) fits.0 fits.1.0 fits.1.1.0 supported state shown has r)

pub unsigned-quotient-follows : UnsignedQuotientFollows
unsigned-quotient-follows d a b code input g s supported state shown has r =
    followed code input g s (op.Udiv d a b) false supported state has (
    let fits = (op-is code g (op.Udiv d a b) supported state has).fits in
    division-follows Unsigned no_unsigned_quotient Eax unsigned_quotient (op.Udiv d a b) d a b code input g s
    (quotient-part Unsigned no_unsigned_quotient unsigned_quotient unsigned_remainder unsigned-divides)
    unsigned-divides.stops unsigned-divides.quotient_fits (division-spares (op.Udiv d a b) (λ q h. h)) refl (inl refl)
    (inr (inl refl)) (λ next h. h) fits.0 fits.1.0 fits.1.1.0 supported state shown has r)

pub unsigned-remainder-follows : UnsignedRemainderFollows
unsigned-remainder-follows d a b code input g s supported state shown has r =
    followed code input g s (op.Urem d a b) false supported state has (
    let fits = (op-is code g (op.Urem d a b) supported state has).fits in
    division-follows Unsigned no_unsigned_quotient Edx unsigned_remainder (op.Urem d a b) d a b code input g s
    (remainder-part Unsigned no_unsigned_quotient unsigned_quotient unsigned_remainder unsigned-divides)
    unsigned-divides.stops unsigned-divides.remainder_fits (division-spares (op.Urem d a b) (λ q h. h)) refl (inl refl)
    (inr (inl refl)) (λ next h. h) fits.0 fits.1.0 fits.1.1.0 supported state shown has r)

-- The machine follows single ops.
use Rattle.std.proofs.Common.{◌≡◌, ℕ, ◌^◌, ◌<◌, ◌≤◌, ℤ, List, Option, Some, None, Ok}
use Rattle.std.proofs.Common.{false, inl, inr, refl, sym, ap, subst, ◌∙◌}
use Rattle.std.specs.Prelude.{FitsSigned, slice_get, unwrap_or}
use Rattle.std.specs.Int.{w8, w32, cast_unsigned}
use Rattle.std.proofs.lemmas.Int.{SFits-int_wrap}
use Rattle.std.proofs.lemmas.Nat.{and_comm, or_comm, xor_comm}
use Rattle.std.proofs.lemmas.Option.{same_Some}
use Rattle.pcc_base.specs.Outcome.{Value, Number, Array}
use Rattle.pcc_base.specs.declared.run.Width.{Width}
use Rattle.pcc_base.specs.declared.run.Width.TheVariants.{One, Two}
use Rattle.ia32_insn.specs.declared.register_names.Reg32.TheVariants.{Ebp}
use Rattle.ia32_insn.specs.Places.{Place, InWord, InByte, InSlot}
use Rattle.ia32_insn.specs.declared.insn.AluOp.{AluOp}
use Rattle.ia32_insn.specs.declared.insn.AluOp.TheVariants as alu
use Rattle.ia32_insn.specs.declared.item.Item.{Item}
use Rattle.ia32_insn.specs.State as machine
use Rattle.ia32_insn.specs.Arithmetic.{alu_value, product, sum}
use Rattle.ia32_insn.specs.Meaning.{word_of}
use Rattle.flow_graph.specs.declared.op.Op.{Op}
use Rattle.flow_graph.specs.declared.op.Op.TheVariants as op
use Rattle.flow_graph.specs.Graphs.{FitsOp, HasWidth, IsIn, NumbersFit}
use Rattle.flow_graph.specs.Liveness.{IsBehind, LeadsTo, defined, uses}
use Rattle.flow_graph.specs.Meaning.{Moved, Stuck, given, sets}
use Rattle.flow_graph.specs.States as graph
use Rattle.flow_graph.specs.States.{active_of, depth_of, fitted, flow_at, number_of, op_at, value_at}
use Rattle.flow_graph.specs.WellFormed.{IsState}
use Rattle.flow_graph.proofs.Values.{op-at}
use Rattle.ia32_laws.proofs.Landing.{FollowsKept, followed}
use Rattle.ia32_rows.specs.Placements.{Code, placement_of}
use Rattle.ia32_rows.specs.Shows.{Shows, StandsIn}
use Rattle.ia32_rows.specs.Sites.{Framed, Site}
use Rattle.ia32_rows.specs.Rows.{adding, commuting, multiplying, number_row, operation}
use Rattle.ia32_rows.specs.Contains.{Contains, HoldsWord, IsPlaceIn}
use Rattle.ia32_rows.specs.Laws.{IsWriting, Puts}
use Rattle.ia32_rows.proofs.Moves.{number-puts}
use Rattle.ia32_rows.proofs.Sums.{commuting-puts, operation-puts, sum-puts}
use Rattle.ia32_rows.proofs.Multiplying.{product-puts}
use Rattle.ia32_laws.proofs.Words.{product-computed}
use Rattle.ia32_laws.specs.Supports.{HoldsWidth, IsSupported, site_of}
use Rattle.ia32_laws.specs.KeepsOps.{AndFollows, DifferenceFollows, NumberFollows, OrFollows, RowAt, SumFollows}
use Rattle.ia32_laws.specs.KeepsOps.{ProductFollows, XorFollows, after_at, before_at}
use Rattle.ia32_laws.proofs.Shown.{point-supported}
use Rattle.ia32_laws.proofs.Zones.{shown-in-frame}
use Rattle.ia32_laws.proofs.Puts.{IsLow, puts-follow}
use Rattle.ia32_laws.proofs.Words.{IsComputedBy, and-computed, difference-computed, low-byte, or-computed}
use Rattle.ia32_laws.proofs.Words.{sum-computed, word-fits, xor-computed}

-- ---- the op at a state's point

-- what is known of it
pub record OpIs (code : Code) (g : graph.State) (o : Op) : Type 0 where
  pub fits : FitsOp (flow_at code.program g.current.function) o
  pub numbers : NumbersFit o

pub op-is : (code : Code) (g : graph.State) (o : Op) → IsSupported code → IsState code.program g
    → op_at code.program g ≡ Some o → OpIs code g o
op-is code g o supported state has =
    let known = op-at code.program g.current.function g.point g.block supported.program state.active.0.function
    state.placed in
    let same : known.op ≡ o = same_Some known.op o (sym known.there ∙ has) in
    record {
      fits = subst (FitsOp (flow_at code.program g.current.function)) same known.fits;
      numbers = subst NumbersFit same known.word;
    }

-- items by where a variable stands
pub at-after : (code : Code) (g : graph.State) (s : machine.State) (d : ℕ) (place : Place) (F : Place → List Item)
    → (placement_of code g.current.function).after g.point d ≡ Some place → RowAt code g (F (after_at code g d)) s
    → RowAt code g (F place) s
at-after code g s d place F at r =
    subst (λ (p : Place). RowAt code g (F p) s) (ap (λ (o : Option Place). unwrap_or o (InSlot 0)) at) r

pub at-before : (code : Code) (g : graph.State) (s : machine.State) (a : ℕ) (place : Place) (F : Place → List Item)
    → (placement_of code g.current.function).before g.point a ≡ Some place → RowAt code g (F (before_at code g a)) s
    → RowAt code g (F place) s
at-before code g s a place F at r =
    subst (λ (p : Place). RowAt code g (F p) s) (ap (λ (o : Option Place). unwrap_or o (InSlot 0)) at) r

-- ---- numbers

-- the word of a number, or its low byte, is that of the number as the variable holds it
number-low : (code : Code) (g : graph.State) (frames : List ℕ) (width : Option Width) (place : Place) (n : ℤ)
    → FitsSigned w32 n → HoldsWidth width place
    → IsLow code (active_of g) frames width (Number (fitted width n)) (cast_unsigned w32 n)
number-low code g frames (Some Two) place n fits for = (fits, refl)
number-low code g frames (Some One) place n fits for = (SFits-int_wrap w8 n, low-byte n fits)
number-low code g frames None place n fits for = absurd for

pub number-follows : NumberFollows
number-follows d n code input g s supported state shown has r =
    followed code input g s (op.Const d n) false supported state has (
    let here = point-supported code g (op.Const d n) supported state has in
    let (place, at) = here.written d refl in
    let for = here.after d place at in
    let known = op-is code g (op.Const d n) supported state has in
    let framed = (shown-in-frame code input g s supported state shown).framed in
    let width = slice_get (flow_at code.program g.current.function).widths d in
    puts-follow code input g s (op.Const d n) d (cast_unsigned w32 n) (Number (fitted width n)) place
    (number_row place n) supported state shown has refl (λ next h. h)
    (at-after code g s d place (λ p. number_row p n) at r) at
    (number-puts (site_of code g.current.function) (placement_of code g.current.function).frame place n s framed
    for.inside (word-fits n known.numbers))
    (number-low code g shown.frames width place n known.numbers for.holds) tt)

-- ---- operands

-- a place for a word
pub holds-word : (place : Place) → HoldsWidth (Some Two) place → HoldsWord place
holds-word (InWord r) h = tt
holds-word (InByte r) h = absurd h
holds-word (InSlot slot) h = tt

-- what is known of a variable's place, in which the word of its number is
pub record HasNumber (code : Code) (g : graph.State) (s : machine.State) (a : ℕ) (x : ℤ) : Type 0 where
  pub place : Place
  pub at : (placement_of code g.current.function).before g.point a ≡ Some place
  pub inside : IsPlaceIn (placement_of code g.current.function).frame place
  pub holds : HoldsWord place
  pub contains : Contains s Two place (cast_unsigned w32 x)
  pub fits : FitsSigned w32 x

-- the word of a number in a place
number-in : (code : Code) (g : graph.State) (frames : List ℕ) (s : machine.State) (place : Place) (x : ℤ)
    → HoldsWidth (Some Two) place
    → StandsIn code (active_of g) frames s (word_of Ebp s) (Some Two) (Number x) place
    → FitsSigned w32 x × Contains s Two place (cast_unsigned w32 x)
number-in code g frames s (InWord r) x for h = (h.0, h.1)
number-in code g frames s (InByte r) x for h = absurd for
number-in code g frames s (InSlot slot) x for h =
    (h.2.0, h.1 ∙ ap (λ (w : ℕ). Ok w) h.2.1)

pub has-number : (code : Code) (input : List ℕ) (g : graph.State) (s : machine.State) (o : Op) (a : ℕ) (x : ℤ)
    → IsSupported code → IsState code.program g → Shows code input g s → op_at code.program g ≡ Some o
    → IsIn a (uses o) → HasWidth (flow_at code.program g.current.function) a Two → value_at g a ≡ Some (Number x)
    → HasNumber code g s a x
has-number code input g s o a x supported state shown has used width e =
    let here = point-supported code g o supported state has in
    let (place, at) = here.read a used in
    let for = here.before a place at in
    let holds : HoldsWidth (Some Two) place = subst (λ (w : Option Width). HoldsWidth w place) width for.holds in
    let stands = subst (λ (w : Option Width).
    StandsIn code (active_of g) shown.frames s (word_of Ebp s) w (Number x) place) width
    (shown.variables a (Number x) place e at) in
    let found = number-in code g shown.frames s place x holds stands in
    record {
      place = place;
      at = at;
      inside = for.inside;
      holds = holds-word place holds;
      contains = found.1;
      fits = found.0;
    }

-- a step with the number in a variable, where it holds one
pub given-number : (P : Moved → Type 0) (o : Option Value) (go : ℤ → Moved) → P Stuck
    → ((n : ℤ) → o ≡ Some (Number n) → P (go n)) → P (given (number_of o) go)
given-number P None go none some = none
given-number P (Some (Number n)) go none some = some n refl
given-number P (Some (Array a)) go none some = none

-- ---- operations

-- the row of an operation puts its result into any place
abbrev PutsResult : (ℕ → ℕ → ℕ) → (Place → Place → Place → List Item) → Type 0
PutsResult how Row =
    (site : Site) (frame : ℕ) (p q r : Place) (x y : ℕ) (s : machine.State) → Framed site frame s → 16 ≤ frame
    → IsPlaceIn frame p → HoldsWord q → IsPlaceIn frame q → HoldsWord r → IsPlaceIn frame r
    → Contains s Two q x → Contains s Two r y → x < 2 ^ 32 → y < 2 ^ 32 → how x y < 2 ^ 32
    → (u : machine.State) × Puts site frame (Row p q r) p (how x y) s u

operation-follows : (how : ℕ → ℕ → ℕ) (Row : Place → Place → Place → List Item) (f : ℤ → ℤ → ℤ) (o : Op) (d a b : ℕ)
    (code : Code) (input : List ℕ) (g : graph.State) (s : machine.State) → PutsResult how Row → IsComputedBy how f
    → defined o ≡ Some d → IsIn a (uses o) → IsIn b (uses o)
    → ((next : ℕ) → IsBehind (flow_at code.program g.current.function) g.point next
    → LeadsTo (flow_at code.program g.current.function) g.point next o)
    → HasWidth (flow_at code.program g.current.function) d Two → HasWidth
    (flow_at code.program g.current.function) a Two
    → HasWidth (flow_at code.program g.current.function) b Two → IsSupported code → IsState code.program g
    → Shows code input g s → op_at code.program g ≡ Some o
    → RowAt code g (Row (after_at code g d) (before_at code g a) (before_at code g b)) s
    → FollowsKept code input s g false (given (number_of (value_at g a))
    (λ x. given (number_of (value_at g b)) (λ y. sets code.program g d (Number (f x y)))))
operation-follows how Row f o d a b code input g s puts computed sets_d reads_a reads_b leads wd wa wb supported state
    shown has r =
    given-number (FollowsKept code input s g false) (value_at g a)
    (λ x. given (number_of (value_at g b)) (λ y. sets code.program g d (Number (f x y)))) tt (λ x e.
    given-number (FollowsKept code input s g false) (value_at g b) (λ y. sets code.program g d (Number (f x y))) tt
    (λ y k.
    let here = point-supported code g o supported state has in
    let (place, at) = here.written d sets_d in
    let for = here.after d place at in
    let framed = (shown-in-frame code input g s supported state shown).framed in
    let four = (supported.supports g.current.function state.active.0.function).four_words in
    let one = has-number code input g s o a x supported state shown has reads_a wa e in
    let two = has-number code input g s o b y supported state shown has reads_b wb k in
    let w : ℕ = how (cast_unsigned w32 x) (cast_unsigned w32 y) in
    let low : IsLow code (active_of g) shown.frames (Some Two) (Number (f x y)) w =
    (computed.fits x y one.fits two.fits, sym (computed.word x y one.fits two.fits)) in
    puts-follow code input g s o d w (Number (f x y)) place (Row place one.place two.place) supported state shown has
    sets_d leads
    (at-before code g s b two.place (λ p. Row place one.place p) two.at
    (at-before code g s a one.place (λ p. Row place p (before_at code g b)) one.at
    (at-after code g s d place (λ p. Row p (before_at code g a) (before_at code g b)) at r))) at
    (puts (site_of code g.current.function) (placement_of code g.current.function).frame place one.place two.place
    (cast_unsigned w32 x) (cast_unsigned w32 y) s framed four for.inside one.holds one.inside two.holds two.inside
    one.contains two.contains (word-fits x one.fits) (word-fits y two.fits)
    (computed.below (cast_unsigned w32 x) (cast_unsigned w32 y) (word-fits x one.fits) (word-fits y two.fits)))
    (subst (λ (v : Option Width). IsLow code (active_of g) shown.frames v (Number (f x y)) w) (sym wd) low) tt))

-- where the operands commute
commuting-result : (how : AluOp) → IsWriting how → ((x y : ℕ) → alu_value how y x ≡ alu_value how x y)
    → PutsResult (alu_value how) (commuting how)
commuting-result how writes same site frame p q r x y s framed room to a a_placed b b_placed one two fits also all =
    commuting-puts site frame how p q r x y s framed room writes (same x y) to a a_placed b b_placed one two fits also
    all

pub sum-follows : SumFollows
sum-follows d a b code input g s supported state shown has r =
    followed code input g s (op.Add d a b) false supported state has (
    let fits = (op-is code g (op.Add d a b) supported state has).fits in
    operation-follows sum adding _ (op.Add d a b) d a b code input g s
    (λ site frame p q v x y t framed room to f f_placed h h_placed one two small also all.
    sum-puts site frame p q v x y t framed room to f f_placed h h_placed one two small also) sum-computed refl
    (inl refl) (inr (inl refl)) (λ next h. h)
    fits.0 fits.1.0 fits.1.1.0 supported state shown has r)

pub difference-follows : DifferenceFollows
difference-follows d a b code input g s supported state shown has r =
    followed code input g s (op.Sub d a b) false supported state has (
    let fits = (op-is code g (op.Sub d a b) supported state has).fits in
    operation-follows (alu_value alu.Sub) (operation alu.Sub) _ (op.Sub d a b) d a b code input g s
    (λ site frame p q v x y t framed room to f f_placed h h_placed one two small also all.
    operation-puts site frame alu.Sub p q v x y t framed room tt to f f_placed h h_placed one two small also all)
    difference-computed refl (inl refl) (inr (inl refl)) (λ next h. h) fits.0 fits.1.0 fits.1.1.0 supported state shown
    has r)

pub and-follows : AndFollows
and-follows d a b code input g s supported state shown has r =
    followed code input g s (op.And d a b) false supported state has (
    let fits = (op-is code g (op.And d a b) supported state has).fits in
    operation-follows (alu_value alu.And) (commuting alu.And) _ (op.And d a b) d a b code input g s
    (commuting-result alu.And tt (λ x y. and_comm y x)) and-computed refl (inl refl) (inr (inl refl)) (λ next h. h)
    fits.0 fits.1.0 fits.1.1.0 supported state shown has r)

pub or-follows : OrFollows
or-follows d a b code input g s supported state shown has r =
    followed code input g s (op.Or d a b) false supported state has (
    let fits = (op-is code g (op.Or d a b) supported state has).fits in
    operation-follows (alu_value alu.Or) (commuting alu.Or) _ (op.Or d a b) d a b code input g s
    (commuting-result alu.Or tt (λ x y. or_comm y x)) or-computed refl (inl refl) (inr (inl refl)) (λ next h. h)
    fits.0 fits.1.0 fits.1.1.0 supported state shown has r)

pub xor-follows : XorFollows
xor-follows d a b code input g s supported state shown has r =
    followed code input g s (op.Xor d a b) false supported state has (
    let fits = (op-is code g (op.Xor d a b) supported state has).fits in
    operation-follows (alu_value alu.Xor) (commuting alu.Xor) _ (op.Xor d a b) d a b code input g s
    (commuting-result alu.Xor tt (λ x y. xor_comm y x)) xor-computed refl (inl refl) (inr (inl refl)) (λ next h. h)
    fits.0 fits.1.0 fits.1.1.0 supported state shown has r)

pub product-follows : ProductFollows
product-follows d a b code input g s supported state shown has r =
    followed code input g s (op.Mul d a b) false supported state has (
    let fits = (op-is code g (op.Mul d a b) supported state has).fits in
    operation-follows product multiplying _ (op.Mul d a b) d a b code input g s
    (λ site frame p q v x y t framed room to f f_placed h h_placed one two small also all.
    product-puts site frame p q v x y t framed room to f f_placed h h_placed one two small) product-computed refl
    (inl refl) (inr (inl refl)) (λ next h. h) fits.0 fits.1.0 fits.1.1.0 supported state shown has r)

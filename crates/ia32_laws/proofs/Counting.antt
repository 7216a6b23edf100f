-- The machine follows shifts.
use Rattle.std.proofs.Common.{◌≡◌, ℕ, ◌^◌, ◌<◌, false, ℤ, pos, ◌*ℤ◌, List, Option, Some, inl, inr}
use Rattle.std.proofs.Common.{refl, sym, ap, subst, ◌∙◌, arith}
use Rattle.std.specs.Prelude.{FitsSigned}
use Rattle.std.specs.Int.{w8, w32, cast_unsigned, int_wrap}
use Rattle.std.proofs.lemmas.Int.{SFits-int_wrap}
use Rattle.pcc_base.specs.Outcome.{Number}
use Rattle.pcc_base.specs.declared.run.Width.{Width}
use Rattle.pcc_base.specs.declared.run.Width.TheVariants.{One, Two}
use Rattle.ia32_insn.specs.declared.register_names.Reg32.TheVariants.{Ebp}
use Rattle.ia32_insn.specs.Places.{Place, InWord, InByte, InSlot}
use Rattle.ia32_insn.specs.declared.insn.ShiftOp.{ShiftOp}
use Rattle.ia32_insn.specs.declared.insn.ShiftOp.TheVariants as shift
use Rattle.ia32_insn.specs.State as machine
use Rattle.ia32_insn.specs.Arithmetic.{shift_value}
use Rattle.ia32_insn.specs.Meaning.{word_of}
use Rattle.flow_graph.specs.declared.op.Op.{Op}
use Rattle.flow_graph.specs.declared.op.Op.TheVariants as op
use Rattle.flow_graph.specs.Graphs.{HasWidth, IsIn}
use Rattle.flow_graph.specs.Liveness.{IsBehind, LeadsTo, defined, uses}
use Rattle.flow_graph.specs.Meaning.{given, sets, shift_count, shifted_right, shifted_unsigned}
use Rattle.flow_graph.specs.States as graph
use Rattle.flow_graph.specs.States.{active_of, flow_at, number_of, op_at, value_at}
use Rattle.flow_graph.specs.WellFormed.{IsState}
use Rattle.flow_graph.proofs.Numbers.{shift-fits, signed-fits}
use Rattle.ia32_laws.proofs.Landing.{FollowsKept, followed}
use Rattle.ia32_rows.specs.Placements.{Code, placement_of}
use Rattle.ia32_rows.specs.Shows.{Shows, StandsIn}
use Rattle.ia32_rows.specs.Laws.{ArePlacesApart}
use Rattle.ia32_rows.proofs.Kept.{PlaceHasCells}
use Rattle.ia32_laws.specs.Supports.{HoldsWidth, IsSpared, IsSupported, site_of}
use Rattle.ia32_laws.specs.KeepsOps.{RowAt, after_at, before_at}
use Rattle.ia32_laws.proofs.Small.{byte-in, byte-small}
use Rattle.ia32_laws.proofs.Shown.{point-supported}
use Rattle.ia32_laws.proofs.Zones.{shown-in-frame}
use Rattle.ia32_laws.proofs.Puts.{IsLow}
use Rattle.ia32_laws.proofs.Words.{word-fits}
use Rattle.ia32_laws.proofs.Ops.{at-after, at-before, given-number, has-number, op-is}
use Rattle.ia32_insn.specs.declared.register_names.Reg8.TheVariants.{Cl}
use Rattle.ia32_rows.specs.Rows.{shifting}
use Rattle.ia32_laws.specs.CoresLaws.{SparedByShift}
use Rattle.ia32_laws.specs.CoresOps.{LeftShiftFollows, RightShiftFollows, UnsignedRightShiftFollows}
use Rattle.ia32_laws.proofs.Beside.{Spares, beside-follows}
use Rattle.ia32_laws.proofs.Numbers.{left-shift-is, right-shift-is, unsigned-shift-is}
use Rattle.ia32_laws.proofs.Shifts.{shift-puts}

-- a place apart from CL has other cells
apart-from-count : (q : Place) → ArePlacesApart (InByte Cl) q → PlaceHasCells SparedByShift q
apart-from-count (InWord r) (inl h) = λ m below e. omega (arith, e, h)
apart-from-count (InWord r) (inr h) = λ m below e. omega (arith, e, h)
apart-from-count (InByte r) h = λ e. h (sym e)
apart-from-count (InSlot k) h = tt

shift-spares : (o : Op) → ((q : Place) → IsSpared o q → ArePlacesApart (InByte Cl) q) → Spares SparedByShift o
shift-spares o f =
    record {
      esp = λ m below e. omega (arith, e);
      ebp = λ m below e. omega (arith, e);
      places = λ q spared. apart-from-count q (f q spared);
    }

-- what a shift makes of a number's word, and of the number
record IsShiftedBy (how : ShiftOp) (f : ℤ → ℤ → ℤ) : Type 0 where
  fits : (x n : ℤ) → FitsSigned w32 x → FitsSigned w32 (f x n)
  word : (x n : ℤ) → FitsSigned w32 x → FitsSigned w8 n
      → cast_unsigned w32 (f x n) ≡ shift_value how (cast_unsigned w32 x) (cast_unsigned w8 n)

shift-follows : (how : ShiftOp) (f : ℤ → ℤ → ℤ) (o : Op) (d a c : ℕ) (code : Code) (input : List ℕ) (g : graph.State)
    (s : machine.State) → IsShiftedBy how f → Spares SparedByShift o → defined o ≡ Some d → IsIn a (uses o)
    → IsIn c (uses o)
    → ((next : ℕ) → IsBehind (flow_at code.program g.current.function) g.point next
    → LeadsTo (flow_at code.program g.current.function) g.point next o)
    → HasWidth (flow_at code.program g.current.function) d Two
    → HasWidth (flow_at code.program g.current.function) a Two
    → HasWidth (flow_at code.program g.current.function) c One → IsSupported code → IsState code.program g
    → Shows code input g s → op_at code.program g ≡ Some o
    → RowAt code g (shifting how (after_at code g d) (before_at code g a) (before_at code g c)) s
    → FollowsKept code input s g false (given (number_of (value_at g a))
    (λ x. given (number_of (value_at g c)) (λ n. sets code.program g d (Number (f x n)))))
shift-follows how f o d a c code input g s shifted spares sets_d reads_a reads_c leads wd wa wc supported state shown
    has r =
    given-number (FollowsKept code input s g false) (value_at g a)
    (λ x. given (number_of (value_at g c)) (λ n. sets code.program g d (Number (f x n)))) tt (λ x e.
    given-number (FollowsKept code input s g false) (value_at g c) (λ n. sets code.program g d (Number (f x n))) tt
    (λ n k.
    let here = point-supported code g o supported state has in
    let (place, at) = here.written d sets_d in
    let (count, before) = here.read c reads_c in
    let for = here.after d place at in
    let for_count = here.before c count before in
    let framed = (shown-in-frame code input g s supported state shown).framed in
    let four = (supported.supports g.current.function state.active.0.function).four_words in
    let one = has-number code input g s o a x supported state shown has reads_a wa e in
    let narrow : HoldsWidth (Some One) count = subst (λ (w : Option Width). HoldsWidth w count) wc for_count.holds in
    let stands = subst (λ (w : Option Width).
    StandsIn code (active_of g) shown.frames s (word_of Ebp s) w (Number n) count) wc
    (shown.variables c (Number n) count k before) in
    let (b, contains, byte) = byte-in code g shown.frames s count (Number n) narrow stands in
    let w : ℕ = shift_value how (cast_unsigned w32 x) b in
    let word : cast_unsigned w32 (f x n) ≡ w = shifted.word x n one.fits byte.0
    ∙ ap (shift_value how (cast_unsigned w32 x)) (sym byte.1) in
    let low : IsLow code (active_of g) shown.frames (Some Two) (Number (f x n)) w =
    (shifted.fits x n one.fits, sym word) in
    beside-follows SparedByShift code input g s o d w (Number (f x n)) place (shifting how place one.place count)
    supported state shown has sets_d spares leads
    (at-before code g s c count (λ p. shifting how place one.place p) before
    (at-before code g s a one.place (λ p. shifting how place p (before_at code g c)) one.at
    (at-after code g s d place (λ p. shifting how p (before_at code g a) (before_at code g c)) at r))) at
    (shift-puts (site_of code g.current.function) (placement_of code g.current.function).frame how place one.place count
    (cast_unsigned w32 x) b s framed four for.inside one.holds one.inside for_count.inside one.contains contains
    (word-fits x one.fits) (byte-small (Number n) b byte)
    (subst (λ (v : ℕ). v < 2 ^ 32) word (word-fits (f x n) (shifted.fits x n one.fits))))
    (subst (λ (v : Option Width). IsLow code (active_of g) shown.frames v (Number (f x n)) w) (sym wd) low) tt))

pub left-shift-follows : LeftShiftFollows
left-shift-follows d a c code input g s supported state shown has r =
    followed code input g s (op.Shl d a c) false supported state has (
    let fits = (op-is code g (op.Shl d a c) supported state has).fits in
    shift-follows shift.Shl (λ x n. int_wrap w32 (x *ℤ pos (2 ^ shift_count n))) (op.Shl d a c) d a c code input g s
    (record { fits = λ x n h. SFits-int_wrap w32 (x *ℤ pos (2 ^ shift_count n)); word = left-shift-is })
    (shift-spares (op.Shl d a c) (λ q h. h)) refl (inl refl) (inr (inl refl)) (λ next h. h) fits.0 fits.1.0 fits.1.1.0
    supported state shown has r)

pub right-shift-follows : RightShiftFollows
right-shift-follows d a c code input g s supported state shown has r =
    followed code input g s (op.Sar d a c) false supported state has (
    let fits = (op-is code g (op.Sar d a c) supported state has).fits in
    shift-follows shift.Sar (λ x n. shifted_right x (shift_count n)) (op.Sar d a c) d a c code input g s
    (record { fits = λ x n h. shift-fits x (shift_count n) h; word = right-shift-is })
    (shift-spares (op.Sar d a c) (λ q h. h)) refl (inl refl) (inr (inl refl)) (λ next h. h) fits.0 fits.1.0 fits.1.1.0
    supported state shown has r)

pub unsigned-right-shift-follows : UnsignedRightShiftFollows
unsigned-right-shift-follows d a c code input g s supported state shown has r =
    followed code input g s (op.Shr d a c) false supported state has (
    let fits = (op-is code g (op.Shr d a c) supported state has).fits in
    shift-follows shift.Shr (λ x n. shifted_unsigned x (shift_count n)) (op.Shr d a c) d a c code input g s
    (record { fits = λ x n h. signed-fits _; word = unsigned-shift-is })
    (shift-spares (op.Shr d a c) (λ q h. h)) refl (inl refl) (inr (inl refl)) (λ next h. h) fits.0 fits.1.0 fits.1.1.0
    supported state shown has r)

-- The machine follows the ops that take a byte or a half of a word.
use Rattle.std.proofs.Common.{◌≡◌, ℕ, ◌%◌, ◌^◌, ◌<◌, ◌≤◌, false, ℤ, List, Option, Some, inl, refl, sym, subst}
use Rattle.std.specs.Prelude.{FitsSigned}
use Rattle.std.specs.Int.{w8, w16, w32, cast_unsigned, int_wrap}
use Rattle.std.proofs.lemmas.Int.{SFits-int_wrap}
use Rattle.pcc_base.specs.Outcome.{Number}
use Rattle.pcc_base.specs.declared.run.Width.{Width}
use Rattle.pcc_base.specs.declared.run.Width.TheVariants.{One, Two}
use Rattle.ia32_insn.specs.Places.{Place}
use Rattle.ia32_insn.specs.declared.item.Item.{Item}
use Rattle.ia32_insn.specs.State as machine
use Rattle.ia32_insn.specs.Arithmetic.{extended16}
use Rattle.flow_graph.specs.declared.op.Op.{Op}
use Rattle.flow_graph.specs.declared.op.Op.TheVariants as op
use Rattle.flow_graph.specs.Graphs.{HasWidth, IsIn}
use Rattle.flow_graph.specs.Liveness.{IsBehind, LeadsTo, defined, uses}
use Rattle.flow_graph.specs.Meaning.{given, sets}
use Rattle.flow_graph.specs.States as graph
use Rattle.flow_graph.specs.States.{Activation, active_of, flow_at, number_of, op_at, value_at}
use Rattle.flow_graph.specs.WellFormed.{IsState}
use Rattle.flow_graph.proofs.Numbers.{half-word}
use Rattle.ia32_laws.proofs.Landing.{FollowsKept, followed}
use Rattle.ia32_rows.specs.Placements.{Code, placement_of}
use Rattle.ia32_rows.specs.Shows.{Shows}
use Rattle.ia32_rows.specs.Sites.{Framed, Site}
use Rattle.ia32_rows.specs.Contains.{Contains, HoldsWord, IsPlaceIn}
use Rattle.ia32_rows.specs.Laws.{Puts}
use Rattle.ia32_laws.specs.Supports.{IsSupported, site_of}
use Rattle.ia32_laws.specs.KeepsOps.{RowAt, after_at, before_at}
use Rattle.ia32_laws.proofs.Shown.{point-supported}
use Rattle.ia32_laws.proofs.Zones.{shown-in-frame}
use Rattle.ia32_laws.proofs.Puts.{IsLow, puts-follow}
use Rattle.ia32_laws.proofs.Words.{low-byte, word-fits}
use Rattle.ia32_laws.proofs.Ops.{at-after, at-before, given-number, has-number, op-is}
use Rattle.ia32_rows.specs.Rows.{halving, lowering}
use Rattle.ia32_laws.specs.CoresOps.{HalfFollows, LowFollows}
use Rattle.ia32_laws.proofs.Halves.{half-puts, low-puts}
use Rattle.ia32_laws.proofs.Numbers.{low-half-is}

-- an op on one number, whose row puts a word into any place of which the result's bits are the low ones
one-follows : (how : ℕ → ℕ) (Row : Place → Place → List Item) (f : ℤ → ℤ) (width : Width) (o : Op) (d a : ℕ)
    (code : Code) (input : List ℕ) (g : graph.State) (s : machine.State)
    → ((site : Site) (frame : ℕ) (p q : Place) (x : ℕ) (m : machine.State) → Framed site frame m → 16 ≤ frame
    → IsPlaceIn frame p → HoldsWord q → IsPlaceIn frame q → Contains m Two q x → x < 2 ^ 32
    → (u : machine.State) × Puts site frame (Row p q) p (how x) m u)
    → ((active : List Activation) (frames : List ℕ) (x : ℤ) → FitsSigned w32 x
    → IsLow code active frames (Some width) (Number (f x)) (how (cast_unsigned w32 x)))
    → defined o ≡ Some d → IsIn a (uses o)
    → ((next : ℕ) → IsBehind (flow_at code.program g.current.function) g.point next
    → LeadsTo (flow_at code.program g.current.function) g.point next o)
    → HasWidth (flow_at code.program g.current.function) d width
    → HasWidth (flow_at code.program g.current.function) a Two → IsSupported code → IsState code.program g
    → Shows code input g s → op_at code.program g ≡ Some o
    → RowAt code g (Row (after_at code g d) (before_at code g a)) s
    → FollowsKept code input s g false (given (number_of (value_at g a)) (λ x. sets code.program g d (Number (f x))))
one-follows how Row f width o d a code input g s puts low sets_d reads_a leads wd wa supported state shown has r =
    given-number (FollowsKept code input s g false) (value_at g a) (λ x. sets code.program g d (Number (f x))) tt
    (λ x e.
    let here = point-supported code g o supported state has in
    let (place, at) = here.written d sets_d in
    let for = here.after d place at in
    let framed = (shown-in-frame code input g s supported state shown).framed in
    let four = (supported.supports g.current.function state.active.0.function).four_words in
    let one = has-number code input g s o a x supported state shown has reads_a wa e in
    puts-follow code input g s o d (how (cast_unsigned w32 x)) (Number (f x)) place (Row place one.place) supported
    state shown has sets_d leads
    (at-before code g s a one.place (λ p. Row place p) one.at
    (at-after code g s d place (λ p. Row p (before_at code g a)) at r)) at
    (puts (site_of code g.current.function) (placement_of code g.current.function).frame place one.place
    (cast_unsigned w32 x) s framed four for.inside one.holds one.inside one.contains (word-fits x one.fits))
    (subst (λ (v : Option Width). IsLow code (active_of g) shown.frames v (Number (f x)) (how (cast_unsigned w32 x)))
    (sym wd) (low (active_of g) shown.frames x one.fits)) tt)

pub low-follows : LowFollows
low-follows d a code input g s supported state shown has r =
    followed code input g s (op.Low d a) false supported state has (
    let fits = (op-is code g (op.Low d a) supported state has).fits in
    one-follows (λ x. x) lowering (int_wrap w8) One (op.Low d a) d a code input g s low-puts
    (λ active frames x f. (SFits-int_wrap w8 x, low-byte x f)) refl (inl refl) (λ next h. h) fits.0 fits.1.0 supported
    state shown has r)

pub half-follows : HalfFollows
half-follows d a code input g s supported state shown has r =
    followed code input g s (op.Low16 d a) false supported state has (
    let fits = (op-is code g (op.Low16 d a) supported state has).fits in
    one-follows (λ x. extended16 (x % 2 ^ 16)) halving (int_wrap w16) Two (op.Low16 d a) d a code input g s half-puts
    (λ active frames x f. (half-word (int_wrap w16 x) (SFits-int_wrap w16 x), sym (low-half-is x f))) refl (inl refl)
    (λ next h. h) fits.0 fits.1.0 supported state shown has r)

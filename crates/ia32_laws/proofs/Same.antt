-- The machine follows the check that two numbers are the same, and its trap.
use Rattle.std.proofs.Common.{◌≡◌, ℕ, Bool, true, false, ℤ, List, ◌∷◌, ◌++◌, Option, Some, inl, inr, refl, sym, ap}
use Rattle.std.proofs.Common.{subst, ◌∙◌, append_assoc, []}
use Rattle.std.specs.Prelude.{if◌then◌else◌, not}
use Rattle.std.specs.Int.{w32, cast_unsigned}
use Rattle.std.proofs.lemmas.Int.{to_z-of_z}
use Rattle.pcc_base.specs.Outcome.{Trapped}
use Rattle.pcc_base.specs.declared.run.Trap.TheVariants.{Check}
use Rattle.ia32_insn.specs.declared.register_names.Reg32.TheVariants.{Esi}
use Rattle.ia32_insn.specs.declared.insn.Cond.TheVariants as cond
use Rattle.ia32_insn.specs.declared.item.Item.{Item}
use Rattle.ia32_insn.specs.declared.item.Item.TheVariants as item
use Rattle.ia32_insn.specs.State as machine
use Rattle.ia32_insn.specs.State.{at_address}
use Rattle.ia32_insn.specs.Arithmetic.{holds, signed}
use Rattle.flow_graph.specs.declared.op.Comparison.TheVariants.{Eq, Ne}
use Rattle.flow_graph.specs.declared.op.Op.{Op}
use Rattle.flow_graph.specs.declared.op.Op.TheVariants as op
use Rattle.flow_graph.specs.Graphs.{FitsOp}
use Rattle.flow_graph.specs.Meaning.{Halts, Moved, arrays_compared, both, compared, first_of, given, onward}
use Rattle.flow_graph.specs.States.{array_at, flow_at, number_at, value_at}
use Rattle.flow_graph.proofs.Values.{number-is}
use Rattle.ia32_laws.proofs.Landing.{FollowsKept, followed}
use Rattle.ia32_rows.specs.Paths.{Comes}
use Rattle.ia32_rows.specs.Placements.{placement_of}
use Rattle.ia32_rows.specs.Sites.{Anywhere, Framed, ReadyAt, Site}
use Rattle.ia32_rows.proofs.Sound.{sound-at}
use Rattle.ia32_rows.proofs.Steps.{comes-then}
use Rattle.ia32_rows.specs.Rows.{comparing, same_row}
use Rattle.ia32_rows.specs.Effects.{Keeps, OutsideWord}
use Rattle.ia32_rows.proofs.Straight.{straight-goes}
use Rattle.ia32_laws.specs.Supports.{site_of}
use Rattle.ia32_laws.specs.KeepsOps.{before_at}
use Rattle.ia32_laws.proofs.Zones.{shown-in-frame}
use Rattle.ia32_laws.proofs.Elsewhere.{at-own-address}
use Rattle.ia32_laws.proofs.Words.{word-fits}
use Rattle.ia32_laws.proofs.Ops.{HasNumber, at-before, has-number, op-is}
use Rattle.ia32_laws.proofs.Choosing.{scratch-keeps}
use Rattle.ia32_laws.proofs.Flags.{places-compare}
use Rattle.ia32_laws.proofs.Numbers.{comparison-decides}
use Rattle.ia32_laws.specs.RoutinesOps.{NumbersSameFollow}
use Rattle.ia32_laws.proofs.Onward.{IsNext, goes-on}
use Rattle.ia32_laws.proofs.Routines.{check-stands}
use Rattle.ia32_laws.proofs.Traps.{check-passes, check-traps}

pub numbers-same-follow : NumbersSameFollow
numbers-same-follow a b code input g s x y supported state shown has a_is b_is r =
    followed code input g s (op.Same a b) false supported state has (
    subst (λ (v : Option Bool). FollowsKept code input s g false (given v go)) (sym known)
    (chosen (compared Eq (signed m) (signed n)) refl))
  where
    site : Site
    site = site_of code g.current.function

    frame : ℕ
    frame = (placement_of code g.current.function).frame

    o : Op
    o = op.Same a b

    m : ℕ
    m = cast_unsigned w32 x

    n : ℕ
    n = cast_unsigned w32 y

    fits : FitsOp (flow_at code.program g.current.function) o
    fits = (op-is code g o supported state has).fits

    one : HasNumber code g s a x
    one = has-number code input g s o a x supported state shown has (inl refl) fits.0 (number-is (value_at g a) x a_is)

    two : HasNumber code g s b y
    two = has-number code input g s o b y supported state shown has (inr (inl refl)) fits.1.0
        (number-is (value_at g b) y b_is)

    go : Bool → Moved
    go c = if c then onward code.program g else Halts (Trapped Check)

    same : compared Eq (signed m) (signed n) ≡ compared Eq x y
    same = ap (λ (z : ℤ). compared Eq z (signed n)) (to_z-of_z w32 x one.fits)
        ∙ ap (compared Eq x) (to_z-of_z w32 y two.fits)

    known : first_of (both (number_at g a) (number_at g b) (compared Eq))
        (arrays_compared Eq (array_at g a) (array_at g b)) ≡ Some (compared Eq (signed m) (signed n))
    known =
        ap (λ (v : Option ℤ). first_of (both v (number_at g b) (compared Eq))
        (arrays_compared Eq (array_at g a) (array_at g b))) a_is
        ∙ ap (λ (v : Option ℤ). first_of (both (Some x) v (compared Eq))
        (arrays_compared Eq (array_at g a) (array_at g b))) b_is
        ∙ ap Some (sym same)

    ends : (u : machine.State) (address : ℕ) (rest : List Item) (c : Bool) → Framed site frame u
        → Keeps (OutsideWord Esi) Anywhere s u → Comes code.text s (at_address address u)
        → ReadyAt site (item.JumpTrap (Some cond.Ne) ∷ rest) (at_address address u) → IsNext code g rest
        → holds cond.Ne u.flags ≡ Some (not c) → FollowsKept code input s g false (go c)
    ends u address rest true framed keeps comes ready next decided =
        let t : machine.State = at_address address u in
        let last = check-passes site cond.Ne rest t (sound-at site.text site.low site.high address u framed.sound)
        ready decided in
        goes-on code input g s u o last.0 rest supported state shown has refl (λ n h. h) framed.sound
        (scratch-keeps code g shown.frames s u o supported state has keeps) keeps.left keeps.taken keeps.written
        (comes-then code.text s t (at_address last.0 u) comes last.1) last.2 next
    ends u address rest false framed keeps comes ready next decided =
        let t : machine.State = at_address address u in
        let last = check-traps site cond.Ne rest t (sound-at site.text site.low site.high address u framed.sound)
        (check-stands code g.current.function supported) ready decided in (
          at_address last.0 u,
          comes-then code.text s t (at_address last.0 u) comes last.1,
          last.2,
          last.3,
          keeps.taken ∙ shown.taken,
          keeps.written ∙ shown.written,
        )

    chosen : (c : Bool) → compared Eq (signed m) (signed n) ≡ c → FollowsKept code input s g false (go c)
    chosen c is =
        let row = at-before code g s b two.place (λ p. same_row one.place p) two.at
        (at-before code g s a one.place (λ p. same_row p (before_at code g b)) one.at r) in
        let framed : Framed site frame s = (shown-in-frame code input g s supported state shown).framed in
        let check : List Item = item.JumpTrap (Some cond.Ne) ∷ [] in
        let own : at_address s.eip s ≡ s = at-own-address code g.current.function
        (same_row one.place two.place ++ row.rest) s supported row.ready in
        let ready : ReadyAt site (comparing one.place two.place ++ (check ++ row.rest)) (at_address s.eip s) =
        subst (λ (v : machine.State). ReadyAt site (comparing one.place two.place ++ (check ++ row.rest)) v) (sym own)
        (subst (λ (xs : List Item). ReadyAt site xs s) (append_assoc (comparing one.place two.place) check row.rest)
        row.ready) in
        let compares = places-compare site frame one.place two.place m n s framed one.holds one.inside two.holds
        two.inside one.contains two.contains (word-fits x one.fits) in
        let u : machine.State = compares.0 in
        let went = straight-goes site (comparing one.place two.place) (check ++ row.rest) s u s.eip framed.sound ready
        compares.1.leads in
        ends u went.0 row.rest c compares.1.framed compares.1.keeps
        (subst (λ (v : machine.State). Comes code.text v (at_address went.0 u)) own went.1) went.2 row.follows
        (ap (holds cond.Ne) compares.1.flags
        ∙ comparison-decides Ne m n (word-fits x one.fits) (word-fits y two.fits)
        ∙ ap (λ (v : Bool). Some (not v)) is)

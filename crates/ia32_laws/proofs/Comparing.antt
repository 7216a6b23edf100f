-- The machine follows comparisons of any two values.
use Rattle.std.proofs.Common.{◌≡◌, ℕ, Bool, true, false, pos, List, [], ◌∷◌, ◌++◌, Option, Some, None, inl, inr, refl}
use Rattle.std.proofs.Common.{sym, ap, subst, ◌∙◌, append_assoc, arith}
use Rattle.std.specs.Prelude.{◌⊎◌, if◌then◌else◌, not, unwrap_or}
use Rattle.std.specs.Int.{w32, cast_unsigned}
use Rattle.std.proofs.lemmas.Option.{none-some}
use Rattle.pcc_base.specs.Outcome.{Array, Number, Trapped, Value}
use Rattle.pcc_base.specs.declared.run.Trap.TheVariants.{Check}
use Rattle.pcc_base.specs.declared.run.Width.{Width}
use Rattle.pcc_base.specs.declared.run.Width.TheVariants.{Two}
use Rattle.ia32_insn.specs.declared.register_names.Reg32.TheVariants.{Esi}
use Rattle.ia32_insn.specs.Places.{Place, InSlot}
use Rattle.ia32_insn.specs.declared.insn.AluOp.TheVariants as alu
use Rattle.ia32_insn.specs.declared.insn.Cond.{Cond}
use Rattle.ia32_insn.specs.declared.insn.Cond.TheVariants as cond
use Rattle.ia32_insn.specs.declared.item.Item.{Item}
use Rattle.ia32_insn.specs.declared.item.Item.TheVariants as item
use Rattle.ia32_insn.specs.State as machine
use Rattle.ia32_insn.specs.State.{at_address}
use Rattle.ia32_insn.specs.Arithmetic.{alu_flags, holds}
use Rattle.ia32_insn.specs.Meaning.{bit}
use Rattle.flow_graph.specs.declared.op.Comparison.{Comparison}
use Rattle.flow_graph.specs.declared.op.Comparison.TheVariants.{Eq, Ne}
use Rattle.flow_graph.specs.declared.op.Order.{Order}
use Rattle.flow_graph.specs.declared.op.Op.{Op}
use Rattle.flow_graph.specs.declared.op.Op.TheVariants as op
use Rattle.flow_graph.specs.Graphs.{FitsOp, Flow, HasWidth}
use Rattle.flow_graph.specs.Liveness.{BeginsWith, IsBehind, LeadsTo, defined}
use Rattle.flow_graph.specs.Meaning.{Halts, Moved, both, comparison, given, into_block, onward, ordered, ordering}
use Rattle.flow_graph.specs.Meaning.{sets}
use Rattle.flow_graph.specs.States as graph
use Rattle.flow_graph.specs.States.{active_of, flow_at, number_of, op_at, value_at}
use Rattle.flow_graph.specs.WellFormed.{IsState}
use Rattle.ia32_laws.proofs.Landing.{FollowsKept, followed}
use Rattle.ia32_rows.specs.Paths.{Comes}
use Rattle.ia32_rows.specs.Placements.{Code, placement_of}
use Rattle.ia32_rows.specs.Sites.{Anywhere, Framed, ReadyAt, Site, StandsFrom}
use Rattle.ia32_rows.proofs.Sound.{sound-at}
use Rattle.ia32_rows.proofs.Steps.{comes-then}
use Rattle.ia32_rows.specs.Rows.{branching, comparing, cond_of, cond_of_order, loop_label, moves_into, same_row}
use Rattle.ia32_rows.specs.Rows.{setting}
use Rattle.ia32_rows.specs.Shows.{IsWord, Shows}
use Rattle.ia32_rows.specs.Effects.{Keeps, OutsideWord}
use Rattle.ia32_rows.proofs.Straight.{straight-goes}
use Rattle.ia32_laws.specs.Supports.{HoldsWidth, IsSupported, site_of}
use Rattle.ia32_laws.specs.KeepsOps.{RowAt, after_at, before_at}
use Rattle.ia32_laws.proofs.Ops.{at-after, at-before, holds-word, op-is}
use Rattle.ia32_laws.proofs.Puts.{IsLow, puts-follow}
use Rattle.ia32_laws.proofs.Elsewhere.{at-own-address}
use Rattle.ia32_laws.proofs.Shown.{point-supported}
use Rattle.ia32_laws.proofs.Zones.{shown-in-frame}
use Rattle.ia32_laws.specs.CoresOps.{BlockAt, NumbersBranchFollow, NumbersSetFollow, branch_at}
use Rattle.ia32_laws.proofs.Branches.{branch-goes}
use Rattle.ia32_laws.proofs.Choosing.{enters, scratch-keeps, way-of}
use Rattle.ia32_laws.proofs.Conditions.{set-puts}
use Rattle.ia32_laws.proofs.Flags.{places-compare}
use Rattle.ia32_laws.proofs.Numbers.{comparison-decides, order-decides}
use Rattle.ia32_laws.proofs.Onward.{IsNext, goes-on}
use Rattle.ia32_laws.proofs.Routines.{check-stands}
use Rattle.ia32_laws.proofs.Traps.{check-passes, check-traps}
use Rattle.ia32_laws.specs.Ops.{BranchFollows, OrderBranchFollows, OrderSetFollows, SameFollows, SetFollows}
use Rattle.ia32_laws.proofs.Compared.{HasWord, has-word, words-decide}

-- ---- 1 or 0 by a comparison

-- the number that says whether a comparison holds, and its word
flag-low : (code : Code) (g : graph.State) (frames : List ℕ) (b : Bool)
    → IsLow code (active_of g) frames (Some Two) (Number (if b then pos 1 else pos 0)) (bit b)
flag-low code g frames true = (record { sfits = omega arith }, refl)
flag-low code g frames false = (record { sfits = omega arith }, refl)

-- A condition that the flags of CMP of two words decide, as a number in a variable.
truth-follows : (c : Cond) (t : Bool) (o : Op) (d a b : ℕ) (code : Code) (input : List ℕ) (g : graph.State)
    (s : machine.State) → IsSupported code → (state : IsState code.program g) → (shown : Shows code input g s)
    → op_at code.program g ≡ Some o → defined o ≡ Some d
    → ((next : ℕ) → IsBehind (flow_at code.program g.current.function) g.point next
    → LeadsTo (flow_at code.program g.current.function) g.point next o)
    → HasWidth (flow_at code.program g.current.function) d Two
    → (one : HasWord code g shown.frames s a) → (two : HasWord code g shown.frames s b)
    → holds c (Some (alu_flags alu.Cmp one.word two.word)) ≡ Some t
    → RowAt code g (setting c (after_at code g d) (before_at code g a) (before_at code g b)) s
    → FollowsKept code input s g false (sets code.program g d (Number (if t then pos 1 else pos 0)))
truth-follows c t o d a b code input g s h state shown has sets_d leads wd one two decided r =
    let here = point-supported code g o h state has in
    let (place, at) = here.written d sets_d in
    let for = here.after d place at in
    let wide : HoldsWidth (Some Two) place = subst (λ (w : Option Width). HoldsWidth w place) wd for.holds in
    let four = (h.supports g.current.function state.active.0.function).four_words in
    let puts = set-puts (site_of code g.current.function) (placement_of code g.current.function).frame c t place
    one.place two.place one.word two.word s (shown-in-frame code input g s h state shown).framed four
    (holds-word place wide) for.inside one.holds one.inside two.holds two.inside one.contains two.contains
    one.small decided in
    puts-follow code input g s o d (bit t) (Number (if t then pos 1 else pos 0)) place
    (setting c place one.place two.place) h state shown has sets_d leads
    (at-before code g s b two.place (λ p. setting c place one.place p) two.at
    (at-before code g s a one.place (λ p. setting c place p (before_at code g b)) one.at
    (at-after code g s d place (λ p. setting c p (before_at code g a) (before_at code g b)) at r))) at puts
    (subst (λ (v : Option Width). IsLow code (active_of g) shown.frames v (Number (if t then pos 1 else pos 0)) (bit t))
    (sym wd) (flag-low code g shown.frames t)) tt

-- the flags of CMP decide a comparison of two values
compared-decides : (code : Code) (input : List ℕ) (g : graph.State) (s : machine.State) → IsSupported code
    → IsState code.program g → (shown : Shows code input g s) → (how : Comparison) (a b : ℕ) (t : Bool)
    → (one : HasWord code g shown.frames s a) → (two : HasWord code g shown.frames s b) → comparison how g a b ≡ Some t
    → holds (cond_of how) (Some (alu_flags alu.Cmp one.word two.word)) ≡ Some t
compared-decides code input g s h state shown how a b t one two e =
    comparison-decides how one.word two.word one.small two.small
    ∙ ap Some (words-decide code input g s h state shown how a b t one two e)

pub set-follows : SetFollows
set-follows how d a b code input g s h state shown has r =
    followed code input g s (op.Set how d a b) false h state has (
    chosen (comparison how g a b) refl)
  where
    o : Op
    o = op.Set how d a b

    fits : FitsOp (flow_at code.program g.current.function) o
    fits = (op-is code g o h state has).fits

    one : HasWord code g shown.frames s a
    one = has-word code input g s o a h state shown has (inl refl) fits.1.0

    two : HasWord code g shown.frames s b
    two = has-word code input g s o b h state shown has (inr (inl refl)) fits.1.1.0

    go : Bool → Moved
    go c = sets code.program g d (Number (if c then pos 1 else pos 0))

    chosen : (c : Option Bool) → comparison how g a b ≡ c → FollowsKept code input s g false (given c go)
    chosen None e = tt
    chosen (Some t) e =
        truth-follows (cond_of how) t o d a b code input g s h state shown has refl (λ next k. k) fits.0 one two
        (compared-decides code input g s h state shown how a b t one two e) r

pub numbers-set-follow : NumbersSetFollow
numbers-set-follow how d a b code input g s x y h state shown has a_is b_is r =
    set-follows how d a b code input g s h state shown has r

-- ---- the order of two numbers without sign

-- the flags of CMP decide it
order-decide : (code : Code) (g : graph.State) (frames : List ℕ) (how : Order) (v w : Value) (m n : ℕ) (t : Bool)
    → IsWord code (active_of g) frames v m → IsWord code (active_of g) frames w n
    → both (number_of (Some v)) (number_of (Some w)) (ordered how) ≡ Some t
    → holds (cond_of_order how) (Some (alu_flags alu.Cmp m n)) ≡ Some t
order-decide code g frames how (Number x) (Number y) m n t at to e =
    ap (λ (k : ℕ). holds (cond_of_order how) (Some (alu_flags alu.Cmp k n))) at.1
    ∙ ap (λ (k : ℕ). holds (cond_of_order how) (Some (alu_flags alu.Cmp (cast_unsigned w32 x) k))) to.1
    ∙ order-decides how x y at.0 to.0 ∙ e
order-decide code g frames how (Number x) (Array q) m n t at to e = absurd (none-some t e)
order-decide code g frames how (Array p) w m n t at to e = absurd (none-some t e)

ordering-decides : (code : Code) (input : List ℕ) (g : graph.State) (s : machine.State)
    → (shown : Shows code input g s) → (how : Order) (a b : ℕ) (t : Bool) → (one : HasWord code g shown.frames s a)
    → (two : HasWord code g shown.frames s b) → ordering how g a b ≡ Some t
    → holds (cond_of_order how) (Some (alu_flags alu.Cmp one.word two.word)) ≡ Some t
ordering-decides code input g s shown how a b t one two e =
    let P : Option Value → Option Value → Type 0 = λ v w. both (number_of v) (number_of w) (ordered how) ≡ Some t in
    let first : P (Some one.value) (value_at g b) =
    subst (λ (v : Option Value). P v (value_at g b)) one.held e in
    order-decide code g shown.frames how one.value two.value one.word two.word t one.is two.is
    (subst (λ (w : Option Value). P (Some one.value) w) two.held first)

pub order-set-follows : OrderSetFollows
order-set-follows how d a b code input g s h state shown has r =
    followed code input g s (op.Setu how d a b) false h state has (
    chosen (ordering how g a b) refl)
  where
    o : Op
    o = op.Setu how d a b

    fits : FitsOp (flow_at code.program g.current.function) o
    fits = (op-is code g o h state has).fits

    one : HasWord code g shown.frames s a
    one = has-word code input g s o a h state shown has (inl refl) fits.1.0

    two : HasWord code g shown.frames s b
    two = has-word code input g s o b h state shown has (inr (inl refl)) fits.1.1.0

    go : Bool → Moved
    go c = sets code.program g d (Number (if c then pos 1 else pos 0))

    chosen : (c : Option Bool) → ordering how g a b ≡ c → FollowsKept code input s g false (given c go)
    chosen None e = tt
    chosen (Some t) e =
        truth-follows (cond_of_order how) t o d a b code input g s h state shown has refl (λ next k. k) fits.0 one two
        (ordering-decides code input g s shown how a b t one two e) r

-- ---- a check

pub same-follows : SameFollows
same-follows a b code input g s h state shown has r =
    followed code input g s (op.Same a b) false h state has (
    chosen (comparison Eq g a b) refl)
  where
    site : Site
    site = site_of code g.current.function

    frame : ℕ
    frame = (placement_of code g.current.function).frame

    o : Op
    o = op.Same a b

    fits : FitsOp (flow_at code.program g.current.function) o
    fits = (op-is code g o h state has).fits

    one : HasWord code g shown.frames s a
    one = has-word code input g s o a h state shown has (inl refl) fits.0

    two : HasWord code g shown.frames s b
    two = has-word code input g s o b h state shown has (inr (inl refl)) fits.1.0

    go : Bool → Moved
    go c = if c then onward code.program g else Halts (Trapped Check)

    ends : (u : machine.State) (address : ℕ) (rest : List Item) (c : Bool) → Framed site frame u
        → Keeps (OutsideWord Esi) Anywhere s u → Comes code.text s (at_address address u)
        → ReadyAt site (item.JumpTrap (Some cond.Ne) ∷ rest) (at_address address u) → IsNext code g rest
        → holds cond.Ne u.flags ≡ Some (not c) → FollowsKept code input s g false (go c)
    ends u address rest true framed keeps comes ready next decided =
        let t : machine.State = at_address address u in
        let last = check-passes site cond.Ne rest t (sound-at site.text site.low site.high address u framed.sound)
        ready decided in
        goes-on code input g s u o last.0 rest h state shown has refl (λ n k. k) framed.sound
        (scratch-keeps code g shown.frames s u o h state has keeps) keeps.left keeps.taken keeps.written
        (comes-then code.text s t (at_address last.0 u) comes last.1) last.2 next
    ends u address rest false framed keeps comes ready next decided =
        let t : machine.State = at_address address u in
        let last = check-traps site cond.Ne rest t (sound-at site.text site.low site.high address u framed.sound)
        (check-stands code g.current.function h) ready decided in (
          at_address last.0 u,
          comes-then code.text s t (at_address last.0 u) comes last.1,
          last.2,
          last.3,
          keeps.taken ∙ shown.taken,
          keeps.written ∙ shown.written,
        )

    chosen : (c : Option Bool) → comparison Eq g a b ≡ c → FollowsKept code input s g false (given c go)
    chosen None e = tt
    chosen (Some t) e =
        let row = at-before code g s b two.place (λ p. same_row one.place p) two.at
        (at-before code g s a one.place (λ p. same_row p (before_at code g b)) one.at r) in
        let framed : Framed site frame s = (shown-in-frame code input g s h state shown).framed in
        let check : List Item = item.JumpTrap (Some cond.Ne) ∷ [] in
        let own : at_address s.eip s ≡ s = at-own-address code g.current.function
        (same_row one.place two.place ++ row.rest) s h row.ready in
        let ready : ReadyAt site (comparing one.place two.place ++ (check ++ row.rest)) (at_address s.eip s) =
        subst (λ (v : machine.State). ReadyAt site (comparing one.place two.place ++ (check ++ row.rest)) v) (sym own)
        (subst (λ (xs : List Item). ReadyAt site xs s) (append_assoc (comparing one.place two.place) check row.rest)
        row.ready) in
        let compares = places-compare site frame one.place two.place one.word two.word s framed one.holds one.inside
        two.holds two.inside one.contains two.contains one.small in
        let u : machine.State = compares.0 in
        let went = straight-goes site (comparing one.place two.place) (check ++ row.rest) s u s.eip framed.sound ready
        compares.1.leads in
        ends u went.0 row.rest t compares.1.framed compares.1.keeps
        (subst (λ (v : machine.State). Comes code.text v (at_address went.0 u)) own went.1) went.2 row.follows
        (ap (holds cond.Ne) compares.1.flags ∙ comparison-decides Ne one.word two.word one.small two.small
        ∙ ap (λ (v : Bool). Some (not v)) (words-decide code input g s h state shown Eq a b t one two e))

-- ---- a branch

-- A condition that the flags of CMP of two words decide, as a branch.
condition-follows : (c : Cond) (t : Bool) (o : Op) (a b first second : ℕ) (code : Code) (input : List ℕ)
    (g : graph.State) (s : machine.State) (rest : List Item) → IsSupported code → (state : IsState code.program g)
    → (shown : Shows code input g s) → op_at code.program g ≡ Some o → defined o ≡ None
    → ((to next : ℕ) → (to ≡ first) ⊎ (to ≡ second)
    → BeginsWith (flow_at code.program g.current.function) to next
    → LeadsTo (flow_at code.program g.current.function) g.point next o)
    → (one : HasWord code g shown.frames s a) → (two : HasWord code g shown.frames s b)
    → holds c (Some (alu_flags alu.Cmp one.word two.word)) ≡ Some t → BlockAt code g first → BlockAt code g second
    → ReadyAt (site_of code g.current.function) (branch_at c a b first second code g ++ rest) s
    → FollowsKept code input s g false (into_block code.program (if t then first else second) g)
condition-follows c t o a b first second code input g s rest h state shown has none leads one two decided one_at two_at
    ready =
    let to = block t in
    let went = branch-goes site frame c t (loop_label (flow_at code.program g.current.function) g.point) one.place
    two.place (moves first) (moves second) first second one.word two.word s s.eip to.front to.back rest to.start
    (shown-in-frame code input g s h state shown).framed one.holds one.inside two.holds two.inside one.contains
    two.contains one.small decided here (stands t) in
    enters code input g s went.0 o (if t then first else second) went.3 h state shown has none
    (λ next. leads (if t then first else second) next (either t)) went.1 went.2
    (subst (λ (v : machine.State). Comes code.text v (at_address went.3 went.0)) own went.4) to
    (way-of code g first second to.back (at_address went.3 went.0) t went.5)
  where
    site : Site
    site = site_of code g.current.function

    frame : ℕ
    frame = (placement_of code g.current.function).frame

    own : at_address s.eip s ≡ s
    own = at-own-address code g.current.function
        (branch_at c a b first second code g ++ rest) s h ready

    -- the moves on the way to a block
    moves : ℕ → List Item
    moves block =
        moves_into (flow_at code.program g.current.function) (placement_of code g.current.function) g.point block

    -- the row, by where the two variables stand
    row : Place → Place → List Item
    row p q =
        branching c (loop_label (flow_at code.program g.current.function) g.point) p q (moves first) (moves second)
        first second ++ rest

    here : ReadyAt site (row one.place two.place) (at_address s.eip s)
    here =
        subst (λ (v : machine.State). ReadyAt site (row one.place two.place) v) (sym own)
        (subst (λ (p : Place). ReadyAt site (row one.place p) s)
        (ap (λ (v : Option Place). unwrap_or v (InSlot 0)) two.at)
        (subst (λ (p : Place). ReadyAt site (row p (before_at code g b)) s)
        (ap (λ (v : Option Place). unwrap_or v (InSlot 0)) one.at) ready))

    block : (c : Bool) → BlockAt code g (if c then first else second)
    block true = one_at
    block false = two_at

    stands : (c : Bool)
        → StandsFrom site ((block c).front ++ (item.Label (if c then first else second) ∷ (block c).back))
        (block c).start
    stands true = one_at.stands
    stands false = two_at.stands

    either : (c : Bool) → ((if c then first else second) ≡ first) ⊎ ((if c then first else second) ≡ second)
    either true = inl refl
    either false = inr refl

-- the first block leads from a branch, and so does the second
leads-either : (flow : Flow) (first second to next : ℕ) → (to ≡ first) ⊎ (to ≡ second) → BeginsWith flow to next
    → BeginsWith flow first next ⊎ BeginsWith flow second next
leads-either flow first second to next (inl e) k = inl (subst (λ (n : ℕ). BeginsWith flow n next) e k)
leads-either flow first second to next (inr e) k = inr (subst (λ (n : ℕ). BeginsWith flow n next) e k)

pub branch-follows : BranchFollows
branch-follows how a b first second code input g s rest h state shown has one_at two_at ready =
    followed code input g s (op.Branch how a b first second) false h state has (
    chosen (comparison how g a b) refl)
  where
    o : Op
    o = op.Branch how a b first second

    fits : FitsOp (flow_at code.program g.current.function) o
    fits = (op-is code g o h state has).fits

    one : HasWord code g shown.frames s a
    one = has-word code input g s o a h state shown has (inl refl) fits.0

    two : HasWord code g shown.frames s b
    two = has-word code input g s o b h state shown has (inr (inl refl)) fits.1.0

    go : Bool → Moved
    go c = into_block code.program (if c then first else second) g

    chosen : (c : Option Bool) → comparison how g a b ≡ c → FollowsKept code input s g false (given c go)
    chosen None e = tt
    chosen (Some t) e =
        condition-follows (cond_of how) t o a b first second code input g s rest h state shown has refl
        (leads-either (flow_at code.program g.current.function) first second) one two
        (compared-decides code input g s h state shown how a b t one two e) one_at two_at ready

pub numbers-branch-follow : NumbersBranchFollow
numbers-branch-follow how a b first second code input g s x y rest h state shown has a_is b_is one_at two_at ready =
    branch-follows how a b first second code input g s rest h state shown has one_at two_at ready

pub order-branch-follows : OrderBranchFollows
order-branch-follows how a b first second code input g s rest h state shown has one_at two_at ready =
    followed code input g s (op.Branchu how a b first second) false h state has (
    chosen (ordering how g a b) refl)
  where
    o : Op
    o = op.Branchu how a b first second

    fits : FitsOp (flow_at code.program g.current.function) o
    fits = (op-is code g o h state has).fits

    one : HasWord code g shown.frames s a
    one = has-word code input g s o a h state shown has (inl refl) fits.0

    two : HasWord code g shown.frames s b
    two = has-word code input g s o b h state shown has (inr (inl refl)) fits.1.0

    go : Bool → Moved
    go c = into_block code.program (if c then first else second) g

    chosen : (c : Option Bool) → ordering how g a b ≡ c → FollowsKept code input s g false (given c go)
    chosen None e = tt
    chosen (Some t) e =
        condition-follows (cond_of_order how) t o a b first second code input g s rest h state shown has refl
        (leads-either (flow_at code.program g.current.function) first second) one two
        (ordering-decides code input g s shown how a b t one two e) one_at two_at ready

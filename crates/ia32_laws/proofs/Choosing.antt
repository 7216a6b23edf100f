-- The machine follows a branch on a comparison of two numbers.
use Rattle.std.proofs.Common.{◌≡◌, ℕ, Bool, true, false, List, ◌∷◌, ◌++◌, Option, Some, None}
use Rattle.std.proofs.Common.{inl, inr, refl, sym, ap, subst, ◌∙◌, append_assoc, arith}
use Rattle.std.specs.Prelude.{drop, slice_get, if◌then◌else◌, []}
use Rattle.std.proofs.lemmas.Option.{none-some, same_Some}
use Rattle.ia32_insn.specs.declared.register_names.Reg32.TheVariants.{Esp, Ebp, Esi}
use Rattle.ia32_insn.specs.Places.{Place, InWord, InByte, InSlot}
use Rattle.ia32_insn.specs.declared.item.Item.{Item}
use Rattle.ia32_insn.specs.declared.item.Item.TheVariants as item
use Rattle.ia32_insn.specs.State as machine
use Rattle.ia32_insn.specs.State.{at_address}
use Rattle.ia32_insn.specs.Meaning.{word_of}
use Rattle.flow_graph.specs.declared.op.Op.{Op}
use Rattle.flow_graph.specs.declared.op.Op.TheVariants as op
use Rattle.flow_graph.specs.Graphs.{IsIn, points_of}
use Rattle.flow_graph.specs.Liveness.{BeginsWith, LeadsTo, defined}
use Rattle.flow_graph.specs.Meaning.{at_point, into_block}
use Rattle.flow_graph.specs.States as graph
use Rattle.flow_graph.specs.States.{array_at, entry_of, flow_at, number_at, op_at, value_at}
use Rattle.flow_graph.specs.WellFormed.{IsState}
use Rattle.ia32_rows.specs.Follows.{ComesTo}
use Rattle.ia32_laws.specs.CoresLaws.{IsOnTheWay}
use Rattle.ia32_laws.specs.KeepsLaws.{moved_to}
use Rattle.ia32_laws.specs.MovesLaws.{ShowsBehind}
use Rattle.ia32_laws.proofs.Landing.{FollowsKept, followed, lands}
use Rattle.ia32_laws.proofs.Moving.{moves-jump}
use Rattle.ia32_rows.specs.Paths.{Comes}
use Rattle.ia32_rows.specs.Placements.{Code, Placement, placement_of}
use Rattle.ia32_rows.specs.Shows.{Shows}
use Rattle.ia32_rows.specs.Sites.{Anywhere, Framed, ReadyAt, Site, StandsFrom}
use Rattle.ia32_rows.proofs.Sound.{sound-at}
use Rattle.ia32_rows.proofs.Steps.{comes-not, comes-then}
use Rattle.ia32_rows.specs.Effects.{Keeps, OutsideWord}
use Rattle.ia32_rows.specs.Contains.{IsPlaceIn}
use Rattle.ia32_rows.proofs.Kept.{PlaceHasCells, PlaceHasMemory, contains-kept, keeps-same, other-cells, word-kept}
use Rattle.ia32_rows.proofs.Moves.{byte-below, general-below}
use Rattle.ia32_laws.specs.Supports.{IsSupported, site_of}
use Rattle.ia32_laws.specs.Protected.{KeepsShown}
use Rattle.ia32_laws.proofs.Shown.{moved-shows, point-supported}
use Rattle.ia32_laws.proofs.Zones.{shown-in-frame}
use Rattle.ia32_laws.proofs.Elsewhere.{at-own-address, keeps-at}
use Rattle.ia32_rows.specs.Rows.{jumping, moves_into, moves_to}
use Rattle.ia32_laws.specs.CoresOps.{BlockAt, JumpFollows}
use Rattle.ia32_laws.proofs.Beside.{same-from}
use Rattle.flow_graph.proofs.Changes.{first-in}

-- ---- what is kept

-- ESI is in no place
scratch-cells : (frame : ℕ) (q : Place) → IsPlaceIn frame q → PlaceHasCells (OutsideWord Esi) q
scratch-cells frame (InWord r) placed =
    let b = general-below r placed in other-cells r Esi (λ e. omega (arith, e, b))
scratch-cells frame (InByte r) placed = let b = byte-below r in inl (omega arith)
scratch-cells frame (InSlot k) placed = tt

pub all-memory : (base : ℕ) (q : Place) → PlaceHasMemory Anywhere base q
all-memory base (InWord r) = tt
all-memory base (InByte r) = tt
all-memory base (InSlot k) = (tt, tt)

-- a row that changes ESI alone keeps what is shown
pub scratch-keeps : (code : Code) (g : graph.State) (frames : List ℕ) (s u : machine.State) (o : Op) → IsSupported code
    → IsState code.program g → op_at code.program g ≡ Some o → Keeps (OutsideWord Esi) Anywhere s u
    → KeepsShown code g frames None s u
scratch-keeps code g frames s u o supported state has keeps =
    let frame : ℕ = (placement_of code g.current.function).frame in
    let here = point-supported code g o supported state has in
    let ebp : word_of Ebp u ≡ word_of Ebp s = word-kept (OutsideWord Esi) Anywhere Ebp s u keeps
    (other-cells Ebp Esi (λ e. omega (arith, e))) in
    record {
      esp = word-kept (OutsideWord Esi) Anywhere Esp s u keeps (other-cells Esp Esi (λ e. omega (arith, e)));
      ebp = ebp;
      protected = λ n a v reads e. keeps.loads n a v tt e;
      others = λ v other distinct behind.
          same-from other s u ebp (λ width x contains.
          contains-kept (OutsideWord Esi) Anywhere s u width other x keeps
          (other-cells Ebp Esi (λ e. omega (arith, e)))
          (scratch-cells frame other (here.after v other behind).inside) (all-memory (word_of Ebp s) other) contains);
    }

-- ---- the branch

-- on the way to a block
pub enters : (code : Code) (input : List ℕ) (g : graph.State) (s u : machine.State) (o : Op) (block after : ℕ)
    → IsSupported code → IsState code.program g → Shows code input g s
    → op_at code.program g ≡ Some o → defined o ≡ None
    → ((next : ℕ) → BeginsWith (flow_at code.program g.current.function) block next
    → LeadsTo (flow_at code.program g.current.function) g.point next o)
    → Framed (site_of code g.current.function) (placement_of code g.current.function).frame u
    → Keeps (OutsideWord Esi) Anywhere s u → Comes code.text s (at_address after u)
    → (to : BlockAt code g block)
    → IsOnTheWay (site_of code g.current.function)
    (moves_into (flow_at code.program g.current.function) (placement_of code g.current.function) g.point block) block
    to.back (at_address after u)
    → FollowsKept code input s g false (into_block code.program block g)
enters code input g s u o block after supported state shown has none leads framed keeps comes to way =
    follow (entry_of code.program g.current.function block) refl
  where
    site : Site
    site = site_of code g.current.function

    placement : Placement
    placement = placement_of code g.current.function

    t : machine.State
    t = at_address after u

    follow : (next : Option ℕ) → entry_of code.program g.current.function block ≡ next
        → FollowsKept code input s g false (at_point block g next)
    follow None e = tt
    follow (Some q) e = λ kept.
        let h : graph.State = moved_to block q g.left g.taken g.written g in
        let moves : moves_to placement g.point (entry_of code.program g.current.function block)
        ≡ moves_to placement g.point (Some q) = ap (moves_to placement g.point) e in
        let behind : ShowsBehind code input g.point h t =
        moved-shows code input g s t o block q g.left g.taken g.written supported state shown has none
        (keeps-at code g shown.frames None after s u
        (scratch-keeps code g shown.frames s u o supported state has keeps))
        (record {
          leads = ((g.block, state.placed), o, has, leads q e);
          placed = first-in q (points_of (flow_at code.program g.current.function) block) e;
          sound = sound-at site.text site.low site.high after u framed.sound;
          left = keeps.left ∙ shown.left;
          taken = keeps.taken ∙ shown.taken;
          written = keeps.written ∙ shown.written;
          of_input = keeps.left ∙ shown.of_input ∙ ap (λ (k : ℕ). drop k input) (sym keeps.taken);
        }) in
        let (more, is) = to.begins q e in
        arrive q e kept more is moves behind way
      where
        arrive : (q : ℕ) → entry_of code.program g.current.function block ≡ Some q → IsState code.program
            (moved_to block q g.left g.taken g.written g) → (more : List Item)
            → to.back ≡ item.Point q ∷ more
            → moves_to placement g.point (entry_of code.program g.current.function block)
            ≡ moves_to placement g.point (Some q)
            → ShowsBehind code input g.point (moved_to block q g.left g.taken g.written g) t
            → IsOnTheWay site (moves_to placement g.point (entry_of code.program g.current.function block)) block
            to.back t
            → ComesTo code input s (moved_to block q g.left g.taken g.written g)
        arrive q e kept more is moves behind (inl (rest, ready)) =
            let items : List Item = moves_to placement g.point (Some q) in
            let here : ReadyAt site (items ++ item.JumpTo block ∷ rest) t =
            subst (λ (xs : List Item). ReadyAt site xs t)
            (ap (λ (xs : List Item). (xs ++ item.JumpTo block ∷ []) ++ rest) moves
            ∙ append_assoc items (item.JumpTo block ∷ []) rest) ready in
            let there : StandsFrom site (to.front ++ (item.Label block ∷ item.Point q ∷ more)) to.start =
            subst (λ (xs : List Item). StandsFrom site (to.front ++ (item.Label block ∷ xs)) to.start) is to.stands in
            let last = moves-jump code input (moved_to block q g.left g.taken g.written g) t g.point block to.front more
            rest to.start supported kept ((g.block, state.placed), o, has, leads q e) behind here there in
            (last.0, comes-then code.text s t last.0 comes last.1, last.2)
        arrive q e kept more is moves behind (inr (nothing, ready)) =
            lands code input g.point (moved_to block q g.left g.taken g.written g) g.current.function q refl refl s t
            to.back more supported kept ((g.block, state.placed), o, has, leads q e) comes ready
            (is ∙ ap (λ (xs : List Item). xs ++ item.Point q ∷ more) (sym nothing ∙ moves)) behind

-- the way that a condition chooses leads to the block that it chooses
pub way-of : (code : Code) (g : graph.State) (first second : ℕ) (back : List Item) (t : machine.State) (c : Bool)
    → IsOnTheWay (site_of code g.current.function)
    (if c then moves_into (flow_at code.program g.current.function) (placement_of code g.current.function) g.point first
    else moves_into (flow_at code.program g.current.function) (placement_of code g.current.function) g.point second)
    (if c then first else second) back t
    → IsOnTheWay (site_of code g.current.function)
    (moves_into (flow_at code.program g.current.function) (placement_of code g.current.function) g.point
    (if c then first else second)) (if c then first else second) back t
way-of code g first second back t true way = way
way-of code g first second back t false way = way

-- ---- a jump

pub jump-follows : JumpFollows
jump-follows block code input g s rest supported state shown has at ready =
    followed code input g s (op.Jump block) false supported state has (
    let site : Site = site_of code g.current.function in
    let moves : List Item =
    moves_into (flow_at code.program g.current.function) (placement_of code g.current.function) g.point block in
    let framed : Framed site (placement_of code g.current.function).frame s =
    (shown-in-frame code input g s supported state shown).framed in
    let own : at_address s.eip s ≡ s =
    at-own-address code g.current.function (jumping moves block ++ rest) s supported ready in
    enters code input g s s (op.Jump block) block s.eip supported state shown has refl (λ next h. h) framed
    (keeps-same (OutsideWord Esi) Anywhere s)
    (subst (λ (v : machine.State). Comes code.text s v) (sym own) (comes-not code.text s)) at
    (inl (rest, subst (λ (v : machine.State). ReadyAt site (jumping moves block ++ rest) v) (sym own) ready)))

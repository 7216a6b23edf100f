-- A row that puts a word into a place, and takes cells of registers that the op doesn't spare, leads to a state that
-- shows the next.
use Rattle.std.proofs.Common.{◌≡◌, ◌⊎◌, ℕ, ◌+◌, ◌-◌, ◌*◌, ◌%◌, ◌<◌, ◌≤◌, false, List, ◌++◌, Option}
use Rattle.std.proofs.Common.{Some, None, Ok, inl, inr, refl, sym, ap, subst, ◌∙◌, arith}
use Rattle.std.specs.Prelude.{drop, slice_get}
use Rattle.std.proofs.lemmas.Option.{same_Some}
use Rattle.pcc_base.specs.Outcome.{Value}
use Rattle.pcc_base.specs.declared.run.Width.{Width}
use Rattle.pcc_base.specs.declared.run.Width.TheVariants.{One, Two}
use Rattle.ia32_insn.specs.declared.register_names.Reg32.TheVariants.{Esp, Ebp}
use Rattle.ia32_insn.specs.Places.{Place, InWord, InByte, InSlot}
use Rattle.ia32_insn.specs.declared.item.Item.{Item}
use Rattle.ia32_insn.specs.State as machine
use Rattle.ia32_insn.specs.State.{at_address}
use Rattle.ia32_insn.specs.Meaning.{byte_of, load, word_of}
use Rattle.flow_graph.specs.declared.op.Op.{Op}
use Rattle.flow_graph.specs.Graphs.{points_of}
use Rattle.flow_graph.specs.Liveness.{IsBehind, LeadsTo, defined}
use Rattle.flow_graph.specs.Meaning.{at_point, sets}
use Rattle.flow_graph.specs.States as graph
use Rattle.flow_graph.specs.States.{Activation, active_of, depth_of, flow_at, op_at, point_after, with_value}
use Rattle.flow_graph.specs.WellFormed.{IsState}
use Rattle.ia32_laws.specs.KeepsLaws.{moved_to}
use Rattle.ia32_laws.proofs.Landing.{FollowsKept, lands}
use Rattle.ia32_rows.specs.Paths.{Comes}
use Rattle.ia32_rows.specs.Placements.{Code, placement_of}
use Rattle.ia32_rows.specs.Shows.{IsByte, IsOldArray, IsWord, Shows, StandsIn}
use Rattle.ia32_rows.specs.Sites.{Framed, ReadyAt, Site}
use Rattle.ia32_rows.proofs.Sound.{sound-at}
use Rattle.ia32_rows.specs.Contains.{ApartFromPlace, Contains, IsPlaceIn, Untouched}
use Rattle.ia32_rows.specs.Laws.{ArePlacesApart, HoldsLow}
use Rattle.ia32_rows.proofs.Kept.{HasCells, PlaceHasCells, PlaceHasMemory, contains-kept, other-cells, word-kept}
use Rattle.ia32_rows.proofs.Moves.{byte-below, general-below}
use Rattle.ia32_rows.proofs.Straight.{straight-goes}
use Rattle.ia32_laws.specs.Supports.{HoldsWidth, IsPlaceFor, IsSpared, IsSupported, site_of}
use Rattle.ia32_laws.specs.Protected.{IsSame, KeepsShown}
use Rattle.ia32_laws.specs.KeepsOps.{RowAt}
use Rattle.ia32_laws.proofs.Shown.{point-supported, set-shows}
use Rattle.ia32_laws.proofs.Zones.{shown-in-frame}
use Rattle.ia32_laws.proofs.KeepsApart.{protected-is-apart}
use Rattle.ia32_laws.proofs.Puts.{IsLow}
use Rattle.ia32_laws.proofs.Elsewhere.{at-own-address, following-in, keeps-at, stands-at}
use Rattle.ia32_laws.specs.CoresLaws.{PutsBeside}
pub use Rattle.ia32_laws.proofs.Puts.{stands-low}
pub use Rattle.ia32_rows.proofs.Sums.{cells-apart, memory-apart}
pub use Rattle.ia32_laws.proofs.Elsewhere.{stack-untouched}

-- ---- cells

-- cells that pass both tests
both-cells : (R Q : ℕ → Type 0) (p : Place) → PlaceHasCells R p → PlaceHasCells Q p → PlaceHasCells (λ k. R k × Q k) p
both-cells R Q (InWord r) one two = λ m below. (one m below, two m below)
both-cells R Q (InByte r) one two = (one, two)
both-cells R Q (InSlot k) one two = tt

-- ---- what a row keeps

-- the cells that a row leaves beside its place: those of ESP and EBP, and of places that the op spares
pub record Spares (R : ℕ → Type 0) (o : Op) : Type 0 where
  pub esp : HasCells R Esp
  pub ebp : HasCells R Ebp
  pub places : (q : Place) → IsSpared o q → PlaceHasCells R q

-- what a place contains, from its words and bytes
pub same-from : (q : Place) (s u : machine.State) → word_of Ebp u ≡ word_of Ebp s
    → ((width : Width) (w : ℕ) → Contains s width q w → Contains u width q w) → IsSame (word_of Ebp s) q s u
same-from (InWord r) s u ebp kept = kept Two (word_of r s) refl
same-from (InByte r) s u ebp kept = kept One (byte_of r s) refl
same-from (InSlot slot) s u ebp kept = loaded
  where
    loaded : (n v : ℕ) → (n ≡ 4) ⊎ (n ≡ 1) → load n (word_of Ebp s - slot) s ≡ Ok v
        → load n (word_of Ebp s - slot) u ≡ Ok v
    loaded n v (inl e) h =
        subst (λ (m : ℕ). load m (word_of Ebp s - slot) u ≡ Ok v) (sym e)
        (subst (λ (b : ℕ). load 4 (b - slot) u ≡ Ok v) ebp
        (kept Two v (subst (λ (m : ℕ). load m (word_of Ebp s - slot) s ≡ Ok v) e h)))
    loaded n v (inr e) h =
        subst (λ (m : ℕ). load m (word_of Ebp s - slot) u ≡ Ok v) (sym e)
        (subst (λ (b : ℕ). load 1 (b - slot) u ≡ Ok v) ebp
        (kept One v (subst (λ (m : ℕ). load m (word_of Ebp s - slot) s ≡ Ok v) e h)))

beside-keeps : (R : ℕ → Type 0) (code : Code) (input : List ℕ) (g : graph.State) (s u : machine.State) (o : Op)
    (d w : ℕ) (place : Place) (items : List Item) → IsSupported code → IsState code.program g
    → (shown : Shows code input g s) → op_at code.program g ≡ Some o → defined o ≡ Some d → Spares R o
    → (placement_of code g.current.function).after g.point d ≡ Some place
    → PutsBeside R (site_of code g.current.function) (placement_of code g.current.function).frame items place w s u
    → KeepsShown code g shown.frames (Some d) s u
beside-keeps R code input g s u o d w place items supported state shown has defines spares at puts =
    let frame : ℕ = (placement_of code g.current.function).frame in
    let S : ℕ → Type 0 = λ k. Untouched place k × R k in
    let K : ℕ → ℕ → Type 0 = ApartFromPlace (word_of Ebp s) place in
    let here = point-supported code g o supported state has in
    let for = here.after d place at in
    let framed = (shown-in-frame code input g s supported state shown).framed in
    let bound = framed.esp in
    let has_esp : HasCells S Esp = λ m below.
    (stack-untouched frame (4 * 4 + m) place for.inside (omega arith) (omega arith), spares.esp m below) in
    let has_ebp : HasCells S Ebp = λ m below.
    (stack-untouched frame (4 * 5 + m) place for.inside (omega arith) (omega arith), spares.ebp m below) in
    let ebp : word_of Ebp u ≡ word_of Ebp s = word-kept S K Ebp s u puts.keeps has_ebp in
    record {
      esp = word-kept S K Esp s u puts.keeps has_esp;
      ebp = ebp;
      protected = λ n a v reads. puts.keeps.loads n a v
          ((protected-is-apart code input g s a n supported state shown reads).places d place for);
      others = λ v other distinct behind.
          let stays = here.stays v other (λ e. distinct (sym defines ∙ e)) behind in
          let apart = here.after_apart d v place other (λ e. distinct (ap Some e)) at behind in
          let inside = (here.after v other behind).inside in
          same-from other s u ebp (λ width x contains.
          contains-kept S K s u width other x puts.keeps has_ebp
          (both-cells (Untouched place) R other (cells-apart frame place other inside apart)
          (spares.places other stays.1))
          (memory-apart frame (word_of Ebp s) place other (omega arith) for.inside inside apart) contains);
    }

-- ---- where it leads

pub beside-follows : (R : ℕ → Type 0) (code : Code) (input : List ℕ) (g : graph.State) (s : machine.State) (o : Op)
    (d w : ℕ) (value : Value) (place : Place) (items : List Item) → IsSupported code → IsState code.program g
    → (shown : Shows code input g s) → op_at code.program g ≡ Some o → defined o ≡ Some d → Spares R o
    → ((next : ℕ) → IsBehind (flow_at code.program g.current.function) g.point next
    → LeadsTo (flow_at code.program g.current.function) g.point next o)
    → RowAt code g items s → (placement_of code g.current.function).after g.point d ≡ Some place
    → ((u : machine.State) × PutsBeside R (site_of code g.current.function)
    (placement_of code g.current.function).frame items place w s u)
    → IsLow code (active_of g) shown.frames (slice_get (flow_at code.program g.current.function).widths d) value w
    → IsOldArray (depth_of g) value
    → FollowsKept code input s g false (sets code.program g d value)
beside-follows R code input g s o d w value place items supported state shown has defines spares leads r at (u, puts)
    low old =
    follow (point_after code.program g.current.function g.block g.point) refl
  where
    site : Site
    site = site_of code g.current.function

    framed : Framed site (placement_of code g.current.function).frame s
    framed = (shown-in-frame code input g s supported state shown).framed

    keeps : KeepsShown code g shown.frames (Some d) s u
    keeps = beside-keeps R code input g s u o d w place items supported state shown has defines spares at puts

    for : IsPlaceFor (flow_at code.program g.current.function) (placement_of code g.current.function) d place
    for = (point-supported code g o supported state has).after d place at

    width : Option Width
    width = slice_get (flow_at code.program g.current.function).widths d

    follow : (next : Option ℕ) → point_after code.program g.current.function g.block g.point ≡ next
        → FollowsKept code input s g false (at_point g.block (with_value d value g) next)
    follow None e = tt
    follow (Some q) e = λ kept.
        let own : at_address s.eip s ≡ s = at-own-address code g.current.function (items ++ r.rest) s supported r.ready
        in
        let ready : ReadyAt site (items ++ r.rest) (at_address s.eip s) =
        subst (ReadyAt site (items ++ r.rest)) (sym own) r.ready in
        let went = straight-goes site items r.rest s u s.eip framed.sound ready puts.leads in
        let t : machine.State = at_address went.0 u in
        let comes : Comes code.text s t = subst (λ (x : machine.State). Comes code.text x t) own went.1 in
        let more = r.follows q e in
        lands code input g.point (with_value d value (moved_to g.block q g.left g.taken g.written g))
        g.current.function q refl refl s t r.rest more.0 supported kept
        ((g.block, state.placed), o, has, leads q (g.block, e))
        (comes) went.2 more.1
        (set-shows code input g s t o d value g.block q g.left g.taken g.written supported state shown has defines
        (keeps-at code g shown.frames (Some d) went.0 s u keeps)
        (λ other f. subst (StandsIn code (active_of g) shown.frames t (word_of Ebp t) width value)
        (same_Some place other (sym at ∙ f))
        (stands-at code (active_of g) shown.frames went.0 u (word_of Ebp u) width value place
        (stands-low code (active_of g) shown.frames u width value place w for.holds low puts.holds))) old
        (record {
          leads = ((g.block, state.placed), o, has, leads q (g.block, e));
          placed = following-in g.point q (points_of (flow_at code.program g.current.function) g.block) e;
          sound = sound-at site.text site.low site.high went.0 u puts.framed.sound;
          left = puts.keeps.left ∙ shown.left;
          taken = puts.keeps.taken ∙ shown.taken;
          written = puts.keeps.written ∙ shown.written;
          of_input = puts.keeps.left ∙ shown.of_input
              ∙ ap (λ (k : ℕ). drop k input) (sym puts.keeps.taken);
        }))

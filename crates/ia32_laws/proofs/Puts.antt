-- A row that puts a word into a place leads to a state that shows the next.
use Rattle.std.proofs.Common.{◌≡◌, ◌⊎◌, ℕ, ◌+◌, ◌-◌, ◌*◌, ◌%◌, false, List, ◌++◌}
use Rattle.std.proofs.Common.{Option, Some, None, Ok, inl, inr, refl, sym, ap, subst, ◌∙◌, arith}
use Rattle.std.specs.Prelude.{drop, slice_get}
use Rattle.std.proofs.lemmas.Option.{same_Some}
use Rattle.pcc_base.specs.Outcome.{Value}
use Rattle.pcc_base.specs.declared.run.Width.{Width}
use Rattle.pcc_base.specs.declared.run.Width.TheVariants.{One, Two}
use Rattle.ia32_insn.specs.declared.register_names.Reg32.TheVariants.{Esp, Ebp}
use Rattle.ia32_insn.specs.Places.{Place, InWord, InByte, InSlot}
use Rattle.ia32_insn.specs.declared.item.Item.{Item}
use Rattle.ia32_insn.specs.State as machine
use Rattle.ia32_insn.specs.State.{at_address}
use Rattle.ia32_insn.specs.Meaning.{load, word_of}
use Rattle.flow_graph.specs.declared.op.Op.{Op}
use Rattle.flow_graph.specs.Graphs.{points_of}
use Rattle.flow_graph.specs.Liveness.{IsBehind, LeadsTo, defined}
use Rattle.flow_graph.specs.Meaning.{at_point, sets}
use Rattle.flow_graph.specs.States as graph
use Rattle.flow_graph.specs.States.{Activation, active_of, depth_of, flow_at, op_at, point_after, with_value}
use Rattle.flow_graph.specs.WellFormed.{IsState}
use Rattle.ia32_laws.proofs.Elsewhere.{at-own-address, following-in, keeps-at, stack-untouched, stands-at}
use Rattle.ia32_laws.specs.KeepsLaws.{moved_to}
use Rattle.ia32_laws.proofs.Landing.{FollowsKept, lands}
use Rattle.ia32_rows.specs.Paths.{Comes}
use Rattle.ia32_rows.specs.Placements.{Code, placement_of}
use Rattle.ia32_rows.specs.Shows.{IsByte, IsOldArray, IsWord, Shows, StandsIn}
use Rattle.ia32_rows.specs.Sites.{Framed, ReadyAt, Site}
use Rattle.ia32_rows.proofs.Sound.{sound-at}
use Rattle.ia32_rows.specs.Contains.{ApartFromPlace, IsPlaceIn, Untouched}
use Rattle.ia32_rows.specs.Laws.{ArePlacesApart, HoldsLow, Puts}
use Rattle.ia32_rows.proofs.Kept.{word-kept}
use Rattle.ia32_rows.proofs.Straight.{straight-goes}
use Rattle.ia32_rows.proofs.Sums.{others-kept}
use Rattle.ia32_laws.specs.Supports.{HoldsWidth, IsPlaceFor, IsSupported, site_of}
use Rattle.ia32_laws.specs.Protected.{IsSame, KeepsShown}
use Rattle.ia32_laws.specs.KeepsOps.{RowAt}
use Rattle.ia32_laws.proofs.Shown.{point-supported, set-shows}
use Rattle.ia32_laws.proofs.Zones.{shown-in-frame}
use Rattle.ia32_laws.proofs.KeepsApart.{protected-is-apart}

-- ---- what a row keeps

-- what other places contain, where ESP and EBP and a place apart are kept
others-same : (code : Code) (f : ℕ) (items : List Item) (frame : ℕ) (p q : Place) (width : Option Width) (w : ℕ)
    (s u : machine.State) → Framed (site_of code f) frame s → Puts (site_of code f) frame items p w s u
    → IsPlaceIn frame p → IsPlaceIn frame q → ArePlacesApart p q → word_of Ebp u ≡ word_of Ebp s
    → IsSame (word_of Ebp s) q s u
others-same code f items frame p (InWord r) width w s u framed puts one two apart ebp =
    others-kept (site_of code f) frame items p (InWord r) Two w (word_of r s) s u framed puts one two apart refl
others-same code f items frame p (InByte r) width w s u framed puts one two apart ebp =
    others-kept (site_of code f) frame items p (InByte r) One w _ s u framed puts one two apart refl
others-same code f items frame p (InSlot slot) width w s u framed puts one two apart ebp = loaded
  where
    loaded : (n v : ℕ) → (n ≡ 4) ⊎ (n ≡ 1) → load n (word_of Ebp s - slot) s ≡ Ok v
        → load n (word_of Ebp s - slot) u ≡ Ok v
    loaded n v (inl e) h =
        subst (λ (m : ℕ). load m (word_of Ebp s - slot) u ≡ Ok v) (sym e)
        (subst (λ (b : ℕ). load 4 (b - slot) u ≡ Ok v) ebp
        (others-kept (site_of code f) frame items p (InSlot slot) Two w v s u framed puts one two apart
        (subst (λ (m : ℕ). load m (word_of Ebp s - slot) s ≡ Ok v) e h)))
    loaded n v (inr e) h =
        subst (λ (m : ℕ). load m (word_of Ebp s - slot) u ≡ Ok v) (sym e)
        (subst (λ (b : ℕ). load 1 (b - slot) u ≡ Ok v) ebp
        (others-kept (site_of code f) frame items p (InSlot slot) One w v s u framed puts one two apart
        (subst (λ (m : ℕ). load m (word_of Ebp s - slot) s ≡ Ok v) e h)))

-- a row that puts a word into the place of a variable keeps all that is to be kept
puts-keep : (code : Code) (input : List ℕ) (g : graph.State) (s u : machine.State) (o : Op) (d w : ℕ) (place : Place)
    (items : List Item) → IsSupported code → IsState code.program g → (shown : Shows code input g s)
    → op_at code.program g ≡ Some o
    → (placement_of code g.current.function).after g.point d ≡ Some place
    → Puts (site_of code g.current.function) (placement_of code g.current.function).frame items place w s u
    → KeepsShown code g shown.frames (Some d) s u
puts-keep code input g s u o d w place items supported state shown has at puts =
    let frame : ℕ = (placement_of code g.current.function).frame in
    let here = point-supported code g o supported state has in
    let for = here.after d place at in
    let framed = (shown-in-frame code input g s supported state shown).framed in
    let esp : word_of Esp u ≡ word_of Esp s = word-kept (Untouched place) (ApartFromPlace (word_of Ebp s) place) Esp s u
    puts.keeps (λ m below. stack-untouched frame (4 * 4 + m) place for.inside (omega arith) (omega arith)) in
    let ebp : word_of Ebp u ≡ word_of Ebp s = word-kept (Untouched place) (ApartFromPlace (word_of Ebp s) place) Ebp s u
    puts.keeps (λ m below. stack-untouched frame (4 * 5 + m) place for.inside (omega arith) (omega arith)) in
    record {
      esp = esp;
      ebp = ebp;
      protected = λ n a v reads. puts.keeps.loads n a v
          ((protected-is-apart code input g s a n supported state shown reads).places d place for);
      others = λ v other distinct behind.
          others-same code g.current.function items frame place other (Some Two) w s u framed puts for.inside
          (here.after v other behind).inside
          (here.after_apart d v place other (λ e. distinct (ap Some e)) at behind) ebp;
    }

-- ---- what it holds

-- the word, or its low byte, is that of the value
abbrev pub IsLow : Code → List Activation → List ℕ → Option Width → Value → ℕ → Type 0
IsLow code active frames (Some Two) value w = IsWord code active frames value w
IsLow code active frames (Some One) value w = IsByte value (w % 256)
IsLow code active frames None value w = ⊥

pub stands-low : (code : Code) (active : List Activation) (frames : List ℕ) (u : machine.State) (width : Option Width)
    (value : Value) (place : Place) (w : ℕ) → HoldsWidth width place → IsLow code active frames width value w
    → HoldsLow u place w → StandsIn code active frames u (word_of Ebp u) width value place
stands-low code active frames u (Some Two) value (InWord r) w for low holds =
    subst (IsWord code active frames value) (sym holds) low
stands-low code active frames u (Some Two) value (InByte r) w for low holds = absurd for
stands-low code active frames u (Some Two) value (InSlot slot) w for low holds = (w, holds.0, low)
stands-low code active frames u (Some One) value (InWord r) w for low holds = absurd for
stands-low code active frames u (Some One) value (InByte r) w for low holds = subst (IsByte value) (sym holds) low
stands-low code active frames u (Some One) value (InSlot slot) w for low holds = (w % 256, holds.1, low)
stands-low code active frames u None value place w for low holds = absurd for

-- ---- where it leads

-- a row that puts the word of a value into the place of a variable, and then the next point
pub puts-follow : (code : Code) (input : List ℕ) (g : graph.State) (s : machine.State) (o : Op) (d w : ℕ)
    (value : Value) (place : Place) (items : List Item) → IsSupported code → IsState code.program g
    → (shown : Shows code input g s) → op_at code.program g ≡ Some o → defined o ≡ Some d
    → ((next : ℕ) → IsBehind (flow_at code.program g.current.function) g.point next
    → LeadsTo (flow_at code.program g.current.function) g.point next o)
    → RowAt code g items s → (placement_of code g.current.function).after g.point d ≡ Some place
    → ((u : machine.State) × Puts (site_of code g.current.function) (placement_of code g.current.function).frame items
    place w s u)
    → IsLow code (active_of g) shown.frames (slice_get (flow_at code.program g.current.function).widths d) value w
    → IsOldArray (depth_of g) value
    → FollowsKept code input s g false (sets code.program g d value)
puts-follow code input g s o d w value place items supported state shown has defines leads r at (u, puts) low old =
    follow (point_after code.program g.current.function g.block g.point) refl
  where
    site : Site
    site = site_of code g.current.function

    framed : Framed site (placement_of code g.current.function).frame s
    framed = (shown-in-frame code input g s supported state shown).framed

    keeps : KeepsShown code g shown.frames (Some d) s u
    keeps = puts-keep code input g s u o d w place items supported state shown has at puts

    for : IsPlaceFor (flow_at code.program g.current.function) (placement_of code g.current.function) d place
    for = (point-supported code g o supported state has).after d place at

    follow : (next : Option ℕ) → point_after code.program g.current.function g.block g.point ≡ next
        → FollowsKept code input s g false (at_point g.block (with_value d value g) next)
    follow None e = tt
    follow (Some q) e = λ kept.
        let own : at_address s.eip s ≡ s = at-own-address code g.current.function (items ++ r.rest) s supported r.ready
        in
        let ready : ReadyAt site (items ++ r.rest) (at_address s.eip s) =
        subst (ReadyAt site (items ++ r.rest)) (sym own) r.ready in
        let went = straight-goes site items r.rest s u s.eip framed.sound ready puts.leads in
        let t : machine.State = at_address went.0 u in
        let comes : Comes code.text s t = subst (λ (x : machine.State). Comes code.text x t) own went.1 in
        let more = r.follows q e in
        lands code input g.point (with_value d value (moved_to g.block q g.left g.taken g.written g))
        g.current.function q refl refl s t r.rest more.0 supported kept
        ((g.block, state.placed), o, has, leads q (g.block, e))
        (comes) went.2 more.1
        (set-shows code input g s t o d value g.block q g.left g.taken g.written supported state shown has defines
        (keeps-at code g shown.frames (Some d) went.0 s u keeps)
        (λ other f. subst (StandsIn code (active_of g) shown.frames t (word_of Ebp t)
        (slice_get (flow_at code.program g.current.function).widths d) value)
        (same_Some place other (sym at ∙ f)) (stands-at code (active_of g) shown.frames went.0 u (word_of Ebp u)
        (slice_get (flow_at code.program g.current.function).widths d) value place (stands-low code
        (active_of g) shown.frames u
        (slice_get (flow_at code.program g.current.function).widths d) value place w for.holds low puts.holds)))
        old
        (record {
          leads = ((g.block, state.placed), o, has, leads q (g.block, e));
          placed = following-in g.point q (points_of (flow_at code.program g.current.function) g.block) e;
          sound = sound-at site.text site.low site.high went.0 u puts.framed.sound;
          left = puts.keeps.left ∙ shown.left;
          taken = puts.keeps.taken ∙ shown.taken;
          written = puts.keeps.written ∙ shown.written;
          of_input = puts.keeps.left ∙ shown.of_input
              ∙ ap (λ (k : ℕ). drop k input) (sym puts.keeps.taken);
        }))

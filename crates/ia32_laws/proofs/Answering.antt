-- A state that has come back from a routine, with a result in EAX, shows the next one once the result is in its place.
use Rattle.std.proofs.Common.{◌≡◌, ◌⊎◌, ℕ, ◌+◌, ◌-◌, ◌*◌, ◌/◌, ◌%◌, ◌<◌, ◌≤◌, false, List, ◌++◌}
use Rattle.std.proofs.Common.{Option, Some, None, Ok, inl, inr, refl, sym, ap, subst, ◌∙◌, arith, get_or, drop}
use Rattle.std.specs.Prelude.{slice_get}
use Rattle.std.proofs.lemmas.List.{get_or-drop}
use Rattle.std.proofs.lemmas.Option.{same_Some}
use Rattle.byteorder.specs.Endian.{little_from}
use Rattle.pcc_base.specs.Outcome.{Value}
use Rattle.pcc_base.specs.declared.run.Width.{Width}
use Rattle.pcc_base.specs.declared.run.Width.TheVariants.{Two}
use Rattle.ia32_insn.specs.declared.register_names.Reg32.TheVariants.{Eax, Ecx, Edx, Ebx, Esp, Ebp, Esi, Edi}
use Rattle.ia32_insn.specs.declared.register_names.Reg8.TheVariants.{Al, Cl, Dl, Bl, Ah, Ch, Dh, Bh}
use Rattle.ia32_insn.specs.Registers.{AreRegisters}
use Rattle.ia32_insn.specs.Places.{Place, InWord, InByte, InSlot}
use Rattle.ia32_insn.specs.declared.item.Item.{Item}
use Rattle.ia32_insn.specs.State as machine
use Rattle.ia32_insn.specs.State.{at_address}
use Rattle.ia32_insn.specs.Keeps.{AreDisjoint}
use Rattle.ia32_insn.specs.Meaning.{byte_of, load, word_of}
use Rattle.flow_graph.specs.declared.op.Op.{Op}
use Rattle.flow_graph.specs.Graphs.{HasWidth, points_of}
use Rattle.flow_graph.specs.Liveness.{IsBehind, LeadsTo, defined}
use Rattle.flow_graph.specs.Meaning.{at_point, sets}
use Rattle.flow_graph.specs.States as graph
use Rattle.flow_graph.specs.States.{active_of, depth_of, flow_at, op_at, point_after, with_value}
use Rattle.flow_graph.specs.WellFormed.{IsState}
use Rattle.ia32_laws.proofs.Landing.{FollowsKept, lands}
use Rattle.ia32_rows.specs.Paths.{Comes}
use Rattle.ia32_rows.specs.Placements.{Code, placement_of}
use Rattle.ia32_rows.specs.Shows.{IsOldArray, IsWord, Shows, StandsIn}
use Rattle.ia32_rows.specs.Sites.{Framed, ReadyAt, Site}
use Rattle.ia32_rows.proofs.Sound.{sound-at}
use Rattle.ia32_rows.proofs.Steps.{comes-then}
use Rattle.ia32_rows.specs.Rows.{write}
use Rattle.ia32_rows.specs.Contains.{ApartFromPlace, IsPlaceIn, Untouched}
use Rattle.ia32_rows.specs.Laws.{Puts}
use Rattle.ia32_rows.proofs.Kept.{HasCells, contains-kept, word-kept}
use Rattle.ia32_rows.proofs.Moves.{write-puts}
use Rattle.ia32_rows.proofs.Straight.{straight-goes}
use Rattle.ia32_laws.specs.KeepsLaws.{moved_to}
use Rattle.ia32_laws.specs.Supports.{IsPlaceFor, IsSpared, IsSparedByCall, IsSupported, site_of}
use Rattle.ia32_laws.specs.Protected.{IsSame, KeepsShown}
use Rattle.ia32_laws.proofs.Shown.{point-supported, set-shows}
use Rattle.ia32_laws.proofs.KeepsApart.{protected-is-apart, pushed-is-apart}
use Rattle.ia32_laws.proofs.Puts.{IsLow}
use Rattle.ia32_laws.proofs.Elsewhere.{at-own-address, following-in, keeps-at, stands-at}
use Rattle.ia32_laws.proofs.Beside.{cells-apart, memory-apart, same-from, stack-untouched, stands-low}
use Rattle.ia32_laws.proofs.Goes.{low-byte-is}
use Rattle.ia32_laws.proofs.Onward.{IsNext}
use Rattle.ia32_laws.proofs.Spared.{spared-kept, outside, second-byte, high-byte-is}

-- The machine has come back from a routine: the items are ready, EAX has this word, EBX, ESP and EBP are as before, and
-- so is all of memory but the twelve bytes below ESP. The input and the output are these.
pub record CameBack (site : Site) (frame : ℕ) (items : List Item) (y : ℕ) (left : List ℕ) (taken : ℕ)
    (written : List ℕ) (s m : machine.State) : Type 0 where
  pub comes : Comes site.text s m
  pub ready : ReadyAt site items m
  pub framed : Framed site frame m
  pub eax : word_of Eax m ≡ y
  pub ebx : word_of Ebx m ≡ word_of Ebx s
  pub esp : word_of Esp m ≡ word_of Esp s
  pub ebp : word_of Ebp m ≡ word_of Ebp s
  pub kept : (n b w : ℕ) → AreDisjoint (word_of Esp s - 12) 12 b n → load n b s ≡ Ok w → load n b m ≡ Ok w
  pub left_is : m.left ≡ left
  pub taken_is : m.taken ≡ taken
  pub written_is : m.written ≡ written

-- ---- the bytes of EBX

-- one change after another
pub same-then : (base : ℕ) (place : Place) (s m u : machine.State) → IsSame base place s m → IsSame base place m u
    → IsSame base place s u
same-then base (InWord r) s m u a b = b ∙ a
same-then base (InByte r) s m u a b = b ∙ a
same-then base (InSlot slot) s m u a b = λ n w long e. b n w long (a n w long e)

-- ---- what is kept

answered-keeps : (code : Code) (input : List ℕ) (g : graph.State) (s m u : machine.State) (o : Op) (d y : ℕ)
    (place : Place) (items more : List Item) (left : List ℕ) (taken : ℕ) (written : List ℕ) → IsSupported code
    → IsState code.program g → (shown : Shows code input g s) → op_at code.program g ≡ Some o → defined o ≡ Some d
    → ((q : Place) → IsSpared o q → IsSparedByCall q)
    → (placement_of code g.current.function).after g.point d ≡ Some place
    → CameBack (site_of code g.current.function) (placement_of code g.current.function).frame items y left taken written
    s m
    → Puts (site_of code g.current.function) (placement_of code g.current.function).frame more place y m u
    → KeepsShown code g shown.frames (Some d) s u
answered-keeps code input g s m u o d y place items more left taken written supported state shown has defines spares at
    back puts =
    let frame : ℕ = (placement_of code g.current.function).frame in
    let S : ℕ → Type 0 = Untouched place in
    let K : ℕ → ℕ → Type 0 = ApartFromPlace (word_of Ebp m) place in
    let here = point-supported code g o supported state has in
    let for = here.after d place at in
    let bound = back.framed.esp in
    let has_esp : HasCells S Esp = λ k below.
    stack-untouched frame (4 * 4 + k) place for.inside (omega arith) (omega arith) in
    let has_ebp : HasCells S Ebp = λ k below.
    stack-untouched frame (4 * 5 + k) place for.inside (omega arith) (omega arith) in
    let ebp : word_of Ebp u ≡ word_of Ebp m = word-kept S K Ebp m u puts.keeps has_ebp in
    let pushed = pushed-is-apart code input g s 12 supported state shown (omega arith) in
    record {
      esp = word-kept S K Esp m u puts.keeps has_esp ∙ back.esp;
      ebp = ebp ∙ back.ebp;
      protected = λ n a v reads e. puts.keeps.loads n a v
          (subst (λ (b : ℕ). ApartFromPlace b place a n) (sym back.ebp)
          ((protected-is-apart code input g s a n supported state shown reads).places d place for))
          (back.kept n a v (pushed.protected a n reads) e);
      others = λ v other distinct behind.
          let stays = here.stays v other (λ e. distinct (sym defines ∙ e)) behind in
          let apart = here.after_apart d v place other (λ e. distinct (ap Some e)) at behind in
          let mine = here.after v other behind in
          let inside = mine.inside in
          same-then (word_of Ebp s) other s m u
          (spared-kept (word_of Ebp s) frame other s m shown.registers back.framed.sound.registers inside
          (spares other stays.1) back.ebx
          (λ slot is n w long e. back.kept n (word_of Ebp s - slot) w (pushed.slots v slot n
          (subst (IsPlaceFor (flow_at code.program g.current.function) (placement_of code g.current.function) v) is
          mine)) e))
          (subst (λ (b : ℕ). IsSame b other m u) back.ebp
          (same-from other m u ebp (λ width x contains.
          contains-kept S K m u width other x puts.keeps has_ebp (cells-apart frame place other inside apart)
          (memory-apart frame (word_of Ebp m) place other (omega arith) for.inside inside apart) contains)));
    }

-- ---- where it leads

pub answered-follows : (code : Code) (input : List ℕ) (g : graph.State) (s m : machine.State) (o : Op) (d y : ℕ)
    (value : Value) (place : Place) (rest : List Item) (left : List ℕ) (taken : ℕ) (written : List ℕ)
    → IsSupported code → IsState code.program g → (shown : Shows code input g s) → op_at code.program g ≡ Some o
    → defined o ≡ Some d → ((q : Place) → IsSpared o q → IsSparedByCall q)
    → ((next : ℕ) → IsBehind (flow_at code.program g.current.function) g.point next
    → LeadsTo (flow_at code.program g.current.function) g.point next o)
    → HasWidth (flow_at code.program g.current.function) d Two
    → (placement_of code g.current.function).after g.point d ≡ Some place
    → CameBack (site_of code g.current.function) (placement_of code g.current.function).frame (write place Eax ++ rest)
    y left taken written s m
    → IsNext code g rest → IsWord code (active_of g) shown.frames value y → IsOldArray (depth_of g) value
    → left ≡ drop taken input
    → FollowsKept code input s g false (sets code.program (moved_to g.block g.point left taken written g) d value)
answered-follows code input g s m o d y value place rest left taken written supported state shown has defines spares
    leads wide at back follows is old of_input =
    follow (point_after code.program g.current.function g.block g.point) refl
  where
    site : Site
    site = site_of code g.current.function

    frame : ℕ
    frame = (placement_of code g.current.function).frame

    for : IsPlaceFor (flow_at code.program g.current.function) (placement_of code g.current.function) d place
    for = (point-supported code g o supported state has).after d place at

    width : Option Width
    width = slice_get (flow_at code.program g.current.function).widths d

    low : IsLow code (active_of g) shown.frames width value y
    low = subst (λ (w : Option Width). IsLow code (active_of g) shown.frames w value y) (sym wide) is

    follow : (next : Option ℕ) → point_after code.program g.current.function g.block g.point ≡ next
        → FollowsKept code input s g false
        (at_point g.block (with_value d value (moved_to g.block g.point left taken written g)) next)
    follow None e = tt
    follow (Some q) e = λ kept.
        let four = (supported.supports g.current.function state.active.0.function).four_words in
        let last = write-puts site frame place Eax y m back.framed four for.inside back.eax in
        let u : machine.State = last.0 in
        let keeps = answered-keeps code input g s m u o d y place (write place Eax ++ rest) (write place Eax) left taken
        written supported state shown has defines spares at back last.1 in
        let own : at_address m.eip m ≡ m = at-own-address code g.current.function (write place Eax ++ rest) m supported
        back.ready in
        let went = straight-goes site (write place Eax) rest m u m.eip back.framed.sound
        (subst (ReadyAt site (write place Eax ++ rest)) (sym own) back.ready) last.1.leads in
        let t : machine.State = at_address went.0 u in
        let comes : Comes code.text m t = subst (λ (x : machine.State). Comes code.text x t) own went.1 in
        let more = follows q e in
        lands code input g.point (with_value d value (moved_to g.block q left taken written g))
        g.current.function q refl refl s t rest more.0 supported kept
        ((g.block, state.placed), o, has, leads q (g.block, e))
        (comes-then code.text s m t back.comes comes) went.2 more.1
        (set-shows code input g s t o d value g.block q left taken written supported state shown has defines
        (keeps-at code g shown.frames (Some d) went.0 s u keeps)
        (λ other f. subst (StandsIn code (active_of g) shown.frames t (word_of Ebp t) width value)
        (same_Some place other (sym at ∙ f))
        (stands-at code (active_of g) shown.frames went.0 u (word_of Ebp u) width value place
        (stands-low code (active_of g) shown.frames u width value place y for.holds low last.1.holds))) old
        (record {
          leads = ((g.block, state.placed), o, has, leads q (g.block, e));
          placed = following-in g.point q (points_of (flow_at code.program g.current.function) g.block) e;
          sound = sound-at site.text site.low site.high went.0 u last.1.framed.sound;
          left = last.1.keeps.left ∙ back.left_is;
          taken = last.1.keeps.taken ∙ back.taken_is;
          written = last.1.keeps.written ∙ back.written_is;
          of_input = last.1.keeps.left ∙ back.left_is ∙ of_input
              ∙ ap (λ (k : ℕ). drop k input) (sym (last.1.keeps.taken ∙ back.taken_is));
        }))

-- What was pushed by a row, as the laws of calls ask for it; and the exit with a number.
use Rattle.std.proofs.Common.{◌≡◌, ℕ, ◌+◌, ◌-◌, ◌%◌, ◌^◌, ◌<◌, ◌≤◌, List, [], ◌∷◌, ◌++◌, length, pos, Ok, inl}
use Rattle.std.proofs.Common.{refl, sym, ap, subst, ◌∙◌, arith, append_assoc}
use Rattle.std.specs.Prelude.{Result, false}
use Rattle.std.specs.Int.{w32, cast_unsigned}
use Rattle.pcc_base.specs.Outcome.{End, Ended}
use Rattle.ia32_insn.specs.declared.register_names.Reg32.TheVariants.{Eax, Ebx, Esp, Ebp}
use Rattle.pcc_base.specs.declared.run.Width.TheVariants.{Two}
use Rattle.ia32_insn.specs.Places.{Place}
use Rattle.ia32_insn.specs.declared.operand.Rm32.TheVariants as rm
use Rattle.ia32_insn.specs.declared.insn.Insn.TheVariants as insn
use Rattle.ia32_insn.specs.declared.item.Item.{Item}
use Rattle.ia32_insn.specs.declared.item.Item.TheVariants as item
use Rattle.ia32_insn.specs.declared.item.Stub.{Stub}
use Rattle.ia32_insn.specs.declared.item.Stub.TheVariants as stub
use Rattle.ia32_insn.specs.State.{State, at_address}
use Rattle.ia32_insn.specs.Keeps.{AreDisjoint}
use Rattle.ia32_insn.specs.Meaning.{Halts, address_of, and_then, load, with_word, word_of}
use Rattle.ia32_insn.specs.Runs.{Steps}
use Rattle.ia32_insn.specs.Items.{exit_items, near, plain, stub_address}
use Rattle.flow_graph.specs.declared.op.Op.TheVariants as op
use Rattle.flow_graph.specs.Meaning as graphs
use Rattle.flow_graph.specs.Meaning.{low_byte}
use Rattle.flow_graph.specs.States as graph
use Rattle.flow_graph.specs.States.{value_at}
use Rattle.flow_graph.specs.WellFormed.{IsState}
use Rattle.ia32_rows.specs.Follows.{Follows}
use Rattle.ia32_rows.specs.Paths.{Comes, IsAt, IsClear}
use Rattle.ia32_rows.specs.Placements.{Code, placement_of}
use Rattle.ia32_rows.specs.Shows.{Shows}
use Rattle.ia32_rows.specs.Sites.{Framed, ReadyAt, Site, SoundAt, StandsFrom}
use Rattle.ia32_rows.proofs.Sets.{ready-from, set-goes, unlike}
use Rattle.ia32_rows.proofs.Steps.{comes-then}
use Rattle.ia32_rows.proofs.Interrupts.{exit-halts}
use Rattle.ia32_rows.proofs.Pushes.{Pushed, call-goes, one_fits, pushed-at}
use Rattle.ia32_rows.proofs.Putchar.{near-address}
use Rattle.ia32_rows.specs.Rows.{exit_row, pass}
use Rattle.ia32_rows.specs.Effects.{OutsideWord}
use Rattle.ia32_rows.specs.Contains.{Contains, HoldsWord, IsPlaceIn}
use Rattle.ia32_rows.proofs.Kept.{other-cells, word-kept}
use Rattle.ia32_rows.proofs.Straight.{straight-goes}
use Rattle.ia32_laws.specs.Supports.{IsSupported, site_of}
use Rattle.ia32_laws.proofs.Ops.{at-before, given-number, has-number, op-is}
use Rattle.ia32_laws.proofs.Elsewhere.{at-own-address}
use Rattle.ia32_laws.proofs.Words.{word-fits}
use Rattle.ia32_laws.proofs.Zones.{shown-in-frame}
use Rattle.ia32_laws.specs.CoresLaws.{Passes}
use Rattle.ia32_laws.proofs.Passing.{word-passes}
use Rattle.ia32_laws.specs.RoutinesOps.{ExitFollows}
use Rattle.ia32_laws.proofs.Routines.{exit-stands}

-- the word that a row pushed
pub pushed-from : (site : Site) (items : List Item) (w : ℕ) (s u : State) → Passes site items w s u
    → Pushed site w s u
pushed-from site items w s u h =
    let e = h.esp in
    let at : word_of Esp s - 4 ≡ word_of Esp u = omega (arith, e) in
    record {
      sound = h.sound;
      esp = h.esp;
      others = λ q other. word-kept (OutsideWord Esp) (λ a n. AreDisjoint (word_of Esp s - 4) 4 a n) q s u h.keeps
          (other-cells q Esp other);
      word = subst (λ (a : ℕ). load 4 a u ≡ Ok w) at h.word;
      byte = subst (λ (a : ℕ). load 1 a u ≡ Ok (w % 256)) at h.byte;
      apart = λ n b v k e. h.keeps.loads n b v (subst (λ (a : ℕ). AreDisjoint a 4 b n) (sym at) k) e;
      left = h.keeps.left;
      taken = h.keeps.taken;
      written = h.keeps.written;
    }

-- a call of a routine, whose items are ready then
pub record CalledAt (site : Site) (items back : List Item) (address : ℕ) (s u : State) : Type 0 where
  pub comes : Comes site.text s u
  pub ready : ReadyAt site items u
  pub pushed : Pushed site address s u
  pub returns : StandsFrom site back address
  pub fits : address < 2 ^ 32

pub stub-called : (site : Site) (which : Stub) (items back : List Item) (s : State) → SoundAt site s
    → StandsFrom site items (stub_address site.symbols which) → ReadyAt site (item.CallStub which ∷ back) s
    → site.low + 4 ≤ word_of Esp s → word_of Esp s ≤ site.high
    → (address : ℕ) × (u : State) × CalledAt site items back address s u
stub-called site which items back s sound stands ready room top =
    let first : List ℕ = ready.stand.0 in
    let rest : List ℕ = ready.stand.1 in
    let whole : IsAt site.text s.eip (first ++ rest) = subst (IsAt site.text s.eip) ready.stand.2 ready.here in
    let r = call-goes site back (stub_address site.symbols which) first rest s sound whole ready.stand.3 ready.stand.4
    room top in (
      s.eip + length first,
      r.0,
      record {
        comes = r.1;
        ready = ready-from site items (stub_address site.symbols which) r.0 stands r.2;
        pushed = r.3;
        returns = r.4;
        fits = r.5;
      },
    )

-- ---- the routine `exit`

exit-ends : (site : Site) (x : ℕ) (s : State) → SoundAt site s → ReadyAt site exit_items s
    → load 4 (word_of Esp s + 4) s ≡ Ok x → x < 2 ^ 32 → word_of Esp s + 8 ≤ site.high
    → (t : State) × Comes site.text s t × IsClear site.text t.eip × Steps t (Halts (Ended (x % 256)))
    × (t.taken ≡ s.taken) × (t.written ≡ s.written)
exit-ends site x s sound ready held fits top =
    let below = sound.below in
    let at : address_of (near Esp 4) s ≡ word_of Esp s + 4 = near-address 4 s (omega (arith, top, below)) in
    let loaded : load 4 (address_of (near Esp 4) s) s ≡ Ok x = ap (λ (a : ℕ). load 4 a s) at ∙ held in
    let two : List Item = plain (insn.MovImm (rm.Reg Eax) (pos 1)) ∷ plain (insn.Int 0x80) ∷ [] in
    let p = set-goes site two (insn.MovLoad Ebx (near Esp 4)) Ebx x s.flags s sound ready tt fits
    (λ after. ap (λ (r : Result ℕ End). and_then r
    (λ value. let q : Result State End = Ok (with_word Ebx value s) in q)) loaded) (λ after. refl) in
    let b : State = p.0 in
    let q = set-goes site (plain (insn.Int 0x80) ∷ []) (insn.MovImm (rm.Reg Eax) (pos 1)) Eax 1 b.flags b p.3.sound p.2
    tt one_fits (λ after. refl) (λ after. refl) in
    let t : State = q.0 in
    let ends = exit-halts site [] x t q.3.sound q.2 q.3.value (q.3.others Ebx (unlike 3 0 refl) ∙ p.3.value) in
    (t, comes-then site.text s b t p.1 q.1, ends.1, ends.0, q.3.taken ∙ p.3.taken, q.3.written ∙ p.3.written)

-- ---- the op

exit-with : (site : Site) (frame : ℕ) (place : Place) (x : ℕ) (rest : List Item) (s : State) → Framed site frame s
    → HoldsWord place → IsPlaceIn frame place → Contains s Two place x → x < 2 ^ 32 → at_address s.eip s ≡ s
    → site.low + 12 ≤ word_of Esp s → StandsFrom site exit_items site.symbols.exit
    → ReadyAt site (exit_row place ++ rest) s
    → (t : State) × Comes site.text s t × IsClear site.text t.eip × Steps t (Halts (Ended (x % 256)))
    × (t.taken ≡ s.taken) × (t.written ≡ s.written)
exit-with site frame place x rest s framed holds inside contains fits own low stands ready =
    let esp = framed.esp in
    let top = framed.top in
    let call : List Item = item.CallStub stub.Exit ∷ [] in
    let here : ReadyAt site (pass place ++ (call ++ rest)) (at_address s.eip s) =
    subst (λ (v : State). ReadyAt site (pass place ++ (call ++ rest)) v) (sym own)
    (subst (λ (xs : List Item). ReadyAt site xs s) (append_assoc (pass place) call rest) ready) in
    let passes = word-passes site frame place x s framed holds inside contains fits in
    let u : State = passes.0 in
    let went = straight-goes site (pass place) (call ++ rest) s u s.eip framed.sound here passes.1.leads in
    let a : State = at_address went.0 u in
    let pushed = pushed-at site went.0 x s u (pushed-from site (pass place) x s u passes.1) in
    let one = pushed.esp in
    let called = stub-called site stub.Exit exit_items rest a pushed.sound stands went.2
    (counted-room site.low (word_of Esp s) (word_of Esp a) low one)
    (counted-top (word_of Esp s) (word_of Esp a) frame (word_of Ebp s) site.high esp top one) in
    let c : State = called.1 in
    let two = called.2.pushed.esp in
    let held : load 4 (word_of Esp c + 4) c ≡ Ok x =
    subst (λ (k : ℕ). load 4 k c ≡ Ok x) (sym two)
    (called.2.pushed.apart 4 (word_of Esp a) x (inl (omega (arith, two))) pushed.word) in
    let ends = exit-ends site x c called.2.pushed.sound called.2.ready held fits
    (counted-end (word_of Esp s) (word_of Esp a) (word_of Esp c) frame (word_of Ebp s) site.high esp top one two) in
    let comes : Comes site.text s a = subst (λ (v : State). Comes site.text v a) own went.1 in (
      ends.0,
      comes-then site.text s a ends.0 comes (comes-then site.text a c ends.0 called.2.comes ends.1),
      ends.2,
      ends.3,
      ends.4 ∙ called.2.pushed.taken ∙ pushed.taken,
      ends.5 ∙ called.2.pushed.written ∙ pushed.written,
    )
  where
    counted-room : (low e a : ℕ) → low + 12 ≤ e → a + 4 ≡ e → low + 4 ≤ a
    counted-room low e a h p = omega arith

    counted-top : (e a f b h : ℕ) → e + f ≡ b → b + 8 ≤ h → a + 4 ≡ e → a ≤ h
    counted-top e a f b h p q r = omega arith

    counted-end : (e a c f b h : ℕ) → e + f ≡ b → b + 8 ≤ h → a + 4 ≡ e → c + 4 ≡ a → c + 8 ≤ h
    counted-end e a c f b h p q r t = omega arith

-- the stack is twelve bytes or more above the data
pub stack-room : (code : Code) (input : List ℕ) (g : graph.State) (s : State) → IsSupported code
    → IsState code.program g → Shows code input g s
    → (site_of code g.current.function).low + 12 ≤ word_of Esp s
stack-room code input g s supported state shown =
    let room = (shown-in-frame code input g s supported state shown).room in omega (arith, room)

pub exit-follows : ExitFollows
exit-follows a code input g s supported state shown has r =
    given-number (Follows code input s g false) (value_at g a) (λ n. graphs.Halts (Ended (low_byte n))) tt (λ x e.
    let wide = (op-is code g (op.Exit a) supported state has).fits.0 in
    let one = has-number code input g s (op.Exit a) a x supported state shown has (inl refl) wide e in
    let row = at-before code g s a one.place exit_row one.at r in
    let framed = (shown-in-frame code input g s supported state shown).framed in
    let ends = exit-with (site_of code g.current.function) (placement_of code g.current.function).frame one.place
    (cast_unsigned w32 x) row.rest s framed one.holds one.inside one.contains (word-fits x one.fits)
    (at-own-address code g.current.function (exit_row one.place ++ row.rest) s supported row.ready)
    (stack-room code input g s supported state shown) (exit-stands code g.current.function supported) row.ready in
    (ends.0, ends.1, ends.2, ends.3, ends.4 ∙ shown.taken, ends.5 ∙ shown.written))

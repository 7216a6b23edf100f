-- The machine follows `putchar` through its row, over any placement.
use Rattle.std.proofs.Common.{◌≡◌, ℕ, ◌+◌, ◌%◌, ◌^◌, ◌<◌, ◌≤◌, false, List, [], ◌∷◌, ◌++◌, pos, inl, refl, sym, ap}
use Rattle.std.proofs.Common.{subst, ◌∙◌, arith, append_assoc}
use Rattle.std.specs.Prelude.{drop}
use Rattle.std.specs.Int.{w32, cast_unsigned}
use Rattle.pcc_base.specs.Outcome.{Number}
use Rattle.pcc_base.specs.declared.run.Width.TheVariants.{Two}
use Rattle.ia32_insn.specs.declared.register_names.Reg32.TheVariants.{Eax, Ebx, Esp, Ebp, Edi}
use Rattle.ia32_insn.specs.Places.{Place}
use Rattle.ia32_insn.specs.declared.insn.Insn.TheVariants as insn
use Rattle.ia32_insn.specs.declared.item.Item.{Item}
use Rattle.ia32_insn.specs.declared.item.Item.TheVariants as item
use Rattle.ia32_insn.specs.declared.item.Stub.TheVariants as stub
use Rattle.ia32_insn.specs.State.{State, at_address}
use Rattle.ia32_insn.specs.Meaning.{word_of}
use Rattle.ia32_insn.specs.Items.{plain, putchar_items}
use Rattle.flow_graph.specs.declared.op.Op.TheVariants as op
use Rattle.flow_graph.specs.Meaning.{low_byte, puts}
use Rattle.flow_graph.specs.States.{value_at}
use Rattle.flow_graph.proofs.Numbers.{byte-fits}
use Rattle.ia32_laws.proofs.Landing.{FollowsKept, followed}
use Rattle.ia32_rows.specs.Paths.{Comes}
use Rattle.ia32_rows.specs.Placements.{placement_of}
use Rattle.ia32_rows.specs.Sites.{Framed, ReadyAt, Site, StandsFrom}
use Rattle.ia32_rows.proofs.Sets.{unlike}
use Rattle.ia32_rows.proofs.Sound.{load-same}
use Rattle.ia32_rows.proofs.Steps.{comes-then}
use Rattle.ia32_rows.proofs.Pushes.{pop-goes, pushed-at}
use Rattle.ia32_rows.proofs.Putchar.{calls-behind}
use Rattle.ia32_rows.specs.Rows.{pass, putchar_row, write}
use Rattle.ia32_rows.specs.Contains.{Contains, HoldsWord, IsPlaceIn}
use Rattle.ia32_rows.proofs.Straight.{straight-goes}
use Rattle.ia32_laws.specs.Supports.{site_of}
use Rattle.ia32_laws.specs.KeepsOps.{before_at}
use Rattle.ia32_laws.proofs.Ops.{at-after, at-before, given-number, has-number, op-is}
use Rattle.ia32_laws.proofs.Elsewhere.{at-own-address}
use Rattle.ia32_laws.proofs.Shown.{point-supported}
use Rattle.ia32_laws.proofs.Words.{word-fits}
use Rattle.ia32_laws.proofs.Zones.{shown-in-frame}
use Rattle.ia32_laws.proofs.Passing.{word-passes}
use Rattle.ia32_laws.specs.RoutinesOps.{PutcharFollows}
use Rattle.ia32_laws.proofs.Answering.{CameBack, answered-follows}
use Rattle.ia32_laws.proofs.KeepsPassed.{pushed-from, stack-room}
use Rattle.ia32_laws.proofs.Routines.{putchar-stands}

-- the row up to the result in EAX
putchar-back : (site : Site) (frame : ℕ) (from to : Place) (x : ℕ) (rest : List Item) (s : State)
    → Framed site frame s → HoldsWord from → IsPlaceIn frame from → Contains s Two from x → x < 2 ^ 32
    → at_address s.eip s ≡ s → site.low + 12 ≤ word_of Esp s → StandsFrom site putchar_items site.symbols.putchar
    → ReadyAt site (putchar_row to from ++ rest) s
    → (m : State) × CameBack site frame (write to Eax ++ rest) (x % 256) s.left s.taken (s.written ++ (x % 256) ∷ [])
    s m
putchar-back site frame from to x rest s framed holds inside contains fits own low stands ready =
    let esp = framed.esp in
    let top = framed.top in
    let last : List Item = write to Eax ++ rest in
    let call : List Item = item.CallStub stub.Putchar ∷ plain (insn.Pop Edi) ∷ write to Eax in
    let here : ReadyAt site (pass from ++ (call ++ rest)) (at_address s.eip s) =
    subst (λ (v : State). ReadyAt site (pass from ++ (call ++ rest)) v) (sym own)
    (subst (λ (xs : List Item). ReadyAt site xs s) (append_assoc (pass from) call rest) ready) in
    let passes = word-passes site frame from x s framed holds inside contains fits in
    let u : State = passes.0 in
    let went = straight-goes site (pass from) (call ++ rest) s u s.eip framed.sound here passes.1.leads in
    let a : State = at_address went.0 u in
    let comes : Comes site.text s a = subst (λ (v : State). Comes site.text v a) own went.1 in
    let called = calls-behind site (plain (insn.Pop Edi) ∷ last) x s
    (counted-top (word_of Esp s) frame (word_of Ebp s) site.high esp top) low stands
    (a, comes, went.2, pushed-at site went.0 x s u (pushed-from site (pass from) x s u passes.1)) in
    let t : State = called.0 in
    let p = called.1 in
    let down = p.esp in
    let popped = pop-goes site last Edi x t p.sound p.ready (unlike 4 7 refl) p.argument fits
    (counted-pop (word_of Esp t) (word_of Esp s) frame (word_of Ebp s) site.high down esp top) in
    let m : State = popped.0 in
    let same_esp : word_of Esp m ≡ word_of Esp s = popped.3.esp ∙ p.esp in
    let same_ebp : word_of Ebp m ≡ word_of Ebp s =
    popped.3.others Ebp (unlike 5 7 refl) (unlike 5 4 refl) ∙ p.ebp in (
      m,
      record {
        comes = comes-then site.text s t m p.comes popped.1;
        ready = popped.2;
        framed = record {
          sound = popped.3.sound;
          esp = ap (λ (k : ℕ). k + frame) same_esp ∙ framed.esp ∙ sym same_ebp;
          room = subst (λ (k : ℕ). site.low + 4 ≤ k) (sym same_esp) framed.room;
          top = subst (λ (k : ℕ). k + 8 ≤ site.high) (sym same_ebp) framed.top;
        };
        eax = popped.3.others Eax (unlike 0 7 refl) (unlike 0 4 refl) ∙ p.eax;
        ebx = popped.3.others Ebx (unlike 3 7 refl) (unlike 3 4 refl) ∙ p.ebx;
        esp = same_esp;
        ebp = same_ebp;
        kept = λ n b w k h. load-same n b w t m popped.3.memory (p.kept n b w k h);
        left_is = popped.3.left ∙ p.left;
        taken_is = popped.3.taken ∙ p.taken;
        written_is = popped.3.written ∙ p.written;
      },
    )
  where
    counted-top : (e f b h : ℕ) → e + f ≡ b → b + 8 ≤ h → e ≤ h
    counted-top e f b h p q = omega arith

    counted-pop : (t e f b h : ℕ) → t + 4 ≡ e → e + f ≡ b → b + 8 ≤ h → t + 4 ≤ h
    counted-pop t e f b h p q r = omega arith

pub putchar-follows : PutcharFollows
putchar-follows d a code input g s supported state shown has r =
    followed code input g s (op.Putchar d a) false supported state has (
    given-number (FollowsKept code input s g false) (value_at g a) (puts code.program g d) tt (λ x e.
    let o = op.Putchar d a in
    let fits = (op-is code g o supported state has).fits in
    let here = point-supported code g o supported state has in
    let (place, at) = here.written d refl in
    let one = has-number code input g s o a x supported state shown has (inl refl) fits.1.0 e in
    let row = at-before code g s a one.place (λ p. putchar_row place p) one.at
    (at-after code g s d place (λ p. putchar_row p (before_at code g a)) at r) in
    let framed = (shown-in-frame code input g s supported state shown).framed in
    let w : ℕ = cast_unsigned w32 x in
    let y : ℕ = low_byte x in
    let small : y < 256 = omega arith in
    let back = putchar-back (site_of code g.current.function) (placement_of code g.current.function).frame one.place
    place w row.rest s framed one.holds one.inside one.contains (word-fits x one.fits)
    (at-own-address code g.current.function (putchar_row place one.place ++ row.rest) s supported row.ready)
    (stack-room code input g s supported state shown) (putchar-stands code g.current.function supported) row.ready in
    let b = back.1 in
    answered-follows code input g s back.0 o d y (Number (pos y)) place row.rest g.left g.taken
    (g.written ++ y ∷ []) supported state shown has refl (λ q h. h) (λ next h. h) fits.0 at
    (record {
      comes = b.comes;
      ready = b.ready;
      framed = b.framed;
      eax = b.eax;
      ebx = b.ebx;
      esp = b.esp;
      ebp = b.ebp;
      kept = b.kept;
      left_is = b.left_is ∙ shown.left;
      taken_is = b.taken_is ∙ shown.taken;
      written_is = b.written_is ∙ ap (λ (l : List ℕ). l ++ y ∷ []) shown.written;
    }) row.follows (byte-fits y small, refl) tt
    (sym shown.left ∙ shown.of_input ∙ ap (λ (k : ℕ). drop k input) shown.taken)))

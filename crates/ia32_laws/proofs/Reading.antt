-- The machine follows `getchar` through its row, over any placement.
use Rattle.std.proofs.Common.{◌≡◌, ℕ, zero, suc, ◌+◌, ◌-◌, ◌<◌, ◌≤◌, false, List, [], ◌∷◌, ◌++◌, pos, Some, refl}
use Rattle.std.proofs.Common.{sym, ap, subst, ◌∙◌, arith}
use Rattle.std.specs.Prelude.{FitsSigned, drop, negsuc}
use Rattle.std.specs.Int.{w32}
use Rattle.std.proofs.lemmas.List.Elements.{All-head}
use Rattle.pcc_base.specs.Bytes.{AreBytes}
use Rattle.pcc_base.specs.Outcome.{Number}
use Rattle.pcc_base.specs.declared.run.Width.TheVariants.{Two}
use Rattle.ia32_insn.specs.declared.register_names.Reg32.TheVariants.{Eax, Ebx, Esp, Ebp}
use Rattle.ia32_insn.specs.Places.{Place}
use Rattle.ia32_insn.specs.declared.item.Item.{Item}
use Rattle.ia32_insn.specs.declared.item.Stub.TheVariants as stub
use Rattle.ia32_insn.specs.State.{State}
use Rattle.ia32_insn.specs.Keeps.{AreDisjoint}
use Rattle.ia32_insn.specs.Meaning.{word_of}
use Rattle.ia32_insn.specs.Items.{getchar_items}
use Rattle.flow_graph.specs.declared.op.Op.TheVariants as op
use Rattle.flow_graph.specs.Graphs.{HasWidth}
use Rattle.flow_graph.specs.Meaning.{gets}
use Rattle.flow_graph.specs.States as graph
use Rattle.flow_graph.specs.States.{flow_at, op_at}
use Rattle.flow_graph.specs.WellFormed.{IsState}
use Rattle.flow_graph.proofs.Numbers.{byte-fits}
use Rattle.ia32_laws.proofs.Landing.{FollowsKept, followed}
use Rattle.ia32_rows.specs.Placements.{Code, placement_of}
use Rattle.ia32_rows.specs.Shows.{Shows}
use Rattle.ia32_rows.specs.Sites.{Framed, ReadyAt, Site, StandsFrom}
use Rattle.ia32_rows.proofs.Sets.{disjoint-part, ready-from, unlike}
use Rattle.ia32_rows.proofs.Steps.{comes-then}
use Rattle.ia32_rows.specs.Rows.{getchar_row, write}
use Rattle.ia32_laws.specs.Supports.{IsSupported, site_of}
use Rattle.ia32_laws.specs.KeepsOps.{RowAt}
use Rattle.ia32_laws.proofs.Ops.{at-after, op-is}
use Rattle.ia32_laws.proofs.Shown.{point-supported}
use Rattle.ia32_laws.proofs.Zones.{shown-in-frame}
use Rattle.ia32_laws.specs.RoutinesOps.{GetcharFollows}
use Rattle.ia32_laws.proofs.Answering.{CameBack, answered-follows}
use Rattle.ia32_laws.proofs.Getchar.{Got, gets-none, gets-one}
use Rattle.ia32_laws.proofs.KeepsPassed.{CalledAt, stack-room, stub-called}
use Rattle.ia32_laws.proofs.Routines.{getchar-stands}

-- what came back from the routine came back to the row
came : (site : Site) (frame : ℕ) (back : List Item) (y address : ℕ) (left : List ℕ) (taken : ℕ) (s c v : State)
    → Framed site frame s → site.low + 12 ≤ word_of Esp s → CalledAt site getchar_items back address s c
    → Got site y address left taken c v → CameBack site frame back y left taken s.written s v
came site frame back y address left taken s c v framed low called got =
    let p = called.pushed in
    let esp : word_of Esp v ≡ word_of Esp s = got.esp ∙ p.esp in
    let ebp : word_of Ebp v ≡ word_of Ebp s = got.ebp ∙ p.others Ebp (unlike 5 4 refl) in
    record {
      comes = comes-then site.text s c v called.comes got.comes;
      ready = ready-from site back address v called.returns got.eip;
      framed = record {
        sound = got.sound;
        esp = ap (λ (k : ℕ). k + frame) esp ∙ framed.esp ∙ sym ebp;
        room = subst (λ (k : ℕ). site.low + 4 ≤ k) (sym esp) framed.room;
        top = subst (λ (k : ℕ). k + 8 ≤ site.high) (sym ebp) framed.top;
      };
      eax = got.eax;
      ebx = got.ebx ∙ p.others Ebx (unlike 3 4 refl);
      esp = esp;
      ebp = ebp;
      kept = λ n b w apart e. got.kept n b w (lower site.low (word_of Esp s) (word_of Esp c) b n low p.esp apart)
          (p.apart n b w (upper site.low (word_of Esp s) (word_of Esp c) b n low p.esp apart) e);
      left_is = got.left_is;
      taken_is = got.taken_is;
      written_is = got.written ∙ p.written;
    }
  where
    lower : (low e c b n : ℕ) → low + 12 ≤ e → c + 4 ≡ e → AreDisjoint (e - 12) 12 b n → AreDisjoint (c - 8) 8 b n
    lower low e c b n h p k = disjoint-part (e - 12) 12 (c - 8) 8 b n (omega arith) (omega arith) k

    upper : (low e c b n : ℕ) → low + 12 ≤ e → c + 4 ≡ e → AreDisjoint (e - 12) 12 b n → AreDisjoint c 4 b n
    upper low e c b n h p k = disjoint-part (e - 12) 12 c 4 b n (omega arith) (omega arith) k

-- the call of the routine, with room for what it pushes
record Asked (site : Site) (back : List Item) (address : ℕ) (s c : State) : Type 0 where
  pub called : CalledAt site getchar_items back address s c
  pub low : site.low + 8 ≤ word_of Esp c
  pub high : word_of Esp c + 4 ≤ site.high

asked : (site : Site) (frame : ℕ) (back : List Item) (to : Place) (s : State) → Framed site frame s
    → site.low + 12 ≤ word_of Esp s → StandsFrom site getchar_items site.symbols.getchar
    → ReadyAt site (getchar_row to ++ back) s
    → (address : ℕ) × (c : State) × Asked site (write to Eax ++ back) address s c
asked site frame back to s framed low stands ready =
    let r = stub-called site stub.Getchar getchar_items (write to Eax ++ back) s framed.sound stands ready
    (enough site.low (word_of Esp s) low) (within (word_of Esp s) frame (word_of Ebp s) site.high framed.esp framed.top)
    in (
      r.0,
      r.1,
      record {
        called = r.2;
        low = below site.low (word_of Esp s) (word_of Esp r.1) low r.2.pushed.esp;
        high = above (word_of Esp s) (word_of Esp r.1) frame (word_of Ebp s) site.high framed.esp framed.top
            r.2.pushed.esp;
      },
    )
  where
    enough : (low e : ℕ) → low + 12 ≤ e → low + 4 ≤ e
    enough low e h = omega arith

    within : (e f b h : ℕ) → e + f ≡ b → b + 8 ≤ h → e ≤ h
    within e f b h p q = omega arith

    below : (low e c : ℕ) → low + 12 ≤ e → c + 4 ≡ e → low + 8 ≤ c
    below low e c h p = omega arith

    above : (e c f b h : ℕ) → e + f ≡ b → b + 8 ≤ h → c + 4 ≡ e → c + 4 ≤ h
    above e c f b h p q r = omega arith

-- what is left behind the next byte
after-next : (n y : ℕ) (ys input : List ℕ) → y ∷ ys ≡ drop n input → ys ≡ drop (suc n) input
after-next zero y ys [] e = absurd (let no : y ∷ ys ≡ [] = e in cc)
after-next zero y ys (x ∷ input) e = ap (drop 1) e
after-next (suc n) y ys [] e = absurd (let no : y ∷ ys ≡ [] = e in cc)
after-next (suc n) y ys (x ∷ input) e = after-next n y ys input e

next-left : (n y : ℕ) (ys input : List ℕ) → y ∷ ys ≡ drop n input → ys ≡ drop (n + 1) input
next-left n y ys input e =
    after-next n y ys input e ∙ ap (λ (k : ℕ). drop k input) (let same : suc n ≡ n + 1 = omega arith in same)

minus-one : FitsSigned w32 (negsuc 0)
minus-one = record { sfits = omega arith }

-- the parts of the step: the place of the result, its row, and the call of the routine
record Begun (code : Code) (g : graph.State) (s : State) (d : ℕ) : Type 0 where
  pub place : Place
  pub at : (placement_of code g.current.function).after g.point d ≡ Some place
  pub wide : HasWidth (flow_at code.program g.current.function) d Two
  pub row : RowAt code g (getchar_row place) s
  pub framed : Framed (site_of code g.current.function) (placement_of code g.current.function).frame s
  pub low : (site_of code g.current.function).low + 12 ≤ word_of Esp s
  pub address : ℕ
  pub begun : State
  pub ask : Asked (site_of code g.current.function) (write place Eax ++ row.rest) address s begun

none-follows : (d : ℕ) (code : Code) (input : List ℕ) (g : graph.State) (s : State) → IsSupported code
    → IsState code.program g → (shown : Shows code input g s) → op_at code.program g ≡ Some (op.Getchar d)
    → (h : Begun code g s d) → g.left ≡ []
    → FollowsKept code input s g false (gets code.program g d [])
none-follows d code input g s supported state shown has h none =
    let p = h.ask.called.pushed in
    let got = gets-none (site_of code g.current.function) h.address h.begun p.sound h.ask.called.ready h.ask.low
    h.ask.high p.word h.ask.called.fits (p.left ∙ shown.left ∙ none) in
    let b = came (site_of code g.current.function) (placement_of code g.current.function).frame
    (write h.place Eax ++ h.row.rest) 0xffffffff h.address h.begun.left h.begun.taken s h.begun got.0 h.framed h.low
    h.ask.called got.1 in
    answered-follows code input g s got.0 (op.Getchar d) d 0xffffffff (Number (negsuc 0)) h.place h.row.rest g.left
    g.taken g.written supported state shown has refl (λ q k. k) (λ next k. k) h.wide h.at
    (record {
      comes = b.comes;
      ready = b.ready;
      framed = b.framed;
      eax = b.eax;
      ebx = b.ebx;
      esp = b.esp;
      ebp = b.ebp;
      kept = b.kept;
      left_is = b.left_is ∙ p.left ∙ shown.left;
      taken_is = b.taken_is ∙ p.taken ∙ shown.taken;
      written_is = b.written_is ∙ shown.written;
    }) h.row.follows (minus-one, refl) tt
    (sym shown.left ∙ shown.of_input ∙ ap (λ (k : ℕ). drop k input) shown.taken)

one-follows : (d y : ℕ) (ys : List ℕ) (code : Code) (input : List ℕ) (g : graph.State) (s : State) → IsSupported code
    → IsState code.program g → (shown : Shows code input g s) → op_at code.program g ≡ Some (op.Getchar d)
    → (h : Begun code g s d) → g.left ≡ y ∷ ys
    → FollowsKept code input s g false (gets code.program g d (y ∷ ys))
one-follows d y ys code input g s supported state shown has h some =
    let p = h.ask.called.pushed in
    let small : y < 256 = All-head (λ byte. byte < 256) y ys (subst AreBytes some state.left) in
    let got = gets-one (site_of code g.current.function) h.address y ys h.begun p.sound h.ask.called.ready h.ask.low
    h.ask.high p.word h.ask.called.fits (p.left ∙ shown.left ∙ some) small in
    let b = came (site_of code g.current.function) (placement_of code g.current.function).frame
    (write h.place Eax ++ h.row.rest) y h.address ys (h.begun.taken + 1) s h.begun got.0 h.framed h.low h.ask.called
    got.1 in
    answered-follows code input g s got.0 (op.Getchar d) d y (Number (pos y)) h.place h.row.rest ys (g.taken + 1)
    g.written supported state shown has refl (λ q k. k) (λ next k. k) h.wide h.at
    (record {
      comes = b.comes;
      ready = b.ready;
      framed = b.framed;
      eax = b.eax;
      ebx = b.ebx;
      esp = b.esp;
      ebp = b.ebp;
      kept = b.kept;
      left_is = b.left_is;
      taken_is = b.taken_is ∙ ap (λ (k : ℕ). k + 1) (p.taken ∙ shown.taken);
      written_is = b.written_is ∙ shown.written;
    }) h.row.follows (byte-fits y small, refl) tt
    (next-left g.taken y ys input
    (sym some ∙ sym shown.left ∙ shown.of_input ∙ ap (λ (k : ℕ). drop k input) shown.taken))

pub getchar-follows : GetcharFollows
getchar-follows d code input g s supported state shown has r =
    followed code input g s (op.Getchar d) false supported state has (
    follow g.left refl)
  where
    begun : Begun code g s d
    begun =
        let (place, at) = (point-supported code g (op.Getchar d) supported state has).written d refl in
        let row = at-after code g s d place getchar_row at r in
        let framed = (shown-in-frame code input g s supported state shown).framed in
        let low = stack-room code input g s supported state shown in
        let ask = asked (site_of code g.current.function) (placement_of code g.current.function).frame row.rest place s
        framed low (getchar-stands code g.current.function supported) row.ready in
        record {
          place = place;
          at = at;
          wide = (op-is code g (op.Getchar d) supported state has).fits.0;
          row = row;
          framed = framed;
          low = low;
          address = ask.0;
          begun = ask.1;
          ask = ask.2;
        }

    follow : (l : List ℕ) → g.left ≡ l → FollowsKept code input s g false (gets code.program g d l)
    follow [] e = none-follows d code input g s supported state shown has begun e
    follow (y ∷ ys) e = one-follows d y ys code input g s supported state shown has begun e

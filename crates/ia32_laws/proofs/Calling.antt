-- The row of a call up to the callee's first item, and what follows the call.
use Rattle.std.proofs.Common.{◌≡◌, ℕ, zero, suc, ◌+◌, ◌*◌, ◌^◌, ◌<◌, ◌≤◌, List, [], ◌∷◌, ◌++◌, length, Some, Ok}
use Rattle.std.proofs.Common.{inl, inr, refl, sym, ap, subst, ◌∙◌, arith, append_assoc, length-append}
use Rattle.std.specs.Prelude.{Result}
use Rattle.std.proofs.Math.Nat.{mod-eq_of_lt}
use Rattle.pcc_base.specs.Outcome.{End}
use Rattle.pcc_base.specs.declared.run.Width.TheVariants.{Two}
use Rattle.ia32_insn.specs.declared.register_names.Reg32.TheVariants.{Esp, Ebp, Esi}
use Rattle.ia32_insn.specs.Places.{Place, InWord, InByte, InSlot}
use Rattle.ia32_insn.specs.declared.insn.Insn.TheVariants as insn
use Rattle.ia32_insn.specs.declared.item.Item.{Item}
use Rattle.ia32_insn.specs.declared.item.Item.TheVariants as item
use Rattle.ia32_insn.specs.State.{State, at_address}
use Rattle.ia32_insn.specs.Keeps.{AreDisjoint}
use Rattle.ia32_insn.specs.Meaning.{address_of, load, with_word, word_of}
use Rattle.ia32_insn.specs.Items.{near, text_start}
use Rattle.ia32_rows.specs.Paths.{Comes, IsAt}
use Rattle.ia32_rows.specs.Sites.{Anywhere, Framed, ReadyAt, Site, SoundAt}
use Rattle.ia32_rows.proofs.Sets.{disjoint-part}
use Rattle.ia32_rows.proofs.Sound.{load-same, sound-at, sound-with_word, word-other, word-same}
use Rattle.ia32_rows.proofs.Steps.{comes-not, comes-then, plain-goes}
use Rattle.ia32_rows.proofs.Pushes.{call-goes}
use Rattle.ia32_rows.proofs.Putchar.{near-address}
use Rattle.ia32_rows.specs.Rows.{deepen, drop_words, pass_all, undeepen}
use Rattle.ia32_rows.specs.Effects.{Keeps, OutsideWord}
use Rattle.ia32_rows.specs.Contains.{HoldsWord, IsPlaceIn}
use Rattle.ia32_rows.proofs.Kept.{PlaceHasCells, PlaceHasMemory, contains-kept, framed-kept, keeps-same}
use Rattle.ia32_rows.proofs.Kept.{keeps-stricter}
use Rattle.ia32_rows.proofs.Kept.{keeps-then, other-cells, result-keeps, word-kept}
use Rattle.ia32_rows.proofs.Moves.{general-below}
use Rattle.ia32_rows.proofs.Straight.{straight-goes}
use Rattle.ia32_laws.specs.ActivationsLaws.{AreHeld, CallGoes, ResumeGoes}
use Rattle.ia32_laws.proofs.Arguments.{places-pass}
use Rattle.ia32_laws.proofs.Depth.{depth-counts, depth-uncounts}

-- what is ready stands at an address of 32 bits
pub own-address : (site : Site) (items : List Item) (s : State) → SoundAt site s → ReadyAt site items s
    → at_address s.eip s ≡ s
own-address site items s sound ready =
    let here = ready.here in
    let whole : length site.text ≡ length here.done + length (ready.bytes ++ here.rest) =
    ap length here.whole ∙ length-append here.done (ready.bytes ++ here.rest) in
    let small : s.eip < 2 ^ 32 = counted s.eip (length here.done) (length (ready.bytes ++ here.rest))
    (length site.text) site.low (length sound.bytes) site.high here.place whole sound.above sound.size sound.below in
    ap (λ (e : ℕ). let t : State = record s { eip = e } in t) (mod-eq_of_lt small)
  where
    counted : (e d r n low m high : ℕ) → e ≡ text_start + d → n ≡ d + r → text_start + n ≤ low → low + m ≡ high
        → high < 0x1_0000_0000 → e < 2 ^ 32
    counted e d r n low m high h i j k l = omega arith

-- ---- up to the call

-- ESI is in no place
esi-apart : (frame : ℕ) (p : Place) → HoldsWord p → IsPlaceIn frame p → PlaceHasCells (OutsideWord Esi) p
esi-apart frame (InWord r) holds placed =
    let b = general-below r placed in other-cells r Esi (λ e. omega (arith, e, b))
esi-apart frame (InByte r) holds placed = absurd holds
esi-apart frame (InSlot k) holds placed = tt

-- nor the depth word
depth-apart : (frame depth esp base : ℕ) (p : Place) → depth + 4 ≤ esp → esp + frame ≡ base → IsPlaceIn frame p
    → PlaceHasMemory (λ a n. AreDisjoint depth 4 a n) base p
depth-apart frame depth esp base (InWord r) low h placed = tt
depth-apart frame depth esp base (InByte r) low h placed = tt
depth-apart frame depth esp base (InSlot k) low h placed =
    let high = placed.high in (inl (omega arith), inl (omega arith))

-- the places hold their words still
held-still : (site : Site) (frame : ℕ) (places : List Place) (words : List ℕ) (s m : State)
    → Keeps (OutsideWord Esi) (λ a n. AreDisjoint site.symbols.depth 4 a n) s m
    → site.symbols.depth + 4 ≤ word_of Esp s → word_of Esp s + frame ≡ word_of Ebp s → AreHeld frame s places words
    → AreHeld frame m places words
held-still site frame [] [] s m keeps low esp held = tt
held-still site frame [] (w ∷ words) s m keeps low esp held = absurd held
held-still site frame (p ∷ places) [] s m keeps low esp held = absurd held
held-still site frame (p ∷ places) (w ∷ words) s m keeps low esp held =
    let one = held.0 in (
      (
        one.0,
        one.1,
        contains-kept (OutsideWord Esi) (λ a n. AreDisjoint site.symbols.depth 4 a n) s m Two p w keeps
            (other-cells Ebp Esi (λ e. omega (arith, e))) (esi-apart frame p one.0 one.1)
            (depth-apart frame site.symbols.depth (word_of Esp s) (word_of Ebp s) p low esp one.1) one.2,
        one.3,
      ),
      held-still site frame places words s m keeps low esp held.1,
    )

pub call-makes : CallGoes
call-makes site frame f places words d back s framed has room held depth few ready =
    let call : List Item = item.CallFunction f ∷ back in
    let n : ℕ = 4 * length words in
    let K : ℕ → ℕ → Type 0 = λ a b. AreDisjoint site.symbols.depth 4 a b in
    let whole = framed.esp in
    let low = has.low in
    let first : ReadyAt site (deepen ++ (pass_all places ++ call)) s =
    subst (λ (xs : List Item). ReadyAt site xs s) (append_assoc deepen (pass_all places) call) ready in
    let c = depth-counts site (pass_all places ++ call) d s framed.sound has depth few first in
    let m : State = c.0 in
    let esp_m : word_of Esp m ≡ word_of Esp s = word-kept (OutsideWord Esi) K Esp s m c.1.keeps
    (other-cells Esp Esi (λ e. omega (arith, e))) in
    let framed_m : Framed site frame m = framed-kept (OutsideWord Esi) K site frame s m framed c.1.keeps c.1.sound
    (other-cells Esp Esi (λ e. omega (arith, e))) (other-cells Ebp Esi (λ e. omega (arith, e))) in
    let p = places-pass site frame places words m framed_m (omega (arith, room, low, esp_m))
    (held-still site frame places words s m c.1.keeps (omega (arith, room)) whole held) in
    let v : State = p.0 in
    let own : at_address m.eip m ≡ m = own-address site (pass_all places ++ call) m c.1.sound c.1.ready in
    let went = straight-goes site (pass_all places) call m v m.eip c.1.sound
    (subst (ReadyAt site (pass_all places ++ call)) (sym own) c.1.ready) p.1.leads in
    let t : State = at_address went.0 v in
    let comes : Comes site.text m t = subst (λ (x : State). Comes site.text x t) own went.1 in
    let stand = went.2.stand in
    let there : IsAt site.text t.eip (stand.0 ++ stand.1) = subst (IsAt site.text t.eip) stand.2 went.2.here in
    let down = p.1.esp in
    let top = framed.top in
    let made = call-goes site back stand.3.0 stand.0 stand.1 t
    (sound-at site.text site.low site.high went.0 v p.1.sound) there stand.3.2 stand.4
    (counted-low site.low site.symbols.depth (word_of Esp v) (word_of Esp m) (word_of Esp s) n low room down esp_m)
    (counted-high (word_of Esp v) (word_of Esp m) (word_of Esp s) n frame (word_of Ebp s) site.high down esp_m whole
    top) in
    let u : State = made.0 in
    let pushed = made.3 in
    let up = pushed.esp in (
      u,
      record {
        comes = comes-then site.text s m u c.1.comes (comes-then site.text m t u comes made.1);
        sound = pushed.sound;
        eip = stand.3.1 ∙ ap (λ (k : ℕ). Some k) (sym made.2);
        return_address = t.eip + length stand.0;
        returns = pushed.word;
        fits = made.5;
        returns_to = made.4;
        esp = (let e : word_of Esp u + 4 + 4 * length words ≡ word_of Esp s = omega (arith, up, down, esp_m) in e);
        stand = λ k w e. subst (λ (b : ℕ). load 4 (b + 4 * k) u ≡ Ok w) (sym up)
            (pushed.apart 4 (word_of Esp v + 4 * k) w (inl (omega (arith, up)))
            (load-same 4 (word_of Esp v + 4 * k) w v t refl (p.1.stand k w e)));
        depth = pushed.apart 4 site.symbols.depth (d + 1)
            (inr (counted-depth site.symbols.depth (word_of Esp u) (word_of Esp v) (word_of Esp m) (word_of Esp s) n
            room up down esp_m))
            (load-same 4 site.symbols.depth (d + 1) v t refl (p.1.keeps.loads 4 site.symbols.depth (d + 1)
            (inr (counted-above site.symbols.depth (word_of Esp v) (word_of Esp m) (word_of Esp s) n room down esp_m))
            c.1.depth));
        others = λ q one two. pushed.others q two
            ∙ word-kept (OutsideWord Esp) (λ a b. AreDisjoint (word_of Esp v) (4 * length words) a b) q m v p.1.keeps
            (other-cells q Esp two)
            ∙ word-kept (OutsideWord Esi) K q s m c.1.keeps (other-cells q Esi one);
        kept = λ k a w one two e. pushed.apart k a w
            (disjoint-part (word_of Esp u) (4 + 4 * length words) (word_of Esp u) 4 a k (omega arith) (omega arith) two)
            (load-same k a w v t refl (p.1.keeps.loads k a w
            (disjoint-part (word_of Esp u) (4 + 4 * length words) (word_of Esp v) (4 * length words) a k
            (omega (arith, up)) (omega (arith, up)) two) (c.1.keeps.loads k a w one e)));
        left = pushed.left ∙ p.1.keeps.left ∙ c.1.keeps.left;
        taken = pushed.taken ∙ p.1.keeps.taken ∙ c.1.keeps.taken;
        written = pushed.written ∙ p.1.keeps.written ∙ c.1.keeps.written;
      },
    )
  where
    counted-low : (low depth v m s n : ℕ) → low ≤ depth → depth + n + 16 ≤ s → v + n ≡ m → m ≡ s → low + 4 ≤ v
    counted-low low depth v m s n a b c d = omega arith

    counted-high : (v m s n f b h : ℕ) → v + n ≡ m → m ≡ s → s + f ≡ b → b + 8 ≤ h → v ≤ h
    counted-high v m s n f b h p q r t = omega arith

    counted-depth : (depth u v m s n : ℕ) → depth + n + 16 ≤ s → u + 4 ≡ v → v + n ≡ m → m ≡ s → depth + 4 ≤ u
    counted-depth depth u v m s n a b c d = omega arith

    counted-above : (depth v m s n : ℕ) → depth + n + 16 ≤ s → v + n ≡ m → m ≡ s → depth + 4 ≤ v
    counted-above depth v m s n a b c = omega arith

-- ---- behind it

-- argument words come off the stack
record Dropped (site : Site) (frame : ℕ) (items : List Item) (words : ℕ) (s u : State) : Type 0 where
  pub comes : Comes site.text s u
  pub ready : ReadyAt site items u
  pub framed : Framed site frame u
  pub esp : word_of Esp u ≡ word_of Esp s + 4 * words
  pub memory : u.memory ≡ s.memory
  pub keeps : Keeps (OutsideWord Esp) Anywhere s u

drops : (site : Site) (frame words : ℕ) (items : List Item) (s : State) → SoundAt site s
    → word_of Esp s + 4 * words + frame ≡ word_of Ebp s → site.low + 4 ≤ word_of Esp s → word_of Ebp s + 8 ≤ site.high
    → ReadyAt site (drop_words words ++ items) s → (u : State) × Dropped site frame items words s u
drops site frame zero items s sound whole room top ready = (
  s,
  record {
    comes = comes-not site.text s;
    ready = ready;
    framed = record { sound = sound; esp = omega (arith, whole); room = room; top = top };
    esp = (let e : word_of Esp s ≡ word_of Esp s + 4 * zero = omega arith in e);
    memory = refl;
    keeps = keeps-same (OutsideWord Esp) Anywhere s;
  },
)
drops site frame (suc n) items s sound whole room top ready =
    let below = sound.below in
    let d : ℕ = 4 * suc n in
    let at : address_of (near Esp d) s ≡ word_of Esp s + d = near-address d s (omega (arith, whole, top, below)) in
    let t : State = with_word Esp (word_of Esp s + d) s in
    let went = plain-goes site.symbols site.places site.text site.low site.high (insn.Lea Esp (near Esp d)) items s t
    sound ready tt (λ after. ap (λ (k : ℕ). let r : Result State End = Ok (with_word Esp k s) in r) at)
    (λ after. refl) in
    let u : State = at_address went.0 t in
    let sound_u : SoundAt site u = sound-at site.text site.low site.high went.0 t
    (sound-with_word site.text site.low site.high Esp (word_of Esp s + d) s sound) in
    let esp : word_of Esp u ≡ word_of Esp s + d = word-same site.text site.low site.high Esp (word_of Esp s + d) s sound
    (omega (arith, whole, top, below)) in
    let ebp : word_of Ebp u ≡ word_of Ebp s = word-other site.text site.low site.high Ebp Esp (word_of Esp s + d) s
    sound (λ e. omega (arith, e)) in
    let keeps = result-keeps site Esp (word_of Esp s + d) s.flags s sound in (
      u,
      record {
        comes = went.1;
        ready = went.2;
        framed = record {
          sound = sound_u;
          esp = (let e : word_of Esp u + frame ≡ word_of Ebp u = omega (arith, esp, ebp, whole) in e);
          room = omega (arith, esp, room);
          top = subst (λ (k : ℕ). k + 8 ≤ site.high) (sym ebp) top;
        };
        esp = esp;
        memory = refl;
        keeps = record {
          cells = keeps.cells;
          loads = λ n a w k e. load-same n a w t u refl (keeps.loads n a w k e);
          left = keeps.left;
          taken = keeps.taken;
          written = keeps.written;
        };
      },
    )

pub resume-goes : ResumeGoes
resume-goes site frame words d items s sound has whole room top held some few ready =
    let first : ReadyAt site (drop_words words ++ (undeepen ++ items)) s =
    subst (λ (xs : List Item). ReadyAt site xs s) (append_assoc (drop_words words) undeepen items) ready in
    let p = drops site frame words (undeepen ++ items) s sound whole room top first in
    let m : State = p.0 in
    let K : ℕ → ℕ → Type 0 = λ a n. AreDisjoint site.symbols.depth 4 a n in
    let S : ℕ → Type 0 = λ k. OutsideWord Esi k × OutsideWord Esp k in
    let c = depth-uncounts site items d m p.1.framed.sound has
    (load-same 4 site.symbols.depth d s m p.1.memory held) some few p.1.ready in
    let u : State = c.0 in
    let esp : word_of Esp u ≡ word_of Esp m = word-kept (OutsideWord Esi) K Esp m u c.1.keeps
    (other-cells Esp Esi (λ e. omega (arith, e))) in (
      u,
      record {
        comes = comes-then site.text s m u p.1.comes c.1.comes;
        ready = c.1.ready;
        framed = framed-kept (OutsideWord Esi) K site frame m u p.1.framed c.1.keeps c.1.sound
            (other-cells Esp Esi (λ e. omega (arith, e))) (other-cells Ebp Esi (λ e. omega (arith, e)));
        esp = esp ∙ p.1.esp;
        depth = c.1.depth;
        keeps = keeps-then S K s m u
            (keeps-stricter (OutsideWord Esp) S Anywhere K s m (λ k h. h.1) (λ a n h. tt) p.1.keeps)
            (keeps-stricter (OutsideWord Esi) S K K m u (λ k h. h.0) (λ a n h. h) c.1.keeps);
      },
    )

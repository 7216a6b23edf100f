-- The words of places go onto the stack, the last one first.
use Rattle.std.proofs.Common.{◌≡◌, ℕ, zero, suc, ◌+◌, ◌-◌, ◌*◌, ◌≤◌, [], ◌∷◌, length, Some, Ok}
use Rattle.std.proofs.Common.{inl, refl, sym, ap, subst, ◌∙◌, arith}
use Rattle.std.specs.Prelude.{slice_get}
use Rattle.std.proofs.lemmas.Option.{none-some, same_Some}
use Rattle.pcc_base.specs.declared.run.Width.TheVariants.{Two}
use Rattle.ia32_insn.specs.declared.register_names.Reg32.TheVariants.{Esp, Ebp}
use Rattle.ia32_insn.specs.Places.{Place, InWord, InByte, InSlot}
use Rattle.ia32_insn.specs.State.{State}
use Rattle.ia32_insn.specs.Keeps.{AreDisjoint}
use Rattle.ia32_insn.specs.Meaning.{load, word_of}
use Rattle.ia32_rows.specs.Sites.{Framed}
use Rattle.ia32_rows.proofs.Sets.{disjoint-part}
use Rattle.ia32_rows.specs.Rows.{pass, pass_all}
use Rattle.ia32_rows.specs.Effects.{Keeps, OutsideWord}
use Rattle.ia32_rows.specs.Contains.{Contains, HoldsWord, IsPlaceIn}
use Rattle.ia32_rows.proofs.Kept.{PlaceHasCells, PlaceHasMemory, contains-kept, keeps-same, keeps-stricter}
use Rattle.ia32_rows.proofs.Kept.{keeps-then}
use Rattle.ia32_rows.proofs.Kept.{other-cells, word-kept}
use Rattle.ia32_rows.proofs.Moves.{general-below}
use Rattle.ia32_rows.proofs.Straight.{leads-join}
use Rattle.ia32_laws.proofs.Passing.{word-passes}
use Rattle.ia32_laws.specs.ActivationsLaws.{PlacesPass}

-- a place in a frame is in a greater one
wider : (frame more : ℕ) (p : Place) → frame ≤ more → IsPlaceIn frame p → IsPlaceIn more p
wider frame more (InWord r) h placed = placed
wider frame more (InByte r) h placed = tt
wider frame more (InSlot k) h placed = let high = placed.high in record { low = placed.low; high = omega arith }

-- ESP is in no place for a word
esp-apart : (frame : ℕ) (p : Place) → HoldsWord p → IsPlaceIn frame p → PlaceHasCells (OutsideWord Esp) p
esp-apart frame (InWord r) holds placed =
    let b = general-below r placed in other-cells r Esp (λ e. omega (arith, e, b))
esp-apart frame (InByte r) holds placed = absurd holds
esp-apart frame (InSlot k) holds placed = tt

-- nor what is below the frame
slot-apart : (frame esp size base : ℕ) (p : Place) → esp + size + frame ≡ base → IsPlaceIn frame p
    → PlaceHasMemory (λ a n. AreDisjoint esp size a n) base p
slot-apart frame esp size base (InWord r) h placed = tt
slot-apart frame esp size base (InByte r) h placed = tt
slot-apart frame esp size base (InSlot k) h placed =
    let high = placed.high in (inl (omega arith), inl (omega arith))

-- one word more below those that stand
one-more : (e k : ℕ) → e + 4 + 4 * k ≡ e + 4 * suc k
one-more e k = omega arith

pub places-pass : PlacesPass
places-pass site frame [] [] s framed room held = (
  s,
  record {
    leads = refl;
    sound = framed.sound;
    esp = (let e : word_of Esp s + 4 * 0 ≡ word_of Esp s = omega arith in e);
    stand = λ k w e. absurd (none-some w e);
    keeps = keeps-same (OutsideWord Esp) (λ a n. AreDisjoint (word_of Esp s) (4 * 0) a n) s;
  },
)
places-pass site frame [] (w ∷ words) s framed room held = absurd held
places-pass site frame (p ∷ places) [] s framed room held = absurd held
places-pass site frame (p ∷ places) (w ∷ words) s framed room held =
    let n : ℕ = 4 * length words in
    let rest = places-pass site frame places words s framed (omega (arith, room)) held.1 in
    let m : State = rest.0 in
    let K : ℕ → ℕ → Type 0 = λ a n. AreDisjoint (word_of Esp m) (4 * length words) a n in
    let top = framed.top in
    let whole = framed.esp in
    let down = rest.1.esp in
    let ebp : word_of Ebp m ≡ word_of Ebp s =
    word-kept (OutsideWord Esp) K Ebp s m rest.1.keeps (other-cells Ebp Esp (λ e. omega (arith, e))) in
    let framed_m : Framed site (n + frame) m = record {
      sound = rest.1.sound;
      esp = (let e : word_of Esp m + (n + frame) ≡ word_of Ebp m = omega (arith, whole, down, ebp) in e);
      room = omega (arith, room, down);
      top = subst (λ (k : ℕ). k + 8 ≤ site.high) (sym ebp) top;
    } in
    let contains : Contains m Two p w =
    contains-kept (OutsideWord Esp) K s m Two p w rest.1.keeps (other-cells Ebp Esp (λ e. omega (arith, e)))
    (esp-apart frame p held.0.0 held.0.1)
    (slot-apart frame (word_of Esp m) n (word_of Ebp s) p (omega (arith, whole, down)) held.0.1) held.0.2 in
    let last = word-passes site (n + frame) p w m framed_m held.0.0
    (wider frame (n + frame) p (omega arith) held.0.1) contains held.0.3 in
    let u : State = last.0 in
    let up = last.1.esp in
    let at : word_of Esp m - 4 ≡ word_of Esp u = omega (arith, up) in
    let L : ℕ → ℕ → Type 0 = λ a n. AreDisjoint (word_of Esp u) (4 * suc (length words)) a n in
    let M : ℕ → ℕ → Type 0 = λ a n. AreDisjoint (word_of Esp m - 4) 4 a n in (
      u,
      record {
        leads = leads-join site (pass_all places) (pass p) s m u rest.1.leads last.1.leads;
        sound = last.1.sound;
        esp = (let e : word_of Esp u + 4 * suc (length words) ≡ word_of Esp s = omega (arith, up, down) in e);
        stand = stands u m at up rest.1.stand last.1.word last.1.keeps;
        keeps = keeps-then (OutsideWord Esp) L s m u
            (keeps-stricter (OutsideWord Esp) (OutsideWord Esp) K L s m (λ k h. h)
            (λ a b h. disjoint-part (word_of Esp u) (4 * suc (length words)) (word_of Esp m) (4 * length words) a b
            (omega (arith, up)) (omega (arith, up)) h) rest.1.keeps)
            (keeps-stricter (OutsideWord Esp) (OutsideWord Esp) M L m u (λ k h. h)
            (λ a b h. disjoint-part (word_of Esp u) (4 * suc (length words)) (word_of Esp m - 4) 4 a b
            (omega (arith, up)) (omega (arith, up)) h) last.1.keeps);
      },
    )
  where
    stands : (u m : State) → word_of Esp m - 4 ≡ word_of Esp u → word_of Esp u + 4 ≡ word_of Esp m
        → ((k v : ℕ) → slice_get words k ≡ Some v → load 4 (word_of Esp m + 4 * k) m ≡ Ok v)
        → load 4 (word_of Esp m - 4) u ≡ Ok w
        → Keeps (OutsideWord Esp) (λ a n. AreDisjoint (word_of Esp m - 4) 4 a n) m u
        → (k v : ℕ) → slice_get (w ∷ words) k ≡ Some v → load 4 (word_of Esp u + 4 * k) u ≡ Ok v
    stands u m at up before word keeps zero v e =
        let here : word_of Esp m - 4 ≡ word_of Esp u + 4 * zero = omega (arith, at) in
        subst (λ (a : ℕ). load 4 a u ≡ Ok v) here (word ∙ ap (λ (x : ℕ). Ok x) (same_Some w v e))
    stands u m at up before word keeps (suc k) v e =
        let here : word_of Esp m + 4 * k ≡ word_of Esp u + 4 * suc k = omega (arith, up) in
        subst (λ (a : ℕ). load 4 a u ≡ Ok v) here
        (keeps.loads 4 (word_of Esp m + 4 * k) v (inl (omega (arith, at, up))) (before k v e))

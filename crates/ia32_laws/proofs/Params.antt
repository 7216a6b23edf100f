-- An argument word comes to the place of a variable.
use Rattle.std.proofs.Common.{◌≡◌, ℕ, ◌+◌, ◌-◌, ◌*◌, ◌%◌, ◌^◌, ◌<◌, ◌≤◌, List, Option, Some, None, Ok}
use Rattle.std.proofs.Common.{refl, sym, ap, subst, ◌∙◌, arith}
use Rattle.std.specs.Prelude.{⊤, Result, false, slice_get}
use Rattle.std.specs.Int.{w32, cast_signed, cast_unsigned}
use Rattle.std.proofs.lemmas.Int.{of_z-to_z}
use Rattle.pcc_base.specs.Outcome.{End, Value}
use Rattle.pcc_base.specs.declared.run.Width.{Width}
use Rattle.ia32_insn.specs.declared.register_names.Reg32.{Reg32}
use Rattle.ia32_insn.specs.declared.register_names.Reg32.TheVariants.{Esp, Ebp}
use Rattle.ia32_insn.specs.Places.{Place}
use Rattle.ia32_insn.specs.declared.insn.Insn.TheVariants as insn
use Rattle.ia32_insn.specs.State.{State, at_address}
use Rattle.ia32_insn.specs.Meaning.{address_of, and_then, load, with_word, word_of}
use Rattle.flow_graph.specs.declared.op.Op.TheVariants as op
use Rattle.flow_graph.specs.Meaning.{Moved, Stuck, given, sets}
use Rattle.flow_graph.specs.States.{active_of, depth_of}
use Rattle.ia32_laws.proofs.Landing.{FollowsKept, followed}
use Rattle.ia32_rows.specs.Placements.{placement_of}
use Rattle.ia32_rows.specs.Shows.{IsOldArray}
use Rattle.ia32_rows.specs.Sites.{Framed, Site}
use Rattle.ia32_rows.proofs.Sound.{load-place, load-same, sound-with_word}
use Rattle.ia32_rows.specs.Rows.{argument_word, param_row, target_of}
use Rattle.ia32_rows.specs.Effects.{Makes, OutsideWord}
use Rattle.ia32_rows.specs.Contains.{IsPlaceIn}
use Rattle.ia32_rows.specs.Laws.{Puts}
use Rattle.ia32_rows.proofs.Kept.{other-cells}
use Rattle.ia32_rows.proofs.Moves.{gives-word}
use Rattle.ia32_laws.specs.Supports.{site_of}
use Rattle.ia32_laws.proofs.Small.{word-small}
use Rattle.ia32_laws.proofs.Ops.{at-after, op-is}
use Rattle.ia32_laws.proofs.Puts.{IsLow, puts-follow}
use Rattle.ia32_laws.proofs.Shown.{point-supported}
use Rattle.ia32_laws.proofs.Zones.{shown-in-frame}
use Rattle.ia32_laws.proofs.Goes.{goes-of, puts-plain, target-within, target-works, then-written}
use Rattle.ia32_laws.specs.RoutinesOps.{ParamFollows}

-- a word so far above EBP, at its address
argument-address : (base k : ℕ) → base + 8 + 4 * k + 4 ≤ 0xffffffff
    → (base + 0 + cast_unsigned w32 (cast_signed w32 ((8 + 4 * k) % 2 ^ 32))) % 0x1_0000_0000 ≡ base + 8 + 4 * k
argument-address base k h =
    let n : ℕ = 8 + 4 * k in
    let small : n % 2 ^ 32 < 2 ^ 32 = omega arith in
    let none : n % 2 ^ 32 ≡ n = omega (arith, h) in
    ap (λ (m : ℕ). (base + 0 + m) % 0x1_0000_0000) (of_z-to_z w32 (n % 2 ^ 32) small ∙ none) ∙ last base k h
  where
    last : (base k : ℕ) → base + 8 + 4 * k + 4 ≤ 0xffffffff
        → (base + 0 + (8 + 4 * k)) % 0x1_0000_0000 ≡ base + 8 + 4 * k
    last base k h = omega (arith, h)

-- MOV of an argument word to a register
argument-makes : (site : Site) (frame : ℕ) (t : Reg32) (k w : ℕ) (s : State) → Framed site frame s
    → load 4 (word_of Ebp s + 8 + 4 * k) s ≡ Ok w
    → Makes site (insn.MovLoad t (argument_word k)) s (with_word t w s)
argument-makes site frame t k w s framed held =
    let esp = framed.esp in
    let room = framed.room in
    let base : ℕ = word_of Ebp s in
    let top = load-place site.text site.low site.high 4 (base + 8 + 4 * k) w s framed.sound
    (above site.low (word_of Esp s) frame base k room esp) held (omega arith) in
    let at : address_of (argument_word k) s ≡ base + 8 + 4 * k =
    argument-address base k (fits (base + 8 + 4 * k) site.high top framed.sound.below) in
    let loaded : load 4 (address_of (argument_word k) s) s ≡ Ok w = ap (λ (a : ℕ). load 4 a s) at ∙ held in
    record {
      straight = tt;
      does = λ address. ap (λ (x : Result ℕ End). and_then x
          (λ value. let q : Result State End = Ok (with_word t value (at_address address s)) in q))
          (load-same 4 (address_of (argument_word k) s) w s (at_address address s) refl loaded);
      sound = sound-with_word site.text site.low site.high t w s framed.sound;
    }
  where
    above : (low esp frame base k : ℕ) → low + 4 ≤ esp → esp + frame ≡ base → low ≤ base + 8 + 4 * k
    above low esp frame base k room e = omega arith

    fits : (a high : ℕ) → a + 4 ≤ high → high < 0x1_0000_0000 → a + 4 ≤ 0xffffffff
    fits a high h l = omega arith

-- it comes to a place
param-puts : (site : Site) (frame : ℕ) (p : Place) (k w : ℕ) (s : State) → Framed site frame s → 16 ≤ frame
    → IsPlaceIn frame p → load 4 (word_of Ebp s + 8 + 4 * k) s ≡ Ok w → w < 2 ^ 32
    → (u : State) × Puts site frame (param_row p k) p w s u
param-puts site frame p k w s framed room to held fits =
    let t : Reg32 = target_of p in
    let works = target-works frame p to in
    let first = gives-word site frame (insn.MovLoad t (argument_word k)) t w s framed works fits
    (argument-makes site frame t k w s framed held) in
    let all = then-written (OutsideWord t) (λ n. ⊤) site frame _ p t w s first.0
    (goes-of site frame _ t w s first.0 first.1) (other-cells Ebp t works.1)
    (λ n h q. target-within p n h) room to first.1.value in
    (all.0, puts-plain site frame (param_row p k) p w s all.0 all.1)

-- a step with a value, where there is one
given-value : (P : Moved → Type 0) (o : Option Value) (go : Value → Moved) → P Stuck
    → ((v : Value) → o ≡ Some v → P (go v)) → P (given o go)
given-value P None go none some = none
given-value P (Some v) go none some = some v refl

pub param-follows : ParamFollows
param-follows d k code input g s supported state shown has r =
    followed code input g s (op.Param d k) false supported state has (
    given-value (FollowsKept code input s g false) (slice_get g.current.arguments k) (sets code.program g d) tt (λ v e.
    let here = point-supported code g (op.Param d k) supported state has in
    let (place, at) = here.written d refl in
    let for = here.after d place at in
    let framed = (shown-in-frame code input g s supported state shown).framed in
    let four = (supported.supports g.current.function state.active.0.function).four_words in
    let wide = (op-is code g (op.Param d k) supported state has).fits.0 in
    let held = shown.arguments 0 g.current (word_of Ebp s) refl
    (ap (λ (fs : List ℕ). slice_get fs 0) shown.youngest) k v e in
    let small = word-small code input g s v held.0 supported state shown held.2 in
    let all : depth_of g - 0 ≡ depth_of g = omega arith in
    let old : IsOldArray (depth_of g) v =
    subst (λ (n : ℕ). IsOldArray n v) all ((shown.old_arrays 0 g.current refl).1 k v e) in
    puts-follow code input g s (op.Param d k) d held.0 v place (param_row place k) supported state shown has refl
    (λ next h. h) (at-after code g s d place (λ p. param_row p k) at r) at
    (param-puts (site_of code g.current.function) (placement_of code g.current.function).frame place k held.0 s framed
    four for.inside held.1 small)
    (subst (λ (x : Option Width). IsLow code (active_of g) shown.frames x v held.0) (sym wide) held.2) old))

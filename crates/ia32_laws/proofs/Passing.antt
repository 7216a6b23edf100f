-- The word of a place goes onto the stack.
use Rattle.std.proofs.Common.{◌≡◌, ℕ, ◌-◌, ◌%◌, ◌^◌, ◌<◌, [], ◌∷◌, Ok, refl, ap, ◌∙◌, arith}
use Rattle.std.specs.Prelude.{Result}
use Rattle.pcc_base.specs.Outcome.{End}
use Rattle.ia32_insn.specs.declared.register_names.Reg32.TheVariants.{Esp}
use Rattle.ia32_insn.specs.Places.{InWord, InByte, InSlot}
use Rattle.ia32_insn.specs.declared.operand.Rm32.{Rm32}
use Rattle.ia32_insn.specs.declared.operand.Rm32.TheVariants as rm
use Rattle.ia32_insn.specs.declared.insn.Insn.TheVariants as insn
use Rattle.ia32_insn.specs.Keeps.{AreDisjoint}
use Rattle.ia32_insn.specs.State.{State, at_address}
use Rattle.ia32_insn.specs.Arithmetic.{difference}
use Rattle.ia32_insn.specs.Items.{plain}
use Rattle.ia32_insn.specs.Meaning.{address_of, and_then, push, read32, store, with_word, word_of}
use Rattle.ia32_rows.specs.Placements.{below}
use Rattle.ia32_rows.specs.Sites.{Anywhere, Framed, Site}
use Rattle.ia32_rows.proofs.Sound.{load-same, sound-with_word, store-in, word-below, word-same}
use Rattle.ia32_rows.specs.Effects.{Makes, OutsideWord}
use Rattle.ia32_rows.proofs.Instructions.{below-loaded, store-at}
use Rattle.ia32_rows.proofs.Kept.{keeps-stricter, keeps-then, result-keeps, stored-keeps}
use Rattle.ia32_laws.specs.CoresLaws.{Passes, WordPasses}

-- PUSH of an operand with this word
push-passes : (site : Site) (frame : ℕ) (operand : Rm32) (x : ℕ) (s : State) → Framed site frame s → x < 2 ^ 32
    → ((address : ℕ) → read32 operand (at_address address s) ≡ Ok x)
    → (u : State) × Passes site (plain (insn.Push operand) ∷ []) x s u
push-passes site frame operand x s framed fits reads =
    let esp = framed.esp in
    let room = framed.room in
    let top = framed.top in
    let small = word-below site.text site.low site.high Esp s framed.sound in
    let a : ℕ = word_of Esp s - 4 in
    let at : difference (word_of Esp s) 4 ≡ a = omega arith in
    let stored = store-in site.text site.low site.high a x s framed.sound (omega arith) (omega arith) fits in
    let m : State = stored.0 in
    let u : State = with_word Esp a m in
    let sound = sound-with_word site.text site.low site.high Esp a m stored.1.sound in
    let is : word_of Esp u ≡ a = word-same site.text site.low site.high Esp a m stored.1.sound (omega arith) in
    let K : ℕ → ℕ → Type 0 = λ b n. AreDisjoint a 4 b n in
    let makes : Makes site (insn.Push operand) s u = record {
      straight = tt;
      does = λ address. ap (λ (v : Result ℕ End). and_then v (λ value. push value (at_address address s)))
          (reads address)
          ∙ ap (λ (k : ℕ). and_then (store 4 k x (at_address address s))
          (λ t. let r : Result State End = Ok (with_word Esp k t) in r)) at
          ∙ ap (λ (v : Result State End). and_then v (λ t. let r : Result State End = Ok (with_word Esp a t) in r))
          (store-at 4 a x address s m stored.1.is);
      sound = sound;
    } in (
      u,
      record {
        leads = (u, makes, refl);
        sound = sound;
        esp = omega (arith, is);
        word = load-same 4 a x m u refl stored.1.same;
        byte = load-same 1 a (x % 256) m u refl stored.1.byte;
        keeps = keeps-then (OutsideWord Esp) K s m u (stored-keeps (OutsideWord Esp) site a x s m stored.1)
            (keeps-stricter (OutsideWord Esp) (OutsideWord Esp) Anywhere K m u (λ k h. h) (λ b n l. tt)
            (result-keeps site Esp a m.flags m stored.1.sound));
      },
    )

pub word-passes : WordPasses
word-passes site frame (InWord r) x s framed holds placed contains fits =
    push-passes site frame (rm.Reg r) x s framed fits
    (λ address. ap (λ (v : ℕ). let w : Result ℕ End = Ok v in w) contains)
word-passes site frame (InByte r) x s framed holds placed contains fits = absurd holds
word-passes site frame (InSlot k) x s framed holds placed contains fits =
    let low = placed.low in
    let loaded = below-loaded site frame k 4 x s framed (omega arith) placed.high contains in
    push-passes site frame (rm.Mem (below k)) x s framed fits
    (λ address. load-same 4 (address_of (below k) s) x s (at_address address s) refl loaded)

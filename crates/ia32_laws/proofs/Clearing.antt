-- The row makes the words at a place of the frame 0.
use Rattle.std.proofs.Common.{◌≡◌, ℕ, ◌+◌, ◌-◌, ◌*◌, ◌/◌, ◌<◌, ◌≤◌, List, ◌∷◌, pos, refl, sym, subst}
use Rattle.std.proofs.Common.{◌∙◌, arith}
use Rattle.std.specs.Prelude.{⊤}
use Rattle.ia32_insn.specs.declared.register_names.Reg32.TheVariants.{Ebp, Esi, Edi}
use Rattle.ia32_insn.specs.declared.operand.Rm32.TheVariants as rm
use Rattle.ia32_insn.specs.declared.insn.Insn.{Insn}
use Rattle.ia32_insn.specs.declared.insn.Insn.TheVariants as insn
use Rattle.ia32_insn.specs.declared.item.Item.{Item}
use Rattle.ia32_insn.specs.declared.item.Item.TheVariants as item
use Rattle.ia32_insn.specs.Keeps.{AreDisjoint}
use Rattle.ia32_insn.specs.State.{State}
use Rattle.ia32_insn.specs.Meaning.{word_of}
use Rattle.ia32_insn.specs.Items.{near, plain}
use Rattle.ia32_rows.specs.Placements.{below}
use Rattle.ia32_rows.proofs.Filling.{number-fills, turn, words-fill, zeros-load}
use Rattle.ia32_rows.proofs.Sets.{unlike}
use Rattle.ia32_rows.proofs.Sound.{load-same}
use Rattle.ia32_rows.proofs.Steps.{comes-then}
use Rattle.ia32_rows.proofs.Prologue.{lea-goes}
use Rattle.ia32_laws.specs.ClearsLaws.{ClearGoes}

pub clear-goes : ClearGoes
clear-goes site frame label distance bytes back s framed ready some words inside within =
    let E : ℕ = word_of Ebp s in
    let first : ℕ = E - distance in
    let count : ℕ = bytes / 4 in
    let esp = framed.esp in
    let room = framed.room in
    let top = framed.top in
    let down : distance ≤ E = omega (arith, esp, within) in
    let all : 4 * count ≡ bytes = omega (arith, words) in
    let filler : Insn = insn.MovImm (rm.Mem (near Esi 0)) (pos 0) in
    let loop : List Item = item.Label label ∷ turn Esi filler Edi label back in
    let p = lea-goes site (plain (insn.Lea Esi (below (distance - bytes))) ∷ loop) Edi distance s framed.sound ready
    (omega (arith, inside)) down in
    let t : State = p.0 in
    let same : word_of Ebp t ≡ E = p.3.others Ebp (unlike 5 7 refl) in
    let q = lea-goes site loop Esi (distance - bytes) t p.3.sound p.2 (omega (arith, inside))
    (omega (arith, same, down)) in
    let m : State = q.0 in
    let low : site.low ≤ first = omega (arith, esp, room, within) in
    let high : first + 4 * count ≤ site.high = omega (arith, top, all, inside, down) in
    let behind : word_of Esi m ≡ first + 4 * count =
    q.3.value ∙ start E (word_of Ebp t) distance bytes count same all inside down in
    let r = words-fill site Esi Edi (λ t. ⊤) filler label first 0 count back m (number-fills Esi (pos 0) (omega arith))
    (unlike 7 6 refl) q.3.sound q.2 (omega (arith, some, words)) low high behind tt
    (q.3.others Edi (unlike 7 6 refl) ∙ p.3.value) in
    let u : State = r.0 in (
      u,
      record {
        comes = comes-then site.text s t u p.1 (comes-then site.text t m u q.1 r.1);
        ready = r.2;
        sound = r.3.sound;
        others = λ k six seven. r.3.others k six ∙ q.3.others k six ∙ p.3.others k seven;
        zeros = λ n b from to more. zeros-load site first count n b u r.3.sound low high r.3.words from
            (subst (λ (z : ℕ). b + n ≤ first + z) (sym all) to) more;
        kept = λ n b w apart e. r.3.kept n b w (subst (λ (z : ℕ). AreDisjoint first z b n) (sym all) apart)
            (load-same n b w s m (q.3.memory ∙ p.3.memory) e);
        left = r.3.left ∙ q.3.left ∙ p.3.left;
        taken = r.3.taken ∙ q.3.taken ∙ p.3.taken;
        written = r.3.written ∙ q.3.written ∙ p.3.written;
      },
    )
  where
    start : (e t d b c : ℕ) → t ≡ e → 4 * c ≡ b → b < d → d ≤ e → t - (d - b) ≡ e - d + 4 * c
    start e t d b c h k l m = omega arith

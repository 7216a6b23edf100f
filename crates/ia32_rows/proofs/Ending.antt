-- The end of the run behind the return of `main`.
use Rattle.std.proofs.Common.{◌≡◌, ℕ, List, [], ◌∷◌, ◌++◌, pos, refl, sym, subst, ◌∙◌}
use Rattle.ia32_insn.specs.declared.register_names.Reg32.TheVariants.{Eax, Ebx}
use Rattle.ia32_insn.specs.declared.operand.Rm32.TheVariants as rm
use Rattle.ia32_insn.specs.declared.insn.Insn.TheVariants as insn
use Rattle.ia32_insn.specs.declared.item.Item.{Item}
use Rattle.ia32_insn.specs.State.{State}
use Rattle.ia32_insn.specs.Meaning.{word_of}
use Rattle.ia32_insn.specs.Items.{ItemsAt, plain, text_start}
use Rattle.ia32_rows.proofs.Sound.{word-below}
use Rattle.ia32_rows.proofs.Steps.{IsAt, at-back, comes-then}
use Rattle.ia32_rows.specs.CallsLaws.{Ending, EndingHalts}
use Rattle.ia32_rows.proofs.Sets.{unlike, set-goes}
use Rattle.ia32_rows.proofs.Pushes.{one_fits}
use Rattle.ia32_rows.proofs.Interrupts.{exit-halts}
use Rattle.ia32_rows.specs.Sites.{Site, SoundAt, ReadyAt}

-- the items behind the start's call
abbrev exiting : List Item
exiting = plain (insn.Mov (rm.Reg Ebx) Eax) ∷ plain (insn.MovImm (rm.Reg Eax) (pos 1)) ∷ plain (insn.Int 0x80) ∷ []

ends : (site : Site) (x : ℕ) (s : State) → SoundAt site s → ReadyAt site exiting s → word_of Eax s ≡ x → (t : State)
    × Ending site.text x s t
ends site x s sound ready is =
    let two : List Item = plain (insn.Int 0x80) ∷ [] in
    let p = set-goes site (plain (insn.MovImm (rm.Reg Eax) (pos 1)) ∷ two) (insn.Mov (rm.Reg Ebx) Eax) Ebx
    (word_of Eax s) s.flags s sound ready tt (word-below site.text site.low site.high Eax s sound) (λ after. refl)
    (λ after. refl) in
    let a : State = p.0 in
    let q = set-goes site two (insn.MovImm (rm.Reg Eax) (pos 1)) Eax 1 a.flags a p.3.sound p.2 tt one_fits
    (λ after. refl) (λ after. refl) in
    let t : State = q.0 in
    let halts = exit-halts site [] x t q.3.sound q.2 q.3.value (q.3.others Ebx (unlike 3 0 refl) ∙ p.3.value ∙ is) in (
      t,
      record {
        comes = comes-then site.text s a t p.1 q.1;
        clear = halts.1;
        halts = halts.0;
        taken = q.3.taken ∙ p.3.taken;
        written = q.3.written ∙ p.3.written;
      },
    )

-- behind the return of `main` the run ends with the low byte of its result
pub ending-halts : EndingHalts
ending-halts symbols text objects main low high x s sound
    (before, after, places, first, stand, (done, rest, whole, place), at) is =
    let site : Site = record { symbols = symbols; places = places; text = text; low = low; high = high } in
    let both : IsAt text text_start (before ++ after) =
    record { done = done; rest = rest; whole = whole; place = place } in
    let ready : ReadyAt site exiting s =
    record {
      bytes = after;
      here = subst (λ (k : ℕ). IsAt text k after) (sym at) (at-back text text_start before after both);
      stand = subst (λ (k : ℕ). ItemsAt symbols places k exiting after) (sym at) stand;
    } in
    ends site x s sound ready is

-- Straight code goes through its items to what follows them.
use Rattle.std.proofs.Common.{◌≡◌, ℕ, List, [], ◌∷◌, ◌++◌, Ok, refl, sym, subst, ◌∙◌}
use Rattle.ia32_insn.specs.declared.insn.Insn.{Insn}
use Rattle.ia32_insn.specs.declared.insn.Insn.TheVariants as insn
use Rattle.ia32_insn.specs.declared.item.Item.{Item}
use Rattle.ia32_insn.specs.declared.item.Item.TheVariants as item
use Rattle.ia32_insn.specs.State.{State, at_address}
use Rattle.ia32_insn.specs.Meaning.{effect, target}
use Rattle.ia32_rows.specs.Paths.{Comes}
use Rattle.ia32_rows.specs.Sites.{Site, SoundAt, ReadyAt}
use Rattle.ia32_rows.proofs.Sound.{sound-at}
use Rattle.ia32_rows.proofs.Spelled.{IsCommon}
use Rattle.ia32_rows.proofs.Steps.{comes-not, comes-then, plain-goes}
use Rattle.ia32_rows.specs.Effects.{IsStraight, Leads}
use Rattle.ia32_rows.specs.Laws.{StraightGoes}

-- what a straight instruction does is the same wherever the next one stands
straight-effect : (i : Insn) (after : ℕ) (s : State) → IsStraight i → effect i after s ≡ effect i 0 s
straight-effect (insn.Call distance) after s h = absurd h
straight-effect i after s h = refl

-- and it goes on to that
straight-target : (i : Insn) (after : ℕ) (s : State) → IsStraight i → target i after s ≡ Ok after
straight-target (insn.Call distance) after s h = absurd h
straight-target insn.Ret after s h = absurd h
straight-target (insn.Jmp distance) after s h = absurd h
straight-target (insn.Jcc c distance) after s h = absurd h
straight-target i after s h = refl

-- it is no NOP
pub straight-common : (i : Insn) → IsStraight i → IsCommon i
straight-common (insn.Call distance) h = absurd h
straight-common insn.Ret h = absurd h
straight-common (insn.Jmp distance) h = absurd h
straight-common (insn.Jcc c distance) h = absurd h
straight-common (insn.Int n) h = absurd h
straight-common insn.Ud2 h = absurd h
straight-common insn.Nop h = absurd h
straight-common i h = tt

pub straight-goes : StraightGoes
straight-goes site [] back s t address sound ready e =
    (address, comes-not-to s t e, subst (λ (u : State). ReadyAt site back (at_address address u)) e ready)
  where
    comes-not-to : (u v : State) → u ≡ v → Comes site.text (at_address address u) (at_address address v)
    comes-not-to u v is =
        subst (λ (w : State). Comes site.text (at_address address u) (at_address address w)) is
        (comes-not site.text (at_address address u))
straight-goes site (item.Plain i ∷ items) back s t address sound ready (m, makes, rest) =
    let here : State = at_address address s in
    let there : State = at_address address m in
    let went = plain-goes site.symbols site.places site.text site.low site.high i (items ++ back) here there
    (sound-at site.text site.low site.high address s sound) ready (straight-common i makes.straight)
    (λ after. straight-effect i after here makes.straight ∙ makes.does address)
    (λ after. straight-target i after here makes.straight) in
    let next = straight-goes site items back m t went.0 makes.sound went.2 rest in
    (next.0, comes-then site.text here (at_address went.0 m) (at_address next.0 t) went.1 next.1, next.2)
straight-goes site (item.Label l ∷ items) back s t address sound ready h = absurd h
straight-goes site (item.Point p ∷ items) back s t address sound ready h = absurd h
straight-goes site (item.JumpTo l ∷ items) back s t address sound ready h = absurd h
straight-goes site (item.JumpIf c l ∷ items) back s t address sound ready h = absurd h
straight-goes site (item.CallFunction f ∷ items) back s t address sound ready h = absurd h
straight-goes site (item.CallStub stub ∷ items) back s t address sound ready h = absurd h
straight-goes site (item.JumpTrap c ∷ items) back s t address sound ready h = absurd h
straight-goes site (item.AddressOf r k ∷ items) back s t address sound ready h = absurd h

-- the state that straight code leads to is sound
pub leads-sound : (site : Site) (items : List Item) (s t : State) → SoundAt site s → Leads site items s t
    → SoundAt site t
leads-sound site [] s t sound e = subst (SoundAt site) e sound
leads-sound site (item.Plain i ∷ items) s t sound (m, makes, rest) = leads-sound site items m t makes.sound rest
leads-sound site (item.Label l ∷ items) s t sound h = absurd h
leads-sound site (item.Point p ∷ items) s t sound h = absurd h
leads-sound site (item.JumpTo l ∷ items) s t sound h = absurd h
leads-sound site (item.JumpIf c l ∷ items) s t sound h = absurd h
leads-sound site (item.CallFunction f ∷ items) s t sound h = absurd h
leads-sound site (item.CallStub stub ∷ items) s t sound h = absurd h
leads-sound site (item.JumpTrap c ∷ items) s t sound h = absurd h
leads-sound site (item.AddressOf r k ∷ items) s t sound h = absurd h

-- one piece of straight code after another
pub leads-join : (site : Site) (xs ys : List Item) (s m t : State) → Leads site xs s m → Leads site ys m t
    → Leads site (xs ++ ys) s t
leads-join site [] ys s m t e h = subst (λ (u : State). Leads site ys u t) (sym e) h
leads-join site (item.Plain i ∷ xs) ys s m t (n, makes, rest) h = (n, makes, leads-join site xs ys n m t rest h)
leads-join site (item.Label l ∷ xs) ys s m t k h = absurd k
leads-join site (item.Point p ∷ xs) ys s m t k h = absurd k
leads-join site (item.JumpTo l ∷ xs) ys s m t k h = absurd k
leads-join site (item.JumpIf c l ∷ xs) ys s m t k h = absurd k
leads-join site (item.CallFunction f ∷ xs) ys s m t k h = absurd k
leads-join site (item.CallStub stub ∷ xs) ys s m t k h = absurd k
leads-join site (item.JumpTrap c ∷ xs) ys s m t k h = absurd k
leads-join site (item.AddressOf r k ∷ xs) ys s m t l h = absurd l

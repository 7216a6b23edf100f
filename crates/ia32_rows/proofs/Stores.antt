-- What an instruction that stores a word does to a sound state.
use Rattle.std.proofs.Common.{◌≡◌, ℕ, ◌+◌, ◌^◌, ◌<◌, ◌≤◌, List, ◌∷◌, Ok, refl, ap, ◌∙◌}
use Rattle.ia32_insn.specs.declared.register_names.Reg32.{Reg32}
use Rattle.ia32_insn.specs.Registers.{register}
use Rattle.ia32_insn.specs.declared.insn.Insn.{Insn}
use Rattle.ia32_insn.specs.declared.item.Item.{Item}
use Rattle.ia32_insn.specs.declared.item.Item.TheVariants as item
use Rattle.ia32_insn.specs.State.{State, at_address}
use Rattle.ia32_insn.specs.Meaning.{load, store, word_of, effect, target}
use Rattle.ia32_insn.specs.Keeps.{AreDisjoint}
use Rattle.ia32_rows.proofs.Sound.{Stored, store-in, load-same, sound-at}
use Rattle.ia32_rows.proofs.Spelled.{IsCommon}
use Rattle.ia32_rows.proofs.Steps.{Comes, plain-goes}
use Rattle.ia32_rows.specs.Sites.{Site, SoundAt, ReadyAt}

-- the word stands at the address; other places, the registers, the input and the output are as before
pub record Stores (site : Site) (a v : ℕ) (s u : State) : Type 0 where
  pub sound : SoundAt site u
  pub words : (q : Reg32) → word_of q u ≡ word_of q s
  pub same : load 4 a u ≡ Ok v
  pub apart : (n b w : ℕ) → AreDisjoint a 4 b n → load n b s ≡ Ok w → load n b u ≡ Ok w
  pub left : u.left ≡ s.left
  pub taken : u.taken ≡ s.taken
  pub written : u.written ≡ s.written

-- a store that was done, at another address of the next instruction
pub stored-at : (site : Site) (address a v : ℕ) (s t : State) → Stored site.text site.low site.high a v s t
    → Stores site a v s (at_address address t)
stored-at site address a v s t h =
    let rest = h.rest in
    record {
      sound = sound-at site.text site.low site.high address t h.sound;
      words = λ q. ap (λ (registers : List ℕ). register q registers) rest.registers;
      same = load-same 4 a v t (at_address address t) refl h.same;
      apart = λ n b w d k. load-same n b w t (at_address address t) refl (h.apart n b w d k);
      left = rest.left;
      taken = rest.taken;
      written = rest.written;
    }

-- an instruction that stores a word
pub store-goes : (site : Site) (items : List Item) (i : Insn) (a v : ℕ) (s : State) → SoundAt site s
    → ReadyAt site (item.Plain i ∷ items) s → IsCommon i → site.low ≤ a → a + 4 ≤ site.high → v < 2 ^ 32
    → ((after : ℕ) → effect i after s ≡ store 4 a v s) → ((after : ℕ) → target i after s ≡ Ok after)
    → (u : State) × Comes site.text s u × ReadyAt site items u × Stores site a v s u
store-goes site items i a v s sound ready common from to fits e k =
    let stored = store-in site.text site.low site.high a v s sound from to fits in
    let t : State = stored.0 in
    let went = plain-goes site.symbols site.places site.text site.low site.high i items s t sound ready common
    (λ after. e after ∙ stored.1.is) k in
    (at_address went.0 t, went.1, went.2, stored-at site went.0 a v s t stored.1)

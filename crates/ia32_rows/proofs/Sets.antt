-- A register that an instruction sets, in a sound state, and items that stand where EIP points.
use Rattle.std.proofs.Common.{◌≡◌, ◌≢◌, ℕ, ◌+◌, ◌^◌, ◌<◌, ◌≤◌, List, ◌∷◌, Option, Ok, refl, sym, subst, inl, inr, arith}
use Rattle.std.specs.Prelude.{◌==◌, false}
use Rattle.std.proofs.lemmas.Bool.Decides.{nat_tests}
use Rattle.ia32_insn.specs.declared.register_names.Reg32.{Reg32}
use Rattle.ia32_insn.specs.Registers.{number32}
use Rattle.ia32_insn.specs.declared.insn.Insn.{Insn}
use Rattle.ia32_insn.specs.declared.item.Item.{Item}
use Rattle.ia32_insn.specs.declared.item.Item.TheVariants as item
use Rattle.ia32_insn.specs.declared.flags.Flags.{Flags}
use Rattle.ia32_insn.specs.State.{State, at_address}
use Rattle.ia32_insn.specs.Meaning.{word_of, with_word, effect, target}
use Rattle.ia32_insn.specs.Keeps.{AreDisjoint}
use Rattle.ia32_insn.specs.Items.{ItemsAt}
use Rattle.ia32_rows.proofs.Sound.{sound-with_word, sound-at, sound-with_flags, word-same, word-other}
use Rattle.ia32_rows.proofs.Spelled.{IsCommon}
use Rattle.ia32_rows.proofs.Steps.{IsAt, Comes, plain-goes}
use Rattle.ia32_rows.proofs.Frames.{with_result}
use Rattle.ia32_rows.specs.Sites.{Site, SoundAt, ReadyAt, StandsFrom}

-- a place apart from a piece is apart from each part of it
pub disjoint-part : (a n c m b k : ℕ) → a ≤ c → c + m ≤ a + n → AreDisjoint a n b k → AreDisjoint c m b k
disjoint-part a n c m b k low high (inl before) = inl (omega arith)
disjoint-part a n c m b k low high (inr after) = inr (omega arith)

-- numbers of which a test says that they differ
pub unlike : (m n : ℕ) → (m == n) ≡ false → m ≢ n
unlike m n e = grind (arith, nat_tests)

-- items that stand where EIP points are ready
pub ready-from : (site : Site) (items : List Item) (address : ℕ) (s : State) → StandsFrom site items address → s.eip
    ≡ address → ReadyAt site items s
ready-from site items address s h at =
    record {
      bytes = h.bytes;
      here = subst (λ (k : ℕ). IsAt site.text k h.bytes) (sym at) h.here;
      stand = subst (λ (k : ℕ). ItemsAt site.symbols site.places k items h.bytes) (sym at) h.stand;
    }

-- ---- a change of a register

-- a register has the value, with this output; the other registers, memory and the input are as before
pub record Sets (site : Site) (r : Reg32) (v : ℕ) (out : List ℕ) (s u : State) : Type 0 where
  pub sound : SoundAt site u
  pub value : word_of r u ≡ v
  pub others : (q : Reg32) → number32 q ≢ number32 r → word_of q u ≡ word_of q s
  pub memory : u.memory ≡ s.memory
  pub left : u.left ≡ s.left
  pub taken : u.taken ≡ s.taken
  pub written : u.written ≡ out

pub set-word : (site : Site) (address : ℕ) (r : Reg32) (v : ℕ) (flags : Option Flags) (s : State) → SoundAt site s
    → v < 2 ^ 32 → Sets site r v s.written s (at_address address (with_result r v flags s))
set-word site address r v flags s sound fits =
    record {
      sound = sound-at site.text site.low site.high address (with_result r v flags s)
          (sound-with_flags site.text site.low site.high flags (with_word r v s)
          (sound-with_word site.text site.low site.high r v s sound));
      value = word-same site.text site.low site.high r v s sound fits;
      others = λ q other. word-other site.text site.low site.high q r v s sound other;
      memory = refl;
      left = refl;
      taken = refl;
      written = refl;
    }

-- an instruction that gives a register a value
pub set-goes : (site : Site) (items : List Item) (i : Insn) (r : Reg32) (v : ℕ) (flags : Option Flags) (s : State)
    → SoundAt site s → ReadyAt site (item.Plain i ∷ items) s → IsCommon i → v < 2 ^ 32
    → ((after : ℕ) → effect i after s ≡ Ok (with_result r v flags s)) → ((after : ℕ) → target i after s ≡ Ok after)
    → (u : State) × Comes site.text s u × ReadyAt site items u × Sets site r v s.written s u
set-goes site items i r v flags s sound ready common fits e k =
    let went = plain-goes site.symbols site.places site.text site.low site.high i items s (with_result r v flags s)
    sound ready common e k in
    (at_address went.0 (with_result r v flags s), went.1, went.2, set-word site went.0 r v flags s sound fits)

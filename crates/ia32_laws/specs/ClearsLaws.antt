-- What the row does that makes every element of a frame array 0.
use Rattle.std.specs.Prelude.{◌≡◌, ◌≢◌, ◌+◌, ◌-◌, ◌%◌, ◌<◌, ◌≤◌, ◌++◌, ℕ, List, Ok}
use Rattle.ia32_insn.specs.declared.register_names.Reg32.{Reg32}
use Rattle.ia32_insn.specs.declared.register_names.Reg32.TheVariants.{Ebp, Esi, Edi}
use Rattle.ia32_insn.specs.Registers.{number32}
use Rattle.ia32_insn.specs.declared.item.Item.{Item}
use Rattle.ia32_insn.specs.Keeps.{AreDisjoint}
use Rattle.ia32_insn.specs.State.{State}
use Rattle.ia32_insn.specs.Meaning.{load, word_of}
use Rattle.ia32_rows.specs.Paths.{Comes}
use Rattle.ia32_rows.specs.Sites.{Framed, ReadyAt, Site, SoundAt}
use Rattle.ia32_rows.specs.Clearing.{clear_row}

-- The machine came to items behind the row: what is loaded from any place among so many bytes from an address on is 0.
-- All other places, the registers but ESI and EDI, the input and the output are as before.
pub record Cleared (site : Site) (first bytes : ℕ) (items : List Item) (s u : State) : Type 0 where
  pub comes : Comes site.text s u
  pub ready : ReadyAt site items u
  pub sound : SoundAt site u
  pub others : (q : Reg32) → number32 q ≢ number32 Esi → number32 q ≢ number32 Edi → word_of q u ≡ word_of q s
  pub zeros : (n b : ℕ) → first ≤ b → b + n ≤ first + bytes → 0 < n → load n b u ≡ Ok 0
  pub kept : (n b w : ℕ) → AreDisjoint first bytes b n → load n b s ≡ Ok w → load n b u ≡ Ok w
  pub left : u.left ≡ s.left
  pub taken : u.taken ≡ s.taken
  pub written : u.written ≡ s.written

-- So the row does where its bytes are words of the frame, one at least. Its label stands where it stands in the text.
abbrev pub ClearGoes : Type 0
ClearGoes =
    (site : Site) (frame label distance bytes : ℕ) (back : List Item) (s : State) → Framed site frame s
    → ReadyAt site (clear_row label distance bytes ++ back) s → 0 < bytes → bytes % 4 ≡ 0 → bytes < distance
    → distance ≤ frame → (u : State) × Cleared site (word_of Ebp s - distance) bytes back s u

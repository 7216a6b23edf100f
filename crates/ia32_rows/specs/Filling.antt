-- A loop that fills words of memory with a register's word, from an address down to another.
use Rattle.std.specs.Prelude.{◌≡◌, ◌≢◌, ℕ, ◌+◌, ◌*◌, ◌<◌, ◌≤◌, List, [], ◌∷◌, ◌++◌, pos, Ok}
use Rattle.ia32_insn.specs.declared.register_names.Reg32.{Reg32}
use Rattle.ia32_insn.specs.Registers.{number32}
use Rattle.ia32_insn.specs.declared.operand.Rm32.TheVariants as rm
use Rattle.ia32_insn.specs.declared.insn.AluOp.TheVariants.{Sub, Cmp}
use Rattle.ia32_insn.specs.declared.insn.Cond.TheVariants.{Ne}
use Rattle.ia32_insn.specs.declared.insn.Insn.TheVariants as insn
use Rattle.ia32_insn.specs.declared.item.Item.{Item}
use Rattle.ia32_insn.specs.declared.item.Item.TheVariants as item
use Rattle.ia32_insn.specs.State.{State}
use Rattle.ia32_insn.specs.Meaning.{load, word_of}
use Rattle.ia32_insn.specs.Keeps.{AreDisjoint}
use Rattle.ia32_insn.specs.Items.{plain, near}
use Rattle.ia32_rows.specs.Paths.{Comes}
use Rattle.ia32_rows.specs.Sites.{Site, SoundAt, ReadyAt}

-- the pointer goes down a word, and the word there is filled, until the pointer is at the limit
abbrev pub fill : Reg32 → Reg32 → Reg32 → ℕ → List Item
fill pointer word limit label =
    item.Label label
    ∷ plain (insn.AluImm Sub (rm.Reg pointer) (pos 4))
    ∷ plain (insn.Mov (rm.Mem (near pointer 0)) word)
    ∷ plain (insn.Alu Cmp (rm.Reg pointer) limit)
    ∷ item.JumpIf Ne label
    ∷ []

-- So many words from an address on have a value. The pointer is at the first of them; the other registers, the other
-- places, the input and the output are as before.
pub record Filled (site : Site) (pointer : Reg32) (first count value : ℕ) (s u : State) : Type 0 where
  pub sound : SoundAt site u
  pub pointer_is : word_of pointer u ≡ first
  pub others : (q : Reg32) → number32 q ≢ number32 pointer → word_of q u ≡ word_of q s
  pub words : (k : ℕ) → k < count → load 4 (first + 4 * k) u ≡ Ok value
  pub kept : (n b w : ℕ) → AreDisjoint first (4 * count) b n → load n b s ≡ Ok w → load n b u ≡ Ok w
  pub left : u.left ≡ s.left
  pub taken : u.taken ≡ s.taken
  pub written : u.written ≡ s.written

-- where the pointer is behind one word at least, and the limit the first of them, they are filled
abbrev pub FillGoes : Type 0
FillGoes =
    (site : Site) (pointer word limit : Reg32) (label first count : ℕ) (back : List Item) (s : State)
    → number32 word ≢ number32 pointer → number32 limit ≢ number32 pointer → SoundAt site s
    → ReadyAt site (fill pointer word limit label ++ back) s → 0 < count → site.low ≤ first
    → first + 4 * count ≤ site.high → word_of pointer s ≡ first + 4 * count → word_of limit s ≡ first
    → (u : State) × Comes site.text s u × ReadyAt site back u
    × Filled site pointer first count (word_of word s) s u

-- where words are 0, so is what is loaded from any place among them
abbrev pub ZerosLoad : Type 0
ZerosLoad =
    (site : Site) (first count n address : ℕ) (s : State) → SoundAt site s → site.low ≤ first
    → first + 4 * count ≤ site.high → ((k : ℕ) → k < count → load 4 (first + 4 * k) s ≡ Ok 0) → first ≤ address
    → address + n ≤ first + 4 * count → 0 < n → load n address s ≡ Ok 0

-- What calls and leaves do to the machine. Each law leads from a state to a later one, and passes no NOP on the way.
use Rattle.std.specs.Prelude.{◌≡◌, ℕ, ◌+◌, ◌-◌, ◌%◌, ◌^◌, ◌<◌, ◌≤◌, List, ◌++◌, length, take, drop}
use Rattle.std.specs.Prelude.{Ok}
use Rattle.pcc_base.specs.Outcome.{Ended}
use Rattle.ia32_insn.specs.declared.register_names.Reg32.{Reg32}
use Rattle.ia32_insn.specs.declared.register_names.Reg32.TheVariants.{Eax, Ebx, Esp, Ebp, Esi, Edi}
use Rattle.ia32_insn.specs.declared.item.Item.{Item}
use Rattle.ia32_insn.specs.State.{State}
use Rattle.ia32_insn.specs.Meaning.{Halts, load, word_of}
use Rattle.ia32_insn.specs.Keeps.{AreDisjoint}
use Rattle.ia32_insn.specs.Runs.{Steps}
use Rattle.ia32_insn.specs.Items.{Object, Symbols, Places, ItemsAt, text_start}
use Rattle.ia32_insn.specs.Items.{stack_end, start_items}
use Rattle.ia32_rows.specs.Paths.{IsClear, Comes}
use Rattle.ia32_rows.specs.Rows.{prologue}
use Rattle.ia32_rows.specs.Sites.{IsSound, Site, SoundAt, ReadyAt, Framed}

-- ---- the start

-- the address is the one after the start's call of `main`, behind which `exit` follows
abbrev pub ReturnsToStart : Symbols → List ℕ → List Object → ℕ → ℕ → Type 0
ReturnsToStart symbols text objects main address =
    (before after : List ℕ) × (places : Places)
    × ItemsAt symbols places text_start (take 3 (start_items (stack_end text objects) symbols.depth main)) before
    × ItemsAt symbols places (text_start + length before)
    (drop 3 (start_items (stack_end text objects) symbols.depth main)) after
    × ((done rest : List ℕ) × (text ≡ done ++ ((before ++ after) ++ rest)) × (text_start ≡ text_start + length done))
    × (address ≡ text_start + length before)

-- ---- a function's first items

-- The state behind the prologue: the caller's registers are in the frame's first words, and what is loaded from further
-- below EBP than so many bytes is 0.
pub record Entered (site : Site) (frame zeroed : ℕ) (back : List Item) (t u : State) : Type 0 where
  pub comes : Comes site.text t u
  pub ready : ReadyAt site back u
  pub framed : Framed site frame u
  pub ebp : word_of Ebp u + 4 ≡ word_of Esp t
  pub old_ebp : load 4 (word_of Ebp u) u ≡ Ok (word_of Ebp t)
  pub old_ebx : load 4 (word_of Ebp u - 4) u ≡ Ok (word_of Ebx t)
  pub old_esi : load 4 (word_of Ebp u - 8) u ≡ Ok (word_of Esi t)
  pub old_edi : load 4 (word_of Ebp u - 12) u ≡ Ok (word_of Edi t)
  pub zeros : (n a : ℕ) → word_of Esp u ≤ a → a + n ≤ word_of Ebp u - zeroed → 0 < n → load n a u ≡ Ok 0
  pub kept : (n b w : ℕ) → AreDisjoint (word_of Esp t - (frame + 4)) (frame + 4) b n → load n b t ≡ Ok w → load n b u
      ≡ Ok w
  pub left : u.left ≡ t.left
  pub taken : u.taken ≡ t.taken
  pub written : u.written ≡ t.written

-- The prologue makes a frame of words, with the caller's registers in its first ones, and 0 in all that are further
-- below EBP than so many bytes.
abbrev pub PrologueGoes : Type 0
PrologueGoes =
    (site : Site) (frame zeroed label : ℕ) (back : List Item) (t : State) → SoundAt site t
    → ReadyAt site (prologue frame zeroed label ++ back) t
    → site.low + frame + 64 ≤ word_of Esp t → word_of Esp t + 4 ≤ site.high → 16 ≤ frame → frame % 4 ≡ 0
    → 12 ≤ zeroed → zeroed % 4 ≡ 0 → (u : State) × Entered site frame zeroed back t u

-- ---- a return

-- a register has the word that stood at an address
abbrev pub HasWordFrom : Reg32 → ℕ → State → State → Type 0
HasWordFrom r address s u = (w : ℕ) → load 4 address s ≡ Ok w → w < 2 ^ 32 → word_of r u ≡ w

-- The state behind the return of a word to an address: the frame is left, and the caller's registers are as the
-- frame kept them (System V ABI, Intel386 supplement, "Function Calling Sequence").
pub record Returned (site : Site) (word address : ℕ) (s u : State) : Type 0 where
  pub comes : Comes site.text s u
  pub sound : SoundAt site u
  pub eip : u.eip ≡ address
  pub eax : word_of Eax u ≡ word
  pub esp : word_of Esp u ≡ word_of Ebp s + 8
  pub ebp : HasWordFrom Ebp (word_of Ebp s) s u
  pub ebx : HasWordFrom Ebx (word_of Ebp s - 4) s u
  pub esi : HasWordFrom Esi (word_of Ebp s - 8) s u
  pub edi : HasWordFrom Edi (word_of Ebp s - 12) s u
  pub memory : u.memory ≡ s.memory
  pub left : u.left ≡ s.left
  pub taken : u.taken ≡ s.taken
  pub written : u.written ≡ s.written

-- ---- the end

-- the state in which `exit` is called
pub record Ending (text : List ℕ) (word : ℕ) (s t : State) : Type 0 where
  pub comes : Comes text s t
  pub clear : IsClear text t.eip
  pub halts : Steps t (Halts (Ended (word % 256)))
  pub taken : t.taken ≡ s.taken
  pub written : t.written ≡ s.written

-- behind the return of `main` the run ends with the low byte of its result
abbrev pub EndingHalts : Type 0
EndingHalts =
    (symbols : Symbols) (text : List ℕ) (objects : List Object) (main low high x : ℕ) (s : State)
    → IsSound text low high s → ReturnsToStart symbols text objects main s.eip → word_of Eax s ≡ x
    → (t : State) × Ending text x s t

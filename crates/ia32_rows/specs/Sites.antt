-- Where code and data of a function stand, and what is known of a state within it.
use Rattle.std.specs.Prelude.{◌≡◌, ℕ, ◌+◌, ◌<◌, ◌≤◌, ⊤, true, false, List, [], ◌∷◌, length, Ok}
use Rattle.pcc_base.specs.Bytes.{AreBytes}
use Rattle.ia32_insn.specs.declared.register_names.Reg32.TheVariants.{Esp, Ebp}
use Rattle.ia32_insn.specs.Registers.{AreRegisters}
use Rattle.ia32_insn.specs.declared.item.Item.{Item}
use Rattle.ia32_insn.specs.State.{State, Area}
use Rattle.ia32_insn.specs.Meaning.{load, word_of}
use Rattle.ia32_insn.specs.Keeps.{AreDisjoint}
use Rattle.ia32_insn.specs.Items.{Symbols, Places, ItemsAt, text_start, text_area}
use Rattle.ia32_rows.specs.Paths.{IsAt, Comes}

-- ---- memory

-- data from an address on
abbrev pub data_from : ℕ → List ℕ → Area
data_from low bytes = record { address = low; bytes = bytes; readable = true; writable = true; runnable = false }

-- memory is the text and the data between two addresses, whose bytes are bytes, and the registers are registers
pub record IsSound (text : List ℕ) (low high : ℕ) (s : State) : Type 0 where
  pub bytes : List ℕ
  pub memory : s.memory ≡ text_area text ∷ data_from low bytes ∷ []
  pub size : low + length bytes ≡ high
  pub above : text_start + length text ≤ low
  pub below : high < 0x1_0000_0000
  pub small : AreBytes bytes
  pub registers : AreRegisters s.registers

-- ---- items at EIP

-- the items stand at EIP in the text
pub record Ready (symbols : Symbols) (places : Places) (text : List ℕ) (items : List Item) (s : State) : Type 0 where
  pub bytes : List ℕ
  pub here : IsAt text s.eip bytes
  pub stand : ItemsAt symbols places s.eip items bytes

-- ---- functions

-- where code and data of a function stand
pub record Site : Type 0 where
  pub symbols : Symbols
  pub places : Places
  pub text : List ℕ
  pub low : ℕ
  pub high : ℕ

abbrev pub SoundAt : Site → State → Type 0
SoundAt site s = IsSound site.text site.low site.high s

abbrev pub ReadyAt : Site → List Item → State → Type 0
ReadyAt site items s = Ready site.symbols site.places site.text items s

-- items stand in the site's text from an address on
pub record StandsFrom (site : Site) (items : List Item) (address : ℕ) : Type 0 where
  pub bytes : List ℕ
  pub here : IsAt site.text address bytes
  pub stand : ItemsAt site.symbols site.places address items bytes

-- a state within a function: ESP is the frame's bytes below EBP, with room for a word more
pub record Framed (site : Site) (frame : ℕ) (s : State) : Type 0 where
  pub sound : SoundAt site s
  pub esp : word_of Esp s + frame ≡ word_of Ebp s
  pub room : site.low + 4 ≤ word_of Esp s
  pub top : word_of Ebp s + 8 ≤ site.high

-- The machine came to items, with this output: EBP, ESP and the input are as before, and so are the places in memory
-- that pass the test.
pub record Went (site : Site) (frame : ℕ) (items : List Item) (K : ℕ → ℕ → Type 0) (out : List ℕ)
    (s u : State) : Type 0 where
  pub comes : Comes site.text s u
  pub ready : ReadyAt site items u
  pub framed : Framed site frame u
  pub ebp : word_of Ebp u ≡ word_of Ebp s
  pub esp : word_of Esp u ≡ word_of Esp s
  pub left : u.left ≡ s.left
  pub taken : u.taken ≡ s.taken
  pub written : u.written ≡ out
  pub kept : (n b w : ℕ) → K b n → load n b s ≡ Ok w → load n b u ≡ Ok w

-- ---- places in memory

-- a slot's distance in a frame
pub record IsInFrame (frame distance : ℕ) : Type 0 where
  pub low : 20 ≤ distance
  pub high : distance ≤ frame

-- every place is kept
abbrev pub Anywhere : ℕ → ℕ → Type 0
Anywhere b n = ⊤

-- places apart from the slot so far below an address
abbrev pub ApartFrom : ℕ → ℕ → ℕ → Type 0
ApartFrom slot b n = AreDisjoint slot 4 b n

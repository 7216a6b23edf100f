-- Where jumps within a function lead: laws of any function of a text, and any label of it.
use Rattle.std.specs.Prelude.{◌≡◌, ℕ, true, false, List, ◌∷◌, ◌++◌, Some}
use Rattle.ia32_insn.specs.declared.insn.Cond.{Cond}
use Rattle.ia32_insn.specs.declared.item.Item.{Item}
use Rattle.ia32_insn.specs.declared.item.Item.TheVariants as item
use Rattle.ia32_insn.specs.State.{State, at_address}
use Rattle.ia32_insn.specs.Arithmetic.{holds}
use Rattle.ia32_rows.specs.Paths.{Comes}
use Rattle.ia32_rows.specs.Sites.{Site, SoundAt, ReadyAt, StandsFrom}

-- The machine comes to items by steps that change EIP alone.
abbrev pub LeadsTo : Site → List Item → State → Type 0
LeadsTo site items s =
    (address : ℕ) × Comes site.text s (at_address address s) × ReadyAt site items (at_address address s)

-- a jump to a label of the function leads to what stands behind the label
abbrev pub JumpLeads : Type 0
JumpLeads =
    (site : Site) (front back rest : List Item) (start label : ℕ) (s : State) → SoundAt site s
    → StandsFrom site (front ++ (item.Label label ∷ back)) start → ReadyAt site (item.JumpTo label ∷ rest) s
    → LeadsTo site back s

-- so does one on a condition that holds
abbrev pub BranchLeads : Type 0
BranchLeads =
    (site : Site) (c : Cond) (front back rest : List Item) (start label : ℕ) (s : State) → SoundAt site s
    → StandsFrom site (front ++ (item.Label label ∷ back)) start → ReadyAt site (item.JumpIf c label ∷ rest) s
    → holds c s.flags ≡ Some true → LeadsTo site back s

-- one on a condition that doesn't hold leads to what stands behind it
abbrev pub BranchPasses : Type 0
BranchPasses =
    (site : Site) (c : Cond) (rest : List Item) (label : ℕ) (s : State) → SoundAt site s
    → ReadyAt site (item.JumpIf c label ∷ rest) s → holds c s.flags ≡ Some false → LeadsTo site rest s

-- Where the check of a failed condition leads, and what the routines do to the machine.
use Rattle.std.specs.Prelude.{◌≡◌, ℕ, List, ◌∷◌, true, false, Some}
use Rattle.pcc_base.specs.Outcome.{Trapped}
use Rattle.pcc_base.specs.declared.run.Trap.TheVariants.{Check}
use Rattle.ia32_insn.specs.declared.insn.Cond.{Cond}
use Rattle.ia32_insn.specs.declared.item.Item.{Item}
use Rattle.ia32_insn.specs.declared.item.Item.TheVariants as item
use Rattle.ia32_insn.specs.State.{State, at_address}
use Rattle.ia32_insn.specs.Arithmetic.{holds}
use Rattle.ia32_insn.specs.Meaning.{Halts}
use Rattle.ia32_insn.specs.Runs.{Steps}
use Rattle.ia32_insn.specs.Items.{check_items}
use Rattle.ia32_rows.specs.Paths.{Comes, IsClear}
use Rattle.ia32_rows.specs.Sites.{ReadyAt, Site, SoundAt, StandsFrom}

-- The machine comes to the trap of a failed check, with EIP alone changed.
abbrev pub TrapsAt : Site → State → Type 0
TrapsAt site s =
    (address : ℕ) × Comes site.text s (at_address address s) × IsClear site.text (at_address address s).eip
    × Steps (at_address address s) (Halts (Trapped Check))

-- where a condition holds, the jump to the trap leads there
abbrev pub CheckTraps : Type 0
CheckTraps =
    (site : Site) (c : Cond) (rest : List Item) (s : State) → SoundAt site s
    → StandsFrom site check_items site.symbols.check → ReadyAt site (item.JumpTrap (Some c) ∷ rest) s
    → holds c s.flags ≡ Some true → TrapsAt site s

-- where it doesn't, to what follows it
abbrev pub CheckPasses : Type 0
CheckPasses =
    (site : Site) (c : Cond) (rest : List Item) (s : State) → SoundAt site s
    → ReadyAt site (item.JumpTrap (Some c) ∷ rest) s → holds c s.flags ≡ Some false
    → (address : ℕ) × Comes site.text s (at_address address s) × ReadyAt site rest (at_address address s)

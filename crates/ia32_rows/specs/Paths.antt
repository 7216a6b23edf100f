-- Runs of the machine from a state to another, and the addresses that they pass.
use Rattle.std.specs.Prelude.{◌≡◌, ℕ, ◌+◌, List, [], ◌∷◌, ◌++◌, length}
use Rattle.std.specs.List.{AllByRecursion}
use Rattle.pcc_base.specs.Outcome.{End}
use Rattle.ia32_insn.specs.State.{State}
use Rattle.ia32_insn.specs.Meaning.{Moves, Halts}
use Rattle.ia32_insn.specs.Runs.{Steps}
use Rattle.ia32_insn.specs.Items.{text_start}

-- steps from one state to another: these are the addresses at which they are made
abbrev pub Path : List ℕ → State → State → Type 0
Path [] s t = s ≡ t
Path (address ∷ addresses) s t = (next : State) × (s.eip ≡ address) × Steps s (Moves next) × Path addresses next t

-- steps to a state whose own step is the end
abbrev pub EndsAt : List ℕ → State → State → End → Type 0
EndsAt addresses s last end = Path addresses s last × Steps last (Halts end)

-- the bytes stand in the text at the address
pub record IsAt (text : List ℕ) (address : ℕ) (bytes : List ℕ) : Type 0 where
  pub done : List ℕ
  pub rest : List ℕ
  pub whole : text ≡ done ++ (bytes ++ rest)
  pub place : address ≡ text_start + length done

-- no NOP is spelled at the address
abbrev pub IsClear : List ℕ → ℕ → Type 0
IsClear text address = IsAt text address (0x90 ∷ []) → ⊥

-- the machine comes from one state to another, and passes no NOP
pub record Comes (text : List ℕ) (s t : State) : Type 0 where
  pub addresses : List ℕ
  pub path : Path addresses s t
  pub clear : AllByRecursion (IsClear text) addresses

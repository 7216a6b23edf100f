-- Code that may not be written.
use Rattle.std.specs.Prelude.{◌≡◌, ℕ, Bool, false, List}
use Rattle.ia32_insn.specs.State.{Area, code_at, may_store}

-- no area allows a store to the byte at this address
abbrev pub IsFixed : ℕ → List Area → Type 0
IsFixed address memory = may_store 1 address memory ≡ false

-- at each address whose byte may not be written it still may not be, and the code from there on is as before
abbrev pub KeepsCode : List Area → List Area → Type 0
KeepsCode old new =
    (address : ℕ) → IsFixed address old → IsFixed address new × (code_at address new ≡ code_at address old)

-- The table of decoded instructions.
use Rattle.std.specs.Prelude.{◌≡◌, ◌≢◌, ℕ, ◌+◌, ◌%◌, ◌^◌, List, Some, All}
use Rattle.ia32_insn.specs.State.{Area, code_at}
use Rattle.ia32_insn.specs.Spelling.{Begins}
use Rattle.ia32_machine.specs.Code.{IsFixed}
use Rattle.ia32_machine.specs.declared.decoded.Decoded.{Decoded}

-- the code at its address begins with the instruction, and goes on at the address behind it
abbrev pub IsSpelled : List Area → Decoded → Type 0
IsSpelled memory e =
    (code : List ℕ) × (n : ℕ) × (code_at e.address memory ≡ Some code) × Begins e.insn n code
    × (e.after ≡ (e.address + n) % 2 ^ 32)

-- and it may not be written
abbrev pub IsFound : List Area → Decoded → Type 0
IsFound memory e = IsFixed e.address memory × IsSpelled memory e

-- an entry that isn't empty is one of the code
abbrev pub IsDecoded : List Area → Decoded → Type 0
IsDecoded memory e = e.after ≢ e.address → IsFound memory e

-- so are all
abbrev pub AreDecoded : List Area → List Decoded → Type 0
AreDecoded memory entries = All (IsDecoded memory) entries

-- what is found at an address
abbrev pub IsFoundAt : List Area → ℕ → Decoded → Type 0
IsFoundAt memory address e = (e.address ≡ address) × IsFound memory e

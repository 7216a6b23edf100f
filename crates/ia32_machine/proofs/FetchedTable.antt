-- What the table of decoded instructions has, and what a fetch gives.
use Rattle.std.specs.Prelude.{◌≡◌, ℕ, ◌+◌, ◌%◌, Ok}
use Rattle.std.proofs.Common.{sym, ◌∙◌, ap}
use Rattle.ia32_insn.specs.declared.insn.Insn.{Insn}
use Rattle.ia32_insn.specs.State.{State, code_at}
use Rattle.ia32_machine.specs.Table.{IsSpelled, IsFoundAt}
use Rattle.ia32_machine.specs.declared.decoded.Decoded.{Decoded}
use Rattle.ia32_machine.specs.Performs.{FetchTold}

-- an instruction in the table is the one that a fetch gives
pub found-fetched : (s : State) (address : ℕ) (e : Decoded) → address ≡ s.eip → (f : IsFoundAt s.memory address e)
    → FetchTold s (Ok (e.insn, f.1.1.1))
found-fetched s address e at f = (f.1.1.0, ap (λ (a : ℕ). code_at a s.memory) (sym at ∙ sym f.0) ∙ f.1.1.2, f.1.1.3)

-- and the address behind it is the one behind its spelling
pub found-after : (s : State) (address : ℕ) (e : Decoded) → address ≡ s.eip → (f : IsFoundAt s.memory address e)
    → e.after ≡ (s.eip + f.1.1.1) % 0x1_0000_0000
found-after s address e at f = f.1.1.4 ∙ ap (λ (a : ℕ). (a + f.1.1.1) % 0x1_0000_0000) (f.0 ∙ at)

-- what was fetched is spelled there
pub fetched-spelled : (s : State) (address n after : ℕ) (i : Insn) → address ≡ s.eip → FetchTold s (Ok (i, n))
    → after ≡ (address + n) % 0x1_0000_0000
    → IsSpelled s.memory (record { address = address; after = after; insn = i })
fetched-spelled s address n after i at told behind =
    (told.0, n, ap (λ (a : ℕ). code_at a s.memory) at ∙ told.1, told.2, behind)

-- What the memory answers of bytes, and what lending them leaves of it.
use Rattle.std.specs.Prelude.{◌≡◌, ℕ, ◌-◌, IsTrue, List, Some, take, drop}
use Rattle.std.specs.Borrow.{MutBor, Fml}
use Rattle.std.specs.Io.BufRead.{Rests}
use Rattle.ia32_insn.specs.State.{Area, has_bytes, bytes_at}
use Rattle.ia32_memory.specs.contracts.memory.Memory.{the_row}

-- the area has the n bytes from the address on, and they are those that are read there
abbrev pub IsFound : ℕ → ℕ → Area → List Area → Type 0
IsFound address n area memory = IsTrue (has_bytes area address n)
    × (bytes_at n address memory ≡ Some (take n (drop (address - area.address) area.bytes)))

-- the memory is as it was once the loan of its bytes ends
abbrev pub MemoryRests : MutBor (List Area) → Fml
MemoryRests memory = Rests the_row memory (λ new. new ≡ memory.now)

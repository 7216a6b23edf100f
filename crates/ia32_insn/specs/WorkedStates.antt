-- Small states, on which the definitions can be read.
use Rattle.std.specs.Prelude.{ℕ, List, [], None}
use Rattle.ia32_insn.specs.State.{State}

-- these registers, at the address 0, with no memory, unknown flags, and nothing to read
abbrev pub bare : List ℕ → State
bare registers = record {
  registers = registers;
  flags = None;
  eip = 0;
  memory = [];
  left = [];
  taken = 0;
  written =
      [];
}

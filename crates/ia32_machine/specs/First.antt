-- The first state of an image.
use Rattle.std.specs.Prelude.{◌≡◌, ℕ, List, [], map, None}
use Rattle.ia32_insn.specs.Registers.{zero_registers}
use Rattle.ia32_insn.specs.State.{State}
use Rattle.elf_image.specs.Segments.{Segments, Loads}
pub use Rattle.ia32_memory.specs.Cells.{padded}
pub use Rattle.ia32_memory.specs.First.{area_of}

-- every register is 0, the flags are unknown, EIP is the entry, and nothing was read or written
abbrev pub first_state : Segments → List ℕ → State
first_state segments input =
    record {
      registers = zero_registers;
      flags = None;
      eip = segments.entry;
      memory = map area_of segments.pieces;
      left = input;
      taken = 0;
      written = [];
    }

-- the state is the first of the image with these bytes, where the input is this
abbrev pub First : List ℕ → List ℕ → State → Type 0
First bytes input s = (segments : Segments) × Loads bytes segments × (s ≡ first_state segments input)

-- a machine that is lent an input with these bytes left
abbrev pub lent : State → List ℕ → State
lent machine left =
    record {
      registers = machine.registers;
      flags = machine.flags;
      eip = machine.eip;
      memory = machine.memory;
      left = left;
      taken = 0;
      written = [];
    }

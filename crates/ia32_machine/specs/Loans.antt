-- What lending the memory's bytes leaves of a processor.
use Rattle.std.specs.Prelude.{◌≡◌}
use Rattle.std.specs.Borrow.{MutBor, Fml}
use Rattle.std.specs.Io.BufRead.{Rests}
use Rattle.ia32_insn.specs.State.{State}
use Rattle.ia32_machine.specs.contracts.processor.Processor.{the_row}

-- the processor is as it was once the loan of the bytes ends
abbrev pub ProcessorRests : MutBor State → Fml
ProcessorRests processor = Rests the_row processor (λ new. new ≡ processor.now)

use Rattle.std.proofs.Common.{◌≡◌, List, length}
use Rattle.ia32_insn.specs.State.{Area}
use Rattle.ia32_machine.specs.Table.{AreDecoded}
use Rattle.ia32_machine.proofs.decoded.DecodedTable.new.Given as goal

-- all entries so far are empty, and so right over any memory
abbrev pub invariant-fill : goal.invariant-fill
invariant-fill l = record {
  filled : length l.entries.items ≡ l.counter;
  right : (memory : List Area) → AreDecoded memory l.entries.items;
}

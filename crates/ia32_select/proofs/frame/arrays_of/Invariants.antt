use Rattle.ia32_select.proofs.Offsets.{AreOffsets}
use Rattle.ia32_select.proofs.frame.arrays_of.Given as goal

-- the arrays so far have their offsets
abbrev pub invariant-loop-array : goal.invariant-loop-array
invariant-loop-array l = AreOffsets l.graph l.map l.array l.header l.offsets.items

-- A call that a signal interrupts takes no byte.
use Rattle.std.specs.Io.KnownBytes.{Keeps}
use Rattle.pcc_outside.proofs.host.read_one.Given as goal

abbrev pub invariant-loop : goal.invariant-loop
invariant-loop g l = Keeps (g.R.Read.remaining l.initial.reader) (g.R.Read.remaining l.reader)

use Rattle.std.proofs.Common.{◌≡◌}
use Rattle.ia32_machine.specs.First.{lent}
use Rattle.ia32_machine.specs.Lending.{IsPutOn}
use Rattle.ia32_machine.proofs.Runs.{Ran}
use Rattle.pcc_driver.proofs.selftest_run.count_steps.Given as goal

-- the steps so far, and that no lent object refused
abbrev pub invariant-steps : goal.invariant-steps
invariant-steps g l = record {
  ran : g.I.Source.tells l.fn.input
      → Ran l.made (lent l.fn.machine (g.I.Source.left l.fn.input)) l.machine (g.I.Source.left l.fn.input)
      (g.I.Source.left l.input) (IsPutOn g.O.Sink l.fn.out l.out);
  faults : g.I.Source.faults l.input ≡ g.I.Source.faults l.fn.input;
  counts : g.O.Sink.counts l.out ≡ g.O.Sink.counts l.fn.out;
  input_tells : g.I.Source.tells l.fn.input → g.I.Source.tells l.input;
  out_tells : g.O.Sink.tells l.fn.out → g.O.Sink.tells l.out;
}

use Rattle.ia32_machine.specs.First.{lent}
use Rattle.ia32_machine.specs.Lending.{IsPutOn}
use Rattle.std.proofs.Common.{Ok, Err}
use Rattle.ia32_machine.proofs.Performs.{advanced}
use Rattle.ia32_machine.proofs.machine.Machine.step.Goals as goal

pub returns-in-Ok : goal.returns-in-Ok
returns-in-Ok g c = record {
  told = λ i.
      advanced (lent c.args.self.now (g.I.Source.left c.args.input.now)) c.advance.new.self
      (g.I.Source.left c.advance.new.input) (IsPutOn g.O.Sink c.args.out.now c.advance.new.out) (Ok tt)
      (c.in-Ok.ensures.told i);
  counted = c.in-Ok.ensures.counted;
  input_tells = c.advance.ensures.input_tells;
  out_tells = c.advance.ensures.out_tells;
}

pub returns-in-Err : goal.returns-in-Err
returns-in-Err g c = record {
  told = λ i.
      advanced (lent c.args.self.now (g.I.Source.left c.args.input.now)) c.advance.new.self
      (g.I.Source.left c.advance.new.input) (IsPutOn g.O.Sink c.args.out.now c.advance.new.out)
      (Err c.in-Err.end) (c.in-Err.ensures.told i);
  counted = c.in-Err.ensures.counted;
  input_tells = c.advance.ensures.input_tells;
  out_tells = c.advance.ensures.out_tells;
}

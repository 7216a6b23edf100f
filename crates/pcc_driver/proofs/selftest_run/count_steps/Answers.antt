-- The steps are counted as the machine makes them.
use Rattle.std.proofs.Common.{◌≡◌, ℕ, suc, refl, sym, ◌∙◌, subst, arith, add-one, append-nil}
use Rattle.pcc_outside.specs.Streams.{SinkCounts}
use Rattle.ia32_insn.specs.State.{State}
use Rattle.ia32_machine.specs.First.{lent}
use Rattle.ia32_machine.specs.Runs.{RunCounts}
use Rattle.ia32_machine.specs.Lending.{IsPutOn}
use Rattle.ia32_machine.proofs.Runs.{Ran, put_joins, ran_none, ran_more, end_counts}
use Rattle.pcc_driver.specs.Selftests.{CountedTold}
use Rattle.pcc_driver.proofs.Counting.{counted_end, counted_spent}
use Rattle.pcc_driver.proofs.selftest_run.count_steps.Goals as goal

pub steps-init : goal.steps-init
steps-init g c = record {
  ran = λ _. ran_none c.args.machine.now (g.I.Source.left c.args.input.now)
      (IsPutOn g.O.Sink c.args.out.now c.args.out.now) c.requires.bare (λ t. sym (append-nil (g.O.Sink.taken c.args.out.now)));
  faults = refl;
  counts = refl;
  input_tells = λ t. t;
  out_tells = λ t. t;
}

pub steps-preserved : goal.steps-preserved
steps-preserved g c =
    let before = c.steps.invariant in
    let s : State = lent c.args.machine.now (g.I.Source.left c.args.input.now) in
    record {
      ran = λ i.
          let more : Ran (suc c.steps.made) s c.step.new.self (g.I.Source.left c.args.input.now)
          (g.I.Source.left c.step.new.input) (IsPutOn g.O.Sink c.args.out.now c.step.new.out) =
          ran_more c.steps.made s c.steps.machine c.step.new.self (g.I.Source.left c.args.input.now)
          (g.I.Source.left c.steps.input) (g.I.Source.left c.step.new.input)
          (IsPutOn g.O.Sink c.args.out.now c.steps.out) (IsPutOn g.O.Sink c.steps.out c.step.new.out)
          (IsPutOn g.O.Sink c.args.out.now c.step.new.out)
          (put_joins g.O.Sink c.args.out.now c.steps.out c.step.new.out before.out_tells)
          (before.ran i) (c.in-Going.ensures.told (before.input_tells i)) in
          subst (λ (n : ℕ). Ran n s c.step.new.self (g.I.Source.left c.args.input.now)
          (g.I.Source.left c.step.new.input) (IsPutOn g.O.Sink c.args.out.now c.step.new.out))
          (sym (add-one c.steps.made)) more;
      faults = c.in-Going.ensures.counted.0 ∙ before.faults;
      counts = c.in-Going.ensures.counted.1 ∙ before.counts;
      input_tells = λ i. c.step.ensures.input_tells (before.input_tells i);
      out_tells = λ o. c.step.ensures.out_tells (before.out_tells o);
    }

pub returns-in-End : goal.returns-in-End
returns-in-End g c = record {
  told = λ i.
      let before = c.steps.invariant in
      let s : State = lent c.args.machine.now (g.I.Source.left c.args.input.now) in
      subst (λ (n : ℕ). CountedTold c.args.most s (IsPutOn g.O.Sink c.args.out.now c.step.new.out) c.in-End.end n)
      (sym (add-one c.steps.made))
      (counted_end c.steps.made c.args.most s c.steps.machine c.step.new.self (g.I.Source.left c.args.input.now)
      (g.I.Source.left c.steps.input) (g.I.Source.left c.step.new.input)
      (IsPutOn g.O.Sink c.args.out.now c.steps.out) (IsPutOn g.O.Sink c.steps.out c.step.new.out)
      (IsPutOn g.O.Sink c.args.out.now c.step.new.out) c.in-End.end
      (put_joins g.O.Sink c.args.out.now c.steps.out c.step.new.out before.out_tells)
      c.steps-test.true (before.ran i) (c.in-End.ensures.told (before.input_tells i)));
  counted =
      let before = c.steps.invariant in
      subst (λ (counts : SinkCounts). RunCounts (g.I.Source.faults c.args.input.now)
      (g.I.Source.faults c.step.new.input) counts (g.O.Sink.counts c.step.new.out) c.in-End.end) before.counts
      (subst (λ (faults : ℕ). RunCounts faults (g.I.Source.faults c.step.new.input) (g.O.Sink.counts c.steps.out)
      (g.O.Sink.counts c.step.new.out) c.in-End.end) before.faults
      (end_counts (g.I.Source.faults c.steps.input) (g.I.Source.faults c.step.new.input) (g.O.Sink.counts c.steps.out)
      (g.O.Sink.counts c.step.new.out) c.in-End.end c.in-End.ensures.counted));
  input_tells = λ i. c.step.ensures.input_tells (c.steps.invariant.input_tells i);
  out_tells = λ o. c.step.ensures.out_tells (c.steps.invariant.out_tells o);
}

pub returns : goal.returns
returns g c = record {
  told = λ i.
      let s : State = lent c.args.machine.now (g.I.Source.left c.args.input.now) in
      let all : c.steps.made ≡ c.args.most = omega (arith, c.steps-test.false, c.steps.auto.made-end) in
      counted_spent c.args.most c.args.most s c.steps.machine (g.I.Source.left c.args.input.now)
      (g.I.Source.left c.steps.input) (IsPutOn g.O.Sink c.args.out.now c.steps.out)
      (subst (λ (n : ℕ). Ran n s c.steps.machine (g.I.Source.left c.args.input.now) (g.I.Source.left c.steps.input)
      (IsPutOn g.O.Sink c.args.out.now c.steps.out)) all (c.steps.invariant.ran i));
  counted = (c.steps.invariant.faults, c.steps.invariant.counts);
  input_tells = c.steps.invariant.input_tells;
  out_tells = c.steps.invariant.out_tells;
}

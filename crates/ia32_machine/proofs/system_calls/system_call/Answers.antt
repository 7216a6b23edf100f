use Rattle.std.proofs.Common.{◌≡◌, ◌≢◌, List, ℕ, refl, sym, ◌∙◌, subst, arith}
use Rattle.ia32_insn.specs.declared.register_names.Reg32.TheVariants.{Eax, Ebx}
use Rattle.ia32_insn.specs.State.{State}
use Rattle.ia32_insn.specs.Meaning.{Moved, word_of}
use Rattle.ia32_machine.proofs.Kept.{keeps-same}
use Rattle.ia32_machine.specs.First.{lent}
use Rattle.ia32_machine.specs.Lending.{IsPutOn, PutsNothing}
use Rattle.ia32_machine.specs.Performs.{PartTold, call_moved}
use Rattle.ia32_machine.proofs.Performs.{none_put, nothing_put, puts}
use Rattle.ia32_machine.proofs.Calls.{call_exit, call_read, call_write, call_none}
use Rattle.ia32_machine.proofs.system_calls.system_call.Goals.{else-call-eq3-via-then-call-eq3+else-first-eq0}
use Rattle.ia32_machine.proofs.system_calls.system_call.Goals.{else-call-eq3-via-else-call-eq3}
use Rattle.ia32_machine.proofs.system_calls.system_call.Goals.{else-call-eq4-via-then-call-eq4+else-first-eq1}
use Rattle.ia32_machine.proofs.system_calls.system_call.Goals.{else-call-eq4-via-else-call-eq4}
use Rattle.ia32_machine.proofs.system_calls.system_call.Goals as goal

pub overflow_cast-result : goal.overflow_cast-result
overflow_cast-result g c = omega arith

pub returns-then-call-eq1-clause-lends : goal.returns-then-call-eq1-clause-lends
returns-then-call-eq1-clause-lends g c = record {
  told = λ _.
      rw c.word-first.ensures (call_exit c.args.processor.now (g.I.Source.left c.args.input.now)
      (IsPutOn g.O.Sink c.args.out.now c.args.out.now) c.requires (sym c.word-call.ensures ∙ c.if-call-eq1.true)
      (none_put g.O.Sink c.args.out.now));
  counted = (refl, refl);
  input_tells = λ t. t;
  out_tells = λ t. t;
}

pub read_call-requires : goal.read_call-requires
read_call-requires g c = c.requires

pub returns-then-first-eq0-clause-lends : goal.returns-then-first-eq0-clause-lends
returns-then-first-eq0-clause-lends g c = record {
  told = λ i.
      let left : List ℕ = g.I.Source.left c.args.input.now in
      let told : PartTold (call_moved (lent c.args.processor.now left)) (lent c.args.processor.now left)
      c.read_call.new.processor
      (g.I.Source.left c.read_call.new.input) PutsNothing c.read_call.result =
      subst (λ (m : Moved). PartTold m (lent c.args.processor.now left) c.read_call.new.processor
      (g.I.Source.left c.read_call.new.input) PutsNothing c.read_call.result)
      (call_read c.args.processor.now left (sym c.word-call.ensures ∙ c.if-call-eq3.true)
      (sym c.word-first.ensures ∙ c.if-first-eq0.true)) (c.read_call.ensures.told i) in
      puts (call_moved (lent c.args.processor.now left)) (lent c.args.processor.now left) c.read_call.new.processor
      (g.I.Source.left c.read_call.new.input) PutsNothing (IsPutOn g.O.Sink c.args.out.now c.args.out.now)
      c.read_call.result
      (nothing_put g.O.Sink c.args.out.now) told;
  counted = c.read_call.ensures.counted (g.O.Sink.counts c.args.out.now);
  input_tells = c.read_call.ensures.input_tells;
  out_tells = λ t. t;
}

pub write_call-requires : goal.write_call-requires
write_call-requires g c = c.requires

pub returns-then-first-eq1-clause-lends : goal.returns-then-first-eq1-clause-lends
returns-then-first-eq1-clause-lends g c = record {
  told = λ _.
      let left : List ℕ = g.I.Source.left c.args.input.now in
      subst (λ (m : Moved). PartTold m (lent c.args.processor.now left) c.write_call.new.processor left
      (IsPutOn g.O.Sink c.args.out.now c.write_call.new.out) c.write_call.result)
      (call_write c.args.processor.now left (sym c.word-call.ensures ∙ c.if-call-eq4.true)
      (sym c.word-first.ensures ∙ c.if-first-eq1.true)) (c.write_call.ensures.told left);
  counted = c.write_call.ensures.counted (g.I.Source.faults c.args.input.now);
  input_tells = λ t. t;
  out_tells = c.write_call.ensures.out_tells;
}

pub returns-clause-lends : goal.returns-clause-lends
returns-clause-lends g c = record {
  told = λ _.
      let old : State = c.args.processor.now in
      let exit : word_of Eax old ≢ 1 = λ e. c.if-call-eq1.false (c.word-call.ensures ∙ e) in
      let read : word_of Eax old ≡ 3 → word_of Ebx old ≡ 0 → ⊥ =
      λ call file. elim c.else-call-eq3.branch [
        | else-call-eq3-via-then-call-eq3+else-first-eq0 w ↦ w.if-first-eq0.false (c.word-first.ensures ∙ file)
        | else-call-eq3-via-else-call-eq3 w ↦ w.if-call-eq3.false (c.word-call.ensures ∙ call)
      ] in
      let write : word_of Eax old ≡ 4 → word_of Ebx old ≡ 1 → ⊥ =
      λ call file. elim c.else-call-eq4.branch [
        | else-call-eq4-via-then-call-eq4+else-first-eq1 w ↦ w.if-first-eq1.false (c.word-first.ensures ∙ file)
        | else-call-eq4-via-else-call-eq4 w ↦ w.if-call-eq4.false (c.word-call.ensures ∙ call)
      ] in
      rw c.eip.ensures.value (call_none old (g.I.Source.left c.args.input.now)
      (IsPutOn g.O.Sink c.args.out.now c.args.out.now) c.requires exit read write
      (none_put g.O.Sink c.args.out.now));
  counted = (refl, refl);
  input_tells = λ t. t;
  out_tells = λ t. t;
}

pub returns-then-call-eq1-clause-code : goal.returns-then-call-eq1-clause-code
returns-then-call-eq1-clause-code g c = keeps-same c.args.processor.now.memory

pub returns-then-first-eq0-clause-code : goal.returns-then-first-eq0-clause-code
returns-then-first-eq0-clause-code g c = c.read_call.ensures.code

pub returns-then-first-eq1-clause-code : goal.returns-then-first-eq1-clause-code
returns-then-first-eq1-clause-code g c = c.write_call.ensures.code

pub returns-clause-code : goal.returns-clause-code
returns-clause-code g c = keeps-same c.args.processor.now.memory

use Rattle.std.proofs.Common.{rules, ◌≡◌, ◌≢◌, true, false, List, ℕ, Ok, Err, refl, sym, subst}
use Rattle.std.specs.Prelude.{Result}
use Rattle.ia32_insn.specs.declared.insn.Insn.TheVariants as insn
use Rattle.ia32_machine.proofs.Kept.{instruction-keeps, keeps-same}
use Rattle.ia32_machine.specs.First.{lent}
use Rattle.ia32_machine.specs.Lending.{IsPutOn}
use Rattle.ia32_machine.specs.declared.ends.MachineEnd.{MachineEnd}
use Rattle.ia32_machine.specs.Performs.{PartTold, PartCounts, call_moved, insn_moved}
use Rattle.ia32_machine.proofs.Performs.{call_goes, call_ends, insn_goes, insn_ends, halt_counts, none_put}
use Rattle.ia32_machine.proofs.instruction.perform.Goals as goal

pub system_call-requires : goal.system_call-requires
system_call-requires g c = c.requires

pub returns-in_err-system_call-clause-lends : goal.returns-in_err-system_call-clause-lends
returns-in_err-system_call-clause-lends g c = record {
  told = λ i.
      let left : List ℕ = g.I.Source.left c.args.input.now in
      let left' : List ℕ = g.I.Source.left c.system_call.new.input in
      let end : MachineEnd = c.in_err-system_call.field-0.0 in
      let same : c.from_residual.result ≡ Err end = search rules in
      let told : PartTold (call_moved (lent c.args.processor.now left)) (lent c.args.processor.now left)
      c.system_call.new.processor
      left' (IsPutOn g.O.Sink c.args.out.now c.system_call.new.out) (Err end) =
      c.in_err-system_call.ensures.lends.told i in
      subst (λ (r : Result Unit MachineEnd). PartTold (insn_moved c.args.insn.now c.args.after
      (lent c.args.processor.now left))
      (lent c.args.processor.now left) c.system_call.new.processor left'
      (IsPutOn g.O.Sink c.args.out.now c.system_call.new.out) r) (sym same)
      (call_ends c.args.insn.now c.args.after (lent c.args.processor.now left) c.system_call.new.processor left'
      (IsPutOn g.O.Sink c.args.out.now c.system_call.new.out) end
      (c.if-is_system_call.ensures.0 refl) told);
  counted =
      let end : MachineEnd = c.in_err-system_call.field-0.0 in
      let same : c.from_residual.result ≡ Err end = search rules in
      subst (λ (r : Result Unit MachineEnd). PartCounts (g.I.Source.faults c.args.input.now)
      (g.I.Source.faults c.system_call.new.input) (g.O.Sink.counts c.args.out.now)
      (g.O.Sink.counts c.system_call.new.out) r) (sym same)
      c.in_err-system_call.ensures.lends.counted;
  input_tells = c.system_call.ensures.lends.input_tells;
  out_tells = c.system_call.ensures.lends.out_tells;
}

pub returns-then-is_system_call-clause-lends : goal.returns-then-is_system_call-clause-lends
returns-then-is_system_call-clause-lends g c = record {
  told = λ i.
      let left : List ℕ = g.I.Source.left c.args.input.now in
      let left' : List ℕ = g.I.Source.left c.system_call.new.input in
      let told : PartTold (call_moved (lent c.args.processor.now left)) (lent c.args.processor.now left)
      c.system_call.new.processor
      left' (IsPutOn g.O.Sink c.args.out.now c.system_call.new.out) (Ok tt) =
      c.in_ok-system_call.ensures.lends.told i in
      rw c.set_eip.ensures
      (call_goes c.args.insn.now c.args.after (lent c.args.processor.now left) c.system_call.new.processor left'
      (IsPutOn g.O.Sink c.args.out.now c.system_call.new.out)
      (c.if-is_system_call.ensures.0 refl) told);
  counted = c.in_ok-system_call.ensures.lends.counted;
  input_tells = c.system_call.ensures.lends.input_tells;
  out_tells = c.system_call.ensures.lends.out_tells;
}

pub perform-requires : goal.perform-requires
perform-requires g c = λ e. let no : false ≡ true = c.if-is_system_call.ensures.1 e in cc

pub returns-in-Ok-clause-lends : goal.returns-in-Ok-clause-lends
returns-in-Ok-clause-lends g c = record {
  told = λ _.
      let other : c.args.insn.now ≢ insn.Int 0x80 =
      λ e. let no : false ≡ true = c.if-is_system_call.ensures.1 e in cc in
      insn_goes c.args.insn.now c.args.after c.args.processor.now c.perform.new.processor
      (g.I.Source.left c.args.input.now) (IsPutOn g.O.Sink c.args.out.now c.args.out.now) c.requires other
      c.in-Ok.ensures (none_put g.O.Sink c.args.out.now);
  counted = (refl, refl);
  input_tells = λ t. t;
  out_tells = λ t. t;
}

pub returns-in-Err-clause-lends : goal.returns-in-Err-clause-lends
returns-in-Err-clause-lends g c = record {
  told = λ _.
      let other : c.args.insn.now ≢ insn.Int 0x80 =
      λ e. let no : false ≡ true = c.if-is_system_call.ensures.1 e in cc in
      rw (c.end_at.ensures, c.eip-address.ensures.value, c.in-Err.ensures.1)
      (insn_ends c.args.insn.now c.args.after c.args.processor.now (g.I.Source.left c.args.input.now)
      (IsPutOn g.O.Sink c.args.out.now c.args.out.now) c.in-Err.halt c.requires other c.in-Err.ensures.0
      (none_put g.O.Sink c.args.out.now));
  counted =
      rw c.end_at.ensures (halt_counts c.eip-address.result (g.I.Source.faults c.args.input.now)
      (g.O.Sink.counts c.args.out.now) c.in-Err.halt);
  input_tells = λ t. t;
  out_tells = λ t. t;
}

pub returns-in_err-system_call-clause-code : goal.returns-in_err-system_call-clause-code
returns-in_err-system_call-clause-code g c = c.system_call.ensures.code

pub returns-then-is_system_call-clause-code : goal.returns-then-is_system_call-clause-code
returns-then-is_system_call-clause-code g c = rw c.set_eip.ensures c.system_call.ensures.code

pub returns-in-Ok-clause-code : goal.returns-in-Ok-clause-code
returns-in-Ok-clause-code g c =
    instruction-keeps c.args.insn.now c.args.after c.args.processor.now c.perform.new.processor c.in-Ok.ensures

pub returns-in-Err-clause-code : goal.returns-in-Err-clause-code
returns-in-Err-clause-code g c = rw c.in-Err.ensures.1 (keeps-same c.args.processor.now.memory)

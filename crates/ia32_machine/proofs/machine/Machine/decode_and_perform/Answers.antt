use Rattle.std.proofs.Common.{◌≡◌, ◌≤◌, ◌+◌, ◌%◌, List, ℕ, Err, refl, ap, subst, arith}
use Rattle.ia32_insn.specs.State.{State}
use Rattle.ia32_machine.specs.First.{lent}
use Rattle.ia32_machine.specs.Lending.{IsPutOn}
use Rattle.ia32_machine.specs.Performs.{AdvanceTold}
use Rattle.ia32_machine.specs.declared.ends.MachineEnd.TheVariants.{Stopped}
use Rattle.ia32_machine.proofs.Performs.{fetched, none_put, unfetched}
use Rattle.ia32_machine.proofs.DecodedTable.{decoded-kept}
use Rattle.ia32_machine.proofs.FetchedTable.{fetched-spelled}
use Rattle.ia32_machine.proofs.machine.Machine.decode_and_perform.Goals as goal

pub overflow_cast-after : goal.overflow_cast-after
overflow_cast-after g c = let short : c.in-Ok.length ≤ 15 = c.in-Ok.ensures.short in omega arith

pub perform-requires : goal.perform-requires
perform-requires g c = c.eip-address.ensures.bare

pub same-self : goal.same-self
same-self g c = refl

pub invariant_of-self : goal.invariant_of-self
invariant_of-self g c =
    let p : State = c.self.inside.processor in
    let after : ℕ = (c.eip-address.result + c.in-Ok.length) % 0x1_0000_0000 in
    decoded-kept p.memory c.perform.new.processor.memory c.keep.new.self.entries.items c.perform.ensures.code
    (c.keep.ensures c.self.invariant
    (fetched-spelled p c.eip-address.result c.in-Ok.length after c.in-Ok.insn
    c.eip-address.ensures.value c.in-Ok.ensures.told refl))

pub returns-in-Ok : goal.returns-in-Ok
returns-in-Ok g c = record {
  told = λ i.
      let p : State = c.self.inside.processor in
      let left : List ℕ = g.I.Source.left c.args.input.now in
      let after : ℕ = (c.eip-address.result + c.in-Ok.length) % 0x1_0000_0000 in
      let same : after ≡ (p.eip + c.in-Ok.length) % 0x1_0000_0000 =
      ap (λ (n : ℕ). (n + c.in-Ok.length) % 0x1_0000_0000) c.eip-address.ensures.value in
      subst (λ (s : State). AdvanceTold (lent s left) c.perform.new.processor (g.I.Source.left c.perform.new.input)
      (IsPutOn g.O.Sink c.args.out.now c.perform.new.out) c.perform.result) c.self.view_is
      (fetched p c.perform.new.processor left (g.I.Source.left c.perform.new.input)
      (IsPutOn g.O.Sink c.args.out.now c.perform.new.out) c.in-Ok.insn c.in-Ok.length after c.perform.result
      c.in-Ok.ensures.told same (c.perform.ensures.lends.told i));
  counted = c.perform.ensures.lends.counted;
  input_tells = c.perform.ensures.lends.input_tells;
  out_tells = c.perform.ensures.lends.out_tells;
}

pub returns-in-Err : goal.returns-in-Err
returns-in-Err g c = record {
  told = λ _.
      let left : List ℕ = g.I.Source.left c.args.input.now in
      subst (λ (s : State). AdvanceTold (lent s left) s left (IsPutOn g.O.Sink c.args.out.now c.args.out.now)
      (Err (Stopped c.in-Err.cause c.eip-address.result))) c.self.view_is
      (rw c.eip-address.ensures.value (unfetched c.self.inside.processor left
      (IsPutOn g.O.Sink c.args.out.now c.args.out.now) c.in-Err.cause
      c.eip-address.ensures.bare c.in-Err.ensures.told (none_put g.O.Sink c.args.out.now)));
  counted = (refl, refl);
  input_tells = λ t. t;
  out_tells = λ t. t;
}

use Rattle.std.proofs.Common.{◌≡◌, List, ℕ, refl, subst}
use Rattle.ia32_insn.specs.State.{State}
use Rattle.ia32_machine.specs.First.{lent}
use Rattle.ia32_machine.specs.Lending.{IsPutOn}
use Rattle.ia32_machine.specs.Performs.{AdvanceTold}
use Rattle.ia32_machine.proofs.Performs.{fetched}
use Rattle.ia32_machine.proofs.DecodedTable.{decoded-kept}
use Rattle.ia32_machine.proofs.FetchedTable.{found-fetched, found-after}
use Rattle.ia32_machine.proofs.machine.Machine.advance.Goals as goal

pub perform-requires : goal.perform-requires
perform-requires g c = c.eip-address.ensures.bare

pub same-self : goal.same-self
same-self g c = refl

pub invariant_of-self : goal.invariant_of-self
invariant_of-self g c =
    decoded-kept c.self.inside.processor.memory c.perform.new.processor.memory c.self.inside.decoded.entries.items
    c.perform.ensures.code c.self.invariant

pub returns-in-Some : goal.returns-in-Some
returns-in-Some g c = record {
  told = λ i.
      let p : State = c.self.inside.processor in
      let left : List ℕ = g.I.Source.left c.args.input.now in
      let at : c.eip-address.result ≡ p.eip = c.eip-address.ensures.value in
      let found = c.in-Some.ensures p.memory c.self.invariant in
      subst (λ (s : State). AdvanceTold (lent s left) c.perform.new.processor (g.I.Source.left c.perform.new.input)
      (IsPutOn g.O.Sink c.args.out.now c.perform.new.out) c.perform.result) c.self.view_is
      (fetched p c.perform.new.processor left (g.I.Source.left c.perform.new.input)
      (IsPutOn g.O.Sink c.args.out.now c.perform.new.out) c.in-Some.entry.now.insn found.1.1.1 c.in-Some.entry.now.after c.perform.result
      (found-fetched p c.eip-address.result c.in-Some.entry.now at found)
      (found-after p c.eip-address.result c.in-Some.entry.now at found) (c.perform.ensures.lends.told i));
  counted = c.perform.ensures.lends.counted;
  input_tells = c.perform.ensures.lends.input_tells;
  out_tells = c.perform.ensures.lends.out_tells;
}

pub returns-in-None : goal.returns-in-None
returns-in-None g c = record {
  told = c.decode_and_perform.ensures.told;
  counted = c.decode_and_perform.ensures.counted;
  input_tells = c.decode_and_perform.ensures.input_tells;
  out_tells = c.decode_and_perform.ensures.out_tells;
}

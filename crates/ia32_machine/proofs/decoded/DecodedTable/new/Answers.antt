use Rattle.std.proofs.Common.{List, refl, arith}
use Rattle.ia32_insn.specs.State.{Area}
use Rattle.ia32_insn.specs.declared.insn.Insn.TheVariants.{Nop}
use Rattle.ia32_machine.specs.declared.decoded.Decoded.{Decoded}
use Rattle.ia32_machine.proofs.DecodedTable.{empty-decoded, more-decoded}
use Rattle.ia32_machine.proofs.decoded.DecodedTable.new.Goals as goal

pub fill-preserved : goal.fill-preserved
fill-preserved c =
    let empty : Decoded = record { address = 0; after = 0; insn = Nop } in
    record {
      filled = omega (arith, c.in_ok-push.ensures.len, c.fill.invariant.filled);
      right = λ (memory : List Area).
          rw c.in_ok-push.ensures.items (more-decoded memory c.fill.entries.items empty
          (empty-decoded memory empty refl)
          (c.fill.invariant.right memory));
    }

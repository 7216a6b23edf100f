-- An operand in memory, of the two instructions whose rows differ for a register.
use Rattle.std.specs.Prelude.{◌≡◌}
use Rattle.std.proofs.Common.{arith}
use Rattle.std.proofs.lemmas.List.{length-append}
use Rattle.ia32_insn.specs.declared.operand.Rm32.TheVariants as rm
use Rattle.ia32_insn.specs.Preferred.{fields_for, word_bytes}
use Rattle.ia32_insn.specs.Spelling.{InMemory}
use Rattle.ia32_asm.proofs.lengths.length_of.Goals as goal

pub returns-in-MovImm-Mem-default-clause-value : goal.returns-in-MovImm-Mem-default-clause-value
returns-in-MovImm-Mem-default-clause-value c =
    let m = c.in-MovImm-Mem-default.m in
    let z = c.in-MovImm-Mem-default.field-1 in
    let is : c.in-MovImm-Mem-default.field-0 ≡ rm.Mem m =
    rw c.in-MovImm-Mem-default.is at c.in-MovImm-Mem-default.field-0-is in
    rw (c.in-MovImm-Mem-default.is, is) (
    omega (
      arith,
      c.memory_length-in-MovImm-Mem-default.ensures.value 0,
      length-append (fields_for 0 (InMemory m)) (word_bytes z),
    )
    )

pub returns-in-Push-Mem-clause-value : goal.returns-in-Push-Mem-clause-value
returns-in-Push-Mem-clause-value c =
    let is : c.in-Push-Mem.field-0 ≡ rm.Mem c.in-Push-Mem.m = rw c.in-Push-Mem.is at c.in-Push-Mem.field-0-is in
    rw (c.in-Push-Mem.is, is) (omega (arith, c.memory_length-in-Push-Mem.ensures.value 6))

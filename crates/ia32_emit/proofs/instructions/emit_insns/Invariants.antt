use Rattle.std.proofs.Common.{◌≡◌, ◌++◌, drop, map}
use Rattle.ia32_insn.specs.declared.item.Item.TheVariants as item
use Rattle.ia32_emit.proofs.instructions.emit_insns.Given as goal

-- what was emitted so far, and what is left
abbrev pub invariant-loop-insn : goal.invariant-loop-insn
invariant-loop-insn l =
    l.out.items ++ map item.Plain (drop l.insn-index l.insns) ≡ l.initial.out.items ++ map item.Plain l.insns

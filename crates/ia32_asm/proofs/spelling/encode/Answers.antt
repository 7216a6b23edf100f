use Rattle.std.specs.Prelude.{List, ℕ}
use Rattle.std.proofs.Common.{sym, subst}
use Rattle.ia32_insn.specs.Spelling.{Spells}
use Rattle.ia32_asm.proofs.SpelledOperands.{preferred-spells}
use Rattle.ia32_asm.proofs.spelling.encode.Goals as goal

pub returns-clause-spells : goal.returns-clause-spells
returns-clause-spells c =
    subst (λ (bytes : List ℕ). Spells c.args.insn.now bytes) (sym c.preferred_bytes.ensures.bytes)
    (preferred-spells c.args.insn.now c.preferred_bytes.ensures.range c.requires)

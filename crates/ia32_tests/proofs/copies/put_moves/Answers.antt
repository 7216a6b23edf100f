-- Each instruction of the moves has a spelling.
use Rattle.std.specs.List.{AllByRecursion}
use Rattle.std.proofs.Common.{subst, sym}
use Rattle.std.proofs.lemmas.List.Elements.{All-from_recursion}
use Rattle.ia32_insn.specs.Spelling.{HasSpelling}
use Rattle.ia32_tests.proofs.copies.put_moves.Goals as goal

pub put_insns-requires : goal.put_insns-requires
put_insns-requires g c =
    All-from_recursion HasSpelling c.as_slice.result.now
    (subst (AllByRecursion HasSpelling) (sym c.as_slice.ensures.value) c.repair-insns.ensures.spelled)

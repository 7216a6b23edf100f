use Rattle.std.proofs.Common.{◌≡◌, ◌-◌, ◌++◌, length}
use Rattle.ia32_emit.proofs.Passed.{words_behind}
use Rattle.ia32_emit.proofs.calls.emit_pass_all.Given as goal

abbrev pub invariant-loop-done : goal.invariant-loop-done
invariant-loop-done l =
    l.out.items ≡ l.initial.out.items ++ words_behind (length l.arguments - l.done) l.arguments

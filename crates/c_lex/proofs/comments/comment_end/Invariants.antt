use Rattle.std.proofs.Common.{◌≡◌, ◌<◌, ◌+◌, ℕ, get_or}
use Rattle.pcc_base.specs.Ascii.{star, slash}
use Rattle.c_lex.proofs.comments.comment_end.Given as goal

abbrev pub invariant-loop-i : goal.invariant-loop-i
invariant-loop-i l = (j : ℕ) → j + 1 < l.i → get_or l.body j 0 ≡ star → get_or l.body (j + 1) 0 ≡ slash → ⊥

use Rattle.std.proofs.Common.{◌≡◌, ◌==◌, false, take, All}
use Rattle.map_reader.proofs.words.cut_at.Given as goal

-- no byte so far is such a byte
abbrev pub invariant-loop-at : goal.invariant-loop-at
invariant-loop-at l = All (λ b. (b == l.byte) ≡ false) (take l.at l.word)

use Rattle.std.proofs.Common.{◌≡◌, ◌++◌, flat_map, take}
use Rattle.map_text.specs.Words.{argument_text}
use Rattle.map_text.proofs.op_words.push_numbers.Given as goal

-- the numbers so far are there
abbrev pub invariant-loop-number : goal.invariant-loop-number
invariant-loop-number l = l.out.items ≡ l.initial.out.items
    ++ flat_map argument_text (take l.number-index l.numbers)

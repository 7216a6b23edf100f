use Rattle.std.proofs.Common.{◌≡◌, ◌++◌, ◌==◌, length}
use Rattle.std.specs.List.{slice_split}
use Rattle.map_text.specs.Reading as reading
use Rattle.pcc_base.specs.Ascii.{space}
use Rattle.map_reader.specs.Views.{texts}
use Rattle.map_reader.proofs.words.words_of.Given as goal

-- the words so far and those of the rest are those of the line
abbrev pub invariant-words : goal.invariant-words
invariant-words l = texts l.words.items ++ slice_split (λ b. b == space) l.rest ≡ reading.words_of l.line

abbrev pub decreases-words : goal.decreases-words
decreases-words l = length l.rest

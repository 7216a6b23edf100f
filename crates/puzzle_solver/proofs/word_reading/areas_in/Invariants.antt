use Rattle.std.proofs.Common.{◌≡◌, ◌++◌, length}
use Rattle.puzzle_solver.specs.Reading.{area_of, words_read}
use Rattle.puzzle_solver.proofs.word_reading.areas_in.Given as goal

abbrev pub invariant-words : goal.invariant-words
invariant-words l =
    ((words_read area_of l.text).0 ≡ l.areas.items ++ (words_read area_of l.rest).0)
    × ((words_read area_of l.text).1 ≡ (words_read area_of l.rest).1)

abbrev pub decreases-words : goal.decreases-words
decreases-words l = length l.rest

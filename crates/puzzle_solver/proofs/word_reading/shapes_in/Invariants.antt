use Rattle.std.proofs.Common.{◌≡◌, ◌++◌, length}
use Rattle.puzzle_solver.specs.Reading.{shape_of, words_read}
use Rattle.puzzle_solver.proofs.word_reading.shapes_in.Given as goal

abbrev pub invariant-words : goal.invariant-words
invariant-words l =
    ((words_read shape_of l.text).0 ≡ l.shapes.items ++ (words_read shape_of l.rest).0)
    × ((words_read shape_of l.text).1 ≡ (words_read shape_of l.rest).1)

abbrev pub decreases-words : goal.decreases-words
decreases-words l = length l.rest

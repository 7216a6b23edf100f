use Rattle.std.proofs.Common.{◌≡◌, length}
use Rattle.map_text.specs.Reading.{map_from, map_in}
use Rattle.map_file.specs.Views.{map_of}
use Rattle.map_reader.proofs.Fronts.{lines_of}
use Rattle.map_reader.proofs.reading.read_front.Given as goal

-- the map so far with the lines of the rest is the map of the text
abbrev pub invariant-lines : goal.invariant-lines
invariant-lines l = map_from (map_of l.map) (lines_of l.rest) ≡ map_in l.text

abbrev pub decreases-lines : goal.decreases-lines
decreases-lines l = length l.rest

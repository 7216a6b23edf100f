-- What reading a line does to the map so far.
use Rattle.std.specs.Prelude.{◌≡◌, ℕ, List, Option, Some, None}
use Rattle.map_text.specs.Maps.{Map}
use Rattle.map_text.specs.Reading.{map_by}
use Rattle.map_text.specs.Words.{Line, EndLine}
use Rattle.map_reader.specs.declared.reading.Step.{Step}
use Rattle.map_reader.specs.declared.reading.Step.TheVariants.{Nothing, Ended, Going}

-- there is no line, or it is the last, or the map has it now and the others are put behind it
abbrev pub IsStep : Step → Map → Option Line → Map → Type 0
IsStep Nothing old line new = line ≡ None
IsStep Ended old line new = (line ≡ Some EndLine) × (new ≡ old)
IsStep Going old line new =
    (lines : List (List ℕ)) (others : Map → Option (Map × List ℕ)) → map_by old line lines others ≡ others new

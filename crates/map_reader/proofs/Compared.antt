-- A text that is that of a map is read as the map, so it is numbered, and its text is the text.
use Rattle.std.proofs.Common.{◌≡◌, ℕ, List, [], ◌++◌, Option, Some}
use Rattle.std.proofs.Common.{sym, ap, ◌∙◌}
use Rattle.std.specs.Option.{option_map_or}
use Rattle.std.proofs.lemmas.List.{append-nil}
use Rattle.map_text.specs.Maps.{Map}
use Rattle.map_text.specs.Reading.{map_in}
use Rattle.map_text.specs.Rules.{IsMap}
use Rattle.map_text.specs.Words.{map_text}
use Rattle.map_reader.proofs.Fronts.{map_read}

abbrev pub MapIsRead : Type 0
MapIsRead = (m : Map) (rest : List ℕ) → IsMap m → map_in (map_text m ++ rest) ≡ Some (m, rest)

-- what is read from the front is the map
pub read_as : (law : MapIsRead) (m : Map) (text : List ℕ) (read : Option Map) → IsMap m → map_text m ≡ text
    → read ≡ map_read (map_in text) → read ≡ Some m
read_as law m text read is same e =
    e
    ∙ ap (λ (t : List ℕ). map_read (map_in t)) (sym same ∙ sym (append-nil (map_text m)))
    ∙ ap map_read (law m [] is)

-- what is printed of a map's text is the text
pub same_printed : (law : MapIsRead) (m n : Map) (text printed : List ℕ) → IsMap m → map_text m ≡ text
    → Some n ≡ map_read (map_in text) → printed ≡ map_text n → printed ≡ text
same_printed law m n text printed is same read put =
    put
    ∙ ap (λ (o : Option Map). option_map_or map_text o []) (read_as law m text (Some n) is same read)
    ∙ same

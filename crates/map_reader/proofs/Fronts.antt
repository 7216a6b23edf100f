-- What reading a line says of the lines from it on.
use Rattle.std.proofs.Common.{◌≡◌, ℕ, ◌==◌, List, [], ◌∷◌, Option, Some, None, option_map, sym, ap, ◌∙◌}
use Rattle.std.specs.List.{slice_split}
use Rattle.pcc_base.specs.Ascii.{newline}
use Rattle.map_text.specs.Maps.{Map}
use Rattle.map_text.specs.Reading.{line_in, map_by, map_from, words_of}
use Rattle.map_text.specs.Words.{EndLine}

abbrev pub lines_of : List ℕ → List (List ℕ)
lines_of text = slice_split (λ b. b == newline) text

abbrev pub map_read : Option (Map × List ℕ) → Option Map
map_read read = option_map (λ r. r.0) read

-- the map has the line now
pub line_gone : (old new : Map) (rest line : List ℕ) (others : List (List ℕ)) (all : Option (Map × List ℕ))
    → map_from old (lines_of rest) ≡ all → lines_of rest ≡ line ∷ others
    → ((lines : List (List ℕ)) (next : Map → Option (Map × List ℕ))
    → map_by old (line_in (words_of line)) lines next ≡ next new)
    → map_from new others ≡ all
line_gone old new rest line others all so is step =
    sym (step others (λ n. map_from n others)) ∙ ap (map_from old) (sym is) ∙ so

-- there is no line
pub no_line : (m : Map) (rest line : List ℕ) (others : List (List ℕ)) (all : Option (Map × List ℕ))
    → map_from m (lines_of rest) ≡ all → lines_of rest ≡ line ∷ others → line_in (words_of line) ≡ None
    → None ≡ map_read all
no_line m rest line others all so is none =
    ap map_read
    (sym (ap (λ l. map_by m l others (λ n. map_from n others)) none) ∙ ap (map_from m) (sym is) ∙ so)

-- the line is the last
pub last_line : (m new : Map) (rest line : List ℕ) (others : List (List ℕ)) (all : Option (Map × List ℕ))
    → map_from m (lines_of rest) ≡ all → lines_of rest ≡ line ∷ others
    → (line_in (words_of line) ≡ Some EndLine) × (new ≡ m) → Some new ≡ map_read all
last_line m new rest line others all so is e =
    ap Some e.1
    ∙ ap map_read
    (sym (ap (λ l. map_by m l others (λ n. map_from n others)) e.0) ∙ ap (map_from m) (sym is) ∙ so)

-- the text ends before the map does
pub none_ended : (m new : Map) (rest line : List ℕ) (all : Option (Map × List ℕ))
    → map_from m (lines_of rest) ≡ all → lines_of rest ≡ line ∷ []
    → ((lines : List (List ℕ)) (next : Map → Option (Map × List ℕ))
    → map_by m (line_in (words_of line)) lines next ≡ next new)
    → None ≡ map_read all
none_ended m new rest line all so is step =
    ap map_read (line_gone m new rest line [] all so is step)

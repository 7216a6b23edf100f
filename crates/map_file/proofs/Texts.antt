-- The text of lines that are put one after the other.
use Rattle.std.proofs.Common.{◌≡◌, ◌<◌, ℕ, suc, ◌+◌, List, [], ◌∷◌, ◌++◌, drop, get_or, length, map, sym, ap}
use Rattle.std.proofs.Common.{◌∙◌, arith, append_assoc, subst}
use Rattle.std.specs.List.{All, flat_map}
use Rattle.std.proofs.lemmas.List.{append-nil, drop_more, get_or-map, length-map}
use Rattle.std.proofs.lemmas.List.Elements.{All-get_or}
use Rattle.std.proofs.lemmas.List.Concat.{flat_map-append}
use Rattle.map_text.specs.Words.{Line, line_text, numbered}
pub use Rattle.map_file.proofs.Deciding.{so_at as made_at}

abbrev pub texts : List Line → List ℕ
texts lines = flat_map line_text lines

-- a line is the text of a list of one line
pub one_put : (old : List ℕ) (line : Line) → old ++ line_text line ≡ old ++ texts (line ∷ [])
one_put old line = ap (λ (t : List ℕ). old ++ t) (sym (append-nil (line_text line)))

-- the text so far and that of the others, where one element more has its lines
pub next_put : {X Y : Type 0} (lines : ℕ → Y → List Line) (make : X → Y) (start old new : List ℕ)
    (xs : List X) (i : ℕ) (d : X) → i < length xs
    → old ++ texts (numbered lines i (map make (drop i xs))) ≡ start
    → new ≡ old ++ texts (lines i (make (get_or xs i d)))
    → new ++ texts (numbered lines (i + 1) (map make (drop (i + 1) xs))) ≡ start
next_put {X = X} lines make start old new xs i d h all put =
    let next : i + 1 ≡ suc i = omega arith in
    let here : List Line = lines i (make (get_or xs i d)) in
    let rest : List Line = numbered lines (suc i) (map make (drop (i + 1) xs)) in
    ap (λ (n : ℕ). new ++ texts (numbered lines n (map make (drop (i + 1) xs)))) next
    ∙ ap (λ (t : List ℕ). t ++ texts rest) put
    ∙ append_assoc old (texts here) (texts rest)
    ∙ ap (λ (t : List ℕ). old ++ t) (sym (flat_map-append line_text here rest))
    ∙ ap (λ (ys : List X). old ++ texts (numbered lines i (map make ys))) (sym (drop_more xs i d h))
    ∙ all

-- and where lines have no numbers
pub each_put : {X Y : Type 0} (lines : Y → List Line) (make : X → Y) (start old new : List ℕ)
    (xs : List X) (i : ℕ) (d : X) → i < length xs
    → old ++ texts (flat_map lines (map make (drop i xs))) ≡ start
    → new ≡ old ++ texts (lines (make (get_or xs i d)))
    → new ++ texts (flat_map lines (map make (drop (i + 1) xs))) ≡ start
each_put {X = X} lines make start old new xs i d h all put =
    let here : List Line = lines (make (get_or xs i d)) in
    let rest : List Line = flat_map lines (map make (drop (i + 1) xs)) in
    ap (λ (t : List ℕ). t ++ texts rest) put
    ∙ append_assoc old (texts here) (texts rest)
    ∙ ap (λ (t : List ℕ). old ++ t) (sym (flat_map-append line_text here rest))
    ∙ ap (λ (ys : List X). old ++ texts (flat_map lines (map make ys))) (sym (drop_more xs i d h))
    ∙ all

-- The text of lines that are put one after the other.
use Rattle.std.proofs.Common.{◌≡◌, ◌<◌, ℕ, suc, ◌+◌, List, [], ◌∷◌, ◌++◌, drop, get_or, length, map, sym, ap}
use Rattle.std.proofs.Common.{◌∙◌, arith, append_assoc}
use Rattle.std.specs.List.{flat_map}
use Rattle.std.proofs.lemmas.List.{append-nil, drop_more}
use Rattle.std.proofs.lemmas.List.Concat.{flat_map-append}
use Rattle.map_text.specs.Words.{Line, numbered}

-- a line is the text of a list of one line
pub one_put : (text : Line → List ℕ) (old : List ℕ) (line : Line) → old ++ text line ≡ old ++ flat_map text (line ∷ [])
one_put text old line = ap (λ (t : List ℕ). old ++ t) (sym (append-nil (text line)))

-- two lines are the text of a list of two
pub two_put : (text : Line → List ℕ) (old : List ℕ) (line other : Line)
    → old ++ text line ++ text other ≡ old ++ flat_map text (line ∷ other ∷ [])
two_put text old line other =
    append_assoc old (text line) (text other)
    ∙ ap (λ (t : List ℕ). old ++ (text line ++ t)) (sym (append-nil (text other)))

-- the lines of two lists, one behind the other
numbered-both : {X : Type 0} (lines : ℕ → X → List Line) (k : ℕ) (xs ys : List X)
    → numbered lines k (xs ++ ys) ≡ numbered lines k xs ++ numbered lines (k + length xs) ys
numbered-both lines k [] ys = let from : k ≡ k + 0 = omega arith in ap (λ (n : ℕ). numbered lines n ys) from
numbered-both lines k (x ∷ xs) ys =
    let next : suc k + length xs ≡ k + suc (length xs) = omega arith in
    ap (λ (ls : List Line). lines k x ++ ls) (numbered-both lines (suc k) xs ys
    ∙ ap (λ (n : ℕ). numbered lines (suc k) xs ++ numbered lines n ys) next)
    ∙ sym (append_assoc (lines k x) (numbered lines (suc k) xs) (numbered lines (k + suc (length xs)) ys))

-- and their text
pub text-both : {X : Type 0} (text : Line → List ℕ) (lines : ℕ → X → List Line) (k : ℕ) (xs ys : List X)
    → flat_map text (numbered lines k (xs ++ ys))
    ≡ flat_map text (numbered lines k xs) ++ flat_map text (numbered lines (k + length xs) ys)
text-both text lines k xs ys =
    ap (flat_map text) (numbered-both lines k xs ys)
    ∙ flat_map-append text (numbered lines k xs) (numbered lines (k + length xs) ys)

-- the text so far and that of the others, where one element more has its lines
pub next-put : {X : Type 0} (text : Line → List ℕ) (lines : ℕ → X → List Line) (start old new : List ℕ) (k : ℕ) (x : X)
    (rest : List X) → old ++ flat_map text (numbered lines k (x ∷ rest)) ≡ start
    → new ≡ old ++ flat_map text (lines k x) → new ++ flat_map text (numbered lines (k + 1) rest) ≡ start
next-put text lines start old new k x rest all put =
    let next : k + 1 ≡ suc k = omega arith in
    ap (λ (n : ℕ). new ++ flat_map text (numbered lines n rest)) next
    ∙ ap (λ (t : List ℕ). t ++ flat_map text (numbered lines (suc k) rest)) put
    ∙ append_assoc old (flat_map text (lines k x)) (flat_map text (numbered lines (suc k) rest))
    ∙ ap (λ (t : List ℕ). old ++ t) (sym (flat_map-append text (lines k x) (numbered lines (suc k) rest)))
    ∙ all

-- the same where the elements are made of those of a list
pub made-put : {X Y : Type 0} (text : Line → List ℕ) (lines : ℕ → Y → List Line) (make : X → Y) (start old new : List ℕ)
    (xs : List X) (i : ℕ) (d : X) → i < length xs
    → old ++ flat_map text (numbered lines i (map make (drop i xs))) ≡ start
    → new ≡ old ++ flat_map text (lines i (make (get_or xs i d)))
    → new ++ flat_map text (numbered lines (i + 1) (map make (drop (i + 1) xs))) ≡ start
made-put {X = X} text lines make start old new xs i d h all put =
    next-put text lines start old new i (make (get_or xs i d)) (map make (drop (i + 1) xs))
    (ap (λ (ys : List X). old ++ flat_map text (numbered lines i (map make ys))) (sym (drop_more xs i d h)) ∙ all) put

-- and where lines have no numbers
pub each-put : {X Y : Type 0} (text : Line → List ℕ) (lines : Y → List Line) (make : X → Y) (start old new : List ℕ)
    (xs : List X) (i : ℕ) (d : X) → i < length xs
    → old ++ flat_map text (flat_map lines (map make (drop i xs))) ≡ start
    → new ≡ old ++ flat_map text (lines (make (get_or xs i d)))
    → new ++ flat_map text (flat_map lines (map make (drop (i + 1) xs))) ≡ start
each-put {X = X} text lines make start old new xs i d h all put =
    let here : List Line = lines (make (get_or xs i d)) in
    let rest : List Line = flat_map lines (map make (drop (i + 1) xs)) in
    ap (λ (t : List ℕ). t ++ flat_map text rest) put
    ∙ append_assoc old (flat_map text here) (flat_map text rest)
    ∙ ap (λ (t : List ℕ). old ++ t) (sym (flat_map-append text here rest))
    ∙ ap (λ (ys : List X). old ++ flat_map text (flat_map lines (map make ys))) (sym (drop_more xs i d h))
    ∙ all

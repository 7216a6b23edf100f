-- What is put behind each other is a line's text.
use Rattle.std.proofs.Common.{◌≡◌, ℕ, List, [], ◌∷◌, ◌++◌, codes, decimal, flat_map, map, refl, sym, ap, ◌∙◌, append_assoc}
use Rattle.pcc_base.specs.Ascii.{newline, space}
use Rattle.puzzle_board.specs.declared.area.Area.{Area}
use Rattle.puzzle_board.specs.declared.piece.Piece.{Piece}
use Rattle.flow_graph.specs.declared.op.Op.{Op}
use Rattle.map_text.specs.Maps.{Standing}
use Rattle.map_text.specs.Words.{AfterLine, BeforeLine, BlockLine, BoardLine, PointLine, SpilledLine, address_text}
use Rattle.map_text.specs.Words.{area_word, argument_text, each_spaced, kind_letter, line_text, op_words, piece_word}
use Rattle.map_text.specs.Words.{place_text, standing_word, width_digit}
use Rattle.map_text.proofs.Printed.{each-append, more-pushed, numbers-spaced}

-- words that are put a space before each
each-word : {A : Type 0} (word : A → List ℕ) (xs : List A) → flat_map (λ x. codes " " ++ word x) xs
    ≡ each_spaced (map word xs)
each-word word [] = refl
each-word word (x ∷ xs) = ap (λ (t : List ℕ). space ∷ (word x ++ t)) (each-word word xs)

-- a first word, others, and a newline
pub line-made : (old first more : List ℕ) → ((old ++ first) ++ more) ++ newline ∷ [] ≡ old ++ ((first ++ more) ++ newline ∷ [])
line-made old first more =
    ap (λ (t : List ℕ). t ++ newline ∷ []) (append_assoc old first more)
    ∙ append_assoc old (first ++ more) (newline ∷ [])

pub piece_pushed : (old : List ℕ) (p : Piece)
    → old ++ codes " " ++ kind_letter p.kind ∷ [] ++ width_digit p.width ∷ [] ++ codes ":" ++ decimal p.var
    ≡ old ++ codes " " ++ piece_word p
piece_pushed old p =
    spread (kind_letter p.kind ∷ []) (width_digit p.width ∷ []) (decimal p.var)
  where
    spread : (a b c : List ℕ) → old ++ codes " " ++ a ++ b ++ codes ":" ++ c ≡ old ++ codes " " ++ (a ++ (b ++ (codes ":" ++ c)))
    spread a b c = simp append_assoc

pub standing_pushed : (old : List ℕ) (s : Standing)
    → old ++ codes " " ++ decimal s.variable ++ codes "=" ++ place_text s.place ≡ old ++ codes " " ++ standing_word s
standing_pushed old s = spread (decimal s.variable) (place_text s.place)
  where
    spread : (a b : List ℕ) → old ++ codes " " ++ a ++ codes "=" ++ b ≡ old ++ codes " " ++ (a ++ (codes "=" ++ b))
    spread a b = simp append_assoc

pub block_pushed : (old : List ℕ) (n : ℕ) → old ++ codes "block" ++ each_spaced (decimal n ∷ []) ++ newline ∷ []
    ≡ old ++ line_text (BlockLine n)
block_pushed old n = line-made old (codes "block") (each_spaced (decimal n ∷ []))

pub spilled_pushed : (old xs : List ℕ) → old ++ codes "spilled" ++ flat_map argument_text xs ++ newline ∷ []
    ≡ old ++ line_text (SpilledLine xs)
spilled_pushed old xs =
    line-made old (codes "spilled") (flat_map argument_text xs)
    ∙ ap (λ (t : List ℕ). old ++ ((codes "spilled" ++ t) ++ newline ∷ [])) (numbers-spaced xs)

pub before_pushed : (old : List ℕ) (ss : List Standing)
    → old ++ codes "before" ++ flat_map (λ s. codes " " ++ standing_word s) ss ++ newline ∷ []
    ≡ old ++ line_text (BeforeLine ss)
before_pushed old ss =
    line-made old (codes "before") (flat_map (λ s. codes " " ++ standing_word s) ss)
    ∙ ap (λ (t : List ℕ). old ++ ((codes "before" ++ t) ++ newline ∷ [])) (each-word standing_word ss)

pub after_pushed : (old : List ℕ) (ss : List Standing)
    → old ++ codes "after" ++ flat_map (λ s. codes " " ++ standing_word s) ss ++ newline ∷ []
    ≡ old ++ line_text (AfterLine ss)
after_pushed old ss =
    line-made old (codes "after") (flat_map (λ s. codes " " ++ standing_word s) ss)
    ∙ ap (λ (t : List ℕ). old ++ ((codes "after" ++ t) ++ newline ∷ [])) (each-word standing_word ss)

pub board_pushed : (old : List ℕ) (areas : List Area) (pieces : List Piece)
    → old ++ codes "board" ++ flat_map (λ a. codes " " ++ area_word a) areas ++ codes " pieces"
    ++ flat_map (λ p. codes " " ++ piece_word p) pieces ++ newline ∷ []
    ≡ old ++ line_text (BoardLine areas pieces)
board_pushed old areas pieces =
    ap
    (λ (t : List ℕ).
    old ++ codes "board" ++ t ++ codes " pieces" ++ flat_map (λ p. codes " " ++ piece_word p) pieces ++ newline ∷ [])
    (each-word area_word areas)
    ∙ ap
    (λ (t : List ℕ). old ++ codes "board" ++ each_spaced (map area_word areas) ++ codes " pieces" ++ t ++ newline ∷ [])
    (each-word piece_word pieces)
    ∙ spread (each_spaced (map area_word areas)) (each_spaced (map piece_word pieces))
    ∙ ap (λ (t : List ℕ). old ++ ((codes "board" ++ t) ++ newline ∷ []))
    (sym (each-append (map area_word areas) (codes "pieces" ∷ map piece_word pieces)))
  where
    spread : (a b : List ℕ) → old ++ codes "board" ++ a ++ codes " pieces" ++ b ++ newline ∷ []
        ≡ old ++ ((codes "board" ++ (a ++ (space ∷ (codes "pieces" ++ b)))) ++ newline ∷ [])
    spread a b = simp append_assoc

pub point_pushed : (old : List ℕ) (n a : ℕ) (o : Op)
    → old ++ codes "point" ++ each_spaced (decimal n ∷ []) ++ each_spaced (address_text a ∷ [])
    ++ each_spaced (op_words o) ++ newline ∷ []
    ≡ old ++ line_text (PointLine n a o)
point_pushed old n a o =
    ap (λ (t : List ℕ). t ++ newline ∷ [])
    (ap (λ (t : List ℕ). t ++ each_spaced (op_words o))
    (more-pushed (old ++ codes "point") (decimal n ∷ []) (address_text a ∷ []))
    ∙ more-pushed (old ++ codes "point") (decimal n ∷ address_text a ∷ []) (op_words o))
    ∙ line-made old (codes "point") (each_spaced (decimal n ∷ address_text a ∷ op_words o))

-- The board of a text: where a text is no board's, and what the board has.
use Rattle.std.proofs.Common.{ℕ, zero, suc, ◌≡◌, ◌≢◌, ◌<◌, ◌≤◌, ◌+◌, ◌-◌, Bool, true, false, List, [], ◌∷◌, ◌++◌}
use Rattle.std.proofs.Common.{length, take, drop, map, codes, eqb, get_or, refl, sym, ap, arith, ◌∙◌, add-one}
use Rattle.std.specs.List.{starts_with}
use Rattle.std.proofs.lemmas.Bool.{eqb-true}
use Rattle.std.proofs.lemmas.Bool.Decides.{Decides-eqb}
use Rattle.std.proofs.lemmas.List.{length-append, length-drop, length-map, take_all}
use Rattle.std.proofs.lemmas.Slice.Eq.{starts_is}
use Rattle.pcc_base.specs.Ascii.{newline}
use Rattle.pcc_base.specs.declared.run.Width.{Width}
use Rattle.puzzle_board.specs.declared.area.Area.{Area}
use Rattle.puzzle_board.specs.declared.piece.Kind.{Kind}
use Rattle.puzzle_board.specs.declared.piece.Piece.{Piece}
use Rattle.puzzle_board.specs.declared.piece.State.{State}
use Rattle.puzzle_board.specs.declared.piece.State.TheVariants.{Unplaced}
use Rattle.puzzle_board.specs.Boards.{Puzzle, with_piece}
use Rattle.puzzle_solver.specs.Texts.{area_word, spaced}
use Rattle.puzzle_solver.specs.Reading.{IsNoBoard, IsReadAs, area_of, fresh_board, is_newline, pieces_from, shape_of}
use Rattle.puzzle_solver.specs.Reading.{shape_word, shapes_text, words_read}
use Rattle.puzzle_solver.proofs.Read.{first-line, numbered-from, parts-are, shapes-of, shapes-read, words-from}
use Rattle.puzzle_solver.proofs.Lines.{one-on}

-- what is behind the first so many bytes
rest-of : (xs : List ℕ) (n : ℕ) → take (length xs - n) (drop n xs) ≡ drop n xs
rest-of xs n = take_all (length xs - n) (drop n xs) (omega (arith, length-drop n xs))

clash : (r : Bool) → r ≡ true → r ≡ false → ⊥
clash r e d = absurd (cc)

-- a text with another second line is no board's
pub no-second :
    (text middle : List ℕ) (q r : Bool) → q ≡ starts_with eqb text (codes "areas") → q ≡ true
    → middle ≡ (words_read area_of (take (length text - 5) (drop 5 text))).1
    → r ≡ starts_with eqb middle (newline ∷ codes "pieces") → r ≡ false → (areas : List Area)
    (shapes : List (Kind × Width)) → text ≢ shapes_text areas shapes
no-second text middle q r first begins middle_is second fails areas shapes e =
    let front : text ≡ codes "areas" ++ drop 5 text = (starts_is Decides-eqb text (codes "areas") q first).0 begins in
    let behind = first-line (drop 5 text) areas shapes (sym front ∙ e) in
    let rest : List ℕ = spaced (map shape_word shapes) ++ newline ∷ [] in
    let is : middle ≡ (newline ∷ codes "pieces") ++ rest =
    middle_is
    ∙ (ap (λ (t : List ℕ). (words_read area_of t).1) (rest-of text 5) ∙ ap (λ (w : List Area × List ℕ). w.1) behind) in
    clash r ((starts_is Decides-eqb middle (newline ∷ codes "pieces") r second).1 rest is) fails

-- nor is one with more behind it
pub no-end :
    (text middle end : List ℕ) (q r : Bool) → q ≡ starts_with eqb text (codes "areas") → q ≡ true
    → middle ≡ (words_read area_of (take (length text - 5) (drop 5 text))).1
    → end ≡ (words_read shape_of (take (length middle - 7) (drop 7 middle))).1
    → r ≡ is_newline end → r ≡ false → (areas : List Area) (shapes : List (Kind × Width))
    → text ≢ shapes_text areas shapes
no-end text middle end q r first begins middle_is end_is is_line fails areas shapes e =
    let front : text ≡ codes "areas" ++ drop 5 text = (starts_is Decides-eqb text (codes "areas") q first).0 begins in
    let behind = first-line (drop 5 text) areas shapes (sym front ∙ e) in
    let rest : List ℕ = spaced (map shape_word shapes) ++ newline ∷ [] in
    let is : middle ≡ (newline ∷ codes "pieces") ++ rest =
    middle_is
    ∙ (ap (λ (t : List ℕ). (words_read area_of t).1) (rest-of text 5) ∙ ap (λ (w : List Area × List ℕ). w.1) behind) in
    let line : drop 7 middle ≡ rest = ap (λ (t : List ℕ). drop 7 t) is in
    let last : end ≡ newline ∷ [] =
    end_is
    ∙ (ap (λ (t : List ℕ). (words_read shape_of t).1) (rest-of middle 7 ∙ line)
    ∙ ap (λ (w : List (Kind × Width) × List ℕ). w.1) (shapes-read shapes [])) in
    clash r (is_line ∙ ap is_newline last) fails

newline-is : (text : List ℕ) → is_newline text ≡ true → text ≡ newline ∷ []
newline-is [] e = absurd (cc)
newline-is (b ∷ []) e = ap (λ n. n ∷ []) (eqb-true b newline e)
newline-is (b ∷ c ∷ rest) e = absurd (cc)

-- the parts of a text of two lines
pub two-lines :
    (text middle end : List ℕ) (areas : List Area) (shapes : List (Kind × Width)) (q r t : Bool)
    → q ≡ starts_with eqb text (codes "areas") → q ≡ true
    → areas ≡ (words_read area_of (take (length text - 5) (drop 5 text))).0
    → middle ≡ (words_read area_of (take (length text - 5) (drop 5 text))).1
    → r ≡ starts_with eqb middle (newline ∷ codes "pieces") → r ≡ true
    → shapes ≡ (words_read shape_of (take (length middle - 7) (drop 7 middle))).0
    → end ≡ (words_read shape_of (take (length middle - 7) (drop 7 middle))).1
    → t ≡ is_newline end → t ≡ true → text ≡ shapes_text areas shapes
two-lines text middle end areas shapes q r t first begins areas_are middle_is second goes shapes_are end_is is_line
    ends =
    let front : text ≡ codes "areas" ++ drop 5 text = (starts_is Decides-eqb text (codes "areas") q first).0 begins in
    let line : middle ≡ newline ∷ (codes "pieces" ++ drop 7 middle) =
    (starts_is Decides-eqb middle (newline ∷ codes "pieces") r second).0 goes in
    parts-are text (drop 5 text) (drop 7 middle) [] areas shapes front
    (areas_are ∙ ap (λ (s : List ℕ). (words_read area_of s).0) (rest-of text 5))
    (sym (middle_is ∙ ap (λ (s : List ℕ). (words_read area_of s).1) (rest-of text 5)) ∙ line)
    (shapes_are ∙ ap (λ (s : List ℕ). (words_read shape_of s).0) (rest-of middle 7))
    (sym (end_is ∙ ap (λ (s : List ℕ). (words_read shape_of s).1) (rest-of middle 7))
    ∙ newline-is end (sym is_line ∙ ends))

-- ---- boards

-- a text that has no two lines of words is no board's
pub no-board :
    (text : List ℕ) → ((areas : List Area) (shapes : List (Kind × Width)) → text ≢ shapes_text areas shapes)
    → IsNoBoard text
no-board text none areas pieces numbered e =
    none areas (map (λ (p : Piece). let s : Kind × Width = (p.kind, p.width) in s) pieces)
    (e ∙ ap (λ (ws : List (List ℕ)). codes "areas" ++ (spaced (map area_word areas) ++ newline ∷ (codes "pieces"
    ++ (spaced ws ++ newline ∷ [])))) (shapes-of pieces))

pub read-as :
    (text : List ℕ) (board : Puzzle) (areas : List Area) (shapes : List (Kind × Width))
    → text ≡ shapes_text areas shapes → board ≡ fresh_board areas (pieces_from 0 shapes) → IsReadAs text board
read-as text board areas shapes text_is is =
    rw is (record {
      numbered = numbered-from 0 shapes;
      text_is = text_is
          ∙ ap (λ (ws : List (List ℕ)). codes "areas" ++ (spaced (map area_word areas) ++ newline ∷ (codes "pieces"
          ++ (spaced ws ++ newline ∷ [])))) (sym (words-from 0 shapes));
      fresh = refl;
    })

long-spaced : (words : List (List ℕ)) → length words ≤ length (spaced words)
long-spaced [] = omega arith
long-spaced (w ∷ words) = omega (arith, long-spaced words, length-append w (spaced words))

-- a text has at least as many bytes as the board has areas, or pieces
pub few-areas :
    (text : List ℕ) (areas : List Area) (shapes : List (Kind × Width)) → text ≡ shapes_text areas shapes
    → length areas ≤ length text
few-areas text areas shapes e =
    let rest : List ℕ = newline ∷ (codes "pieces" ++ (spaced (map shape_word shapes) ++ newline ∷ [])) in
    omega (
      arith,
      ap length e,
      length-append (spaced (map area_word areas)) rest,
      long-spaced (map area_word areas),
      length-map areas area_word,
    )

pub few-shapes :
    (text : List ℕ) (areas : List Area) (shapes : List (Kind × Width)) → text ≡ shapes_text areas shapes
    → length shapes ≤ length text
few-shapes text areas shapes e =
    let rest : List ℕ = newline ∷ (codes "pieces" ++ (spaced (map shape_word shapes) ++ newline ∷ [])) in
    let end : List ℕ = newline ∷ [] in
    omega (
      arith,
      ap length e,
      length-append (spaced (map area_word areas)) rest,
      length-append (spaced (map shape_word shapes)) end,
      long-spaced (map shape_word shapes),
      length-map shapes shape_word,
    )

-- ---- pieces one after another

pub length-from :
    (n : ℕ) (shapes : List (Kind × Width)) (i : ℕ) → i ≤ length shapes → length (pieces_from n (take i shapes)) ≡ i
length-from n shapes zero h = refl
length-from n [] (suc i) h = absurd (omega arith)
length-from n (s ∷ shapes) (suc i) h = ap suc (length-from (suc n) shapes i (omega arith))

none-less : (i : ℕ) → i ≡ 0 + i
none-less i = omega arith

no-more : (n : ℕ) → n ≡ n + zero
no-more n = omega arith

abbrev pub piece-of-shape : Kind × Width → ℕ → Piece
piece-of-shape s n = record { kind = s.0; width = s.1; var = n }

from-more :
    (n : ℕ) (shapes : List (Kind × Width)) (i : ℕ) (d : Kind × Width) → i < length shapes
    → pieces_from n (take (suc i) shapes)
    ≡ pieces_from n (take i shapes) ++ piece-of-shape (get_or shapes i d) (n + i) ∷ []
from-more n [] i d h = absurd (omega arith)
from-more n (s ∷ shapes) zero d h = ap (λ m. piece-of-shape s m ∷ []) (no-more n)
from-more n (s ∷ shapes) (suc i) d h =
    ap (λ more. piece-of-shape s n ∷ more) (from-more (suc n) shapes i d (omega arith)
    ∙ ap (λ m. pieces_from (suc n) (take i shapes) ++ piece-of-shape (get_or shapes i d) m ∷ []) (one-on n i))

fresh-states :
    (pieces : List Piece) (p : Piece)
    → map (λ (q : Piece). Unplaced) pieces ++ Unplaced ∷ [] ≡ map (λ (q : Piece). Unplaced) (pieces ++ p ∷ [])
fresh-states [] p = refl
fresh-states (q ∷ pieces) p = ap (λ (more : List State). Unplaced ∷ more) (fresh-states pieces p)

fresh-with :
    (areas : List Area) (pieces : List Piece) (p : Piece)
    → with_piece (fresh_board areas pieces) p ≡ fresh_board areas (pieces ++ p ∷ [])
fresh-with areas pieces p =
    ap (λ (states : List State).
    let b : Puzzle = record { areas = areas; pieces = pieces ++ p ∷ []; states = states } in b)
    (fresh-states pieces p)

-- one piece more is added
pub fresh-more :
    (areas : List Area) (shapes : List (Kind × Width)) (i : ℕ) (d : Kind × Width) (board new : Puzzle) (p : Piece)
    → i < length shapes → board ≡ fresh_board areas (pieces_from 0 (take i shapes)) → new ≡ with_piece board p
    → p ≡ piece-of-shape (get_or shapes i d) i → new ≡ fresh_board areas (pieces_from 0 (take (i + 1) shapes))
fresh-more areas shapes i d board new p within so_far is piece =
    is
    ∙ (ap (λ (b : Puzzle). with_piece b p) so_far
    ∙ (ap (λ (q : Piece). with_piece (fresh_board areas (pieces_from 0 (take i shapes))) q) piece
    ∙ (fresh-with areas (pieces_from 0 (take i shapes)) (piece-of-shape (get_or shapes i d) i)
    ∙ ap (λ (ps : List Piece). fresh_board areas ps) (rw add-one
    (ap (λ m. pieces_from 0 (take i shapes) ++ piece-of-shape (get_or shapes i d) m ∷ []) (none-less i)
    ∙ sym (from-more 0 shapes i d within))))))

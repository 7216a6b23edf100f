-- The text of points and blocks.
use Rattle.std.proofs.Common.{◌≡◌, ◌<◌, ℕ, zero, suc, List, [], ◌∷◌, ◌++◌, get_or, length, Some, inl, inr, refl, sym, ap}
use Rattle.std.proofs.Common.{◌∙◌, arith, append_assoc}
use Rattle.std.specs.Prelude.{option_map, slice_get, slice_index_or}
use Rattle.std.specs.List.{flat_map}
use Rattle.std.proofs.lemmas.List.{append-nil}
use Rattle.std.proofs.lemmas.Option.{get_or_from_slice_get, same_Some}
use Rattle.flow_graph.specs.declared.op.Op.{Op}
use Rattle.flow_graph.specs.declared.op.Op.TheVariants.{Turn}
use Rattle.flow_graph.specs.Graphs.{Flow, IsIn}
use Rattle.puzzle_board.specs.declared.area.Area.{Area}
use Rattle.puzzle_board.specs.declared.piece.Piece.{Piece}
use Rattle.puzzle_board.specs.Places.{Entry, entries_at, spilled_at}
use Rattle.allocator.specs.PointBoards.{areas_of, point_pieces}
use Rattle.allocator.specs.PointPuzzles.{pieces_at}
use Rattle.map_text.specs.Entries.{standings_of}
use Rattle.map_text.specs.Maps.{MapPoint}
use Rattle.map_text.specs.Words.{AfterLine, BeforeLine, BlockLine, BoardLine, Line, PointLine, SpilledLine}
use Rattle.map_text.specs.Words.{block_lines, point_lines}
use Rattle.map_lines.specs.MapOf.{Home, point_over}

-- five texts, one behind the other
five-put : (old a b c d e one two three four five : List ℕ) → one ≡ old ++ a → two ≡ one ++ b → three ≡ two ++ c
    → four ≡ three ++ d → five ≡ four ++ e → five ≡ old ++ (a ++ (b ++ (c ++ (d ++ (e ++ [])))))
five-put old a b c d e one two three four five is-one is-two is-three is-four is-five =
    is-five
    ∙ ap (λ (t : List ℕ). t ++ e) (is-four
    ∙ ap (λ (t : List ℕ). t ++ d) (is-three
    ∙ ap (λ (t : List ℕ). t ++ c) (is-two
    ∙ ap (λ (t : List ℕ). t ++ b) is-one)))
    ∙ joined
  where
    joined : ((((old ++ a) ++ b) ++ c) ++ d) ++ e ≡ old ++ (a ++ (b ++ (c ++ (d ++ (e ++ [])))))
    joined = simp (append_assoc, append-nil)

-- the lines of a point: its op, its board, and where variables stand
pub point-put : (text : Line → List ℕ) (flow : Flow) (home : Home) (address : ℕ → ℕ) (p : ℕ) (op : Op)
    (areas : List Area) (pieces : List Piece) (before after : List Entry) (spilled : List ℕ)
    (old one two three four five : List ℕ)
    → slice_get flow.ops p ≡ Some op → areas ≡ areas_of op → pieces_at flow home.lives p ≡ Some pieces
    → before ≡ entries_at home.places.before p → after ≡ entries_at home.places.after p
    → spilled ≡ spilled_at home.places p
    → one ≡ old ++ text (PointLine p (address p) op) → two ≡ one ++ text (BoardLine areas pieces)
    → three ≡ two ++ text (BeforeLine (standings_of before)) → four ≡ three ++ text (AfterLine (standings_of after))
    → five ≡ four ++ text (SpilledLine spilled)
    → five ≡ old ++ flat_map text (point_lines (point_over flow home address p (slice_index_or flow.ops p Turn)))
point-put text flow home address p op areas pieces before after spilled old one two three four five at same-areas made
    same-before same-after same-spilled is-one is-two is-three is-four is-five =
    let found : slice_index_or flow.ops p Turn ≡ op = get_or_from_slice_get flow.ops p op Turn at in
    let same-pieces : pieces ≡ point_pieces flow home.lives p op =
    same_Some pieces (point_pieces flow home.lives p op)
    (sym made ∙ ap (option_map (point_pieces flow home.lives p)) at) in
    five-put old (text (PointLine p (address p) op)) (text (BoardLine (areas_of op) (point_pieces flow home.lives p op)))
    (text (BeforeLine (standings_of (entries_at home.places.before p))))
    (text (AfterLine (standings_of (entries_at home.places.after p)))) (text (SpilledLine (spilled_at home.places p)))
    one two three four five is-one
    (is-two ∙ ap (λ (xs : List Area). one ++ text (BoardLine xs pieces)) same-areas
    ∙ ap (λ (ps : List Piece). one ++ text (BoardLine (areas_of op) ps)) same-pieces)
    (is-three ∙ ap (λ (es : List Entry). two ++ text (BeforeLine (standings_of es))) same-before)
    (is-four ∙ ap (λ (es : List Entry). three ++ text (AfterLine (standings_of es))) same-after)
    (is-five ∙ ap (λ (vs : List ℕ). four ++ text (SpilledLine vs)) same-spilled)
    ∙ ap (λ (o : Op). old ++ flat_map text (point_lines (point_over flow home address p o))) (sym found)

-- a block's line, and then those of its points
pub block-put : (text : Line → List ℕ) (k : ℕ) (points : List MapPoint) (old one new : List ℕ)
    → one ≡ old ++ text (BlockLine k) → new ≡ one ++ flat_map text (flat_map point_lines points)
    → new ≡ old ++ flat_map text (block_lines k points)
block-put text k points old one new is-one is-new =
    is-new ∙ ap (λ (t : List ℕ). t ++ flat_map text (flat_map point_lines points)) is-one
    ∙ append_assoc old (text (BlockLine k)) (flat_map text (flat_map point_lines points))

-- an element of a list is in it
pub is-member : (xs : List ℕ) (i d : ℕ) → i < length xs → IsIn (get_or xs i d) xs
is-member [] i d h = absurd (omega (arith, h))
is-member (x ∷ xs) zero d h = inl refl
is-member (x ∷ xs) (suc i) d h = inr (is-member xs i d (omega (arith, h)))

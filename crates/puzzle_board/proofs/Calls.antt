-- What is kept of a board after each call.
use Rattle.std.proofs.Common.{ℕ, ◌≡◌, ◌≢◌, ◌<◌, ◌≤◌, ◌++◌, ◌∷◌, [], Bool, true, IsTrue, List, length, map, slice_set}
use Rattle.std.proofs.Common.{slice_get, slice_index_or, Some, None, Option, refl, sym, ap, ◌∙◌, subst, arith}
use Rattle.std.specs.List.{AllByRecursion}
use Rattle.std.proofs.lemmas.List.Sorted.{IsNonDecreasingBy-short}
use Rattle.std.specs.Option.{MatchOption}
use Rattle.pcc_base.specs.declared.run.Width.{Width}
use Rattle.index_lists.specs.Lists.{Lists, empty_lists, nodes_of, with_nodes}
use Rattle.puzzle_board.specs.declared.area.Area.{Area}
use Rattle.puzzle_board.specs.declared.area.AreaKind.{AreaKind}
use Rattle.puzzle_board.specs.declared.piece.Kind.{Kind}
use Rattle.puzzle_board.specs.declared.piece.Piece.{Piece}
use Rattle.puzzle_board.specs.declared.piece.Spot.{Spot}
use Rattle.puzzle_board.specs.Areas.{cleared, kind_of, place_of_kind}
use Rattle.puzzle_board.specs.Boards.{Puzzle, IsPlaceable, board_of, standing, with_none_placed, with_piece}
use Rattle.puzzle_board.specs.Boards.{with_spot, without_variable, IsAreaOf, IsUnplacedOf}
use Rattle.puzzle_board.specs.Boards.{area_count, areas_of_kind, free_areas}
use Rattle.puzzle_board.specs.Boards.{piece_count}
use Rattle.puzzle_board.specs.Classes.{IsFiled, class_count}
use Rattle.puzzle_board.specs.Stored.{IsAscending, IsStored, area_classes, piece_classes, place_of_piece}
use Rattle.puzzle_board.proofs.Kept.{kept-lifted, kept-piece, kept-placed, kept-removed}
use Rattle.puzzle_board.proofs.Stored.{area-of, count-areas, count-pieces, filed-empty, first-of, length-of, none-of}
use Rattle.puzzle_board.proofs.Stored.{piece-of}

pub stored-new :
    (areas : List Area) (by_kind waiting : Lists) → length areas ≤ 0xffffffff
    → IsFiled by_kind 10 (area_classes areas) → waiting ≡ empty_lists 0 6
    → IsStored (board_of areas) areas by_kind waiting true
stored-new areas by_kind waiting few filed empty = record {
  kept = record {
    kept = record { states = refl; legal = tt; few_areas = few; few_pieces = omega arith };
    left = refl;
  };
  areas = filed;
  pieces = rw empty (filed-empty 0 6);
  nodes = ap (λ (l : Lists). l.nodes) empty;
  ascending = λ h. IsNonDecreasingBy-short (λ (p : Piece). p.var) [] (omega arith);
}

pub stored-piece :
    (board : Puzzle) (free : List Area) (by_kind waiting more : Lists) (rises stays : Bool) (p : Piece)
    → IsStored board free by_kind waiting rises → length board.pieces < 0xffffffff
    → IsFiled more 6 (piece_classes (with_piece board p).pieces (with_piece board p).states)
    → more.nodes ≡ length (board.pieces ++ p ∷ []) → (IsTrue stays → IsAscending (board.pieces ++ p ∷ []))
    → IsStored (with_piece board p) free by_kind more stays
stored-piece board free by_kind waiting more rises stays p s room filed nodes up = record {
  kept = kept-piece board free p s.kept room;
  areas = s.areas;
  pieces = filed;
  nodes = nodes;
  ascending = up;
}

pub stored-removed :
    (board : Puzzle) (free : List Area) (by_kind waiting less : Lists) (rises : Bool) (v : ℕ)
    → IsStored board free by_kind waiting rises → AllByRecursion (λ s. s.piece.var ≢ v) (standing board)
    → IsFiled less 6 (piece_classes board.pieces (without_variable board v).states)
    → less.nodes ≡ waiting.nodes → IsStored (without_variable board v) free by_kind less rises
stored-removed board free by_kind waiting less rises v s others filed nodes = record {
  kept = kept-removed board free v s.kept others;
  areas = s.areas;
  pieces = filed;
  nodes = nodes ∙ s.nodes;
  ascending = s.ascending;
}

pub stored-lifted :
    (board : Puzzle) (free : List Area) (by_kind waiting kinds more : Lists) (rises : Bool)
    → IsStored board free by_kind waiting rises → IsFiled kinds 10 (area_classes board.areas)
    → IsFiled more 6 (piece_classes board.pieces (with_none_placed board).states)
    → more.nodes ≡ waiting.nodes → IsStored (with_none_placed board) board.areas kinds more rises
stored-lifted board free by_kind waiting kinds more rises s areas filed nodes = record {
  kept = kept-lifted board free s.kept;
  areas = areas;
  pieces = filed;
  nodes = nodes ∙ s.nodes;
  ascending = s.ascending;
}

pub stored-placed :
    (board : Puzzle) (free : List Area) (by_kind waiting kinds less : Lists) (rises : Bool) (number : ℕ) (spot : Spot)
    (read : Piece) (a : Area) → IsStored board free by_kind waiting rises → IsPlaceable board number spot
    → read ≡ slice_index_or board.pieces number read → a ≡ slice_index_or free spot.area a
    → IsFiled kinds 10 (area_classes (slice_set free spot.area (cleared a read.kind spot.columns)))
    → IsFiled less 6 (piece_classes board.pieces (with_spot board number spot).states)
    → less.nodes ≡ waiting.nodes
    → IsStored (with_spot board number spot) (slice_set free spot.area (cleared a read.kind spot.columns)) kinds less
    rises
stored-placed board free by_kind waiting kinds less rises number spot read a s asked read-is a-is areas filed nodes =
    record {
      kept = kept-placed board free number spot read a s.kept asked read-is a-is;
      areas = areas;
      pieces = filed;
      nodes = nodes ∙ s.nodes;
      ascending = s.ascending;
    }

-- more nodes, in no list
pub filed-grown :
    (s : Lists) (many : ℕ) (classes : List (Option ℕ)) (n : ℕ) → IsFiled s many classes → s.nodes ≤ n
    → IsFiled (with_nodes s n) many classes
filed-grown s many classes n f room = record {
  as_many = f.as_many;
  room = omega (arith, f.room, room);
  listed = f.listed;
  only = f.only;
  counted = f.counted;
}

-- ---- what is read

areas-counted :
    (board now : Puzzle) (free : List Area) (by_kind waiting : Lists) (rises : Bool) (k : AreaKind) (l : ℕ)
    → IsStored board free by_kind waiting rises → board ≡ now → l ≡ place_of_kind k
    → class_count (area_classes free) l ≡ area_count now k
areas-counted board now free by_kind waiting rises k l s same is =
    ap (class_count (area_classes free)) is
    ∙ (count-areas free k
    ∙ (ap (λ (areas : List Area). areas_of_kind areas k) s.kept.left ∙ ap (λ (b : Puzzle). area_count b k) same))

-- the length of a kind's list
pub counted-areas :
    (board now : Puzzle) (free : List Area) (by_kind waiting : Lists) (rises : Bool) (k : AreaKind) (l n : ℕ)
    → IsStored board free by_kind waiting rises → board ≡ now → l ≡ place_of_kind k → l < 10
    → n ≡ length (nodes_of by_kind l) → n ≡ area_count now k
counted-areas board now free by_kind waiting rises k l n s same is few found =
    found
    ∙ (length-of by_kind 10 (area_classes free) l s.areas few
    ∙ areas-counted board now free by_kind waiting rises k l s same is)

-- the first of a kind's list
pub found-area :
    (board now : Puzzle) (free : List Area) (by_kind waiting : Lists) (rises : Bool) (k : AreaKind) (l : ℕ)
    (result : Option ℕ) → IsStored board free by_kind waiting rises → board ≡ now → l ≡ place_of_kind k → l < 10
    → result ≡ slice_get (nodes_of by_kind l) 0
    → MatchOption result (area_count now k ≡ 0) (λ area. IsAreaOf now k area)
found-area board now free by_kind waiting rises k l None s same is few found =
    sym (areas-counted board now free by_kind waiting rises k l s same is)
    ∙ none-of by_kind 10 (area_classes free) l s.areas few (sym found)
found-area board now free by_kind waiting rises k l (Some area) s same is few found =
    subst (λ (areas : List Area). slice_get (map kind_of areas) area ≡ Some k)
    (s.kept.left ∙ ap free_areas same)
    (area-of free area k (first-of by_kind 10 (area_classes free) l area s.areas few (sym found) ∙ ap Some is))

pieces-counted :
    (board now : Puzzle) (k : Kind) (w : Width) (l : ℕ) → board ≡ now → l ≡ place_of_piece k w
    → class_count (piece_classes board.pieces board.states) l ≡ piece_count now k w
pieces-counted board now k w l same is =
    ap (class_count (piece_classes board.pieces board.states)) is
    ∙ (count-pieces board.pieces board.states k w ∙ ap (λ (b : Puzzle). piece_count b k w) same)

pub counted-pieces :
    (board now : Puzzle) (waiting : Lists) (k : Kind) (w : Width) (l n : ℕ)
    → IsFiled waiting 6 (piece_classes board.pieces board.states) → board ≡ now → l ≡ place_of_piece k w → l < 6
    → n ≡ length (nodes_of waiting l) → n ≡ piece_count now k w
counted-pieces board now waiting k w l n f same is few found =
    found
    ∙ (length-of waiting 6 (piece_classes board.pieces board.states) l f few ∙ pieces-counted board now k w l same is)

pub found-piece :
    (board now : Puzzle) (waiting : Lists) (k : Kind) (w : Width) (l : ℕ) (result : Option ℕ)
    → IsFiled waiting 6 (piece_classes board.pieces board.states) → board ≡ now → l ≡ place_of_piece k w → l < 6
    → result ≡ slice_get (nodes_of waiting l) 0
    → MatchOption result (piece_count now k w ≡ 0) (λ piece. IsUnplacedOf now k w piece)
found-piece board now waiting k w l None f same is few found =
    sym (pieces-counted board now k w l same is)
    ∙ none-of waiting 6 (piece_classes board.pieces board.states) l f few (sym found)
found-piece board now waiting k w l (Some piece) f same is few found =
    subst (λ (b : Puzzle). IsUnplacedOf b k w piece) same
    (piece-of board.pieces board.states piece k w
    (first-of waiting 6 (piece_classes board.pieces board.states) l piece f few (sym found) ∙ ap Some is))

use Rattle.std.proofs.Common.{◌≡◌, ◌++◌, codes, flat_map, take}
use Rattle.map_text.specs.Words.{piece_word}
use Rattle.map_text.proofs.point_lines.push_pieces.Given as goal

-- the pieces so far are there
abbrev pub invariant-loop-piece : goal.invariant-loop-piece
invariant-loop-piece l = l.out.items ≡ l.initial.out.items
    ++ flat_map (λ p. codes " " ++ piece_word p) (take l.piece-index l.pieces)

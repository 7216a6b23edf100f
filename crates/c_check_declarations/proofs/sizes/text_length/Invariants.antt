-- The length of the literals so far.
use Rattle.std.proofs.Common.{◌≡◌, length, flat_map, take}
use Rattle.c_syntax.specs.declared.expression.TextPiece.{TextPiece}
use Rattle.c_check_declarations.proofs.sizes.text_length.Given as goal

abbrev pub invariant-loop-piece : goal.invariant-loop-piece
invariant-loop-piece l = l.length ≡ length (flat_map (λ (p : TextPiece). p.bytes) (take l.piece-index l.pieces))

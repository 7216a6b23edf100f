-- The values of the literals so far.
use Rattle.std.proofs.Common.{◌≡◌, pos, map, flat_map, take}
use Rattle.c_tree.specs.Store.{converted}
use Rattle.c_tree.specs.declared.types.IntegerType.TheVariants.{Char}
use Rattle.c_syntax.specs.declared.expression.TextPiece.{TextPiece}
use Rattle.c_check_expressions.proofs.texts.text_values.Given as goal

abbrev pub invariant-loop-piece : goal.invariant-loop-piece
invariant-loop-piece l = l.values.items ≡ map (λ byte. converted Char (pos byte))
    (flat_map (λ (p : TextPiece). p.bytes) (take l.piece-index l.pieces))

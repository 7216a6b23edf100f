use Rattle.std.proofs.Common.{◌≡◌, ◌+◌, length, take, drop}
use Rattle.c_eval_state.specs.Spans.{elements_of}
use Rattle.c_tree.specs.Evaluation.{text_then_zeros}
use Rattle.c_eval_state.proofs.arrays.write_piece.Given as goal

abbrev pub invariant-loop-i : goal.invariant-loop-i
invariant-loop-i l =
    (length l.elements ≡ length l.fn.elements)
    × (take l.span.start l.elements ≡ take l.span.start l.fn.elements)
    × (drop (l.span.start + l.span.count) l.elements ≡ drop (l.span.start + l.span.count) l.fn.elements)
    × (take l.i (drop l.span.start l.elements) ≡ take l.i (text_then_zeros (elements_of l.fn.elements l.span) l.text))

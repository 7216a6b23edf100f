use Rattle.std.proofs.Common.{ℕ, ◌≡◌, ◌<◌, ◌+◌, ◌++◌, ◌∷◌, ◌∙◌, [], IsTrue, List, ap, arith, length, rules, subst}
use Rattle.std.proofs.Common.{sym}
use Rattle.std.proofs.lemmas.List.{length_push}
use Rattle.index_lists.specs.Lists.{Lists, IsListed, with_nodes}
use Rattle.puzzle_board.specs.declared.piece.Piece.{Piece}
use Rattle.puzzle_board.specs.Boards.{Puzzle, standing}
use Rattle.puzzle_board.specs.Classes.{IsFiled}
use Rattle.puzzle_board.specs.Stored.{IsAscending, piece_classes}
use Rattle.puzzle_board.proofs.Calls.{filed-grown, stored-piece}
use Rattle.puzzle_board.proofs.Kept.{standing_in-more}
use Rattle.puzzle_board.proofs.Stored.{piece-new}
use Rattle.puzzle_board.proofs.board.Board.add_piece.Goals as goal

pub grow-requires : goal.grow-requires
grow-requires g c =
    let count : c.len-number.result ≡ length c.self.inside.pieces.items = search rules in
    omega (arith, count, c.self.invariant.nodes)

pub file_piece-requires-clause-in_none : goal.file_piece-requires-clause-in_none
file_piece-requires-clause-in_none g c h =
    let pieces = c.self.inside.pieces.items in
    let waiting : Lists = c.self.inside.waiting in
    let count : c.len-number.result ≡ length pieces = search rules in
    let grown : c.grow.new.self ≡ with_nodes waiting (c.len-number.result + 1) = c.in_ok-grow.ensures in
    let listed : IsListed waiting c.len-number.result =
    subst (λ (s : Lists). IsListed s c.len-number.result) grown h in
    piece-new waiting pieces c.self.inside.states.items c.self.invariant.kept.kept.states c.self.invariant.pieces
    (subst (λ (n : ℕ). IsListed waiting n) count listed)

pub invariant_of-self-2 : goal.invariant_of-self-2
invariant_of-self-2 g c =
    let pieces : List Piece = c.self.inside.pieces.items in
    let states = c.self.inside.states.items in
    let waiting : Lists = c.self.inside.waiting in
    let room = subst (λ (b : Puzzle). length b.pieces < 0xffffffff) (sym c.self.view_is) c.requires in
    let count : c.len-number.result ≡ length pieces = search rules in
    let grown : c.grow.new.self ≡ with_nodes waiting (c.len-number.result + 1) = c.in_ok-grow.ensures in
    let roomy : IsFiled c.grow.new.self 6 (piece_classes pieces states) =
    rw grown (filed-grown waiting 6 (piece_classes pieces states) (c.len-number.result + 1) c.self.invariant.pieces
    (omega (arith, count, c.self.invariant.nodes))) in
    let filed = c.file_piece.ensures.filed pieces states count c.self.invariant.kept.kept.states roomy in
    let nodes : c.file_piece.new.waiting.nodes ≡ length (pieces ++ c.args.piece ∷ []) =
    omega (
      arith,
      c.file_piece.ensures.nodes,
      ap (λ (s : Lists). s.nodes) grown,
      count,
      length_push pieces c.args.piece,
    ) in
    let read : c.deref.result.now ≡ pieces = search rules in
    let up = subst
    (λ (ps : List Piece). IsTrue c.stays_ascending-self-inside.result → IsAscending (ps ++ c.args.piece ∷ []))
    read
    c.stays_ascending-self-inside.ensures in
    rw (
      c.push_reserved.ensures.items,
      c.push_reserved-2.ensures.items,
      c.reserve.ensures.items,
      c.reserve-2.ensures.items,
    )
    (stored-piece _ _ _ _ c.file_piece.new.waiting _ c.stays_ascending-self-inside.result c.args.piece c.self.invariant
    room filed nodes up)

pub returns-clause-stands : goal.returns-clause-stands
returns-clause-stands g c =
    rw (
      c.push_reserved.ensures.items,
      c.push_reserved-2.ensures.items,
      c.reserve.ensures.items,
      c.reserve-2.ensures.items,
    )
    (standing_in-more c.self.inside.pieces.items c.self.inside.states.items c.args.piece
    c.self.invariant.kept.kept.states
    ∙ ap (λ (b : Puzzle). standing b) c.self.view_is)

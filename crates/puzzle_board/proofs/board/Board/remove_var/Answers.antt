use Rattle.std.proofs.Common.{◌≡◌, ◌≢◌, ◌∙◌, List, ap, length, subst, sym}
use Rattle.std.specs.List.{AllByRecursion}
use Rattle.puzzle_board.specs.declared.piece.Piece.{Piece}
use Rattle.puzzle_board.specs.declared.piece.State.{State}
use Rattle.puzzle_board.specs.Boards.{Puzzle, removed_in, standing}
use Rattle.puzzle_board.specs.Classes.{IsFiled}
use Rattle.puzzle_board.specs.Stored.{piece_classes}
use Rattle.puzzle_board.proofs.Calls.{stored-removed}
use Rattle.puzzle_board.proofs.Kept.{length-removed_in, standing_in-removed, take-front}
use Rattle.puzzle_board.proofs.board.Board.remove_var.Goals as goal

pub invariant_of-self : goal.invariant_of-self
invariant_of-self g c =
    let pieces : List Piece = c.self.inside.pieces.items in
    let states : List State = c.self.inside.states.items in
    let others = subst
    (λ (b : Puzzle). AllByRecursion (λ s. s.piece.var ≢ c.args.var) (standing b))
    (sym c.self.view_is)
    c.requires in
    let long = ap length c.remove_pieces.ensures.states
    ∙ (length-removed_in c.deref-2.result.now c.deref_mut.result.now c.args.var ∙ c.deref_mut.ensures.len) in
    let is : c.remove_pieces.new.states ≡ removed_in pieces states c.args.var =
    c.remove_pieces.ensures.states
    ∙ (ap (λ (ps : List Piece). removed_in ps c.deref_mut.result.now c.args.var) c.deref-2.ensures.value
    ∙ ap (λ (ss : List State). removed_in pieces ss c.args.var) c.deref_mut.ensures.value) in
    let filed : IsFiled c.remove_pieces.new.waiting 6 (piece_classes pieces (removed_in pieces states c.args.var)) =
    subst (λ (ss : List State). IsFiled c.remove_pieces.new.waiting 6 (piece_classes pieces ss)) is
    (subst (λ (ps : List Piece). IsFiled c.remove_pieces.new.waiting 6 (piece_classes ps c.remove_pieces.new.states))
    c.deref-2.ensures.value c.remove_pieces.ensures.filed) in
    rw (take-front c.remove_pieces.new.states _ _ long, is)
    (stored-removed _ _ _ _ c.remove_pieces.new.waiting _ c.args.var c.self.invariant others filed
    c.remove_pieces.ensures.nodes)

pub returns-clause-stands : goal.returns-clause-stands
returns-clause-stands g c =
    let others = subst
    (λ (b : Puzzle). AllByRecursion (λ s. s.piece.var ≢ c.args.var) (standing b))
    (sym c.self.view_is)
    c.requires in
    let long = ap length c.remove_pieces.ensures.states
    ∙ (length-removed_in c.deref-2.result.now c.deref_mut.result.now c.args.var ∙ c.deref_mut.ensures.len) in
    rw (
      take-front c.remove_pieces.new.states _ _ long,
      c.remove_pieces.ensures.states,
      c.deref-2.ensures.value,
      c.deref_mut.ensures.value,
    )
    (standing_in-removed c.self.inside.pieces.items c.self.inside.states.items c.args.var others
    ∙ ap (λ (b : Puzzle). standing b) c.self.view_is)

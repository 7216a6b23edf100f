use Rattle.std.proofs.Common.{◌≡◌, ◌∙◌, List, ap, arith, length, map, subst}
use Rattle.std.proofs.lemmas.List.{length-map}
use Rattle.puzzle_board.specs.declared.area.Area.{Area}
use Rattle.puzzle_board.specs.declared.piece.Piece.{Piece}
use Rattle.puzzle_board.specs.declared.piece.State.{State}
use Rattle.puzzle_board.specs.Boards.{lifted}
use Rattle.puzzle_board.specs.Classes.{IsFiled}
use Rattle.puzzle_board.specs.Stored.{area_classes, piece_classes}
use Rattle.puzzle_board.proofs.Calls.{stored-lifted}
use Rattle.puzzle_board.proofs.Kept.{kept-length, standing_in-lifted, take-front}
use Rattle.puzzle_board.proofs.board.Board.reset.Goals as goal

pub free_areas-requires-clause-same : goal.free_areas-requires-clause-same
free_areas-requires-clause-same g c =
    let same = kept-length _ _ c.self.invariant.kept in
    omega (arith, same, c.deref_mut-2.ensures.len, c.deref-2.ensures.len)

pub invariant_of-self : goal.invariant_of-self
invariant_of-self g c =
    let areas : List Area = c.self.inside.areas.items in
    let pieces : List Piece = c.self.inside.pieces.items in
    let states : List State = c.self.inside.states.items in
    let same = kept-length _ _ c.self.invariant.kept in
    let states_are : c.lift_pieces.new.states ≡ map lifted states =
    c.lift_pieces.ensures.states ∙ ap (map lifted) c.deref_mut.ensures.value in
    let areas_are : c.free_areas.new.free ≡ areas = c.free_areas.ensures.free ∙ c.deref-2.ensures.value in
    let long = ap length c.lift_pieces.ensures.states
    ∙ (length-map c.deref_mut.result.now lifted ∙ c.deref_mut.ensures.len) in
    let far : length c.free_areas.new.free ≡ c.self.inside.free.len =
    omega (arith, ap length c.free_areas.ensures.free, c.deref-2.ensures.len, same) in
    let filed : IsFiled c.lift_pieces.new.waiting 6 (piece_classes pieces (map lifted states)) =
    subst (λ (ss : List State). IsFiled c.lift_pieces.new.waiting 6 (piece_classes pieces ss)) states_are
    (subst (λ (ps : List Piece). IsFiled c.lift_pieces.new.waiting 6 (piece_classes ps c.lift_pieces.new.states))
    c.deref.ensures.value c.lift_pieces.ensures.filed) in
    let kinds : IsFiled c.free_areas.new.by_kind 10 (area_classes areas) =
    subst (λ (free : List Area). IsFiled c.free_areas.new.by_kind 10 (area_classes free)) areas_are
    c.free_areas.ensures.filed in
    rw (
      take-front c.lift_pieces.new.states _ _ long,
      take-front c.free_areas.new.free _ _ far,
      states_are,
      areas_are,
    )
    (stored-lifted _ _ _ _ c.free_areas.new.by_kind c.lift_pieces.new.waiting _ c.self.invariant kinds filed
    c.lift_pieces.ensures.nodes)

pub returns-clause-stands : goal.returns-clause-stands
returns-clause-stands g c =
    let long = ap length c.lift_pieces.ensures.states
    ∙ (length-map c.deref_mut.result.now lifted ∙ c.deref_mut.ensures.len) in
    rw (take-front c.lift_pieces.new.states _ _ long, c.lift_pieces.ensures.states, c.deref_mut.ensures.value)
    (standing_in-lifted c.self.inside.pieces.items c.self.inside.states.items)

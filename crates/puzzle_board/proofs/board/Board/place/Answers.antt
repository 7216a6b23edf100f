use Rattle.std.proofs.Common.{◌≡◌, ◌∙◌, List, ap, arith, length, length-set, slice_set, subst, sym}
use Rattle.std.proofs.lemmas.Option.{slice_get_within}
use Rattle.puzzle_board.specs.declared.area.Area.{Area}
use Rattle.puzzle_board.specs.declared.piece.Piece.{Piece}
use Rattle.puzzle_board.specs.declared.piece.State.{State}
use Rattle.puzzle_board.specs.declared.piece.State.TheVariants.{At, Unplaced}
use Rattle.puzzle_board.specs.Areas.{cleared}
use Rattle.puzzle_board.specs.Boards.{Puzzle, IsPlaceable}
use Rattle.puzzle_board.specs.Classes.{IsFiled}
use Rattle.puzzle_board.specs.Stored.{area_classes, piece_classes}
use Rattle.puzzle_board.proofs.Calls.{stored-placed}
use Rattle.puzzle_board.proofs.Kept.{placeable-below, take-front}
use Rattle.puzzle_board.proofs.Stored.{piece-listed}
use Rattle.puzzle_board.proofs.board.Board.place.Goals as goal

pub index-free-requires : goal.index-free-requires
index-free-requires g c =
    let asked = subst (λ (b : Puzzle). IsPlaceable b c.args.piece c.args.spot) (sym c.self.view_is) c.requires in
    omega (arith, placeable-below _ _ _ _ c.self.invariant.kept asked)

pub set_area-requires-clause-within : goal.set_area-requires-clause-within
set_area-requires-clause-within g c =
    let asked = subst (λ (b : Puzzle). IsPlaceable b c.args.piece c.args.spot) (sym c.self.view_is) c.requires in
    omega (arith, placeable-below _ _ _ _ c.self.invariant.kept asked, c.deref_mut.ensures.len)

pub settle-requires-clause-within : goal.settle-requires-clause-within
settle-requires-clause-within g c =
    let asked = subst (λ (b : Puzzle). IsPlaceable b c.args.piece c.args.spot) (sym c.self.view_is) c.requires in
    let within = slice_get_within c.self.inside.states.items c.args.piece Unplaced asked.1.unplaced in
    omega (arith, within, c.deref_mut-2.ensures.len)

pub settle-requires-clause-listed : goal.settle-requires-clause-listed
settle-requires-clause-listed g c =
    let asked = subst (λ (b : Puzzle). IsPlaceable b c.args.piece c.args.spot) (sym c.self.view_is) c.requires in
    piece-listed c.self.inside.waiting c.self.inside.pieces.items c.self.inside.states.items c.args.piece asked.0
    c.self.invariant.pieces asked.1.is asked.1.unplaced

pub invariant_of-self : goal.invariant_of-self
invariant_of-self g c =
    let pieces : List Piece = c.self.inside.pieces.items in
    let states : List State = c.self.inside.states.items in
    let free : List Area = c.self.inside.free.items in
    let asked = subst (λ (b : Puzzle). IsPlaceable b c.args.piece c.args.spot) (sym c.self.view_is) c.requires in
    let read = c.index.result.now in
    let a = c.index-free.result.now in
    let area = c.args.spot.area in
    let number = c.args.piece in
    let there : State = At c.args.spot in
    let states_are : c.settle.new.states ≡ slice_set states number there =
    c.settle.ensures.states ∙ ap (λ (ss : List State). slice_set ss number there) c.deref_mut-2.ensures.value in
    let free_are : c.set_area.new.free ≡ slice_set free area (cleared a read.kind c.args.spot.columns) =
    c.set_area.ensures.free
    ∙ (ap (λ (xs : List Area). slice_set xs area c.cleared-area.result) c.deref_mut.ensures.value
    ∙ ap (λ (b : Area). slice_set free area b) c.cleared-area.ensures) in
    let long = ap length c.settle.ensures.states
    ∙ (length-set c.deref_mut-2.result.now number there ∙ c.deref_mut-2.ensures.len) in
    let far = ap length c.set_area.ensures.free
    ∙ (length-set c.deref_mut.result.now area c.cleared-area.result ∙ c.deref_mut.ensures.len) in
    let kinds = subst (λ (xs : List Area). IsFiled c.set_area.new.by_kind 10 (area_classes xs)) free_are
    c.set_area.ensures.filed in
    let before = subst (λ (ss : List State). IsFiled c.self.inside.waiting 6 (piece_classes pieces ss))
    (sym c.deref_mut-2.ensures.value) c.self.invariant.pieces in
    let filed = subst (λ (ss : List State). IsFiled c.settle.new.waiting 6 (piece_classes pieces ss)) states_are
    (c.settle.ensures.filed pieces asked.0 asked.1.is before) in
    rw (
      take-front c.settle.new.states _ _ long,
      take-front c.set_area.new.free _ _ far,
      states_are,
      free_are,
    )
    (stored-placed _ _ _ _ c.set_area.new.by_kind c.settle.new.waiting _ number c.args.spot read a c.self.invariant
    asked c.index.ensures c.index-free.ensures kinds filed c.settle.ensures.nodes)

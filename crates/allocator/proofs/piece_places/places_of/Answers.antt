use Rattle.std.proofs.Common.{List, ap, arith, Some, subst, sym, ◌∙◌, ◌+◌}
use Rattle.std.proofs.lemmas.Option.{slice_get-get_or}
use Rattle.puzzle_board.specs.declared.place.Place.{Place}
use Rattle.allocator.proofs.Standing.{ArePlacesTo, places-more-at}
use Rattle.allocator.proofs.piece_places.places_of.Goals as goal

pub place_of-requires-clause-var : goal.place_of-requires-clause-var
place_of-requires-clause-var c =
    c.requires.vars c.loop-i.i _ (slice_get-get_or c.args.pieces.now c.loop-i.i _ c.loop-i-test.true)

pub place_of-requires-clause-slot : goal.place_of-requires-clause-slot
place_of-requires-clause-slot c = λ e.
    c.requires.slots c.loop-i.i _ (slice_get-get_or c.args.pieces.now c.loop-i.i _ c.loop-i-test.true)
    (slice_get-get_or c.args.spots.now c.loop-i.i _ (omega (arith, c.requires.many, c.loop-i-test.true)) ∙ ap Some e)

pub loop-i-preserved : goal.loop-i-preserved
loop-i-preserved c =
    subst (λ (ps : List Place). ArePlacesTo (c.loop-i.i + 1) c.args.map.now.slots c.args.pieces.now c.args.spots.now ps)
    (sym c.in_ok-push.ensures.items)
    (places-more-at c.loop-i.i c.args.map.now.slots c.args.pieces.now c.args.spots.now c.loop-i.places.items _ _
    c.place_of.result c.loop-i-test.true (omega (arith, c.requires.many, c.loop-i-test.true)) c.place_of.ensures
    c.loop-i.invariant)

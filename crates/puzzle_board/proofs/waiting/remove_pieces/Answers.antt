use Rattle.std.proofs.Common.{◌<◌, get_or, length, add-one, refl, sym, ◌∙◌, arith}
use Rattle.std.proofs.lemmas.Bool.{eq-eqb, ne_eqb}
use Rattle.std.proofs.lemmas.Option.{slice_get-get_or}
use Rattle.puzzle_board.proofs.Removing.{removed_in-take_yes, removed_in-take_no}
use Rattle.puzzle_board.proofs.Stored.{below-end, piece-listed-read, some-piece, removed-none, removed-rest}
use Rattle.puzzle_board.proofs.waiting.remove_pieces.Goals.{then-pieces-i, else-pieces-i}
use Rattle.puzzle_board.proofs.waiting.remove_pieces.Goals as goal

pub loop-i-init : goal.loop-i-init
loop-i-init g c = (
  sym (removed-none c.args.pieces.now c.args.states.now c.args.var c.args.span.0 (λ i p e is.
      (c.requires.span.all i p e is).0)),
  c.requires.filed,
  refl,
)

pub remove_piece-requires-clause-listed : goal.remove_piece-requires-clause-listed
remove_piece-requires-clause-listed g c e =
    piece-listed-read c.loop-i.waiting c.args.pieces.now c.loop-i.states c.loop-i.i c.loop-i.invariant.1
    (omega (arith, c.loop-i-test.true, c.requires.span.within)) e

pub loop-i-preserved : goal.loop-i-preserved
loop-i-preserved g c =
    let within : c.loop-i.i < length c.args.pieces.now = omega (arith, c.loop-i-test.true, c.requires.span.within) in (
      rw add-one (elim c.if-pieces-i.branch [
        | then-pieces-i w ↦
            let step = removed_in-take_yes c.args.pieces.now c.args.states.now c.args.var c.loop-i.i _
            within c.requires.same (eq-eqb _ _ w.if-pieces-i.true) in
            let so_far = c.loop-i.invariant.0 in
            cc
        | else-pieces-i w ↦
            let step = removed_in-take_no c.args.pieces.now c.args.states.now c.args.var c.loop-i.i _
            within c.requires.same (ne_eqb _ _ w.if-pieces-i.false) in
            let so_far = c.loop-i.invariant.0 in
            cc
      ]),
      elim c.if-pieces-i.branch [
        | then-pieces-i w ↦
            rw (w.states-is, w.waiting-is) (w.remove_piece.ensures.filed c.args.pieces.now
            (get_or c.args.pieces.now c.loop-i.i some-piece)
            (slice_get-get_or c.args.pieces.now c.loop-i.i some-piece within) c.loop-i.invariant.1)
        | else-pieces-i w ↦ rw (w.states-is, w.waiting-is) c.loop-i.invariant.1
      ],
      elim c.if-pieces-i.branch [
        | then-pieces-i w ↦ rw w.waiting-is (w.remove_piece.ensures.nodes ∙ c.loop-i.invariant.2)
        | else-pieces-i w ↦ rw w.waiting-is c.loop-i.invariant.2
      ],
    )

pub returns-clause-states : goal.returns-clause-states
returns-clause-states g c =
    c.loop-i.invariant.0
    ∙ removed-rest c.args.pieces.now c.args.states.now c.args.var c.loop-i.i (λ i p e is.
    below-end i c.args.span.1 c.loop-i.i (c.requires.span.all i p e is).1 c.loop-i-test.false)

use Rattle.std.proofs.Common.{List, ap, arith, length, refl}
use Rattle.puzzle_board.specs.declared.area.Area.{Area}
use Rattle.puzzle_solver.proofs.Ends.{all-placed, counted-bounded, counted-kept, few-pieces, kept-counted, solved-solvable}
use Rattle.puzzle_solver.proofs.Onward.{onward-more}
use Rattle.puzzle_solver.proofs.near.solve_near.Goals as goal

pub returns-then-not-is_bounded-clause-unsolvable : goal.returns-then-not-is_bounded-clause-unsolvable
returns-then-not-is_bounded-clause-unsolvable g c = λ solvable.
    let bounded = counted-bounded c.args.board.now c.areas_of-areas.result c.pieces_of-pieces.result c.requires
    c.areas_of-areas.ensures.value c.pieces_of-pieces.ensures.value solvable in
    let holds = c.is_bounded.ensures.1 bounded in
    cc

pub returns-then-not-is_bounded-clause-exact : goal.returns-then-not-is_bounded-clause-exact
returns-then-not-is_bounded-clause-exact g c = (
  λ holds. absurd (cc),
  λ solvable.
      absurd (
      cc (
      c.is_bounded.ensures.1
      (counted-bounded c.args.board.now c.areas_of-areas.result c.pieces_of-pieces.result c.requires
      c.areas_of-areas.ensures.value c.pieces_of-pieces.ensures.value solvable))),
)

pub place_wanted-left-requires : goal.place_wanted-left-requires
place_wanted-left-requires g c = record {
  areas = c.areas_of-areas.ensures.value;
  pieces = c.pieces_of-pieces.ensures.value;
  bounded = c.is_bounded.ensures.0 cc;
}

pub returns-clause-solved : goal.returns-clause-solved
returns-clause-solved g c =
    all-placed c.args.board.now c.place_narrow.new.board
    (onward-more c.args.board.now c.place_wide.new.board c.place_narrow.new.board
    (onward-more c.args.board.now c.place_wanted-left.new.board c.place_wide.new.board
    c.place_wanted-left.ensures.onward c.place_wide.ensures.onward)
    c.place_narrow.ensures.onward)
    c.place_narrow.ensures.all
    c.is_board.ensures

pub returns-clause-few : goal.returns-clause-few
returns-clause-few g c =
    let few = few-pieces c.args.board.now c.areas_of-areas.result c.pieces_of-pieces.result c.requires
    c.areas_of-areas.ensures.value (c.is_bounded.ensures.0 cc) in
    let wanted = ap (λ (areas : List Area). length areas) c.place_wanted-left.ensures.onward.areas in
    let wide = ap (λ (areas : List Area). length areas) c.place_wide.ensures.onward.areas in
    omega (arith, few, wanted, wide)

pub returns-clause-exact : goal.returns-clause-exact
returns-clause-exact g c = (
  λ holds.
      solved-solvable c.args.board.now c.place_narrow.new.board
      (all-placed c.args.board.now c.place_narrow.new.board
      (onward-more c.args.board.now c.place_wide.new.board c.place_narrow.new.board
      (onward-more c.args.board.now c.place_wanted-left.new.board c.place_wide.new.board
      c.place_wanted-left.ensures.onward c.place_wide.ensures.onward)
      c.place_narrow.ensures.onward)
      c.place_narrow.ensures.all
      c.is_board.ensures),
  λ solvable. refl,
)

pub returns-then-not-is_bounded-clause-bounded : goal.returns-then-not-is_bounded-clause-bounded
returns-then-not-is_bounded-clause-bounded g c = (
  λ holds. absurd (cc),
  λ bounded.
      absurd (
      cc (
      c.is_bounded.ensures.1
      (counted-kept c.args.board.now c.areas_of-areas.result c.pieces_of-pieces.result c.requires
      c.areas_of-areas.ensures.value c.pieces_of-pieces.ensures.value bounded))),
)

pub returns-clause-bounded : goal.returns-clause-bounded
returns-clause-bounded g c = (
  λ holds.
      kept-counted c.args.board.now c.areas_of-areas.result c.pieces_of-pieces.result c.requires
      c.areas_of-areas.ensures.value c.pieces_of-pieces.ensures.value (c.is_bounded.ensures.0 cc),
  λ bounded. refl,
)

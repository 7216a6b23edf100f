use Rattle.std.proofs.Common.{ℕ, List, ◌≡◌, ◌++◌, get_or, take, subst, arith, ◌∙◌}
use Rattle.std.proofs.lemmas.List.{length-set, take_all}
use Rattle.allocator.specs.SplitForms.{ArePlaces}
use Rattle.allocator.proofs.Placing.{at-in, place-more}
use Rattle.allocator.proofs.point_numbers.place_points.Goals as goal

pub bounds-places-points : goal.bounds-places-points
bounds-places-points c =
    let within = c.requires.there (get_or c.args.points.now c.loop-i.i 0)
    (at-in c.args.points.now c.loop-i.i c.loop-i-test.true) in
    omega (arith, within, c.loop-i.invariant.many)

pub loop-i-preserved : goal.loop-i-preserved
loop-i-preserved c =
    let within = c.requires.there (get_or c.args.points.now c.loop-i.i 0)
    (at-in c.args.points.now c.loop-i.i c.loop-i-test.true) in
    record {
      placed = λ done e h. place-more done c.args.points.now c.loop-i.i c.args.first c.loop-i.places
          (c.loop-i.invariant.placed done e h) c.loop-i-test.true e (omega (arith, within, c.loop-i.invariant.many));
      many = length-set c.loop-i.places (get_or c.args.points.now c.loop-i.i 0) _ ∙ c.loop-i.invariant.many;
    }

pub returns-clause-placed : goal.returns-clause-placed
returns-clause-placed c done e h =
    let all : take c.loop-i.i c.args.points.now ≡ c.args.points.now =
    take_all c.loop-i.i c.args.points.now c.loop-i-test.false in
    subst (λ (ps : List ℕ). ArePlaces (done ++ ps) c.loop-i.places) all (c.loop-i.invariant.placed done e h)

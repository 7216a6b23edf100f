use Rattle.std.proofs.Common.{ℕ, List, [], ◌∷◌, ◌++◌, ◌∙◌, ap}
use Rattle.std.specs.List.{flat_map}
use Rattle.map_file.specs.declared.file.MapPoint.{MapPoint}
use Rattle.map_file.proofs.Blocks.{all_put, numbers_flat}
use Rattle.map_file.proofs.points.push_numbers.Goals as goal

pub returns : goal.returns
returns c =
    let points = c.args.points.now in
    let old = c.args.numbers.now.items in
    let put : MapPoint → List ℕ = λ p. p.number ∷ [] in
    all_put put (old ++ flat_map put points) c.loop-point.numbers.items points c.loop-point.point-index
    c.loop-point-test.false c.loop-point.invariant
    ∙ ap (λ (ns : List ℕ). old ++ ns) (numbers_flat points)

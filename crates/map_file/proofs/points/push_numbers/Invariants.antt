use Rattle.std.proofs.Common.{◌≡◌, [], ◌∷◌, ◌++◌, drop}
use Rattle.std.specs.List.{flat_map}
use Rattle.map_file.proofs.points.push_numbers.Given as goal

-- the numbers so far and those of the others are all
abbrev pub invariant-loop-point : goal.invariant-loop-point
invariant-loop-point l =
    l.numbers.items ++ flat_map (λ p. p.number ∷ []) (drop l.point-index l.points)
    ≡ l.initial.numbers.items ++ flat_map (λ p. p.number ∷ []) l.points

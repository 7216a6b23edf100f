use Rattle.std.proofs.Common.{◌≡◌, ◌++◌, codes, flat_map, take}
use Rattle.map_text.specs.Words.{area_word}
use Rattle.map_text.proofs.point_lines.push_areas.Given as goal

-- the areas so far are there
abbrev pub invariant-loop-area : goal.invariant-loop-area
invariant-loop-area l = l.out.items ≡ l.initial.out.items
    ++ flat_map (λ a. codes " " ++ area_word a) (take l.area-index l.areas)

-- The variables of locals, in a list.
use Rattle.std.specs.Prelude.{ℕ, ◌+◌, List, [], ◌∷◌, length}
use Rattle.c_tree.specs.Program.{Local}
use Rattle.lower_lines.specs.Shown.{type_widths}
use Rattle.lower_lines.specs.Variables.{Spot, typed_spot}
use Rattle.lower_builder.specs.declared.spot.Spot as memory

abbrev pub spot_of : memory.Spot → Spot
spot_of s = record { array = s.array; number = s.number }

-- the variables of locals in order, from one on
abbrev pub spots_from : ℕ → List Local → List Spot
spots_from variable [] = []
spots_from variable (l ∷ ls) = typed_spot l.of variable ∷ spots_from (variable + length (type_widths l.of)) ls

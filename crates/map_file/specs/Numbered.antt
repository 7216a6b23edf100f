-- Maps whose parts are few enough to have numbers of 32 bits.
use Rattle.std.specs.Prelude.{◌≤◌, ◌^◌, length}
use Rattle.std.specs.List.{All}
use Rattle.map_text.specs.Maps.{Map, MapFunction}

pub record HasNumberedParts (f : MapFunction) : Type 0 where
  pub arrays : length f.arrays ≤ 2 ^ 32
  pub variables : length f.variables ≤ 2 ^ 32
  pub blocks : length f.blocks ≤ 2 ^ 32

-- A map is one of these.
pub record IsNumbered (m : Map) : Type 0 where
  pub objects : length m.objects ≤ 2 ^ 32
  pub functions : length m.functions ≤ 2 ^ 32
  pub parts : All HasNumberedParts m.functions

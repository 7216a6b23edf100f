-- Where variables stand, as the code holds it.
use Rattle.std.specs.Prelude.{ℕ, suc, ℤ, pos, negsuc, List, map}
use Rattle.ia32_insn.specs.Places.{Place, InWord, InByte, InSlot}
use Rattle.ia32_emit.specs.declared.locations.Location.{Location}
use Rattle.ia32_emit.specs.declared.locations.Location.TheVariants as location

-- how far below EBP an offset is: 0 for one that isn't below
abbrev pub distance : ℤ → ℕ
distance (pos n) = 0
distance (negsuc n) = suc n

-- the slots at these offsets
abbrev pub slots_of : List ℤ → List ℕ
slots_of offsets = map distance offsets

-- the place that the code means
abbrev pub place_of : Location → Place
place_of (location.Word r) = InWord r
place_of (location.Byte r) = InByte r
place_of (location.Slot offset) = InSlot (distance offset)

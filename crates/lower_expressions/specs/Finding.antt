-- What is found of a place: its local, its object, or the variables of its address, behind the lines that find it.
use Rattle.std.specs.Prelude.{ℕ, ◌≡◌, Bool, List, []}
use Rattle.c_tree.specs.declared.types.IntegerType.{IntegerType}
use Rattle.lower_builder.specs.Built.{Built, Adds}
use Rattle.lower_lines.specs.Expressions.{Located, AtLocal, AtObject, AtAddress}
use Rattle.lower_lines.specs.Lines.{Line}
use Rattle.lower_lines.specs.Variables.{Spot}
use Rattle.lower_builder.specs.Spots.{spot_of}
use Rattle.lower_expressions.specs.declared.found.Found as memory
use Rattle.lower_expressions.specs.declared.found.Found.TheVariants as found

pub data FoundAt : Type 0 where
  InLocal : (local : ℕ) → FoundAt
  InObject : (object : ℕ) → FoundAt
  AtElement : (element : IntegerType) (spot : Spot) → FoundAt

abbrev pub found_of : memory.Found → FoundAt
found_of (found.Local v) = InLocal v
found_of (found.Object k) = InObject k
found_of (found.Element t spot) = AtElement t (spot_of spot)

-- where `stays` says that nothing which is evaluated behind the lines, and before the access, stores anything
abbrev pub found_at : Located → Bool → ℕ → FoundAt
found_at (AtLocal v) stays level = InLocal v
found_at (AtObject k) stays level = InObject k
found_at (AtAddress t a) stays level = AtElement t (a.spot stays level)

abbrev pub located_blocks : Located → ℕ
located_blocks (AtLocal v) = 0
located_blocks (AtObject k) = 0
located_blocks (AtAddress t a) = a.blocks

abbrev pub located_lines : Located → Bool → ℕ → ℕ → List Line
located_lines (AtLocal v) stays block level = []
located_lines (AtObject k) stays block level = []
located_lines (AtAddress t a) stays block level = a.lines stays block level

abbrev pub Finds : Located → Bool → ℕ → Built → Built → memory.Found → Type 0
Finds located stays level old new found = Adds old new (located_blocks located)
    (located_lines located stays old.next level) × (found_of found ≡ found_at located stays level)

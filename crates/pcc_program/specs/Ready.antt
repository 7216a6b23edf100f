-- What the passes of `compile` ask of a typed program.
use Rattle.std.specs.Prelude.{◌≤◌, ℕ, List}
use Rattle.std.specs.List.{AllByRecursion}
use Rattle.c_tree.specs.Program.{Function, Program}
use Rattle.c_tree.specs.Sizes.{frame_bound, size_of}
use Rattle.c_tree.specs.WellTyped.{WellTyped}
use Rattle.c_typing.specs.Typed.{IsAccepted, arrays_bytes}
use Rattle.c_check_laws.specs.Named.{IsNamed}
use Rattle.c_front.specs.Units.{WithUnits}
use Rattle.lower_lines.specs.Words.{IsInMemory}
use Rattle.lower_laws.specs.Declared.{IsDeclaredFirst}

-- a frame is within its limit
abbrev pub IsSmallFrame : Function → Type 0
IsSmallFrame f = frame_bound f ≤ 0x4000

pub record IsReady (p : Program) : Type 0 where
  pub typed : WellTyped p
  -- each local is declared before it is named
  pub declared : IsDeclaredFirst p
  -- as lowering asks for it: constants are of 32 bits, and an item of its own declares each array
  pub memory : IsInMemory p
  -- the names of functions, locals and arrays are identifiers
  pub names : AllByRecursion IsNamed p.functions
  pub frames : AllByRecursion IsSmallFrame p.functions
  -- the bytes of all static objects
  pub objects : arrays_bytes p ≤ 0x01000000
  -- each part has a token of its own, of which texts have no more
  pub small : size_of p ≤ 0x10000

-- The accepted program of texts is ready: the texts have raw trees, which have this typed program within the limits.
abbrev pub ProgramsAreReady : Type 0
ProgramsAreReady = (texts : List (List ℕ)) (p : Program) → WithUnits texts (λ units. IsAccepted units p) → IsReady p

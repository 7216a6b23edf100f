-- What a store leaves.
use Rattle.std.specs.Prelude.{◌≡◌, List, Option, Some, None, Bool, true, false}
use Rattle.ia32_insn.specs.State.{Area}

-- where there is a memory after the store, it stands; else the store is refused and nothing is changed
abbrev pub Stores : Option (List Area) → List Area → List Area → Bool → Type 0
Stores after old new true = after ≡ Some new
Stores after old new false = (after ≡ None) × (new ≡ old)

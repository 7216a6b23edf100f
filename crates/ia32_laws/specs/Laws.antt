-- That the addresses of arrays tell them apart.
use Rattle.std.specs.Prelude.{◌≡◌, ◌==◌, ℕ, List}
use Rattle.pcc_base.specs.Outcome.{ArrayName}
use Rattle.ia32_insn.specs.State as machine
use Rattle.flow_graph.specs.Meaning.{same_array}
use Rattle.flow_graph.specs.States as graph
use Rattle.flow_graph.specs.States.{active_of}
use Rattle.flow_graph.specs.WellFormed.{IsState}
use Rattle.ia32_rows.specs.Placements.{Code}
use Rattle.ia32_rows.specs.Shows.{IsArrayAt, Shows}
use Rattle.ia32_laws.specs.Supports.{IsSupported}

-- Where a state of the machine shows one of the program, two arrays that are there have one address exactly where they
-- are the same array, and none of them that of no array.
abbrev pub AddressesTell : Type 0
AddressesTell =
    (code : Code) (input : List ℕ) (g : graph.State) (s : machine.State) (one two : ArrayName) (m n : ℕ)
    → IsSupported code → IsState code.program g → (shown : Shows code input g s)
    → IsArrayAt code (active_of g) shown.frames one m → IsArrayAt code (active_of g) shown.frames two n
    → same_array one two ≡ (m == n)

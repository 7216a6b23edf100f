-- Sets of the lines of expressions.
use Rattle.std.specs.Prelude.{◌≡◌, ◌<◌, ◌+◌, ◌*◌, ℕ, suc, List, [], ◌∷◌, ◌++◌, length}
use Rattle.c_tree.specs.declared.types.ValueType.{ValueType}
use Rattle.c_tree.specs.Program.{Function, Program}
use Rattle.flow_graph.specs.Graphs.{IsIn}
use Rattle.lower_lines.specs.Expressions.{words_of}
use Rattle.lower_lines.specs.Lines.{Line}
use Rattle.lower_lines.specs.Parts.{Wanted, Dropped, Own, ToLocal, Tests}
use Rattle.lower_lines.specs.Variables.{Context, local_spot, local_variables, own}
use Rattle.lower_laws.specs.Flows.{Flows, Within}

abbrev pub context_in : Program → Function → Context
context_in p f = record { program = p; function = f }

-- the blocks from one on have these sets
abbrev pub Agrees : (ℕ → List ℕ) → ℕ → List (List ℕ) → Type 0
Agrees at_block block [] = Unit {0}
Agrees at_block block (set ∷ sets) = (at_block block ≡ set) × Agrees at_block (suc block) sets

-- what is there behind lines, where this is wanted of them
abbrev pub reached : Context → ℕ → Wanted → ValueType → List ℕ → List ℕ
reached c level Dropped of set = set
reached c level Own of set = words_of of (own c level) ++ set
reached c level (ToLocal local) of set = words_of of (local_spot c local) ++ set
reached c level (Tests holds fails) of set = set

-- where control goes, no more may be used than what is there
abbrev pub Goes : Context → (ℕ → List ℕ) → Wanted → List ℕ → Type 0
Goes c at_block Dropped set = Unit {0}
Goes c at_block Own set = Unit {0}
Goes c at_block (ToLocal local) set = Unit {0}
Goes c at_block (Tests holds fails) set = Within (at_block holds) set × Within (at_block fails) set

-- a local that is wanted has variables of locals
abbrev pub LowTarget : Context → Wanted → ValueType → Type 0
LowTarget c Dropped of = Unit {0}
LowTarget c Own of = Unit {0}
LowTarget c (ToLocal local) of =
    (v : ℕ) → IsIn v (words_of of (local_spot c local)) → v < local_variables c.function
LowTarget c (Tests holds fails) of = Unit {0}

-- Lines of which so many blocks, from one on, have sets, so that the lines come with one set and go on with another.
pub record Settled (c : Context) (block count : ℕ) (w : Wanted) (first : List ℕ) (lines : List Line) (last : List ℕ) :
    Type 0 where
  pub sets : List (List ℕ)
  pub size : length sets ≡ count
  pub flows : (at_block : ℕ → List ℕ) → Agrees at_block block sets → Goes c at_block w first
      → Flows (local_variables c.function) at_block first lines last

-- every local's variables, and of the temporaries those of lower levels alone
pub record HasLocals (c : Context) (level : ℕ) (set : List ℕ) : Type 0 where
  pub locals : (v : ℕ) → v < local_variables c.function → IsIn v set
  pub under : (v : ℕ) → IsIn v set → v < local_variables c.function + level * 5

-- Small programs that the definitions are read on. In the first a turn starts, statement 7 is visited, and the low byte
-- of 300 is written and returned.
use Rattle.std.specs.Prelude.{pos, [], ◌∷◌, Some, None}
use Rattle.pcc_base.specs.declared.run.Width.TheVariants.{Two}
use Rattle.pcc_base.specs.Outcome.{Ended, Goes, Number, Array, Static, Scalar, Listing, Outcome}
use Rattle.flow_graph.specs.declared.op.Bits.TheVariants.{ThirtyTwo}
use Rattle.flow_graph.specs.declared.op.Op.TheVariants.{Turn, Mark, Const, Putchar, Return, Get}
use Rattle.flow_graph.specs.Graphs.{Flow}
use Rattle.flow_graph.specs.States.{GraphProgram, State, first_state_at, with_value}

abbrev pub five_points : Flow
five_points = record {
  widths = Two ∷ [];
  arrays = [];
  blocks = (0 ∷ 1 ∷ 2 ∷ 3 ∷ 4 ∷ []) ∷ [];
  ops = Turn ∷ Mark 7 ∷ Const 0 (pos 300) ∷ Putchar 0 0 ∷ Return (Some 0) ∷ [];
}

abbrev pub low_byte_program : GraphProgram
low_byte_program = record { functions = five_points ∷ []; objects = []; main = 0 }

-- every statement shows the variable
abbrev pub variable_listed : Listing
variable_listed statement = Scalar 0 ∷ []

-- before the turn nothing has happened
abbrev pub nothing_yet : Outcome
nothing_yet = record { visits = []; taken = 0; written = []; end = Goes }

abbrev pub written_and_ended : Outcome
written_and_ended = record {
  visits = record { statement = 7; values = Number (pos 0) ∷ [] } ∷ [];
  taken = 0;
  written = 44 ∷ [];
  end = Ended 44;
}

-- a graph whose first point, which reads its variable, was removed
abbrev pub one_removed : Flow
one_removed = record {
  widths = Two ∷ [];
  arrays = [];
  blocks = (1 ∷ []) ∷ [];
  ops = Putchar 0 0 ∷ Return None ∷ [];
}

-- a program that reads a static object without elements
abbrev pub reads_nothing : Flow
reads_nothing = record {
  widths = Two ∷ [];
  arrays = [];
  blocks = (0 ∷ 1 ∷ []) ∷ [];
  ops = Get ThirtyTwo 0 0 ∷ Return (Some 0) ∷ [];
}

abbrev pub empty_object_program : GraphProgram
empty_object_program = record {
  functions = reads_nothing ∷ [];
  objects = record { width = 4; elements = [] } ∷ [];
  main = 0;
}

abbrev pub before_reading : State
before_reading = first_state_at empty_object_program [] 0

-- its variable holds the object
abbrev pub holding_array : State
holding_array = with_value 0 (Array (Static 0)) before_reading

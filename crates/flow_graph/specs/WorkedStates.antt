-- Programs of one graph on which the definition of their states is read. In the first `main` returns an element of
-- object 0, which has one element of 8 bits.
use Rattle.std.specs.Prelude.{ℕ, ℤ, pos, List, [], ◌∷◌, None, Some}
use Rattle.pcc_base.specs.Outcome.{Array, Number, Static}
use Rattle.pcc_base.specs.declared.run.Width.TheVariants.{Two}
use Rattle.flow_graph.specs.declared.op.Bits.TheVariants.{Eight}
use Rattle.flow_graph.specs.declared.op.Op.TheVariants.{Call, Load, Return}
use Rattle.flow_graph.specs.Graphs.{Flow}
use Rattle.flow_graph.specs.States.{Activation, GraphProgram, State}

abbrev pub element_graph : Flow
element_graph = record {
  widths = Two ∷ Two ∷ Two ∷ [];
  arrays = [];
  blocks = (0 ∷ 1 ∷ []) ∷ [];
  ops = Load Eight 2 0 1 ∷ Return (Some 2) ∷ [];
}

abbrev pub element_program : GraphProgram
element_program = record {
  functions = element_graph ∷ [];
  objects = record { width = 1; elements = pos 7 ∷ [] } ∷ [];
  main = 0;
}

-- at a point, with an index in variable 1 and a number in variable 2, where object 0 has these elements
abbrev pub element_state : ℕ → ℤ → ℤ → List ℤ → State
element_state point index number elements = record {
  block = 0;
  point = point;
  current = record {
    function = 0;
    arguments = [];
    variables = Array (Static 0) ∷ Number index ∷ Number number ∷ [];
    arrays = [];
  };
  waiting = [];
  objects = elements ∷ [];
  left = [];
  taken = 0;
  written = [];
}

-- a program of one function, with a frame array of one element of 32 bits
abbrev pub frame_graph : Flow
frame_graph = record {
  widths = [];
  arrays = (4, 1) ∷ [];
  blocks = (0 ∷ 1 ∷ []) ∷ [];
  ops = Call None 0 [] ∷ Return None ∷ [];
}

abbrev pub frame_program : GraphProgram
frame_program = record { functions = frame_graph ∷ []; objects = []; main = 0 }

-- an active call of it, whose array holds this number
abbrev pub frame_call : ℤ → Activation
frame_call n = record { function = 0; arguments = []; variables = []; arrays = (n ∷ []) ∷ [] }

-- `main`, whose array holds 5, waits for a call of itself, whose array holds 6
abbrev pub frame_state : State
frame_state = record {
  block = 0;
  point = 0;
  current = frame_call (pos 6);
  waiting = record { activation = frame_call (pos 5); block = 0; point = 0 } ∷ [];
  objects = [];
  left = [];
  taken = 0;
  written = [];
}

-- Small graphs that the definitions are read on. In the first 5 and 6 are added, the sum is written, and 5 is returned.
use Rattle.std.specs.Prelude.{pos, List, [], ◌∷◌, Some}
use Rattle.pcc_base.specs.declared.run.Width.TheVariants.{Two}
use Rattle.pcc_base.specs.Outcome.{Ended, Outcome}
use Rattle.flow_graph.specs.declared.op.Op.TheVariants.{Add, Call, Const, Putchar, Return}
use Rattle.flow_graph.specs.Graphs.{Flow}
use Rattle.flow_graph.specs.Lives.{Lives}
use Rattle.flow_liveness.specs.Forms.{FormProgram}
use Rattle.flow_liveness.specs.Names.{Move}

abbrev pub sum_graph : Flow
sum_graph = record {
  widths = Two ∷ Two ∷ Two ∷ Two ∷ [];
  arrays = [];
  blocks = (0 ∷ 1 ∷ 2 ∷ 3 ∷ 4 ∷ []) ∷ [];
  ops = Const 0 (pos 5) ∷ Const 1 (pos 6) ∷ Add 2 0 1 ∷ Putchar 3 2 ∷ Return (Some 0) ∷ [];
}

abbrev pub sum_lives : Lives
sum_lives = record {
  before = [] ∷ (0 ∷ []) ∷ (0 ∷ 1 ∷ []) ∷ (0 ∷ 2 ∷ []) ∷ (0 ∷ []) ∷ [];
  after = (0 ∷ []) ∷ (0 ∷ 1 ∷ []) ∷ (0 ∷ 2 ∷ []) ∷ (0 ∷ []) ∷ [] ∷ [];
}

-- a copy by which two names change their values over
abbrev pub changed_over : List Move
changed_over = record { to = 0; from = 1 } ∷ record { to = 1; from = 0 } ∷ []

-- in another program `main` calls a function with 5 in a variable, writes 5, and returns what the call returned: 7
abbrev pub calling_graph : Flow
calling_graph = record {
  widths = Two ∷ Two ∷ Two ∷ [];
  arrays = [];
  blocks = (0 ∷ 1 ∷ 2 ∷ 3 ∷ []) ∷ [];
  ops = Const 0 (pos 5) ∷ Call (Some 1) 1 [] ∷ Putchar 2 0 ∷ Return (Some 1) ∷ [];
}

abbrev pub calling_lives : Lives
calling_lives = record {
  before = [] ∷ (0 ∷ []) ∷ (0 ∷ 1 ∷ []) ∷ (1 ∷ []) ∷ [];
  after = (0 ∷ []) ∷ (0 ∷ 1 ∷ []) ∷ (1 ∷ []) ∷ [] ∷ [];
}

abbrev pub called_graph : Flow
called_graph = record {
  widths = Two ∷ [];
  arrays = [];
  blocks = (0 ∷ 1 ∷ []) ∷ [];
  ops = Const 0 (pos 7) ∷ Return (Some 0) ∷ [];
}

abbrev pub called_lives : Lives
called_lives = record { before = [] ∷ (0 ∷ []) ∷ []; after = (0 ∷ []) ∷ [] ∷ [] }

abbrev pub calling_program : FormProgram
calling_program = record {
  program = record { functions = calling_graph ∷ called_graph ∷ []; objects = []; main = 0 };
  lives = calling_lives ∷ called_lives ∷ [];
}

abbrev pub calling_outcome : Outcome
calling_outcome = record { visits = []; taken = 0; written = 5 ∷ []; end = Ended 7 }

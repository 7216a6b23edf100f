-- What fits the numbers of a function's items.
use Rattle.std.specs.Prelude.{◌<◌, ◌+◌, ◌^◌, length}
use Rattle.flow_graph.specs.Graphs.{Flow}
use Rattle.flow_graph.specs.Sizes.{most_words}

-- Every label of the graph's code is of 32 bits, and calls pass so few words that their bytes are, too.
pub record HasRoom (flow : Flow) : Type 0 where
  pub labels : length flow.blocks + length flow.ops < 2 ^ 32
  pub words : most_words flow.ops < 2 ^ 29

-- The program of graphs that graphs in memory are.
use Rattle.std.specs.Prelude.{map}
use Rattle.pcc_base.specs.Objects.{object_of}
use Rattle.flow_graph.specs.States.{GraphProgram}
use Rattle.lower.specs.declared.graphs.Graphs.{Graphs}

abbrev pub graphs_of : Graphs → GraphProgram
graphs_of graphs = record {
  functions = graphs.functions.items;
  objects = map object_of graphs.objects.items;
  main = graphs.main;
}

use Rattle.c_tree.specs.Erased.{program_of}
use Rattle.pcc_tests.proofs.sources.lowered.graphs_of_program.Goals as goal

pub lower-requires-clause-typed : goal.lower-requires-clause-typed
lower-requires-clause-typed c =
    (c.programs_are_ready.ensures c.requires.0 (program_of c.args.program.now) c.requires.1).typed

pub lower-requires-clause-memory : goal.lower-requires-clause-memory
lower-requires-clause-memory c =
    (c.programs_are_ready.ensures c.requires.0 (program_of c.args.program.now) c.requires.1).memory

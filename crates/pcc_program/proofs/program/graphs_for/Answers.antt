-- All that lowering promises, and what follows of it.
use Rattle.c_tree.specs.Erased.{program_of}
use Rattle.lower.specs.Graphs.{graphs_of}
use Rattle.lower_laws.specs.Lowered.{AreLowered}
use Rattle.pcc_program.proofs.program.graphs_for.Goals as goal

pub returns-clause-lowered : goal.returns-clause-lowered
returns-clause-lowered c =
    let g = c.in_ok-graphs.ensures in
    record {
      keeps = g.outcome;
      never_stuck = g.never_stuck;
      well_formed = g.well_formed;
      shapes = g.shapes;
      objects = g.has_objects;
      once = g.marks;
      marks = g.statements;
      small = g.small;
      liveness = g.liveness;
      first_points = g.first_points;
    }

pub returns-clause-frames : goal.returns-clause-frames
returns-clause-frames c =
    let g = c.in_ok-graphs.ensures in
    let program = program_of c.args.program.now in
    let graphs = graphs_of c.in_ok-graphs.graphs in
    let lowered : AreLowered program graphs =
    record {
      keeps = g.outcome;
      never_stuck = g.never_stuck;
      well_formed = g.well_formed;
      shapes = g.shapes;
      objects = g.has_objects;
      once = g.marks;
      marks = g.statements;
      small = g.small;
      liveness = g.liveness;
      first_points = g.first_points;
    }
    in
    c.graphs_have_frames.ensures program graphs c.requires.memory c.requires.declared lowered

-- The graph of a function has a form and room for its frame.
use Rattle.std.proofs.Common.{◌<◌, ◌+◌, ◌*◌, length, ap, sym, subst}
use Rattle.flow_graph.specs.Graphs.{Flow}
use Rattle.flow_graph.specs.Lives.{IsLives}
use Rattle.flow_liveness.specs.Distances.{AreDistances}
use Rattle.allocator.specs.PointMaps.{bytes_of_arrays}
use Rattle.allocator.specs.SplitForms.{Form}
use Rattle.pcc_program.proofs.Passed.{has-room, placed-few}
use Rattle.pcc_program.proofs.functions.home_for.Goals as goal

pub split-requires-clause-dies : goal.split-requires-clause-dies
split-requires-clause-dies c = let (functions, objects, has) = c.requires in has.dies

pub split-requires-clause-few : goal.split-requires-clause-few
split-requires-clause-few c =
    let (functions, objects, has) = c.requires in placed-few functions objects c.args.graph.now has

pub allocate-requires-clause-distances : goal.allocate-requires-clause-distances
allocate-requires-clause-distances c =
    subst (λ (g : Flow). AreDistances g c.in_ok-distances.distances)
    (sym (ap (λ (f : Form). f.graph) c.in_ok-form.ensures)) c.in_ok-distances.ensures

pub allocate-requires-clause-room : goal.allocate-requires-clause-room
allocate-requires-clause-room c =
    let (functions, objects, has) = c.requires in
    subst (λ (g : Flow). 16 + 4 * length g.widths + bytes_of_arrays g.arrays < 0x80000000)
    (sym (ap (λ (f : Form). f.graph) c.in_ok-form.ensures)) (has-room functions objects c.args.graph.now has)

pub returns-clause-graph : goal.returns-clause-graph
returns-clause-graph c = ap (λ (f : Form). f.graph) c.in_ok-form.ensures

pub returns-clause-allocated : goal.returns-clause-allocated
returns-clause-allocated c =
    record {
      form = c.is_form.ensures;
      rising = subst IsLives (sym (ap (λ (f : Form). f.lives) c.in_ok-form.ensures)) c.is_lives.ensures;
      allocated = c.in_ok-places.ensures.allocated;
    }

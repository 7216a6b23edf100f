use Rattle.pcc_program.proofs.Does.{linked-does}
use Rattle.pcc_program.proofs.Printed.{linked-can-print}
use Rattle.pcc_program.proofs.linked_laws.linked_does_as.Goals as goal

pub returns-clause-prints : goal.returns-clause-prints
returns-clause-prints c = linked-can-print (record {
  have_frames = c.graphs_have_frames.ensures;
  selects = c.mapped_is_selected.ensures;
  right = c.programs_are_right.ensures.right;
  belongs = c.map_belongs.ensures;
  rules = c.map_keeps_rules.ensures;
  lists = c.map_lists_locals.ensures;
  same = c.map_by_same_addresses.ensures;
  shows = c.map_shows_visits.ensures;
  known = c.visits_are_known.ensures;
  does = c.compiled_does_as.ensures;
})

pub returns-clause-does : goal.returns-clause-does
returns-clause-does c = linked-does (record {
  have_frames = c.graphs_have_frames.ensures;
  selects = c.mapped_is_selected.ensures;
  right = c.programs_are_right.ensures.right;
  belongs = c.map_belongs.ensures;
  rules = c.map_keeps_rules.ensures;
  lists = c.map_lists_locals.ensures;
  same = c.map_by_same_addresses.ensures;
  shows = c.map_shows_visits.ensures;
  known = c.visits_are_known.ensures;
  does = c.compiled_does_as.ensures;
})

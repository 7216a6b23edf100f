-- What an evaluation in memory has left to do.
use Rattle.c_tree.specs.Erased.{function_of}
use Rattle.c_eval_state.specs.Values.{found_of, held_of}
use Rattle.c_eval_laws.specs.Steps.{Configuration}
use Rattle.c_eval_state.specs.Views.{stack_of, task_of, way_of}
use Rattle.c_eval_state.specs.declared.evaluation.Evaluation.{Evaluation}

unfoldable pub left_of : Evaluation → Configuration
left_of e = record {
  function = function_of e.function.now;
  way = way_of e.way;
  tasks = stack_of task_of e.tasks.items;
  values = stack_of held_of e.values.items;
  places = stack_of found_of e.places.items;
}

-- What is known of a step, by what it comes to.
use Rattle.std.proofs.Common.{Bool, ap, subst, ◌∙◌}
use Rattle.c_tree.specs.Store.{Gives}
use Rattle.c_eval_laws.specs.Steps.{Stepped, rest_after}
use Rattle.c_eval_laws.specs.Stacks.{StacksFitAfter}
use Rattle.c_eval_laws.specs.Weights.{MovesOn, takes_turn, weights}
use Rattle.c_eval_laws.specs.TasksLaws.{StepsEnd, StepsGoOn}
use Rattle.c_eval_laws.proofs.Machine.{steps_keep}
use Rattle.c_eval_laws.proofs.Serving.{stacks_stay_fit}
use Rattle.c_eval_laws.proofs.Weighing.{weights_fall}

-- a step goes on
pub steps_go_on : StepsGoOn
steps_go_on p l f way ts vs fs s c t e =
    let moves : MovesOn (takes_turn p way ts) (weights ts) s (Gives c t) =
    subst (λ (r : Stepped). MovesOn (takes_turn p way ts) (weights ts) s r) e (weights_fall p l f way ts vs fs s) in
    record {
      same = steps_keep p l f way ts vs fs s ∙ ap (rest_after p l) e;
      fits = λ h. subst StacksFitAfter e (stacks_stay_fit p l f way ts vs fs s h);
      falls = λ h. subst (λ (b : Bool). MovesOn b (weights ts) s (Gives c t)) h moves;
      turn = λ h. subst (λ (b : Bool). MovesOn b (weights ts) s (Gives c t)) h moves;
    }

-- a step ends the program
pub steps_end : StepsEnd
steps_end p l f way ts vs fs s end t e = steps_keep p l f way ts vs fs s ∙ ap (rest_after p l) e

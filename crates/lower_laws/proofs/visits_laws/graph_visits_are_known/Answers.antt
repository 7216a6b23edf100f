use Rattle.std.proofs.Common.{subst}
use Rattle.pcc_base.specs.Outcome.{AreKnown, Outcome}
use Rattle.c_tree.specs.Evaluation.{source_outcome}
use Rattle.lower_lines.specs.Shown.{variables_shown}
use Rattle.lower_laws.proofs.visits_laws.graph_visits_are_known.Goals as goal

pub returns : goal.returns
returns c = λ p graphs listing typed keeps lists input turns outcome run.
    subst (λ (o : Outcome). AreKnown o.visits)
    (c.one_outcome.ensures graphs (variables_shown p listing) input turns (source_outcome p listing input turns) outcome
    (keeps listing lists input turns) run)
    (c.visits_are_known.ensures p listing typed lists input turns)

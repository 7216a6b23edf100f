use Rattle.c_check_expressions.proofs.Answered.{pair_said}
use Rattle.c_check_declarations.specs.InitialValues.{IsTree}
use Rattle.c_check_statements.specs.Labels.{AreLabels}
use Rattle.c_check_statements.proofs.heads.selected_parts.Goals as goal

pub returns : goal.returns
returns c = λ a b before between after first second. pair_said IsTree AreLabels a b c.args.value c.args.labels
    c.both.result before between after c.both.ensures first second

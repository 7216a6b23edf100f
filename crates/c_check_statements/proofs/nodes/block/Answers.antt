use Rattle.std.proofs.Common.{ap, ◌∙◌, subst}
use Rattle.std.proofs.lemmas.Result.{IfOk-weaker}
use Rattle.c_tree.specs.Erased.{statement_of}
use Rattle.c_tree.specs.Program as tree
use Rattle.c_tree.specs.Program.{Statements}
use Rattle.c_check_expressions.specs.Said.{IsSaid}
use Rattle.c_check_statements.specs.Answers.{AreStatements}
use Rattle.c_check_statements.proofs.Ones.{one_said}
use Rattle.c_check_statements.proofs.nodes.block.Goals as goal

pub returns-in-Fits : goal.returns-in-Fits
returns-in-Fits c = IfOk-weaker c.one.result _ _ (λ j row part before after said.
    one_said AreStatements (λ (rows : Statements). tree.Block rows) part c.in-Fits.statements
    (statement_of c.block_of.result) j before after
    (λ x is. c.block_of.ensures ∙ ap (λ (rows : Statements). tree.Block rows) is) row
    (subst (λ p. IsSaid AreStatements part p before after) c.in-Fits.is said)) c.one.ensures

use Rattle.std.proofs.Common.{List, ap, ◌∙◌}
use Rattle.std.proofs.lemmas.Result.{IfOk-weaker}
use Rattle.c_tree.specs.declared.statement.Statement.{Statement}
use Rattle.c_tree.specs.Erased.{boxed_of, statement_of, statements_of}
use Rattle.c_tree.specs.Program as tree
use Rattle.c_check_statements.proofs.nodes.only_branch.Goals as goal

pub returns : goal.returns
returns c = IfOk-weaker c.if_else.result _ _ (λ s is. is
    ∙ ap (λ (st : tree.Statement). tree.If c.args.number (boxed_of c.args.test) (statement_of c.args.part) st)
    (c.block_of-nothing.ensures ∙ ap (λ (vs : List Statement). tree.Block (statements_of vs)) c.new.ensures.items))
    c.if_else.ensures

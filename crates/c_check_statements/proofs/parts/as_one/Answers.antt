use Rattle.std.proofs.Common.{rules, ◌≡◌, ◌∙◌, length}
use Rattle.c_check_statements.proofs.Ones.{several}
use Rattle.c_check_statements.proofs.parts.as_one.Goals as goal

pub returns-then-len-ne1 : goal.returns-then-len-ne1
returns-then-len-ne1 c =
    let many : c.len.result ≡ length c.args.statements.items = search rules in
    c.block_of.ensures ∙ several c.args.statements.items (λ one. c.if-len-ne1.true (many ∙ one))

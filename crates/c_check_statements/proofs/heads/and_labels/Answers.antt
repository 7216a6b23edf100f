use Rattle.std.proofs.Common.{[], map}
use Rattle.c_syntax.specs.Statements.{stmt_of, stmts_of}
use Rattle.c_typing.specs.Statements.{given_labels, typed_labels}
use Rattle.c_check_statements.proofs.heads.and_labels.Goals as goal

pub returns-in-Ok : goal.returns-in-Ok
returns-in-Ok c = λ part before said. c.selected_parts.ensures part
    (typed_labels [] (given_labels c.args.scopes.now 0 (stmts_of (map stmt_of c.args.items.now)))) before
    c.args.notes.now c.switch_labels.new.notes said c.in-Ok.ensures

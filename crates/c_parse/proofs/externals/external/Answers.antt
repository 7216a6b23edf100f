use Rattle.std.proofs.Common.{sym, ◌∙◌}
use Rattle.std.proofs.lemmas.Result.{err_from_is_err_and}
use Rattle.c_syntax.specs.Declarations.{declarator_of}
use Rattle.c_parse.specs.StatementParts.{below_node}
use Rattle.c_parse.proofs.ExternalTurns.{unlike_function, without_block}
use Rattle.c_parse.proofs.externals.external.Goals as goal
use Rattle.c_parse.proofs.externals.external.Goals.{else-is_function-via-then-is_function+else-at_mark, else-is_function-via-else-is_function}

pub returns-in_err-declaration : goal.returns-in_err-declaration
returns-in_err-declaration c =
    let p = err_from_is_err_and c.from_residual-in_err-declaration.result c.from_residual-in_err-declaration.ensures.1
    in
    let b = below_node c.args.height.levels in
    let d = declarator_of c.in_ok-declarator.declarator in
    rw (p.1, p.2) (elim c.else-is_function.branch [
      | else-is_function-via-then-is_function+else-at_mark w ↦ without_block b _ _ _ _ d _ c.in_ok-specifiers.ensures.ok
          c.in_ok-declarator.ensures.0 (sym w.at_mark.ensures ∙ w.if-at_mark.false) c.in_err-declaration.ensures
      | else-is_function-via-else-is_function w ↦ unlike_function b _ _ _ _ d _ c.in_ok-specifiers.ensures.ok
          c.in_ok-declarator.ensures.0 (sym c.is_function.ensures ∙ w.if-is_function.false) c.in_err-declaration.ensures
    ])

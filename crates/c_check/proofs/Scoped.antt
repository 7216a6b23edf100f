-- Files that are judged from the first scope on.
use Rattle.std.specs.Prelude.{◌≡◌, List, Vec}
use Rattle.std.proofs.Common.{subst}
use Rattle.std.specs.declared.alloc.Global.{Global}
use Rattle.c_syntax.specs.Statements.{ExternalTree}
use Rattle.c_tree.specs.declared.program.Function.{Function}
use Rattle.c_typing.specs.Checked.{Note}
use Rattle.c_typing.specs.Files.{typed_units}
use Rattle.c_typing.specs.Names.{Scope}
use Rattle.c_check_expressions.specs.declared.judged.Judged.{Judged}
use Rattle.c_check_expressions.specs.Said.{IsSaid}
use Rattle.c_check.specs.ProgramAnswers.{AreFunctions}

-- what is known before the first file
pub scoped : (units : List (List ExternalTree)) (s t : Scope) (a : Judged (Vec Function Global))
    (before after : List Note) → s ≡ t → IsSaid AreFunctions (typed_units units s) a before after
    → IsSaid AreFunctions (typed_units units t) a before after
scoped units s t a before after e h = subst (λ u. IsSaid AreFunctions (typed_units units u) a before after) e h

-- A name that is called and means no function.
use Rattle.std.proofs.Common.{◌≡◌, sym, subst, List, []}
use Rattle.std.specs.Prelude.{Vec, Option}
use Rattle.std.specs.declared.alloc.Global.{Global}
use Rattle.pcc_base.specs.declared.fault.Fault.{Fault}
use Rattle.c_syntax.specs.declared.expression.Identifier.{Identifier as Ident}
use Rattle.c_tree.specs.declared.expression.Expression.{Expression as Built}
use Rattle.c_tree.specs.Program.{Arguments}
use Rattle.c_typing.specs.Checked.{Checked, Fails, Note, faults_in}
use Rattle.c_typing.specs.Expressions.{Given, arguments_for, called, not_called}
use Rattle.c_typing.specs.Names.{Meaning, Scope}
use Rattle.c_check_expressions.specs.declared.judged.Operand.{Operand}
use Rattle.c_check_expressions.specs.declared.judged.Judged.{Judged}
use Rattle.c_check_expressions.specs.Judged.{IsOperandOf}
use Rattle.c_check_expressions.specs.Parts.{Stands}
use Rattle.c_check_expressions.specs.Arguments.{AreArguments}
use Rattle.c_check_expressions.specs.Said.{IsSaid}
use Rattle.c_check_expressions.specs.Callees.{parameters_of}

pub uncalled : (m : Option Meaning) (f : Fault) (s : Scope) (x : Ident) (gs : List Given)
    (values : Judged (Vec Built Global)) (j : Judged Operand) (before between after : List Note)
    → parameters_of m ≡ [] → called s x gs m ≡ not_called f gs
    → ((c : Checked Arguments) (b a : List Note) → Stands AreArguments c values
    → IsSaid IsOperandOf (Fails f (faults_in c)) j b a)
    → IsSaid AreArguments (arguments_for (parameters_of m) gs) values before between
    → IsSaid IsOperandOf (called s x gs m) j before after
uncalled m f s x gs values j before between after none is judged said =
    subst (λ c. IsSaid IsOperandOf c j before after) (sym is) (judged (arguments_for [] gs) before after
    (subst (λ ps. Stands AreArguments (arguments_for ps gs) values) none said.0))

-- Calls of functions of the library.
use Rattle.std.proofs.Common.{◌≡◌, refl, sym, ap, subst, Bool, true, false, true≢false, Option, Some, None}
use Rattle.pcc_base.specs.declared.span.Span.{Span}
use Rattle.pcc_base.specs.declared.fault.FaultKind.TheVariants.{ArgumentCount}
use Rattle.c_tree.specs.Program as tree
use Rattle.c_tree.specs.Program.{Expression, Arguments, NoMore, Argument}
use Rattle.c_typing.specs.Expressions.{library_call}
use Rattle.c_typing.specs.Faults.{fault}
use Rattle.c_typing.specs.Library.{Putchar, Exit}
use Rattle.c_check_expressions.specs.declared.judged.Operand.{Operand}
use Rattle.c_check_expressions.specs.declared.judged.Judged.TheVariants as answers
use Rattle.c_check_expressions.specs.Judged.{IsJudged, IsOperandOf}
use Rattle.c_check_expressions.specs.Arguments.{first_of}

abbrev is_some : Option Expression → Bool
is_some None = false
is_some (Some e) = true

abbrev expression_or : Expression → Option Expression → Expression
expression_or e None = e
expression_or e (Some other) = other

pub putchar_none : (at : Span) (es : Arguments) → None ≡ first_of es
    → IsJudged (library_call at Putchar es) (answers.Fails (fault ArgumentCount at))
putchar_none at NoMore h = refl
putchar_none at (Argument e others) h = absurd (true≢false (sym (ap is_some h)))

pub putchar_some : (at : Span) (es : Arguments) (e : Expression) (o : Operand) → Some e ≡ first_of es
    → IsOperandOf (tree.Putchar e) o → IsJudged (library_call at Putchar es) (answers.Fits o)
putchar_some at NoMore e o h is = absurd (true≢false (ap is_some h))
putchar_some at (Argument f others) e o h is =
    subst (λ x. IsOperandOf (tree.Putchar x) o) (ap (expression_or e) h) is

pub exit_none : (at : Span) (es : Arguments) → None ≡ first_of es
    → IsJudged (library_call at Exit es) (answers.Fails (fault ArgumentCount at))
exit_none at NoMore h = refl
exit_none at (Argument e others) h = absurd (true≢false (sym (ap is_some h)))

pub exit_some : (at : Span) (es : Arguments) (e : Expression) (o : Operand) → Some e ≡ first_of es
    → IsOperandOf (tree.Exit e) o → IsJudged (library_call at Exit es) (answers.Fits o)
exit_some at NoMore e o h is = absurd (true≢false (ap is_some h))
exit_some at (Argument f others) e o h is =
    subst (λ x. IsOperandOf (tree.Exit x) o) (ap (expression_or e) h) is

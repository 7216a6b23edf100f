use Rattle.std.proofs.Common.{refl, sym, ap, ◌∙◌}
use Rattle.c_syntax.specs.Declarations.{Single, initialiser_of}
use Rattle.c_syntax.specs.Expressions.{expr_of}
use Rattle.c_typing.specs.Initialisers.{constants_in}
use Rattle.c_check_declarations.specs.ItemAnswers.{IsContents}
use Rattle.c_check_declarations.proofs.Initialised.{no_value_said}
use Rattle.c_check_declarations.proofs.initialisers.constants_in.Goals as goal

pub returns-in_ok-fault-in-Single : goal.returns-in_ok-fault-in-Single
returns-in_ok-fault-in-Single c = no_value_said IsContents
    (constants_in c.args.scopes.now c.args.element c.args.count) c.args.scopes.now c.args.element
    (initialiser_of c.args.value.now) (expr_of c.deref.result.now) c.in_ok-fault-in-Single.fault c.args.notes.now
    c.no_values.new.notes (ap initialiser_of c.in-Single.is ∙ ap (λ e. Single (expr_of e)) (sym c.deref.ensures))
    (sym c.in_default.ensures) refl c.in_ok-fault-in-Single.ensures

use Rattle.std.proofs.Common.{◌∙◌, sym}
use Rattle.c_syntax.specs.Expressions.{star_of}
use Rattle.c_typing.specs.Expressions.{first_word}
use Rattle.c_typing.specs.Types.{InCast, specified}
use Rattle.c_check_expressions.proofs.TypeNames.{type_fits, type_fails}
use Rattle.c_check_expressions.proofs.type_names.type_name.Goals as goal

pub returns-in-Some-pointed : goal.returns-in-Some-pointed
returns-in-Some-pointed c = type_fits c.args.opening (first_word c.args.specifiers.now) (star_of c.args.pointer.now)
    (specified InCast c.args.specifiers.now) c.in-Some.base c.in-Some-pointed.of
    (sym c.base.ensures ∙ c.in-Some.is) (sym c.pointed.ensures ∙ c.in-Some-pointed.is)

pub returns-in-None : goal.returns-in-None
returns-in-None c = type_fails c.args.opening (first_word c.args.specifiers.now) (star_of c.args.pointer.now)
    (specified InCast c.args.specifiers.now) c.in-Some.base
    (sym c.base.ensures ∙ c.in-Some.is) (sym c.pointed.ensures ∙ c.in-None.is)

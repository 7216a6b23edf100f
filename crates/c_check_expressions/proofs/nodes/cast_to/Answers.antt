use Rattle.std.proofs.Common.{◌≡◌}
use Rattle.std.proofs.lemmas.Result.{IfOk-weaker}
use Rattle.c_syntax.specs.Expressions.{star_of}
use Rattle.c_tree.specs.declared.types.ValueType.{ValueType}
use Rattle.c_typing.specs.Checked.{pair}
use Rattle.c_typing.specs.Expressions.{first_word, type_name}
use Rattle.c_typing.specs.Types.{InCast, specified}
use Rattle.c_check_expressions.specs.Judged.{IsOperandOf}
use Rattle.c_check_expressions.proofs.Answered.{grown_quiet, pair_said}
use Rattle.c_check_expressions.proofs.TypeNames.{quiet_type_name}
use Rattle.c_check_expressions.proofs.nodes.cast_to.Goals as goal

pub returns : goal.returns
returns c =
    let words = c.args.specifiers.now in
    let star = star_of c.args.pointer.now in
    let to = type_name c.args.opening words star in
    IfOk-weaker c.cast_of.result _ _ (λ j row part before after said. row (pair to part) before after
    (pair_said (λ (t u : ValueType). u ≡ t) IsOperandOf to part c.type_name-named.result c.args.part c.both.result
    before before after c.both.ensures (
      c.type_name-named.ensures,
      grown_quiet to before (quiet_type_name c.args.opening (first_word words) star (specified InCast words)),
    ) said)) c.cast_of.ensures

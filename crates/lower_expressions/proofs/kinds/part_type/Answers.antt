use Rattle.std.proofs.Common.{sym, ◌∙◌}
use Rattle.c_tree.specs.Erased.{expression_of}
use Rattle.lower_expressions.proofs.Known.{type-known}
use Rattle.lower_expressions.proofs.kinds.part_type.Goals as goal

pub returns : goal.returns
returns c = λ s. c.type_in.ensures ∙ sym (type-known s (expression_of c.args.e.now))

use Rattle.std.proofs.Common.{sym, ◌∙◌}
use Rattle.c_tree.specs.Erased.{expression_of}
use Rattle.lower_expressions.proofs.Known.{simple-known}
use Rattle.lower_expressions.proofs.kinds.is_simple.Goals as goal

pub returns : goal.returns
returns c = λ s. c.simple_form.ensures ∙ sym (simple-known s (expression_of c.args.e.now))

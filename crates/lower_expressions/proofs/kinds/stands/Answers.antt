use Rattle.std.proofs.Common.{sym, ◌∙◌}
use Rattle.c_tree.specs.Erased.{expression_of}
use Rattle.lower_builder.specs.Sites.{context_of}
use Rattle.lower_expressions.proofs.Known.{stands-known}
use Rattle.lower_expressions.proofs.kinds.stands.Goals as goal

pub returns : goal.returns
returns c = c.stands_in.ensures ∙ sym (stands-known (context_of c.args.site.now) (expression_of c.args.e.now))

use Rattle.std.proofs.Common.{rules}
use Rattle.lower_builder.specs.Sites.{context_of}
use Rattle.lower_expressions.proofs.Chained.{text-whole}
use Rattle.lower_expressions.proofs.items.copy_text.Goals as goal

pub returns : goal.returns
returns c = text-whole (context_of c.args.site.now) c.args.k c.args.t c.args.object c.in_ok-count.count
    _ c.in_ok-from.from (search rules) c.in_ok-count.ensures c.in_ok-from.ensures c.in_ok-emit.ensures
    c.in_ok-prepare_copy.ensures c.in_ok-copy_all.ensures

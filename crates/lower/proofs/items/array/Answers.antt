use Rattle.std.proofs.Common.{rules}
use Rattle.lower_builder.specs.Sites.{context_of}
use Rattle.lower.proofs.Resting.{text-array}
use Rattle.lower.proofs.items.array.Goals as goal

pub returns-in_ok-copy_text-in-Text : goal.returns-in_ok-copy_text-in-Text
returns-in_ok-copy_text-in-Text c = text-array (context_of c.args.site.now) c.args.k c.args.t c.in-Text.object
    (search rules) c.in_ok-clear_array.ensures c.in_ok-copy_text-in-Text.ensures

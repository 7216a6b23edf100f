use Rattle.std.proofs.Common.{◌≡◌}
use Rattle.std.specs.Prelude.{slice_get}
use Rattle.lower_lines.specs.Expressions.{all_simple, parameters_of}
use Rattle.lower_builder.specs.Sites.{context_of}
use Rattle.lower_expressions.specs.Passing.{passed_from}
use Rattle.lower_expressions.proofs.arguments.all_simple.Given as goal

abbrev pub invariant-loop-index : goal.invariant-loop-index
invariant-loop-index l =
    all_simple (passed_from (context_of l.site) (parameters_of (slice_get (context_of l.site).program.functions l.f))
    l.arguments l.place)
    ≡ all_simple (passed_from (context_of l.site) (parameters_of (slice_get (context_of l.site).program.functions l.f))
    l.arguments l.index)

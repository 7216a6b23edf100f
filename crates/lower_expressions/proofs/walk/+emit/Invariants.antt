use Rattle.std.specs.Prelude.{slice_get}
use Rattle.lower_lines.specs.Expressions.{parameters_of}
use Rattle.lower_builder.specs.Sites.{context_of}
use Rattle.lower_expressions.specs.Passing.{passed_from}
use Rattle.lower_expressions.proofs.Calling.{IsPassing}
use Rattle.lower_expressions.proofs.walk.+emit.Given as goal

abbrev pub invariant-call-arguments : goal.invariant-call-arguments
invariant-call-arguments l = IsPassing (context_of l.site)
    (passed_from (context_of l.site) (parameters_of (slice_get (context_of l.site).program.functions l.f))
    l.arguments 0)
    (passed_from (context_of l.site) (parameters_of (slice_get (context_of l.site).program.functions l.f))
    l.arguments l.place)
    l.level l.fn.lines l.own_level l.lines l.words.items

use Rattle.std.proofs.Common.{◌+◌, sym, ap, ◌∙◌}
use Rattle.std.specs.Prelude.{Bool, ◌&&◌, slice_get}
use Rattle.lower_lines.specs.Expressions.{all_simple, parameters_of}
use Rattle.lower_builder.specs.Sites.{context_of}
use Rattle.lower_expressions.specs.Passing.{passed_from}
use Rattle.lower_expressions.proofs.Calling.{simple-here, simple-past}
use Rattle.lower_expressions.proofs.arguments.all_simple.Goals as goal

pub loop-index-preserved : goal.loop-index-preserved
loop-index-preserved c =
    let s = context_of c.args.site.now in
    let ps = parameters_of (slice_get s.program.functions c.args.f) in
    let i = c.loop-index.index in
    c.loop-index.invariant
    ∙ simple-here s ps c.args.arguments.now i c.index-arguments-index.result c.parameter_type.result
    c.passed_simple-here.result c.loop-index-test.true c.index-arguments-index.is c.parameter_type.ensures
    c.passed_simple-here.ensures
    ∙ ap (λ (b : Bool). b && all_simple (passed_from s ps c.args.arguments.now (i + 1))) c.if-not-here.false

pub returns-then-not-here : goal.returns-then-not-here
returns-then-not-here c =
    let s = context_of c.args.site.now in
    let ps = parameters_of (slice_get s.program.functions c.args.f) in
    let i = c.loop-index.index in
    sym (c.loop-index.invariant
    ∙ simple-here s ps c.args.arguments.now i c.index-arguments-index.result c.parameter_type.result
    c.passed_simple-here.result c.loop-index-test.true c.index-arguments-index.is c.parameter_type.ensures
    c.passed_simple-here.ensures
    ∙ ap (λ (b : Bool). b && all_simple (passed_from s ps c.args.arguments.now (i + 1))) c.if-not-here.true)

pub returns : goal.returns
returns c =
    let s = context_of c.args.site.now in
    let ps = parameters_of (slice_get s.program.functions c.args.f) in
    simple-past s ps c.args.arguments.now c.loop-index.index c.loop-index-test.false ∙ sym c.loop-index.invariant

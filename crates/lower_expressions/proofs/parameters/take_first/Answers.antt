use Rattle.std.proofs.Common.{◌∙◌, ◌+◌, ap}
use Rattle.lower_builder.specs.Sites.{context_of}
use Rattle.lower_expressions.proofs.Words.{stepped}
use Rattle.lower_expressions.proofs.Chained.{same-next}
use Rattle.lower_expressions.proofs.parameters.take_first.Goals as goal

pub locals-preserved : goal.locals-preserved
locals-preserved c = record {
  lines = stepped (context_of c.args.site.now) c.args.locals.now c.args.count c.locals.local c.locals.word
      c.in_ok-word.word c.index-locals-local.result _ _ _ c.locals-test.true c.if-local-locals.true
      c.in_ok-parameter.ensures.lines
      (c.in_ok-word.ensures ∙ ap (λ n. c.locals.word + n) c.words_in.ensures) c.locals.invariant.lines;
  next = same-next c.in_ok-parameter.ensures ∙ c.locals.invariant.next;
}

use Rattle.std.proofs.Common.{◌∙◌, sym, true≢false}
use Rattle.map_file.specs.Views.{map_of}
use Rattle.map_file.proofs.rules.is_function.Goals as goal

pub returns-then-not-has_parts : goal.returns-then-not-has_parts
returns-then-not-has_parts c = (
  λ e. absurd (true≢false (sym e)),
  λ is. sym c.if-not-has_parts.true ∙ c.has_parts.ensures.wrong (map_of c.args.file.now) is,
)

pub returns-then-not-distinct : goal.returns-then-not-distinct
returns-then-not-distinct c = (
  λ e. absurd (true≢false (sym e)),
  λ is. sym c.if-not-distinct.true ∙ c.in_ok-distinct.ensures.1 is.distinct,
)

pub returns : goal.returns
returns c = (
  λ e. c.has_parts.ensures.right c.if-not-has_parts.false (map_of c.args.file.now) (c.in_ok-are.ensures.0 e)
      (c.in_ok-distinct.ensures.0 c.if-not-distinct.false),
  λ is. c.in_ok-are.ensures.1 is.points,
)

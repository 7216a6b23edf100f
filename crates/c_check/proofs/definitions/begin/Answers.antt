use Rattle.std.proofs.Common.{ap, ◌∙◌, length, map}
use Rattle.c_syntax.specs.Declarations.{parameter_of}
use Rattle.c_typing.specs.Names.{Scope}
use Rattle.c_check.proofs.Bodies.{begun}
use Rattle.c_check.proofs.definitions.begin.Goals as goal

pub returns : goal.returns
returns c = (
  begun c.args.scopes.now c.take_locals-others.new.self c.enter.new.self c.parameters.new.scopes
      (map parameter_of c.args.list.now) c.take_locals-others.ensures.left c.in_ok-mark.ensures.0
      c.in_ok-types.ensures.scope,
  c.in_ok-mark.ensures.1 ∙ ap (λ (x : Scope). length x.names) c.take_locals-others.ensures.left,
  c.in_ok-mark.ensures.2 ∙ ap (λ (x : Scope). x.depth) c.take_locals-others.ensures.left,
)

use Rattle.std.proofs.Common.{refl, ◌∙◌, map, drop, ◌+◌}
use Rattle.c_syntax.specs.Declarations.{parameter_of}
use Rattle.c_typing.specs.Declarators.{typed_each, typed_parameter}
use Rattle.c_check_declarations.specs.DeclaratorAnswers.{IsSame}
use Rattle.c_check_declarations.proofs.Lists.{AreTheSame, gathered_none, gathered_one, push_same}
use Rattle.c_check_declarations.proofs.Sized.{next_scope, next_typed}
use Rattle.c_check_declarations.proofs.parameter_lists.each.Goals as goal

pub loop-p-init : goal.loop-p-init
loop-p-init c = record {
  gathered = gathered_none AreTheSame
      (typed_each c.args.scopes.now c.args.definition (map parameter_of c.args.list.now))
      c.new.result c.args.notes.now c.new.ensures.items;
  scope = refl;
}

pub loop-p-preserved : goal.loop-p-preserved
loop-p-preserved c =
    let ps = c.args.list.now in
    let i = c.loop-p.p-index in
    let p = c.p-item.result in
    let s = c.loop-p.scopes in
    let t = c.parameter.new.scopes in
    record {
      gathered = gathered_one AreTheSame IsSame push_same
          (typed_each c.args.scopes.now c.args.definition (map parameter_of ps))
          (typed_each s c.args.definition (map parameter_of (drop i ps)))
          (typed_each t c.args.definition (map parameter_of (drop (i + 1) ps)))
          (typed_parameter s c.args.definition (parameter_of p)) c.loop-p.types c.in_ok-types.types c.in_ok-part.part
          c.args.notes.now c.loop-p.notes c.parameter.new.notes
          (next_typed s t c.args.definition ps i p c.loop-p-test.true c.p-item.is c.in_ok-part.ensures.scope)
          c.in_ok-types.ensures c.in_ok-part.ensures.said c.loop-p.invariant.gathered;
      scope = next_scope s t ps i p c.loop-p-test.true c.p-item.is c.in_ok-part.ensures.scope
          ∙ c.loop-p.invariant.scope;
    }

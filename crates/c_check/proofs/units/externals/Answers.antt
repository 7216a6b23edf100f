use Rattle.std.proofs.Common.{refl, ◌∙◌, map, drop, ◌+◌}
use Rattle.c_syntax.specs.Statements.{external_of}
use Rattle.c_typing.specs.Files.{typed_external, typed_unit}
use Rattle.c_check_declarations.proofs.Lists.{gathered_some, rejoined}
use Rattle.c_check.specs.FileAnswers.{AreFunction}
use Rattle.c_check.proofs.Externals.{AreFunctionsOf, next_scope, next_typed, push_function}
use Rattle.c_check.proofs.units.externals.Goals as goal

pub loop-one-init : goal.loop-one-init
loop-one-init c = record {
  gathered = λ front before said. record { front = front; said = said; same = refl };
  scope = refl;
}

pub loop-one-preserved : goal.loop-one-preserved
loop-one-preserved c =
    let es = c.args.list.now in
    let n = c.loop-one.one-index in
    let e = c.one-item.result in
    let s = c.loop-one.scopes in
    let t = c.external.new.scopes in
    record {
      gathered = λ front before said.
          gathered_some AreFunctionsOf AreFunction push_function
          (rejoined front (typed_unit (map external_of es) c.args.scopes.now))
          (typed_unit (map external_of (drop n es)) s)
          (typed_unit (map external_of (drop (n + 1) es)) t)
          (typed_external (external_of e) s) c.loop-one.functions c.in_ok-functions.functions c.in_ok-part.part
          before c.loop-one.notes c.external.new.notes
          (next_typed s t es n e c.loop-one-test.true c.one-item.is c.in_ok-part.ensures.scope)
          c.in_ok-functions.ensures c.in_ok-part.ensures.said (c.loop-one.invariant.gathered front before said);
      scope = next_scope s t es n e c.loop-one-test.true c.one-item.is c.in_ok-part.ensures.scope
          ∙ c.loop-one.invariant.scope;
    }

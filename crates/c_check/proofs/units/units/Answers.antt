use Rattle.std.proofs.Common.{ap, map, drop, ◌+◌}
use Rattle.c_syntax.specs.Statements.{unit_of}
use Rattle.c_tree.specs.Erased.{function_of}
use Rattle.c_typing.specs.Files.{typed_unit, typed_units}
use Rattle.c_check.proofs.Passed.{passed_more, passed_none}
use Rattle.c_check.specs.FileAnswers.{AreFunctions}
use Rattle.c_check.proofs.Externals.{next_unit}
use Rattle.c_check.proofs.units.units.Goals as goal

pub loop-one-init : goal.loop-one-init
loop-one-init c = record {
  passed = passed_none AreFunctions (typed_units (map unit_of c.args.units.now) c.args.scopes.now) c.new.result
      c.args.notes.now (ap (map function_of) c.new.ensures.items);
}

pub loop-one-preserved : goal.loop-one-preserved
loop-one-preserved c =
    let us = c.args.units.now in
    let n = c.loop-one.one-index in
    let u = c.one-item.result in
    let s = c.loop-one.scopes in
    let t = c.unit.new.scopes in
    let v = c.next_file.new.self in
    record {
      passed = passed_more AreFunctions
          (typed_units (map unit_of us) c.args.scopes.now)
          (typed_units (map unit_of (drop n us)) s)
          (typed_units (map unit_of (drop (n + 1) us)) v)
          (typed_unit (unit_of u) s) c.loop-one.functions c.in_ok-functions.functions
          c.args.notes.now c.loop-one.notes c.unit.new.notes
          (next_unit s t v us n u c.loop-one-test.true c.one-item.is c.in_ok-functions.ensures.scope
          c.in_ok-next_file.ensures)
          (λ front said. c.in_ok-functions.ensures.said front c.args.notes.now said)
          c.loop-one.invariant.passed;
    }

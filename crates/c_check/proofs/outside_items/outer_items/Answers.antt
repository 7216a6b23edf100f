use Rattle.std.proofs.Common.{refl, ◌∙◌, map, drop, ◌+◌}
use Rattle.c_syntax.specs.Declarations.{item_of}
use Rattle.c_typing.specs.Files.{typed_outer_items}
use Rattle.c_check_declarations.specs.Views.{specified_of}
use Rattle.c_check.specs.OutsideAnswers.{AreNone}
use Rattle.c_check.proofs.Passed.{joined_said, passed_more, passed_none}
use Rattle.c_check.proofs.StaticObjects.{next_scope, next_typed, one_item}
use Rattle.c_check.proofs.outside_items.outer_items.Goals as goal

pub loop-one-init : goal.loop-one-init
loop-one-init c = record {
  passed = passed_none AreNone
      (typed_outer_items (specified_of c.args.said) (map item_of c.args.list.now) c.args.scopes.now)
      _ c.args.notes.now refl;
  scope = refl;
}

pub loop-one-preserved : goal.loop-one-preserved
loop-one-preserved c =
    let is = c.args.list.now in
    let n = c.loop-one.one-index in
    let i = c.one-item.result in
    let said = specified_of c.args.said in
    let s = c.loop-one.scopes in
    let t = c.outer_item.new.scopes in
    record {
      passed = passed_more AreNone
          (typed_outer_items said (map item_of is) c.args.scopes.now)
          (typed_outer_items said (map item_of (drop n is)) s)
          (typed_outer_items said (map item_of (drop (n + 1) is)) t)
          (one_item said (item_of i) s) c.loop-one.so_far c.joined-so_far.result
          c.args.notes.now c.loop-one.notes c.outer_item.new.notes
          (next_typed s t said is n i c.loop-one-test.true c.one-item.is c.in_ok-part.ensures.scope)
          (joined_said (one_item said (item_of i) s) c.loop-one.so_far c.joined-so_far.result c.in_ok-part.part
          c.args.notes.now c.loop-one.notes c.outer_item.new.notes c.joined-so_far.ensures c.in_ok-part.ensures.said)
          c.loop-one.invariant.passed;
      scope = next_scope s t said is n i c.loop-one-test.true c.one-item.is c.in_ok-part.ensures.scope
          ∙ c.loop-one.invariant.scope;
    }

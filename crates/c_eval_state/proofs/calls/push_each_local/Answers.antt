use Rattle.std.specs.Prelude.{slice_get}
use Rattle.c_eval_state.specs.Kept.{first_value}
use Rattle.std.proofs.Common.{◌∙◌, ap, sym, ◌+◌, map, drop}
use Rattle.c_eval_state.specs.Values.{held_of}
use Rattle.c_tree.specs.Erased.{local_of}
use Rattle.c_tree.specs.Store.{first_values}
use Rattle.c_eval_state.proofs.Seen.{first-step, local-pushed, kept-pushed}
use Rattle.c_eval_state.proofs.calls.push_each_local.Goals as goal

pub loop-i-preserved : goal.loop-i-preserved
loop-i-preserved c =
    let h = c.loop-i.invariant in
    let i = c.loop-i.i in
    let arguments = map held_of c.args.arguments.now in
    let locals = map local_of c.args.locals.now in
    let step = first-step c.args.locals.now arguments i c.index-locals-i.result c.loop-i-test.true
    c.index-locals-i.is in (
      local-pushed held_of c.loop-i.values.items c.push.new.self.items c.first_value.result _
          (first_values (drop i locals) (drop i arguments)) (first_values (drop (i + 1) locals) (drop
          (i + 1) arguments)) _
          h.0 step c.in_ok-push.ensures.items
          (c.first_value.ensures ∙ ap (λ l. first_value l.of (slice_get arguments i)) (sym c.index-locals-i.is)),
      kept-pushed c.args.values.now.items c.loop-i.values.items c.push.new.self.items c.first_value.result h.1
          c.in_ok-push.ensures.items,
    )

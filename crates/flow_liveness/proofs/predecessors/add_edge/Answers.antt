use Rattle.std.proofs.Common.{◌<◌, length, IfSome, Some, sym, ap, subst, ◌∙◌}
use Rattle.std.proofs.lemmas.Option.{same_Some}
use Rattle.std.proofs.lemmas.Result.{on_ok_weaker}
use Rattle.flow_liveness.proofs.Adding.{adds-push, adds-same, ok-alone}
use Rattle.flow_liveness.proofs.predecessors.add_edge.Goals as goal

pub returns-in-Some : goal.returns-in-Some
returns-in-Some c =
    on_ok_weaker c.push.result (λ e. rw e (adds-same _ _ _ _
    (λ x p m. (m.0, c.in-Some.is ∙ ap Some (sym m.1)))
    (λ x p m. (m.0, sym (same_Some c.in-Some.next p (sym c.in-Some.is ∙ m.1))))
    (adds-push _ c.in-Some.next c.args.from (subst (λ o. IfSome o (λ n. n < length c.args.predecessors.now))
    c.in-Some.is c.requires)))) (ok-alone _ _ c.push.result c.push.ensures)

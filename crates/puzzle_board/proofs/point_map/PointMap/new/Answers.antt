use Rattle.std.proofs.Common.{ℕ, ◌≡◌, ◌∙◌, ◌+◌, ◌∷◌, ◌++◌, [], List, ap, length, replicate, sym}
use Rattle.std.proofs.lemmas.List.{length-replicate, replicate_more}
use Rattle.puzzle_board.proofs.point_map.PointMap.new.Goals as goal

one_more : {A : Type 0} (n : ℕ) (none row : A) (old new : List A) → old ≡ replicate n none → row ≡ none
    → new ≡ old ++ row ∷ [] → new ≡ replicate (n + 1) none
one_more n none row old new before made pushed = rw (pushed, before, made) (replicate_more n none)

pub loop-point-preserved : goal.loop-point-preserved
loop-point-preserved c =
    let i = c.loop-point.invariant in (
      one_more _ _ _ _ _ i.0 c.new.ensures c.in_ok-push.ensures.items,
      one_more _ _ _ _ _ i.1 c.new-in-loop-point.ensures c.in_ok-push-2.ensures.items,
      one_more _ _ _ _ _ i.2 c.new-in-loop-point-2.ensures c.in_ok-push-3.ensures.items,
    )

pub invariant_of-result : goal.invariant_of-result
invariant_of-result c =
    let i = c.loop-point.invariant in
    let before : length c.loop-point.before.items ≡ c.loop-point._point =
    ap length i.0 ∙ length-replicate c.loop-point._point _ in record {
      same_after = (ap length i.1 ∙ length-replicate c.loop-point._point _) ∙ sym before;
      same_spilled = (ap length i.2 ∙ length-replicate c.loop-point._point _) ∙ sym before;
    }

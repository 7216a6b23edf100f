use Rattle.std.proofs.Common.{ℕ, ◌≡◌, ◌+◌, ◌∷◌, ◌++◌, [], List, arith, replicate}
use Rattle.std.proofs.lemmas.List.{replicate_more}
use Rattle.flow_liveness.proofs.lists.Lists.new.Goals as goal

one_more : {A : Type 0} (n : ℕ) (row : List A) (old new : List (List A)) → old ≡ replicate n [] → row ≡ []
    → new ≡ old ++ row ∷ [] → new ≡ replicate (n + 1) []
one_more n row old new before none pushed = rw (pushed, before, none) (replicate_more n [])

pub loop-place-preserved : goal.loop-place-preserved
loop-place-preserved g c = one_more _ _ _ _ c.loop-place.invariant c.new.ensures c.in_ok-push.ensures.items

pub returns : goal.returns
returns g c = rw (← (let all : c.loop-place._place ≡ c.args.places = omega arith in all)) c.loop-place.invariant

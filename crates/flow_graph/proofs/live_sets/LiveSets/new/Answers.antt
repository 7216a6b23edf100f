use Rattle.std.proofs.Common.{ℕ, ◌≡◌, ◌+◌, ◌∷◌, ◌++◌, [], List, ◌∙◌, ap, arith, replicate, sym, subst}
use Rattle.std.specs.List.{AllByRecursion}
use Rattle.std.proofs.lemmas.List.{replicate_more}
use Rattle.flow_graph.specs.Lives.{IsAscending, Lives, nothing_live}
use Rattle.flow_graph.proofs.Ascending.{ascending-none}
use Rattle.flow_graph.proofs.live_sets.LiveSets.new.Goals as goal

one_more : (n : ℕ) (vs : List ℕ) (old new : List (List ℕ)) → old ≡ replicate n [] → vs ≡ []
    → new ≡ old ++ vs ∷ [] → new ≡ replicate (n + 1) []
one_more n vs old new before none pushed = rw (pushed, before, none) (replicate_more n [])

abbrev lives_of : List (List ℕ) → List (List ℕ) → Lives
lives_of before after = record { before = before; after = after }

none_live : (n points : ℕ) (lives : Lives) → n ≡ points → lives.before ≡ replicate n [] → lives.after ≡ replicate n []
    → lives ≡ nothing_live points
none_live n points lives all before after =
    ap (λ (xs : List (List ℕ)). lives_of xs lives.after) before
    ∙ ap (λ (xs : List (List ℕ)). lives_of (replicate n []) xs) after
    ∙ ap nothing_live all

pub loop-point-preserved : goal.loop-point-preserved
loop-point-preserved c =
    let i = c.loop-point.invariant in (
      one_more _ _ _ _ i.0 c.new.ensures c.in_ok-push.ensures.items,
      one_more _ _ _ _ i.1 c.new-in-loop-point.ensures c.in_ok-push-2.ensures.items,
    )

pub invariant_of-result : goal.invariant_of-result
invariant_of-result c =
    let n = c.loop-point._point in
    let i = c.loop-point.invariant in
    record {
      same_points = cc;
      before = subst (AllByRecursion IsAscending) (sym i.0) (ascending-none n);
      after = subst (AllByRecursion IsAscending) (sym i.1) (ascending-none n);
    }

pub returns : goal.returns
returns c =
    let i = c.loop-point.invariant in
    none_live c.loop-point._point c.args.points _ (omega arith) i.0 i.1

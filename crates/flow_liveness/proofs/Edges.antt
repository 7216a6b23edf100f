-- What is noted of a point is where it leads.
use Rattle.std.proofs.Common.{ℕ, ◌≡◌, ◌⊎◌, inl, inr, ◌↔◌, List, Option, Some, sym, ◌∙◌}
use Rattle.std.specs.List.{slice_get}
use Rattle.flow_graph.specs.declared.op.Op.{Op}
use Rattle.flow_graph.specs.Graphs.{Flow, IsPlaced, points_of}
use Rattle.flow_graph.specs.Liveness.{IsBehind, IsSuccessor}
use Rattle.flow_liveness.specs.declared.ways.Way.{Way}
use Rattle.flow_liveness.specs.declared.ways.Way.TheVariants.{Next, Block, Either, Nowhere}
use Rattle.flow_liveness.specs.Lists.{Adds}
use Rattle.flow_liveness.specs.Ways.{Leads, way_of}
use Rattle.flow_liveness.proofs.Adding.{adds-none, adds-same, adds-then}
use Rattle.flow_liveness.proofs.SameWay.{successor-way}

-- a point with its op and its way
pub record Going (flow : Flow) (from : ℕ) (way : Way) : Type 0 where
  pub op : Op
  pub placed : IsPlaced flow from
  pub has : slice_get flow.ops from ≡ Some op
  pub same : way ≡ way_of op

-- what leads on by its way is noted
told : (flow : Flow) (from : ℕ) (way : Way) (M : ℕ → Type 0) (a b : List (List ℕ)) → Going flow from way
    → ((q : ℕ) → M q ↔ Leads flow from q way) → Adds a b (λ x q. (x ≡ from) × M q)
    → Adds a b (λ x q. (x ≡ from) × IsSuccessor flow from q)
told flow from way M a b g f adds =
    adds-same a b (λ x q. (x ≡ from) × M q) (λ x q. (x ≡ from) × IsSuccessor flow from q)
    (λ x q m. (m.0, (successor-way flow from g.op way g.placed g.has g.same q).1 ((f q).0 m.1)))
    (λ x q s. (s.0, (f q).1 ((successor-way flow from g.op way g.placed g.has g.same q).0 s.1)))
    adds

-- the point behind it
pub told-next : (flow : Flow) (from : ℕ) (to : Option ℕ) (a b : List (List ℕ)) → Going flow from Next
    → ((q : ℕ) → IsBehind flow from q ↔ (to ≡ Some q)) → Adds a b (λ x q. (x ≡ from) × (to ≡ Some q))
    → Adds a b (λ x q. (x ≡ from) × IsSuccessor flow from q)
told-next flow from to a b g f adds =
    told flow from Next (λ q. to ≡ Some q) a b g (λ q. ((f q).1, (f q).0)) adds

-- the first point of a block
pub told-block : (flow : Flow) (from block : ℕ) (to : Option ℕ) (a b : List (List ℕ)) → Going flow from (Block block)
    → to ≡ slice_get (points_of flow block) 0 → Adds a b (λ x q. (x ≡ from) × (to ≡ Some q))
    → Adds a b (λ x q. (x ≡ from) × IsSuccessor flow from q)
told-block flow from block to a b g first adds =
    told flow from (Block block) (λ q. to ≡ Some q) a b g (λ q. ((λ e. sym first ∙ e), (λ e. first ∙ e))) adds

-- the first points of two blocks
pub told-either : (flow : Flow) (from x y : ℕ) (to other : Option ℕ) (a b c : List (List ℕ))
    → Going flow from (Either x y) → to ≡ slice_get (points_of flow x) 0 → other ≡ slice_get (points_of flow y) 0
    → Adds a b (λ p q. (p ≡ from) × (to ≡ Some q)) → Adds b c (λ p q. (p ≡ from) × (other ≡ Some q))
    → Adds a c (λ p q. (p ≡ from) × IsSuccessor flow from q)
told-either flow from x y to other a b c g first second adds more =
    told flow from (Either x y) (λ q. (to ≡ Some q) ⊎ (other ≡ Some q)) a c g (λ q. (there q, here q))
    (adds-same a c (λ p q. ((p ≡ from) × (to ≡ Some q)) ⊎ ((p ≡ from) × (other ≡ Some q)))
    (λ p q. (p ≡ from) × ((to ≡ Some q) ⊎ (other ≡ Some q))) join split
    (adds-then a b c (λ p q. (p ≡ from) × (to ≡ Some q)) (λ p q. (p ≡ from) × (other ≡ Some q)) adds more))
  where
    there : (q : ℕ) → (to ≡ Some q) ⊎ (other ≡ Some q) → Leads flow from q (Either x y)
    there q (inl e) = inl (sym first ∙ e)
    there q (inr e) = inr (sym second ∙ e)

    here : (q : ℕ) → Leads flow from q (Either x y) → (to ≡ Some q) ⊎ (other ≡ Some q)
    here q (inl e) = inl (first ∙ e)
    here q (inr e) = inr (second ∙ e)

    join : (p q : ℕ) → ((p ≡ from) × (to ≡ Some q)) ⊎ ((p ≡ from) × (other ≡ Some q))
        → (p ≡ from) × ((to ≡ Some q) ⊎ (other ≡ Some q))
    join p q (inl m) = (m.0, inl m.1)
    join p q (inr m) = (m.0, inr m.1)

    split : (p q : ℕ) → (p ≡ from) × ((to ≡ Some q) ⊎ (other ≡ Some q))
        → ((p ≡ from) × (to ≡ Some q)) ⊎ ((p ≡ from) × (other ≡ Some q))
    split p q (e, inl m) = inl (e, m)
    split p q (e, inr m) = inr (e, m)

-- no point
pub told-nowhere : (flow : Flow) (from : ℕ) (a : List (List ℕ)) → Going flow from Nowhere
    → Adds a a (λ x q. (x ≡ from) × IsSuccessor flow from q)
told-nowhere flow from a g =
    adds-none a (λ x q. (x ≡ from) × IsSuccessor flow from q)
    (λ x q s. (successor-way flow from g.op Nowhere g.placed g.has g.same q).0 s.1)

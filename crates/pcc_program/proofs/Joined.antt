-- The blocks of a graph have no more points than the graph.
use Rattle.std.proofs.Common.{◌≡◌, ◌<◌, ◌≤◌, ℕ, suc, List, [], ◌∷◌, ◌++◌, length, Some}
use Rattle.std.proofs.Common.{refl, sym, ap, subst, arith}
use Rattle.std.specs.Prelude.{flat_map, slice_get, slice_index_or}
use Rattle.std.specs.List.{AllByRecursion}
use Rattle.std.proofs.lemmas.Option.{slice_get_within}
use Rattle.pcc_base.proofs.Lists.{all-append, all-weaker}
use Rattle.flow_graph.specs.Graphs.{Flow, IsDistinct, IsFlow, points_of}
use Rattle.flow_liveness.specs.Names.{joined}
use Rattle.allocator.specs.SplitForms.{placed_count}
use Rattle.ia32_placements.proofs.Few.{few}
use Rattle.map_lines.proofs.Blocks.{all-distinct}

joined-is : (blocks : List (List ℕ)) → joined blocks ≡ flat_map (λ points. points) blocks
joined-is [] = refl
joined-is (points ∷ blocks) = ap (λ (ps : List ℕ). points ++ ps) (joined-is blocks)

-- a point of a block has a home
joined-below : (homes : List ℕ) (blocks : List (List ℕ))
    → ((k : ℕ) → AllByRecursion (λ p. p < length homes) (slice_index_or blocks k []))
    → AllByRecursion (λ p. p < length homes) (joined blocks)
joined-below homes [] each = tt
joined-below homes (points ∷ blocks) each =
    all-append (λ p. p < length homes) points (joined blocks) (each 0)
    (joined-below homes blocks (λ k. each (suc k)))

pub few-placed : (flow : Flow) (homes : List ℕ) → IsFlow flow homes → placed_count flow ≤ length flow.ops
few-placed flow homes is =
    let once : IsDistinct (joined flow.blocks) =
    subst (λ (ps : List ℕ). IsDistinct ps) (sym (joined-is flow.blocks)) (all-distinct flow homes is) in
    let below : AllByRecursion (λ p. p < length homes) (joined flow.blocks) =
    joined-below homes flow.blocks (λ k.
    all-weaker (λ p. slice_get homes p ≡ Some k) (λ p. p < length homes) (points_of flow k)
    (λ p at. slice_get_within homes p k at) (is.each_block k).at_home) in
    let most = few (λ v. v < length homes) (λ v h. v) (length homes) (λ v h. h) (λ v w h g other. other)
    (joined flow.blocks) once below in
    omega (arith, most, is.one_home)

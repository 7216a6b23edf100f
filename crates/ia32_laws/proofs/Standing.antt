-- Where the items of a graph stand, its blocks stand behind their labels.
use Rattle.std.proofs.Common.{◌≡◌, ℕ, suc, zero, ◌+◌, ◌<◌, List, [], ◌∷◌, ◌++◌, length, Some, refl, sym, ap, subst}
use Rattle.std.proofs.Common.{◌∙◌, arith, append_assoc}
use Rattle.std.specs.Prelude.{slice_get, slice_index_or}
use Rattle.std.proofs.lemmas.Option.{none-some, same_Some}
use Rattle.ia32_insn.specs.declared.item.Item.{Item}
use Rattle.ia32_insn.specs.declared.item.Item.TheVariants as item
use Rattle.flow_graph.specs.Graphs.{Flow, points_of}
use Rattle.flow_graph.specs.States.{flow_at}
use Rattle.ia32_rows.specs.Placements.{Placement, placement_of}
use Rattle.ia32_rows.specs.Sites.{StandsFrom}
use Rattle.ia32_rows.specs.Rows.{block_rows, entry_label, headers, point_rows, prologue}
use Rattle.ia32_laws.specs.Supports.{site_of}
use Rattle.ia32_laws.specs.CoresOps.{BlocksStand}

-- the rows of blocks, parted at the label of one
record PartedAt (flow : Flow) (placement : Placement) (k l : ℕ) (blocks : List (List ℕ)) (points : List ℕ) : Type 0
  where
    front : List Item
    rest : List Item
    parts : block_rows flow placement k blocks
        ≡ front ++ (item.Label l ∷ (point_rows flow placement points ++ rest))

parted-at : (flow : Flow) (placement : Placement) (k l x : ℕ) (blocks : List (List ℕ)) → x < length blocks
    → l ≡ k + x → PartedAt flow placement k l blocks (slice_index_or blocks x [])
parted-at flow placement k l x [] h e = absurd (omega (arith, h))
parted-at flow placement k l zero (points ∷ blocks) h e =
    record {
      front = [];
      rest = block_rows flow placement (suc k) blocks;
      parts = ap (λ (n : ℕ).
          item.Label n ∷ (point_rows flow placement points ++ block_rows flow placement (suc k) blocks))
          (let same : k ≡ l = omega (arith, e) in same);
    }
parted-at flow placement k l (suc x) (points ∷ blocks) h e =
    let later = parted-at flow placement (suc k) l x blocks (omega (arith, h)) (omega (arith, e)) in
    let this : List Item = item.Label k ∷ point_rows flow placement points in
    let tail : List Item =
    item.Label l ∷ (point_rows flow placement (slice_index_or blocks x []) ++ later.rest) in
    record {
      front = this ++ later.front;
      rest = later.rest;
      parts = ap (λ (items : List Item). this ++ items) later.parts ∙ sym (append_assoc this later.front tail);
    }

-- rows of points begin with the first of them
begins-with : (flow : Flow) (placement : Placement) (points : List ℕ) (rest : List Item) (q : ℕ)
    → slice_get points 0 ≡ Some q
    → (more : List Item) × (point_rows flow placement points ++ rest ≡ item.Point q ∷ more)
begins-with flow placement [] rest q e = absurd (none-some q e)
begins-with flow placement (p ∷ points) rest q e =
    subst (λ (n : ℕ). (more : List Item) × (point_rows flow placement (p ∷ points) ++ rest ≡ item.Point n ∷ more))
    (same_Some p q e) (_, refl)

pub blocks-stand : BlocksStand
blocks-stand code g start block stands below =
    let flow : Flow = flow_at code.program g.current.function in
    let placement : Placement = placement_of code g.current.function in
    let first : List Item = prologue placement.frame placement.zeroed (entry_label flow) in
    let numbers : List Item = headers flow.arrays placement.arrays in
    let parted = parted-at flow placement 0 block block flow.blocks below
    (let e : block ≡ 0 + block = omega arith in e) in
    let back : List Item = point_rows flow placement (points_of flow block) ++ parted.rest in
    record {
      front = first ++ (numbers ++ parted.front);
      back = back;
      start = start;
      stands = subst (λ (items : List Item). StandsFrom (site_of code g.current.function) items start)
          (ap (λ (items : List Item). first ++ (numbers ++ items)) parted.parts
          ∙ grouped first numbers parted.front (item.Label block ∷ back)) stands;
      begins = λ q e. begins-with flow placement (points_of flow block) parted.rest q e;
    }
  where
    grouped : (a b c d : List Item) → a ++ (b ++ (c ++ d)) ≡ (a ++ (b ++ c)) ++ d
    grouped a b c d = simp append_assoc refl

-- The rows of points, the first points of blocks and the prologues of functions stand in the text.
use Rattle.std.proofs.Common.{◌≡◌, ℕ, ◌+◌, ◌<◌, List, [], ◌∷◌, ◌++◌, length, Some, Option, refl, sym}
use Rattle.std.proofs.Common.{subst, ◌∙◌}
use Rattle.std.specs.Prelude.{slice_get, slice_index_or}
use Rattle.std.proofs.lemmas.Option.{get_or_from_slice_get, none-some, same_Some}
use Rattle.ia32_insn.specs.declared.item.Item.{Item}
use Rattle.ia32_insn.specs.declared.item.Item.TheVariants as item
use Rattle.ia32_insn.specs.Items.{ItemsAt}
use Rattle.flow_graph.specs.declared.op.Op.{Op}
use Rattle.flow_graph.specs.declared.op.Op.TheVariants as op
use Rattle.flow_graph.specs.Graphs.{Flow, Stands, following, points_of}
use Rattle.flow_graph.specs.States.{flow_at, op_of}
use Rattle.ia32_rows.specs.Paths.{IsAt}
use Rattle.ia32_rows.specs.Placements.{Code, Placement, placement_of, point_address}
use Rattle.ia32_rows.specs.Sites.{Site, StandsFrom}
use Rattle.ia32_rows.specs.Rows.{block_rows, entry_label, headers, moves_to, prologue, row, selected}
use Rattle.ia32_rows.proofs.Laid.{StandsThere, back-there, behind-there, point-there, row-in-graph}
use Rattle.ia32_laws.specs.Supports.{site_of}
use Rattle.ia32_laws.proofs.Memory.{address-at}
use Rattle.ia32_laws.proofs.Standing.{blocks-stand}
use Rattle.ia32_laws.specs.StandingLaws.{EntriesStand, FunctionStands, IsSelected, LabelsStand, PointsStand}
use Rattle.ia32_laws.specs.StandingLaws.{RowsStand}
use Rattle.ia32_laws.proofs.Functions.{function-stands}

-- ---- items of a site

-- items that stand in a site, in the words of `ia32_rows`, and back
pub there-of : (site : Site) (items : List Item) (address : ℕ) → StandsFrom site items address
    → StandsThere site.symbols site.places site.text items address
there-of site items address h = record { bytes = h.bytes; here = h.here; stand = h.stand }

pub from-there : (site : Site) (items : List Item) (address : ℕ)
    → StandsThere site.symbols site.places site.text items address → StandsFrom site items address
from-there site items address h = record { bytes = h.bytes; here = h.here; stand = h.stand }

-- they are ready at EIP of a state that came to their address
pub ready-from : (site : Site) (items : List Item) (address eip : ℕ) → StandsFrom site items address → eip ≡ address
    → (bytes : List ℕ) × IsAt site.text eip bytes × ItemsAt site.symbols site.places eip items bytes
ready-from site items address eip h e = (
  h.bytes,
  subst (λ (a : ℕ). IsAt site.text a h.bytes) (sym e) h.here,
  subst (λ (a : ℕ). ItemsAt site.symbols site.places a items h.bytes) (sym e) h.stand,
)

-- what comes last of the items stands so far behind
pub stands-back : (site : Site) (front back : List Item) (address : ℕ) → StandsFrom site (front ++ back) address
    → (distance : ℕ) × StandsFrom site back (address + distance)
stands-back site front back address h =
    let m = back-there site.symbols site.places site.text front back address (there-of site (front ++ back) address h)
    in (m.0, from-there site back (address + m.0) m.1)

-- ---- functions

pub laid : (code : Code) (f : ℕ) → IsSelected code → f < length code.program.functions
    → FunctionStands code f (selected (flow_at code.program f) (placement_of code f))
laid code f h below =
    function-stands code f (selected (flow_at code.program f) (placement_of code f)) h.supported.is_code
    (h.items f below)

-- ---- points

-- Where a point stands, with the items of its op.
pub record PointThere (code : Code) (f p : ℕ) (o : Op) (next : Option ℕ) : Type 0 where
  pub front : List Item
  pub rest : List Item
  pub is : selected (flow_at code.program f) (placement_of code f)
      ≡ front ++ (item.Point p ∷ row (flow_at code.program f) (placement_of code f) p o ++ rest)
  pub stands : StandsFrom (site_of code f)
      (item.Point p ∷ row (flow_at code.program f) (placement_of code f) p o ++ rest) (point_address code f p)
  pub follows : (q : ℕ) → next ≡ Some q
      → (more : List Item) × (rest ≡ moves_to (placement_of code f) p (Some q) ++ item.Point q ∷ more)

pub point-is-there : (code : Code) (f block p : ℕ) (o : Op) → IsSelected code → f < length code.program.functions
    → Stands (flow_at code.program f) p block → op_of code.program f p ≡ Some o
    → PointThere code f p o (following p (points_of (flow_at code.program f) block))
point-is-there code f block p o h below stands has =
    let flow : Flow = flow_at code.program f in
    let placement : Placement = placement_of code f in
    let site : Site = site_of code f in
    let l = laid code f h below in
    let r = row-in-graph flow placement p block stands in
    let same : slice_index_or flow.ops p op.Turn ≡ o = get_or_from_slice_get flow.ops p o op.Turn has in
    let mine : List Item = item.Point p ∷ row flow placement p o ++ r.rest in
    let is : selected flow placement ≡ r.front ++ mine =
    subst (λ (i : Op). selected flow placement ≡ r.front ++ (item.Point p ∷ row flow placement p i ++ r.rest)) same
    r.is in
    let behind = stands-back site r.front mine l.address
    (subst (λ (items : List Item). StandsFrom site items l.address) is l.stands) in
    let own : site.places.points p ≡ l.address + behind.0 =
    point-there site.symbols site.places site.text p (row flow placement p o ++ r.rest) (l.address + behind.0)
    (there-of site mine (l.address + behind.0) behind.1) in
    record {
      front = r.front;
      rest = r.rest;
      is = is;
      stands = subst (λ (a : ℕ). StandsFrom site mine a) (sym own ∙ sym (address-at code.places f p)) behind.1;
      follows = r.follows;
    }

pub points-stand : PointsStand
points-stand code f block p o h below stands has =
    let r = point-is-there code f block p o h below stands has in
    let site : Site = site_of code f in
    let items : List Item = row (flow_at code.program f) (placement_of code f) p o ++ r.rest in
    let address : ℕ = point_address code f p in
    record {
      rest = r.rest;
      stands = from-there site items address
          (behind-there site.symbols site.places site.text p items address
          (there-of site (item.Point p ∷ items) address r.stands));
      follows = r.follows;
    }

pub rows-stand : RowsStand
rows-stand code g s o h state has e =
    let f : ℕ = g.current.function in
    let r = points-stand code f g.block g.point o h state.active.0.function state.placed has in
    let ready = ready-from (site_of code f) (row (flow_at code.program f) (placement_of code f) g.point o ++ r.rest)
    (point_address code f g.point) s.eip r.stands e in
    record {
      rest = r.rest;
      ready = record { bytes = ready.0; here = ready.1; stand = ready.2 };
      follows = r.follows;
    }

-- ---- blocks and entries

pub labels-stand : LabelsStand
labels-stand code g block h state below =
    let l = laid code g.current.function h state.active.0.function in
    blocks-stand code g l.address block l.stands below

-- the rows of blocks begin with the first point of the first
begins : (flow : Flow) (placement : Placement) (blocks : List (List ℕ)) (q : ℕ)
    → slice_get (slice_index_or blocks 0 []) 0 ≡ Some q
    → (more : List Item) × (block_rows flow placement 0 blocks ≡ item.Label 0 ∷ item.Point q ∷ more)
begins flow placement [] q e = absurd (none-some q e)
begins flow placement ([] ∷ blocks) q e = absurd (none-some q e)
begins flow placement ((p ∷ points) ∷ blocks) q e =
    subst (λ (n : ℕ). (more : List Item)
    × (block_rows flow placement 0 ((p ∷ points) ∷ blocks) ≡ item.Label 0 ∷ item.Point n ∷ more)) (same_Some p q e)
    (_, refl)

pub entries-stand : EntriesStand
entries-stand code f address q h below named first =
    let flow : Flow = flow_at code.program f in
    let placement : Placement = placement_of code f in
    let site : Site = site_of code f in
    let l = laid code f h below in
    let b = begins flow placement flow.blocks q first in
    let front : List Item = prologue placement.frame placement.zeroed (entry_label flow) in
    let numbers : List Item = headers flow.arrays placement.arrays in
    let same : l.address ≡ address = same_Some l.address address (sym l.named ∙ named) in
    record {
      more = b.0;
      stands = subst (λ (a : ℕ).
          StandsFrom site (front ++ (numbers ++ (item.Label 0 ∷ item.Point q ∷ b.0))) a) same
          (subst (λ (items : List Item). StandsFrom site (front ++ (numbers ++ items)) l.address) b.1 l.stands);
    }

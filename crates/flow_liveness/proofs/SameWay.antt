-- An op leads where its way does, and the blocks that its way names are there.
use Rattle.std.proofs.Common.{ℕ, ◌≡◌, ◌↔◌, ◌<◌, List, length, Some, sym, subst}
use Rattle.std.proofs.Common.{◌∙◌}
use Rattle.std.specs.List.{slice_get}
use Rattle.std.proofs.lemmas.Option.{same_Some}
use Rattle.flow_graph.specs.declared.op.Op.{Op}
use Rattle.flow_graph.specs.declared.op.Op.TheVariants.{Branch, Branchu, Jump}
use Rattle.flow_graph.specs.Graphs.{Flow, FitsOp, IsFlow, IsPlaced}
use Rattle.flow_graph.specs.Liveness.{GoesTo, IsSuccessor, LeadsTo}
use Rattle.flow_graph.specs.Shapes as shapes
use Rattle.flow_graph.specs.Shapes.{shape}
use Rattle.flow_liveness.specs.declared.ways.Way.{Way}
use Rattle.flow_liveness.specs.declared.ways.Way.TheVariants.{Next, Block, Either, Nowhere}
use Rattle.flow_liveness.specs.Ways.{Leads, way_by, way_of}
use Rattle.flow_liveness.proofs.Placed.{op-fits}

leads-same : (flow : Flow) (point next : ℕ) (leads : shapes.Leads)
    → GoesTo flow point next leads ↔ Leads flow point next (way_by leads)
leads-same flow point next shapes.Onward = (λ h. h, λ h. h)
leads-same flow point next (shapes.IntoCall result words) = (λ h. h, λ h. h)
leads-same flow point next (shapes.ToBlock x) = (λ h. h, λ h. h)
leads-same flow point next (shapes.ToEither x y) = (λ h. h, λ h. h)
leads-same flow point next shapes.OutOfCall = (λ h. h, λ h. h)
leads-same flow point next shapes.OutOfProgram = (λ h. h, λ h. h)

-- an op leads where its way does
pub same-way : (flow : Flow) (point next : ℕ) (op : Op) → LeadsTo flow point next op ↔ Leads flow point next (way_of op)
same-way flow point next op = leads-same flow point next (shape op).leads

-- the blocks that a way names are there
abbrev pub WayFits : Flow → Way → Type 0
WayFits flow Next = Unit {0}
WayFits flow (Block x) = x < length flow.blocks
WayFits flow (Either x y) = (x < length flow.blocks) × (y < length flow.blocks)
WayFits flow Nowhere = Unit {0}

-- the way of an op that fits names blocks that are there
pub way-fits : (flow : Flow) (op : Op) → FitsOp flow op → WayFits flow (way_of op)
way-fits flow (Jump x) fits = fits.0
way-fits flow (Branch how a b x y) fits = (fits.1.1.0, fits.1.1.1.0)
way-fits flow (Branchu how a b x y) fits = (fits.1.1.0, fits.1.1.1.0)
way-fits flow _ fits = tt

-- where a point leads, by its way
pub successor-way : (flow : Flow) (point : ℕ) (op : Op) (way : Way) → IsPlaced flow point
    → slice_get flow.ops point ≡ Some op → way ≡ way_of op
    → (next : ℕ) → IsSuccessor flow point next ↔ Leads flow point next way
successor-way flow point op way placed has same next = (there, here)
  where
    there : IsSuccessor flow point next → Leads flow point next way
    there (_, its, e, leads) =
        subst (λ (w : Way). Leads flow point next w) (sym same) ((same-way flow point next op).0
        (subst (LeadsTo flow point next) (same_Some its op (sym e ∙ has)) leads))

    here : Leads flow point next way → IsSuccessor flow point next
    here leads = (
      placed,
      op,
      has,
      (same-way flow point next op).1
          (subst (λ (w : Way). Leads flow point next w) same leads),
    )

-- a way that a point goes names blocks that are there
pub goes-within : (flow : Flow) (homes : List ℕ) (point : ℕ) (op : Op) (way : Way) → IsFlow flow homes
    → IsPlaced flow point → slice_get flow.ops point ≡ Some op → way ≡ way_of op → WayFits flow way
goes-within flow homes point op way is placed has same =
    subst (WayFits flow) (sym same) (way-fits flow op (op-fits flow homes is point placed op has))

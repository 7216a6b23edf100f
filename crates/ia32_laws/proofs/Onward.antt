-- A state that has come behind a row that sets no variable shows the next one.
use Rattle.std.proofs.Common.{◌≡◌, ℕ, false, List, ◌∷◌, ◌++◌, Option, Some, None, refl, sym, ap, ◌∙◌}
use Rattle.std.specs.Prelude.{drop}
use Rattle.ia32_insn.specs.declared.item.Item.{Item}
use Rattle.ia32_insn.specs.declared.item.Item.TheVariants as item
use Rattle.ia32_insn.specs.State as machine
use Rattle.ia32_insn.specs.State.{at_address}
use Rattle.flow_graph.specs.declared.op.Op.{Op}
use Rattle.flow_graph.specs.Graphs.{points_of}
use Rattle.flow_graph.specs.Liveness.{IsBehind, LeadsTo, defined}
use Rattle.flow_graph.specs.Meaning.{at_point, onward}
use Rattle.flow_graph.specs.States as graph
use Rattle.flow_graph.specs.States.{flow_at, op_at, point_after}
use Rattle.flow_graph.specs.WellFormed.{IsState}
use Rattle.ia32_laws.specs.KeepsLaws.{moved_to}
use Rattle.ia32_laws.proofs.Landing.{FollowsKept, lands}
use Rattle.ia32_rows.specs.Paths.{Comes}
use Rattle.ia32_rows.specs.Placements.{Code, placement_of}
use Rattle.ia32_rows.specs.Rows.{moves_to}
use Rattle.ia32_rows.specs.Shows.{Shows}
use Rattle.ia32_rows.specs.Sites.{ReadyAt, Site, SoundAt}
use Rattle.ia32_rows.proofs.Sound.{sound-at}
use Rattle.ia32_laws.specs.Supports.{IsSupported, site_of}
use Rattle.ia32_laws.specs.Protected.{KeepsShown}
use Rattle.ia32_laws.proofs.Elsewhere.{following-in, keeps-at}
use Rattle.ia32_laws.proofs.Shown.{moved-shows}

-- what stands behind a row: the moves to the next point of the block, and that point, if there is one
abbrev pub IsNext : Code → graph.State → List Item → Type 0
IsNext code g rest =
    (q : ℕ) → point_after code.program g.current.function g.block g.point ≡ Some q
    → (more : List Item)
    × (rest ≡ moves_to (placement_of code g.current.function) g.point (Some q) ++ item.Point q ∷ more)

pub goes-on : (code : Code) (input : List ℕ) (g : graph.State) (s u : machine.State) (o : Op) (after : ℕ)
    (rest : List Item) → IsSupported code → IsState code.program g → (shown : Shows code input g s)
    → op_at code.program g ≡ Some o → defined o ≡ None
    → ((next : ℕ) → IsBehind (flow_at code.program g.current.function) g.point next
    → LeadsTo (flow_at code.program g.current.function) g.point next o)
    → SoundAt (site_of code g.current.function) u → KeepsShown code g shown.frames None s u
    → u.left ≡ s.left → u.taken ≡ s.taken → u.written ≡ s.written → Comes code.text s (at_address after u)
    → ReadyAt (site_of code g.current.function) rest (at_address after u) → IsNext code g rest
    → FollowsKept code input s g false (onward code.program g)
goes-on code input g s u o after rest supported state shown has none leads sound keeps left taken written comes ready
    follows =
    follow (point_after code.program g.current.function g.block g.point) refl
  where
    site : Site
    site = site_of code g.current.function

    follow : (next : Option ℕ) → point_after code.program g.current.function g.block g.point ≡ next
        → FollowsKept code input s g false (at_point g.block g next)
    follow None e = tt
    follow (Some q) e = λ kept.
        let t : machine.State = at_address after u in
        let more = follows q e in
        lands code input g.point (moved_to g.block q g.left g.taken g.written g)
        g.current.function q refl refl s t rest more.0 supported kept
        ((g.block, state.placed), o, has, leads q (g.block, e))
        (comes) ready more.1
        (moved-shows code input g s t o g.block q g.left g.taken g.written supported state shown has none
        (keeps-at code g shown.frames None after s u keeps)
        (record {
          leads = ((g.block, state.placed), o, has, leads q (g.block, e));
          placed = following-in g.point q (points_of (flow_at code.program g.current.function) g.block) e;
          sound = sound-at site.text site.low site.high after u sound;
          left = left ∙ shown.left;
          taken = taken ∙ shown.taken;
          written = written ∙ shown.written;
          of_input = left ∙ shown.of_input ∙ ap (λ (k : ℕ). drop k input) (sym taken);
        }))

-- A mark and a turn are a NOP, behind which the next point stands.
use Rattle.std.proofs.Common.{◌≡◌, ℕ, true, List, [], ◌∷◌, Option, Some, None, refl}
use Rattle.ia32_insn.specs.declared.insn.Insn.TheVariants as insn
use Rattle.ia32_insn.specs.State as machine
use Rattle.ia32_insn.specs.State.{at_address}
use Rattle.ia32_insn.specs.Items.{plain}
use Rattle.flow_graph.specs.declared.op.Op.{Op}
use Rattle.flow_graph.specs.declared.op.Op.TheVariants as op
use Rattle.flow_graph.specs.Graphs.{points_of}
use Rattle.flow_graph.specs.Liveness.{IsBehind, LeadsTo, defined}
use Rattle.flow_graph.specs.Meaning.{at_point, onward}
use Rattle.flow_graph.specs.States as graph
use Rattle.flow_graph.specs.States.{flow_at, op_at, point_after}
use Rattle.flow_graph.specs.WellFormed.{IsState}
use Rattle.ia32_laws.proofs.Landing.{FollowsKept, followed, lands}
use Rattle.ia32_laws.specs.KeepsLaws.{moved_to}
use Rattle.ia32_rows.specs.Placements.{Code}
use Rattle.ia32_rows.specs.Shows.{Shows}
use Rattle.ia32_rows.specs.Sites.{Site}
use Rattle.ia32_rows.proofs.Sound.{sound-at}
use Rattle.ia32_rows.proofs.Steps.{comes-not, nop-goes}
use Rattle.ia32_laws.specs.Supports.{IsSupported, site_of}
use Rattle.ia32_laws.specs.Protected.{KeepsShown}
use Rattle.ia32_laws.specs.KeepsOps.{MarkFollows, RowAt, TurnFollows}
use Rattle.ia32_laws.proofs.Chain.{same-place}
use Rattle.ia32_laws.proofs.Shown.{moved-shows}
use Rattle.ia32_laws.proofs.Zones.{shown-in-frame}
use Rattle.ia32_laws.proofs.Elsewhere.{following-in, keeps-at}

-- nothing changed
pub keeps-all : (code : Code) (g : graph.State) (frames : List ℕ) (s : machine.State)
    → KeepsShown code g frames None s s
keeps-all code g frames s =
    record {
      esp = refl;
      ebp = refl;
      protected = λ n a w reads e. e;
      others = λ v place distinct behind. same-place _ place s;
    }

nop-follows : (code : Code) (input : List ℕ) (g : graph.State) (s : machine.State) (o : Op) → IsSupported code
    → IsState code.program g → Shows code input g s → op_at code.program g ≡ Some o → defined o ≡ None
    → ((next : ℕ) → IsBehind (flow_at code.program g.current.function) g.point next
    → LeadsTo (flow_at code.program g.current.function) g.point next o)
    → RowAt code g (plain insn.Nop ∷ []) s → FollowsKept code input s g true (onward code.program g)
nop-follows code input g s o supported state shown has none leads r =
    follow (point_after code.program g.current.function g.block g.point) refl
  where
    site : Site
    site = site_of code g.current.function

    follow : (next : Option ℕ) → point_after code.program g.current.function g.block g.point ≡ next
        → FollowsKept code input s g true (at_point g.block g next)
    follow None e = tt
    follow (Some q) e = λ kept.
        let sound = (shown-in-frame code input g s supported state shown).framed.sound in
        let went = nop-goes site.symbols site.places site.text site.low site.high r.rest s sound r.ready in
        let t : machine.State = at_address went.0 s in
        let more = r.follows q e in (
          t,
          went.1,
          lands code input g.point (moved_to g.block q g.left g.taken g.written g) g.current.function q refl refl t t
              r.rest more.0 supported kept ((g.block, state.placed), o, has, leads q (g.block, e))
              (comes-not site.text t) went.3 more.1
              (moved-shows code input g s t o g.block q g.left g.taken g.written supported state shown has none
              (keeps-at code g shown.frames None went.0 s s (keeps-all code g shown.frames s))
              (record {
                leads = ((g.block, state.placed), o, has, leads q (g.block, e));
                placed = following-in g.point q (points_of (flow_at code.program g.current.function) g.block) e;
                sound = sound-at site.text site.low site.high went.0 s sound;
                left = shown.left;
                taken = shown.taken;
                written = shown.written;
                of_input = shown.of_input;
              })),
        )

pub mark-follows : MarkFollows
mark-follows statement code input g s supported state shown has r =
    followed code input g s (op.Mark statement) true supported state has (
    nop-follows code input g s (op.Mark statement) supported state shown has refl (λ next h. h) r)

pub turn-follows : TurnFollows
turn-follows code input g s supported state shown has r =
    followed code input g s op.Turn true supported state has (
    nop-follows code input g s op.Turn supported state shown has refl (λ next h. h) r)

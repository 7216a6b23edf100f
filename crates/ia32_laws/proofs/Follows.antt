-- The machine follows the program's step at each point of a program, but for calls and returns.
use Rattle.std.proofs.Common.{◌≡◌, ℕ, List, Option, Some, sym, subst}
use Rattle.ia32_insn.specs.State as machine
use Rattle.flow_graph.specs.declared.op.Op.{Op}
use Rattle.flow_graph.specs.declared.op.Op.TheVariants as op
use Rattle.flow_graph.specs.Meaning.{act, given}
use Rattle.flow_graph.specs.States as graph
use Rattle.flow_graph.specs.States.{flow_at, op_at}
use Rattle.flow_graph.specs.WellFormed.{IsState}
use Rattle.ia32_rows.specs.Follows.{Follows, is_nop}
use Rattle.ia32_rows.specs.Placements.{Code, placement_of}
use Rattle.ia32_rows.specs.Shows.{Shows}
use Rattle.ia32_rows.specs.Rows.{row}
use Rattle.ia32_laws.specs.KeepsOps.{RowAt}
use Rattle.ia32_laws.proofs.Changes.{complement-follows, extension-follows, negation-follows, zero-extension-follows}
use Rattle.ia32_laws.proofs.Copies.{copy-follows}
use Rattle.ia32_laws.proofs.Marks.{mark-follows, turn-follows}
use Rattle.ia32_laws.proofs.Ops.{and-follows, difference-follows, number-follows, op-is, or-follows}
use Rattle.ia32_laws.proofs.Ops.{product-follows, sum-follows, xor-follows}
use Rattle.ia32_laws.proofs.Changing.{half-follows, low-follows}
use Rattle.ia32_laws.proofs.Choosing.{jump-follows}
use Rattle.ia32_laws.proofs.Counting.{left-shift-follows, right-shift-follows, unsigned-right-shift-follows}
use Rattle.ia32_laws.proofs.Stopping.{quotient-follows, remainder-follows, unsigned-quotient-follows}
use Rattle.ia32_laws.proofs.Stopping.{unsigned-remainder-follows}
use Rattle.ia32_laws.proofs.Params.{param-follows}
use Rattle.ia32_laws.proofs.KeepsPassed.{exit-follows}
use Rattle.ia32_laws.proofs.Putchar.{putchar-follows}
use Rattle.ia32_laws.proofs.Reading.{getchar-follows}
use Rattle.ia32_laws.proofs.AccessesAddresses.{frame-follows, static-follows}
use Rattle.ia32_laws.proofs.Elements.{put-follows}
use Rattle.ia32_laws.proofs.Loading.{get-follows}
use Rattle.ia32_laws.proofs.Reaching.{load-follows, store-follows}
use Rattle.ia32_laws.proofs.ClearsFollowing.{row-follows as clear-follows}
use Rattle.ia32_laws.proofs.Comparing.{branch-follows, order-branch-follows, order-set-follows, same-follows}
use Rattle.ia32_laws.proofs.Comparing.{set-follows}
use Rattle.ia32_laws.specs.StandingLaws.{IsFollowed, IsSelected, StepsFollow}
use Rattle.ia32_laws.proofs.Points.{labels-stand, rows-stand}

-- an op is followed from this state
abbrev IsDone : Code → List ℕ → graph.State → machine.State → Op → Type 0
IsDone code input g s o = Follows code input s g (is_nop (Some o)) (act code.program g o)

follow : (code : Code) (input : List ℕ) (g : graph.State) (s : machine.State) (o : Op) → IsSelected code
    → IsState code.program g → Shows code input g s → op_at code.program g ≡ Some o → IsFollowed o
    → RowAt code g
    (row (flow_at code.program g.current.function) (placement_of code g.current.function) g.point o) s
    → IsDone code input g s o
follow code input g s (op.Const d n) h state shown has known r =
    number-follows d n code input g s h.supported state shown has r
follow code input g s (op.Copy d a) h state shown has known r =
    copy-follows d a code input g s h.supported state shown has r
follow code input g s (op.Wide d a) h state shown has known r =
    extension-follows d a code input g s h.supported state shown has r
follow code input g s (op.Zero d a) h state shown has known r =
    zero-extension-follows d a code input g s h.supported state shown has r
follow code input g s (op.Low d a) h state shown has known r =
    low-follows d a code input g s h.supported state shown has r
follow code input g s (op.Low16 d a) h state shown has known r =
    half-follows d a code input g s h.supported state shown has r
follow code input g s (op.Neg d a) h state shown has known r =
    negation-follows d a code input g s h.supported state shown has r
follow code input g s (op.Not d a) h state shown has known r =
    complement-follows d a code input g s h.supported state shown has r
follow code input g s (op.Add d a b) h state shown has known r =
    sum-follows d a b code input g s h.supported state shown has r
follow code input g s (op.Sub d a b) h state shown has known r =
    difference-follows d a b code input g s h.supported state shown has r
follow code input g s (op.Mul d a b) h state shown has known r =
    product-follows d a b code input g s h.supported state shown has r
follow code input g s (op.And d a b) h state shown has known r =
    and-follows d a b code input g s h.supported state shown has r
follow code input g s (op.Or d a b) h state shown has known r =
    or-follows d a b code input g s h.supported state shown has r
follow code input g s (op.Xor d a b) h state shown has known r =
    xor-follows d a b code input g s h.supported state shown has r
follow code input g s (op.Shl d a c) h state shown has known r =
    left-shift-follows d a c code input g s h.supported state shown has r
follow code input g s (op.Sar d a c) h state shown has known r =
    right-shift-follows d a c code input g s h.supported state shown has r
follow code input g s (op.Shr d a c) h state shown has known r =
    unsigned-right-shift-follows d a c code input g s h.supported state shown has r
follow code input g s (op.Div d a b) h state shown has known r =
    quotient-follows d a b code input g s h.supported state shown has r
follow code input g s (op.Rem d a b) h state shown has known r =
    remainder-follows d a b code input g s h.supported state shown has r
follow code input g s (op.Udiv d a b) h state shown has known r =
    unsigned-quotient-follows d a b code input g s h.supported state shown has r
follow code input g s (op.Urem d a b) h state shown has known r =
    unsigned-remainder-follows d a b code input g s h.supported state shown has r
follow code input g s (op.Frame d k) h state shown has known r =
    frame-follows d k code input g s h.supported state shown has r
follow code input g s (op.Static d k) h state shown has known r =
    static-follows d k code input g s h.supported state shown has r
follow code input g s (op.Load bits d p i) h state shown has known r =
    load-follows bits d p i code input g s h.supported state shown has r
follow code input g s (op.Store bits p i a) h state shown has known r =
    store-follows bits p i a code input g s h.supported state shown has r
follow code input g s (op.Get bits d k) h state shown has known r =
    get-follows bits d k code input g s h.supported state shown has r
follow code input g s (op.Put bits k a) h state shown has known r =
    put-follows bits k a code input g s h.supported state shown has r
follow code input g s (op.Param d k) h state shown has known r =
    param-follows d k code input g s h.supported state shown has r
follow code input g s (op.Putchar d a) h state shown has known r =
    putchar-follows d a code input g s h.supported state shown has r
follow code input g s (op.Getchar d) h state shown has known r =
    getchar-follows d code input g s h.supported state shown has r
follow code input g s (op.Exit a) h state shown has known r =
    exit-follows a code input g s h.supported state shown has r
follow code input g s (op.Mark n) h state shown has known r =
    mark-follows n code input g s h.supported state shown has r
follow code input g s op.Turn h state shown has known r = turn-follows code input g s h.supported state shown has r
follow code input g s (op.Clear k) h state shown has known r =
    clear-follows k code input g s h.supported state shown has r
follow code input g s (op.Set how d a b) h state shown has known r =
    set-follows how d a b code input g s h.supported state shown has r
follow code input g s (op.Setu how d a b) h state shown has known r =
    order-set-follows how d a b code input g s h.supported state shown has r
follow code input g s (op.Same a b) h state shown has known r =
    same-follows a b code input g s h.supported state shown has r
follow code input g s (op.Jump block) h state shown has known r =
    let is = op-is code g (op.Jump block) h.supported state has in
    jump-follows block code input g s r.rest h.supported state shown has
    (labels-stand code g block h state is.fits.0) r.ready
follow code input g s (op.Branch how a b first second) h state shown has known r =
    let is = op-is code g (op.Branch how a b first second) h.supported state has in
    branch-follows how a b first second code input g s r.rest h.supported state shown has
    (labels-stand code g first h state is.fits.1.1.0) (labels-stand code g second h state is.fits.1.1.1.0) r.ready
follow code input g s (op.Branchu how a b first second) h state shown has known r =
    let is = op-is code g (op.Branchu how a b first second) h.supported state has in
    order-branch-follows how a b first second code input g s r.rest h.supported state shown has
    (labels-stand code g first h state is.fits.1.1.0) (labels-stand code g second h state is.fits.1.1.1.0) r.ready
follow code input g s o h state shown has known r = absurd known

pub steps-follow : StepsFollow
steps-follow code input g s o h state shown has known =
    subst (λ (at : Option Op). Follows code input s g (is_nop at) (given at (act code.program g))) (sym has)
    (follow code input g s o h state shown has known (rows-stand code g s o h state has shown.eip))

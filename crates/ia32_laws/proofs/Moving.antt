-- The moves between two points keep the state of the program shown.
use Rattle.std.proofs.Common.{◌≡◌, ℕ, ◌+◌, ◌*◌, ◌<◌, ◌≤◌, List, ◌∷◌, ◌++◌, Option, Some, None, inl, refl, sym, ap}
use Rattle.std.proofs.Common.{Ok, subst, ◌∙◌, arith}
use Rattle.std.specs.Prelude.{drop, slice_get}
use Rattle.pcc_base.specs.Outcome.{Value}
use Rattle.pcc_base.specs.declared.run.Width.{Width}
use Rattle.pcc_base.specs.declared.run.Width.TheVariants.{One, Two}
use Rattle.ia32_insn.specs.declared.register_names.Reg32.TheVariants.{Esp, Ebp}
use Rattle.ia32_insn.specs.Places.{Place, InWord, InByte, InSlot}
use Rattle.ia32_insn.specs.declared.item.Item.{Item}
use Rattle.ia32_insn.specs.declared.item.Item.TheVariants as item
use Rattle.ia32_insn.specs.State as machine
use Rattle.ia32_insn.specs.State.{at_address}
use Rattle.ia32_insn.specs.Meaning.{load, word_of}
use Rattle.flow_graph.specs.Graphs.{Flow, HasWidth}
use Rattle.flow_graph.specs.Liveness.{IsSuccessor}
use Rattle.flow_graph.specs.States as graph
use Rattle.flow_graph.specs.States.{Activation, active_of, flow_at, op_at}
use Rattle.flow_graph.specs.WellFormed.{IsState}
use Rattle.flow_graph.proofs.Lists.{zip-second}
use Rattle.flow_graph.proofs.Values.{op-at}
use Rattle.ia32_rows.specs.Follows.{ComesTo}
use Rattle.ia32_rows.specs.Paths.{Comes}
use Rattle.ia32_rows.specs.Placements.{Code, Placement, placement_of}
use Rattle.ia32_rows.specs.Shows.{AllStand, IsWord, IsByte, ShowsIn, StandsIn}
use Rattle.ia32_rows.specs.Sites.{Framed, ReadyAt, Site, StandsFrom}
use Rattle.ia32_rows.specs.Copying.{ApartFromAll, AreHeld, Copied, FitsWidth as CopyFits, OutsideAll}
use Rattle.ia32_rows.specs.Contains.{Contains, IsPlaceIn}
use Rattle.ia32_rows.specs.Effects.{Leads}
use Rattle.ia32_rows.specs.Rows.{moves_to}
use Rattle.ia32_rows.proofs.Jumps.{jump-leads}
use Rattle.ia32_rows.proofs.Kept.{word-kept}
use Rattle.ia32_rows.proofs.Sound.{load-same, sound-at}
use Rattle.ia32_rows.proofs.Steps.{comes-then, point-passed}
use Rattle.ia32_rows.proofs.Straight.{straight-goes}
use Rattle.ia32_laws.specs.MovesLaws.{MovesLead, MovesShow, ShowsBehind}
use Rattle.ia32_laws.specs.Protected.{IsProtected}
use Rattle.ia32_laws.specs.Supports.{HoldsWidth, IsPlaceFor, IsSupported, Supports, site_of}
use Rattle.ia32_laws.proofs.Elsewhere.{at-own-address, stack-untouched, stands-at}
use Rattle.ia32_laws.proofs.KeepsApart.{is-apart}
use Rattle.ia32_laws.proofs.Memory.{address-at}
use Rattle.ia32_laws.proofs.Shown.{arrays-kept, next-shown, objects-kept, point-supported, same-waits}
use Rattle.ia32_laws.proofs.Small.{byte-in, byte-small, word-in, word-small}
use Rattle.ia32_laws.proofs.Zones.{in-frame}

-- ---- what moves keep

-- ESP and EBP are in no place for a variable
stack-outside : (frame k : ℕ) (places : ℕ → Option Place)
    → ((v : ℕ) (place : Place) → places v ≡ Some place → IsPlaceIn frame place) → 16 ≤ k → k < 24
    → OutsideAll places k
stack-outside frame k places inside low high = (
  λ v place e. (stack-untouched frame k place (inside v place e) low high).0,
  inl (omega arith),
  inl (omega arith),
)

-- ---- what they move

-- a word that a place contains is that of the value
word-stands : (code : Code) (active : List Activation) (frames : List ℕ) (t : machine.State) (value : Value)
    (place : Place) (w : ℕ) → HoldsWidth (Some Two) place → Contains t Two place w → IsWord code active frames value w
    → StandsIn code active frames t (word_of Ebp t) (Some Two) value place
word-stands code active frames t value (InWord r) w for contains is = subst (IsWord code active frames value)
    (sym contains) is
word-stands code active frames t value (InByte r) w for contains is = absurd for
word-stands code active frames t value (InSlot slot) w for contains is = (w, contains, is)

byte-stands : (code : Code) (active : List Activation) (frames : List ℕ) (t : machine.State) (value : Value)
    (place : Place) (b : ℕ) → HoldsWidth (Some One) place → Contains t One place b → IsByte value b
    → StandsIn code active frames t (word_of Ebp t) (Some One) value place
byte-stands code active frames t value (InWord r) b for contains is = absurd for
byte-stands code active frames t value (InByte r) b for contains is = subst (IsByte value) (sym contains) is
byte-stands code active frames t value (InSlot slot) b for contains is = (b, contains, is)

-- ---- the law

pub moves-lead : MovesLead
moves-lead code input g s point back supported state leads shown ready = (
  u,
  record {
    comes = subst (λ (x : machine.State). Comes code.text x u) own went.1;
    ready = went.2;
    shown = next-shown code input g s u g.block g.point g.left g.taken g.written g.current.variables g.current.arrays
        g.waiting g.objects to supported state shown (λ k elements e. (elements, e)) (same-waits g.waiting) esp ebp
        (λ n a w reads. protected n a w (inl reads))
        (record {
          placed = shown.placed;
          sound = sound-at site.text site.low site.high went.0 t copies.2.sound;
          left = copied.keeps.left ∙ shown.left;
          taken = copied.keeps.taken ∙ shown.taken;
          written = copied.keeps.written ∙ shown.written;
          of_input = copied.keeps.left ∙ shown.of_input ∙ ap (λ (k : ℕ). drop k input) (sym copied.keeps.taken);
        }) stand shown.old_arrays (objects-kept code input g s u shown protected)
        (arrays-kept code input g s u shown protected);
  },
)
  where
    flow : Flow
    flow = flow_at code.program g.current.function

    placement : Placement
    placement = placement_of code g.current.function

    site : Site
    site = site_of code g.current.function

    supports : Supports flow placement
    supports = supported.supports g.current.function state.active.0.function

    from : ℕ → Option Place
    from = placement.after point

    to : ℕ → Option Place
    to = placement.before g.point

    items : List Item
    items = moves_to placement point (Some g.point)

    -- the places before the point, and those behind the other
    here : (v : ℕ) (place : Place) → to v ≡ Some place → IsPlaceFor flow placement v place
    here v place e =
        let known = op-at code.program g.current.function g.point g.block supported.program
        state.active.0.function state.placed in
        (point-supported code g known.op supported state known.there).before v place e

    there : (v : ℕ) (place : Place) → from v ≡ Some place → IsPlaceFor flow placement v place
    there v place e = (supports.points point leads.1 leads.0 leads.2).after v place e

    framed : Framed site placement.frame s
    framed = (in-frame code input g s supported state shown).framed

    -- each variable has a number of its width where it stood
    held-in : (v : ℕ) (value : Value) (old : Place) (width : Width) → HasWidth flow v width
        → HoldsWidth (Some width) old → StandsIn code (active_of g) shown.frames s (word_of Ebp s) (Some width) value old
        → (w : ℕ) × CopyFits width w × Contains s width old w
    held-in v value old Two is held stands =
        let (w, contains, word) = word-in code input g s old value shown held stands in
        (w, word-small code input g s value w supported state shown word, contains)
    held-in v value old One is held stands =
        let (b, contains, byte) = byte-in code g shown.frames s old value held stands in
        (b, byte-small value b byte, contains)

    are-held : AreHeld flow from to s
    are-held v width old new is one two =
        let (value, has, fits) = zip-second _ flow.widths g.current.variables v width state.active.0.variables is in
        held-in v value old width is
        (subst (λ (o : Option Width). HoldsWidth o old) is (there v old one).holds)
        (subst (λ (o : Option Width). StandsIn code (active_of g) shown.frames s (word_of Ebp s) o value old) is
        (shown.variables v value old has one))

    copies : (t : machine.State) × Leads site items s t × Framed site placement.frame t × Copied flow from to s t
    copies = (supports.moves point g.point leads).copies site s framed are-held

    t : machine.State
    t = copies.0

    copied : Copied flow from to s t
    copied = copies.3

    own : at_address s.eip s ≡ s
    own = at-own-address code g.current.function (items ++ back) s supported ready

    went : (address : ℕ) × Comes site.text (at_address s.eip s) (at_address address t)
        × ReadyAt site back (at_address address t)
    went = straight-goes site items back s t s.eip framed.sound (subst (ReadyAt site (items ++ back)) (sym own) ready)
        copies.1

    u : machine.State
    u = at_address went.0 t

    cells : (k : ℕ) → 16 ≤ k → k < 24 → OutsideAll to k
    cells k low high = stack-outside placement.frame k to (λ v place e. (here v place e).inside) low high

    esp : word_of Esp u ≡ word_of Esp s
    esp = word-kept (OutsideAll to) (ApartFromAll (word_of Ebp s) to) Esp s t copied.keeps
        (λ m below. cells (4 * 4 + m) (omega arith) (omega arith))

    ebp : word_of Ebp u ≡ word_of Ebp s
    ebp = word-kept (OutsideAll to) (ApartFromAll (word_of Ebp s) to) Ebp s t copied.keeps
        (λ m below. cells (4 * 5 + m) (omega arith) (omega arith))

    protected : (n a w : ℕ) → IsProtected code g shown.frames a n → load n a s ≡ Ok w → load n a u ≡ Ok w
    protected n a w reads e =
        let apart = is-apart code input g s a n supported state shown reads in
        load-same n a w t u refl
        (copied.keeps.loads n a w ((λ v place f. apart.places v place (here v place f)), apart.scratch) e)

    -- a variable of some width came from its old place to its new one
    moved : (v : ℕ) (value : Value) (old new : Place) (width : Option Width) → slice_get flow.widths v ≡ width
        → from v ≡ Some old → to v ≡ Some new → HoldsWidth width old → HoldsWidth width new
        → StandsIn code (active_of g) shown.frames s (word_of Ebp s) width value old
        → StandsIn code (active_of g) shown.frames t (word_of Ebp t) width value new
    moved v value old new (Some Two) is one two held holds stands =
        let (w, contains, word) = word-in code input g s old value shown held stands in
        let small = word-small code input g s value w supported state shown word in
        word-stands code (active_of g) shown.frames t value new w holds
        (copied.moved v w Two old new is one two small contains) word
    moved v value old new (Some One) is one two held holds stands =
        let (b, contains, byte) = byte-in code g shown.frames s old value held stands in
        byte-stands code (active_of g) shown.frames t value new b holds
        (copied.moved v b One old new is one two (byte-small value b byte) contains) byte
    moved v value old new None is one two held holds stands = absurd held

    stand : AllStand code (active_of g) shown.frames u (word_of Ebp u) g.current to
    stand v value new e at =
        let (old, was) = supports.stood point g.point v new leads at in
        let held : HoldsWidth (slice_get flow.widths v) old = (there v old was).holds in
        let holds : HoldsWidth (slice_get flow.widths v) new = (here v new at).holds in
        stands-at code (active_of g) shown.frames went.0 t (word_of Ebp t) (slice_get flow.widths v) value new
        (moved v value old new (slice_get flow.widths v) refl was at held holds (shown.variables v value old e was))

-- ---- up to the next point

shown-at : (code : Code) (input : List ℕ) (g : graph.State) (t : machine.State) → {a b : ℕ} → a ≡ b
    → ShowsIn code input ((placement_of code g.current.function).before g.point) a g t
    → ShowsIn code input ((placement_of code g.current.function).before g.point) b g t
shown-at code input g t e h =
    subst (λ (k : ℕ). ShowsIn code input ((placement_of code g.current.function).before g.point) k g t) e h

pub moves-show : MovesShow
moves-show code input g s point rest supported state leads shown ready =
    let site : Site = site_of code g.current.function in
    let (t, m) = moves-lead code input g s point (item.Point g.point ∷ rest) supported state leads shown ready in
    let passed = point-passed site.symbols site.places site.text g.point rest t m.ready in (
      t,
      m.comes,
      shown-at code input g t (sym passed.0 ∙ sym (address-at code.places g.current.function g.point))
          m.shown,
    )

-- ---- through a jump

-- what is shown is shown with another EIP
pub shown-elsewhere : {places : ℕ → Option Place} {eip : ℕ} (code : Code) (input : List ℕ) (g : graph.State)
    (s : machine.State) (address : ℕ) → IsSupported code → IsState code.program g
    → ShowsIn code input places eip g s
    → ShowsIn code input places (at_address address s).eip g (at_address address s)
shown-elsewhere {places} code input g s address supported state shown =
    next-shown code input g s u g.block g.point g.left g.taken g.written g.current.variables g.current.arrays g.waiting
    g.objects places supported state shown (λ k elements e. (elements, e)) (same-waits g.waiting) refl refl
    (λ n a w reads. protected n a w (inl reads))
    (record {
      placed = shown.placed;
      sound = sound-at site.text site.low site.high address s
          (in-frame code input g s supported state shown).framed.sound;
      left = shown.left;
      taken = shown.taken;
      written = shown.written;
      of_input = shown.of_input;
    })
    (λ v value place e at. stands-at code (active_of g) shown.frames address s (word_of Ebp s)
    (slice_get (flow_at code.program g.current.function).widths v) value place (shown.variables v value place e at))
    shown.old_arrays (objects-kept code input g s u shown protected) (arrays-kept code input g s u shown protected)
  where
    site : Site
    site = site_of code g.current.function

    u : machine.State
    u = at_address address s

    protected : (n a w : ℕ) → IsProtected code g shown.frames a n → load n a s ≡ Ok w → load n a u ≡ Ok w
    protected n a w reads e = load-same n a w s u refl e

-- Where the moves to a block's first point are ready, and behind them a jump to the block, the machine comes to that
-- point.
pub moves-jump : (code : Code) (input : List ℕ) (g : graph.State) (s : machine.State) (point block : ℕ)
    (front more rest : List Item) (start : ℕ) → IsSupported code → IsState code.program g
    → IsSuccessor (flow_at code.program g.current.function) point g.point → ShowsBehind code input point g s
    → ReadyAt (site_of code g.current.function)
    (moves_to (placement_of code g.current.function) point (Some g.point) ++ item.JumpTo block ∷ rest) s
    → StandsFrom (site_of code g.current.function)
    (front ++ (item.Label block ∷ item.Point g.point ∷ more)) start
    → ComesTo code input s g
moves-jump code input g s point block front more rest start supported state leads shown ready stands =
    let site : Site = site_of code g.current.function in
    let (t, m) = moves-lead code input g s point (item.JumpTo block ∷ rest) supported state leads shown ready in
    let sound = (in-frame code input g t supported state m.shown).framed.sound in
    let (address, comes, there) = jump-leads site front (item.Point g.point ∷ more) rest start block t sound stands
    m.ready in
    let u : machine.State = at_address address t in
    let passed = point-passed site.symbols site.places site.text g.point more u there in (
      u,
      comes-then code.text s t u m.comes comes,
      shown-at code input g u (sym passed.0 ∙ sym (address-at code.places g.current.function g.point))
          (shown-elsewhere code input g t address supported state m.shown),
    )

-- A function's first items make its frame, and the machine comes to the first point.
use Rattle.std.proofs.Common.{◌≡◌, ◌⊎◌, ℕ, suc, ◌+◌, ◌-◌, ◌*◌, ◌<◌, ◌≤◌, List, [], ◌∷◌, ◌++◌, length, Some, Ok, inl}
use Rattle.std.proofs.Common.{inr}
use Rattle.std.proofs.Common.{sym, subst, ◌∙◌, arith}
use Rattle.std.specs.Prelude.{map, slice_get}
use Rattle.ia32_insn.specs.declared.register_names.Reg32.TheVariants.{Ebx, Esp, Ebp}
use Rattle.ia32_insn.specs.declared.item.Item.{Item}
use Rattle.ia32_insn.specs.declared.item.Item.TheVariants as item
use Rattle.ia32_insn.specs.State as machine
use Rattle.ia32_insn.specs.Keeps.{AreDisjoint}
use Rattle.ia32_insn.specs.Meaning.{load, word_of}
use Rattle.ia32_insn.specs.Items.{data_bytes, data_start, round_up, stack_end}
use Rattle.flow_graph.specs.Graphs.{Flow}
use Rattle.flow_graph.specs.Sizes.{most_words}
use Rattle.flow_graph.specs.States as graph
use Rattle.flow_graph.specs.States.{Activation, Waiting, active_of, flow_at}
use Rattle.flow_graph.specs.WellFormed.{IsState}
use Rattle.flow_graph.proofs.Values.{graph-of}
use Rattle.ia32_rows.specs.Paths.{Comes}
use Rattle.ia32_rows.specs.Placements.{Code, Placement, objects_of, placement_of}
use Rattle.ia32_rows.specs.Shows.{stack_bytes}
use Rattle.ia32_rows.specs.Sites.{Site, SoundAt}
use Rattle.ia32_rows.proofs.Sound.{load-place}
use Rattle.ia32_rows.proofs.Steps.{comes-then, label-passed, point-passed}
use Rattle.ia32_rows.specs.Rows.{headers}
use Rattle.ia32_rows.specs.CallsLaws.{Entered}
use Rattle.ia32_rows.proofs.Prologue.{prologue-goes}
use Rattle.ia32_laws.specs.KeepsLaws.{data_end}
use Rattle.ia32_laws.specs.Supports.{AreArraysIn, IsSupported, Supports, site_of, size_of}
use Rattle.ia32_laws.proofs.Memory.{areas-are, data-small, text-above}
use Rattle.ia32_laws.proofs.Zones.{frame_size}
use Rattle.ia32_laws.specs.Called.{Called, WaitAtEbp}
use Rattle.ia32_laws.specs.EntriesLaws.{EntryAt}
use Rattle.ia32_laws.proofs.Chains.{stack-small}
use Rattle.ia32_laws.proofs.Headers.{Headed, HeadersApart, headers-go}

-- so many bytes are above the word at a frame, or below the frame's bytes
abbrev pub Outside : ℕ → ℕ → ℕ → ℕ → Type 0
Outside frame size b n = (frame + 4 ≤ b) ⊎ (b + n + size ≤ frame)

-- The frame is made, where its words are and EIP is at the first point.
pub record Begun (site : Site) (size zeroed : ℕ) (arrays : List (ℕ × ℕ)) (belows : List ℕ) (point frame : ℕ)
    (s u : machine.State) : Type 0 where
  pub comes : Comes site.text s u
  pub sound : SoundAt site u
  pub eip : u.eip ≡ site.places.points point
  pub ebp : word_of Ebp u ≡ frame
  pub esp : word_of Esp u + size ≡ frame
  pub old_ebp : load 4 frame u ≡ Ok (word_of Ebp s)
  pub old_ebx : load 4 (frame - 4) u ≡ Ok (word_of Ebx s)
  pub counts : (k distance : ℕ) (array : ℕ × ℕ) → slice_get arrays k ≡ Some array → slice_get belows k ≡ Some distance
      → load 4 (frame - (distance + 4)) u ≡ Ok array.1
  pub zeros : (n b : ℕ) → frame ≤ b + size → b + n + zeroed ≤ frame → 0 < n → HeadersApart frame arrays belows b n
      → load n b u ≡ Ok 0
  pub kept : (n b w : ℕ) → Outside frame size b n → load n b s ≡ Ok w → load n b u ≡ Ok w
  pub left : u.left ≡ s.left
  pub taken : u.taken ≡ s.taken
  pub written : u.written ≡ s.written

-- ---- where things are apart

frame-outside : (frame size e b n : ℕ) → frame + 4 ≡ e → size ≤ frame → Outside frame size b n
    → AreDisjoint (e - (size + 4)) (size + 4) b n
frame-outside frame size e b n h k (inl o) = inl (omega arith)
frame-outside frame size e b n h k (inr o) = inr (omega arith)

header-outside : (frame size d b n : ℕ) → d + 4 ≤ size → size ≤ frame → Outside frame size b n
    → AreDisjoint (frame - (d + 4)) 4 b n
header-outside frame size d b n h k (inl o) = inl (omega arith)
header-outside frame size d b n h k (inr o) = inr (omega arith)

-- the number of an array is below the caller's registers
header-below : (frame size z d c : ℕ) → 16 + z ≤ d → d + 4 ≤ size → size ≤ frame → c ≤ 12
    → AreDisjoint (frame - (d + 4)) 4 (frame - c) 4
header-below frame size z d c h k l few = inl (omega arith)

-- ---- the state

made : (site : Site) (size zeroed point frame : ℕ) (arrays : List (ℕ × ℕ)) (belows : List ℕ) (one two rest : List Item)
    (s v u : machine.State) → 16 ≤ size → size ≤ frame → frame + 4 ≡ word_of Esp s → word_of Ebp v ≡ frame
    → AreArraysIn arrays size belows → Entered site size zeroed one s v → Headed site size two arrays belows v u
    → u.eip ≡ site.places.points point → Begun site size zeroed arrays belows point frame s u
made site size zeroed point frame arrays belows one two rest s v u four room above at inside p q eip =
    let base : (b n : ℕ) → HeadersApart frame arrays belows b n → HeadersApart (word_of Ebp v) arrays belows b n =
    λ b n apart k d array e f. subst (λ (x : ℕ). AreDisjoint (x - (d + 4)) 4 b n) (sym at) (apart k d array e f) in
    let saved : (c w : ℕ) → c ≤ 12 → load 4 (word_of Ebp v - c) v ≡ Ok w → load 4 (frame - c) u ≡ Ok w =
    λ c w few e. q.kept 4 (frame - c) w (base (frame - c) 4 (λ k d array f g.
    header-below frame size (size_of array) d c (inside.inside k d array f g).low
    (inside.inside k d array f g).high room few))
    (subst (λ (x : ℕ). load 4 (x - c) v ≡ Ok w) at e) in
    let up = q.ebp in
    let down = q.esp in
    let whole = (p.framed).esp in
    record {
      comes = comes-then site.text s v u p.comes q.comes;
      sound = (q.framed).sound;
      eip = eip;
      ebp = q.ebp ∙ at;
      esp = (let e : word_of Esp u + size ≡ frame = omega (arith, down, whole, at) in e);
      old_ebp = same-zero frame u (word_of Ebp s)
          (saved 0 (word_of Ebp s) (omega arith) (zero-off (word_of Ebp v) v (word_of Ebp s) p.old_ebp));
      old_ebx = saved 4 (word_of Ebx s) (omega arith) p.old_ebx;
      counts = λ k d array e f. subst (λ (x : ℕ). load 4 (x - (d + 4)) u ≡ Ok array.1) at (q.counts k d array e f);
      zeros = λ n b low high some apart. q.kept n b 0 (base b n apart)
          (p.zeros n b (omega (arith, low, whole, at)) (below-zeroed (b + n) frame (word_of Ebp v) high at) some);
      kept = λ n b w out e. q.kept n b w (base b n (λ k d array f g.
          header-outside frame size d b n (inside.inside k d array f g).high room out))
          (p.kept n b w (frame-outside frame size (word_of Esp s) b n above room out) e);
      left = q.left ∙ p.left;
      taken = q.taken ∙ p.taken;
      written = q.written ∙ p.written;
    }
  where
    same-zero : (a : ℕ) (t : machine.State) (w : ℕ) → load 4 (a - 0) t ≡ Ok w → load 4 a t ≡ Ok w
    same-zero a t w e = let none : a - 0 ≡ a = omega arith in subst (λ (x : ℕ). load 4 x t ≡ Ok w) none e

    zero-off : (a : ℕ) (t : machine.State) (w : ℕ) → load 4 a t ≡ Ok w → load 4 (a - 0) t ≡ Ok w
    zero-off a t w e = let none : a - 0 ≡ a = omega arith in subst (λ (x : ℕ). load 4 x t ≡ Ok w) (sym none) e

    below-zeroed : (m f e : ℕ) → m + zeroed ≤ f → e ≡ f → m ≤ e - zeroed
    below-zeroed m f e h k = omega arith

-- ---- room on the stack

-- the new frame has room above the data
pub called-room : (code : Code) (input : List ℕ) (g : graph.State) (s : machine.State) → IsSupported code
    → IsState code.program g → (c : Called code input g s)
    → data_end code + 0x1000 + frame_size code g.current ≤ c.frame
called-room code input g s h state c =
    let small = stack-small code g.current g.waiting h state.active state.waiting in
    counted (data_start code.text) (length (data_bytes (objects_of code.program))) c.frame
    (4 * length g.current.arguments) (stack_bytes code (map (λ w. w.activation) g.waiting)) (frame_size code g.current)
    (most_words (flow_at code.program g.current.function).ops) (length g.waiting) c.room small c.few
  where
    counted : (low bytes frame words rest size most n : ℕ)
        → low + (round_up 4 bytes + 0x04001000) ≤ frame + 8 + words + rest
        → 8 + size + words + rest + 4 * most ≤ 0x4000 * suc n → suc n ≤ 4096 → low + bytes + 0x1000 + size ≤ frame
    counted low bytes frame words rest size most n room small few = omega arith

-- the return address is in memory
returns-at : (code : Code) (active : List Activation) (frames : List ℕ) (s : machine.State) (younger : Activation)
    (frame : ℕ) (waiting : List Waiting) (older : List ℕ) → WaitAtEbp code active frames s younger frame waiting older
    → (r : ℕ) × (load 4 (frame + 4) s ≡ Ok r)
returns-at code active frames s younger frame [] [] (main, none, r, returns, behind) = (r, returns)
returns-at code active frames s younger frame [] (k ∷ older) h = absurd h
returns-at code active frames s younger frame (w ∷ waiting) [] h = absurd h
returns-at code active frames s younger frame (w ∷ waiting) (k ∷ older) h = ((h.0).return_address, (h.0).returns)

-- memory is a text and data
pub called-sound : (code : Code) (input : List ℕ) (g : graph.State) (s : machine.State) → IsSupported code
    → Called code input g s → SoundAt (site_of code g.current.function) s
called-sound code input g s h c =
    let areas = areas-are code.text (objects_of code.program) s.memory c.shapes c.text in
    record {
      bytes = areas.0;
      memory = areas.1;
      size = areas.2;
      above = text-above code.text;
      below = h.fits;
      small = data-small code.text (data_start code.text) areas.0 s.memory areas.1 c.small;
      registers = c.registers;
    }

-- ---- the whole

pub begins : (code : Code) (input : List ℕ) (g : graph.State) (s : machine.State) → IsSupported code
    → IsState code.program g → (c : Called code input g s) → EntryAt code g s
    → (u : machine.State) × Begun (site_of code g.current.function) (frame_size code g.current)
    (placement_of code g.current.function).zeroed
    (flow_at code.program g.current.function).arrays (placement_of code g.current.function).arrays g.point c.frame s u
begins code input g s h state c at =
    let f : ℕ = g.current.function in
    let flow : Flow = flow_at code.program f in
    let placement : Placement = placement_of code f in
    let size : ℕ = placement.frame in
    let site : Site = site_of code f in
    let supports : Supports flow placement = h.supports f (state.active.0).function in
    let last : List Item = item.Label 0 ∷ item.Point g.point ∷ at.rest in
    let sound = called-sound code input g s h c in
    let room = called-room code input g s h state c in
    let above = c.above in
    let returns = returns-at code (active_of g) (c.frame ∷ c.older) s g.current c.frame g.waiting c.older c.chain in
    let top = load-place code.text (data_start code.text) (stack_end code.text (objects_of code.program)) 4
    (c.frame + 4) returns.0 s sound
    (lower (data_start code.text) (length (data_bytes (objects_of code.program))) size c.frame room) returns.1
    (omega arith) in
    let p = prologue-goes site size placement.zeroed at.label (headers flow.arrays placement.arrays ++ last) s sound
    at.ready
    (enough (data_start code.text) (length (data_bytes (objects_of code.program))) size c.frame (word_of Esp s) room
    above) (ended c.frame (word_of Esp s) (stack_end code.text (objects_of code.program)) above top)
    supports.four_words supports.words supports.below_registers supports.zeroed_words in
    let v : machine.State = p.0 in
    let few = ((graph-of code.program f h.program (state.active.0).function).keeps.1).few_elements in
    let q = headers-go site size flow.arrays placement.arrays last v (p.1).framed supports.arrays few (p.1).ready in
    let u : machine.State = q.0 in
    let behind = label-passed site.symbols site.places site.text 0 (item.Point g.point ∷ at.rest) u (q.1).ready in
    let point = point-passed site.symbols site.places site.text g.point at.rest u behind in (
      u,
      made site size placement.zeroed g.point c.frame flow.arrays placement.arrays
          (headers flow.arrays placement.arrays ++ last) last at.rest s v u supports.four_words
          (within (data_start code.text + length (data_bytes (objects_of code.program))) size c.frame room) above
          (same-plus (word_of Ebp v) c.frame (word_of Esp s) (p.1).ebp above) supports.arrays p.1 q.1 (sym point.0),
    )
  where
    lower : (low bytes size frame : ℕ) → low + bytes + 0x1000 + size ≤ frame → low ≤ frame + 4
    lower low bytes size frame h = omega arith

    enough : (low bytes size frame e : ℕ) → low + bytes + 0x1000 + size ≤ frame → frame + 4 ≡ e → low + size + 64 ≤ e
    enough low bytes size frame e h k = omega arith

    ended : (frame e high : ℕ) → frame + 4 ≡ e → frame + 4 + 4 ≤ high → e + 4 ≤ high
    ended frame e high h k = omega arith

    within : (d size frame : ℕ) → d + 0x1000 + size ≤ frame → size ≤ frame
    within d size frame h = omega arith

    same-plus : (a b e : ℕ) → a + 4 ≡ e → b + 4 ≡ e → a ≡ b
    same-plus a b e h k = omega arith

-- From a function's first item the machine comes to a state that shows its first point.
use Rattle.std.proofs.Common.{◌≡◌, ℕ, zero, suc, ◌+◌, ◌-◌, ◌*◌, ◌≤◌, List, [], ◌∷◌, length, Some, Ok}
use Rattle.std.proofs.Common.{inl, inr, refl, sym, ap, subst, ◌∙◌, arith}
use Rattle.std.specs.Prelude.{drop, map, slice_get}
use Rattle.std.proofs.lemmas.Option.{none-some, same_Some}
use Rattle.ia32_insn.specs.declared.register_names.Reg32.TheVariants.{Ebx, Esp, Ebp}
use Rattle.ia32_insn.specs.Places.{InSlot}
use Rattle.ia32_insn.specs.State as machine
use Rattle.ia32_insn.specs.Meaning.{load, with_word, word_of}
use Rattle.ia32_insn.specs.Items.{data_bytes, data_start, stack_end}
use Rattle.flow_graph.specs.declared.op.Op.TheVariants as op
use Rattle.flow_graph.specs.States as graph
use Rattle.flow_graph.specs.States.{Activation, Waiting, active_of, depth_of, flow_at}
use Rattle.flow_graph.specs.WellFormed.{IsState}
use Rattle.ia32_rows.specs.Placements.{Code, objects_of, placement_of}
use Rattle.ia32_rows.specs.Shows.{FrameArraysStand, Shows, StandsIn, WaitFrom, Waits, stack_bytes}
use Rattle.ia32_rows.specs.Sites.{SoundAt}
use Rattle.ia32_rows.proofs.Sound.{load-same, sound-with_word, word-below, word-same}
use Rattle.ia32_laws.specs.KeepsLaws.{data_end}
use Rattle.ia32_laws.specs.Supports.{IsSupported, site_of}
use Rattle.ia32_laws.proofs.KeepsApart.{element-ends, frame-array, object-read}
use Rattle.ia32_laws.proofs.Chain.{WaitsSupported}
use Rattle.ia32_laws.proofs.Memory.{address-at, shapes-are, small-is, text-is}
use Rattle.ia32_laws.proofs.Objects.{depth-in}
use Rattle.ia32_laws.proofs.Shown.{elements-kept, waits-supported}
use Rattle.ia32_laws.proofs.Zones.{frame_size}
use Rattle.ia32_laws.specs.Called.{Called, WaitAtEbp, WaitsAtEbp}
use Rattle.ia32_laws.specs.EntriesLaws.{EntryComes}
use Rattle.ia32_laws.proofs.Begun.{Begun, begins, called-room, called-sound}
use Rattle.ia32_laws.proofs.Chains.{chain-above, chain-carried, frames-above, same-carried, stands-carried}
use Rattle.ia32_laws.proofs.Fresh.{fresh-arrays, fresh-stand}
use Rattle.ia32_laws.proofs.Spared.{spared-kept}

-- ---- the calls that wait

-- all that is above the word at the new frame is kept
abbrev pub KeptAbove : ℕ → machine.State → machine.State → Type 0
KeptAbove frame s u = (n b w : ℕ) → frame + 4 ≤ b → load n b s ≡ Ok w → load n b u ≡ Ok w

link-entered : (code : Code) (f : ℕ) (active : List Activation) (frames : List ℕ) (s u : machine.State)
    (younger : Activation) (frame : ℕ) (w : Waiting) (k : ℕ) (waiting : List Waiting) → SoundAt (site_of code f) s
    → SoundAt (site_of code f) u → WaitsSupported code (w ∷ waiting) → KeptAbove frame s u
    → load 4 frame u ≡ Ok (word_of Ebp s)
    → load 4 (frame - 4) u ≡ Ok (word_of Ebx s) → WaitsAtEbp code active frames s younger frame w k
    → Waits code active frames u younger frame w k
link-entered code f active frames s u younger frame w k waiting old new supports kept ebp ebx h =
    let x : ℕ = word_of Ebx s in
    let v : machine.State = with_word Ebx x u in
    let site = site_of code f in
    let small = word-below site.text site.low site.high Ebx s old in
    let sound = sound-with_word site.text site.low site.high Ebx x u new in
    let same : word_of Ebx v ≡ x = word-same site.text site.low site.high Ebx x u new small in
    record {
      calls = h.calls;
      link = ebp ∙ ap (λ (e : ℕ). Ok e) h.ebp;
      higher = h.higher;
      return_address = h.return_address;
      returns = kept 4 (frame + 4) h.return_address (omega arith) h.returns;
      returns_to = h.returns_to;
      ebx = x;
      saved = ebx;
      variables = λ q value place e other at.
          let calls = h.calls in
          let point = (supports.0).points w.point (op.Call calls.result younger.function calls.words)
          (w.block, calls.placed) calls.calls in
          let spared = (point.stays q place (λ d. other (sym d)) at).1 in
          let inside = (point.after q place at).inside in
          stands-carried code active active frames frames s v k
          (slice_get (flow_at code.program w.activation.function).widths q) value place (λ word is. is)
          (spared-kept k (placement_of code w.activation.function).frame place s v old.registers sound.registers
          inside spared same
          (λ slot is n word long held.
          let there = (point.after q (InSlot slot) (at ∙ ap Some is)).inside in
          load-same n (k - slot) word u v refl
          (kept n (k - slot) word (above frame (4 * length younger.arguments) (frame_size code w.activation) k slot
          h.higher there.high) held)))
          (h.variables q value place e other at);
    }
  where
    above : (f m size k slot : ℕ) → k ≡ f + 8 + m + size → slot ≤ size → f + 4 ≤ k - slot
    above f m size k slot e h = omega arith

chain-entered : (code : Code) (f : ℕ) (active : List Activation) (frames : List ℕ) (s u : machine.State)
    (younger : Activation) (frame : ℕ) (waiting : List Waiting) (older : List ℕ) → SoundAt (site_of code f) s
    → SoundAt (site_of code f) u → WaitsSupported code waiting → KeptAbove frame s u
    → load 4 frame u ≡ Ok (word_of Ebp s) → load 4 (frame - 4) u ≡ Ok (word_of Ebx s)
    → WaitAtEbp code active frames s younger frame waiting older
    → WaitFrom code active frames u younger frame waiting older
chain-entered code f active frames s u younger frame [] [] old new supports kept ebp ebx
    (main, none, r, returns, behind) =
    (main, none, r, kept 4 (frame + 4) r (omega arith) returns, behind)
chain-entered code f active frames s u younger frame [] (k ∷ older) old new supports kept ebp ebx h = absurd h
chain-entered code f active frames s u younger frame (w ∷ waiting) [] old new supports kept ebp ebx h = absurd h
chain-entered code f active frames s u younger frame (w ∷ waiting) (k ∷ older) old new supports kept ebp ebx h = (
  link-entered code f active frames s u younger frame w k waiting old new supports kept ebp ebx h.0,
  chain-carried code active active frames frames s u w.activation k waiting older old.registers new.registers supports.1
      (same-carried code active frames waiting)
      (λ n a x reads. kept n a x (above frame (4 * length younger.arguments) (frame_size code w.activation) k a
      (h.0).higher (chain-above code active frames s w.activation k waiting older a n supports.1 h.1 reads))) h.1,
)
  where
    above : (f m size k a : ℕ) → k ≡ f + 8 + m + size → k ≤ a + 4 → f + 4 ≤ a
    above f m size k a e h = omega arith

-- frames of calls that wait are above the new one
called-above : (code : Code) (active : List Activation) (frames : List ℕ) (s : machine.State) (younger : Activation)
    (frame : ℕ) (waiting : List Waiting) (older : List ℕ) (i : ℕ) (a : Activation) (at : ℕ)
    → WaitAtEbp code active frames s younger frame waiting older
    → slice_get (map (λ w. w.activation) waiting) i ≡ Some a → slice_get older i ≡ Some at
    → frame + 8 + frame_size code a ≤ at
called-above code active frames s younger frame [] older i a at h e k = absurd (none-some a e)
called-above code active frames s younger frame (w ∷ waiting) [] i a at h e k = absurd h
called-above code active frames s younger frame (w ∷ waiting) (o ∷ older) zero a at h e k =
    let size : frame_size code w.activation ≡ frame_size code a =
    ap (λ (b : Activation). frame_size code b) (same_Some w.activation a e) in
    counted frame (4 * length younger.arguments) (frame_size code w.activation) (frame_size code a) o at (h.0).higher
    size (same_Some o at k)
  where
    counted : (e n m p o f : ℕ) → o ≡ e + 8 + n + m → m ≡ p → o ≡ f → e + 8 + p ≤ f
    counted e n m p o f h s k = omega arith
called-above code active frames s younger frame (w ∷ waiting) (o ∷ older) (suc i) a at h e k =
    counted frame (4 * length younger.arguments) (frame_size code w.activation) (frame_size code a) o at (h.0).higher
    (frames-above code active frames s w.activation o waiting older i a at h.1 e k)
  where
    counted : (e n m p o f : ℕ) → o ≡ e + 8 + n + m → o + 8 + p ≤ f → e + 8 + p ≤ f
    counted e n m p o f h s = omega arith

-- ---- arrays of calls that wait

older-arrays : (code : Code) (input : List ℕ) (g : graph.State) (s u : machine.State) → IsSupported code
    → IsState code.program g → (c : Called code input g s) → KeptAbove c.frame s u → (i : ℕ) (a : Activation) (at : ℕ)
    → slice_get (map (λ w. w.activation) g.waiting) i ≡ Some a → slice_get c.older i ≡ Some at
    → FrameArraysStand code u at a
older-arrays code input g s u h state c kept i a at e f k elements has =
    let (array, distance, address, declared, placed, there, stand) = c.frame_arrays i a at e f k elements has in
    let high = called-above code (active_of g) (c.frame ∷ c.older) s g.current c.frame g.waiting c.older i a at c.chain
    e f in
    let room : frame_size code a ≤ at = less c.frame (frame_size code a) at high in
    let one = frame-array code g (c.frame ∷ c.older) (suc i) a at k distance address array elements h state
    (record { is_active = e; at_frame = f }) has declared placed room in
    let inside = one.inside in (
      array,
      distance,
      address,
      declared,
      placed,
      there,
      elements-kept s u address array.0 elements (λ n b w reads. kept n b w
          (above c.frame (frame_size code a) at distance address b high inside.high there
          (element-ends address array.0 (length elements) b n
          (front (frame_size code a) at distance address inside.high there room) reads).0)) stand,
    )
  where
    less : (f size at : ℕ) → f + 8 + size ≤ at → size ≤ at
    less f size at h = omega arith

    front : (size at d x : ℕ) → d + 4 ≤ size → x + d ≡ at → size ≤ at → 4 ≤ x
    front size at d x h e k = omega arith

    above : (f size at d x b : ℕ) → f + 8 + size ≤ at → d + 4 ≤ size → x + d ≡ at → x ≤ b + 4 → f + 4 ≤ b
    above f size at d x b h k e l = omega arith

-- ---- the whole

entered-shows : (code : Code) (input : List ℕ) (g : graph.State) (s u : machine.State) → IsSupported code
    → IsState code.program g → (c : Called code input g s)
    → Begun (site_of code g.current.function) (frame_size code g.current)
    (placement_of code g.current.function).zeroed
    (flow_at code.program g.current.function).arrays (placement_of code g.current.function).arrays g.point c.frame s u
    → Shows code input g u
entered-shows code input g s u h state c b =
    let f : ℕ = g.current.function in
    let size : ℕ = frame_size code g.current in
    let sound = b.sound in
    let room = called-room code input g s h state c in
    let within : size ≤ c.frame = less (data_end code) size c.frame room in
    let down = b.esp in
    let above : KeptAbove c.frame s u = λ n a w low. b.kept n a w (inl low) in
    record {
      frames = c.frame ∷ c.older;
      older = c.older;
      youngest = ap (λ (k : ℕ). k ∷ c.older) (sym b.ebp);
      registers = sound.registers;
      placed = c.placed;
      shapes = shapes-are code.text (objects_of code.program) u.memory sound.bytes sound.memory sound.size;
      text = text-is code.text u.memory (data_start code.text) sound.bytes sound.memory;
      small = small-is code.text (data_start code.text) sound.bytes u.memory sound.memory sound.small;
      eip = b.eip ∙ sym (address-at code.places f g.point);
      esp = b.esp ∙ sym b.ebp;
      room = stacked (stack_end code.text (objects_of code.program)) c.frame (4 * length g.current.arguments)
          (stack_bytes code (map (λ w. w.activation) g.waiting)) size (word_of Esp u) c.room b.esp;
      few = c.few;
      depth = b.kept 4 code.symbols.depth (depth_of g) (inr (counted (data_start code.text) code.symbols.depth
          (length (data_bytes (objects_of code.program))) size c.frame h.is_code.text.depth_is
          (depth-in (objects_of code.program)) room)) c.depth;
      chain = subst (λ (k : ℕ). WaitFrom code (active_of g) (c.frame ∷ c.older) u g.current k g.waiting c.older)
          (sym b.ebp)
          (chain-entered code f (active_of g) (c.frame ∷ c.older) s u g.current c.frame g.waiting c.older
          (called-sound code input g s h c) sound (waits-supported code g.waiting h state.active.1) above b.old_ebp
          b.old_ebx c.chain);
      variables = λ v value place e at. subst (λ (k : ℕ). StandsIn code (active_of g) (c.frame ∷ c.older) u k
          (slice_get (flow_at code.program f).widths v) value place) (sym b.ebp)
          (fresh-stand code input g s u h state c within b v value place e at);
      arguments = λ i a at e k number value has.
          let held = c.arguments i a at e k number value has in (
            held.0,
            above 4 (at + 8 + 4 * number) held.0 (argument-above i a at number e k) held.1,
            held.2,
          );
      old_arrays = c.old_arrays;
      objects = λ k elements e.
          let (object, address, declared, placed, stand) = c.objects k elements e in (
            object,
            address,
            declared,
            placed,
            elements-kept s u address object.width elements (λ n a w reads. b.kept n a w (inr
                (beneath (data_end code) size c.frame a n room (object-read code g a n h state (record {
                  number = k;
                  elements = elements;
                  has = e;
                  object = object;
                  declared = declared;
                  address = address;
                  placed = placed;
                  reads = reads;
                })).1))) stand,
          );
      frame_arrays = arrays within above;
      left = b.left ∙ c.left;
      taken = b.taken ∙ c.taken;
      written = b.written ∙ c.written;
      of_input = b.left ∙ c.of_input ∙ ap (λ (k : ℕ). drop k input) (sym b.taken);
    }
  where
    less : (d size f : ℕ) → d + 0x1000 + size ≤ f → size ≤ f
    less d size f h = omega arith

    stacked : (top f words rest size esp : ℕ) → top ≤ f + 8 + words + rest → esp + size ≡ f
        → top ≤ esp + (8 + size + words + rest)
    stacked top f words rest size esp h e = omega arith

    counted : (low depth bytes size f : ℕ) → depth ≡ low → 4 ≤ bytes → low + bytes + 0x1000 + size ≤ f
        → depth + 4 + size ≤ f
    counted low depth bytes size f e h room = omega arith

    beneath : (d size f a n : ℕ) → d + 0x1000 + size ≤ f → a + n ≤ d → a + n + size ≤ f
    beneath d size f a n h k = omega arith

    argument-above : (i : ℕ) (a : Activation) (at number : ℕ) → slice_get (active_of g) i ≡ Some a
        → slice_get (c.frame ∷ c.older) i ≡ Some at → c.frame + 4 ≤ at + 8 + 4 * number
    argument-above zero a at number e k = first c.frame at number (same_Some c.frame at k)
      where
        first : (f at m : ℕ) → f ≡ at → f + 4 ≤ at + 8 + 4 * m
        first f at m h = omega arith
    argument-above (suc i) a at number e k =
        later c.frame (frame_size code a) at number (called-above code (active_of g) (c.frame ∷ c.older) s g.current
        c.frame g.waiting c.older i a at c.chain e k)
      where
        later : (f size at m : ℕ) → f + 8 + size ≤ at → f + 4 ≤ at + 8 + 4 * m
        later f size at m h = omega arith

    arrays : frame_size code g.current ≤ c.frame → KeptAbove c.frame s u → (i : ℕ) (a : Activation) (at : ℕ)
        → slice_get (active_of g) i ≡ Some a → slice_get (c.frame ∷ c.older) i ≡ Some at → FrameArraysStand code u at a
    arrays within above zero a at e k =
        subst (FrameArraysStand code u at) (same_Some g.current a e)
        (subst (λ (x : ℕ). FrameArraysStand code u x g.current) (same_Some c.frame at k)
        (fresh-arrays code input g s u h state c within b))
    arrays within above (suc i) a at e k = older-arrays code input g s u h state c above i a at e k

pub entry-comes : EntryComes
entry-comes code input g s h state c at =
    let b = begins code input g s h state c at in
    (b.0, (b.1).comes, entered-shows code input g s b.0 h state c b.1)

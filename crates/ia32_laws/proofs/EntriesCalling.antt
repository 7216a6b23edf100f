-- The row of a call comes to the called function's first item.
use Rattle.std.proofs.Common.{◌≡◌, ◌⊎◌, ℕ, zero, suc, ◌+◌, ◌-◌, ◌*◌, ◌^◌, ◌<◌, ◌≤◌, Bool, true, false, pos, List}
use Rattle.std.proofs.Common.{[], ◌∷◌, ◌++◌, length, Option, Some, None, Ok, inl, inr, refl, sym, ap, subst, ◌∙◌, arith}
use Rattle.std.proofs.Common.{append_assoc, rules}
use Rattle.std.specs.List.{AllByRecursion}
use Rattle.std.specs.Prelude.{drop, if◌then◌else◌, map, nat_le, slice_get}
use Rattle.std.proofs.lemmas.Option.{none-some, same_Some}
use Rattle.pcc_base.specs.Outcome.{Trapped, Value, Number}
use Rattle.pcc_base.specs.declared.run.Trap.TheVariants.{Check}
use Rattle.ia32_insn.specs.declared.register_names.Reg32.TheVariants.{Ebx, Esp, Ebp}
use Rattle.ia32_insn.specs.Registers.{AreRegisters}
use Rattle.ia32_insn.specs.Places.{Place, InSlot}
use Rattle.ia32_insn.specs.declared.item.Item.{Item}
use Rattle.ia32_insn.specs.declared.item.Item.TheVariants as item
use Rattle.ia32_insn.specs.State as machine
use Rattle.ia32_insn.specs.Keeps.{AreDisjoint}
use Rattle.ia32_insn.specs.Meaning.{load, word_of}
use Rattle.ia32_insn.specs.Items.{Symbols, data_bytes, data_start, round_up, stack_end, text_area}
use Rattle.flow_graph.specs.declared.op.Op.TheVariants as op
use Rattle.flow_graph.specs.Graphs.{FitsOp, Flow, IsMet, points_of}
use Rattle.flow_graph.specs.Shapes.{two}
use Rattle.flow_graph.specs.Meaning.{Moved, Moves, Halts, Stuck, at_point, enters, given, most_active, values_at}
use Rattle.flow_graph.specs.Sizes.{most_words}
use Rattle.flow_graph.specs.States as graph
use Rattle.flow_graph.specs.States.{Activation, Waiting, active_of, depth_of, entry_of, first_activation, flow_at}
use Rattle.flow_graph.specs.States.{op_at}
use Rattle.flow_graph.specs.WellFormed.{IsState}
use Rattle.flow_graph.proofs.Changes.{first-in}
use Rattle.flow_graph.proofs.Values.{words-pass}
use Rattle.ia32_rows.specs.Placements.{Code, objects_of, placement_of}
use Rattle.ia32_rows.specs.Shows.{ArgumentsStand, FrameArraysStand, HoldsOldArrays, IsOldArray, ReturnsTo, Shows}
use Rattle.ia32_rows.specs.Shows.{stack_bytes}
use Rattle.ia32_rows.specs.Sites.{Framed, ReadyAt, Site, SoundAt, data_from}
use Rattle.ia32_rows.specs.Rows.{deepen, pass_all}
use Rattle.ia32_laws.specs.KeepsLaws.{data_end}
use Rattle.ia32_laws.specs.Supports.{IsSupported, site_of}
use Rattle.ia32_laws.proofs.KeepsApart.{element-ends, frame-array, frame-room, object-read}
use Rattle.ia32_laws.proofs.Memory.{shapes-are, small-is, text-is}
use Rattle.ia32_laws.proofs.Objects.{depth-in}
use Rattle.ia32_laws.proofs.Ops.{op-is}
use Rattle.ia32_laws.proofs.Shown.{elements-kept, point-supported, waits-supported}
use Rattle.ia32_laws.proofs.Zones.{frame_size, shown-in-frame, words-most}
use Rattle.ia32_laws.specs.ActivationsLaws.{CallMade, HasDepth}
use Rattle.ia32_laws.specs.StandingLaws.{marked, places_before}
use Rattle.ia32_laws.proofs.Calling.{call-makes}
use Rattle.ia32_laws.proofs.Depth.{depth-fails}
use Rattle.ia32_laws.specs.Called.{Called, WaitAtEbp, WaitsAtEbp}
use Rattle.ia32_laws.specs.Calls.{CallComes, ComesCalled}
use Rattle.ia32_laws.proofs.Chains.{chain-above, chain-carried, frames-above, stack-small, stands-carried}
use Rattle.ia32_laws.proofs.Marked.{has-depth, point-behind}
use Rattle.ia32_laws.proofs.Passed.{AreWords, arguments-held}
use Rattle.ia32_laws.proofs.Spared.{spared-kept}
use Rattle.ia32_laws.proofs.Younger.{all-younger, old-deeper, word-younger}
use Rattle.ia32_laws.proofs.Fresh.{mapped}

-- ---- room

-- the stack has room for the words that an op passes, above the data
call-room : (code : Code) (input : List ℕ) (g : graph.State) (s : machine.State) → IsSupported code
    → IsState code.program g → Shows code input g s
    → data_end code + 0x1000 + 4 * most_words (flow_at code.program g.current.function).ops ≤ word_of Esp s
call-room code input g s h state shown =
    counted (data_start code.text) (length (data_bytes (objects_of code.program))) (word_of Esp s)
    (stack_bytes code (active_of g)) (most_words (flow_at code.program g.current.function).ops) (length g.waiting)
    shown.room (stack-small code g.current g.waiting h state.active state.waiting) shown.few
  where
    counted : (low bytes esp stack most n : ℕ) → low + (round_up 4 bytes + 0x04001000) ≤ esp + stack
        → stack + 4 * most ≤ 0x4000 * suc n → suc n ≤ 4096 → low + bytes + 0x1000 + 4 * most ≤ esp
    counted low bytes esp stack most n room small few = omega arith

-- ---- the state with the call begun

abbrev begun : Code → graph.State → ℕ → List Value → ℕ → graph.State
begun code g f values point =
    record g {
      block = 0;
      point = point;
      current = first_activation code.program f values;
      waiting = record { activation = g.current; block = g.block; point = g.point } ∷ g.waiting;
    }

-- What a call keeps: what is at ESP or above, and the data behind the depth word.
abbrev KeptByCall : Code → machine.State → machine.State → Type 0
KeptByCall code s u =
    (n b w : ℕ) → (word_of Esp s ≤ b) ⊎ ((data_start code.text + 4 ≤ b) × (b + n ≤ data_end code))
    → load n b s ≡ Ok w → load n b u ≡ Ok w

kept-by-call : (code : Code) (g : graph.State) (site : Site) (back : List Item) (f d : ℕ) (words : List ℕ)
    (s u : machine.State) → site.symbols ≡ code.symbols → code.symbols.depth ≡ data_start code.text
    → 4 ≤ length (data_bytes (objects_of code.program))
    → data_end code + 0x1000 + 4 * length words ≤ word_of Esp s → CallMade site back f words d s u → KeptByCall code s u
kept-by-call code g site back f d words s u same depth four room made n b w (inl above) e =
    let down = made.esp in
    made.kept n b w (subst (λ (x : ℕ). AreDisjoint x 4 b n) (sym (ap (λ (y : Symbols). y.depth) same))
    (inl (counted (data_start code.text) code.symbols.depth (length (data_bytes (objects_of code.program)))
    (length words) (word_of Esp s) b depth four room above)))
    (inl (omega (arith, down, above))) e
  where
    counted : (low depth bytes m esp b : ℕ) → depth ≡ low → 4 ≤ bytes → low + bytes + 0x1000 + 4 * m ≤ esp → esp ≤ b
        → depth + 4 ≤ b
    counted low depth bytes m esp b e h room k = omega arith
kept-by-call code g site back f d words s u same depth four room made n b w (inr inside) e =
    let down = made.esp in
    let low = inside.0 in
    let high = inside.1 in
    made.kept n b w (subst (λ (x : ℕ). AreDisjoint x 4 b n) (sym (ap (λ (y : Symbols). y.depth) same))
    (inl (omega (arith, low, depth))))
    (inr (counted (data_end code) (length words) (word_of Esp s) (word_of Esp u) (b + n) room down high)) e
  where
    counted : (d m esp u a : ℕ) → d + 0x1000 + 4 * m ≤ esp → u + 4 + 4 * m ≡ esp → a ≤ d → a ≤ u
    counted d m esp u a room down h = omega arith

-- ---- the parts of what is shown

-- the call that now waits
caller-waits : (code : Code) (input : List ℕ) (g : graph.State) (s u : machine.State) (d : Option ℕ) (f : ℕ)
    (arguments : List ℕ) (values : List Value) (frame r : ℕ) (point : ℕ) → IsSupported code → IsState code.program g
    → (shown : Shows code input g s) → op_at code.program g ≡ Some (op.Call d f arguments)
    → values_at g arguments ≡ Some values → AreRegisters s.registers × AreRegisters u.registers → KeptByCall code s u
    → word_of Ebx u ≡ word_of Ebx s → word_of Ebp u ≡ word_of Ebp s
    → frame + 8 + 4 * length values ≡ word_of Esp s → load 4 (frame + 4) u ≡ Ok r
    → ReturnsTo code (record { activation = g.current; block = g.block; point = g.point }) f r
    → WaitsAtEbp code (active_of (begun code g f values point)) (frame ∷ shown.frames) u
    (first_activation code.program f values) frame
    (record { activation = g.current; block = g.block; point = g.point }) (word_of Ebp s)
caller-waits code input g s u d f arguments values frame r point h state shown has passes registers kept ebx ebp at held
    returns =
    let esp = shown.esp in
    let here = point-supported code g (op.Call d f arguments) h state has in
    record {
      calls = record {
        placed = state.placed;
        result = d;
        words = arguments;
        calls = has;
        passes = words-pass g arguments values passes;
      };
      ebp = ebp;
      higher = counted frame (4 * length values) (word_of Esp s) (frame_size code g.current) (word_of Ebp s) at
          shown.esp;
      return_address = r;
      returns = held;
      returns_to = returns;
      variables = λ v value place e other behind.
          let stays = here.stays v place (λ k. other (sym k)) behind in
          let inside = (here.after v place behind).inside in
          stands-carried code (active_of g) (active_of (begun code g f values point)) shown.frames
          (frame ∷ shown.frames) s u (word_of Ebp s)
          (slice_get (flow_at code.program g.current.function).widths v) value place
          (word-younger code (active_of g) shown.frames (first_activation code.program f values) frame value)
          (spared-kept (word_of Ebp s) (placement_of code g.current.function).frame place s u registers.0 registers.1
          inside stays.1 ebx (λ slot is n word long load. kept n (word_of Ebp s - slot) word
          (inl (inner (word_of Esp s) (frame_size code g.current) (word_of Ebp s) slot shown.esp
          (here.after v (InSlot slot) (behind ∙ ap Some is)).inside.high)) load))
          (shown.variables v value place e stays.0);
    }
  where
    counted : (f m esp size ebp : ℕ) → f + 8 + m ≡ esp → esp + size ≡ ebp → ebp ≡ f + 8 + m + size
    counted f m esp size ebp h k = omega arith

    inner : (esp size ebp slot : ℕ) → esp + size ≡ ebp → slot ≤ size → esp ≤ ebp - slot
    inner esp size ebp slot h k = omega arith

-- the bytes of an active call's frame are at ESP or above
zone-low : (code : Code) (input : List ℕ) (g : graph.State) (s : machine.State) → (shown : Shows code input g s)
    → (i : ℕ) (a : Activation) (at : ℕ) → slice_get (active_of g) i ≡ Some a → slice_get shown.frames i ≡ Some at
    → word_of Esp s + frame_size code a ≤ at
zone-low code input g s shown i a at e f =
    each i e (subst (λ (fs : List ℕ). slice_get fs i ≡ Some at) shown.youngest f)
  where
    own : (esp size other ebp at : ℕ) → esp + size ≡ ebp → size ≡ other → ebp ≡ at → esp + other ≤ at
    own esp size other ebp at h k l = omega arith

    above : (esp size other ebp at : ℕ) → esp + size ≡ ebp → ebp + 8 + other ≤ at → esp + other ≤ at
    above esp size other ebp at h k = omega arith

    each : (k : ℕ) → slice_get (active_of g) k ≡ Some a → slice_get (word_of Ebp s ∷ shown.older) k ≡ Some at
        → word_of Esp s + frame_size code a ≤ at
    each zero e f = own (word_of Esp s) (frame_size code g.current) (frame_size code a) (word_of Ebp s) at shown.esp
        (ap (λ (b : Activation). frame_size code b) (same_Some g.current a e)) (same_Some (word_of Ebp s) at f)
    each (suc k) e f = above (word_of Esp s) (frame_size code g.current) (frame_size code a) (word_of Ebp s) at
        shown.esp (frames-above code (active_of g) shown.frames s g.current (word_of Ebp s) g.waiting shown.older k a at
        shown.chain e f)

-- argument words of all calls
begun-arguments : (code : Code) (input : List ℕ) (g : graph.State) (s u : machine.State) (f : ℕ) (arguments : List ℕ)
    (values : List Value) (words : List ℕ) (frame point : ℕ) → (shown : Shows code input g s) → KeptByCall code s u
    → AreWords code g shown.frames s arguments values words
    → ((k w : ℕ) → slice_get words k ≡ Some w → load 4 (frame + 8 + 4 * k) u ≡ Ok w)
    → (i : ℕ) (a : Activation) (at : ℕ) → slice_get (active_of (begun code g f values point)) i ≡ Some a
    → slice_get (frame ∷ shown.frames) i ≡ Some at
    → ArgumentsStand code (active_of (begun code g f values point)) (frame ∷ shown.frames) u at a.arguments
begun-arguments code input g s u f arguments values words frame point shown kept are stand zero a at e k =
    let callee : Activation = first_activation code.program f values in
    subst (λ (b : Activation). ArgumentsStand code (callee ∷ active_of g) (frame ∷ shown.frames) u at b.arguments)
    (same_Some callee a e)
    (subst (λ (x : ℕ). ArgumentsStand code (callee ∷ active_of g) (frame ∷ shown.frames) u x values)
    (same_Some frame at k) (λ number value has.
    let (w, there, is) = are.are number value has in
    (w, stand number w there, word-younger code (active_of g) shown.frames callee frame value w is)))
begun-arguments code input g s u f arguments values words frame point shown kept are stand (suc i) a at e k =
    let callee : Activation = first_activation code.program f values in
    λ number value has. let held = shown.arguments i a at e k number value has in (
      held.0,
      kept 4 (at + 8 + 4 * number) held.0 (inl (above (word_of Esp s) (frame_size code a) at number
          (zone-low code input g s shown i a at e k))) held.1,
      word-younger code (active_of g) shown.frames callee frame value held.0 held.2,
    )
  where
    above : (esp size at k : ℕ) → esp + size ≤ at → esp ≤ at + 8 + 4 * k
    above esp size at k h = omega arith

-- arrays that calls hold
begun-old : (code : Code) (input : List ℕ) (g : graph.State) (s : machine.State) (f : ℕ) (arguments : List ℕ)
    (values : List Value) (words : List ℕ) (point : ℕ) → (shown : Shows code input g s)
    → AreWords code g shown.frames s arguments values words → (i : ℕ) (a : Activation)
    → slice_get (active_of (begun code g f values point)) i ≡ Some a
    → HoldsOldArrays (depth_of (begun code g f values point) - i) a
begun-old code input g s f arguments values words point shown are zero a e =
    let callee : Activation = first_activation code.program f values in
    let all : suc (suc (length g.waiting)) ≡ suc (suc (length g.waiting)) - 0 = omega arith in
    let some : depth_of g - 0 ≤ suc (suc (length g.waiting)) = omega arith in
    subst (HoldsOldArrays (suc (suc (length g.waiting)) - 0)) (same_Some callee a e)
    (subst (λ (k : ℕ). HoldsOldArrays k callee) all (
      (λ v value has. subst (IsOldArray (suc (suc (length g.waiting))))
          (mapped (flow_at code.program f).widths (Number (pos 0)) value v has) tt),
      (λ k value has. let (v, there) = are.variables k value has in
          old-deeper (depth_of g - 0) (suc (suc (length g.waiting))) value some
          ((shown.old_arrays 0 g.current refl).0 v value there)),
    ))
begun-old code input g s f arguments values words point shown are (suc i) a e =
    let same : suc (length g.waiting) - i ≡ suc (suc (length g.waiting)) - suc i = omega arith in
    subst (λ (k : ℕ). HoldsOldArrays k a) same (shown.old_arrays i a e)

-- arrays of calls that wait
begun-arrays : (code : Code) (input : List ℕ) (g : graph.State) (s u : machine.State) → IsSupported code
    → IsState code.program g → (shown : Shows code input g s) → KeptByCall code s u → (i : ℕ) (a : Activation) (at : ℕ)
    → slice_get (active_of g) i ≡ Some a → slice_get shown.frames i ≡ Some at → FrameArraysStand code u at a
begun-arrays code input g s u h state shown kept i a at e f k elements has =
    let (array, distance, address, declared, placed, there, stand) = shown.frame_arrays i a at e f k elements has in
    let low = zone-low code input g s shown i a at e f in
    let room = frame-room code input g s i a at h state shown (record { is_active = e; at_frame = f }) in
    let one = frame-array code g shown.frames i a at k distance address array elements h state
    (record { is_active = e; at_frame = f }) has declared placed room in
    let inside = one.inside in (
      array,
      distance,
      address,
      declared,
      placed,
      there,
      elements-kept s u address array.0 elements (λ n b w reads. kept n b w
          (inl (above (word_of Esp s) (frame_size code a) at distance address b low inside.high there
          (element-ends address array.0 (length elements) b n
          (front (frame_size code a) at distance address inside.high there room) reads).0))) stand,
    )
  where
    front : (size at d x : ℕ) → d + 4 ≤ size → x + d ≡ at → size ≤ at → 4 ≤ x
    front size at d x h e k = omega arith

    above : (esp size at d x b : ℕ) → esp + size ≤ at → d + 4 ≤ size → x + d ≡ at → x ≤ b + 4 → esp ≤ b
    above esp size at d x b h k e l = omega arith

-- ---- the state in which the function begins

begun-called : (code : Code) (input : List ℕ) (g : graph.State) (s u : machine.State) (site : Site) (back : List Item)
    (d : Option ℕ) (f : ℕ) (arguments : List ℕ) (values : List Value) (words : List ℕ) (point : ℕ)
    → IsSupported code → IsState code.program g → (shown : Shows code input g s)
    → op_at code.program g ≡ Some (op.Call d f arguments) → values_at g arguments ≡ Some values
    → AreWords code g shown.frames s arguments values words → depth_of g < most_active
    → site.symbols ≡ code.symbols → site.text ≡ code.text → site.low ≡ data_start code.text
    → site.high ≡ stack_end code.text (objects_of code.program)
    → data_end code + 0x1000 + 4 * length words ≤ word_of Esp s
    → (made : CallMade site back f words (depth_of g) s u)
    → ReturnsTo code (record { activation = g.current; block = g.block; point = g.point }) f made.return_address
    → entry_of code.program f 0 ≡ Some point → Called code input (begun code g f values point) u
begun-called code input g s u site back d f arguments values words point h state shown has passes are few symbols text
    low high room made returns first =
    let callee : Activation = first_activation code.program f values in
    let frame : ℕ = word_of Esp u - 4 in
    let down = made.esp in
    let many = are.many in
    let above : frame + 4 ≡ word_of Esp u = lower (data_end code) (length words) (word_of Esp u) (word_of Esp s) room
    down in
    let sound = made.sound in
    let depth_is = h.is_code.text.depth_is in
    let kept = kept-by-call code g site back f (depth_of g) words s u symbols depth_is
    (depth-in (objects_of code.program)) room made in
    let whole : frame + 8 + 4 * length values ≡ word_of Esp s = counted frame (word_of Esp u) (length words)
    (length values) (word_of Esp s) above many down in
    let ebp : word_of Ebp u ≡ word_of Ebp s = made.others Ebp (λ e. omega (arith, e)) (λ e. omega (arith, e)) in
    let ebx : word_of Ebx u ≡ word_of Ebx s = made.others Ebx (λ e. omega (arith, e)) (λ e. omega (arith, e)) in
    let memory = areas-of site code u text low high sound in
    record {
      frame = frame;
      above = above;
      older = shown.frames;
      fresh = refl;
      begins = first;
      eip = subst (λ (y : Symbols). slice_get y.functions f ≡ Some u.eip) symbols made.eip;
      registers = sound.registers;
      placed = first-in point (points_of (flow_at code.program f) 0) first;
      shapes = shapes-are code.text (objects_of code.program) u.memory sound.bytes memory.0 memory.1;
      text = text-is code.text u.memory (data_start code.text) sound.bytes memory.0;
      small = small-is code.text (data_start code.text) sound.bytes u.memory memory.0 sound.small;
      room = subst (λ (x : ℕ). stack_end code.text (objects_of code.program) ≤ x + stack_bytes code (active_of g))
          (sym whole) shown.room;
      few = few;
      depth = deeper code.symbols site.symbols (length g.waiting) symbols made.depth;
      chain = subst (λ (fs : List ℕ). WaitAtEbp code (callee ∷ active_of g) (frame ∷ shown.frames) u callee frame
          (record { activation = g.current; block = g.block; point = g.point } ∷ g.waiting) fs) (sym shown.youngest) (
            caller-waits code input g s u d f arguments values frame made.return_address point h state shown has passes
                (shown.registers, sound.registers) kept ebx ebp whole
                (subst (λ (x : ℕ). load 4 x u ≡ Ok made.return_address) (sym above) made.returns) returns,
            chain-carried code (active_of g) (callee ∷ active_of g) shown.frames (frame ∷ shown.frames) s u g.current
                (word_of Ebp s) g.waiting shown.older shown.registers sound.registers
                (waits-supported code g.waiting h state.active.1)
                (all-younger code (active_of g) shown.frames callee frame g.waiting)
                (λ n a w reads. kept n a w (inl (over (word_of Esp s) (frame_size code g.current) (word_of Ebp s) a
                shown.esp (h.supports g.current.function (state.active.0).function).four_words
                (chain-above code (active_of g) shown.frames s g.current (word_of Ebp s) g.waiting shown.older a n
                (waits-supported code g.waiting h state.active.1) shown.chain reads)))) shown.chain,
          );
      arguments = begun-arguments code input g s u f arguments values words frame point shown kept are (λ k w e.
          let same : word_of Esp u + 4 + 4 * k ≡ frame + 8 + 4 * k = omega (arith, above) in
          subst (λ (x : ℕ). load 4 x u ≡ Ok w) same (made.stand k w e));
      old_arrays = begun-old code input g s f arguments values words point shown are;
      objects = λ k elements e.
          let (object, address, declared, placed, stand) = shown.objects k elements e in (
            object,
            address,
            declared,
            placed,
            elements-kept s u address object.width elements (λ n a w reads. kept n a w (inr (object-read code g a n h
                state (record {
                  number = k;
                  elements = elements;
                  has = e;
                  object = object;
                  declared = declared;
                  address = address;
                  placed = placed;
                  reads = reads;
                })))) stand,
          );
      frame_arrays = begun-arrays code input g s u h state shown kept;
      left = made.left ∙ shown.left;
      taken = made.taken ∙ shown.taken;
      written = made.written ∙ shown.written;
      of_input = made.left ∙ shown.of_input ∙ ap (λ (k : ℕ). drop k input) (sym made.taken);
    }
  where
    lower : (d m u s : ℕ) → d + 0x1000 + 4 * m ≤ s → u + 4 + 4 * m ≡ s → u - 4 + 4 ≡ u
    lower d m u s room down = omega arith

    counted : (f u m n s : ℕ) → f + 4 ≡ u → m ≡ n → u + 4 + 4 * m ≡ s → f + 8 + 4 * n ≡ s
    counted f u m n s h e k = omega arith

    over : (esp size ebp a : ℕ) → esp + size ≡ ebp → 16 ≤ size → ebp ≤ a + 4 → esp ≤ a
    over esp size ebp a h four k = omega arith

    deeper : (mine other : Symbols) (n : ℕ) → other ≡ mine → load 4 other.depth u ≡ Ok (suc n + 1)
        → load 4 mine.depth u ≡ Ok (suc (suc n))
    deeper mine other n same e =
        let more : suc n + 1 ≡ suc (suc n) = omega arith in
        subst (λ (y : Symbols). load 4 y.depth u ≡ Ok (suc (suc n))) same (e ∙ ap (λ (k : ℕ). Ok k) more)

    areas-of : (at : Site) (c : Code) (v : machine.State) → at.text ≡ c.text → at.low ≡ data_start c.text
        → at.high ≡ stack_end c.text (objects_of c.program) → (sound : SoundAt at v)
        → (v.memory ≡ text_area c.text ∷ data_from (data_start c.text) sound.bytes ∷ [])
        × (data_start c.text + length sound.bytes ≡ stack_end c.text (objects_of c.program))
    areas-of at c v text low high sound = (
      sound.memory ∙ ap (λ (x : List ℕ). text_area x ∷ data_from at.low sound.bytes ∷ []) text
          ∙ ap (λ (x : ℕ). text_area c.text ∷ data_from x sound.bytes ∷ []) low,
      ap (λ (x : ℕ). x + length sound.bytes) (sym low) ∙ sound.size ∙ high,
    )

-- ---- the whole

-- the words that a call passes are variables of width Two
words-met : (flow : Flow) (result : Option ℕ) (f : ℕ) (words : List ℕ) → FitsOp flow (op.Call result f words)
    → AllByRecursion (IsMet flow) (map two words)
words-met flow None f words met = met
words-met flow (Some d) f words met = met.1

-- what is made of a value, where there is one
pub given-some : {A : Type 0} (P : Moved → Type 0) (o : Option A) (go : A → Moved) → P Stuck
    → ((a : A) → o ≡ Some a → P (go a)) → P (given o go)
given-some P None go none some = none
given-some P (Some a) go none some = some a refl

pub call-comes : CallComes
call-comes d f arguments code input g s h state shown has at =
    given-some (ComesCalled code input s g) (values_at g arguments)
    (λ values. if nat_le most_active (depth_of g) then Halts (Trapped Check) else enters code.program g f values) tt
    (λ values e. tested values e (nat_le most_active (depth_of g)) refl)
  where
    site : Site
    site = marked (site_of code g.current.function) at.return_address

    size : ℕ
    size = (placement_of code g.current.function).frame

    framed : Framed site size s
    framed =
        let there = (shown-in-frame code input g s h state shown).framed in
        record { sound = there.sound; esp = there.esp; room = there.room; top = there.top }

    depth : HasDepth site
    depth = has-depth code g.current.function at.return_address h

    places : List Place
    places = places_before code g.current.function g.point arguments

    last : List Item
    last = item.CallFunction f ∷ item.Point 0 ∷ []

    small : depth_of g < 2 ^ 32
    small = let few = shown.few in omega (arith, few)

    fails : most_active ≤ depth_of g → ComesCalled code input s g (Halts (Trapped Check))
    fails many =
        let p = depth-fails site (pass_all places ++ last) (depth_of g) s framed.sound depth shown.depth many small
        (subst (λ (xs : List Item). ReadyAt site xs s) (append_assoc deepen (pass_all places) last) at.ready) in
        (p.0, (p.1).comes, (p.1).clear, (p.1).halts, (p.1).taken ∙ shown.taken, (p.1).written ∙ shown.written)

    comes : (values : List Value) → values_at g arguments ≡ Some values → depth_of g < most_active → (point : ℕ)
        → entry_of code.program f 0 ≡ Some point
        → ComesCalled code input s g (Moves (begun code g f values point))
    comes values e few point first =
        let (words, are) = arguments-held code input g s (op.Call d f arguments) arguments values h state shown has
        (λ v i. i) (words-met (flow_at code.program g.current.function) d f arguments
        (op-is code g (op.Call d f arguments) h state has).fits) e in
        let most = words-most (flow_at code.program g.current.function).ops g.point (op.Call d f arguments) has in
        let many = are.many in
        let long = are.long in
        let room : data_end code + 0x1000 + 4 * length words ≤ word_of Esp s =
        counted (data_end code) (most_words (flow_at code.program g.current.function).ops) (length words)
        (length values) (length arguments) (word_of Esp s) (call-room code input g s h state shown) most many long in
        let made = call-makes site size f places words (depth_of g) (item.Point 0 ∷ []) s framed depth
        (enough (data_start code.text) code.symbols.depth (length (data_bytes (objects_of code.program))) (length words)
        (word_of Esp s) h.is_code.text.depth_is (depth-in (objects_of code.program)) room) are.held shown.depth few
        at.ready in
        let u : machine.State = made.0 in
        let same = point-behind code g.current.function at.return_address (made.1).return_address (made.1).returns_to
        in (
          u,
          (made.1).comes,
          begun-called code input g s u site (item.Point 0 ∷ []) d f arguments values words point h state shown has e
              are few refl refl refl refl room made.1
              (subst (ReturnsTo code (record { activation = g.current; block = g.block; point = g.point }) f) same
              at.returns_to) first,
        )
      where
        counted : (d m n v a esp : ℕ) → d + 0x1000 + 4 * m ≤ esp → a ≤ m → n ≡ v → v ≡ a → d + 0x1000 + 4 * n ≤ esp
        counted d m n v a esp room most h k = omega arith

        enough : (low depth bytes n esp : ℕ) → depth ≡ low → 4 ≤ bytes → low + bytes + 0x1000 + 4 * n ≤ esp
            → depth + 4 * n + 16 ≤ esp
        enough low depth bytes n esp e h room = omega arith

    reached : (values : List Value) → values_at g arguments ≡ Some values → depth_of g < most_active → (o : Option ℕ)
        → entry_of code.program f 0 ≡ o
        → ComesCalled code input s g (at_point 0 (record g {
          current = first_activation code.program f values;
          waiting = record { activation = g.current; block = g.block; point = g.point } ∷ g.waiting;
        }) o)
    reached values e few None first = tt
    reached values e few (Some point) first = comes values e few point first

    tested : (values : List Value) → values_at g arguments ≡ Some values → (many : Bool)
        → nat_le most_active (depth_of g) ≡ many
        → ComesCalled code input s g (if many then Halts (Trapped Check) else enters code.program g f values)
    tested values e true is = fails (search (rules, is))
    tested values e false is = reached values e (search (rules, is)) (entry_of code.program f 0) refl

-- Behind a call the machine comes to a state that shows the caller's next point.
use Rattle.std.proofs.Common.{◌≡◌, ◌≢◌, ◌⊎◌, ℕ, suc, ◌+◌, ◌-◌, ◌*◌, ◌%◌, ◌^◌, ◌<◌, ◌≤◌, ℤ, false, List, []}
use Rattle.std.proofs.Common.{◌∷◌, ◌++◌}
use Rattle.std.proofs.Common.{length, Option, Some, None, Ok, inl, inr, refl, sym, ap, subst, ◌∙◌, arith, append_assoc}
use Rattle.std.specs.Prelude.{⊤, slice_get, slice_set, unwrap_or, FitsSigned}
use Rattle.std.specs.Int.{w32, cast_unsigned}
use Rattle.std.proofs.lemmas.List.{length-map}
use Rattle.std.proofs.lemmas.Option.{none-some, same_Some}
use Rattle.pcc_base.specs.Outcome.{Value, Number}
use Rattle.pcc_base.specs.declared.run.Width.{Width}
use Rattle.ia32_insn.specs.declared.register_names.Reg32.TheVariants.{Eax, Ebx, Esp, Ebp, Esi}
use Rattle.ia32_insn.specs.Places.{Place, InWord, InByte, InSlot}
use Rattle.ia32_insn.specs.declared.item.Item.{Item}
use Rattle.ia32_insn.specs.declared.item.Item.TheVariants as item
use Rattle.ia32_insn.specs.State as machine
use Rattle.ia32_insn.specs.State.{at_address}
use Rattle.ia32_insn.specs.Keeps.{AreDisjoint}
use Rattle.ia32_insn.specs.Meaning.{load, with_word, word_of}
use Rattle.ia32_insn.specs.Items.{data_bytes, data_start}
use Rattle.flow_graph.specs.declared.op.Op.TheVariants as op
use Rattle.flow_graph.specs.Graphs.{FitsOp, points_of}
use Rattle.flow_graph.specs.Liveness.{IsSuccessor}
use Rattle.flow_graph.specs.Meaning.{at_point, back_to, result_to}
use Rattle.flow_graph.specs.States as graph
use Rattle.flow_graph.specs.States.{Activation, Waiting, active_of, depth_of, flow_at, op_of, point_after}
use Rattle.flow_graph.specs.WellFormed.{IsState}
use Rattle.flow_graph.proofs.Values.{op-at}
use Rattle.ia32_laws.specs.MovesLaws.{ShowsBehind}
use Rattle.ia32_laws.proofs.Landing.{FollowsKept, lands}
use Rattle.ia32_rows.specs.Paths.{Comes}
use Rattle.ia32_rows.specs.Placements.{Code, objects_of, placement_of}
use Rattle.ia32_rows.specs.Shows.{IsOldArray, Shows, StandsIn, WaitFrom, Waits}
use Rattle.ia32_rows.specs.Sites.{Framed, ReadyAt, Site}
use Rattle.ia32_rows.proofs.Sets.{ready-from}
use Rattle.ia32_rows.proofs.Sound.{load-place, load-same, sound-at, sound-with_word}
use Rattle.ia32_rows.proofs.Steps.{comes-then}
use Rattle.ia32_rows.specs.CallsLaws.{Returned}
use Rattle.ia32_rows.specs.Rows.{drop_words, moves_to, place_after, undeepen, write}
use Rattle.ia32_rows.specs.Contains.{ApartFromPlace, Untouched}
use Rattle.ia32_rows.specs.Effects.{OutsideWord}
use Rattle.ia32_rows.specs.Laws.{Puts}
use Rattle.ia32_rows.proofs.Kept.{HasCells, contains-kept, word-kept}
use Rattle.ia32_rows.proofs.Moves.{write-puts}
use Rattle.ia32_rows.proofs.Straight.{straight-goes}
use Rattle.ia32_laws.specs.KeepsLaws.{data_end}
use Rattle.ia32_laws.specs.Protected.{IsSame}
use Rattle.ia32_laws.specs.Supports.{IsPlaceFor, IsSupported, SupportsPoint, site_of}
use Rattle.ia32_laws.proofs.KeepsApart.{IsSomewhere}
use Rattle.ia32_laws.proofs.Chain.{same-place}
use Rattle.ia32_laws.proofs.Objects.{depth-in}
use Rattle.ia32_laws.proofs.Puts.{IsLow}
use Rattle.ia32_laws.proofs.Elsewhere.{at-own-address, following-in, stands-at}
use Rattle.ia32_laws.proofs.Shown.{after-set}
use Rattle.ia32_laws.proofs.Zones.{frame_size, shown-in-frame, returns-at as returns-of}
use Rattle.ia32_laws.proofs.Beside.{cells-apart, memory-apart, same-from, stack-untouched, stands-low}
use Rattle.ia32_laws.specs.ActivationsLaws.{HasDepth}
use Rattle.ia32_laws.proofs.Calling.{resume-goes}
use Rattle.ia32_laws.proofs.Leaving.{BringsEbx, word-mod}
use Rattle.ia32_laws.specs.StandingLaws.{BehindCall}
use Rattle.ia32_laws.proofs.Back.{back-shows, carried-back, resumed, returning}
use Rattle.ia32_laws.proofs.Chains.{stands-carried}
use Rattle.ia32_laws.proofs.Clear.{place-clear}
use Rattle.ia32_laws.proofs.Marked.{has-depth}
use Rattle.ia32_laws.proofs.Spared.{spared-kept}
use Rattle.ia32_laws.proofs.Answering.{same-then}

-- ---- places

same-elsewhere : (base address : ℕ) (place : Place) (s u : machine.State) → IsSame base place s u
    → IsSame base place s (at_address address u)
same-elsewhere base address (InWord r) s u h = h
same-elsewhere base address (InByte r) s u h = h
same-elsewhere base address (InSlot slot) s u h = λ n w long e.
    load-same n (base - slot) w u (at_address address u) refl (h n w long e)

-- the depth word and the trap, for a function's own site
site-depth : (code : Code) (f : ℕ) → IsSupported code → HasDepth (site_of code f)
site-depth code f h =
    let d = has-depth code f 0 h in
    let check = d.check in
    record {
      low = d.low;
      high = d.high;
      few = d.few;
      check = record { bytes = check.bytes; here = check.here; stand = check.stand };
    }

-- ---- what is known

-- A call waits for the current one, which has a frame at EBP; its own frame is at this address.
pub record Waited (code : Code) (input : List ℕ) (g : graph.State) (s : machine.State) (w : Waiting)
    (waiting : List Waiting) (base : ℕ) (rest : List ℕ) : Type 0 where
  pub supported : IsSupported code
  pub state : IsState code.program (returning g w waiting)
  pub shown : Shows code input (returning g w waiting) s
  pub frames : shown.frames ≡ word_of Ebp s ∷ base ∷ rest
  pub link : Waits code (active_of (returning g w waiting)) shown.frames s g.current (word_of Ebp s) w base
  pub chain : WaitFrom code (active_of (returning g w waiting)) shown.frames s w.activation base waiting rest

-- The machine is behind the call, but for the result: the items are ready, EAX has this word, EBX the word that the
-- frame kept, and all of memory is as before but the depth word.
record AtCaller (code : Code) (g : graph.State) (w : Waiting) (waiting : List Waiting) (base x saved : ℕ)
    (items : List Item) (s m : machine.State) : Type 0 where
  pub comes : Comes code.text s m
  pub ready : ReadyAt (site_of code w.activation.function) items m
  pub framed : Framed (site_of code w.activation.function) (frame_size code w.activation) m
  pub ebp : word_of Ebp m ≡ base
  pub eax : word_of Eax m ≡ x
  pub ebx : word_of Ebx m ≡ saved % 2 ^ 32
  pub depth : load 4 code.symbols.depth m ≡ Ok (suc (length waiting))
  pub kept : (n b v : ℕ) → data_start code.text + 4 ≤ b → load n b s ≡ Ok v → load n b m ≡ Ok v
  pub left : m.left ≡ s.left
  pub taken : m.taken ≡ s.taken
  pub written : m.written ≡ s.written

-- where things stand
record Sizes (code : Code) (g : graph.State) (s : machine.State) (w : Waiting) (base : ℕ) : Type 0 where
  pub room : data_end code + 0x1000 ≤ word_of Esp s
  pub high : word_of Esp s ≤ base
  pub large : data_end code + 0x1000 + frame_size code w.activation ≤ base
  pub more : data_start code.text + 4 ≤ data_end code
  pub higher : base ≡ word_of Ebp s + 8 + 4 * length g.current.arguments + frame_size code w.activation

sizes : (code : Code) (input : List ℕ) (g : graph.State) (s : machine.State) (w : Waiting) (waiting : List Waiting)
    (base : ℕ) (rest : List ℕ) → Waited code input g s w waiting base rest → Sizes code g s w base
sizes code input g s w waiting base rest h =
    let there = shown-in-frame code input (returning g w waiting) s h.supported h.state h.shown in
    let higher = (h.link).higher in
    let esp = (h.shown).esp in
    record {
      room = there.room;
      high = up (word_of Esp s) (frame_size code g.current) (word_of Ebp s) (4 * length g.current.arguments)
          (frame_size code w.activation) base esp higher;
      large = wide (data_end code) (word_of Esp s) (frame_size code g.current) (word_of Ebp s)
          (4 * length g.current.arguments) (frame_size code w.activation) base there.room esp higher;
      more = four (data_start code.text) (length (data_bytes (objects_of code.program)))
          (depth-in (objects_of code.program));
      higher = higher;
    }
  where
    up : (esp size ebp m other base : ℕ) → esp + size ≡ ebp → base ≡ ebp + 8 + m + other → esp ≤ base
    up esp size ebp m other base h k = omega arith

    wide : (d esp size ebp m other base : ℕ) → d + 0x1000 ≤ esp → esp + size ≡ ebp → base ≡ ebp + 8 + m + other
        → d + 0x1000 + other ≤ base
    wide d esp size ebp m other base r h k = omega arith

    four : (low bytes : ℕ) → 4 ≤ bytes → low + 4 ≤ low + bytes
    four low bytes h = omega arith

-- ---- behind the call

pub frame-top : (code : Code) (input : List ℕ) (g : graph.State) (s : machine.State) (w : Waiting)
    (waiting : List Waiting) (base : ℕ) (rest : List ℕ) → (h : Waited code input g s w waiting base rest)
    → base + 8 ≤ (site_of code w.activation.function).high
frame-top code input g s w waiting base rest h =
    let z = sizes code input g s w waiting base rest h in
    let large = z.large in
    let returns = returns-of code (active_of (returning g w waiting)) (h.shown).frames s w.activation base waiting rest
    h.chain in
    let sound = ((shown-in-frame code input (returning g w waiting) s h.supported h.state h.shown).framed).sound in
    ended base (site_of code w.activation.function).high
    (load-place code.text (data_start code.text) (site_of code w.activation.function).high 4 (base + 4) returns.0 s
    sound (low (data_start code.text) (length (data_bytes (objects_of code.program))) (frame_size code w.activation)
    base large) returns.1 (omega arith))
  where
    ended : (base high : ℕ) → base + 4 + 4 ≤ high → base + 8 ≤ high
    ended base high k = omega arith

    low : (start bytes size base : ℕ) → start + bytes + 0x1000 + size ≤ base → start ≤ base + 4
    low start bytes size base k = omega arith

at-caller : (code : Code) (input : List ℕ) (g : graph.State) (s u : machine.State) (w : Waiting)
    (waiting : List Waiting) (base : ℕ) (rest : List ℕ) (x r : ℕ) (items : List Item) (words : ℕ)
    → (h : Waited code input g s w waiting base rest)
    → Returned (site_of code g.current.function) x r s u → BringsEbx s u → words ≡ length g.current.arguments
    → base < 2 ^ 32
    → ReadyAt (site_of code w.activation.function) (drop_words words ++ undeepen ++ items) u
    → (m : machine.State) × AtCaller code g w waiting base x (h.link).ebx items s m
at-caller code input g s u w waiting base rest x r items words h back brings many small ready =
    let site : Site = site_of code w.activation.function in
    let size : ℕ = frame_size code w.activation in
    let z = sizes code input g s w waiting base rest h in
    let ebp : word_of Ebp u ≡ base = back.ebp base (h.link).link small in
    let bounds = (shown-in-frame code input (returning g w waiting) s h.supported h.state h.shown).framed in
    let whole : word_of Esp u + 4 * words + size ≡ word_of Ebp u =
    summed (word_of Esp u) words (length g.current.arguments) (word_of Ebp s) size base (word_of Ebp u) back.esp many
    z.higher ebp in
    let depth : load 4 code.symbols.depth u ≡ Ok (suc (suc (length waiting))) =
    load-same 4 code.symbols.depth (suc (suc (length waiting))) s u back.memory (h.shown).depth in
    let few = (h.shown).few in
    let p = resume-goes site size words (suc (suc (length waiting))) items u
    (record {
      bytes = (back.sound).bytes;
      memory = (back.sound).memory;
      size = (back.sound).size;
      above = (back.sound).above;
      below = (back.sound).below;
      small = (back.sound).small;
      registers = (back.sound).registers;
    }) (site-depth code w.activation.function h.supported) whole
    (enough site.low (word_of Esp s) (frame_size code g.current) (word_of Ebp s) (word_of Esp u) bounds.room bounds.esp
    back.esp) (topped code input g s w waiting base rest h ebp) depth (omega arith) few ready in
    let m : machine.State = p.0 in
    let keeps = (p.1).keeps in
    let S : ℕ → Type 0 = λ k. OutsideWord Esi k × OutsideWord Esp k in
    let K : ℕ → ℕ → Type 0 = λ a n. AreDisjoint site.symbols.depth 4 a n in
    let depth_is = (h.supported).is_code.text.depth_is in (
      m,
      record {
        comes = comes-then code.text s u m back.comes (p.1).comes;
        ready = (p.1).ready;
        framed = (p.1).framed;
        ebp = word-kept S K Ebp u m keeps (λ k below. (inl (omega arith), inr (omega arith))) ∙ ebp;
        eax = word-kept S K Eax u m keeps (λ k below. (inl (omega arith), inl (omega arith))) ∙ back.eax;
        ebx = word-kept S K Ebx u m keeps (λ k below. (inl (omega arith), inl (omega arith)))
            ∙ brings (h.link).ebx (h.link).saved;
        depth = (p.1).depth ∙ ap (λ (k : ℕ). Ok k)
            (let e : suc (suc (length waiting)) - 1 ≡ suc (length waiting) = omega arith in e);
        kept = λ n b v low e. keeps.loads n b v (inl (over (data_start code.text) code.symbols.depth b depth_is low))
            (load-same n b v s u back.memory e);
        left = keeps.left ∙ back.left;
        taken = keeps.taken ∙ back.taken;
        written = keeps.written ∙ back.written;
      },
    )
  where
    summed : (esp m n ebp size base new : ℕ) → esp ≡ ebp + 8 → m ≡ n → base ≡ ebp + 8 + 4 * n + size → new ≡ base
        → esp + 4 * m + size ≡ new
    summed esp m n ebp size base new h k l o = omega arith

    enough : (low esp size ebp new : ℕ) → low + 4 ≤ esp → esp + size ≡ ebp → new ≡ ebp + 8 → low + 4 ≤ new
    enough low esp size ebp new h k l = omega arith

    over : (low depth b : ℕ) → depth ≡ low → low + 4 ≤ b → depth + 4 ≤ b
    over low depth b h k = omega arith

    topped : (code : Code) (input : List ℕ) (g : graph.State) (s : machine.State) (w : Waiting)
        (waiting : List Waiting) (base : ℕ) (rest : List ℕ) → (h : Waited code input g s w waiting base rest)
        → word_of Ebp u ≡ base → word_of Ebp u + 8 ≤ (site_of code w.activation.function).high
    topped code input g s w waiting base rest h same =
        subst (λ (k : ℕ). k + 8 ≤ (site_of code w.activation.function).high) (sym same)
        (frame-top code input g s w waiting base rest h)

-- ---- variables that the caller holds

-- what the program knows of the call at which the caller waits
record CallIs (code : Code) (w : Waiting) (result : Option ℕ) (callee : ℕ) (words : List ℕ) : Type 0 where
  pub supports : SupportsPoint (flow_at code.program w.activation.function)
      (placement_of code w.activation.function) w.point (op.Call result callee words)
  pub fits : FitsOp (flow_at code.program w.activation.function) (op.Call result callee words)
  pub calls : op_of code.program w.activation.function w.point ≡ Some (op.Call result callee words)
  pub function : w.activation.function < length code.program.functions

call-is : (code : Code) (input : List ℕ) (g : graph.State) (s : machine.State) (w : Waiting) (waiting : List Waiting)
    (base : ℕ) (rest : List ℕ) → (h : Waited code input g s w waiting base rest)
    → CallIs code w (h.link).calls.result g.current.function (h.link).calls.words
call-is code input g s w waiting base rest h =
    let c = (h.link).calls in
    let lt = ((h.state).active.1).0.function in
    let known = op-at code.program w.activation.function w.point w.block (h.supported).program lt c.placed in
    let same : known.op ≡ op.Call c.result g.current.function c.words =
    same_Some known.op (op.Call c.result g.current.function c.words) (sym known.there ∙ c.calls) in
    record {
      supports = ((h.supported).supports w.activation.function lt).points w.point
          (op.Call c.result g.current.function c.words) (w.block, c.placed) c.calls;
      fits = subst (FitsOp (flow_at code.program w.activation.function)) same known.fits;
      calls = c.calls;
      function = lt;
    }

-- the next point follows the call
pub goes-behind : (code : Code) (input : List ℕ) (g : graph.State) (s : machine.State) (w : Waiting)
    (waiting : List Waiting) (base : ℕ) (rest : List ℕ) (q : ℕ) → (h : Waited code input g s w waiting base rest)
    → point_after code.program w.activation.function w.block w.point ≡ Some q
    → IsSuccessor (flow_at code.program w.activation.function) w.point q
goes-behind code input g s w waiting base rest q h e =
    let c = (h.link).calls in
    ((w.block, c.placed), op.Call c.result g.current.function c.words, c.calls, (w.block, e))

-- another variable than the result stands where it did
others-stand : (code : Code) (input : List ℕ) (g : graph.State) (s m : machine.State) (w : Waiting)
    (waiting : List Waiting) (base : ℕ) (rest : List ℕ) (x : ℕ) (items : List Item) (variables : List Value)
    (q v : ℕ) (value : Value) (place : Place) → (h : Waited code input g s w waiting base rest)
    → AtCaller code g w waiting base x (h.link).ebx items s m → slice_get w.activation.variables v ≡ Some value
    → Some v ≢ (h.link).calls.result → (placement_of code w.activation.function).after w.point v ≡ Some place
    → (t : machine.State) → IsSame base place m t
    → StandsIn code (active_of (resumed g w waiting variables q)) (base ∷ rest) t base
    (slice_get (flow_at code.program w.activation.function).widths v) value place
others-stand code input g s m w waiting base rest x items variables q v value place h at e other behind t same =
    let f : ℕ = w.activation.function in
    let site : Site = site_of code f in
    let ebx : ℕ = (h.link).ebx in
    let k : machine.State = with_word Ebx ebx s in
    let c = call-is code input g s w waiting base rest h in
    let z = sizes code input g s w waiting base rest h in
    let framed = (shown-in-frame code input (returning g w waiting) s h.supported h.state h.shown).framed in
    let sound = sound-with_word site.text site.low site.high Ebx ebx s framed.sound in
    let spared = ((c.supports).stays v place (λ d. other (sym d)) behind).1 in
    let inside = ((c.supports).after v place behind).inside in
    let none : suc (suc (length waiting)) - 1 ≡ suc (length waiting) = omega arith in
    let old : IsOldArray (suc (length waiting)) value =
    subst (λ (n : ℕ). IsOldArray n value) none (((h.shown).old_arrays 1 w.activation refl).0 v value e) in
    stands-carried code (active_of (returning g w waiting)) (active_of (resumed g w waiting variables q))
    (h.shown).frames (base ∷ rest) k t base (slice_get (flow_at code.program f).widths v) value place
    (carried-back code input g s t w waiting variables q base rest (h.shown).frames h.frames value old)
    (same-then base place k m t
    (spared-kept base (placement_of code f).frame place k m sound.registers ((at.framed).sound).registers inside spared
    (at.ebx ∙ sym (word-mod site Ebx ebx s framed.sound)) (λ slot is n y long held.
    at.kept n (base - slot) y (over (data_start code.text) (data_end code) (frame_size code w.activation) base slot
    z.more z.large ((c.supports).after v (InSlot slot) (behind ∙ ap Some is)).inside.high)
    (load-same n (base - slot) y k s refl held))) same)
    ((h.link).variables v value place e other behind)
  where
    over : (low d size base slot : ℕ) → low + 4 ≤ d → d + 0x1000 + size ≤ base → slot ≤ size → low + 4 ≤ base - slot
    over low d size base slot h k l = omega arith

-- ---- without a result

none-shows : (code : Code) (input : List ℕ) (g : graph.State) (s m : machine.State) (w : Waiting)
    (waiting : List Waiting) (base : ℕ) (rest : List ℕ) (x q : ℕ) (items : List Item)
    → (h : Waited code input g s w waiting base rest) → (h.link).calls.result ≡ None
    → AtCaller code g w waiting base x (h.link).ebx items s m
    → point_after code.program w.activation.function w.block w.point ≡ Some q
    → ShowsBehind code input w.point (resumed g w waiting w.activation.variables q) m
none-shows code input g s m w waiting base rest x q items h none at e =
    let f : ℕ = w.activation.function in
    let z = sizes code input g s w waiting base rest h in
    let esp = (at.framed).esp in
    back-shows code input g s m w waiting w.activation.variables q base rest h.supported h.state h.shown h.frames
    h.chain z.room z.high z.large z.more z.higher
    (record {
      sound = (at.framed).sound;
      ebp = at.ebp;
      esp = esp ∙ at.ebp;
      depth = at.depth;
      kept = λ n b v some low. at.kept n b v low;
      left = at.left;
      taken = at.taken;
      written = at.written;
    }) (following-in w.point q (points_of (flow_at code.program f) w.block) e)
    (λ v value place has there.
    others-stand code input g s m w waiting base rest x items w.activation.variables q v value place h
    at has (λ same. no v (same ∙ none)) there m (same-place base place m))
    (λ v value has. subst (λ (n : ℕ). IsOldArray n value)
    (let one : suc (suc (length waiting)) - 1 ≡ suc (length waiting) = omega arith in one)
    (((h.shown).old_arrays 1 w.activation refl).0 v value has))
  where
    no : (v : ℕ) → Some v ≡ None → ⊥
    no v e = none-some v (sym e)

-- ---- with one

some-shows : (code : Code) (input : List ℕ) (g : graph.State) (s m : machine.State) (w : Waiting)
    (waiting : List Waiting) (base : ℕ) (rest : List ℕ) (d q : ℕ) (n : ℤ) (place : Place) (items : List Item)
    → (h : Waited code input g s w waiting base rest) → (h.link).calls.result ≡ Some d → FitsSigned w32 n
    → (placement_of code w.activation.function).after w.point d ≡ Some place
    → AtCaller code g w waiting base (cast_unsigned w32 n) (h.link).ebx (write place Eax ++ items) s m
    → point_after code.program w.activation.function w.block w.point ≡ Some q
    → (t : machine.State) × Comes code.text m t × ReadyAt (site_of code w.activation.function) items t
    × ShowsBehind code input w.point (resumed g w waiting (slice_set w.activation.variables d (Number n)) q) t
some-shows code input g s m w waiting base rest d q n place items h result fits behind at e =
    let x : ℕ = cast_unsigned w32 n in
    let four = ((h.supported).supports f c.function).four_words in
    let last = write-puts site size place Eax x m at.framed four for.inside at.eax in
    let v : machine.State = last.0 in
    let all : List Item = write place Eax ++ items in
    let own : at_address m.eip m ≡ m = at-own-address code f all m h.supported at.ready in
    let went = straight-goes site (write place Eax) items m v m.eip (at.framed).sound
    (subst (ReadyAt site all) (sym own) at.ready) (last.1).leads in
    let t : machine.State = at_address went.0 v in
    let comes : Comes code.text m t = subst (λ (y : machine.State). Comes code.text y t) own went.1 in
    (t, comes, went.2, shown-behind v went.0 four last.1)
  where
    f : ℕ
    f = w.activation.function

    site : Site
    site = site_of code f

    size : ℕ
    size = frame_size code w.activation

    c : CallIs code w (h.link).calls.result g.current.function (h.link).calls.words
    c = call-is code input g s w waiting base rest h

    z : Sizes code g s w base
    z = sizes code input g s w waiting base rest h

    for : IsPlaceFor (flow_at code.program f) (placement_of code f) d place
    for = (c.supports).after d place behind

    variables : List Value
    variables = slice_set w.activation.variables d (Number n)

    shown-behind : (v : machine.State) (address : ℕ) → 16 ≤ size
        → Puts site size (write place Eax) place (cast_unsigned w32 n) m v
        → ShowsBehind code input w.point (resumed g w waiting variables q) (at_address address v)
    shown-behind v address four puts =
        let t : machine.State = at_address address v in
        let S : ℕ → Type 0 = Untouched place in
        let K : ℕ → ℕ → Type 0 = ApartFromPlace (word_of Ebp m) place in
        let has_ebp : HasCells S Ebp = λ k below.
        stack-untouched size (4 * 5 + k) place for.inside (omega arith) (omega arith) in
        let ebp : word_of Ebp v ≡ word_of Ebp m = word-kept S K Ebp m v puts.keeps has_ebp in
        let esp = (puts.framed).esp in
        let whole = (at.framed).esp in
        let kept : (j b y : ℕ) → IsSomewhere code (resumed g w waiting variables q) base b j → load j b m ≡ Ok y
        → load j b t ≡ Ok y = λ j b y some held. load-same j b y v t refl (puts.keeps.loads j b y
        (subst (λ (k : ℕ). ApartFromPlace k place b j) (sym at.ebp)
        (place-clear code (resumed g w waiting variables q) base d b j place for four z.large some)) held) in
        back-shows code input g s t w waiting variables q base rest h.supported h.state h.shown h.frames h.chain z.room
        z.high z.large z.more z.higher
        (record {
          sound = sound-at site.text site.low site.high address v (puts.framed).sound;
          ebp = ebp ∙ at.ebp;
          esp = esp ∙ ebp ∙ at.ebp;
          depth = kept 4 code.symbols.depth (suc (length waiting)) (inl (depth-low (data_start code.text)
              code.symbols.depth (data_end code) (h.supported).is_code.text.depth_is z.more)) at.depth;
          kept = λ j b y some low held. kept j b y some (at.kept j b y low held);
          left = puts.keeps.left ∙ at.left;
          taken = puts.keeps.taken ∙ at.taken;
          written = puts.keeps.written ∙ at.written;
        }) (following-in w.point q (points_of (flow_at code.program f) w.block) e)
        (λ u value other has there. stand v address puts ebp u value other there
        (after-set w.activation.variables d u (Number n) value has))
        (λ u value has. olden u value (after-set w.activation.variables d u (Number n) value has))
      where
        depth-low : (low depth end : ℕ) → depth ≡ low → low + 4 ≤ end → depth + 4 ≤ end
        depth-low low depth end a b = omega arith

        olden : (u : ℕ) (value : Value)
            → ((u ≡ d) × (Number n ≡ value)) ⊎ ((d ≢ u) × (slice_get w.activation.variables u ≡ Some value))
            → IsOldArray (suc (length waiting)) value
        olden u value (inl same) = subst (IsOldArray (suc (length waiting))) same.1 tt
        olden u value (inr other) =
            let one : suc (suc (length waiting)) - 1 ≡ suc (length waiting) = omega arith in
            subst (λ (k : ℕ). IsOldArray k value) one (((h.shown).old_arrays 1 w.activation refl).0 u value other.1)

        stand : (v : machine.State) (address : ℕ) → Puts site size (write place Eax) place (cast_unsigned w32 n) m v
            → word_of Ebp v ≡ word_of Ebp m → (u : ℕ) (value : Value) (other : Place)
            → (placement_of code f).after w.point u ≡ Some other
            → ((u ≡ d) × (Number n ≡ value)) ⊎ ((d ≢ u) × (slice_get w.activation.variables u ≡ Some value))
            → StandsIn code (active_of (resumed g w waiting variables q)) (base ∷ rest) (at_address address v) base
            (slice_get (flow_at code.program f).widths u) value other
        stand v address puts ebp u value other there (inl same) =
            let H : graph.State = resumed g w waiting variables q in
            let t : machine.State = at_address address v in
            let wide = (subst (λ (r : Option ℕ). FitsOp (flow_at code.program f)
            (op.Call r g.current.function (h.link).calls.words)) result c.fits).0 in
            let low : IsLow code (active_of H) (base ∷ rest) (slice_get (flow_at code.program f).widths d) (Number n)
            (cast_unsigned w32 n) = subst (λ (y : Option Width). IsLow code (active_of H) (base ∷ rest) y (Number n)
            (cast_unsigned w32 n)) (sym wide) (fits, refl) in
            let here = stands-at code (active_of H) (base ∷ rest) address v (word_of Ebp v)
            (slice_get (flow_at code.program f).widths d) (Number n) place
            (stands-low code (active_of H) (base ∷ rest) v (slice_get (flow_at code.program f).widths d) (Number n)
            place (cast_unsigned w32 n) for.holds low puts.holds) in
            let based = subst (λ (k : ℕ). StandsIn code (active_of H) (base ∷ rest) t k
            (slice_get (flow_at code.program f).widths d) (Number n) place) (ebp ∙ at.ebp) here in
            let placed : place ≡ other = same_Some place other
            (sym behind ∙ ap (λ (k : ℕ). (placement_of code f).after w.point k) (sym same.0) ∙ there) in
            subst (λ (p : Place). StandsIn code (active_of H) (base ∷ rest) t base
            (slice_get (flow_at code.program f).widths u) value p) placed
            (subst (λ (y : Value). StandsIn code (active_of H) (base ∷ rest) t base
            (slice_get (flow_at code.program f).widths u) y place) same.1
            (subst (λ (k : ℕ). StandsIn code (active_of H) (base ∷ rest) t base
            (slice_get (flow_at code.program f).widths k) (Number n) place) (sym same.0) based))
        stand v address puts ebp u value other there (inr distinct) =
            let S : ℕ → Type 0 = Untouched place in
            let K : ℕ → ℕ → Type 0 = ApartFromPlace (word_of Ebp m) place in
            let has_ebp : HasCells S Ebp = λ k below.
            stack-untouched size (4 * 5 + k) place for.inside (omega arith) (omega arith) in
            let whole = (at.framed).esp in
            let inside = ((c.supports).after u other there).inside in
            let apart = (c.supports).after_apart d u place other distinct.0 behind there in
            others-stand code input g s m w waiting base rest (cast_unsigned w32 n)
            (write place Eax ++ items) variables q u value other h at distinct.1
            (λ same. distinct.0 (sym (same_Some u d (same ∙ result)))) there (at_address address v)
            (same-elsewhere base address other m v (subst (λ (k : ℕ). IsSame k other m v) at.ebp
            (same-from other m v ebp (λ width y contains. contains-kept S K m v width other y puts.keeps has_ebp
            (cells-apart size place other inside apart)
            (memory-apart size (word_of Ebp m) place other (omega (arith, whole)) for.inside inside apart) contains))))

-- ---- the whole

-- what comes back, where something does, is in EAX
abbrev pub IsResult : Option ℤ → ℕ → Type 0
IsResult None x = ⊤
IsResult (Some n) x = FitsSigned w32 n × (x ≡ cast_unsigned w32 n)

pub resume-follows : (code : Code) (input : List ℕ) (g : graph.State) (s u : machine.State) (w : Waiting)
    (waiting : List Waiting) (base : ℕ) (rest : List ℕ) (n : Option ℤ) (x r : ℕ)
    → (h : Waited code input g s w waiting base rest) → Returned (site_of code g.current.function) x r s u
    → BringsEbx s u → IsResult n x → BehindCall code w (h.link).calls.result (h.link).calls.words r
    → FollowsKept code input s (returning g w waiting) false (result_to code.program (back_to g w waiting) n
    (Some (op.Call (h.link).calls.result g.current.function (h.link).calls.words)))
resume-follows code input g s u w waiting base rest n x r h back brings is behind =
    follow n (h.link).calls.result refl is behind
  where
    f : ℕ
    f = w.activation.function

    site : Site
    site = site_of code f

    words : List ℕ
    words = (h.link).calls.words

    many : length words ≡ length g.current.arguments
    many = sym (length-map words (slice_get w.activation.variables)) ∙ ap length (h.link).calls.passes
        ∙ length-map g.current.arguments Some

    small : base < 2 ^ 32
    small = below base site.high (frame-top code input g s w waiting base rest h) (h.supported).fits
      where
        below : (b high : ℕ) → b + 8 ≤ high → high < 0x1_0000_0000 → b < 2 ^ 32
        below b high a c = omega arith

    before : List Item
    before = drop_words (length words) ++ undeepen

    none : (items more : List Item) (q : ℕ) → (h.link).calls.result ≡ None → ReadyAt site (before ++ items) u
        → items ≡ moves_to (placement_of code f) w.point (Some q) ++ item.Point q ∷ more
        → point_after code.program f w.block w.point ≡ Some q
        → FollowsKept code input s (returning g w waiting) false (at_point w.block (back_to g w waiting) (Some q))
    none items more q result ready same e = λ kept.
        let p = at-caller code input g s u w waiting base rest x r items (length words) h back brings many small ready
        in
        lands code input w.point (resumed g w waiting w.activation.variables q) f q refl refl s p.0 items more
        h.supported kept (goes-behind code input g s w waiting base rest q h e) (p.1).comes (p.1).ready same
        (none-shows code input g s p.0 w waiting base rest x q items h result p.1 e)

    no-result : (result : (h.link).calls.result ≡ None) → BehindCall code w None words r → (o : Option ℕ)
        → point_after code.program f w.block w.point ≡ o
        → FollowsKept code input s (returning g w waiting) false (at_point w.block (back_to g w waiting) o)
    no-result result at None e = tt
    no-result result at (Some q) e =
        let more = at.follows q e in
        let ready = ready-from site ((before ++ []) ++ at.rest) r u at.stands back.eip in
        let moved : ReadyAt site (before ++ at.rest) u =
        subst (λ (xs : List Item). ReadyAt site xs u) (append_assoc before [] at.rest) ready in
        none at.rest more.0 q result moved more.1 e

    a-result : (d : ℕ) (z : ℤ) → (h.link).calls.result ≡ Some d → FitsSigned w32 z → x ≡ cast_unsigned w32 z
        → BehindCall code w (Some d) words r → (o : Option ℕ) → point_after code.program f w.block w.point ≡ o
        → FollowsKept code input s (returning g w waiting) false (at_point w.block
        (graph.with_value d (Number z) (back_to g w waiting)) o)
    a-result d z result fits same at None e = tt
    a-result d z result fits same at (Some q) e = λ kept.
        let more = at.follows q e in
        let c = call-is code input g s w waiting base rest h in
        let (place, there) = (c.supports).written d result in
        let p : Place = place_after (placement_of code f) w.point d in
        let is : p ≡ place = ap (λ (o : Option Place). unwrap_or o (InSlot 0)) there in
        let ready = ready-from site ((before ++ write p Eax) ++ at.rest) r u at.stands back.eip in
        let moved : ReadyAt site (before ++ (write p Eax ++ at.rest)) u =
        subst (λ (xs : List Item). ReadyAt site xs u) (append_assoc before (write p Eax) at.rest) ready in
        let placed : ReadyAt site (before ++ (write place Eax ++ at.rest)) u =
        subst (λ (y : Place). ReadyAt site (before ++ (write y Eax ++ at.rest)) u) is moved in
        let k = at-caller code input g s u w waiting base rest (cast_unsigned w32 z) r
        (write place Eax ++ at.rest) (length words) h
        (subst (λ (y : ℕ). Returned (site_of code g.current.function) y r s u) same back) brings many small placed in
        let (t, comes, ready_there, shown) = some-shows code input g s k.0 w waiting base rest d q z place at.rest h
        result fits there k.1 e in
        lands code input w.point (resumed g w waiting (slice_set w.activation.variables d (Number z)) q) f q refl refl s
        t at.rest more.0 h.supported kept (goes-behind code input g s w waiting base rest q h e)
        (comes-then code.text s k.0 t (k.1).comes comes) ready_there more.1 shown

    follow : (o : Option ℤ) (result : Option ℕ) → (h.link).calls.result ≡ result → IsResult o x
        → BehindCall code w result words r
        → FollowsKept code input s (returning g w waiting) false (result_to code.program (back_to g w waiting) o
        (Some (op.Call result g.current.function words)))
    follow None None result is at =
        no-result result at (point_after code.program f w.block w.point) refl
    follow (Some z) None result is at =
        no-result result at (point_after code.program f w.block w.point) refl
    follow None (Some d) result is at = tt
    follow (Some z) (Some d) result is at =
        a-result d z result is.0 is.1 at (point_after code.program f w.block w.point) refl

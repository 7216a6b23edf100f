-- The next state is shown, where what is read is as before.
use Rattle.std.proofs.Common.{◌≡◌, ◌≢◌, ◌⊎◌, ℕ, zero, suc, ◌+◌, ◌-◌, ◌*◌, ◌≤◌, ℤ, List, [], ◌∷◌, length, Some}
use Rattle.std.proofs.Common.{Ok, inl, inr, refl, sym, ap, subst, ◌∙◌, arith}
use Rattle.std.specs.Prelude.{Option, drop, map, slice_get, slice_set}
use Rattle.std.specs.List.{AllZip}
use Rattle.std.proofs.lemmas.Option.{none-some, same_Some, slice_get_within}
use Rattle.pcc_base.specs.Outcome.{Value}
use Rattle.ia32_insn.specs.declared.register_names.Reg32.TheVariants.{Esp, Ebp}
use Rattle.ia32_insn.specs.Places.{Place}
use Rattle.ia32_insn.specs.State as machine
use Rattle.ia32_insn.specs.Meaning.{load, word_of}
use Rattle.ia32_insn.specs.Items.{data_start, stack_end}
use Rattle.flow_graph.specs.declared.op.Op.{Op}
use Rattle.flow_graph.specs.Graphs.{Stands}
use Rattle.flow_graph.specs.Liveness.{defined}
use Rattle.flow_graph.specs.States as graph
use Rattle.flow_graph.specs.States.{Activation, Waiting, active_of, depth_of, flow_at, op_at, with_value}
use Rattle.flow_graph.specs.WellFormed.{AreActivations, IsState}
use Rattle.ia32_rows.specs.Placements.{Code, objects_of, placement_of}
use Rattle.ia32_rows.specs.Shows.{AllStand, ArgumentsStand, ElementsStand, FrameArraysStand, HoldsOldArrays}
use Rattle.ia32_rows.specs.Shows.{IsOldArray, ObjectsStand, ShowsIn, StandsIn, WaitFrom, stack_bytes}
use Rattle.flow_graph.proofs.Lists.{zip-first}
use Rattle.ia32_rows.specs.Sites.{SoundAt}
use Rattle.ia32_laws.specs.Supports.{IsSupported, SupportsPoint, site_of}
use Rattle.ia32_laws.specs.Protected.{ChainReads, ElementReads, IsCallRead, IsProtected}
use Rattle.ia32_laws.specs.KeepsLaws.{Arrives, MovedShows, SetShows, moved_to}
use Rattle.ia32_laws.proofs.Memory.{shapes-are, small-is, text-is}
use Rattle.ia32_laws.proofs.Chain.{AreAlike, HasArrays, IsAlike, IsWaitAlike, Loads, WaitsSupported, chain-kept}
use Rattle.ia32_laws.proofs.Chain.{remade, same-place, stands-kept, wait_with, word-alike}

-- ---- active calls

-- calls that wait alike are alike
pub alike-waits : (waiting after : List Waiting) → AllZip IsWaitAlike waiting after
    → AreAlike (map (λ w. w.activation) waiting) (map (λ w. w.activation) after)
alike-waits [] [] h = tt
alike-waits [] (v ∷ after) h = absurd h
alike-waits (w ∷ waiting) [] h = absurd h
alike-waits (w ∷ waiting) (v ∷ after) h =
    let one = h.0 in
    let same : IsAlike w.activation (wait_with one.arrays w).activation =
    record { function = refl; arguments = refl; arrays = one.has } in
    (subst (λ (u : Waiting). IsAlike w.activation u.activation) one.is same, alike-waits waiting after h.1)

-- each is like itself
pub same-waits : (waiting : List Waiting) → AllZip IsWaitAlike waiting waiting
same-waits [] = tt
same-waits (w ∷ waiting) =
    (record { arrays = w.activation.arrays; is = refl; has = λ k elements e. (elements, e) }, same-waits waiting)

-- as many
long-waits : (waiting after : List Waiting) → AllZip IsWaitAlike waiting after → length after ≡ length waiting
long-waits [] [] h = refl
long-waits [] (v ∷ after) h = absurd h
long-waits (w ∷ waiting) [] h = absurd h
long-waits (w ∷ waiting) (v ∷ after) h = ap suc (long-waits waiting after h.1)

-- they take as many bytes of the stack
same-bytes : (code : Code) (active others : List Activation) → AreAlike active others → stack_bytes code others
    ≡ stack_bytes code active
same-bytes code [] [] h = refl
same-bytes code [] (b ∷ others) h = absurd h
same-bytes code (a ∷ active) [] h = absurd h
same-bytes code (a ∷ active) (b ∷ others) h =
    let rest = same-bytes code active others h.1 in
    let frame : (placement_of code b.function).frame ≡ (placement_of code a.function).frame =
    ap (λ (f : ℕ). (placement_of code f).frame) h.0.function in
    let many : length b.arguments ≡ length a.arguments = ap length h.0.arguments in
    summed (placement_of code b.function).frame (placement_of code a.function).frame (length b.arguments)
    (length a.arguments) (stack_bytes code others) (stack_bytes code active) frame many rest
  where
    summed : (f g m n x y : ℕ) → f ≡ g → m ≡ n → x ≡ y → 8 + f + 4 * m + x ≡ 8 + g + 4 * n + y
    summed f g m n x y e h k = omega arith

-- their functions are functions of the program
pub waits-supported : (code : Code) (waiting : List Waiting) → IsSupported code
    → AreActivations code.program (map (λ w. w.activation) waiting) → WaitsSupported code waiting
waits-supported code [] h active = tt
waits-supported code (w ∷ waiting) h active =
    (h.supports w.activation.function active.0.function, waits-supported code waiting h active.1)

-- ---- the parts of what is shown

-- argument words
arguments-kept : (code : Code) (active others : List Activation) (frames : List ℕ) (s t : machine.State)
    (frame : ℕ) (a b : Activation) → AreAlike active others → IsAlike a b
    → ((k : ℕ) (value : Value) (w : ℕ) → slice_get a.arguments k ≡ Some value → load 4 (frame + 8 + 4 * k) s ≡ Ok w
    → load 4 (frame + 8 + 4 * k) t ≡ Ok w)
    → ArgumentsStand code active frames s frame a.arguments → ArgumentsStand code others frames t frame b.arguments
arguments-kept code active others frames s t frame a b alike same loads h k value e =
    let here : slice_get a.arguments k ≡ Some value =
    subst (λ (l : List Value). slice_get l k ≡ Some value) same.arguments e in
    let held = h k value here in
    (held.0, loads k value held.0 here held.1, word-alike code active others frames value held.0 alike held.2)

-- the elements of an array
pub elements-kept : (s t : machine.State) (address width : ℕ) (elements : List ℤ)
    → Loads (ElementReads address width (length elements)) s t → ElementsStand s address width elements
    → ElementsStand t address width elements
elements-kept s t address width elements loads h = (
  loads 4 (address - 4) (length elements) (inl (refl, refl)) h.0,
  λ i z e. let one = h.1 i z e in (
    one.0,
    loads width (address + width * i) one.0 (inr (i, slice_get_within elements i z e, refl, refl)) one.1,
    one.2,
  ),
)

-- ---- the next state

-- the state with other variables, arrays and objects, at another point
abbrev pub next_state : List Value → List (List ℤ) → List Waiting → List (List ℤ) → graph.State → graph.State
next_state variables arrays after objects h =
    record h { current = remade variables arrays h.current; waiting = after; objects = objects }

-- The machine is sound, with the input and the output of this state, whose point is in its block.
pub record Lands (code : Code) (input : List ℕ) (h : graph.State) (t : machine.State) : Type 0 where
  pub placed : Stands (flow_at code.program h.current.function) h.point h.block
  pub sound : SoundAt (site_of code h.current.function) t
  pub left : t.left ≡ h.left
  pub taken : t.taken ≡ h.taken
  pub written : t.written ≡ h.written
  pub of_input : t.left ≡ drop t.taken input

-- so it does behind a row
pub arrives-lands : (code : Code) (input : List ℕ) (g : graph.State) (t : machine.State) (block point : ℕ)
    (left : List ℕ) (taken : ℕ) (written : List ℕ) → Arrives code input g (moved_to block point left taken written g) t
    → Lands code input (moved_to block point left taken written g) t
arrives-lands code input g t block point left taken written a =
    record {
      placed = a.placed;
      sound = a.sound;
      left = a.left;
      taken = a.taken;
      written = a.written;
      of_input = a.of_input;
    }

-- It is shown where its variables, its arrays and its objects stand, and what is read of the calls is as before.
pub next-shown : {places : ℕ → Option Place} {eip : ℕ} (code : Code) (input : List ℕ) (g : graph.State)
    (s t : machine.State) (block point : ℕ) (left : List ℕ) (taken : ℕ) (written : List ℕ) (variables : List Value)
    (arrays : List (List ℤ)) (after : List Waiting) (objects : List (List ℤ)) (new : ℕ → Option Place)
    → IsSupported code → IsState code.program g → (shown : ShowsIn code input places eip g s)
    → HasArrays g.current.arrays arrays → AllZip IsWaitAlike g.waiting after
    → word_of Esp t ≡ word_of Esp s → word_of Ebp t ≡ word_of Ebp s → Loads (IsCallRead code g shown.frames) s t
    → Lands code input (moved_to block point left taken written g) t
    → (let h : graph.State = next_state variables arrays after objects (moved_to block point left taken written g) in
    AllStand code (active_of h) shown.frames t (word_of Ebp t) h.current new
    → ((i : ℕ) (a : Activation) → slice_get (active_of h) i ≡ Some a → HoldsOldArrays (depth_of g - i) a)
    → ObjectsStand code t objects
    → ((i : ℕ) (a : Activation) (frame : ℕ) → slice_get (active_of h) i ≡ Some a
    → slice_get shown.frames i ≡ Some frame → FrameArraysStand code t frame a)
    → ShowsIn code input new t.eip h t)
next-shown code input g s t block point left taken written variables arrays after objects new supported state shown has
    waits esp ebp loads arrives stand old objects_stand arrays_stand =
    let h : graph.State = next_state variables arrays after objects (moved_to block point left taken written g) in
    let frames : List ℕ = shown.frames in
    let alike : AreAlike (active_of g) (active_of h) =
    (record { function = refl; arguments = refl; arrays = has }, alike-waits g.waiting after waits) in
    let depth : depth_of h ≡ depth_of g = ap suc (long-waits g.waiting after waits) in
    let sound = arrives.sound in
    let chain_loads : Loads (ChainReads code (word_of Ebp s ∷ shown.older) g.waiting) s t =
    λ n a w reads. loads n a w (inr (inl (subst (λ (fs : List ℕ). ChainReads code fs g.waiting a n)
    (sym shown.youngest) reads))) in
    let chain : WaitFrom code (active_of h) frames t h.current (word_of Ebp s) after shown.older =
    chain-kept code (active_of g) (active_of h) frames s t g.current
    (word_of Ebp s) g.waiting after shown.older variables
    arrays alike shown.registers sound.registers
    (waits-supported code g.waiting supported state.active.1) waits chain_loads shown.chain in
    record {
      frames = frames;
      older = shown.older;
      youngest = shown.youngest ∙ ap (λ (k : ℕ). k ∷ shown.older) (sym ebp);
      registers = sound.registers;
      placed = arrives.placed;
      shapes = shapes-are code.text (objects_of code.program) t.memory sound.bytes sound.memory sound.size;
      text = text-is code.text t.memory (data_start code.text) sound.bytes sound.memory;
      small = small-is code.text (data_start code.text) sound.bytes t.memory sound.memory sound.small;
      eip = refl;
      esp = ap (λ (k : ℕ). k + (placement_of code g.current.function).frame) esp ∙ shown.esp ∙ sym ebp;
      room = subst (λ (k : ℕ). stack_end code.text (objects_of code.program) ≤ k + stack_bytes code (active_of h))
          (sym esp) (subst (λ (k : ℕ). stack_end code.text (objects_of code.program) ≤ word_of Esp s + k)
          (sym (same-bytes code (active_of g) (active_of h) alike)) shown.room);
      few = subst (λ (k : ℕ). k ≤ 4096) (sym depth) shown.few;
      depth = loads 4 code.symbols.depth (depth_of g) (inl (refl, refl)) shown.depth
          ∙ ap (λ (k : ℕ). Ok k) (sym depth);
      chain = subst (λ (k : ℕ). WaitFrom code (active_of h) frames t h.current k after shown.older) (sym ebp) chain;
      variables = stand;
      arguments = λ i b frame e f.
          let found = zip-first IsAlike (active_of g) (active_of h) i b alike e in
          arguments-kept code (active_of g) (active_of h) frames s t frame found.0 b alike found.2
          (λ k value w there. loads 4 (frame + 8 + 4 * k) w (inr (inr (record {
            call = i;
            activation = found.0;
            is_active = found.1;
            frame = frame;
            at_frame = f;
            number = k;
            value = value;
            has = there;
            at_address = refl;
            four = refl;
          }))))
          (shown.arguments i found.0 frame found.1 f);
      old_arrays = λ i a e. subst (λ (k : ℕ). HoldsOldArrays (k - i) a) (sym depth) (old i a e);
      objects = objects_stand;
      frame_arrays = arrays_stand;
      left = arrives.left;
      taken = arrives.taken;
      written = arrives.written;
      of_input = arrives.of_input;
    }

-- ---- where no array changes

-- static objects
pub objects-kept : {places : ℕ → Option Place} {eip : ℕ} (code : Code) (input : List ℕ) (g : graph.State)
    (s t : machine.State) → (shown : ShowsIn code input places eip g s)
    → Loads (IsProtected code g shown.frames) s t → ObjectsStand code t g.objects
objects-kept code input g s t shown loads k elements e =
    let (object, address, declared, placed, stand) = shown.objects k elements e in (
      object,
      address,
      declared,
      placed,
      elements-kept s t address object.width elements (λ n a w reads. loads n a w (inr (inl (record {
        number = k;
        elements = elements;
        has = e;
        object = object;
        declared = declared;
        address = address;
        placed = placed;
        reads = reads;
      })))) stand,
    )

-- arrays of a call
pub arrays-kept : {places : ℕ → Option Place} {eip : ℕ} (code : Code) (input : List ℕ) (g : graph.State)
    (s t : machine.State) → (shown : ShowsIn code input places eip g s)
    → Loads (IsProtected code g shown.frames) s t → (i : ℕ) (a : Activation) (frame : ℕ)
    → slice_get (active_of g) i ≡ Some a → slice_get shown.frames i ≡ Some frame → FrameArraysStand code t frame a
arrays-kept code input g s t shown loads i a frame e f k elements has =
    let (array, below, address, declared, placed, at, stand) = shown.frame_arrays i a frame e f k elements has in (
      array,
      below,
      address,
      declared,
      placed,
      at,
      elements-kept s t address array.0 elements (λ n b w reads. loads n b w (inr (inr (record {
        call = i;
        activation = a;
        is_active = e;
        frame = frame;
        at_frame = f;
        number = k;
        elements = elements;
        has = has;
        array = array;
        declared = declared;
        below = below;
        placed = placed;
        address = address;
        at_address = at;
        reads = reads;
      })))) stand,
    )

-- nor do other variables of the current call's function change its arrays
current-kept : (code : Code) (g : graph.State) (t : machine.State) (frames : List ℕ) (variables : List Value)
    → ((i : ℕ) (a : Activation) (frame : ℕ) → slice_get (active_of g) i ≡ Some a → slice_get frames i ≡ Some frame
    → FrameArraysStand code t frame a) → (i : ℕ) (a : Activation) (frame : ℕ)
    → slice_get (remade variables g.current.arrays g.current ∷ map (λ w. w.activation) g.waiting) i ≡ Some a
    → slice_get frames i ≡ Some frame → FrameArraysStand code t frame a
current-kept code g t frames variables h zero a frame e f =
    subst (FrameArraysStand code t frame) (same_Some (remade variables g.current.arrays g.current) a e)
    (h zero g.current frame refl f)
current-kept code g t frames variables h (suc i) a frame e f = h (suc i) a frame e f

-- what the current function's placement asks for at the state's point
pub point-supported : (code : Code) (g : graph.State) (o : Op) → IsSupported code → IsState code.program g
    → op_at code.program g ≡ Some o
    → SupportsPoint (flow_at code.program g.current.function) (placement_of code g.current.function) g.point o
point-supported code g o supported state has =
    (supported.supports g.current.function state.active.0.function).points g.point o (g.block, state.placed) has

-- ---- the laws

-- where all others are kept, no variable is set
pub moved-shows : MovedShows
moved-shows code input g s t o block point left taken written supported state shown has none keeps arrives =
    let here = point-supported code g o supported state has in
    let alike : AreAlike (active_of g) (active_of g) = (
      record { function = refl; arguments = refl; arrays = λ k elements e. (elements, e) },
      alike-waits g.waiting g.waiting (same-waits g.waiting),
    ) in
    next-shown code input g s t block point left taken written g.current.variables g.current.arrays g.waiting g.objects
    ((placement_of code g.current.function).after g.point)
    supported state shown (λ k elements e. (elements, e)) (same-waits g.waiting) keeps.esp keeps.ebp
    (λ n a w reads. keeps.protected n a w (inl reads))
    (arrives-lands code input g t block point left taken written arrives)
    (λ v value place e behind.
    let stays = here.stays v place (λ d. none-some v (sym none ∙ d)) behind in
    subst (λ (base : ℕ). StandsIn code (active_of g) shown.frames t base
    (slice_get (flow_at code.program g.current.function).widths v) value place) (sym keeps.ebp)
    (stands-kept code (active_of g) (active_of g) shown.frames s t (word_of Ebp s)
    (slice_get (flow_at code.program g.current.function).widths v) value place alike
    (keeps.others v place (λ d. none-some v d) behind) (shown.variables v value place e stays.0)))
    shown.old_arrays
    (objects-kept code input g s t shown keeps.protected)
    (arrays-kept code input g s t shown keeps.protected)

-- after an element was set, an element is the new one, or another and as it was
pub after-set : {X : Type 0} (xs : List X) (d v : ℕ) (new value : X) → slice_get (slice_set xs d new) v ≡ Some value
    → ((v ≡ d) × (new ≡ value)) ⊎ ((d ≢ v) × (slice_get xs v ≡ Some value))
after-set [] d v new value e = absurd (none-some value e)
after-set (x ∷ xs) zero zero new value e = inl (refl, same_Some new value e)
after-set (x ∷ xs) zero (suc v) new value e = inr ((λ s. omega (arith, s)), e)
after-set (x ∷ xs) (suc d) zero new value e = inr ((λ s. omega (arith, s)), e)
after-set (x ∷ xs) (suc d) (suc v) new value e = one-more (after-set xs d v new value e)
  where
    one-more : ((v ≡ d) × (new ≡ value)) ⊎ ((d ≢ v) × (slice_get xs v ≡ Some value))
        → ((suc v ≡ suc d) × (new ≡ value)) ⊎ ((suc d ≢ suc v) × (slice_get xs v ≡ Some value))
    one-more (inl p) = inl (ap suc p.0, p.1)
    one-more (inr p) = inr ((λ s. p.0 (omega (arith, s))), p.1)

-- the arrays that variables hold stay old
set-old : (g : graph.State) (d : ℕ) (value : Value) → ((i : ℕ) (a : Activation) → slice_get (active_of g) i ≡ Some a
    → HoldsOldArrays (depth_of g - i) a) → IsOldArray (depth_of g) value → (i : ℕ) (a : Activation)
    → slice_get (remade (slice_set g.current.variables d value) g.current.arrays g.current
    ∷ map (λ w. w.activation) g.waiting) i ≡ Some a → HoldsOldArrays (depth_of g - i) a
set-old g d value h new zero a e =
    let before = h zero g.current refl in
    let all : depth_of g - 0 ≡ depth_of g = omega arith in
    subst (HoldsOldArrays (depth_of g - 0))
    (same_Some (remade (slice_set g.current.variables d value) g.current.arrays g.current) a e) (
      λ v other f. one v other (after-set g.current.variables d v value other f),
      before.1,
    )
  where
    one : (v : ℕ) (other : Value)
        → ((v ≡ d) × (value ≡ other)) ⊎ ((d ≢ v) × (slice_get g.current.variables v ≡ Some other))
        → IsOldArray (depth_of g - 0) other
    one v other (inl p) =
        let all : depth_of g - 0 ≡ depth_of g = omega arith in
        subst (λ (k : ℕ). IsOldArray k other) (sym all) (subst (IsOldArray (depth_of g)) p.1 new)
    one v other (inr p) = (h zero g.current refl).0 v other p.1
set-old g d value h new (suc i) a e = h (suc i) a e

-- where one is set
pub set-shows : SetShows
set-shows code input g s t o d value block point left taken written supported state shown has sets keeps stands old
    arrives =
    next-shown code input g s t block point left taken written variables g.current.arrays g.waiting g.objects
    ((placement_of code g.current.function).after g.point)
    supported state shown (λ k elements e. (elements, e)) (same-waits g.waiting) keeps.esp keeps.ebp
    (λ n a w reads. keeps.protected n a w (inl reads))
    (arrives-lands code input g t block point left taken written arrives)
    (λ v other place e behind. each v other place behind (after-set g.current.variables d v value other e))
    (set-old g d value shown.old_arrays old)
    (objects-kept code input g s t shown keeps.protected)
    (current-kept code g t shown.frames variables (arrays-kept code input g s t shown keeps.protected))
  where
    variables : List Value
    variables = slice_set g.current.variables d value

    active : List Activation
    active = remade variables g.current.arrays g.current ∷ map (λ w. w.activation) g.waiting

    alike : AreAlike (active_of g) active
    alike = (
      record { function = refl; arguments = refl; arrays = λ k elements e. (elements, e) },
      alike-waits g.waiting g.waiting (same-waits g.waiting),
    )

    -- each variable stands in its place
    each : (v : ℕ) (other : Value) (place : Place)
        → (placement_of code g.current.function).after g.point v ≡ Some place
        → ((v ≡ d) × (value ≡ other)) ⊎ ((d ≢ v) × (slice_get g.current.variables v ≡ Some other))
        → StandsIn code active shown.frames t (word_of Ebp t)
        (slice_get (flow_at code.program g.current.function).widths v) other place
    each v other place behind (inl p) =
        let there : (placement_of code g.current.function).after g.point d ≡ Some place =
        subst (λ (k : ℕ). (placement_of code g.current.function).after g.point k ≡ Some place) p.0 behind in
        subst (λ (k : ℕ). StandsIn code active shown.frames t (word_of Ebp t)
        (slice_get (flow_at code.program g.current.function).widths k) other place) (sym p.0)
        (subst (λ (z : Value). StandsIn code active shown.frames t (word_of Ebp t)
        (slice_get (flow_at code.program g.current.function).widths d) z place) p.1
        (stands-kept code (active_of g) active shown.frames t t (word_of Ebp t)
        (slice_get (flow_at code.program g.current.function).widths d) value place alike
        (same-place (word_of Ebp t) place t) (stands place there)))
    each v other place behind (inr p) =
        let here = point-supported code g o supported state has in
        let unset : defined o ≢ Some v = λ k. p.0 (same_Some d v (sym sets ∙ k)) in
        let stays = here.stays v place unset behind in
        subst (λ (base : ℕ). StandsIn code active shown.frames t base
        (slice_get (flow_at code.program g.current.function).widths v) other place) (sym keeps.ebp)
        (stands-kept code (active_of g) active shown.frames s t (word_of Ebp s)
        (slice_get (flow_at code.program g.current.function).widths v) other place alike
        (keeps.others v place (λ k. p.0 (same_Some d v k)) behind) (shown.variables v other place p.1 stays.0))

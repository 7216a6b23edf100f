-- The next state is shown where an array has other elements.
use Rattle.std.proofs.Common.{◌≡◌, ◌≢◌, ◌⊎◌, ℕ, zero, suc, ◌+◌, ◌-◌, ◌*◌, ◌≤◌, Bool, true, false, ℤ, List, [], ◌∷◌}
use Rattle.std.proofs.Common.{length}
use Rattle.std.proofs.Common.{Option, Some, None, inl, inr, refl, sym, ap, subst, ◌∙◌, arith}
use Rattle.std.specs.Prelude.{◌==◌, map, option_map, slice_get, slice_set, if◌then◌else◌}
use Rattle.std.specs.List.{AllZip}
use Rattle.std.proofs.lemmas.Bool.{le-leb}
use Rattle.std.proofs.lemmas.Bool.Decides.{nat_tests}
use Rattle.std.proofs.lemmas.Option.{none-some, same_Some}
use Rattle.pcc_base.specs.Outcome.{Null, Static, InFrame, Unknown, Value}
use Rattle.ia32_insn.specs.declared.register_names.Reg32.TheVariants.{Ebp}
use Rattle.ia32_insn.specs.Places.{Place, InWord, InByte, InSlot}
use Rattle.ia32_insn.specs.State as machine
use Rattle.ia32_insn.specs.Meaning.{word_of}
use Rattle.ia32_insn.specs.Items.{data_bytes, data_start}
use Rattle.ia32_insn.specs.Keeps.{AreDisjoint}
use Rattle.flow_graph.specs.declared.op.Op.{Op}
use Rattle.flow_graph.specs.Liveness.{defined}
use Rattle.flow_graph.specs.States as graph
use Rattle.flow_graph.specs.States.{Activation, Waiting, active_of, depth_of, elements_in, elements_of, elements_with}
use Rattle.flow_graph.specs.States.{flow_at, frame_at, op_at, waiting_place, waiting_with, with_array, with_elements}
use Rattle.flow_graph.specs.WellFormed.{IsState}
use Rattle.ia32_rows.specs.Placements.{Code, objects_of, placement_of}
use Rattle.ia32_rows.specs.Shows.{ElementsStand, FrameArraysStand, HoldsOldArrays, ObjectsStand, Shows}
use Rattle.ia32_rows.specs.Shows.{IsFrameArrayAt, StandsIn}
use Rattle.flow_graph.proofs.Active.{length-active}
use Rattle.flow_graph.proofs.Changes.{are-there}
use Rattle.ia32_laws.specs.Supports.{IsPlaceFor, IsSupported, SupportsPoint, size_of}
use Rattle.ia32_laws.specs.MovesLaws.{ShowsBehind}
use Rattle.ia32_laws.specs.Protected.{FrameArrayReads, IsCallRead, IsSame, ObjectReads}
use Rattle.ia32_laws.specs.KeepsLaws.{ArrayShows, Arrives, IsSameRegister, KeepsOutside, data_end, moved_to}
use Rattle.ia32_laws.proofs.Objects.{depth-in}
use Rattle.ia32_laws.proofs.Chain.{AreAlike, HasArrays, IsWaitAlike, remade, stands-kept, wait_with}
use Rattle.ia32_laws.proofs.Shown.{after-set, alike-waits, arrives-lands, elements-kept, next-shown, next_state}
use Rattle.ia32_laws.proofs.Shown.{point-supported, same-waits}
use Rattle.ia32_laws.proofs.Zones.{IsCallAt, IsSlotOf, argument-read-of, chain-read-of}
use Rattle.ia32_laws.proofs.KeepsApart.{element-within, object-read}
use Rattle.ia32_laws.proofs.Regions.{IsArrayOf, IsPart, IsStatic, array-above, other-array-apart}
use Rattle.ia32_laws.proofs.Regions.{other-object-apart, part-above, part-apart, region-of, static-ends}

-- ---- apart from all that is read of calls and of the current variables

record HasApart (code : Code) (g : graph.State) (frames : List ℕ) (base first bytes : ℕ) : Type 0 where
  calls : (a n : ℕ) → IsCallRead code g frames a n → AreDisjoint first bytes a n
  slots : (v slot n : ℕ) → IsPlaceFor (flow_at code.program g.current.function)
      (placement_of code g.current.function) v (InSlot slot) → n ≤ 4 → AreDisjoint first bytes (base - slot) n

-- the current call at EBP
pub current-at : (code : Code) (input : List ℕ) (g : graph.State) (s : machine.State) → (shown : Shows code input g s)
    → IsCallAt g shown.frames 0 g.current (word_of Ebp s)
current-at code input g s shown =
    record { is_active = refl; at_frame = ap (λ (fs : List ℕ). slice_get fs 0) shown.youngest }

-- the part of a call that is read
part-of : (code : Code) (i : ℕ) (a : Activation) (frame at n : ℕ)
    → ((frame ≤ at + 4) × (at + n ≤ frame + 8 + 4 * length a.arguments)) ⊎ IsSlotOf code i a frame at n
    → IsPart code a frame at n
part-of code i a frame at n (inl p) = inl p
part-of code i a frame at n (inr p) = inr (p.variable, p.slot, p.place, p.at_address, p.long)

-- what is read of calls is the depth word or a part of a call
by-part : (code : Code) (input : List ℕ) (g : graph.State) (s : machine.State) (P : ℕ → ℕ → Type 0) → IsSupported code
    → IsState code.program g → (shown : Shows code input g s) → P code.symbols.depth 4
    → ((j : ℕ) (a : Activation) (frame at n : ℕ) → IsCallAt g shown.frames j a frame → IsPart code a frame at n
    → P at n) → (at n : ℕ) → IsCallRead code g shown.frames at n → P at n
by-part code input g s P supported state shown depth part at n (inl h) =
    subst (λ (a : ℕ). P a n) (sym h.0) (subst (P code.symbols.depth) (sym h.1) depth)
by-part code input g s P supported state shown depth part at n (inr (inl h)) =
    let r = chain-read-of code input g s at n supported state shown h in
    part r.call r.activation r.frame at n r.is (part-of code r.call r.activation r.frame at n r.part)
by-part code input g s P supported state shown depth part at n (inr (inr h)) =
    let r = argument-read-of code g shown.frames at n h in
    part r.call r.activation r.frame at n r.is (part-of code r.call r.activation r.frame at n r.part)

-- a frame array is apart from it
array-has-apart : (code : Code) (input : List ℕ) (g : graph.State) (s : machine.State) (c k address width : ℕ)
    (elements : List ℤ) (bytes : ℕ) → IsSupported code → IsState code.program g → (shown : Shows code input g s)
    → (h : IsArrayOf code g shown.frames c k address width elements) → bytes ≤ size_of h.array
    → HasApart code g shown.frames (word_of Ebp s) address bytes
array-has-apart code input g s c k address width elements bytes supported state shown h few =
    record {
      calls = by-part code input g s (AreDisjoint address bytes) supported state shown
          (inr (counted (data_start code.text) (length (data_bytes
          (objects_of code.program))) code.symbols.depth address
          supported.is_code.text.depth_is (depth-in (objects_of code.program))
          (array-above code input g s c k address width elements supported state shown h)))
          (λ j a frame at n other part.
          part-apart code input g s c k address width elements bytes j a frame at n supported state shown h few other
          part);
      slots = λ v slot n place short.
          part-apart code input g s c k address width elements bytes 0 g.current (word_of Ebp s) (word_of Ebp s - slot)
          n
          supported state shown h few (current-at code input g s shown) (inr (v, slot, place, refl, short));
    }
  where
    counted : (s m d x : ℕ) → d ≡ s → 4 ≤ m → s + m + 4 ≤ x → d + 4 ≤ x
    counted s m d x e f h = omega arith

-- and so is a static object
static-has-apart : (code : Code) (input : List ℕ) (g : graph.State) (s : machine.State) (k address width : ℕ)
    (elements : List ℤ) → IsSupported code → IsState code.program g → (shown : Shows code input g s)
    → IsStatic code g k address width elements
    → HasApart code g shown.frames (word_of Ebp s) address (width * length elements)
static-has-apart code input g s k address width elements supported state shown h =
    let ends = static-ends code g k address width elements supported state h in
    record {
      calls = by-part code input g s (AreDisjoint address (width * length elements)) supported state shown
          (inr (counted (data_start code.text) code.symbols.depth address supported.is_code.text.depth_is ends.0))
          (λ j a frame at n other part. inl (below (address + width * length elements) (data_end code) at ends.1
          (part-above code input g s j a frame at n supported state shown other part)));
      slots = λ v slot n place short. inl (below (address + width * length elements) (data_end code)
          (word_of Ebp s - slot) ends.1
          (part-above code input g s 0 g.current (word_of Ebp s) (word_of Ebp s - slot) n supported state shown
          (current-at code input g s shown) (inr (v, slot, place, refl, short))));
    }
  where
    counted : (s d x : ℕ) → d ≡ s → s + 8 ≤ x → d + 4 ≤ x
    counted s d x e h = omega arith

    below : (a b c : ℕ) → a ≤ b → b ≤ c → a ≤ c
    below a b c h k = omega arith

-- ---- the next state

array-next : (code : Code) (input : List ℕ) (g : graph.State) (s t : machine.State) (o : Op) (block point : ℕ)
    (left : List ℕ) (taken : ℕ) (written : List ℕ) (arrays : List (List ℤ)) (after : List Waiting)
    (objects : List (List ℤ)) (first bytes : ℕ) → IsSupported code → IsState code.program g
    → (shown : Shows code input g s) → op_at code.program g ≡ Some o → defined o ≡ None
    → HasApart code g shown.frames (word_of Ebp s) first bytes → KeepsOutside code g first bytes s t
    → HasArrays g.current.arrays arrays → AllZip IsWaitAlike g.waiting after
    → Arrives code input g (moved_to block point left taken written g) t
    → (let h : graph.State =
    next_state g.current.variables arrays after objects (moved_to block point left taken written g) in
    ((i : ℕ) (a : Activation) → slice_get (active_of h) i ≡ Some a → HoldsOldArrays (depth_of g - i) a)
    → ObjectsStand code t objects
    → ((i : ℕ) (a : Activation) (frame : ℕ) → slice_get (active_of h) i ≡ Some a
    → slice_get shown.frames i ≡ Some frame → FrameArraysStand code t frame a)
    → ShowsBehind code input g.point h t)
array-next code input g s t o block point left taken written arrays after objects first bytes supported state shown has
    none apart keeps arrays_there waits arrives old objects_stand arrays_stand =
    next-shown code input g s t block point left taken written g.current.variables arrays after objects
    ((placement_of code g.current.function).after g.point) supported state
    shown arrays_there waits keeps.esp keeps.ebp (λ n a w reads. keeps.loads n a w (apart.calls a n reads))
    (arrives-lands code input g t block point left taken written arrives)
    (λ v value place e behind.
    let stays = here.stays v place (λ d. none-some v (sym none ∙ d)) behind in
    subst (λ (base : ℕ). StandsIn code (active_of h) shown.frames t base
    (slice_get (flow_at code.program g.current.function).widths v) value place) (sym keeps.ebp)
    (stands-kept code (active_of g) (active_of h) shown.frames s t (word_of Ebp s)
    (slice_get (flow_at code.program g.current.function).widths v) value place alike
    (same v place (here.after v place behind) (keeps.registers v place behind))
    (shown.variables v value place e stays.0)))
    old objects_stand arrays_stand
  where
    h : graph.State
    h = next_state g.current.variables arrays after objects (moved_to block point left taken written g)

    here : SupportsPoint (flow_at code.program g.current.function) (placement_of code g.current.function) g.point o
    here = point-supported code g o supported state has

    alike : AreAlike (active_of g) (active_of h)
    alike = (record { function = refl; arguments = refl; arrays = arrays_there }, alike-waits g.waiting after waits)

    short : (n : ℕ) → (n ≡ 4) ⊎ (n ≡ 1) → n ≤ 4
    short n (inl e) = omega arith
    short n (inr e) = omega arith

    same : (v : ℕ) (place : Place)
        → IsPlaceFor (flow_at code.program g.current.function) (placement_of code g.current.function) v place
        → IsSameRegister place s t → IsSame (word_of Ebp s) place s t
    same v (InWord r) for k = k
    same v (InByte r) for k = k
    same v (InSlot slot) for k = λ n w long e.
        keeps.loads n (word_of Ebp s - slot) w (apart.slots v slot n for (short n long)) e

-- ---- what is kept

-- an array that is apart
kept-array : (code : Code) (input : List ℕ) (g : graph.State) (s t : machine.State) (first bytes : ℕ)
    → (shown : Shows code input g s) → KeepsOutside code g first bytes s t → (i : ℕ) (a : Activation) (frame : ℕ)
    → IsCallAt g shown.frames i a frame → (l : ℕ) (elements : List ℤ) → slice_get a.arrays l ≡ Some elements
    → ((at n : ℕ) → (h : FrameArrayReads code (active_of g) shown.frames at n) → h.call ≡ i → h.number ≡ l
    → AreDisjoint first bytes at n)
    → (array : ℕ × ℕ) × (below address : ℕ) × (slice_get (flow_at code.program a.function).arrays l ≡ Some array)
    × (slice_get (placement_of code a.function).arrays l ≡ Some below) × (address + below ≡ frame)
    × ElementsStand t address array.0 elements
kept-array code input g s t first bytes shown keeps i a frame is l elements has apart =
    let (array, below, address, declared, placed, at, stand) =
    shown.frame_arrays i a frame is.is_active is.at_frame l elements has in (
      array,
      below,
      address,
      declared,
      placed,
      at,
      elements-kept s t address array.0 elements (λ n b w reads. keeps.loads n b w (apart b n (record {
        call = i;
        activation = a;
        is_active = is.is_active;
        frame = frame;
        at_frame = is.at_frame;
        number = l;
        elements = elements;
        has = has;
        array = array;
        declared = declared;
        below = below;
        placed = placed;
        address = address;
        at_address = at;
        reads = reads;
      }) refl refl)) stand,
    )

-- an object that is apart
kept-object : (code : Code) (input : List ℕ) (g : graph.State) (s t : machine.State) (first bytes : ℕ)
    → (shown : Shows code input g s) → KeepsOutside code g first bytes s t → (l : ℕ) (elements : List ℤ)
    → slice_get g.objects l ≡ Some elements
    → ((at n : ℕ) → (h : ObjectReads code g.objects at n) → h.number ≡ l → AreDisjoint first bytes at n)
    → (object : graph.Object) × (address : ℕ) × (slice_get code.program.objects l ≡ Some object)
    × (slice_get code.symbols.objects l ≡ Some address) × ElementsStand t address object.width elements
kept-object code input g s t first bytes shown keeps l elements has apart =
    let (object, address, declared, placed, stand) = shown.objects l elements has in (
      object,
      address,
      declared,
      placed,
      elements-kept s t address object.width elements (λ n a w reads. keeps.loads n a w (apart a n (record {
        number = l;
        elements = elements;
        has = has;
        object = object;
        declared = declared;
        address = address;
        placed = placed;
        reads = reads;
      }) refl)) stand,
    )

-- where a list has another element at a place, what was there is there
set-has : (xs : List (List ℤ)) (k : ℕ) (new : List ℤ) → HasArrays xs (slice_set xs k new)
set-has [] k new j elements e = absurd (none-some elements e)
set-has (x ∷ xs) zero new zero elements e = (new, refl)
set-has (x ∷ xs) zero new (suc j) elements e = (elements, e)
set-has (x ∷ xs) (suc k) new zero elements e = (elements, e)
set-has (x ∷ xs) (suc k) new (suc j) elements e = set-has xs k new j elements e

-- ---- static objects

static-shows : (code : Code) (input : List ℕ) (g : graph.State) (s t : machine.State) (o : Op) (k address width : ℕ)
    (elements new : List ℤ) (block point : ℕ) (left : List ℕ) (taken : ℕ) (written : List ℕ) → IsSupported code
    → IsState code.program g → (shown : Shows code input g s) → op_at code.program g ≡ Some o → defined o ≡ None
    → IsStatic code g k address width elements → KeepsOutside code g address (width * length elements) s t
    → ElementsStand t address width new → Arrives code input g (moved_to block point left taken written g) t
    → ShowsBehind code input g.point
    (next_state g.current.variables g.current.arrays g.waiting (slice_set g.objects k new)
    (moved_to block point left taken written g)) t
static-shows code input g s t o k address width elements new block point left taken written supported state shown has
    none mine keeps stand arrives =
    array-next code input g s t o block point left taken written g.current.arrays g.waiting (slice_set g.objects k new)
    address (width * length elements) supported state shown has none
    (static-has-apart code input g s k address width elements supported state shown mine) keeps
    (λ j es e. (es, e)) (same-waits g.waiting) arrives shown.old_arrays
    (λ l es e. each l es (after-set g.objects k l new es e))
    (λ i a frame e f l es there.
    kept-array code input g s t address (width * length elements) shown keeps i a frame
    (record { is_active = e; at_frame = f }) l es there
    (λ at n h is number. inl (above at n h)))
  where
    ends : (data_start code.text + 8 ≤ address) × (address + width * length elements ≤ data_end code)
    ends = static-ends code g k address width elements supported state mine

    above : (at n : ℕ) → FrameArrayReads code (active_of g) shown.frames at n
        → address + width * length elements ≤ at
    above at n h = below (address + width * length elements) (data_end code) h.address at ends.1
        (array-above code input g s h.call h.number h.address h.array.0 h.elements supported state shown (record {
          activation = h.activation;
          frame = h.frame;
          is = record { is_active = h.is_active; at_frame = h.at_frame };
          has = h.has;
          array = h.array;
          declared = h.declared;
          below = h.below;
          placed = h.placed;
          at_address = h.at_address;
          width_is = refl;
        })) (element-within h.address h.array.0 (length h.elements) at n h.reads).0
      where
        below : (x d y a : ℕ) → x ≤ d → d + 4 ≤ y → y ≤ a + 4 → x ≤ a
        below x d y a h k l = omega arith

    each : (l : ℕ) (es : List ℤ) → ((l ≡ k) × (new ≡ es)) ⊎ ((k ≢ l) × (slice_get g.objects l ≡ Some es))
        → (object : graph.Object) × (address : ℕ) × (slice_get code.program.objects l ≡ Some object)
        × (slice_get code.symbols.objects l ≡ Some address) × ElementsStand t address object.width es
    each l es (inl p) = (
      mine.object,
      address,
      subst (λ (n : ℕ). slice_get code.program.objects n ≡ Some mine.object) (sym p.0) mine.declared,
      subst (λ (n : ℕ). slice_get code.symbols.objects n ≡ Some address) (sym p.0) mine.placed,
      subst (ElementsStand t address mine.object.width) p.1
          (subst (λ (w : ℕ). ElementsStand t address w new) (sym mine.width_is) stand),
    )
    each l es (inr p) =
        kept-object code input g s t address (width * length elements) shown keeps l es p.1
        (λ at n h is. other-object-apart code g k address width elements at n supported state mine h
        (λ e. p.0 (sym e ∙ is)))

-- ---- frame arrays

-- what is known of an active call after array k of the call at a place was given other elements
record IsChangedAt (g : graph.State) (c k : ℕ) (new : List ℤ) (i : ℕ) (b : Activation) : Type 0 where
  before : Activation
  is_active : slice_get (active_of g) i ≡ Some before
  function : b.function ≡ before.function
  arguments : b.arguments ≡ before.arguments
  variables : b.variables ≡ before.variables
  arrays : (l : ℕ) (elements : List ℤ) → slice_get b.arrays l ≡ Some elements
      → ((i ≡ c) × (l ≡ k) × (new ≡ elements))
      ⊎ (((i ≡ c) × (l ≡ k) → ⊥) × (slice_get before.arrays l ≡ Some elements))

-- one that wasn't changed
unchanged-at : (g : graph.State) (c k : ℕ) (new : List ℤ) (i : ℕ) (b : Activation) → i ≢ c
    → slice_get (active_of g) i ≡ Some b → IsChangedAt g c k new i b
unchanged-at g c k new i b other e =
    record {
      before = b;
      is_active = e;
      function = refl;
      arguments = refl;
      variables = refl;
      arrays = λ l elements f. inr ((λ p. other p.0), f);
    }

-- the one that was
changed-at : (g : graph.State) (c k : ℕ) (new : List ℤ) (a : Activation) → slice_get (active_of g) c ≡ Some a
    → IsChangedAt g c k new c (remade a.variables (slice_set a.arrays k new) a)
changed-at g c k new a e =
    record {
      before = a;
      is_active = e;
      function = refl;
      arguments = refl;
      variables = refl;
      arrays = λ l elements f. by l elements (after-set a.arrays k l new elements f);
    }
  where
    by : (l : ℕ) (elements : List ℤ)
        → ((l ≡ k) × (new ≡ elements)) ⊎ ((k ≢ l) × (slice_get a.arrays l ≡ Some elements))
        → ((c ≡ c) × (l ≡ k) × (new ≡ elements))
        ⊎ (((c ≡ c) × (l ≡ k) → ⊥) × (slice_get a.arrays l ≡ Some elements))
    by l elements (inl p) = inl (refl, p.0, p.1)
    by l elements (inr p) = inr ((λ q. p.0 (sym q.1)), p.1)

-- array l of a call of this function stands
abbrev StandsAt : Code → machine.State → ℕ → ℕ → ℕ → List ℤ → Type 0
StandsAt code t frame f l elements =
    (array : ℕ × ℕ) × (below address : ℕ) × (slice_get (flow_at code.program f).arrays l ≡ Some array)
    × (slice_get (placement_of code f).arrays l ≡ Some below) × (address + below ≡ frame)
    × ElementsStand t address array.0 elements

-- so the array of the call at a place may change, up to the end of its last word
frame-shows : (code : Code) (input : List ℕ) (g : graph.State) (s t : machine.State) (o : Op) (c k address width : ℕ)
    (elements new : List ℤ) (bytes block point : ℕ) (left : List ℕ) (taken : ℕ) (written : List ℕ)
    (arrays : List (List ℤ)) (after : List Waiting) → IsSupported code → IsState code.program g
    → (shown : Shows code input g s) → op_at code.program g ≡ Some o → defined o ≡ None
    → (mine : IsArrayOf code g shown.frames c k address width elements) → bytes ≤ size_of mine.array
    → KeepsOutside code g address bytes s t → ElementsStand t address width new
    → Arrives code input g (moved_to block point left taken written g) t → HasArrays g.current.arrays arrays
    → AllZip IsWaitAlike g.waiting after
    → ((i : ℕ) (b : Activation) → slice_get (remade g.current.variables arrays g.current
    ∷ map (λ w. w.activation) after) i ≡ Some b → IsChangedAt g c k new i b)
    → ShowsBehind code input g.point
    (next_state g.current.variables arrays after g.objects (moved_to block point left taken written g)) t
frame-shows code input g s t o c k address width elements new bytes block point left taken written arrays after
    supported state shown has none mine few keeps stand arrives arrays_there waits changed =
    array-next code input g s t o block point left taken written arrays after g.objects address bytes supported state
    shown has none
    (array-has-apart code input g s c k address width elements bytes supported state shown mine few) keeps arrays_there
    waits arrives
    (λ i b e. old i b (changed i b e))
    (λ l es e. kept-object code input g s t address bytes shown keeps l es e
    (λ at n h is. inr (below at n h)))
    (λ i b frame e f l es there. each i b frame l es (changed i b e) f ((changed i b e).arrays l es there))
  where
    below : (at n : ℕ) → ObjectReads code g.objects at n → at + n ≤ address
    below at n h = less (at + n) (data_end code) address (object-read code g at n supported state h).1
        (array-above code input g s c k address width elements supported state shown mine)
      where
        less : (x d y : ℕ) → x ≤ d → d + 4 ≤ y → x ≤ y
        less x d y h k = omega arith

    old : (i : ℕ) (b : Activation) → IsChangedAt g c k new i b → HoldsOldArrays (depth_of g - i) b
    old i b h =
        let before = shown.old_arrays i h.before h.is_active in (
          λ v value e. before.0 v value (subst (λ (l : List Value). slice_get l v ≡ Some value) h.variables e),
          λ l value e. before.1 l value (subst (λ (xs : List Value). slice_get xs l ≡ Some value) h.arguments e),
        )

    each : (i : ℕ) (b : Activation) (frame l : ℕ) (es : List ℤ) → (h : IsChangedAt g c k new i b)
        → slice_get shown.frames i ≡ Some frame
        → ((i ≡ c) × (l ≡ k) × (new ≡ es)) ⊎ (((i ≡ c) × (l ≡ k) → ⊥) × (slice_get h.before.arrays l ≡ Some es))
        → StandsAt code t frame b.function l es
    each i b frame l es h f (inl (is, number, same)) =
        let call : mine.activation ≡ h.before = same_Some mine.activation h.before
        (sym mine.is.is_active ∙ subst (λ (j : ℕ). slice_get (active_of g) j ≡ Some h.before) is h.is_active) in
        let where_is : mine.frame ≡ frame = same_Some mine.frame frame
        (sym mine.is.at_frame ∙ subst (λ (j : ℕ). slice_get shown.frames j ≡ Some frame) is f) in
        let there : StandsAt code t mine.frame mine.activation.function k new = (
          mine.array,
          mine.below,
          address,
          mine.declared,
          mine.placed,
          mine.at_address,
          subst (λ (w : ℕ). ElementsStand t address w new) (sym mine.width_is) stand,
        ) in
        subst (λ (j : ℕ). StandsAt code t frame b.function j es) (sym number)
        (subst (StandsAt code t frame b.function k) same
        (subst (λ (fn : ℕ). StandsAt code t frame fn k new)
        (ap (λ (a : Activation). a.function) call ∙ sym h.function)
        (subst (λ (fr : ℕ). StandsAt code t fr mine.activation.function k new) where_is there)))
    each i b frame l es h f (inr (distinct, there)) =
        subst (λ (fn : ℕ). StandsAt code t frame fn l es) (sym h.function)
        (kept-array code input g s t address bytes shown keeps i h.before frame
        (record { is_active = h.is_active; at_frame = f }) l es there
        (λ at n r is number.
        other-array-apart code input g s c k address width elements bytes at n supported state shown mine few r
        (λ p. distinct (sym is ∙ p.0, sym number ∙ p.1))))

-- ---- the current call's, and a waiting one's

pub current-shows : (code : Code) (input : List ℕ) (g : graph.State) (s t : machine.State) (o : Op)
    (k address width : ℕ)
    (elements new : List ℤ) (bytes block point : ℕ) (left : List ℕ) (taken : ℕ) (written : List ℕ) → IsSupported code
    → IsState code.program g → (shown : Shows code input g s) → op_at code.program g ≡ Some o → defined o ≡ None
    → (mine : IsArrayOf code g shown.frames 0 k address width elements) → bytes ≤ size_of mine.array
    → KeepsOutside code g address bytes s t → ElementsStand t address width new
    → Arrives code input g (moved_to block point left taken written g) t
    → ShowsBehind code input g.point
    (next_state g.current.variables (slice_set g.current.arrays k new) g.waiting g.objects
    (moved_to block point left taken written g)) t
current-shows code input g s t o k address width elements new bytes block point left taken written supported state shown
    has none mine few keeps stand arrives =
    frame-shows code input g s t o 0 k address width elements new bytes block point left taken written
    (slice_set g.current.arrays k new) g.waiting supported state shown has none mine few keeps stand arrives
    (set-has g.current.arrays k new) (same-waits g.waiting) changed
  where
    changed : (i : ℕ) (b : Activation) → slice_get (remade g.current.variables (slice_set g.current.arrays k new)
        g.current ∷ map (λ w. w.activation) g.waiting) i ≡ Some b → IsChangedAt g 0 k new i b
    changed zero b e =
        subst (IsChangedAt g 0 k new 0)
        (same_Some (remade g.current.variables (slice_set g.current.arrays k new) g.current) b e)
        (changed-at g 0 k new g.current refl)
    changed (suc i) b e = unchanged-at g 0 k new (suc i) b (λ z. omega (arith, z)) e

-- a list of waiting calls with one of them changed
waits-set : (waiting : List Waiting) (p k : ℕ) (new : List ℤ) (w : Waiting) → slice_get waiting p ≡ Some w
    → AllZip IsWaitAlike waiting (slice_set waiting p (wait_with (slice_set w.activation.arrays k new) w))
waits-set [] p k new w e = absurd (none-some w e)
waits-set (v ∷ waiting) zero k new w e =
    let same : v ≡ w = same_Some v w e in (
      subst (λ (u : Waiting). IsWaitAlike v (wait_with (slice_set u.activation.arrays k new) u)) same (record {
        arrays = slice_set v.activation.arrays k new;
        is = refl;
        has = set-has v.activation.arrays k new;
      }),
      same-waits waiting,
    )
waits-set (v ∷ waiting) (suc p) k new w e = (
  record { arrays = v.activation.arrays; is = refl; has = λ j es f. (es, f) },
  waits-set waiting p k new w e,
)

-- what stands at a place of it
set-waiting-at : (waiting : List Waiting) (p i : ℕ) (v : Waiting) (b : Activation)
    → slice_get (map (λ w. w.activation) (slice_set waiting p v)) i ≡ Some b
    → ((i ≡ p) × (v.activation ≡ b)) ⊎ ((i ≢ p) × (slice_get (map (λ w. w.activation) waiting) i ≡ Some b))
set-waiting-at [] p i v b e = absurd (none-some b e)
set-waiting-at (w ∷ waiting) zero zero v b e = inl (refl, same_Some v.activation b e)
set-waiting-at (w ∷ waiting) zero (suc i) v b e = inr ((λ z. omega (arith, z)), e)
set-waiting-at (w ∷ waiting) (suc p) zero v b e = inr ((λ z. omega (arith, z)), e)
set-waiting-at (w ∷ waiting) (suc p) (suc i) v b e = more (set-waiting-at waiting p i v b e)
  where
    more : ((i ≡ p) × (v.activation ≡ b)) ⊎ ((i ≢ p) × (slice_get (map (λ w. w.activation) waiting) i ≡ Some b))
        → ((suc i ≡ suc p) × (v.activation ≡ b))
        ⊎ ((suc i ≢ suc p) × (slice_get (map (λ w. w.activation) waiting) i ≡ Some b))
    more (inl h) = inl (ap suc h.0, h.1)
    more (inr h) = inr ((λ z. h.0 (omega (arith, z))), h.1)

waiting-shows : (code : Code) (input : List ℕ) (g : graph.State) (s t : machine.State) (o : Op)
    (p k address width : ℕ) (w : Waiting) (elements new : List ℤ) (block point : ℕ) (left : List ℕ) (taken : ℕ)
    (written : List ℕ) → IsSupported code
    → IsState code.program g → (shown : Shows code input g s) → op_at code.program g ≡ Some o → defined o ≡ None
    → slice_get g.waiting p ≡ Some w → IsArrayOf code g shown.frames (suc p) k address width elements
    → KeepsOutside code g address (width * length elements) s t → ElementsStand t address width new
    → Arrives code input g (moved_to block point left taken written g) t
    → ShowsBehind code input g.point
    (next_state g.current.variables g.current.arrays
    (slice_set g.waiting p (wait_with (slice_set w.activation.arrays k new) w)) g.objects
    (moved_to block point left taken written g)) t
waiting-shows code input g s t o p k address width w elements new block point left taken written supported state shown
    has none there mine keeps stand arrives =
    frame-shows code input g s t o (suc p) k address width elements new (width * length elements) block point left taken
    written g.current.arrays (slice_set g.waiting p v) supported state shown has none mine
    (region-of code input g s (suc p) k address width elements supported state shown mine).all keeps stand arrives
    (λ j es e. (es, e))
    (waits-set g.waiting p k new w there) changed
  where
    v : Waiting
    v = wait_with (slice_set w.activation.arrays k new) w

    active : slice_get (active_of g) (suc p) ≡ Some w.activation
    active = mapped g.waiting p there
      where
        mapped : (waiting : List Waiting) (q : ℕ) → slice_get waiting q ≡ Some w
            → slice_get (map (λ u. u.activation) waiting) q ≡ Some w.activation
        mapped [] q e = absurd (none-some w e)
        mapped (u ∷ waiting) zero e = ap (λ (x : Waiting). Some x.activation) (same_Some u w e)
        mapped (u ∷ waiting) (suc q) e = mapped waiting q e

    by : (i : ℕ) (b : Activation) → ((i ≡ p) × (v.activation ≡ b))
        ⊎ ((i ≢ p) × (slice_get (map (λ u. u.activation) g.waiting) i ≡ Some b)) → IsChangedAt g (suc p) k new (suc i) b
    by i b (inl h) =
        subst (λ (j : ℕ). IsChangedAt g (suc p) k new (suc j) b) (sym h.0)
        (subst (IsChangedAt g (suc p) k new (suc p)) h.1 (changed-at g (suc p) k new w.activation active))
    by i b (inr h) = unchanged-at g (suc p) k new (suc i) b (λ z. h.0 (omega (arith, z))) h.1

    changed : (i : ℕ) (b : Activation) → slice_get (remade g.current.variables g.current.arrays g.current
        ∷ map (λ u. u.activation) (slice_set g.waiting p v)) i ≡ Some b → IsChangedAt g (suc p) k new i b
    changed zero b e = unchanged-at g (suc p) k new 0 b (λ z. omega (arith, z)) e
    changed (suc i) b e = by i b (set-waiting-at g.waiting p i v b e)

-- ---- by the array's name

-- an element that a function of it is read from
pub mapped-some : {A : Type 0} (f : A → ℕ) (o : Option A) (width : ℕ) → option_map f o ≡ Some width
    → (x : A) × (o ≡ Some x) × (f x ≡ width)
mapped-some f None width e = absurd (none-some width e)
mapped-some f (Some x) width e = (x, refl, same_Some (f x) width e)

-- the array of a depth is that of the call at its place
pub array-of : (code : Code) (g : graph.State) (frames : List ℕ) (c k depth address width : ℕ) (a : Activation)
    (elements : List ℤ) → length (active_of g) - depth ≡ c → slice_get (active_of g) c ≡ Some a
    → elements_in code.program k (Some a) ≡ Some (width, elements)
    → IsFrameArrayAt code (active_of g) frames k depth address
    → IsArrayOf code g frames c k address width elements
array-of code g frames c k depth address width a elements place active e h =
    let there = are-there (option_map (λ (x : ℕ × ℕ). x.0) (slice_get (flow_at code.program a.function).arrays k))
    (slice_get a.arrays k) width elements e in
    let (array, declared, is_width) =
    mapped-some (λ (x : ℕ × ℕ). x.0) (slice_get (flow_at code.program a.function).arrays k) width there.is_width in
    let same : h.activation ≡ a = same_Some h.activation a
    (sym h.of_depth ∙ ap (λ (i : ℕ). slice_get (active_of g) i) place ∙ active) in
    record {
      activation = a;
      frame = h.frame;
      is = record {
        is_active = active;
        at_frame = subst (λ (i : ℕ). slice_get frames i ≡ Some h.frame) place h.at_frame;
      };
      has = there.is_elements;
      array = array;
      declared = declared;
      below = h.below;
      placed = subst (λ (b : Activation). slice_get (placement_of code b.function).arrays k ≡ Some h.below) same
          h.placed;
      at_address = h.address;
      width_is = is_width;
    }

-- the active call of a waiting one
pub waiting-active : (waiting : List Waiting) (p : ℕ) (w : Waiting) → slice_get waiting p ≡ Some w
    → slice_get (map (λ u. u.activation) waiting) p ≡ Some w.activation
waiting-active [] p w e = absurd (none-some w e)
waiting-active (v ∷ waiting) zero w e = ap (λ (x : Waiting). Some x.activation) (same_Some v w e)
waiting-active (v ∷ waiting) (suc p) w e = waiting-active waiting p w e

-- the call of a depth other than the youngest's is behind the current one, at its place among those that wait
pub place-behind : (code : Code) (g : graph.State) (depth : ℕ) → (depth == depth_of g) ≡ false
    → depth ≤ length (active_of g) → length (active_of g) - depth ≡ suc (waiting_place g depth)
place-behind code g depth test young =
    let many : length (active_of g) ≡ suc (length g.waiting) = length-active g in
    let other : depth ≢ depth_of g = unlike depth (depth_of g) test in
    let within : depth ≤ length g.waiting =
    less depth (length (active_of g)) (length g.waiting) young many other in
    let place_is : waiting_place g depth ≡ length g.waiting - depth =
    ap (λ (y : Bool). if y then length g.waiting - depth else length g.waiting)
    (le-leb depth (length g.waiting) within) in
    counted (length (active_of g)) (length g.waiting) depth (waiting_place g depth) many within place_is
  where
    unlike : (a b : ℕ) → (a == b) ≡ false → a ≢ b
    unlike a b e = grind (arith, nat_tests)

    less : (d a w : ℕ) → d ≤ a → a ≡ suc w → d ≢ suc w → d ≤ w
    less d a w h e n = omega (arith, n)

    counted : (a w d p : ℕ) → a ≡ suc w → d ≤ w → p ≡ w - d → a - d ≡ suc p
    counted a w d p e h f = omega arith

pub array-shows : ArrayShows
array-shows code input g s t o Null address width elements new block point left taken written supported state shown has
    none is at keeps stand arrives = absurd (none-some (width, elements) is)
array-shows code input g s t o Unknown address width elements new block point left taken written supported state shown
    has none is at keeps stand arrives = absurd (none-some (width, elements) is)
array-shows code input g s t o (Static k) address width elements new block point left taken written supported state
    shown has none is at keeps stand arrives =
    let there = are-there (option_map (λ (x : graph.Object). x.width) (slice_get code.program.objects k))
    (slice_get g.objects k) width elements is in
    let (object, declared, is_width) =
    mapped-some (λ (x : graph.Object). x.width) (slice_get code.program.objects k) width there.is_width in
    static-shows code input g s t o k address width elements new block point left taken written supported state shown
    has none (record {
      has = there.is_elements;
      object = object;
      declared = declared;
      placed = at.1;
      width_is = is_width;
    }) keeps stand arrives
array-shows code input g s t o (InFrame k depth) address width elements new block point left taken written supported
    state shown has none is at keeps stand arrives = chosen (depth == depth_of g) refl
  where
    m : graph.State
    m = moved_to block point left taken written g

    place : ℕ
    place = waiting_place g depth

    call : Bool → Option Activation
    call youngest =
        if youngest then Some g.current else option_map (λ (w : Waiting). w.activation) (slice_get g.waiting place)

    -- the waiting one
    older : (o : Option Waiting) → slice_get g.waiting place ≡ o → (depth == depth_of g) ≡ false
        → elements_in code.program k (option_map (λ (w : Waiting). w.activation) o) ≡ Some (width, elements)
        → ShowsBehind code input g.point (record m { waiting = waiting_with k new place o g.waiting }) t
    older None e test found = absurd (none-some (width, elements) found)
    older (Some w) e test found =
        waiting-shows code input g s t o place k address width w elements new block point left taken written supported
        state shown has none e (array-of code g shown.frames (suc place) k depth address width w.activation elements
        (place-behind code g depth test at.youngest) (waiting-active g.waiting place w e) found at) keeps stand arrives

    chosen : (test : Bool) → (depth == depth_of g) ≡ test
        → ShowsBehind code input g.point
        (if test then record m { current = with_elements k new m.current }
        else record m { waiting = waiting_with k new place (slice_get m.waiting place) m.waiting }) t
    chosen true test =
        current-shows code input g s t o k address width elements new (width * length elements) block point left taken
        written supported state shown has none mine
        (region-of code input g s 0 k address width elements supported state shown mine).all keeps stand arrives
      where
        alike : (a b : ℕ) → (a == b) ≡ true → a ≡ b
        alike a b e = grind (arith, nat_tests)

        first : (a b d : ℕ) → a ≡ b → d ≡ b → a - d ≡ 0
        first a b d e f = omega arith

        mine : IsArrayOf code g shown.frames 0 k address width elements
        mine = array-of code g shown.frames 0 k depth address width g.current elements
            (first (length (active_of g)) (depth_of g) depth (length-active g) (alike depth (depth_of g) test)) refl
            (subst (λ (b : Bool). elements_in code.program k (call b) ≡ Some (width, elements)) test is) at
    chosen false test =
        older (slice_get g.waiting place) refl test
        (subst (λ (b : Bool). elements_in code.program k (call b) ≡ Some (width, elements)) test is)

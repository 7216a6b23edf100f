-- The array that a map finds by its address is that array.
use Rattle.std.proofs.Common.{◌≡◌, ◌≢◌, ℕ, zero, suc, ◌+◌, ◌-◌, ◌*◌, ◌<◌, ◌≤◌, Bool, Option, List, [], ◌∷◌, length, map}
use Rattle.std.proofs.Common.{Some, None, inl, inr, refl, sym, ap, subst, ◌∙◌, ◌⊎◌, arith}
use Rattle.std.specs.Prelude.{if◌then◌else◌, slice_get}
use Rattle.std.proofs.lemmas.Bool.Decides.{eqb_tells}
use Rattle.std.proofs.lemmas.List.{length-map}
use Rattle.std.proofs.lemmas.Option.{get_or_from_slice_get, none-some, same_Some, slice_get_within}
use Rattle.pcc_base.specs.Objects.{Object}
use Rattle.pcc_base.specs.Outcome.{ArrayName, Null, Static, InFrame, Unknown}
use Rattle.pcc_base.proofs.Lists.{element-at}
use Rattle.c_tree.specs.Objects.{data_object}
use Rattle.c_tree.specs.Program.{LocalArray, Program, StaticObject}
use Rattle.ia32_insn.specs.State as machine
use Rattle.ia32_insn.specs.Items.{data_bytes, data_start, object_addresses}
use Rattle.flow_graph.specs.Graphs.{Flow, empty_flow}
use Rattle.flow_graph.specs.States as graph
use Rattle.flow_graph.specs.States.{Activation, active_of, flow_at}
use Rattle.flow_graph.specs.WellFormed.{AreElementsOf, IsState}
use Rattle.flow_graph.proofs.Lists.{zip-first}
use Rattle.lower_lines.specs.Lowering.{array_of}
use Rattle.ia32_insn.proofs.Objects.{length-object_addresses}
use Rattle.ia32_rows.specs.Placements.{Code, objects_of as image_objects, placement_of}
use Rattle.ia32_rows.specs.Shows.{IsArrayAt, IsFrameArrayAt, Shows}
use Rattle.ia32_laws.specs.Supports.{IsSupported, size_of}
use Rattle.ia32_laws.specs.KeepsLaws.{data_end}
use Rattle.ia32_laws.proofs.Objects.{object-in, objects-apart}
use Rattle.ia32_laws.proofs.Regions.{IsArrayOf, array-above}
use Rattle.ia32_laws.proofs.Zones.{activation-at, calls-above, frame_size}
use Rattle.map_text.specs.Maps.{Map, MapArray, MapObject}
use Rattle.map_text.specs.Marks.{Frame, array_in, array_named, arrays_below, arrays_of, in_frame, named_from}
use Rattle.map_text.specs.Marks.{named_in_frames}
use Rattle.map_text.specs.Marks.{objects_of, place_of, static_or}
use Rattle.map_lines.specs.Parts.{arrays_at, objects_at}
use Rattle.map_lines.specs.VisitsLaws.{frames_at}
use Rattle.map_lines.proofs.Found.{has-function, numbered}
use Rattle.map_lines.proofs.Tells.{Tells}

-- ---- places in lists

-- the first place of an address
place-found : (k address : ℕ) (addresses : List ℕ) (n : ℕ) → slice_get addresses n ≡ Some address
    → ((j other : ℕ) → j < n → slice_get addresses j ≡ Some other → other ≢ address)
    → place_of k address addresses ≡ Some (k + n)
place-found k address [] n at apart = absurd (none-some address at)
place-found k address (x ∷ xs) zero at apart =
    let same : k ≡ k + 0 = omega arith in
    elim (eqb_tells x address) [
      | inl is ↦ ap (λ (b : Bool). if b then Some k else place_of (suc k) address xs) is.0 ∙ ap Some same
      | inr other ↦ absurd (other.1 (same_Some x address at))
    ]
place-found k address (x ∷ xs) (suc n) at apart =
    let same : suc k + n ≡ k + suc n = omega arith in
    elim (eqb_tells x address) [
      | inl is ↦ absurd (apart 0 x (omega arith) refl is.1)
      | inr other ↦
          ap (λ (b : Bool). if b then Some k else place_of (suc k) address xs) other.0
          ∙ place-found (suc k) address xs n at (λ j y lt e. apart (suc j) y (omega (arith, lt)) e) ∙ ap Some same
    ]

place-none : (k address : ℕ) (addresses : List ℕ)
    → ((j other : ℕ) → slice_get addresses j ≡ Some other → other ≢ address) → place_of k address addresses ≡ None
place-none k address [] apart = refl
place-none k address (x ∷ xs) apart =
    elim (eqb_tells x address) [
      | inl is ↦ absurd (apart 0 x refl is.1)
      | inr other ↦
          ap (λ (b : Bool). if b then Some k else place_of (suc k) address xs) other.0
          ∙ place-none (suc k) address xs (λ j y e. apart (suc j) y e)
    ]

-- the first array at an address
array-found : (k address frame : ℕ) (belows : List ℕ) (n below : ℕ) → slice_get belows n ≡ Some below
    → address + below ≡ frame
    → ((j other : ℕ) → j < n → slice_get belows j ≡ Some other → address + other ≢ frame)
    → array_in k address frame belows ≡ Some (k + n)
array-found k address frame [] n below at is apart = absurd (none-some below at)
array-found k address frame (x ∷ xs) zero below at is apart =
    let same : k ≡ k + 0 = omega arith in
    elim (eqb_tells (address + x) frame) [
      | inl here ↦ ap (λ (b : Bool). if b then Some k else array_in (suc k) address frame xs) here.0 ∙ ap Some same
      | inr other ↦ absurd (other.1 (ap (λ (n : ℕ). address + n) (same_Some x below at) ∙ is))
    ]
array-found k address frame (x ∷ xs) (suc n) below at is apart =
    let same : suc k + n ≡ k + suc n = omega arith in
    elim (eqb_tells (address + x) frame) [
      | inl here ↦ absurd (apart 0 x (omega arith) refl here.1)
      | inr other ↦
          ap (λ (b : Bool). if b then Some k else array_in (suc k) address frame xs) other.0
          ∙ array-found (suc k) address frame xs n below at is
          (λ j y lt e. apart (suc j) y (omega (arith, lt)) e) ∙ ap Some same
    ]

array-none : (k address frame : ℕ) (belows : List ℕ)
    → ((j other : ℕ) → slice_get belows j ≡ Some other → address + other ≢ frame)
    → array_in k address frame belows ≡ None
array-none k address frame [] apart = refl
array-none k address frame (x ∷ xs) apart =
    elim (eqb_tells (address + x) frame) [
      | inl here ↦ absurd (apart 0 x refl here.1)
      | inr other ↦
          ap (λ (b : Bool). if b then Some k else array_in (suc k) address frame xs) other.0
          ∙ array-none (suc k) address frame xs (λ j y e. apart (suc j) y e)
    ]

-- ---- what a map says of objects and arrays

objects-are : (os : List StaticObject) (addresses : List ℕ) → length os ≡ length addresses
    → map (λ (o : MapObject). o.address) (objects_at os addresses) ≡ addresses
objects-are [] [] same = refl
objects-are [] (x ∷ addresses) same = absurd (omega (arith, same))
objects-are (o ∷ os) [] same = absurd (omega (arith, same))
objects-are (o ∷ os) (x ∷ addresses) same =
    ap (λ (xs : List ℕ). x ∷ xs) (objects-are os addresses (omega (arith, same)))

belows-are : (os : List LocalArray) (belows : List ℕ) → length os ≡ length belows
    → map (λ (a : MapArray). a.below) (arrays_at os belows) ≡ belows
belows-are [] [] same = refl
belows-are [] (x ∷ belows) same = absurd (omega (arith, same))
belows-are (o ∷ os) [] same = absurd (omega (arith, same))
belows-are (o ∷ os) (x ∷ belows) same =
    ap (λ (xs : List ℕ). x ∷ xs) (belows-are os belows (omega (arith, same)))

-- the objects of a map are at the addresses of the code's
map-objects : (program : Program) (code : Code) (m : Map) → Tells program code m
    → objects_of m ≡ object_addresses (data_start code.text + 4) (image_objects code.program)
map-objects program code m h =
    let symbols = h.is_selected.supported.is_code.text.objects_are in
    let image : List Object = image_objects code.program in
    let many : length program.objects ≡ length code.symbols.objects =
    sym (length-map program.objects data_object) ∙ sym (ap length h.objects)
    ∙ sym (length-map code.program.objects
    (λ (o : graph.Object). let p : Object = record { width = o.width; elements = o.elements } in p))
    ∙ sym (length-object_addresses (data_start code.text + 4) image) ∙ ap length (sym symbols) in
    ap (map (λ (o : MapObject). o.address)) h.own_objects
    ∙ objects-are program.objects code.symbols.objects many ∙ symbols

-- the arrays of a function of a map are where the code has them
map-arrays : (program : Program) (code : Code) (m : Map) (k : ℕ) → Tells program code m
    → k < length code.program.functions → arrays_of m (Some k) ≡ (placement_of code k).arrays
map-arrays program code m k h below =
    let x = has-function program code m k h below in
    let n = numbered program code m k x.0 h x.1 in
    let flow = element-at code.program.functions k below in
    let shape = h.shapes.each k n.function flow.0 n.declared flow.1 in
    let arrays = (h.is_selected.supported.supports k below).arrays in
    let same : flow.0 ≡ flow_at code.program k = flow-is k flow.0 flow.1 in
    let many : length n.function.arrays ≡ length (placement_of code k).arrays =
    sym (length-map n.function.arrays array_of) ∙ sym (ap length shape.arrays)
    ∙ ap (λ (fl : Flow). length fl.arrays) same ∙ sym arrays.as_many in
    ap arrays_below x.1 ∙ ap (map (λ (a : MapArray). a.below)) n.is.arrays
    ∙ belows-are n.function.arrays (placement_of code k).arrays many
  where
    flow-is : (k : ℕ) (flow : Flow) → slice_get code.program.functions k ≡ Some flow
        → flow ≡ flow_at code.program k
    flow-is k flow has = sym (get_or_from_slice_get code.program.functions k flow empty_flow has)

-- ---- static objects

-- no two objects stand at one address
objects-differ : (start : ℕ) (objects : List Object) (j k one two : ℕ) → j < k
    → slice_get (object_addresses (start + 4) objects) j ≡ Some one
    → slice_get (object_addresses (start + 4) objects) k ≡ Some two → one ≢ two
objects-differ start objects j k one two lt at there =
    let many = length-object_addresses (start + 4) objects in
    let o = element-at objects j (omega (arith, slice_get_within (object_addresses (start + 4) objects) j one at, many))
    in
    let p = element-at objects k
    (omega (arith, slice_get_within (object_addresses (start + 4) objects) k two there, many)) in
    let different : j ≢ k = omega (arith, lt) in
    apart (o.0.width * length o.0.elements) (p.0.width * length p.0.elements)
    (objects-apart start objects j k one two o.0 p.0 different o.1 at p.1 there)
  where
    apart : (m n : ℕ) → (one + m + 4 ≤ two) ⊎ (two + n + 4 ≤ one) → one ≢ two
    apart m n (inl h) = omega (arith, h)
    apart m n (inr h) = omega (arith, h)

-- an object stands in the data
object-within : (start bytes : ℕ) (objects : List Object) (k address : ℕ) → bytes ≡ length (data_bytes objects)
    → slice_get (object_addresses (start + 4) objects) k ≡ Some address
    → (0 < address) × (address ≤ start + bytes)
object-within start bytes objects k address is at =
    let many = length-object_addresses (start + 4) objects in
    let o = element-at objects k
    (omega (arith, slice_get_within (object_addresses (start + 4) objects) k address at, many)) in
    let inside = object-in start objects k address o.0 o.1 at in
    counted (o.0.width * length o.0.elements) (length (data_bytes objects)) is inside.0 inside.1
  where
    counted : (m n : ℕ) → bytes ≡ n → start + 8 ≤ address → address + m ≤ start + n
        → (0 < address) × (address ≤ start + bytes)
    counted m n e low high = (omega (arith, low), omega (arith, high, e))

static-named : (m : Map) (frames : List Frame) (word k : ℕ) → 0 < word → place_of 0 word (objects_of m) ≡ Some k
    → array_named m frames word ≡ Static k
static-named m frames zero k some at = absurd (omega (arith, some))
static-named m frames (suc n) k some at = ap (static_or (named_in_frames m (suc n) frames)) at

static-found : (program : Program) (code : Code) (m : Map) (frames : List Frame) (k word : ℕ) → Tells program code m
    → slice_get code.symbols.objects k ≡ Some word → array_named m frames word ≡ Static k
static-found program code m frames k word h at =
    let start : ℕ = data_start code.text in
    let objects : List Object = image_objects code.program in
    let there : slice_get (object_addresses (start + 4) objects) k ≡ Some word =
    subst (λ (l : List ℕ). slice_get l k ≡ Some word) h.is_selected.supported.is_code.text.objects_are at in
    let place : place_of 0 word (object_addresses (start + 4) objects) ≡ Some (0 + k) =
    place-found 0 word (object_addresses (start + 4) objects) k there
    (λ j other lt e. objects-differ start objects j k other word lt e there) in
    let same : 0 + k ≡ k = omega arith in
    static-named m frames word k
    (object-within start (length (data_bytes objects)) objects k word refl there).0
    (ap (place_of 0 word) (map-objects program code m h) ∙ place ∙ ap Some same)

-- ---- frame arrays

frame-named : (m : Map) (frames : List Frame) (word : ℕ) (array : ArrayName) → 0 < word
    → place_of 0 word (objects_of m) ≡ None → named_in_frames m word frames ≡ array → array_named m frames word ≡ array
frame-named m frames zero array some none is = absurd (omega (arith, some))
frame-named m frames (suc n) array some none is = ap (static_or (named_in_frames m (suc n) frames)) none ∙ is

-- calls none of which has an array there
none-from : (m : Map) (word : ℕ) (name : ArrayName) (active : List Activation) (frames : List ℕ)
    → ((j : ℕ) (b : Activation) (e : ℕ) → slice_get active j ≡ Some b → slice_get frames j ≡ Some e
    → array_in 0 word e (arrays_of m (Some b.function)) ≡ None)
    → named_from m word name (frames_at active frames) ≡ name
none-from m word name [] frames none = refl
none-from m word name (b ∷ active) [] none = refl
none-from m word name (b ∷ active) (e ∷ frames) none =
    ap (λ (o : Option ℕ). named_from m word (in_frame (length (b ∷ active)) name o) (frames_at active frames))
    (none 0 b e refl refl)
    ∙ none-from m word name active frames (λ j c f one two. none (suc j) c f one two)

-- the call whose array it is, where no older one has an array there
named-at : (m : Map) (word k : ℕ) (name : ArrayName) (active : List Activation) (frames : List ℕ) (i : ℕ) (a : Activation)
    (frame : ℕ) → slice_get active i ≡ Some a → slice_get frames i ≡ Some frame
    → array_in 0 word frame (arrays_of m (Some a.function)) ≡ Some k
    → ((j : ℕ) (b : Activation) (e : ℕ) → i < j → slice_get active j ≡ Some b → slice_get frames j ≡ Some e
    → array_in 0 word e (arrays_of m (Some b.function)) ≡ None)
    → named_from m word name (frames_at active frames) ≡ InFrame k (length active - i)
named-at m word k name [] frames i a frame is_active at_frame here older = absurd (none-some a is_active)
named-at m word k name (b ∷ active) [] i a frame is_active at_frame here older = absurd (none-some frame at_frame)
named-at m word k name (b ∷ active) (e ∷ frames) zero a frame is_active at_frame here older =
    let mine : array_in 0 word e (arrays_of m (Some b.function)) ≡ Some k =
    ap (λ (c : Activation). array_in 0 word e (arrays_of m (Some c.function))) (same_Some b a is_active)
    ∙ ap (λ (f : ℕ). array_in 0 word f (arrays_of m (Some a.function))) (same_Some e frame at_frame) ∙ here in
    let same : length (b ∷ active) ≡ length (b ∷ active) - 0 = omega arith in
    ap (λ (o : Option ℕ). named_from m word (in_frame (length (b ∷ active)) name o) (frames_at active frames)) mine
    ∙ none-from m word (InFrame k (length (b ∷ active))) active frames
    (λ j c f one two. older (suc j) c f (omega arith) one two)
    ∙ ap (InFrame k) same
named-at m word k name (b ∷ active) (e ∷ frames) (suc i) a frame is_active at_frame here older =
    let rest = named-at m word k
    (in_frame (length (b ∷ active)) name (array_in 0 word e (arrays_of m (Some b.function)))) active frames i a frame
    is_active at_frame here (λ j c f lt one two. older (suc j) c f (omega (arith, lt)) one two) in
    let same : length active - i ≡ length (b ∷ active) - suc i = less (length active) i in
    rest ∙ ap (InFrame k) same
  where
    less : (n i : ℕ) → n - i ≡ suc n - suc i
    less n i = omega arith

-- array k of a call, by the rules of the relation
array-of : (code : Code) (g : graph.State) (frames : List ℕ) (k depth word : ℕ) → IsState code.program g
    → (h : IsFrameArrayAt code (active_of g) frames k depth word)
    → (width : ℕ) × IsArrayOf code g frames (length (active_of g) - depth) k word width h.elements
array-of code g frames k depth word state h =
    let (older, active) = activation-at code (active_of g) (length (active_of g) - depth) h.activation state.active
    h.of_depth in
    let (array, declared, fits) =
    zip-first AreElementsOf (flow_at code.program h.activation.function).arrays h.activation.arrays k h.elements
    active.arrays h.has in (
      array.0,
      record {
        activation = h.activation;
        frame = h.frame;
        is = record { is_active = h.of_depth; at_frame = h.at_frame };
        has = h.has;
        array = array;
        declared = declared;
        below = h.below;
        placed = h.placed;
        at_address = h.address;
        width_is = refl;
      },
    )

-- two arrays of one frame don't begin at one place
below-differs : (code : Code) (f j k other below : ℕ) → IsSupported code → f < length code.program.functions → j < k
    → slice_get (placement_of code f).arrays j ≡ Some other → slice_get (placement_of code f).arrays k ≡ Some below
    → other ≢ below
below-differs code f j k other below supported lt less at there =
    let arrays = (supported.supports f lt).arrays in
    let many = arrays.as_many in
    let one = element-at (flow_at code.program f).arrays j
    (omega (arith, slice_get_within (placement_of code f).arrays j other at, many)) in
    let two = element-at (flow_at code.program f).arrays k
    (omega (arith, slice_get_within (placement_of code f).arrays k below there, many)) in
    let different : j ≢ k = omega (arith, less) in
    apart (size_of one.0) (size_of two.0) (arrays.apart j k other below one.0 two.0 different one.1 at two.1 there)
  where
    apart : (m n : ℕ) → (other + 4 + n ≤ below) ⊎ (below + 4 + m ≤ other) → other ≢ below
    apart m n (inl h) = omega (arith, h)
    apart m n (inr h) = omega (arith, h)

frame-found : (program : Program) (code : Code) (m : Map) (input : List ℕ) (g : graph.State) (s : machine.State)
    (k depth word : ℕ) → Tells program code m → IsState code.program g → (shown : Shows code input g s)
    → IsFrameArrayAt code (active_of g) shown.frames k depth word
    → array_named m (frames_at (active_of g) shown.frames) word ≡ InFrame k depth
unfolding array-of
frame-found program code m input g s k depth word has state shown h =
    let supported = has.is_selected.supported in
    let a = h.activation in
    let f : ℕ = a.function in
    let c : ℕ = length (active_of g) - depth in
    let lt : f < length code.program.functions =
    (activation-at code (active_of g) c a state.active h.of_depth).1.function in
    let mine = array-of code g shown.frames k depth word state h in
    let above = array-above code input g s c k word mine.0 h.elements supported state shown mine.1 in
    let address = h.address in
    let zero-first : 0 + k ≡ k = omega arith in
    let here : array_in 0 word h.frame (arrays_of m (Some f)) ≡ Some k =
    ap (array_in 0 word h.frame) (map-arrays program code m f has lt)
    ∙ array-found 0 word h.frame (placement_of code f).arrays k h.below h.placed h.address
    (λ j other less at same. below-differs code f j k other h.below supported lt less at h.placed
    (equal word other h.below h.frame same address)) ∙ ap Some zero-first in
    let objects : List Object = image_objects code.program in
    let start : ℕ = data_start code.text in
    let no-object : place_of 0 word (objects_of m) ≡ None =
    ap (place_of 0 word) (map-objects program code m has)
    ∙ place-none 0 word (object_addresses (start + 4) objects)
    (λ j other at. lower other word (data_end code)
    (object-within start (length (data_bytes objects)) objects j other refl at).1 above) in
    let some : 0 < word = omega (arith, above) in
    let back : length (active_of g) - c ≡ depth = again (length (active_of g)) depth h.youngest in
    frame-named m (frames_at (active_of g) shown.frames) word (InFrame k depth) some no-object
    (named-at m word k Unknown (active_of g) shown.frames c a h.frame h.of_depth h.at_frame here
    (λ j b e less one two.
    let under = (activation-at code (active_of g) j b state.active one).1.function in
    let higher = calls-above code input g s c j a b h.frame e shown less
    (record { is_active = h.of_depth; at_frame = h.at_frame }) (record { is_active = one; at_frame = two }) in
    let arrays = (supported.supports b.function under).arrays in
    ap (array_in 0 word e) (map-arrays program code m b.function has under)
    ∙ array-none 0 word e (placement_of code b.function).arrays
    (λ i other at.
    let declared = element-at (flow_at code.program b.function).arrays i
    (omega (arith, slice_get_within (placement_of code b.function).arrays i other at, arrays.as_many)) in
    no-older e word other h.below h.frame (4 * length a.arguments) (frame_size code b) higher address
    (arrays.inside i other declared.0 declared.1 at).high))
    ∙ ap (InFrame k) back)
  where
    equal : (w o b f : ℕ) → w + o ≡ f → w + b ≡ f → o ≡ b
    equal w o b f h k = omega arith

    lower : (o w d : ℕ) → o ≤ d → d + 4 ≤ w → o ≢ w
    lower o w d h k = omega arith

    again : (n d : ℕ) → d ≤ n → n - (n - d) ≡ d
    again n d h = omega arith

    no-older : (e w o b f l z : ℕ) → f + 8 + l + z ≤ e → w + b ≡ f → o + 4 ≤ z → w + o ≢ e
    no-older e w o b f l z h i j = omega arith

pub arrays-told : (program : Program) (code : Code) (m : Map) (input : List ℕ) (g : graph.State) (s : machine.State)
    (array : ArrayName) (word : ℕ) → Tells program code m → IsState code.program g → (shown : Shows code input g s)
    → IsArrayAt code (active_of g) shown.frames array word
    → array_named m (frames_at (active_of g) shown.frames) word ≡ array
arrays-told program code m input g s Null word h state shown at =
    ap (array_named m (frames_at (active_of g) shown.frames)) at
arrays-told program code m input g s Unknown word h state shown at = absurd at
arrays-told program code m input g s (Static k) word h state shown at =
    static-found program code m (frames_at (active_of g) shown.frames) k word h at.1
arrays-told program code m input g s (InFrame k depth) word h state shown at =
    frame-found program code m input g s k depth word h state shown at

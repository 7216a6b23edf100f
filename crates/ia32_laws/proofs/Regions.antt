-- The elements of an array have no byte in common with what else is read.
use Rattle.std.proofs.Common.{◌≡◌, ◌≢◌, ◌⊎◌, ℕ, zero, suc, ◌+◌, ◌-◌, ◌*◌, ◌<◌, ◌≤◌, ℤ, List, length, Some, inl, inr}
use Rattle.std.proofs.Common.{refl, sym, ap, subst, ◌∙◌, arith}
use Rattle.std.specs.Prelude.{Option, slice_get}
use Rattle.std.proofs.lemmas.Option.{same_Some}
use Rattle.pcc_base.specs.Objects.{Object}
use Rattle.ia32_insn.specs.declared.register_names.Reg32.TheVariants.{Esp, Ebp}
use Rattle.ia32_insn.specs.Places.{Place, InSlot}
use Rattle.ia32_insn.specs.State as machine
use Rattle.ia32_insn.specs.Meaning.{word_of}
use Rattle.ia32_insn.specs.Items.{data_start}
use Rattle.ia32_insn.specs.Keeps.{AreDisjoint}
use Rattle.flow_graph.specs.States as graph
use Rattle.flow_graph.specs.States.{Activation, active_of, flow_at}
use Rattle.flow_graph.specs.WellFormed.{AreElementsIn, IsState}
use Rattle.flow_graph.proofs.Lists.{zip-at}
use Rattle.ia32_rows.specs.Placements.{Code, objects_of, placement_of}
use Rattle.ia32_rows.specs.Shows.{Shows, ShowsIn}
use Rattle.ia32_laws.specs.Supports.{AreArraysApart, IsPlaceFor, IsSlotApart, IsSupported, size_of}
use Rattle.ia32_laws.specs.Protected.{FrameArrayReads, ObjectReads}
use Rattle.ia32_laws.specs.KeepsLaws.{data_end}
use Rattle.ia32_laws.proofs.Objects.{objects-apart}
use Rattle.ia32_laws.proofs.Zones.{Bounds, IsCallAt, activation-at, bounds}
use Rattle.ia32_laws.proofs.Zones.{calls-above, frame_size, youngest-is}
use Rattle.ia32_laws.proofs.KeepsApart.{element-ends, frame-array, frame-room, image-object}
use Rattle.ia32_laws.proofs.KeepsApart.{above-current, object-at}

-- ---- orders

pub less-or-more : (m n : ℕ) → (m ≡ n) ⊎ (m < n) ⊎ (n < m)
less-or-more zero zero = inl refl
less-or-more zero (suc n) = inr (inl (omega arith))
less-or-more (suc m) zero = inr (inr (omega arith))
less-or-more (suc m) (suc n) = more (less-or-more m n)
  where
    more : (m ≡ n) ⊎ (m < n) ⊎ (n < m) → (suc m ≡ suc n) ⊎ (suc m < suc n) ⊎ (suc n < suc m)
    more (inl e) = inl (ap suc e)
    more (inr (inl h)) = inr (inl (omega arith))
    more (inr (inr h)) = inr (inr (omega arith))

-- ---- a frame array among calls

-- array k of the call at this place, with its frame
pub record IsArrayOf (code : Code) (g : graph.State) (frames : List ℕ) (call number address : ℕ)
    (width : ℕ) (elements : List ℤ) : Type 0 where
  pub activation : Activation
  pub frame : ℕ
  pub is : IsCallAt g frames call activation frame
  pub has : slice_get activation.arrays number ≡ Some elements
  pub array : ℕ × ℕ
  pub declared : slice_get (flow_at code.program activation.function).arrays number ≡ Some array
  pub below : ℕ
  pub placed : slice_get (placement_of code activation.function).arrays number ≡ Some below
  pub at_address : address + below ≡ frame
  pub width_is : array.0 ≡ width

-- it is read of the call: by its frame, or a slot
abbrev pub IsPart : Code → Activation → ℕ → ℕ → ℕ → Type 0
IsPart code a frame at n =
    ((frame ≤ at + 4) × (at + n ≤ frame + 8 + 4 * length a.arguments))
    ⊎ ((v : ℕ) × (slot : ℕ) × IsPlaceFor (flow_at code.program a.function) (placement_of code a.function) v
    (InSlot slot)
    × (at ≡ frame - slot) × (n ≤ 4))

-- what is known of so many bytes from the array's address on, which are among those of its elements
pub record IsRegion (frame size first bytes below z : ℕ) : Type 0 where
  pub at_frame : first + below ≡ frame
  pub inside : 16 + z ≤ below
  pub header : below + 4 ≤ size
  pub room : size ≤ frame
  pub all : bytes ≤ z

pub region-of : (code : Code) (input : List ℕ) (g : graph.State) (s : machine.State) (c k address width : ℕ)
    (elements : List ℤ) → IsSupported code → IsState code.program g → (shown : Shows code input g s)
    → (h : IsArrayOf code g shown.frames c k address width elements)
    → IsRegion h.frame (frame_size code h.activation) address (width * length elements) h.below (size_of h.array)
region-of code input g s c k address width elements supported state shown h =
    let room = frame-room code input g s c h.activation h.frame supported state shown h.is in
    let there = frame-array code g shown.frames c h.activation h.frame k h.below address h.array elements supported
    state
    h.is h.has h.declared h.placed room in
    record {
      at_frame = h.at_address;
      inside = there.inside.low;
      header = there.inside.high;
      room = room;
      all = subst (λ (n : ℕ). n * length elements ≤ size_of h.array) h.width_is there.size;
    }

-- as many bytes as the elements have, up to the end of their last word, are among them
pub words-region : (code : Code) (input : List ℕ) (g : graph.State) (s : machine.State) (c k address width : ℕ)
    (elements : List ℤ) (bytes : ℕ) → IsSupported code → IsState code.program g → (shown : Shows code input g s)
    → (h : IsArrayOf code g shown.frames c k address width elements) → bytes ≤ size_of h.array
    → IsRegion h.frame (frame_size code h.activation) address bytes h.below (size_of h.array)
words-region code input g s c k address width elements bytes supported state shown h few =
    let r = region-of code input g s c k address width elements supported state shown h in
    record { at_frame = r.at_frame; inside = r.inside; header = r.header; room = r.room; all = few }

-- the part of another call, or of the same
pub part-apart : (code : Code) (input : List ℕ) (g : graph.State) (s : machine.State) (c k address width : ℕ)
    (elements : List ℤ) (m j : ℕ) (a : Activation) (frame at n : ℕ) → IsSupported code → IsState code.program g
    → (shown : Shows code input g s) → (h : IsArrayOf code g shown.frames c k address width elements)
    → m ≤ size_of h.array → IsCallAt g shown.frames j a frame → IsPart code a frame at n → AreDisjoint address m at n
part-apart code input g s c k address width elements m j a frame at n supported state shown h few other part =
    ordered (less-or-more j c)
  where
    r : IsRegion h.frame (frame_size code h.activation) address m h.below (size_of h.array)
    r = words-region code input g s c k address width elements m supported state shown h few

    room : frame_size code a ≤ frame
    room = frame-room code input g s j a frame supported state shown other

    four : 16 ≤ frame_size code a
    four = (supported.supports a.function
        (activation-at code (active_of g) j a state.active other.is_active).1.function).four_words

    -- the part is in its call's zone
    zone : IsPart code a frame at n
        → (frame ≤ at + frame_size code a) × (at + n ≤ frame + 8 + 4 * length a.arguments)
    zone (inl p) = (more frame at (frame_size code a) p.0 four, p.1)
      where
        more : (f a z : ℕ) → f ≤ a + 4 → 16 ≤ z → f ≤ a + z
        more f a z h k = omega arith
    zone (inr (v, slot, place, is, long)) =
        counted frame at slot (frame_size code a) n (length a.arguments) place.inside.low place.inside.high room is long
      where
        counted : (f a k z n l : ℕ) → 20 ≤ k → k ≤ z → z ≤ f → a ≡ f - k → n ≤ 4 → (f ≤ a + z) × (a + n ≤ f + 8 + 4 * l)
        counted f a k z n l b c d e g = (omega arith, omega arith)

    older : c < j → AreDisjoint address m at n
    older lt = inl (counted h.frame address h.below m (size_of h.array) (length h.activation.arguments)
        (frame_size code a) frame at r.at_frame r.inside r.all
        (calls-above code input g s c j h.activation a h.frame frame shown lt h.is other) (zone part).0)
      where
        counted : (e x b m z l w f a : ℕ) → x + b ≡ e → 16 + z ≤ b → m ≤ z → e + 8 + 4 * l + w ≤ f → f ≤ a + w
            → x + m ≤ a
        counted e x b m z l w f a h i j k o = omega arith

    younger : j < c → AreDisjoint address m at n
    younger lt = inr (counted h.frame address h.below (frame_size code h.activation) (length a.arguments) frame at n
        r.at_frame r.header (calls-above code input g s j c a h.activation frame h.frame shown lt other h.is)
        (zone part).1)
      where
        counted : (e x b w l f a n : ℕ) → x + b ≡ e → b + 4 ≤ w → f + 8 + 4 * l + w ≤ e → a + n ≤ f + 8 + 4 * l
            → a + n ≤ x
        counted e x b w l f a n h i j k = omega arith

    same : j ≡ c → AreDisjoint address m at n
    same e = by (subst (λ (i : ℕ). slice_get (active_of g) i ≡ Some a) e other.is_active)
        (subst (λ (i : ℕ). slice_get shown.frames i ≡ Some frame) e other.at_frame)
      where
        by : slice_get (active_of g) c ≡ Some a → slice_get shown.frames c ≡ Some frame → AreDisjoint address m at n
        by one two =
            let call : h.activation ≡ a = same_Some h.activation a (sym h.is.is_active ∙ one) in
            let where_is : h.frame ≡ frame = same_Some h.frame frame (sym h.is.at_frame ∙ two) in
            within where_is (subst (λ (b : Activation).
            slice_get (flow_at code.program b.function).arrays k ≡ Some h.array) call h.declared)
            (subst (λ (b : Activation). slice_get (placement_of code b.function).arrays k ≡ Some h.below) call h.placed)
            part
          where
            within : h.frame ≡ frame → slice_get (flow_at code.program a.function).arrays k ≡ Some h.array
                → slice_get (placement_of code a.function).arrays k ≡ Some h.below → IsPart code a frame at n
                → AreDisjoint address m at n
            within e declared placed (inl p) =
                inl (counted h.frame frame address h.below m (size_of h.array) at e r.at_frame r.inside r.all p.0)
              where
                counted : (e f x b m z a : ℕ) → e ≡ f → x + b ≡ e → 16 + z ≤ b → m ≤ z → f ≤ a + 4 → x + m ≤ a
                counted e f x b m z a g h i j k = omega arith
            within e declared placed (inr (v, slot, place, is, long)) =
                beside (place.apart k h.below h.array declared placed)
              where
                front : (e f x b s z a n : ℕ) → e ≡ f → x + b ≡ e → b + 8 ≤ s → s ≤ z → z ≤ f → a ≡ f - s → n ≤ 4
                    → a + n ≤ x
                front e f x b s z a n g h i j k l o = omega arith

                back : (e f x b s m z a : ℕ) → e ≡ f → x + b ≡ e → s + z ≤ b → m ≤ z → a ≡ f - s → x + m ≤ a
                back e f x b s m z a g h i j k = omega arith

                beside : IsSlotApart slot h.array h.below → AreDisjoint address m at n
                beside (inl q) = inr (front h.frame frame address h.below slot (frame_size code a) at n e r.at_frame q
                    place.inside.high room is long)
                beside (inr q) = inl (back h.frame frame address h.below slot m (size_of h.array) at e r.at_frame q
                    r.all is)

    ordered : (j ≡ c) ⊎ (j < c) ⊎ (c < j) → AreDisjoint address m at n
    ordered (inl e) = same e
    ordered (inr (inl lt)) = younger lt
    ordered (inr (inr lt)) = older lt

-- another array of the same call, or one of another
pub other-array-apart : (code : Code) (input : List ℕ) (g : graph.State) (s : machine.State) (c k address width : ℕ)
    (elements : List ℤ) (m at n : ℕ) → IsSupported code → IsState code.program g → (shown : Shows code input g s)
    → (mine : IsArrayOf code g shown.frames c k address width elements) → m ≤ size_of mine.array
    → (h : FrameArrayReads code (active_of g) shown.frames at n) → ((h.call ≡ c) × (h.number ≡ k) → ⊥)
    → AreDisjoint address m at n
other-array-apart code input g s c k address width elements m at n supported state shown mine few h distinct =
    ordered (less-or-more h.call c)
  where
    r : IsRegion mine.frame (frame_size code mine.activation) address m mine.below (size_of mine.array)
    r = words-region code input g s c k address width elements m supported state shown mine few

    other : IsArrayOf code g shown.frames h.call h.number h.address h.array.0 h.elements
    other = record {
      activation = h.activation;
      frame = h.frame;
      is = record { is_active = h.is_active; at_frame = h.at_frame };
      has = h.has;
      array = h.array;
      declared = h.declared;
      below = h.below;
      placed = h.placed;
      at_address = h.at_address;
      width_is = refl;
    }

    q : IsRegion h.frame (frame_size code h.activation) h.address (h.array.0 * length h.elements) h.below
        (size_of h.array)
    q = region-of code input g s h.call h.number h.address h.array.0 h.elements supported state shown other

    ends : (h.address ≤ at + 4) × (at + n ≤ h.address + h.array.0 * length h.elements)
    ends = element-ends h.address h.array.0 (length h.elements) at n
        (front h.address h.below h.frame (frame_size code h.activation) q.at_frame q.header q.room) h.reads
      where
        front : (x b f w : ℕ) → x + b ≡ f → b + 4 ≤ w → w ≤ f → 4 ≤ x
        front x b f w e i j = omega arith

    older : c < h.call → AreDisjoint address m at n
    older lt = inl (counted mine.frame address mine.below m (size_of mine.array) (length mine.activation.arguments)
        (frame_size code h.activation) h.frame h.address h.below at r.at_frame r.inside r.all
        (calls-above code input g s c h.call mine.activation h.activation mine.frame h.frame shown lt mine.is other.is)
        q.at_frame q.header ends.0)
      where
        counted : (e x b m z l w f y d a : ℕ) → x + b ≡ e → 16 + z ≤ b → m ≤ z → e + 8 + 4 * l + w ≤ f → y + d ≡ f
            → d + 4 ≤ w → y ≤ a + 4 → x + m ≤ a
        counted e x b m z l w f y d a h i j k o p v = omega arith

    younger : h.call < c → AreDisjoint address m at n
    younger lt = inr (counted mine.frame address mine.below (frame_size code mine.activation)
        (length h.activation.arguments) h.frame h.address h.below (h.array.0 * length h.elements) (size_of h.array) at n
        r.at_frame r.header
        (calls-above code input g s h.call c h.activation mine.activation h.frame mine.frame shown lt other.is mine.is)
        q.at_frame q.inside q.all ends.1)
      where
        counted : (e x b w l f y d m z a n : ℕ) → x + b ≡ e → b + 4 ≤ w → f + 8 + 4 * l + w ≤ e → y + d ≡ f
            → 16 + z ≤ d → m ≤ z → a + n ≤ y + m → a + n ≤ x
        counted e x b w l f y d m z a n h i j k o p v = omega arith

    same : h.call ≡ c → AreDisjoint address m at n
    same e = by (subst (λ (i : ℕ). slice_get (active_of g) i ≡ Some h.activation) e h.is_active)
        (subst (λ (i : ℕ). slice_get shown.frames i ≡ Some h.frame) e h.at_frame)
      where
        by : slice_get (active_of g) c ≡ Some h.activation → slice_get shown.frames c ≡ Some h.frame
            → AreDisjoint address m at n
        by one two =
            let call : mine.activation ≡ h.activation =
            same_Some mine.activation h.activation (sym mine.is.is_active ∙ one) in
            let where_is : mine.frame ≡ h.frame = same_Some mine.frame h.frame (sym mine.is.at_frame ∙ two) in
            let active = (activation-at code (active_of g) h.call h.activation state.active h.is_active).1 in
            let arrays = (supported.supports h.activation.function active.function).arrays in
            within where_is (arrays.apart k h.number mine.below h.below mine.array h.array (λ f. distinct (e, sym f))
            (subst (λ (b : Activation). slice_get (flow_at code.program b.function).arrays k ≡ Some mine.array) call
            mine.declared)
            (subst (λ (b : Activation). slice_get (placement_of code b.function).arrays k ≡ Some mine.below) call
            mine.placed) h.declared h.placed)
          where
            front : (e f x b y d m z a n : ℕ) → e ≡ f → x + b ≡ e → y + d ≡ f → m ≤ z → b + 4 + z ≤ d → a + n ≤ y + m
                → a + n ≤ x
            front e f x b y d m z a n g h i j k l = omega arith

            back : (e f x b m z y d a : ℕ) → e ≡ f → x + b ≡ e → y + d ≡ f → m ≤ z → d + 4 + z ≤ b → y ≤ a + 4
                → x + m ≤ a
            back e f x b m z y d a g h i j k l = omega arith

            within : mine.frame ≡ h.frame → AreArraysApart mine.array mine.below h.array h.below
                → AreDisjoint address m at n
            within e (inl p) = inr (front mine.frame h.frame address mine.below h.address h.below
                (h.array.0 * length h.elements) (size_of h.array) at n e r.at_frame q.at_frame q.all p ends.1)
            within e (inr p) = inl (back mine.frame h.frame address mine.below m (size_of mine.array) h.address h.below
                at e r.at_frame q.at_frame r.all p ends.0)

    ordered : (h.call ≡ c) ⊎ (h.call < c) ⊎ (c < h.call) → AreDisjoint address m at n
    ordered (inl e) = same e
    ordered (inr (inl lt)) = younger lt
    ordered (inr (inr lt)) = older lt

-- ---- above ESP

-- each call's bytes are above ESP
pub call-above : {places : ℕ → Option Place} {eip : ℕ}
    (code : Code) (input : List ℕ) (g : graph.State) (s : machine.State) (j : ℕ) (a : Activation)
    (frame : ℕ)
    → (shown : ShowsIn code input places eip g s) → IsCallAt g shown.frames j a frame
    → word_of Esp s + frame_size code a ≤ frame
call-above code input g s zero a frame shown at =
    let (same, ebp) = youngest-is code input g s a frame shown at in
    subst (λ (f : ℕ). word_of Esp s + frame_size code a ≤ f) ebp
    (subst (λ (b : Activation). word_of Esp s + frame_size code b ≤ word_of Ebp s) same
    (equal (word_of Esp s) (frame_size code g.current) (word_of Ebp s) shown.esp))
  where
    equal : (x m e : ℕ) → x + m ≡ e → x + m ≤ e
    equal x m e h = omega arith
call-above code input g s (suc j) a frame shown at =
    counted (word_of Esp s) (frame_size code g.current) (word_of Ebp s) (frame_size code a) frame shown.esp
    (above-current code input g s (suc j) a frame shown (omega arith) at)
  where
    counted : (x m e w f : ℕ) → x + m ≡ e → e + 8 + w ≤ f → x + w ≤ f
    counted x m e w f h k = omega arith

-- an array of a call is above the data
pub array-above : (code : Code) (input : List ℕ) (g : graph.State) (s : machine.State) (c k address width : ℕ)
    (elements : List ℤ) → IsSupported code → IsState code.program g → (shown : Shows code input g s)
    → IsArrayOf code g shown.frames c k address width elements → data_end code + 4 ≤ address
array-above code input g s c k address width elements supported state shown h =
    let b = bounds code input g s supported state shown in
    let r = region-of code input g s c k address width elements supported state shown h in
    counted (data_end code) (word_of Esp s) (frame_size code h.activation) h.frame address h.below b.room
    (call-above code input g s c h.activation h.frame shown h.is) r.at_frame r.header
  where
    counted : (d x w f y b : ℕ) → d + 0x1000 ≤ x → x + w ≤ f → y + b ≡ f → b + 4 ≤ w → d + 4 ≤ y
    counted d x w f y b h i j k = omega arith

-- a part of a call is
pub part-above : (code : Code) (input : List ℕ) (g : graph.State) (s : machine.State) (j : ℕ) (a : Activation)
    (frame at n : ℕ) → IsSupported code → IsState code.program g → (shown : Shows code input g s)
    → IsCallAt g shown.frames j a frame → IsPart code a frame at n → data_end code ≤ at
part-above code input g s j a frame at n supported state shown other part = by part
  where
    b : Bounds code g s
    b = bounds code input g s supported state shown

    above : word_of Esp s + frame_size code a ≤ frame
    above = call-above code input g s j a frame shown other

    by : IsPart code a frame at n → data_end code ≤ at
    by (inl p) = counted (data_end code) (word_of Esp s) (frame_size code a) frame at b.room above p.0
      where
        counted : (d x w f a : ℕ) → d + 0x1000 ≤ x → x + w ≤ f → f ≤ a + 4 → d ≤ a
        counted d x w f a h i j = omega arith
    by (inr (v, slot, place, is, long)) =
        counted (data_end code) (word_of Esp s) (frame_size code a) frame slot at b.room above place.inside.high is
      where
        counted : (d x w f k a : ℕ) → d + 0x1000 ≤ x → x + w ≤ f → k ≤ w → a ≡ f - k → d ≤ a
        counted d x w f k a h i j l = omega arith

-- ---- the elements of a static object or a frame array

-- which array it is, and where it stands
pub record IsStatic (code : Code) (g : graph.State) (k address width : ℕ) (elements : List ℤ) : Type 0 where
  pub has : slice_get g.objects k ≡ Some elements
  pub object : graph.Object
  pub declared : slice_get code.program.objects k ≡ Some object
  pub placed : slice_get code.symbols.objects k ≡ Some address
  pub width_is : object.width ≡ width

pub static-ends : (code : Code) (g : graph.State) (k address width : ℕ) (elements : List ℤ) → IsSupported code
    → IsState code.program g → IsStatic code g k address width elements
    → (data_start code.text + 8 ≤ address) × (address + width * length elements ≤ data_end code)
static-ends code g k address width elements supported state h =
    let there = object-at code g k address elements h.object supported state h.has h.declared h.placed in
    (there.low, subst (λ (w : ℕ). address + w * length elements ≤ data_end code) h.width_is there.high)

-- another static object is apart from one
pub other-object-apart : (code : Code) (g : graph.State) (k address width : ℕ) (elements : List ℤ) (at n : ℕ)
    → IsSupported code → IsState code.program g → IsStatic code g k address width elements
    → (h : ObjectReads code g.objects at n) → h.number ≢ k → AreDisjoint address (width * length elements) at n
other-object-apart code g k address width elements at n supported state mine h distinct =
    by (objects-apart (data_start code.text) (objects_of code.program) k h.number address h.address
    (record { width = mine.object.width; elements = mine.object.elements })
    (record { width = h.object.width; elements = h.object.elements }) (λ e. distinct (sym e))
    (image-object code k mine.object mine.declared)
    (subst (λ (l : List ℕ). slice_get l k ≡ Some address) supported.is_code.text.objects_are mine.placed)
    (image-object code h.number h.object h.declared)
    (subst (λ (l : List ℕ). slice_get l h.number ≡ Some h.address) supported.is_code.text.objects_are h.placed))
  where
    many : length elements ≡ length mine.object.elements
    many = (zip-at AreElementsIn code.program.objects g.objects k mine.object elements state.objects mine.declared
        mine.has).many

    size : width * length elements ≡ mine.object.width * length mine.object.elements
    size = ap (λ (w : ℕ). w * length elements) (sym mine.width_is)
        ∙ ap (λ (l : ℕ). mine.object.width * l) many

    others : length h.elements ≡ length h.object.elements
    others = (zip-at AreElementsIn code.program.objects g.objects h.number h.object h.elements state.objects h.declared
        h.has).many

    its_size : h.object.width * length h.elements ≡ h.object.width * length h.object.elements
    its_size = ap (λ (l : ℕ). h.object.width * l) others

    low : data_start code.text + 8 ≤ h.address
    low = (object-at code g h.number h.address h.elements h.object supported state h.has h.declared h.placed).low

    ends : (h.address ≤ at + 4) × (at + n ≤ h.address + h.object.width * length h.elements)
    ends = element-ends h.address h.object.width (length h.elements) at n (front (data_start code.text) h.address low)
        h.reads
      where
        front : (s x : ℕ) → s + 8 ≤ x → 4 ≤ x
        front s x h = omega arith

    before : (x m z y a : ℕ) → m ≡ z → x + z + 4 ≤ y → y ≤ a + 4 → x + m ≤ a
    before x m z y a e h i = omega arith

    behind : (x y m z a n : ℕ) → m ≡ z → y + z + 4 ≤ x → a + n ≤ y + m → a + n ≤ x
    behind x y m z a n e h i = omega arith

    by : (address + mine.object.width * length mine.object.elements + 4 ≤ h.address)
        ⊎ (h.address + h.object.width * length h.object.elements + 4 ≤ address)
        → AreDisjoint address (width * length elements) at n
    by (inl p) = inl (before address (width * length elements) (mine.object.width * length mine.object.elements)
        h.address at size p ends.0)
    by (inr p) = inr (behind address h.address (h.object.width * length h.elements)
        (h.object.width * length h.object.elements) at n its_size p ends.1)

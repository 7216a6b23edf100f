-- What is protected has no byte in common with the places of the current call's variables, nor with the stack below.
use Rattle.std.proofs.Common.{◌≡◌, ◌⊎◌, ℕ, zero, suc, ◌+◌, ◌-◌, ◌*◌, ◌/◌, ◌<◌, ◌≤◌, ℤ, List, length, Some, inl}
use Rattle.std.proofs.Common.{Option, inr, refl, sym, ap, subst, ◌∙◌, arith}
use Rattle.std.specs.Prelude.{slice_get, option_map}
use Rattle.std.proofs.Math.Nat.{mul-suc}
use Rattle.std.proofs.lemmas.Nat.{mul-le}
use Rattle.std.proofs.lemmas.Option.{slice_get-map}
use Rattle.pcc_base.specs.Objects.{Object}
use Rattle.ia32_insn.specs.declared.register_names.Reg32.TheVariants.{Esp, Ebp}
use Rattle.ia32_insn.specs.Places.{Place, InWord, InByte, InSlot}
use Rattle.ia32_insn.specs.State as machine
use Rattle.ia32_insn.specs.Meaning.{word_of}
use Rattle.ia32_insn.specs.Keeps.{AreDisjoint}
use Rattle.ia32_insn.specs.Items.{data_bytes, data_start}
use Rattle.flow_graph.specs.States as graph
use Rattle.flow_graph.specs.States.{Activation, active_of, flow_at}
use Rattle.flow_graph.specs.WellFormed.{AreElementsIn, AreElementsOf, IsState}
use Rattle.flow_graph.proofs.Lists.{zip-at}
use Rattle.ia32_rows.specs.Placements.{Code, objects_of, placement_of}
use Rattle.ia32_rows.specs.Shows.{ShowsIn}
use Rattle.ia32_rows.specs.Contains.{ApartFromPlace}
use Rattle.ia32_laws.specs.Supports.{IsArrayIn, IsPlaceFor, IsSlotApart, IsSupported, size_of}
use Rattle.ia32_laws.specs.Protected.{ElementReads, FrameArrayReads, IsProtected, ObjectReads}
use Rattle.ia32_laws.specs.KeepsLaws.{IsApart, ProtectedIsApart, PushedIsApart, data_end}
use Rattle.ia32_laws.proofs.Objects.{depth-in, object-in}
use Rattle.ia32_laws.proofs.Zones.{Bounds, IsCallAt, IsReadOf, IsSlotOf, activation-at, argument-read-of, bounds}
use Rattle.ia32_laws.proofs.Zones.{calls-above}
use Rattle.ia32_laws.proofs.Zones.{chain-read-of, frame_size, youngest-is}

-- ---- arrays

-- what is read of an array is among its bytes, from its number of elements on
pub element-within : (address width count a n : ℕ) → ElementReads address width count a n
    → (address ≤ a + 4) × (a + n ≤ address + 4 + width * count)
element-within address width count a n (inl h) = (omega (arith, h.0), counted address a n (width * count) h.0 h.1)
  where
    counted : (x a n m : ℕ) → a ≡ x - 4 → n ≡ 4 → a + n ≤ x + 4 + m
    counted x a n m e f = omega arith
element-within address width count a n (inr (i, below, at, long)) =
    counted address a n (width * i) (width * count) width at long (more width i count below)
  where
    more : (w i c : ℕ) → i < c → w * i + w ≤ w * c
    more w i c lt = omega (arith, mul-suc w i, mul-le w (suc i) w c (omega arith) lt)

    counted : (x a n m k w : ℕ) → a ≡ x + m → n ≡ w → m + w ≤ k → (x ≤ a + 4) × (a + n ≤ x + 4 + k)
    counted x a n m k w e f g = (omega arith, omega arith)

-- and where four bytes are in front of it, behind no more than its last element
pub element-ends : (address width count a n : ℕ) → 4 ≤ address → ElementReads address width count a n
    → (address ≤ a + 4) × (a + n ≤ address + width * count)
element-ends address width count a n room (inl h) = (
  omega (arith, h.0),
  counted address a n
      (width * count) room h.0 h.1,
)
  where
    counted : (x a n m : ℕ) → 4 ≤ x → a ≡ x - 4 → n ≡ 4 → a + n ≤ x + m
    counted x a n m r e f = omega arith
element-ends address width count a n room (inr (i, below, at, long)) =
    counted address a n (width * i) (width * count) width at long (more width i count below)
  where
    more : (w i c : ℕ) → i < c → w * i + w ≤ w * c
    more w i c lt = omega (arith, mul-suc w i, mul-le w (suc i) w c (omega arith) lt)

    counted : (x a n m k w : ℕ) → a ≡ x + m → n ≡ w → m + w ≤ k → (x ≤ a + 4) × (a + n ≤ x + k)
    counted x a n m k w e f g = (omega arith, omega arith)

-- ---- static data

-- the objects of the image, by those of the program
pub image-object : (code : Code) (k : ℕ) (o : graph.Object) → slice_get code.program.objects k ≡ Some o
    → slice_get (objects_of code.program) k ≡ Some (record { width = o.width; elements = o.elements })
image-object code k o e =
    slice_get-map (λ (object : graph.Object). record { width = object.width; elements = object.elements })
    code.program.objects k
    ∙ ap (λ (x : _). option_map (λ (object : graph.Object).
    let p : Object = record { width = object.width; elements = object.elements } in p) x) e

-- where a static object stands
pub record IsObjectAt (code : Code) (g : graph.State) (elements : List ℤ) (address width : ℕ) : Type 0 where
  pub low : data_start code.text + 8 ≤ address
  pub high : address + width * length elements ≤ data_end code

pub object-at : (code : Code) (g : graph.State) (k address : ℕ) (elements : List ℤ) (o : graph.Object)
    → IsSupported code → IsState code.program g → slice_get g.objects k ≡ Some elements
    → slice_get code.program.objects k ≡ Some o → slice_get code.symbols.objects k ≡ Some address
    → IsObjectAt code g elements address o.width
object-at code g k address elements o supported state has declared placed =
    let many : length elements ≡ length o.elements =
    (zip-at AreElementsIn code.program.objects g.objects k o elements state.objects declared has).many in
    let at = subst (λ (l : List ℕ). slice_get l k ≡ Some address) supported.is_code.text.objects_are placed in
    let there = object-in (data_start code.text) (objects_of code.program) k address
    (record { width = o.width; elements = o.elements }) (image-object code k o declared) at in
    record {
      low = there.0;
      high = subst (λ (n : ℕ). address + o.width * n ≤ data_end code) (sym many) there.1;
    }

-- what is read of static data is in the data
pub object-read : (code : Code) (g : graph.State) (a n : ℕ) → IsSupported code → IsState code.program g
    → ObjectReads code g.objects a n → (data_start code.text + 4 ≤ a) × (a + n ≤ data_end code)
object-read code g a n supported state h =
    let at = object-at code g h.number h.address h.elements h.object supported state h.has h.declared h.placed in
    let within = element-ends h.address h.object.width (length h.elements) a n
    (room (data_start code.text) h.address at.low) h.reads in
    counted (data_start code.text) h.address a n (h.object.width * length h.elements) (data_end code) at.low at.high
    within.0 within.1
  where
    room : (s x : ℕ) → s + 8 ≤ x → 4 ≤ x
    room s x h = omega arith

    counted : (s x a n m d : ℕ) → s + 8 ≤ x → x + m ≤ d → x ≤ a + 4 → a + n ≤ x + m → (s + 4 ≤ a) × (a + n ≤ d)
    counted s x a n m d e f g k = (omega arith, omega arith)

-- ---- frame arrays

-- so many bytes are among their words
whole-words : (n : ℕ) → n ≤ (n + 3) / 4 * 4
whole-words n = omega arith

-- where an array of an active call stands
pub record IsFrameArray (code : Code) (a : Activation) (frame k below address : ℕ) (array : ℕ × ℕ)
    (elements : List ℤ) : Type 0 where
  pub inside : IsArrayIn (frame_size code a) array below
  pub size : array.0 * length elements ≤ size_of array
  pub room : frame_size code a ≤ frame

pub frame-array : (code : Code) (g : graph.State) (frames : List ℕ) (i : ℕ) (a : Activation)
    (frame k below address : ℕ) (array : ℕ × ℕ) (elements : List ℤ) → IsSupported code → IsState code.program g
    → IsCallAt g frames i a frame → slice_get a.arrays k ≡ Some elements
    → slice_get (flow_at code.program a.function).arrays k ≡ Some array
    → slice_get (placement_of code a.function).arrays k ≡ Some below → frame_size code a ≤ frame
    → IsFrameArray code a frame k below address array elements
frame-array code g frames i a frame k below address array elements supported state at has declared placed room =
    let (older, active) = activation-at code (active_of g) i a state.active at.is_active in
    let many : length elements ≡ array.1 =
    (zip-at AreElementsOf (flow_at code.program a.function).arrays a.arrays k array elements active.arrays declared
    has).many in
    record {
      inside = (supported.supports a.function active.function).arrays.inside k below array declared placed;
      size = subst (λ (n : ℕ). array.0 * n ≤ size_of array) (sym many) (whole-words (array.0 * array.1));
      room = room;
    }

-- a call's frame is above its bytes
pub frame-room : {places : ℕ → Option Place} {eip : ℕ}
    (code : Code) (input : List ℕ) (g : graph.State) (s : machine.State) (i : ℕ) (a : Activation)
    (frame : ℕ) → IsSupported code → IsState code.program g → (shown : ShowsIn code input places eip g s)
    → IsCallAt g shown.frames i a frame → frame_size code a ≤ frame
frame-room code input g s zero a frame supported state shown at =
    let (same, ebp) = youngest-is code input g s a frame shown at in
    let esp = shown.esp in
    subst (λ (f : ℕ). frame_size code a ≤ f) ebp
    (subst (λ (b : Activation). frame_size code b ≤ word_of Ebp s) same
    (below (word_of Esp s) (frame_size code g.current) (word_of Ebp s) esp))
  where
    below : (x m e : ℕ) → x + m ≡ e → m ≤ e
    below x m e h = omega arith
frame-room code input g s (suc i) a frame supported state shown at =
    let first : IsCallAt g shown.frames 0 g.current (word_of Ebp s) =
    record { is_active = refl; at_frame = ap (λ (fs : List ℕ). slice_get fs 0) shown.youngest } in
    let above = calls-above code input g s 0 (suc i) g.current a (word_of Ebp s) frame shown (omega arith) first at in
    below (word_of Ebp s) (4 * length g.current.arguments) (frame_size code a) frame above
  where
    below : (e n m f : ℕ) → e + 8 + n + m ≤ f → m ≤ f
    below e n m f h = omega arith

-- ---- the current call's places

-- it is in the data; or at the frame of the current call or above; or of an array of that call
pub record IsOwnArray (code : Code) (g : graph.State) (base a n : ℕ) : Type 0 where
  pub number : ℕ
  pub below : ℕ
  pub array : ℕ × ℕ
  pub declared : slice_get (flow_at code.program g.current.function).arrays number ≡ Some array
  pub placed : slice_get (placement_of code g.current.function).arrays number ≡ Some below
  pub inside : IsArrayIn (frame_size code g.current) array below
  pub low : base ≤ a + below + 4
  pub high : a + n + below ≤ base + size_of array

abbrev pub IsSomewhere : Code → graph.State → ℕ → ℕ → ℕ → Type 0
IsSomewhere code g base a n = (a + n ≤ data_end code) ⊎ (base ≤ a + 4) ⊎ IsOwnArray code g base a n

-- the current call's zone ends below those of others
pub above-current : {places : ℕ → Option Place} {eip : ℕ}
    (code : Code) (input : List ℕ) (g : graph.State) (s : machine.State) (i : ℕ) (a : Activation)
    (frame : ℕ) → (shown : ShowsIn code input places eip g s) → 0 < i → IsCallAt g shown.frames i a frame
    → word_of Ebp s + 8 + frame_size code a ≤ frame
above-current code input g s i a frame shown some at =
    let first : IsCallAt g shown.frames 0 g.current (word_of Ebp s) =
    record { is_active = refl; at_frame = ap (λ (fs : List ℕ). slice_get fs 0) shown.youngest } in
    less (word_of Ebp s) (4 * length g.current.arguments) (frame_size code a) frame
    (calls-above code input g s 0 i g.current a (word_of Ebp s) frame shown some first at)
  where
    less : (e n m f : ℕ) → e + 8 + n + m ≤ f → e + 8 + m ≤ f
    less e n m f h = omega arith

-- what is read of calls is at the current frame or above
call-read-above : {places : ℕ → Option Place} {eip : ℕ}
    (code : Code) (input : List ℕ) (g : graph.State) (s : machine.State) (a n : ℕ)
    → (shown : ShowsIn code input places eip g s) → IsReadOf code g shown.frames a n → word_of Ebp s ≤ a + 4
call-read-above code input g s a n shown h = by h.call h.is h.part
  where
    by : (i : ℕ) → IsCallAt g shown.frames i h.activation h.frame
        → ((h.frame ≤ a + 4) × (a + n ≤ h.frame + 8 + 4 * length h.activation.arguments))
        ⊎ IsSlotOf code i h.activation h.frame a n → word_of Ebp s ≤ a + 4
    by zero at (inl p) =
        let (same, ebp) = youngest-is code input g s h.activation h.frame shown at in
        subst (λ (e : ℕ). e ≤ a + 4) (sym ebp) p.0
    by (suc i) at (inl p) =
        let above = above-current code input g s (suc i) h.activation h.frame shown (omega arith) at in
        less (word_of Ebp s) (frame_size code h.activation) h.frame a above p.0
      where
        less : (e m f a : ℕ) → e + 8 + m ≤ f → f ≤ a + 4 → e ≤ a + 4
        less e m f a h k = omega arith
    by i at (inr p) =
        let above = above-current code input g s i h.activation h.frame shown p.waits at in
        let inside = p.place.inside.high in
        less (word_of Ebp s) (frame_size code h.activation) h.frame p.slot a above inside p.at_address
      where
        less : (e m f k a : ℕ) → e + 8 + m ≤ f → k ≤ m → a ≡ f - k → e ≤ a + 4
        less e m f k a h b c = omega arith

-- what is read of arrays of calls is one of the current call, or above it
array-read-somewhere : {places : ℕ → Option Place} {eip : ℕ}
    (code : Code) (input : List ℕ) (g : graph.State) (s : machine.State) (a n : ℕ) → IsSupported code
    → IsState code.program g → (shown : ShowsIn code input places eip g s)
    → FrameArrayReads code (active_of g) shown.frames a n
    → IsSomewhere code g (word_of Ebp s) a n
array-read-somewhere code input g s a n supported state shown h =
    by h.call (record { is_active = h.is_active; at_frame = h.at_frame })
  where
    by : (i : ℕ) → IsCallAt g shown.frames i h.activation h.frame → IsSomewhere code g (word_of Ebp s) a n
    by i at =
        let room = frame-room code input g s i h.activation h.frame supported state shown at in
        let there = frame-array code g shown.frames i h.activation h.frame h.number h.below h.address h.array h.elements
        supported state at h.has h.declared h.placed room in
        let ends = element-ends h.address h.array.0 (length h.elements) a n
        (front h.address h.below h.frame (frame_size code h.activation) h.at_address there.inside.high room) h.reads in
        let spans = spanned h.address h.below h.frame a n (h.array.0 * length h.elements) (size_of h.array) there.size
        h.at_address ends.0 ends.1 in
        at-place i at there spans
      where
        front : (x b f m : ℕ) → x + b ≡ f → b + 4 ≤ m → m ≤ f → 4 ≤ x
        front x b f m e h k = omega arith

        spanned : (x b f a n m k : ℕ) → m ≤ k → x + b ≡ f → x ≤ a + 4 → a + n ≤ x + m
            → (f ≤ a + b + 4) × (a + n + b ≤ f + k)
        spanned x b f a n m k e h l o = (omega arith, omega arith)

        at-place : (i : ℕ) → IsCallAt g shown.frames i h.activation h.frame
            → IsFrameArray code h.activation h.frame h.number h.below h.address h.array h.elements
            → (h.frame ≤ a + h.below + 4) × (a + n + h.below ≤ h.frame + size_of h.array)
            → IsSomewhere code g (word_of Ebp s) a n
        at-place zero at there spans =
            let (same, ebp) = youngest-is code input g s h.activation h.frame shown at in
            inr (inr (record {
              number = h.number;
              below = h.below;
              array = h.array;
              declared = subst (λ (b : Activation).
                  slice_get (flow_at code.program b.function).arrays h.number ≡ Some h.array) (sym same) h.declared;
              placed = subst (λ (b : Activation).
                  slice_get (placement_of code b.function).arrays h.number ≡ Some h.below) (sym same) h.placed;
              inside = subst (λ (b : Activation). IsArrayIn (frame_size code b) h.array h.below)
                  (sym same) there.inside;
              low = subst (λ (e : ℕ). e ≤ a + h.below + 4) (sym ebp) spans.0;
              high = subst (λ (e : ℕ). a + n + h.below ≤ e + size_of h.array) (sym ebp) spans.1;
            }))
        at-place (suc i) at there spans =
            let above = above-current code input g s (suc i) h.activation h.frame shown (omega arith) at in
            inr (inl (less (word_of Ebp s) (frame_size code h.activation) h.frame h.below a above there.inside.high
            spans.0))
          where
            less : (e m f b a : ℕ) → e + 8 + m ≤ f → b + 4 ≤ m → f ≤ a + b + 4 → e ≤ a + 4
            less e m f b a h k l = omega arith

-- so is all that is protected
pub protected-somewhere : {places : ℕ → Option Place} {eip : ℕ}
    (code : Code) (input : List ℕ) (g : graph.State) (s : machine.State) (a n : ℕ)
    → IsSupported code → IsState code.program g → (shown : ShowsIn code input places eip g s)
    → IsProtected code g shown.frames a n → IsSomewhere code g (word_of Ebp s) a n
protected-somewhere code input g s a n supported state shown (inl (inl h)) =
    inl (counted (data_start code.text) code.symbols.depth a n (length (data_bytes (objects_of code.program)))
    supported.is_code.text.depth_is h.0 h.1 (depth-in (objects_of code.program)))
  where
    counted : (s d a n m : ℕ) → d ≡ s → a ≡ d → n ≡ 4 → 4 ≤ m → a + n ≤ s + m
    counted s d a n m e f g h = omega arith
protected-somewhere code input g s a n supported state shown (inl (inr (inl h))) =
    inr (inl (call-read-above code input g s a n shown (chain-read-of code input g s a n supported state shown h)))
protected-somewhere code input g s a n supported state shown (inl (inr (inr h))) =
    inr (inl (call-read-above code input g s a n shown (argument-read-of code g shown.frames a n h)))
protected-somewhere code input g s a n supported state shown (inr (inl h)) =
    inl (object-read code g a n supported state h).1
protected-somewhere code input g s a n supported state shown (inr (inr h)) =
    array-read-somewhere code input g s a n supported state shown h

-- ---- the law

-- wherever variables stand
pub is-apart : {places : ℕ → Option Place} {eip : ℕ} (code : Code) (input : List ℕ) (g : graph.State)
    (s : machine.State) (a n : ℕ) → IsSupported code → IsState code.program g
    → (shown : ShowsIn code input places eip g s) → IsProtected code g shown.frames a n → IsApart code g s a n
is-apart code input g s a n supported state shown reads =
    let somewhere = protected-somewhere code input g s a n supported state shown reads in
    let b = bounds code input g s supported state shown in
    let four = (supported.supports g.current.function state.active.0.function).four_words in
    record {
      above = stacked b four somewhere;
      places = λ v place for. placed b four place for somewhere;
      scratch = beside b four somewhere;
    }
  where
    E : ℕ
    E = word_of Ebp s

    frame : ℕ
    frame = frame_size code g.current

    stacked : Bounds code g s → 16 ≤ frame → IsSomewhere code g E a n
        → (word_of Esp s ≤ a) ⊎ (a + n ≤ data_end code)
    stacked b four (inl h) = inr h
    stacked b four (inr (inl h)) = inl (less (word_of Esp s) frame E a b.esp four h)
      where
        less : (x m e a : ℕ) → x + m ≡ e → 16 ≤ m → e ≤ a + 4 → x ≤ a
        less x m e a h k l = omega arith
    stacked b four (inr (inr h)) = inl (less (word_of Esp s) frame E h.below a b.esp h.inside.high h.low)
      where
        less : (x m e k a : ℕ) → x + m ≡ e → k + 4 ≤ m → e ≤ a + k + 4 → x ≤ a
        less x m e k a h f l = omega arith

    -- the word of scratch
    beside : Bounds code g s → 16 ≤ frame → IsSomewhere code g E a n → AreDisjoint (E - 16) 4 a n
    beside b four (inl h) = inr (less (data_end code) (word_of Esp s) frame E a n b.room b.esp four h)
      where
        less : (d x m e a n : ℕ) → d + 0x1000 ≤ x → x + m ≡ e → 16 ≤ m → a + n ≤ d → a + n ≤ e - 16
        less d x m e a n r h f l = omega arith
    beside b four (inr (inl h)) = inl (less (word_of Esp s) frame E a b.esp four h)
      where
        less : (x m e a : ℕ) → x + m ≡ e → 16 ≤ m → e ≤ a + 4 → e - 16 + 4 ≤ a
        less x m e a h f l = omega arith
    beside b four (inr (inr h)) =
        inr (less (word_of Esp s) frame E h.below (size_of h.array) a n b.esp four h.inside.low h.inside.high h.high)
      where
        less : (x m e k z a n : ℕ) → x + m ≡ e → 16 ≤ m → 16 + z ≤ k → k + 4 ≤ m → a + n + k ≤ e + z → a + n ≤ e - 16
        less x m e k z a n h f i j l = omega arith

    placed : Bounds code g s → 16 ≤ frame → {v : ℕ} → (place : Place)
        → IsPlaceFor (flow_at code.program g.current.function) (placement_of code g.current.function) v place
        → IsSomewhere code g E a n → ApartFromPlace E place a n
    placed b four (InWord r) for h = tt
    placed b four (InByte r) for h = beside b four h
    placed b four (InSlot slot) for (inl h) =
        inr (less (data_end code) (word_of Esp s) frame E slot a n b.room b.esp for.inside.high h)
      where
        less : (d x m e k a n : ℕ) → d + 0x1000 ≤ x → x + m ≡ e → k ≤ m → a + n ≤ d → a + n ≤ e - k
        less d x m e k a n r h f l = omega arith
    placed b four (InSlot slot) for (inr (inl h)) =
        inl (less (word_of Esp s) frame E slot a b.esp for.inside.low for.inside.high h)
      where
        less : (x m e k a : ℕ) → x + m ≡ e → 20 ≤ k → k ≤ m → e ≤ a + 4 → e - k + 4 ≤ a
        less x m e k a h f i l = omega arith
    placed b four (InSlot slot) for (inr (inr h)) =
        clear (for.apart h.number h.below h.array h.declared h.placed)
      where
        before : (x m e k b z a n : ℕ) → x + m ≡ e → k ≤ m → b + 8 ≤ k → e ≤ a + b + 4 → e - k + 4 ≤ a
        before x m e k b z a n h f i l = omega arith

        behind : (x m e k b z a n : ℕ) → x + m ≡ e → k ≤ m → k + z ≤ b → a + n + b ≤ e + z → a + n ≤ e - k
        behind x m e k b z a n h f i l = omega arith

        clear : IsSlotApart slot h.array h.below → ApartFromPlace E (InSlot slot) a n
        clear (inl k) =
            inl (before (word_of Esp s) frame E slot h.below (size_of h.array) a n b.esp for.inside.high k h.low)
        clear (inr k) =
            inr (behind (word_of Esp s) frame E slot h.below (size_of h.array) a n b.esp for.inside.high k h.high)

pub protected-is-apart : ProtectedIsApart
protected-is-apart code input g s a n supported state shown reads =
    is-apart code input g s a n supported state shown reads

-- nor with what is pushed
pub pushed-is-apart : PushedIsApart
pushed-is-apart code input g s bytes supported state shown few =
    let b = bounds code input g s supported state shown in
    record {
      protected = λ a n reads. either b a n (protected-is-apart code input g s a n supported state shown reads).above;
      slots = λ v slot n for.
          inl (slotted (data_end code) (word_of Esp s) (frame_size code g.current)
          (word_of Ebp s) slot bytes b.room b.esp
          for.inside.high few);
    }
  where
    stacked : (d x m a : ℕ) → d + 0x1000 ≤ x → m ≤ 0x1000 → x ≤ a → x - m + m ≤ a
    stacked d x m a h k l = omega arith

    behind : (d x m a n : ℕ) → d + 0x1000 ≤ x → m ≤ 0x1000 → a + n ≤ d → a + n ≤ x - m
    behind d x m a n h k l = omega arith

    slotted : (d x w e k m : ℕ) → d + 0x1000 ≤ x → x + w ≡ e → k ≤ w → m ≤ 0x1000 → x - m + m ≤ e - k
    slotted d x w e k m h i j l = omega arith

    either : Bounds code g s → (a n : ℕ) → (word_of Esp s ≤ a) ⊎ (a + n ≤ data_end code)
        → AreDisjoint (word_of Esp s - bytes) bytes a n
    either b a n (inl h) = inl (stacked (data_end code) (word_of Esp s) bytes a b.room few h)
    either b a n (inr h) = inr (behind (data_end code) (word_of Esp s) bytes a n b.room few h)

-- Two arrays that are there have one address exactly where they are the same array.
use Rattle.std.proofs.Common.{◌≡◌, ◌≢◌, ◌⊎◌, ℕ, ◌+◌, ◌-◌, ◌*◌, ◌<◌, ◌≤◌, ◌==◌, ◌&&◌, Bool, true, false, ℤ, List, length}
use Rattle.std.proofs.Common.{Some, inl, inr, refl, sym, ap, subst, ◌∙◌, arith, rules}
use Rattle.std.specs.Prelude.{slice_get}
use Rattle.std.proofs.lemmas.Option.{same_Some}
use Rattle.pcc_base.specs.Objects.{Object}
use Rattle.pcc_base.specs.Outcome.{ArrayName, Null, Static, InFrame, Unknown}
use Rattle.pcc_base.proofs.Lists.{element-at, all-at}
use Rattle.ia32_insn.specs.State as machine
use Rattle.ia32_insn.specs.Keeps.{AreDisjoint}
use Rattle.ia32_insn.specs.Items.{data_start, object_addresses}
use Rattle.flow_graph.specs.Graphs.{IsArray}
use Rattle.flow_graph.specs.Meaning.{same_array}
use Rattle.flow_graph.specs.States as graph
use Rattle.flow_graph.specs.States.{Activation, active_of, flow_at}
use Rattle.flow_graph.specs.WellFormed.{AreElementsOf, IsState}
use Rattle.flow_graph.proofs.Lists.{zip-first}
use Rattle.flow_graph.proofs.Values.{graph-of}
use Rattle.ia32_rows.specs.Placements.{Code, objects_of, placement_of}
use Rattle.ia32_rows.specs.Shows.{IsArrayAt, IsFrameArrayAt, Shows}
use Rattle.ia32_laws.specs.KeepsLaws.{data_end}
use Rattle.ia32_laws.specs.Supports.{IsSupported}
use Rattle.ia32_laws.proofs.KeepsApart.{image-object}
use Rattle.ia32_laws.proofs.Objects.{object-in, objects-apart}
use Rattle.ia32_laws.proofs.Regions.{IsArrayOf, array-above, other-array-apart, region-of}
use Rattle.ia32_laws.proofs.Zones.{activation-at}
use Rattle.ia32_laws.specs.Laws.{AddressesTell}

-- ---- static objects

-- where a static object stands in the data
record IsObjectIn (code : Code) (k address : ℕ) : Type 0 where
  pub object : graph.Object
  pub there : slice_get code.program.objects k ≡ Some object
  pub low : data_start code.text + 8 ≤ address
  pub high : address + object.width * length object.elements ≤ data_end code

abbrev image : graph.Object → Object
image o = record { width = o.width; elements = o.elements }

object-is : (code : Code) (k address : ℕ) → IsSupported code → k < length code.program.objects
    → slice_get code.symbols.objects k ≡ Some address → IsObjectIn code k address
object-is code k address h lt placed =
    let (object, there) = element-at code.program.objects k lt in
    let at = subst (λ (l : List ℕ). slice_get l k ≡ Some address) h.is_code.text.objects_are placed in
    let inside = object-in (data_start code.text) (objects_of code.program) k address (image object)
    (image-object code k object there) at in
    record { object = object; there = there; low = inside.0; high = inside.1 }

-- two are apart
objects-differ : (code : Code) (k l m n : ℕ) → IsSupported code → k < length code.program.objects
    → l < length code.program.objects → slice_get code.symbols.objects k ≡ Some m
    → slice_get code.symbols.objects l ≡ Some n → k ≢ l → m ≢ n
objects-differ code k l m n h one two first second distinct same =
    let a = object-is code k m h one first in
    let b = object-is code l n h two second in
    let at : (j x : ℕ) → slice_get code.symbols.objects j ≡ Some x
    → slice_get (object_addresses (data_start code.text + 4) (objects_of code.program)) j ≡ Some x =
    λ j x e. subst (λ (ls : List ℕ). slice_get ls j ≡ Some x) h.is_code.text.objects_are e in
    apart m n (a.object.width * length a.object.elements) (b.object.width * length b.object.elements) same
    (objects-apart (data_start code.text) (objects_of code.program) k l m n (image a.object) (image b.object) distinct
    (image-object code k a.object a.there) (at k m first) (image-object code l b.object b.there) (at l n second))
  where
    apart : (m n x y : ℕ) → m ≡ n → (m + x + 4 ≤ n) ⊎ (n + y + 4 ≤ m) → ⊥
    apart m n x y e (inl p) = omega arith
    apart m n x y e (inr p) = omega arith

-- ---- frame arrays

-- what is known of an array of an active call
record IsOf (code : Code) (g : graph.State) (frames : List ℕ) (call k address : ℕ) : Type 0 where
  pub width : ℕ
  pub elements : List ℤ
  pub is : IsArrayOf code g frames call k address width elements
  pub some : 0 < width * length elements
  pub wide : 0 < width
  pub many : 0 < length elements

some-size : (w n : ℕ) → (w ≡ 1) ⊎ (w ≡ 2) ⊎ (w ≡ 4) → 1 ≤ n → (0 < w * n) × (0 < w)
some-size w n (inl e) h = subst (λ (k : ℕ). (0 < k * n) × (0 < k)) (sym e) (omega arith, omega arith)
some-size w n (inr (inl e)) h = subst (λ (k : ℕ). (0 < k * n) × (0 < k)) (sym e) (omega arith, omega arith)
some-size w n (inr (inr e)) h = subst (λ (k : ℕ). (0 < k * n) × (0 < k)) (sym e) (omega arith, omega arith)

array-is : (code : Code) (g : graph.State) (frames : List ℕ) (k depth address : ℕ) → IsSupported code
    → IsState code.program g → IsFrameArrayAt code (active_of g) frames k depth address
    → IsOf code g frames (length (active_of g) - depth) k address
array-is code g frames k depth address h state at =
    let (older, active) = activation-at code (active_of g) (length (active_of g) - depth) at.activation state.active
    at.of_depth in
    let (array, declared, is) = zip-first AreElementsOf (flow_at code.program (at.activation).function).arrays
    (at.activation).arrays k at.elements active.arrays at.has in
    let fits = all-at IsArray (flow_at code.program (at.activation).function).arrays k array
    ((graph-of code.program (at.activation).function h.program active.function).keeps.1).arrays_fit declared in
    let many : 1 ≤ length at.elements = subst (λ (n : ℕ). 1 ≤ n) (sym is.many) fits.1 in
    let size = some-size array.0 (length at.elements) fits.0 many in
    record {
      width = array.0;
      elements = at.elements;
      is = record {
        activation = at.activation;
        frame = at.frame;
        is = record { is_active = at.of_depth; at_frame = at.at_frame };
        has = at.has;
        array = array;
        declared = declared;
        below = at.below;
        placed = at.placed;
        at_address = at.address;
        width_is = refl;
      };
      some = size.0;
      wide = size.1;
      many = many;
    }

-- one array has one address
arrays-agree : (code : Code) (g : graph.State) (frames : List ℕ) (k depth m n : ℕ)
    → IsFrameArrayAt code (active_of g) frames k depth m → IsFrameArrayAt code (active_of g) frames k depth n → m ≡ n
arrays-agree code g frames k depth m n one two =
    let a = same_Some one.activation two.activation (sym one.of_depth ∙ two.of_depth) in
    let f = same_Some one.frame two.frame (sym one.at_frame ∙ two.at_frame) in
    let b = same_Some one.below two.below (sym one.placed
    ∙ ap (λ (c : Activation). slice_get (placement_of code c.function).arrays k) a ∙ two.placed) in
    counted m n one.below two.below one.frame two.frame one.address two.address f b
  where
    counted : (m n x y f e : ℕ) → m + x ≡ f → n + y ≡ e → f ≡ e → x ≡ y → m ≡ n
    counted m n x y f e h k l o = omega arith

-- two have two
arrays-differ : (code : Code) (input : List ℕ) (g : graph.State) (s : machine.State) (k depth l other m n : ℕ)
    → IsSupported code → IsState code.program g → (shown : Shows code input g s)
    → IsFrameArrayAt code (active_of g) shown.frames k depth m
    → IsFrameArrayAt code (active_of g) shown.frames l other n → ((k ≡ l) × (depth ≡ other) → ⊥) → m ≢ n
arrays-differ code input g s k depth l other m n h state shown one two distinct same =
    let a = array-is code g shown.frames k depth m h state one in
    let b = array-is code g shown.frames l other n h state two in
    let i = b.is in
    let first = one.youngest in
    let second = two.youngest in
    apart m (a.width * length a.elements) n b.width same a.some b.wide
    (other-array-apart code input g s (length (active_of g) - depth) k m a.width a.elements
    (a.width * length a.elements) n
    b.width h state shown a.is
    (region-of code input g s (length (active_of g) - depth) k m a.width a.elements h state shown a.is).all
    (record {
      call = length (active_of g) - other;
      activation = i.activation;
      is_active = (i.is).is_active;
      frame = i.frame;
      at_frame = (i.is).at_frame;
      number = l;
      elements = b.elements;
      has = i.has;
      array = i.array;
      declared = i.declared;
      below = i.below;
      placed = i.placed;
      address = n;
      at_address = i.at_address;
      reads = inr (0, b.many, first-at n i.array.0, sym i.width_is);
    }) (λ e. distinct (sym e.1, back (length (active_of g)) depth other first second e.0)))
  where
    first-at : (n w : ℕ) → n ≡ n + w * 0
    first-at n w = omega arith

    back : (t d o : ℕ) → d ≤ t → o ≤ t → t - o ≡ t - d → d ≡ o
    back t d o h k e = omega arith

    apart : (m x n y : ℕ) → m ≡ n → 0 < x → 0 < y → AreDisjoint m x n y → ⊥
    apart m x n y e p q (inl h) = omega arith
    apart m x n y e p q (inr h) = omega arith

-- they are above the static data
array-high : (code : Code) (input : List ℕ) (g : graph.State) (s : machine.State) (k depth m : ℕ)
    → IsSupported code → IsState code.program g → (shown : Shows code input g s)
    → IsFrameArrayAt code (active_of g) shown.frames k depth m → data_end code + 4 ≤ m
array-high code input g s k depth m h state shown at =
    let a = array-is code g shown.frames k depth m h state at in
    array-above code input g s (length (active_of g) - depth) k m a.width a.elements h state shown a.is

-- ---- the law

-- a test that decides whether numbers are equal is their comparison
equal-is : (b : Bool) (m n : ℕ) → (b ≡ true → m ≡ n) → (b ≡ false → m ≢ n) → b ≡ (m == n)
equal-is true m n yes-then no-then = let e = yes-then refl in search (rules, e)
equal-is false m n yes-then no-then = let e = no-then refl in search (rules, e)

pub addresses-tell : AddressesTell
addresses-tell code input g s one two m n h state shown at to =
    equal-is (same_array one two) m n (agree one two at to) (differ one two at to)
  where
    never : (b : Bool) → true ≡ false → b ≡ b → ⊥
    never b e f = cc

    agree : (one two : ArrayName) → IsArrayAt code (active_of g) shown.frames one m
        → IsArrayAt code (active_of g) shown.frames two n → same_array one two ≡ true → m ≡ n
    agree Null Null at to e = at ∙ sym to
    agree Null (Static l) at to e = absurd (never false (sym e) refl)
    agree Null (InFrame l other) at to e = absurd (never false (sym e) refl)
    agree Null Unknown at to e = absurd to
    agree (Static k) Null at to e = absurd (never false (sym e) refl)
    agree (Static k) (Static l) at to e =
        let same : k ≡ l = search (rules, e) in
        same_Some m n (sym at.1 ∙ ap (slice_get code.symbols.objects) same ∙ to.1)
    agree (Static k) (InFrame l other) at to e = absurd (never false (sym e) refl)
    agree (Static k) Unknown at to e = absurd to
    agree (InFrame k depth) Null at to e = absurd (never false (sym e) refl)
    agree (InFrame k depth) (Static l) at to e = absurd (never false (sym e) refl)
    agree (InFrame k depth) (InFrame l other) at to e =
        let both : (k ≡ l) × (depth ≡ other) = search (rules, e) in
        arrays-agree code g shown.frames k depth m n at
        (subst (λ (d : ℕ). IsFrameArrayAt code (active_of g) shown.frames k d n) (sym both.1)
        (subst (λ (i : ℕ). IsFrameArrayAt code (active_of g) shown.frames i other n) (sym both.0) to))
    agree (InFrame k depth) Unknown at to e = absurd to
    agree Unknown two at to e = absurd at

    static-some : (k x : ℕ) → (k < length code.program.objects) × (slice_get code.symbols.objects k ≡ Some x)
        → (data_start code.text + 8 ≤ x) × (x ≤ data_end code)
    static-some k x there =
        let o = object-is code k x h there.0 there.1 in (o.low, up x (o.object.width * length o.object.elements) o.high)
      where
        up : {d : ℕ} → (x y : ℕ) → x + y ≤ d → x ≤ d
        up x y e = omega arith

    differ : (one two : ArrayName) → IsArrayAt code (active_of g) shown.frames one m
        → IsArrayAt code (active_of g) shown.frames two n → same_array one two ≡ false → m ≢ n
    differ Null Null at to e = absurd (never true e refl)
    differ Null (Static l) at to e = λ same. let o = (static-some l n to).0 in omega (arith, at, o, same)
    differ Null (InFrame l other) at to e =
        λ same. let o = array-high code input g s l other n h state shown to in omega (arith, at, o, same)
    differ Null Unknown at to e = absurd to
    differ (Static k) Null at to e = λ same. let o = (static-some k m at).0 in omega (arith, to, o, same)
    differ (Static k) (Static l) at to e =
        let other : k ≢ l = search (rules, e) in objects-differ code k l m n h at.0 to.0 at.1 to.1 other
    differ (Static k) (InFrame l other) at to e =
        λ same. let o = (static-some k m at).1 in
        let p = array-high code input g s l other n h state shown to in omega (arith, o, p, same)
    differ (Static k) Unknown at to e = absurd to
    differ (InFrame k depth) Null at to e =
        λ same. let o = array-high code input g s k depth m h state shown at in omega (arith, to, o, same)
    differ (InFrame k depth) (Static l) at to e =
        λ same. let o = (static-some l n to).1 in
        let p = array-high code input g s k depth m h state shown at in omega (arith, o, p, same)
    differ (InFrame k depth) (InFrame l other) at to e =
        arrays-differ code input g s k depth l other m n h state shown at to (both-not k l depth other e)
      where
        both-not : (k l d o : ℕ) → (k == l && d == o) ≡ false → (k ≡ l) × (d ≡ o) → ⊥
        both-not k l d o e p = search (rules, e, p)
    differ (InFrame k depth) Unknown at to e = absurd to
    differ Unknown two at to e = absurd at

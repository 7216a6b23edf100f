-- The machine follows loads and stores of elements, and their traps.
use Rattle.std.proofs.Common.{◌≡◌, ℕ, zero, suc, ◌+◌, ◌*◌, ◌^◌, ◌<◌, ◌≤◌, ℤ, pos, negsuc, false, List}
use Rattle.std.proofs.Common.{[], ◌∷◌, length, Option, Some, None, inl, inr, refl, sym, ap, subst, ◌∙◌, arith}
use Rattle.std.proofs.Common.{drop}
use Rattle.std.specs.Prelude.{FitsSigned, slice_get}
use Rattle.std.specs.Int.{w32, cast_unsigned}
use Rattle.std.proofs.lemmas.Int.{ints}
use Rattle.std.proofs.lemmas.Nat.{mul-le}
use Rattle.std.proofs.lemmas.Option.{none-some, same_Some}
use Rattle.pcc_base.specs.Objects.{FitsBytes}
use Rattle.pcc_base.specs.Outcome.{ArrayName, Null, Static, InFrame, Unknown, Value, Number, Array, Trapped}
use Rattle.pcc_base.specs.declared.run.Trap.TheVariants.{Check}
use Rattle.pcc_base.specs.declared.run.Width.{Width}
use Rattle.pcc_base.specs.declared.run.Width.TheVariants.{Two}
use Rattle.ia32_insn.specs.declared.register_names.Reg32.TheVariants.{Esp, Ebp}
use Rattle.ia32_insn.specs.Places.{Place, InWord, InByte, InSlot}
use Rattle.ia32_insn.specs.declared.item.Item.{Item}
use Rattle.ia32_insn.specs.State as machine
use Rattle.ia32_insn.specs.State.{at_address}
use Rattle.ia32_insn.specs.Meaning.{word_of}
use Rattle.ia32_insn.specs.Items.{data_start}
use Rattle.flow_graph.specs.declared.op.Bits.{Bits}
use Rattle.flow_graph.specs.declared.op.Bits.TheVariants.{Eight, Sixteen, ThirtyTwo}
use Rattle.flow_graph.specs.declared.op.Op.{Op}
use Rattle.flow_graph.specs.Graphs.{HasWidth, IsIn, points_of}
use Rattle.flow_graph.specs.Liveness.{IsBehind, LeadsTo, defined, uses}
use Rattle.flow_graph.specs.Meaning.{Moved, Stuck, Halts, accessed, at_point, bytes_of, checked, given, of_width, sets}
use Rattle.flow_graph.specs.States as graph
use Rattle.flow_graph.specs.States.{Elements, active_of, array_at, array_from, depth_of, element_at, elements_of}
use Rattle.flow_graph.specs.States.{flow_at}
use Rattle.flow_graph.specs.States.{op_at, point_after, value_at, with_value}
use Rattle.flow_graph.specs.WellFormed.{AreElementsIn, AreElementsOf, IsState}
use Rattle.flow_graph.proofs.Lists.{All-at, zip-at}
use Rattle.ia32_rows.specs.Follows.{ComesToEnd}
use Rattle.ia32_laws.specs.KeepsLaws.{moved_to}
use Rattle.ia32_laws.proofs.Landing.{FollowsKept, lands}
use Rattle.ia32_rows.specs.Paths.{Comes}
use Rattle.ia32_rows.specs.Placements.{Code, placement_of}
use Rattle.ia32_rows.specs.Shows.{IsArrayAt, IsOldArray, IsWord, Shows, StandsIn}
use Rattle.ia32_rows.specs.Sites.{Framed, ReadyAt, Site, SoundAt}
use Rattle.ia32_rows.proofs.Sound.{sound-at}
use Rattle.ia32_rows.proofs.Steps.{comes-not}
use Rattle.ia32_rows.specs.Effects.{Keeps}
use Rattle.ia32_rows.specs.Contains.{ApartFromPlace, Contains, HoldsWord, IsPlaceIn, Untouched}
use Rattle.ia32_rows.specs.Laws.{HoldsLow}
use Rattle.ia32_rows.proofs.Kept.{HasCells, contains-kept, keeps-same, word-kept}
use Rattle.ia32_laws.specs.Supports.{HoldsWidth, IsPlaceFor, IsSupported, site_of}
use Rattle.ia32_laws.specs.Protected.{KeepsShown}
use Rattle.ia32_laws.proofs.KeepsApart.{protected-is-apart}
use Rattle.ia32_laws.proofs.Small.{word-small}
use Rattle.ia32_laws.proofs.Ops.{holds-word}
use Rattle.ia32_laws.proofs.Puts.{IsLow}
use Rattle.ia32_laws.proofs.Elsewhere.{at-own-address, following-in, keeps-at, stands-at}
use Rattle.ia32_laws.proofs.Regions.{array-above, region-of, static-ends}
use Rattle.ia32_laws.proofs.Shown.{point-supported, set-shows}
use Rattle.ia32_laws.proofs.Stored.{IsNamed, StandNow, named, stand-now}
use Rattle.ia32_laws.proofs.Zones.{activation-at, shown-in-frame}
use Rattle.ia32_laws.proofs.Beside.{cells-apart, memory-apart, same-from, stack-untouched, stands-low}
use Rattle.ia32_laws.proofs.Onward.{IsNext}
use Rattle.ia32_laws.specs.AccessesLaws.{FailsAccess}
use Rattle.ia32_laws.proofs.Checking.{Came}
use Rattle.ia32_laws.proofs.Loading.{given-any, given-width}

-- ---- a state behind a row

-- what is kept where a row puts a word into a place, wherever it came by
row-keeps : (code : Code) (input : List ℕ) (g : graph.State) (s u : machine.State) (o : Op) (d : ℕ) (place : Place)
    → IsSupported code → IsState code.program g → (shown : Shows code input g s) → op_at code.program g ≡ Some o
    → (placement_of code g.current.function).after g.point d ≡ Some place
    → Keeps (Untouched place) (ApartFromPlace (word_of Ebp s) place) s u → KeepsShown code g shown.frames (Some d) s u
row-keeps code input g s u o d place supported state shown has at keeps =
    let frame : ℕ = (placement_of code g.current.function).frame in
    let S : ℕ → Type 0 = Untouched place in
    let K : ℕ → ℕ → Type 0 = ApartFromPlace (word_of Ebp s) place in
    let here = point-supported code g o supported state has in
    let for = here.after d place at in
    let framed = (shown-in-frame code input g s supported state shown).framed in
    let bound = framed.esp in
    let has_esp : HasCells S Esp = λ m below.
    stack-untouched frame (4 * 4 + m) place for.inside (omega arith) (omega arith) in
    let has_ebp : HasCells S Ebp = λ m below.
    stack-untouched frame (4 * 5 + m) place for.inside (omega arith) (omega arith) in
    let ebp : word_of Ebp u ≡ word_of Ebp s = word-kept S K Ebp s u keeps has_ebp in
    record {
      esp = word-kept S K Esp s u keeps has_esp;
      ebp = ebp;
      protected = λ n a v reads. keeps.loads n a v
          ((protected-is-apart code input g s a n supported state shown reads).places d place for);
      others = λ v other distinct behind.
          let apart = here.after_apart d v place other (λ e. distinct (ap Some e)) at behind in
          let inside = (here.after v other behind).inside in
          same-from other s u ebp (λ width x contains.
          contains-kept S K s u width other x keeps has_ebp (cells-apart frame place other inside apart)
          (memory-apart frame (word_of Ebp s) place other (omega arith) for.inside inside apart) contains);
    }

pub reached-follows : (code : Code) (input : List ℕ) (g : graph.State) (s u : machine.State) (o : Op) (d w : ℕ)
    (value : Value) (place : Place) (after : ℕ) (rest : List Item) → IsSupported code → IsState code.program g
    → (shown : Shows code input g s) → op_at code.program g ≡ Some o → defined o ≡ Some d
    → ((next : ℕ) → IsBehind (flow_at code.program g.current.function) g.point next
    → LeadsTo (flow_at code.program g.current.function) g.point next o)
    → (placement_of code g.current.function).after g.point d ≡ Some place
    → Keeps (Untouched place) (ApartFromPlace (word_of Ebp s) place) s u → HoldsLow u place w
    → SoundAt (site_of code g.current.function) u → Comes code.text s (at_address after u)
    → ReadyAt (site_of code g.current.function) rest (at_address after u) → IsNext code g rest
    → IsLow code (active_of g) shown.frames (slice_get (flow_at code.program g.current.function).widths d) value w
    → IsOldArray (depth_of g) value
    → FollowsKept code input s g false (sets code.program g d value)
reached-follows code input g s u o d w value place after rest supported state shown has defines leads at keeps holds
    sound comes ready follows low old =
    follow (point_after code.program g.current.function g.block g.point) refl
  where
    site : Site
    site = site_of code g.current.function

    for : IsPlaceFor (flow_at code.program g.current.function) (placement_of code g.current.function) d place
    for = (point-supported code g o supported state has).after d place at

    width : Option Width
    width = slice_get (flow_at code.program g.current.function).widths d

    follow : (next : Option ℕ) → point_after code.program g.current.function g.block g.point ≡ next
        → FollowsKept code input s g false (at_point g.block (with_value d value g) next)
    follow None e = tt
    follow (Some q) e = λ kept.
        let t : machine.State = at_address after u in
        let more = follows q e in
        lands code input g.point (with_value d value (moved_to g.block q g.left g.taken g.written g))
        g.current.function q refl refl s t rest more.0 supported kept
        ((g.block, state.placed), o, has, leads q (g.block, e))
        (comes) ready more.1
        (set-shows code input g s t o d value g.block q g.left g.taken g.written supported state shown has defines
        (keeps-at code g shown.frames (Some d) after s u
        (row-keeps code input g s u o d place supported state shown has at keeps))
        (λ other f. subst (StandsIn code (active_of g) shown.frames t (word_of Ebp t) width value)
        (same_Some place other (sym at ∙ f))
        (stands-at code (active_of g) shown.frames after u (word_of Ebp u) width value place
        (stands-low code (active_of g) shown.frames u width value place w for.holds low holds))) old
        (record {
          leads = ((g.block, state.placed), o, has, leads q (g.block, e));
          placed = following-in g.point q (points_of (flow_at code.program g.current.function) g.block) e;
          sound = sound-at site.text site.low site.high after u sound;
          left = keeps.left ∙ shown.left;
          taken = keeps.taken ∙ shown.taken;
          written = keeps.written ∙ shown.written;
          of_input = keeps.left ∙ shown.of_input ∙ ap (λ (k : ℕ). drop k input) (sym keeps.taken);
        }))

-- a failed check is the program's end too
pub ends-there : (code : Code) (input : List ℕ) (g : graph.State) (s : machine.State) → Shows code input g s
    → ((u : machine.State) × FailsAccess (site_of code g.current.function) s u) → ComesToEnd code s g (Trapped Check)
ends-there code input g s shown (u, fails) =
    (u, fails.comes, fails.clear, fails.halts, fails.taken ∙ shown.taken, fails.written ∙ shown.written)

-- a row that is ready is where the machine is
pub at-start : (code : Code) (g : graph.State) (frame : ℕ) (items : List Item) (s : machine.State) → IsSupported code
    → Framed (site_of code g.current.function) frame s → ReadyAt (site_of code g.current.function) items s
    → Came (site_of code g.current.function) frame items s s s.eip
at-start code g frame items s supported framed ready =
    let site : Site = site_of code g.current.function in
    let own : at_address s.eip s ≡ s = at-own-address code g.current.function items s supported ready in
    record {
      comes = subst (λ (v : machine.State). Comes code.text s v) (sym own) (comes-not code.text s);
      ready = subst (λ (v : machine.State). ReadyAt site items v) (sym own) ready;
      framed = framed;
      keeps = keeps-same _ _ s;
    }

-- ---- arrays in variables

-- where a variable stands that holds an array, or 0
pub record HasArrayIn (code : Code) (g : graph.State) (frames : List ℕ) (s : machine.State) (a : ℕ)
    (array : ArrayName) : Type 0 where
  pub place : Place
  pub at : (placement_of code g.current.function).before g.point a ≡ Some place
  pub inside : IsPlaceIn (placement_of code g.current.function).frame place
  pub holds : HoldsWord place
  pub word : ℕ
  pub contains : Contains s Two place word
  pub small : word < 2 ^ 32
  pub is : IsArrayAt code (active_of g) frames array word

value-from : (o : Option Value) (array : ArrayName) → array_from o ≡ Some array
    → (value : Value) × (o ≡ Some value) × (array_from (Some value) ≡ Some array)
value-from None array e = absurd (none-some array e)
value-from (Some value) array e = (value, refl, e)

-- the word of such a value is the array's address
array-word : (code : Code) (active : _) (frames : List ℕ) (value : Value) (array : ArrayName) (w : ℕ)
    → array_from (Some value) ≡ Some array → IsWord code active frames value w → IsArrayAt code active frames array w
array-word code active frames (Number (pos zero)) array w e h =
    subst (λ (a : ArrayName). IsArrayAt code active frames a w) (same_Some Null array e) h.1
array-word code active frames (Number (pos (suc n))) array w e h = absurd (none-some array e)
array-word code active frames (Number (negsuc n)) array w e h = absurd (none-some array e)
array-word code active frames (Array a) array w e h =
    subst (λ (b : ArrayName). IsArrayAt code active frames b w) (same_Some a array e) h

-- the word of a value in a place
word-in : (code : Code) (g : graph.State) (frames : List ℕ) (s : machine.State) (place : Place) (value : Value)
    → HoldsWidth (Some Two) place → StandsIn code (active_of g) frames s (word_of Ebp s) (Some Two) value place
    → (w : ℕ) × Contains s Two place w × IsWord code (active_of g) frames value w
word-in code g frames s (InWord r) value for h = (word_of r s, refl, h)
word-in code g frames s (InByte r) value for h = absurd for
word-in code g frames s (InSlot slot) value for h = (h.0, h.1, h.2)

pub has-array : (code : Code) (input : List ℕ) (g : graph.State) (s : machine.State) (o : Op) (a : ℕ)
    (array : ArrayName) → IsSupported code → IsState code.program g → (shown : Shows code input g s)
    → op_at code.program g ≡ Some o → IsIn a (uses o) → HasWidth (flow_at code.program g.current.function) a Two
    → array_at g a ≡ Some array → HasArrayIn code g shown.frames s a array
has-array code input g s o a array supported state shown has used width e =
    let (value, is, from) = value-from (value_at g a) array e in
    let here = point-supported code g o supported state has in
    let (place, at) = here.read a used in
    let for = here.before a place at in
    let holds : HoldsWidth (Some Two) place = subst (λ (w : Option Width). HoldsWidth w place) width for.holds in
    let stands = subst (λ (w : Option Width).
    StandsIn code (active_of g) shown.frames s (word_of Ebp s) w value place) width
    (shown.variables a value place is at) in
    let (w, contains, word) = word-in code g shown.frames s place value holds stands in
    record {
      place = place;
      at = at;
      inside = for.inside;
      holds = holds-word place holds;
      word = w;
      contains = contains;
      small = word-small code input g s value w supported state shown word;
      is = array-word code (active_of g) shown.frames value array w from word;
    }

-- ---- what an access does

-- by what the array is: none, or one with elements of so many bits
pub by-array : (P : Moved → Type 0) (code : Code) (g : graph.State) (bits : Bits) (array : ArrayName)
    (go : List ℤ → Moved) → (array ≡ Null → P (Halts (Trapped Check))) → P Stuck
    → ((elements : List ℤ) → elements_of code.program g array ≡ Some (bytes_of bits, elements) → P (go elements))
    → P (accessed code.program g bits array go)
by-array P code g bits array go none stuck some = by array refl
  where
    there : (a : ArrayName) → array ≡ a → P (given (elements_of code.program g a) (λ e. of_width bits e go))
    there a same =
        given-any P (elements_of code.program g a) (λ (e : Elements). of_width bits e go) stuck (λ e is.
        given-width P bits e go stuck (λ wide. some e.1
        (ap (elements_of code.program g) same ∙ is
        ∙ ap (λ (w : ℕ). let q : Option Elements = Some (w, e.1) in q) wide)))

    by : (a : ArrayName) → array ≡ a → P (accessed code.program g bits a go)
    by Null same = none same
    by (Static k) same = there (Static k) same
    by (InFrame k depth) same = there (InFrame k depth) same
    by Unknown same = there Unknown same

none-past : (elements : List ℤ) (i : ℕ) → slice_get elements i ≡ None → length elements ≤ i
none-past [] i e = omega arith
none-past (x ∷ elements) zero e = absurd (none-some x (sym e))
none-past (x ∷ elements) (suc i) e = let rest = none-past elements i e in omega (arith, rest)

-- by where the index is: past the elements, as a word, or at one
pub by-element : (P : Moved → Type 0) (elements : List ℤ) (z : ℤ) (go : ℤ → Moved) → FitsSigned w32 z
    → length elements ≤ 0x80000000 → (length elements ≤ cast_unsigned w32 z → P (Halts (Trapped Check)))
    → ((i : ℕ) (n : ℤ) → z ≡ pos i → cast_unsigned w32 z ≡ i → slice_get elements i ≡ Some n → P (go n))
    → P (checked (element_at elements z) go)
by-element P elements (negsuc i) go fits few past some =
    past (omega (arith, ints, few, fits.sfits))
by-element P elements (pos i) go fits few past some = chosen (slice_get elements i) refl
  where
    chosen : (o : Option ℤ) → slice_get elements i ≡ o → P (checked o go)
    chosen None e = past (none-past elements i e)
    chosen (Some n) e = some i n refl refl e

-- ---- what is known of the array

pub record IsThere (code : Code) (s : machine.State) (word width : ℕ) (elements : List ℤ) : Type 0 where
  pub low : data_start code.text ≤ word
  pub now : StandNow s word width elements
  pub few : length elements ≤ 0x80000000

few-elements : (code : Code) (input : List ℕ) (g : graph.State) (s : machine.State) (word width : ℕ)
    (elements : List ℤ) → IsSupported code → IsState code.program g → (shown : Shows code input g s) → 0 < width
    → IsNamed code g shown.frames word width elements
    → (data_start code.text ≤ word) × (length elements ≤ 0x80000000)
few-elements code input g s word width elements supported state shown some (inl (k, h)) =
    let ends = static-ends code g k word width elements supported state h in
    let low = ends.0 in
    let many = (zip-at AreElementsIn code.program.objects g.objects k h.object elements state.objects h.declared
    h.has).many in
    let few = All-at (λ (x : graph.Object). length x.elements ≤ 0x80000000) code.program.objects k h.object
    supported.few h.declared in
    (omega (arith, low), omega (arith, many, few))
few-elements code input g s word width elements supported state shown some (inr (c, k, h)) =
    let above = array-above code input g s c k word width elements supported state shown h in
    let r = region-of code input g s c k word width elements supported state shown h in
    let bytes = supported.bytes h.activation.function
    (activation-at code (active_of g) c h.activation state.active h.is.is_active).1.function in (
      start (data_start code.text) _ word above,
      counted width (length elements) _ _ _ _ some r.all r.inside r.header
          bytes,
    )
  where
    start : (d m w : ℕ) → d + m + 4 ≤ w → d ≤ w
    start d m w h = omega (arith, h)

    counted : (w l z b size words : ℕ) → 0 < w → w * l ≤ z → 16 + z ≤ b → b + 4 ≤ size → 8 + size + words ≤ 0x4000
        → l ≤ 0x80000000
    counted w l z b size words some all inside header bytes =
        let more = mul-le 1 l w l some (omega arith) in
        omega (arith, more, all, inside, header, bytes)

pub is-there : (code : Code) (input : List ℕ) (g : graph.State) (s : machine.State) (array : ArrayName)
    (word width : ℕ) (elements : List ℤ) → IsSupported code → IsState code.program g → (shown : Shows code input g s)
    → 0 < width → elements_of code.program g array ≡ Some (width, elements)
    → IsArrayAt code (active_of g) shown.frames array word → IsThere code s word width elements
is-there code input g s array word width elements supported state shown some is at =
    let name = named code g shown.frames array word width elements is at in
    let bounds = few-elements code input g s word width elements supported state shown some name in
    record {
      low = bounds.0;
      now = stand-now code input g s word width elements supported state shown name;
      few = bounds.1;
    }

pub some-bytes : (bits : Bits) → 0 < bytes_of bits
some-bytes Eight = omega arith
some-bytes Sixteen = omega arith
some-bytes ThirtyTwo = omega arith

-- each element fits its bytes
pub element-bytes : (code : Code) (input : List ℕ) (g : graph.State) (s : machine.State) (array : ArrayName)
    (word width : ℕ) (elements : List ℤ) → IsSupported code → IsState code.program g → (shown : Shows code input g s)
    → elements_of code.program g array ≡ Some (width, elements)
    → IsArrayAt code (active_of g) shown.frames array word → (k : ℕ) (n : ℤ) → slice_get elements k ≡ Some n
    → FitsBytes width n
element-bytes code input g s array word width elements supported state shown is at k n e =
    by (named code g shown.frames array word width elements is at)
  where
    by : IsNamed code g shown.frames word width elements → FitsBytes width n
    by (inl (j, h)) =
        let fit = (zip-at AreElementsIn code.program.objects g.objects j h.object elements state.objects h.declared
        h.has).fit in
        subst (λ (w : ℕ). FitsBytes w n) h.width_is (All-at (FitsBytes h.object.width) elements k n fit e)
    by (inr (call, j, h)) =
        let active = (activation-at code (active_of g) call h.activation state.active h.is.is_active).1 in
        let fit = (zip-at AreElementsOf (flow_at code.program h.activation.function).arrays h.activation.arrays j
        h.array
        elements active.arrays h.declared h.has).fit in
        subst (λ (w : ℕ). FitsBytes w n) h.width_is (All-at (FitsBytes h.array.0) elements k n fit e)

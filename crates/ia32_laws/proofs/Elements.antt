-- A state that has come behind a row that stores an element shows the next one; and the machine follows the op that
-- writes a static object of one element.
use Rattle.std.proofs.Common.{◌≡◌, ℕ, ◌+◌, ◌*◌, ◌%◌, ◌^◌, ◌<◌, ◌≤◌, ℤ, pos, Bool, true, false}
use Rattle.std.proofs.Common.{List, [], ◌∷◌, ◌++◌, length, Option, Some, None, Ok, inl, refl, sym, ap, subst, ◌∙◌}
use Rattle.std.proofs.Common.{arith, drop}
use Rattle.std.specs.Prelude.{◌==◌, Result, FitsSigned, if◌then◌else◌, slice_get, slice_set}
use Rattle.std.specs.Int.{w8, w32, cast_unsigned, int_wrap}
use Rattle.std.proofs.lemmas.Int.{SFits-int_wrap, int_wrap_fits, ints}
use Rattle.std.proofs.lemmas.Option.{slice_get_within}
use Rattle.pcc_base.specs.Outcome.{ArrayName, End, Null, Static, InFrame, Unknown, Number}
use Rattle.pcc_base.specs.declared.run.Width.TheVariants.{Two}
use Rattle.ia32_insn.specs.declared.register_names.Reg32.TheVariants.{Esp, Ebp, Edi}
use Rattle.ia32_insn.specs.Places.{Place, InWord, InByte, InSlot}
use Rattle.ia32_insn.specs.declared.operand.Rm32.TheVariants as rm
use Rattle.ia32_insn.specs.declared.insn.Insn.TheVariants as insn
use Rattle.ia32_insn.specs.declared.item.Item.{Item}
use Rattle.ia32_insn.specs.State as machine
use Rattle.ia32_insn.specs.State.{at_address}
use Rattle.ia32_insn.specs.Arithmetic.{extended16}
use Rattle.ia32_insn.specs.Keeps.{AreDisjoint}
use Rattle.ia32_insn.specs.Meaning.{load, word_of}
use Rattle.ia32_insn.specs.Items.{data_start, plain}
use Rattle.flow_graph.specs.declared.op.Bits.{Bits}
use Rattle.flow_graph.specs.declared.op.Bits.TheVariants.{Eight, Sixteen, ThirtyTwo}
use Rattle.flow_graph.specs.declared.op.Op.{Op}
use Rattle.flow_graph.specs.declared.op.Op.TheVariants as op
use Rattle.flow_graph.specs.Graphs.{points_of}
use Rattle.flow_graph.specs.Liveness.{IsBehind, LeadsTo, defined}
use Rattle.flow_graph.specs.Meaning.{Moved, Moves, Stuck, at_point, bytes_of, given, of_width, onward, puts_scalar}
use Rattle.flow_graph.specs.Meaning.{stored}
use Rattle.flow_graph.specs.States as graph
use Rattle.flow_graph.specs.States.{Elements, active_of, depth_of, elements_of, flow_at, op_at, point_after, value_at}
use Rattle.flow_graph.specs.States.{waiting_place, waiting_with, with_array, with_element, with_elements}
use Rattle.flow_graph.specs.WellFormed.{IsState}
use Rattle.flow_graph.proofs.Numbers.{element-fits, stored-fits}
use Rattle.ia32_laws.specs.MovesLaws.{ShowsBehind}
use Rattle.ia32_laws.proofs.Landing.{FollowsKept, followed, lands}
use Rattle.ia32_rows.specs.Paths.{Comes}
use Rattle.ia32_rows.specs.Placements.{Code, placement_of}
use Rattle.ia32_rows.specs.Shows.{ElementsStand, IsArrayAt, Shows}
use Rattle.ia32_rows.specs.Sites.{Anywhere, Framed, ReadyAt, Site, SoundAt}
use Rattle.ia32_rows.proofs.Sound.{load-place, load-same, sound-at}
use Rattle.ia32_rows.specs.Rows.{put_row, store_to}
use Rattle.ia32_rows.specs.Effects.{Keeps, OutsideWord}
use Rattle.ia32_rows.specs.Contains.{IsPlaceIn}
use Rattle.ia32_rows.proofs.Instructions.{number-makes}
use Rattle.ia32_rows.proofs.Kept.{HasCells, PlaceHasCells, PlaceHasMemory, contains-kept, keeps-stricter, keeps-then}
use Rattle.ia32_rows.proofs.Kept.{word-kept}
use Rattle.ia32_rows.proofs.Moves.{byte-below, general-below, gives-word}
use Rattle.ia32_rows.proofs.Straight.{leads-join, straight-goes}
use Rattle.ia32_laws.specs.Supports.{IsSupported, site_of}
use Rattle.ia32_laws.specs.KeepsLaws.{Arrives, IsSameRegister, KeepsOutside, moved_to}
use Rattle.ia32_laws.proofs.KeepsApart.{object-at}
use Rattle.ia32_laws.proofs.Ops.{at-before, given-number, has-number, op-is}
use Rattle.ia32_laws.proofs.Elsewhere.{at-own-address, following-in}
use Rattle.ia32_laws.proofs.Shown.{point-supported}
use Rattle.ia32_laws.proofs.Stored.{element-shows}
use Rattle.ia32_laws.proofs.Words.{low-byte, word-fits}
use Rattle.ia32_laws.proofs.Zones.{shown-in-frame}
use Rattle.ia32_laws.proofs.Numbers.{low-half-is}
use Rattle.ia32_laws.proofs.Onward.{IsNext}
use Rattle.ia32_laws.specs.AccessesLaws.{OutsideScratch}
use Rattle.ia32_laws.specs.AccessesOps.{PutFollows}
use Rattle.ia32_laws.proofs.AccessesAddresses.{HasObject, has-object, named-row, object-named, object-within}
use Rattle.ia32_laws.proofs.Loading.{given-any, given-width, static-elements}
use Rattle.ia32_laws.proofs.Storing.{edi-works, element-stores}
pub use Rattle.ia32_laws.proofs.Choosing.{all-memory}

-- ---- registers

-- no variable stands in ESI or EDI
pub scratch-outside : (frame : ℕ) (q : Place) → IsPlaceIn frame q → PlaceHasCells OutsideScratch q
scratch-outside frame (InWord r) placed =
    let b = general-below r placed in λ m below. (inl (omega (arith, b, below)), inl (omega (arith, b, below)))
scratch-outside frame (InByte r) placed = let b = byte-below r in (inl (omega (arith, b)), inl (omega (arith, b)))
scratch-outside frame (InSlot k) placed = tt

pub edi-outside : (frame : ℕ) (q : Place) → IsPlaceIn frame q → PlaceHasCells (OutsideWord Edi) q
edi-outside frame (InWord r) placed = let b = general-below r placed in λ m below. inl (omega (arith, b, below))
edi-outside frame (InByte r) placed = let b = byte-below r in inl (omega (arith, b))
edi-outside frame (InSlot k) placed = tt

-- nor do ESP and EBP
pub esp-outside : HasCells OutsideScratch Esp
esp-outside m below = (inl (omega (arith, below)), inl (omega (arith, below)))

pub ebp-outside : HasCells OutsideScratch Ebp
ebp-outside m below = (inl (omega (arith, below)), inl (omega (arith, below)))

-- what stands in a register stays
register-kept : (K : ℕ → ℕ → Type 0) (frame : ℕ) (q : Place) (s u : machine.State) → Keeps OutsideScratch K s u
    → IsPlaceIn frame q → IsSameRegister q s u
register-kept K frame (InWord r) s u keeps placed =
    word-kept OutsideScratch K r s u keeps (scratch-outside frame (InWord r) placed)
register-kept K frame (InByte r) s u keeps placed = keeps.cells _ (scratch-outside frame (InByte r) placed)
register-kept K frame (InSlot k) s u keeps placed = tt

-- ---- the state behind

-- where the next point is, a step goes on
abbrev leads_to : (ℕ → graph.State) → Option ℕ → Moved
leads_to F None = Stuck
leads_to F (Some q) = Moves (F q)

led : (block : ℕ) (x : graph.State) (F : ℕ → graph.State)
    → ((q : ℕ) → (let t : graph.State = record x { block = block; point = q } in t) ≡ F q) → (o : Option ℕ)
    → at_point block x o ≡ leads_to F o
led block x F same None = refl
led block x F same (Some q) = ap Moves (same q)

-- a step onward where an array has changed
array-onward : (code : Code) (array : ArrayName) (new : List ℤ) (g : graph.State)
    → onward code.program (with_array array new g)
    ≡ leads_to (λ q. with_array array new (moved_to g.block q g.left g.taken g.written g))
    (point_after code.program g.current.function g.block g.point)
array-onward code Null new g = led g.block g _ (λ q. refl) (point_after code.program g.current.function g.block g.point)
array-onward code Unknown new g =
    led g.block g _ (λ q. refl) (point_after code.program g.current.function g.block g.point)
array-onward code (Static k) new g =
    led g.block (record g { objects = slice_set g.objects k new }) _ (λ q. refl)
    (point_after code.program g.current.function g.block g.point)
array-onward code (InFrame k depth) new g = chosen (depth == depth_of g)
  where
    chosen : (test : Bool)
        → onward code.program (if test then record g { current = with_elements k new g.current }
        else record g {
          waiting = waiting_with k new (waiting_place g depth) (slice_get g.waiting (waiting_place g depth)) g.waiting;
        })
        ≡ leads_to (λ q. let h : graph.State = moved_to g.block q g.left g.taken g.written g in
        if test then record h { current = with_elements k new h.current }
        else record h {
          waiting = waiting_with k new (waiting_place h depth) (slice_get h.waiting (waiting_place h depth)) h.waiting;
        })
        (point_after code.program g.current.function g.block g.point)
    chosen true =
        led g.block (record g { current = with_elements k new g.current }) _ (λ q. refl)
        (point_after code.program g.current.function g.block g.point)
    chosen false =
        led g.block (record g {
          waiting = waiting_with k new (waiting_place g depth) (slice_get g.waiting (waiting_place g depth)) g.waiting;
        })
        _ (λ q. refl) (point_after code.program g.current.function g.block g.point)

-- the array of a call or of the program changes neither the current function nor the point
with-array-same : (array : ArrayName) (new : List ℤ) (h : graph.State)
    → ((with_array array new h).current.function ≡ h.current.function) × ((with_array array new h).point ≡ h.point)
with-array-same Null new h = (refl, refl)
with-array-same Unknown new h = (refl, refl)
with-array-same (Static k) new h = (refl, refl)
with-array-same (InFrame k depth) new h = chosen (depth == depth_of h)
  where
    called : Bool → graph.State
    called test = if test then record h { current = with_elements k new h.current }
        else record h {
          waiting = waiting_with k new (waiting_place h depth) (slice_get h.waiting (waiting_place h depth)) h.waiting;
        }

    chosen : (test : Bool) → ((called test).current.function ≡ h.current.function) × ((called test).point ≡ h.point)
    chosen true = (refl, refl)
    chosen false = (refl, refl)

-- where the machine came to what stands behind the row of such a step, with the input and the output as before, it
-- follows the step once the state behind is shown
pub array-follows : (code : Code) (input : List ℕ) (g : graph.State) (s t : machine.State) (o : Op) (array : ArrayName)
    (new : List ℤ) (rest : List Item) → IsSupported code → IsState code.program g → Shows code input g s
    → op_at code.program g ≡ Some o
    → ((next : ℕ) → IsBehind (flow_at code.program g.current.function) g.point next
    → LeadsTo (flow_at code.program g.current.function) g.point next o)
    → SoundAt (site_of code g.current.function) t → Comes code.text s t
    → ReadyAt (site_of code g.current.function) rest t → IsNext code g rest → t.left ≡ s.left → t.taken ≡ s.taken
    → t.written ≡ s.written
    → ((q : ℕ) → Arrives code input g (moved_to g.block q g.left g.taken g.written g) t
    → ShowsBehind code input g.point (with_array array new (moved_to g.block q g.left g.taken g.written g)) t)
    → FollowsKept code input s g false (onward code.program (with_array array new g))
array-follows code input g s t o array new rest supported state shown has leads sound comes ready follows left taken
    written shows =
    subst (FollowsKept code input s g false) (sym (array-onward code array new g))
    (follow (point_after code.program g.current.function g.block g.point) refl)
  where
    follow : (next : Option ℕ) → point_after code.program g.current.function g.block g.point ≡ next
        → FollowsKept code input s g false
        (leads_to (λ q. with_array array new (moved_to g.block q g.left g.taken g.written g)) next)
    follow None e = tt
    follow (Some q) e = λ kept.
        let site : Site = site_of code g.current.function in
        let more = follows q e in
        let same = with-array-same array new (moved_to g.block q g.left g.taken g.written g) in
        lands code input g.point (with_array array new (moved_to g.block q g.left g.taken g.written g))
        g.current.function q same.0 same.1 s t rest more.0 supported kept
        ((g.block, state.placed), o, has, leads q (g.block, e)) comes ready more.1
        (shows q (record {
          leads = ((g.block, state.placed), o, has, leads q (g.block, e));
          placed = following-in g.point q (points_of (flow_at code.program g.current.function) g.block) e;
          sound = sound;
          left = left ∙ shown.left;
          taken = taken ∙ shown.taken;
          written = written ∙ shown.written;
          of_input = left ∙ shown.of_input ∙ ap (λ (k : ℕ). drop k input) (sym taken);
        }))

pub stored-follows : (code : Code) (input : List ℕ) (g : graph.State) (s u : machine.State) (o : Op) (array : ArrayName)
    (address width : ℕ) (elements : List ℤ) (i : ℕ) (z : ℤ) (after : ℕ) (rest : List Item) → IsSupported code
    → IsState code.program g → (shown : Shows code input g s) → op_at code.program g ≡ Some o → defined o ≡ None
    → ((next : ℕ) → IsBehind (flow_at code.program g.current.function) g.point next
    → LeadsTo (flow_at code.program g.current.function) g.point next o)
    → elements_of code.program g array ≡ Some (width, elements)
    → IsArrayAt code (active_of g) shown.frames array address → i < length elements
    → Keeps OutsideScratch (λ a n. AreDisjoint (address + width * i) width a n) s u
    → load width (address + width * i) u ≡ Ok (cast_unsigned w32 z % 2 ^ (8 * width))
    → SoundAt (site_of code g.current.function) u → Comes code.text s (at_address after u)
    → ReadyAt (site_of code g.current.function) rest (at_address after u) → IsNext code g rest
    → FollowsKept code input s g false (onward code.program (with_array array (slice_set elements i z) g))
stored-follows code input g s u o array address width elements i z after rest supported state shown has none leads is at
    within keeps held sound comes ready follows =
    array-follows code input g s t o array (slice_set elements i z) rest supported state shown has leads
    (sound-at site.text site.low site.high after u sound) comes ready follows keeps.left keeps.taken keeps.written
    (λ q arrives. element-shows code input g s t o array address width elements i z g.block q g.left g.taken g.written
    supported state shown has none is at within outside
    (load-same width (address + width * i) (cast_unsigned w32 z % 2 ^ (8 * width)) u t refl held) arrives)
  where
    site : Site
    site = site_of code g.current.function

    K : ℕ → ℕ → Type 0
    K a n = AreDisjoint (address + width * i) width a n

    t : machine.State
    t = at_address after u

    outside : KeepsOutside code g (address + width * i) width s t
    outside = record {
      esp = word-kept OutsideScratch K Esp s u keeps esp-outside;
      ebp = word-kept OutsideScratch K Ebp s u keeps ebp-outside;
      loads = λ n a w apart e. load-same n a w u t refl (keeps.loads n a w apart e);
      registers = λ v place behind. moved place (register-kept K (placement_of code g.current.function).frame place s u
          keeps ((point-supported code g o supported state has).after v place behind).inside);
    }
      where
        moved : (place : Place) → IsSameRegister place s u → IsSameRegister place s t
        moved (InWord r) h = h
        moved (InByte r) h = h
        moved (InSlot k) h = h

-- ---- stored numbers

half-back : (h : ℕ) → h < 0x10000 → extended16 h % 0x10000 ≡ h
half-back h small = grind (arith, ints)

-- the low bits of a number are those of what is stored
pub stored-low : (bits : Bits) (n : ℤ) → FitsSigned w32 n
    → cast_unsigned w32 n % 2 ^ (8 * bytes_of bits) ≡ cast_unsigned w32 (stored bits n) % 2 ^ (8 * bytes_of bits)
stored-low Eight n fits =
    let m : ℤ = int_wrap w8 n in
    low-byte n fits ∙ sym (low-byte m (element-fits Eight m (stored-fits Eight n fits))
    ∙ ap (cast_unsigned w8) (int_wrap_fits w8 m (SFits-int_wrap w8 n)))
stored-low Sixteen n fits =
    let h : ℕ = cast_unsigned w32 n % 0x10000 in
    sym (ap (λ (k : ℕ). k % 0x10000) (low-half-is n fits) ∙ half-back h (omega arith))
stored-low ThirtyTwo n fits = refl

-- ---- the op

-- an element of an object or an array is in the data
pub element-high : (code : Code) (f : ℕ) (s : machine.State) (width address i v : ℕ) → SoundAt (site_of code f) s
    → data_start code.text ≤ address → 0 < width → load width (address + width * i) s ≡ Ok v
    → address + width * i + width ≤ (site_of code f).high
element-high code f s width address i v sound low some held =
    let site : Site = site_of code f in
    load-place site.text site.low site.high width (address + width * i) v s sound (more address (width * i) low) held
    some
  where
    more : (a m : ℕ) → data_start code.text ≤ a → data_start code.text ≤ a + m
    more a m h = omega (arith, h)

pub put-follows : PutFollows
put-follows bits k a code input g s supported state shown has r =
    followed code input g s (op.Put bits k a) false supported state has (
    given-number (FollowsKept code input s g false) (value_at g a) (puts_scalar code.program g bits k) tt (λ x number.
    subst (λ (e : Option Elements). FollowsKept code input s g false (given e (λ elements.
    of_width bits elements (λ numbers. given (slice_get numbers 0)
    (λ old. onward code.program (with_array (Static k) (with_element numbers (pos 0) (stored bits x)) g))))))
    (sym (static-elements code g s k there))
    (given-width (FollowsKept code input s g false) bits (there.object.width, there.elements)
    (λ numbers. given (slice_get numbers 0)
    (λ old. onward code.program (with_array (Static k) (with_element numbers (pos 0) (stored bits x)) g))) tt (λ wide.
    given-any (FollowsKept code input s g false) (slice_get there.elements 0)
    (λ old. onward code.program (with_array (Static k) (slice_set there.elements 0 (stored bits x)) g)) tt
    (λ old e. follow x number old e wide)))))
  where
    o : Op
    o = op.Put bits k a

    site : Site
    site = site_of code g.current.function

    frame : ℕ
    frame = (placement_of code g.current.function).frame

    lt : k < length code.program.objects
    lt = object-within code g o k supported state has (λ h. h)

    there : HasObject code g s k
    there = has-object code input g s k supported state shown lt

    some-bytes : (b : Bits) → 0 < bytes_of b
    some-bytes Eight = omega arith
    some-bytes Sixteen = omega arith
    some-bytes ThirtyTwo = omega arith

    follow : (x : ℤ) → value_at g a ≡ Some (Number x) → (old : ℤ) → slice_get there.elements 0 ≡ Some old
        → there.object.width ≡ bytes_of bits
        → FollowsKept code input s g false
        (onward code.program (with_array (Static k) (slice_set there.elements 0 (stored bits x)) g))
    follow x number old e wide =
        let n : ℕ = bytes_of bits in
        let fits = (op-is code g o supported state has).fits in
        let framed : Framed site frame s = (shown-in-frame code input g s supported state shown).framed in
        let one = has-number code input g s o a x supported state shown has (inl refl) fits.0 number in
        let named = named-row code g Edi k (store_to bits one.place) s
        (at-before code g s a one.place (λ p. put_row bits k p) one.at r) in
        let z : ℤ = named.number in
        let d : ℕ = cast_unsigned w32 z in
        let same : there.address ≡ d = object-named code g s k d supported there named.names in
        let small : d < 2 ^ 32 = subst (λ (b : ℕ). b < 2 ^ 32) same there.small in
        let placed = subst (λ (b : ℕ). slice_get code.symbols.objects k ≡ Some b) same there.placed in
        let low = (object-at code g k d there.elements there.object supported state there.has there.declared placed).low
        in
        let stand = subst (λ (w : ℕ). ElementsStand s d w there.elements) wide
        (subst (λ (b : ℕ). ElementsStand s b there.object.width there.elements) same there.stand) in
        let before = stand.1 0 old e in
        let first : d + n * 0 ≡ d = omega arith in
        let above : data_start code.text ≤ d = omega (arith, low) in
        let top = element-high code g.current.function s n d 0 before.0 framed.sound above (some-bytes bits) before.1 in
        let gives = gives-word site frame (insn.MovImm (rm.Reg Edi) z) Edi d s framed edi-works small
        (number-makes site Edi z s framed.sound) in
        let m : machine.State = gives.0 in
        let holds = contains-kept (OutsideWord Edi) Anywhere s m Two one.place (cast_unsigned w32 x) gives.1.keeps
        (λ j below. (ebp-outside j below).1) (edi-outside frame one.place one.inside)
        (all-memory (word_of Ebp s) one.place)
        one.contains in
        let puts = element-stores site frame bits one.place d (cast_unsigned w32 x) m gives.1.framed one.holds
        one.inside
        holds (word-fits x one.fits) gives.1.value above (subst (λ (b : ℕ). b + n ≤ site.high) first top) in
        let u : machine.State = puts.0 in
        let K : ℕ → ℕ → Type 0 = λ b l. AreDisjoint d n b l in
        let keeps : Keeps OutsideScratch K s u = keeps-then OutsideScratch K s m u
        (keeps-stricter (OutsideWord Edi) OutsideScratch Anywhere K s m (λ j h. h.1) (λ b l h. tt) gives.1.keeps)
        puts.1.keeps in
        let items : List Item = plain (insn.MovImm (rm.Reg Edi) z) ∷ store_to bits one.place in
        let own : at_address s.eip s ≡ s = at-own-address code g.current.function (items ++ named.row.rest) s supported
        named.row.ready in
        let ready : ReadyAt site (items ++ named.row.rest) (at_address s.eip s) =
        subst (ReadyAt site (items ++ named.row.rest)) (sym own) named.row.ready in
        let went = straight-goes site items named.row.rest s u s.eip framed.sound ready
        (leads-join site (plain (insn.MovImm (rm.Reg Edi) z) ∷ []) (store_to bits one.place) s m u gives.1.leads
        puts.1.leads) in
        let held : load n d u ≡ Ok (cast_unsigned w32 (stored bits x) % 2 ^ (8 * n)) =
        puts.1.value ∙ ap (λ (w : ℕ). let q : Result ℕ End = Ok w in q) (stored-low bits x one.fits) in
        stored-follows code input g s u o (Static k) d n there.elements 0 (stored bits x) went.0 named.row.rest
        supported
        state shown has refl (λ next h. h)
        (static-elements code g s k there
        ∙ ap (λ (w : ℕ). let q : Option Elements = Some (w, there.elements) in q) wide) (lt, placed)
        (slice_get_within there.elements 0 old e)
        (subst (λ (b : ℕ). Keeps OutsideScratch (λ c l. AreDisjoint b n c l) s u) (sym first) keeps)
        (subst (λ (b : ℕ). load n b u ≡ Ok (cast_unsigned w32 (stored bits x) % 2 ^ (8 * n))) (sym first) held)
        puts.1.framed.sound
        (subst (λ (v : machine.State). Comes code.text v (at_address went.0 u)) own went.1) went.2 named.row.follows

-- An element in memory comes to a place, and the machine follows the op that reads a static object of one element.
use Rattle.std.proofs.Common.{◌≡◌, ℕ, ◌+◌, ◌*◌, ◌%◌, ◌^◌, ◌<◌, ◌≤◌, ℤ, Bool, true, false}
use Rattle.std.proofs.Common.{List, [], ◌∷◌, length, Option, Some, None, Ok, refl, sym, ap, subst, ◌∙◌}
use Rattle.std.proofs.Common.{arith}
use Rattle.std.specs.Prelude.{◌==◌, ⊤, Result, FitsSigned, if◌then◌else◌, option_map, slice_get}
use Rattle.std.specs.Int.{w8, w16, w32, cast_unsigned}
use Rattle.std.proofs.lemmas.Bool.Decides.{nat_tests}
use Rattle.std.proofs.lemmas.Int.{int_wrap_fits, ints, to_z-of_z}
use Rattle.pcc_base.specs.Objects.{FitsBytes}
use Rattle.pcc_base.specs.Outcome.{End, Static, Number, Value}
use Rattle.pcc_base.specs.declared.run.Width.{Width}
use Rattle.pcc_base.specs.declared.run.Width.TheVariants.{Two}
use Rattle.ia32_insn.specs.declared.register_names.Reg32.{Reg32}
use Rattle.ia32_insn.specs.declared.register_names.Reg32.TheVariants.{Ebp, Esi}
use Rattle.ia32_insn.specs.Places.{Place}
use Rattle.ia32_insn.specs.declared.operand.Mem.{Mem}
use Rattle.ia32_insn.specs.declared.operand.Rm32.TheVariants as rm
use Rattle.ia32_insn.specs.declared.insn.Insn.TheVariants as insn
use Rattle.ia32_insn.specs.State as machine
use Rattle.ia32_insn.specs.State.{State, at_address}
use Rattle.ia32_insn.specs.Arithmetic.{extended8, extended16}
use Rattle.ia32_insn.specs.Meaning.{address_of, and_then, base_value, index_value, load, with_word}
use Rattle.ia32_insn.specs.Items.{near, plain}
use Rattle.flow_graph.specs.declared.op.Bits.{Bits}
use Rattle.flow_graph.specs.declared.op.Bits.TheVariants.{Eight, Sixteen, ThirtyTwo}
use Rattle.flow_graph.specs.declared.op.Op.{Op}
use Rattle.flow_graph.specs.declared.op.Op.TheVariants as op
use Rattle.flow_graph.specs.Meaning.{Moved, Stuck, bytes_of, given, of_width, sets}
use Rattle.flow_graph.specs.States as graph
use Rattle.flow_graph.specs.States.{Elements, active_of, elements_of, elements_with, flow_at}
use Rattle.flow_graph.proofs.Lists.{All-at}
use Rattle.flow_graph.proofs.Numbers.{element-fits}
use Rattle.ia32_laws.proofs.Landing.{FollowsKept, followed}
use Rattle.ia32_rows.specs.Placements.{Code, placement_of}
use Rattle.ia32_rows.specs.Shows.{ElementsStand}
use Rattle.ia32_rows.specs.Sites.{Framed, Site}
use Rattle.ia32_rows.proofs.Sound.{load-same, sound-with_word}
use Rattle.ia32_rows.specs.Rows.{get_row, load_from, loading, target_of}
use Rattle.ia32_rows.specs.Effects.{Makes, OutsideWord}
use Rattle.ia32_rows.specs.Contains.{IsPlaceIn}
use Rattle.ia32_rows.specs.Laws.{Gives, IsWorking, Puts}
use Rattle.ia32_rows.proofs.Instructions.{number-makes}
use Rattle.ia32_rows.proofs.Kept.{other-cells}
use Rattle.ia32_rows.proofs.Moves.{gives-word}
use Rattle.ia32_rows.proofs.Sums.{esi-works, target-puts}
use Rattle.ia32_laws.specs.Supports.{site_of}
use Rattle.ia32_laws.proofs.Ops.{at-after, op-is}
use Rattle.ia32_laws.proofs.Puts.{IsLow, puts-follow}
use Rattle.ia32_laws.proofs.Shown.{point-supported}
use Rattle.ia32_laws.proofs.Words.{low-byte, word-fits}
use Rattle.ia32_laws.proofs.Zones.{shown-in-frame}
use Rattle.ia32_laws.proofs.Goes.{Goes, goes-of, goes-stricter, goes-then, puts-plain, target-within, target-works}
use Rattle.ia32_laws.proofs.Goes.{then-written}
use Rattle.ia32_laws.proofs.Numbers.{low-half-is}
use Rattle.ia32_laws.specs.AccessesLaws.{LoadPuts, widened}
use Rattle.ia32_laws.specs.AccessesOps.{GetFollows}
use Rattle.ia32_laws.proofs.AccessesAddresses.{HasObject, has-object, named-row, object-named}
use Rattle.ia32_laws.proofs.AccessesAddresses.{object-within}

-- ---- words of elements

byte-fits : (n : ℤ) → FitsBytes 1 n → FitsSigned w8 n
byte-fits n h = grind (arith, ints)

half-fits : (n : ℤ) → FitsBytes 2 n → FitsSigned w16 n
half-fits n h = grind (arith, ints)

-- a number of fewer bits, as MOVSX makes it of its low bits
byte-of-number : (n : ℤ) → FitsBytes 1 n → extended8 (cast_unsigned w32 n % 256) ≡ cast_unsigned w32 n
byte-of-number n h =
    let fits : FitsSigned w8 n = byte-fits n h in
    ap extended8 (low-byte n (element-fits Eight n h) ∙ ap (cast_unsigned w8) (int_wrap_fits w8 n fits))
    ∙ ap (cast_unsigned w32) (to_z-of_z w8 n fits)

half-of-number : (n : ℤ) → FitsBytes 2 n → extended16 (cast_unsigned w32 n % 2 ^ 16) ≡ cast_unsigned w32 n
half-of-number n h =
    let fits : FitsSigned w16 n = half-fits n h in
    sym (low-half-is n (element-fits Sixteen n h)) ∙ ap (cast_unsigned w32) (int_wrap_fits w16 n fits)

-- a number of 32 bits has no others
whole-word : (k : ℕ) → k < 2 ^ 32 → k % 2 ^ 32 ≡ k
whole-word k h = omega (arith, h)

-- the word of an element is that of its number
pub element-word : (bits : Bits) (n : ℤ) → FitsBytes (bytes_of bits) n
    → widened bits (cast_unsigned w32 n % 2 ^ (8 * bytes_of bits)) ≡ cast_unsigned w32 n
element-word Eight n h = byte-of-number n h
element-word Sixteen n h = half-of-number n h
element-word ThirtyTwo n h = whole-word (cast_unsigned w32 n) (word-fits n (element-fits ThirtyTwo n h))

-- what is loaded is no more than its bytes hold
pub element-small : (bits : Bits) (k : ℕ) → k % 2 ^ (8 * bytes_of bits) < 2 ^ (8 * bytes_of bits)
element-small Eight k = omega arith
element-small Sixteen k = omega arith
element-small ThirtyTwo k = omega arith

widened-fits : (bits : Bits) (v : ℕ) → v < 2 ^ (8 * bytes_of bits) → widened bits v < 2 ^ 32
widened-fits Eight v h = grind (arith, ints)
widened-fits Sixteen v h = grind (arith, ints)
widened-fits ThirtyTwo v h = h

-- ---- an element to a register

-- where a place in memory is doesn't depend on EIP
base-at : (base : Option Reg32) (address : ℕ) (s : State) → base_value base (at_address address s) ≡ base_value base s
base-at None address s = refl
base-at (Some r) address s = refl

index-at : (index : Option (Reg32 × ℕ)) (address : ℕ) (s : State)
    → index_value index (at_address address s) ≡ index_value index s
index-at None address s = refl
index-at (Some i) address s = refl

pub place-at : (m : Mem) (address : ℕ) (s : State) → address_of m (at_address address s) ≡ address_of m s
place-at m address s =
    ap (λ (b : ℕ). (b + index_value m.index (at_address address s) + cast_unsigned w32 m.disp) % 0x1_0000_0000)
    (base-at m.base address s)
    ∙ ap (λ (i : ℕ). (base_value m.base s + i + cast_unsigned w32 m.disp) % 0x1_0000_0000) (index-at m.index address s)

-- what is loaded there doesn't either
pub loaded-at : (n : ℕ) (m : Mem) (v address : ℕ) (s : State) → load n (address_of m s) s ≡ Ok v
    → load n (address_of m (at_address address s)) (at_address address s) ≡ Ok v
loaded-at n m v address s held =
    ap (λ (a : ℕ). load n a (at_address address s)) (place-at m address s)
    ∙ load-same n (address_of m s) v s (at_address address s) refl held

loading-makes : (site : Site) (frame : ℕ) (bits : Bits) (t : Reg32) (m : Mem) (v : ℕ) (s : State) → Framed site frame s
    → load (bytes_of bits) (address_of m s) s ≡ Ok v
    → Makes site (loading bits t m) s (with_word t (widened bits v) s)
loading-makes site frame Eight t m v s framed held =
    record {
      straight = tt;
      does = λ address. ap (λ (x : Result ℕ End). and_then x
          (λ value. let q : Result State End = Ok (with_word t (extended8 value) (at_address address s)) in q))
          (loaded-at 1 m v address s held);
      sound = sound-with_word site.text site.low site.high t (extended8 v) s framed.sound;
    }
loading-makes site frame Sixteen t m v s framed held =
    record {
      straight = tt;
      does = λ address. ap (λ (x : Result ℕ End). and_then x
          (λ value. let q : Result State End = Ok (with_word t (extended16 value) (at_address address s)) in q))
          (loaded-at 2 m v address s held);
      sound = sound-with_word site.text site.low site.high t (extended16 v) s framed.sound;
    }
loading-makes site frame ThirtyTwo t m v s framed held =
    record {
      straight = tt;
      does = λ address. ap (λ (x : Result ℕ End). and_then x
          (λ value. let q : Result State End = Ok (with_word t value (at_address address s)) in q))
          (loaded-at 4 m v address s held);
      sound = sound-with_word site.text site.low site.high t v s framed.sound;
    }

loading-gives : (site : Site) (frame : ℕ) (bits : Bits) (t : Reg32) (m : Mem) (address v : ℕ) (s : State)
    → Framed site frame s → IsWorking t → address_of m s ≡ address → load (bytes_of bits) address s ≡ Ok v
    → v < 2 ^ (8 * bytes_of bits) → (u : State) × Gives site frame (plain (loading bits t m) ∷ []) t (widened bits v) s
    u
loading-gives site frame bits t m address v s framed works at held small =
    gives-word site frame (loading bits t m) t (widened bits v) s framed works (widened-fits bits v small)
    (loading-makes site frame bits t m v s framed
    (subst (λ (a : ℕ). load (bytes_of bits) a s ≡ Ok v) (sym at) held))

pub load-puts : LoadPuts
load-puts site frame bits p m address v s framed room to at held small =
    target-puts site frame (plain (loading bits (target_of p) m) ∷ []) p (widened bits v) s room to
    (loading-gives site frame bits (target_of p) m address v s framed (target-works frame p to) at held small)

-- ---- a static object of one element

-- the address in a register is that of what is near it
pub near-address : (base : ℕ) → base < 0x1_0000_0000 → (base + 0 + 0) % 0x1_0000_0000 ≡ base
near-address base h = omega (arith, h)

-- a number in ESI, and the element at that address
got-puts : (site : Site) (frame : ℕ) (bits : Bits) (p : Place) (z : ℤ) (v : ℕ) (s : State) → Framed site frame s
    → 16 ≤ frame → IsPlaceIn frame p → cast_unsigned w32 z < 2 ^ 32
    → load (bytes_of bits) (cast_unsigned w32 z) s ≡ Ok v → v < 2 ^ (8 * bytes_of bits)
    → (u : State) × Puts site frame (plain (insn.MovImm (rm.Reg Esi) z) ∷ load_from bits p (near Esi 0)) p
    (widened bits v) s u
got-puts site frame bits p z v s framed room to fits held small =
    let a : ℕ = cast_unsigned w32 z in
    let t : Reg32 = target_of p in
    let works = target-works frame p to in
    let R : ℕ → Type 0 = λ k. OutsideWord t k × OutsideWord Esi k in
    let first = gives-word site frame (insn.MovImm (rm.Reg Esi) z) Esi a s framed esi-works fits
    (number-makes site Esi z s framed.sound) in
    let m : State = first.0 in
    let at : address_of (near Esi 0) m ≡ a =
    ap (λ (b : ℕ). (b + 0 + 0) % 0x1_0000_0000) first.1.value ∙ near-address a fits in
    let second = loading-gives site frame bits t (near Esi 0) a v m first.1.framed works at
    (first.1.keeps.loads (bytes_of bits) a v tt held) small in
    let n : State = second.0 in
    let one : Goes R site frame (plain (insn.MovImm (rm.Reg Esi) z) ∷ []) s m =
    goes-stricter (OutsideWord Esi) R site frame (plain (insn.MovImm (rm.Reg Esi) z) ∷ []) s m (λ k h. h.1)
    (goes-of site frame (plain (insn.MovImm (rm.Reg Esi) z) ∷ []) Esi a s m first.1) in
    let two : Goes R site frame (plain (loading bits t (near Esi 0)) ∷ []) m n =
    goes-stricter (OutsideWord t) R site frame (plain (loading bits t (near Esi 0)) ∷ []) m n (λ k h. h.0)
    (goes-of site frame (plain (loading bits t (near Esi 0)) ∷ []) t (widened bits v) m n second.1) in
    let both : Goes R site frame (plain (insn.MovImm (rm.Reg Esi) z) ∷ plain (loading bits t (near Esi 0)) ∷ []) s n =
    goes-then R site frame (plain (insn.MovImm (rm.Reg Esi) z) ∷ []) (plain (loading bits t (near Esi 0)) ∷ []) s m n
    one two in
    let last = then-written R (λ c. ⊤) site frame
    (plain (insn.MovImm (rm.Reg Esi) z) ∷ plain (loading bits t (near Esi 0)) ∷ []) p t (widened bits v) s n both
    (λ k below. (other-cells Ebp t works.1 k below, other-cells Ebp Esi (λ e. omega arith) k below))
    (λ k h q. (target-within p k h, h.1)) room to second.1.value in (
      last.0,
      puts-plain site frame (plain (insn.MovImm (rm.Reg Esi) z) ∷ load_from bits p (near Esi 0)) p (widened bits v) s
          last.0 last.1,
    )

-- ---- steps of what there is

-- a step with what there is
pub given-any : {A : Type 0} (P : Moved → Type 0) (o : Option A) (go : A → Moved) → P Stuck
    → ((x : A) → o ≡ Some x → P (go x)) → P (given o go)
given-any P None go none some = none
given-any P (Some x) go none some = some x refl

-- a step with elements of so many bits
pub given-width : (P : Moved → Type 0) (bits : Bits) (array : Elements) (go : List ℤ → Moved) → P Stuck
    → (array.0 ≡ bytes_of bits → P (go array.1)) → P (of_width bits array go)
given-width P bits array go none some = chosen (array.0 == bytes_of bits) refl
  where
    alike : (m n : ℕ) → (m == n) ≡ true → m ≡ n
    alike m n e = grind (arith, nat_tests)

    chosen : (test : Bool) → (array.0 == bytes_of bits) ≡ test → P (if test then go array.1 else Stuck)
    chosen true e = some (alike array.0 (bytes_of bits) e)
    chosen false e = none

-- the elements of a static object
pub static-elements : (code : Code) (g : graph.State) (s : machine.State) (k : ℕ) → (h : HasObject code g s k)
    → elements_of code.program g (Static k) ≡ Some (h.object.width, h.elements)
static-elements code g s k h =
    ap (λ (o : Option graph.Object). elements_with (option_map (λ (x : graph.Object). x.width) o)
    (slice_get g.objects k)) h.declared
    ∙ ap (elements_with (Some h.object.width)) h.has

-- ---- the op

pub get-follows : GetFollows
get-follows bits d k code input g s supported state shown has r =
    followed code input g s (op.Get bits d k) false supported state has (
    subst (λ (e : Option Elements).
    FollowsKept code input s g false (given e (λ elements. of_width bits elements step)))
    (sym (static-elements code g s k there))
    (given-width (FollowsKept code input s g false) bits (there.object.width, there.elements) step tt (λ wide.
    given-any (FollowsKept code input s g false) (slice_get there.elements 0) (λ n. sets code.program g d (Number n)) tt
    (λ n e. follow n e wide))))
  where
    o : Op
    o = op.Get bits d k

    site : Site
    site = site_of code g.current.function

    frame : ℕ
    frame = (placement_of code g.current.function).frame

    lt : k < length code.program.objects
    lt = object-within code g o k supported state has (λ h. h)

    there : HasObject code g s k
    there = has-object code input g s k supported state shown lt

    step : List ℤ → Moved
    step numbers = given (slice_get numbers 0) (λ n. sets code.program g d (Number n))

    follow : (n : ℤ) → slice_get there.elements 0 ≡ Some n → there.object.width ≡ bytes_of bits
        → FollowsKept code input s g false (sets code.program g d (Number n))
    follow n e wide =
        let here = point-supported code g o supported state has in
        let (place, at) = here.written d refl in
        let for = here.after d place at in
        let fits = (op-is code g o supported state has).fits in
        let framed : Framed site frame s = (shown-in-frame code input g s supported state shown).framed in
        let four = (supported.supports g.current.function state.active.0.function).four_words in
        let t : Reg32 = target_of place in
        let named = named-row code g Esi k (load_from bits place (near Esi 0)) s
        (at-after code g s d place (λ p. get_row bits p k) at r) in
        let z : ℤ = named.number in
        let a : ℕ = cast_unsigned w32 z in
        let same : there.address ≡ a = object-named code g s k a supported there named.names in
        let small : a < 2 ^ 32 = subst (λ (b : ℕ). b < 2 ^ 32) same there.small in
        let fit : FitsBytes (bytes_of bits) n = subst (λ (w : ℕ). FitsBytes w n) wide
        (All-at (FitsBytes there.object.width) there.elements 0 n there.fit.fit e) in
        let stand = subst (λ (w : ℕ). ElementsStand s a w there.elements) wide
        (subst (λ (b : ℕ). ElementsStand s b there.object.width there.elements) same there.stand) in
        let one = stand.1 0 n e in
        let v : ℕ = cast_unsigned w32 n % 2 ^ (8 * bytes_of bits) in
        let first : a + bytes_of bits * 0 ≡ a = omega arith in
        let held : load (bytes_of bits) a s ≡ Ok v =
        subst (λ (b : ℕ). load (bytes_of bits) b s ≡ Ok v) first
        (one.1 ∙ ap (λ (x : ℕ). let q : Result ℕ End = Ok x in q) one.2) in
        let w : ℕ = widened bits v in
        let value : Value = Number n in
        let is : IsLow code (active_of g) shown.frames (Some Two) value w =
        (element-fits bits n fit, element-word bits n fit) in
        puts-follow code input g s o d w value place
        (plain (insn.MovImm (rm.Reg Esi) z) ∷ load_from bits place (near Esi 0)) supported state shown has refl
        (λ next h. h) named.row at
        (got-puts site frame bits place z v s framed four for.inside small held
        (element-small bits (cast_unsigned w32 n)))
        (subst (λ (x : Option Width). IsLow code (active_of g) shown.frames x value w) (sym fits.0) is) tt

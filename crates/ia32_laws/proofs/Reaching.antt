-- The machine follows loads and stores of elements through their rows.
use Rattle.std.proofs.Common.{◌≡◌, ℕ, ◌+◌, ◌*◌, ◌%◌, ◌^◌, ◌<◌, ◌≤◌, ℤ, false, List, ◌++◌}
use Rattle.std.proofs.Common.{length, Option, Some, Ok, inl, inr, refl, sym, ap, subst, ◌∙◌, arith, append_assoc}
use Rattle.std.specs.Prelude.{Result, slice_get, slice_set}
use Rattle.std.specs.Int.{w32, cast_unsigned}
use Rattle.std.proofs.Math.Nat.{mul_comm}
use Rattle.std.proofs.lemmas.Option.{slice_get_within}
use Rattle.pcc_base.specs.Objects.{FitsBytes}
use Rattle.pcc_base.specs.Outcome.{ArrayName, End, Number}
use Rattle.pcc_base.specs.declared.run.Width.{Width}
use Rattle.pcc_base.specs.declared.run.Width.TheVariants.{Two}
use Rattle.ia32_insn.specs.declared.register_names.Reg32.TheVariants.{Ebp}
use Rattle.ia32_insn.specs.Places.{Place}
use Rattle.ia32_insn.specs.declared.operand.Mem.{Mem}
use Rattle.ia32_insn.specs.declared.item.Item.{Item}
use Rattle.ia32_insn.specs.State as machine
use Rattle.ia32_insn.specs.State.{at_address}
use Rattle.ia32_insn.specs.Keeps.{AreDisjoint}
use Rattle.ia32_insn.specs.Meaning.{address_of, load, word_of}
use Rattle.flow_graph.specs.declared.op.Bits.{Bits}
use Rattle.flow_graph.specs.declared.op.Op.{Op}
use Rattle.flow_graph.specs.declared.op.Op.TheVariants as op
use Rattle.flow_graph.specs.Graphs.{FitsOp}
use Rattle.flow_graph.specs.Meaning.{bytes_of, checked, given, loads, onward, sets, stored, stores}
use Rattle.flow_graph.specs.States.{active_of, array_at, element_at, elements_of, flow_at, number_at, value_at}
use Rattle.flow_graph.specs.States.{with_array, with_element}
use Rattle.flow_graph.proofs.Numbers.{element-fits}
use Rattle.flow_graph.proofs.Values.{number-is}
use Rattle.ia32_laws.proofs.Landing.{FollowsKept, followed}
use Rattle.ia32_rows.specs.Placements.{Code, placement_of}
use Rattle.ia32_rows.specs.Shows.{IsArrayAt}
use Rattle.ia32_rows.specs.Sites.{Anywhere, Framed, ReadyAt, Site}
use Rattle.ia32_rows.proofs.Steps.{comes-then}
use Rattle.ia32_rows.specs.Rows.{checking, element, index_register, load_from, load_row, store_at, store_row, target_of}
use Rattle.ia32_rows.specs.Effects.{Keeps}
use Rattle.ia32_rows.specs.Contains.{ApartFromPlace, Untouched}
use Rattle.ia32_rows.proofs.Kept.{contains-kept, keeps-stricter, keeps-then, word-kept}
use Rattle.ia32_rows.proofs.Straight.{straight-goes}
use Rattle.ia32_laws.specs.Supports.{site_of}
use Rattle.ia32_laws.specs.KeepsOps.{RowAt, before_at}
use Rattle.ia32_laws.proofs.Ops.{HasNumber, at-after, at-before, has-number, op-is}
use Rattle.ia32_laws.proofs.Puts.{IsLow}
use Rattle.ia32_laws.proofs.Shown.{point-supported}
use Rattle.ia32_laws.proofs.Words.{word-fits}
use Rattle.ia32_laws.proofs.Zones.{shown-in-frame}
use Rattle.ia32_laws.proofs.Routines.{check-stands}
use Rattle.ia32_laws.specs.AccessesLaws.{OutsideScratch, widened}
use Rattle.ia32_laws.specs.AccessesOps.{LoadFollows, StoreFollows}
use Rattle.ia32_laws.proofs.Accessing.{HasArrayIn, IsThere, at-start, by-array, by-element, ends-there, has-array}
use Rattle.ia32_laws.proofs.Accessing.{is-there}
use Rattle.ia32_laws.proofs.Accessing.{element-bytes, reached-follows, some-bytes}
use Rattle.ia32_laws.proofs.Checking.{Came, checks-pass, null-fails, past-fails}
use Rattle.ia32_laws.proofs.Elements.{all-memory, ebp-outside, element-high}
use Rattle.ia32_laws.proofs.Elements.{scratch-outside}
use Rattle.ia32_laws.proofs.Elements.{stored-follows, stored-low}
use Rattle.ia32_laws.proofs.Loading.{element-small, element-word, given-any, load-puts}
use Rattle.ia32_laws.proofs.Storing.{place-stores}

-- the address of an element, by the array's word and the index in registers
element-address : (code : Code) (f : ℕ) (bits : Bits) (p q : Place) (w i : ℕ) (u : machine.State)
    → word_of (target_of p) u ≡ w → word_of (index_register q) u ≡ i → w + bytes_of bits * i < 0x1_0000_0000
    → address_of (element (bytes_of bits) (target_of p) (index_register q)) u ≡ w + bytes_of bits * i
element-address code f bits p q w i u base index fits =
    ap (λ (b : ℕ). (b + word_of (index_register q) u * bytes_of bits + 0) % 0x1_0000_0000) base
    ∙ ap (λ (j : ℕ). (w + j * bytes_of bits + 0) % 0x1_0000_0000) index
    ∙ counted w i (bytes_of bits) (mul_comm i (bytes_of bits)) fits
  where
    counted : (w i n : ℕ) → i * n ≡ n * i → w + n * i < 0x1_0000_0000 → (w + i * n + 0) % 0x1_0000_0000 ≡ w + n * i
    counted w i n e h = omega (arith, e, h)

-- ---- loads

pub load-follows : LoadFollows
load-follows bits d p i code input g s supported state shown has r =
    followed code input g s (op.Load bits d p i) false supported state has (
    given-any (FollowsKept code input s g false) (array_at g p)
    (λ array. given (number_at g i) (loads code.program g bits d array)) tt (λ array a_is.
    given-any (FollowsKept code input s g false) (number_at g i) (loads code.program g bits d array) tt (λ z z_is.
    both array a_is z z_is)))
  where
    o : Op
    o = op.Load bits d p i

    site : Site
    site = site_of code g.current.function

    frame : ℕ
    frame = (placement_of code g.current.function).frame

    fits : FitsOp (flow_at code.program g.current.function) o
    fits = (op-is code g o supported state has).fits

    framed : Framed site frame s
    framed = (shown-in-frame code input g s supported state shown).framed

    both : (array : ArrayName) → array_at g p ≡ Some array → (z : ℤ) → number_at g i ≡ Some z
        → FollowsKept code input s g false (loads code.program g bits d array z)
    both array a_is z z_is =
        by-array (FollowsKept code input s g false) code g bits array
        (λ elements. checked (element_at elements z) (λ n. sets code.program g d (Number n)))
        (λ none. ends-there code input g s shown
        (null-fails site frame one.place two.place one.word index 0 back s s.eip one.holds one.inside one.contains
        one.small two.holds two.inside two.contains (word-fits z two.fits) came
        (subst (λ (a : ArrayName). IsArrayAt code (active_of g) shown.frames a one.word) none one.is)
        (check-stands code g.current.function supported))) tt
        (λ elements is. inside elements is (is-there code input g s array one.word (bytes_of bits) elements supported
        state shown (some-bytes bits) is one.is))
      where
        one : HasArrayIn code g shown.frames s p array
        one = has-array code input g s o p array supported state shown has (inl refl) fits.1.0 a_is

        two : HasNumber code g s i z
        two = has-number code input g s o i z supported state shown has (inr (inl refl)) fits.1.1.0
            (number-is (value_at g i) z z_is)

        index : ℕ
        index = cast_unsigned w32 z

        to : (place : Place) × ((placement_of code g.current.function).after g.point d ≡ Some place)
        to = (point-supported code g o supported state has).written d refl

        place : Place
        place = to.0

        row : RowAt code g (load_row bits place one.place two.place) s
        row = at-before code g s i two.place (λ q. load_row bits place one.place q) two.at
            (at-before code g s p one.place (λ q. load_row bits place q (before_at code g i)) one.at
            (at-after code g s d place (λ q. load_row bits q (before_at code g p) (before_at code g i)) to.1 r))

        m : Mem
        m = element (bytes_of bits) (target_of one.place) (index_register two.place)

        back : List Item
        back = load_from bits place m ++ row.rest

        came : Came site frame (checking one.place two.place ++ back) s s s.eip
        came = at-start code g frame (checking one.place two.place ++ back) s supported framed
            (subst (λ (xs : List Item). ReadyAt site xs s)
            (append_assoc (checking one.place two.place) (load_from bits place m) row.rest) row.ready)

        inside : (elements : List ℤ) → elements_of code.program g array ≡ Some (bytes_of bits, elements)
            → IsThere code s one.word (bytes_of bits) elements
            → FollowsKept code input s g false (checked (element_at elements z) (λ n. sets code.program g d (Number n)))
        inside elements is there =
            by-element (FollowsKept code input s g false) elements z (λ n. sets code.program g d (Number n)) two.fits
            there.few
            (λ past. ends-there code input g s shown
            (past-fails site frame one.place two.place one.word index (length elements) back s s.eip one.holds
            one.inside
            one.contains one.small two.holds two.inside two.contains (word-fits z two.fits) came there.now.front
            there.now.stand.0 past (check-stands code g.current.function supported)))
            (λ k n e f has_n. found k n f has_n)
          where
            found : (k : ℕ) (n : ℤ) → index ≡ k → slice_get elements k ≡ Some n
                → FollowsKept code input s g false (sets code.program g d (Number n))
            found k n f has_n =
                let size : ℕ = bytes_of bits in
                let lt : k < length elements = slice_get_within elements k n has_n in
                let value = there.now.stand.1 k n has_n in
                let v : ℕ = cast_unsigned w32 n % 2 ^ (8 * size) in
                let a : ℕ = one.word + size * k in
                let held : load size a s ≡ Ok v =
                value.1 ∙ ap (λ (x : ℕ). let q : Result ℕ End = Ok x in q) value.2 in
                let top = element-high code g.current.function s size one.word k v framed.sound there.low
                (some-bytes bits) held in
                let high = framed.sound.below in
                let pass = checks-pass site frame one.place two.place one.word index (length elements) back s s.eip
                one.holds one.inside one.contains one.small two.holds two.inside two.contains (word-fits z two.fits)
                came
                there.now.front there.now.stand.0 (subst (λ (j : ℕ). j < length elements) (sym f) lt) in
                let u : machine.State = pass.0 in
                let at : address_of m u ≡ a =
                element-address code g.current.function bits one.place two.place one.word k u pass.3 (pass.4 ∙ f)
                (omega (arith, top, high)) in
                let four = (supported.supports g.current.function state.active.0.function).four_words in
                let for = (point-supported code g o supported state has).after d place to.1 in
                let puts = load-puts site frame bits place m a v u pass.2.framed four for.inside at
                (pass.2.keeps.loads size a v tt held) (element-small bits (cast_unsigned w32 n)) in
                let t : machine.State = puts.0 in
                let went = straight-goes site (load_from bits place m) row.rest u t pass.1 pass.2.framed.sound
                pass.2.ready puts.1.leads in
                let fit : FitsBytes size n = element-bytes code input g s array one.word size elements supported state
                shown is one.is k n has_n
                in
                let ebp : word_of Ebp u ≡ word_of Ebp s =
                word-kept OutsideScratch Anywhere Ebp s u pass.2.keeps ebp-outside in
                let K = ApartFromPlace (word_of Ebp s) place in
                let low : IsLow code (active_of g) shown.frames (Some Two) (Number n) (widened bits v) =
                (element-fits bits n fit, element-word bits n fit) in
                reached-follows code input g s t o d (widened bits v) (Number n) place went.0 row.rest supported state
                shown has refl (λ next h. h) to.1
                (keeps-then (Untouched place) K s u t
                (keeps-stricter OutsideScratch (Untouched place) Anywhere K s u (λ c h. (h.1, h.2)) (λ b l h. tt)
                pass.2.keeps)
                (subst (λ (b : ℕ). Keeps (Untouched place) (ApartFromPlace b place) u t) ebp puts.1.keeps))
                puts.1.holds puts.1.framed.sound
                (comes-then code.text s (at_address pass.1 u) (at_address went.0 t) pass.2.comes went.1) went.2
                row.follows
                (subst (λ (x : Option Width). IsLow code (active_of g) shown.frames x (Number n) (widened bits v))
                (sym fits.0) low) tt

-- ---- stores

pub store-follows : StoreFollows
store-follows bits p i c code input g s supported state shown has r =
    followed code input g s (op.Store bits p i c) false supported state has (
    given-any (FollowsKept code input s g false) (array_at g p)
    (λ array. given (number_at g i) (λ index. given (number_at g c) (stores code.program g bits array index))) tt
    (λ array a_is. given-any (FollowsKept code input s g false) (number_at g i)
    (λ index. given (number_at g c) (stores code.program g bits array index)) tt
    (λ z z_is. given-any (FollowsKept code input s g false) (number_at g c) (stores code.program g bits array z) tt
    (λ x x_is. all array a_is z z_is x x_is))))
  where
    o : Op
    o = op.Store bits p i c

    site : Site
    site = site_of code g.current.function

    frame : ℕ
    frame = (placement_of code g.current.function).frame

    fits : FitsOp (flow_at code.program g.current.function) o
    fits = (op-is code g o supported state has).fits

    framed : Framed site frame s
    framed = (shown-in-frame code input g s supported state shown).framed

    all : (array : ArrayName) → array_at g p ≡ Some array → (z : ℤ) → number_at g i ≡ Some z → (x : ℤ)
        → number_at g c ≡ Some x → FollowsKept code input s g false (stores code.program g bits array z x)
    all array a_is z z_is x x_is =
        by-array (FollowsKept code input s g false) code g bits array
        (λ elements. checked (element_at elements z)
        (λ old. onward code.program (with_array array (with_element elements z (stored bits x)) g)))
        (λ none. ends-there code input g s shown
        (null-fails site frame one.place two.place one.word index 0 back s s.eip one.holds one.inside one.contains
        one.small two.holds two.inside two.contains (word-fits z two.fits) came
        (subst (λ (a : ArrayName). IsArrayAt code (active_of g) shown.frames a one.word) none one.is)
        (check-stands code g.current.function supported))) tt
        (λ elements is. inside elements is (is-there code input g s array one.word (bytes_of bits) elements supported
        state shown (some-bytes bits) is one.is))
      where
        one : HasArrayIn code g shown.frames s p array
        one = has-array code input g s o p array supported state shown has (inl refl) fits.0 a_is

        two : HasNumber code g s i z
        two = has-number code input g s o i z supported state shown has (inr (inl refl)) fits.1.0
            (number-is (value_at g i) z z_is)

        three : HasNumber code g s c x
        three = has-number code input g s o c x supported state shown has (inr (inr (inl refl))) fits.1.1.0
            (number-is (value_at g c) x x_is)

        index : ℕ
        index = cast_unsigned w32 z

        row : RowAt code g (store_row bits one.place two.place three.place) s
        row = at-before code g s c three.place (λ q. store_row bits one.place two.place q) three.at
            (at-before code g s i two.place (λ q. store_row bits one.place q (before_at code g c)) two.at
            (at-before code g s p one.place (λ q. store_row bits q (before_at code g i) (before_at code g c)) one.at r))

        m : Mem
        m = element (bytes_of bits) (target_of one.place) (index_register two.place)

        put : List Item
        put = store_at bits m three.place

        back : List Item
        back = put ++ row.rest

        came : Came site frame (checking one.place two.place ++ back) s s s.eip
        came = at-start code g frame (checking one.place two.place ++ back) s supported framed
            (subst (λ (xs : List Item). ReadyAt site xs s)
            (append_assoc (checking one.place two.place) put row.rest) row.ready)

        inside : (elements : List ℤ) → elements_of code.program g array ≡ Some (bytes_of bits, elements)
            → IsThere code s one.word (bytes_of bits) elements
            → FollowsKept code input s g false (checked (element_at elements z)
            (λ old. onward code.program (with_array array (with_element elements z (stored bits x)) g)))
        inside elements is there =
            by-element (FollowsKept code input s g false) elements z
            (λ old. onward code.program (with_array array (with_element elements z (stored bits x)) g)) two.fits
            there.few
            (λ past. ends-there code input g s shown
            (past-fails site frame one.place two.place one.word index (length elements) back s s.eip one.holds
            one.inside
            one.contains one.small two.holds two.inside two.contains (word-fits z two.fits) came there.now.front
            there.now.stand.0 past (check-stands code g.current.function supported)))
            (λ k old e f has_old.
            subst (λ (y : ℤ). FollowsKept code input s g false
            (onward code.program (with_array array (with_element elements y (stored bits x)) g))) (sym e)
            (found k old f has_old))
          where
            found : (k : ℕ) (old : ℤ) → index ≡ k → slice_get elements k ≡ Some old
                → FollowsKept code input s g false
                (onward code.program (with_array array (slice_set elements k (stored bits x)) g))
            found k old f has_old =
                let size : ℕ = bytes_of bits in
                let lt : k < length elements = slice_get_within elements k old has_old in
                let value = there.now.stand.1 k old has_old in
                let a : ℕ = one.word + size * k in
                let top = element-high code g.current.function s size one.word k value.0 framed.sound there.low
                (some-bytes bits) value.1 in
                let high = framed.sound.below in
                let low = there.low in
                let pass = checks-pass site frame one.place two.place one.word index (length elements) back s s.eip
                one.holds one.inside one.contains one.small two.holds two.inside two.contains (word-fits z two.fits)
                came
                there.now.front there.now.stand.0 (subst (λ (j : ℕ). j < length elements) (sym f) lt) in
                let u : machine.State = pass.0 in
                let fits_a : a < 0x1_0000_0000 = omega (arith, top, high) in
                let at : address_of m u ≡ a =
                element-address code g.current.function bits one.place two.place one.word k u pass.3 (pass.4 ∙ f) fits_a
                in
                let held = contains-kept OutsideScratch Anywhere s u Two three.place (cast_unsigned w32 x)
                pass.2.keeps ebp-outside (scratch-outside frame three.place three.inside)
                (all-memory (word_of Ebp s) three.place) three.contains in
                let puts = place-stores site frame bits m three.place a (cast_unsigned w32 x) u pass.2.framed
                three.holds three.inside held (word-fits x three.fits) at (start one.word size k low) top in
                let t : machine.State = puts.0 in
                let K : ℕ → ℕ → Type 0 = λ b l. AreDisjoint a size b l in
                let went = straight-goes site put row.rest u t pass.1 pass.2.framed.sound pass.2.ready puts.1.leads in
                let keeps : Keeps OutsideScratch K s t = keeps-then OutsideScratch K s u t
                (keeps-stricter OutsideScratch OutsideScratch Anywhere K s u (λ j h. h) (λ b l h. tt) pass.2.keeps)
                puts.1.keeps in
                stored-follows code input g s t o array one.word size elements k (stored bits x) went.0 row.rest
                supported
                state shown has refl (λ next h. h) is one.is lt keeps
                (puts.1.value ∙ ap (λ (w : ℕ). let q : Result ℕ End = Ok w in q) (stored-low bits x three.fits))
                puts.1.framed.sound
                (comes-then code.text s (at_address pass.1 u) (at_address went.0 t) pass.2.comes went.1) went.2
                row.follows
              where
                start : (w n j : ℕ) → site.low ≤ w → site.low ≤ w + n * j
                start w n j h = omega (arith, h)

-- What is loaded from the data of an image as they begin.
use Rattle.std.proofs.Common.{◌≡◌, ◌⊎◌, ℕ, ◌+◌, ◌-◌, ◌*◌, ◌%◌, ◌^◌, ◌<◌, ◌≤◌, ℤ, List, [], ◌∷◌, ◌++◌, length}
use Rattle.std.proofs.Common.{take, drop, Option, Some, Ok, inl, inr, refl, sym, ap, subst, ◌∙◌, arith, length-append}
use Rattle.std.proofs.Common.{append_assoc, append-nil, get_or, replicate, zero, suc}
use Rattle.std.specs.Prelude.{Result, map, option_map, slice_get}
use Rattle.std.specs.Int.{w32, cast_unsigned}
use Rattle.std.proofs.Math.Nat.{div-one, mod-eq_of_lt}
use Rattle.std.proofs.Math.Seq.{drop-append_seam, take-append_seam}
use Rattle.std.proofs.lemmas.Bool.{cases_lt}
use Rattle.std.proofs.lemmas.List.{get_or-replicate, get_or_past, length-replicate}
use Rattle.std.proofs.lemmas.Option.{none-some, same_Some, slice_get-map}
use Rattle.byteorder.specs.Endian.{little_bytes, little_from}
use Rattle.byteorder.specs.Numbers.{length-bytes_low_first, little_from-bytes}
use Rattle.pcc_base.specs.Outcome.{End}
use Rattle.pcc_base.specs.Bytes.{zeros}
use Rattle.pcc_base.specs.Objects.{IsObject, Object}
use Rattle.pcc_base.proofs.Zeros.{length-zeros}
use Rattle.ia32_insn.specs.State.{State, bytes_at}
use Rattle.ia32_insn.specs.Meaning.{and_then, denied, load, or_end}
use Rattle.ia32_insn.specs.Items.{data_bytes, data_memory, data_start, element_bytes, elements_size}
use Rattle.ia32_insn.specs.Items.{stack_end, text_state}
use Rattle.ia32_rows.specs.Placements.{Code, objects_of}
use Rattle.ia32_rows.specs.Shows.{ElementsStand, ObjectsStand}
use Rattle.ia32_rows.specs.Sites.{IsSound}
use Rattle.ia32_rows.proofs.Sound.{bytes-in}
use Rattle.ia32_rows.proofs.First.{zero-registers}
use Rattle.flow_graph.proofs.Lists.{All-at}
use Rattle.ia32_insn.proofs.Objects.{elements-within, length-elements}
use Rattle.ia32_laws.specs.Supports.{IsSupported}
use Rattle.ia32_laws.proofs.Memory.{long-data, text-above, whole-small}
use Rattle.ia32_laws.specs.StartsLaws.{DataBegin, image_state}
use Rattle.ia32_laws.proofs.Parts.{ElementIn, ObjectIn, all_objects, element-in, object-in}
use Rattle.ia32_laws.proofs.Parts.{one_element}

-- ---- the first state

abbrev pub whole_data : List ℕ → List Object → List ℕ
whole_data text objects = data_bytes objects ++ zeros (data_memory objects - length (data_bytes objects))

-- memory of the first state is sound
pub begins-sound : (text : List ℕ) (objects : List Object) (input : List ℕ) → stack_end text objects < 2 ^ 32
    → IsSound text (data_start text) (stack_end text objects) (text_state text objects input)
begins-sound text objects input fits =
    record {
      bytes = whole_data text objects;
      memory = refl;
      size = long-data text objects;
      above = text-above text;
      below = fits;
      small = whole-small objects (data_memory objects - length (data_bytes objects));
      registers = zero-registers;
    }

-- ---- loads from a part of the data

-- the bytes that stand behind others are those taken from there
part-taken : (front middle back : List ℕ) (n : ℕ) → length middle ≡ n
    → take n (drop (length front) (front ++ (middle ++ back))) ≡ middle
part-taken front middle back n e =
    ap (take n) (drop-append_seam front (middle ++ back))
    ∙ ap (λ (k : ℕ). take k (middle ++ back)) (sym e) ∙ take-append_seam middle back

-- what is loaded is the number in the bytes that stand there
part-loads : (text : List ℕ) (low high n a : ℕ) (s : State) (front middle back : List ℕ) → (h : IsSound text low high s)
    → h.bytes ≡ front ++ (middle ++ back) → low + length front ≡ a → length middle ≡ n → 0 < n
    → load n a s ≡ Ok (little_from 0 n middle)
part-loads text low high n a s front middle back h whole at long some =
    let size = h.size in
    let all : length h.bytes ≡ length front + (length middle + length back) =
    ap length whole ∙ length-append front (middle ++ back)
    ∙ ap (λ (k : ℕ). length front + k) (length-append middle back) in
    let from : low ≤ a = omega (arith, at) in
    let to : a + n ≤ high = omega (arith, at, all, size, long) in
    let off : a - low ≡ length front = omega (arith, at) in
    let found : bytes_at n a s.memory ≡ Some middle =
    bytes-in text low high n a s h from to some
    ∙ ap (λ (k : ℕ). Some (take n (drop k h.bytes))) off
    ∙ ap (λ (l : List ℕ). Some (take n (drop (length front) l))) whole
    ∙ ap Some (part-taken front middle back n long) in
    ap (λ (o : Option (List ℕ)). and_then (or_end o (denied a s))
    (λ f. let r : Result ℕ End = Ok (little_from 0 n f) in r)) found

-- a number reads back as its lowest bytes
number-read : (n x : ℕ) → little_from 0 n (little_bytes n x) ≡ x % 256 ^ n
number-read n x =
    ap (little_from 0 n) (sym (append-nil (little_bytes n x))) ∙ little_from-bytes n 0 x []
    ∙ ap (λ (y : ℕ). y % 256 ^ n) (div-one x)

number-loads : (text : List ℕ) (low high n a x : ℕ) (s : State) (front back : List ℕ) → (h : IsSound text low high s)
    → h.bytes ≡ front ++ (little_bytes n x ++ back) → low + length front ≡ a → 0 < n
    → load n a s ≡ Ok (x % 256 ^ n)
number-loads text low high n a x s front back h whole at some =
    part-loads text low high n a s front (little_bytes n x) back h whole at (length-bytes_low_first 0 n x) some
    ∙ ap (λ (k : ℕ). let r : Result ℕ End = Ok k in r) (number-read n x)

-- ---- objects in the data

-- parts of a list, put together another way
count-parts : (z f c e p b t : List ℕ)
    → (z ++ (f ++ ((c ++ e ++ p) ++ b))) ++ t ≡ (z ++ f) ++ (c ++ (e ++ (p ++ (b ++ t))))
count-parts z f c e p b t = simp append_assoc refl

element-parts : (z f c g x h p b t : List ℕ)
    → (z ++ (f ++ ((c ++ (g ++ (x ++ h)) ++ p) ++ b))) ++ t
    ≡ (z ++ (f ++ (c ++ g))) ++ (x ++ (h ++ (p ++ (b ++ t))))
element-parts z f c g x h p b t = simp append_assoc refl

-- the padding behind an object's elements
abbrev padding : Object → List ℕ
padding o = zeros (elements_size o - o.width * length o.elements)

-- the number of an object's elements stands in the four bytes before its address
count-stands : (text : List ℕ) (objects : List Object) (k : ℕ) (o : Object)
    → (at : ObjectIn (data_start text + 4) objects k o)
    → whole_data text objects ≡ (zeros 4 ++ at.front) ++ (little_bytes 4 (length o.elements)
    ++ (element_bytes o ++ (padding o ++ (at.back ++ zeros (data_memory objects - length (data_bytes objects))))))
count-stands text objects k o at =
    let tail : List ℕ = zeros (data_memory objects - length (data_bytes objects)) in
    ap (λ (l : List ℕ). (zeros 4 ++ l) ++ tail) at.whole
    ∙ count-parts (zeros 4) at.front (little_bytes 4 (length o.elements)) (element_bytes o) (padding o) at.back tail

-- an element stands behind those before it
element-stands : (text : List ℕ) (objects : List Object) (k i : ℕ) (z : ℤ) (o : Object)
    → (at : ObjectIn (data_start text + 4) objects k o) → (e : ElementIn o.width o.elements i z)
    → whole_data text objects ≡ (zeros 4 ++ (at.front ++ (little_bytes 4 (length o.elements) ++ e.front)))
    ++ (one_element o.width z ++ (e.back ++ (padding o ++ (at.back
    ++ zeros (data_memory objects - length (data_bytes objects))))))
element-stands text objects k i z o at e =
    let tail : List ℕ = zeros (data_memory objects - length (data_bytes objects)) in
    let count : List ℕ = little_bytes 4 (length o.elements) in
    ap (λ (l : List ℕ). (zeros 4 ++ l) ++ tail) at.whole
    ∙ ap (λ (l : List ℕ). (zeros 4 ++ (at.front ++ ((count ++ l ++ padding o) ++ at.back))) ++ tail) e.whole
    ∙ element-parts (zeros 4) at.front count e.front (one_element o.width z) e.back (padding o) at.back tail

-- ---- widths

width-power : (w : ℕ) → (w ≡ 1) ⊎ (w ≡ 2) ⊎ (w ≡ 4) → 256 ^ w ≡ 2 ^ (8 * w)
width-power w (inl e) = subst (λ (n : ℕ). 256 ^ n ≡ 2 ^ (8 * n)) (sym e) refl
width-power w (inr (inl e)) = subst (λ (n : ℕ). 256 ^ n ≡ 2 ^ (8 * n)) (sym e) refl
width-power w (inr (inr e)) = subst (λ (n : ℕ). 256 ^ n ≡ 2 ^ (8 * n)) (sym e) refl

width-some : (w : ℕ) → (w ≡ 1) ⊎ (w ≡ 2) ⊎ (w ≡ 4) → 0 < w
width-some w (inl e) = omega (arith, e)
width-some w (inr (inl e)) = omega (arith, e)
width-some w (inr (inr e)) = omega (arith, e)

-- ---- one object

-- an object's number of elements and its elements stand at its address
object-elements : (text : List ℕ) (objects : List Object) (input : List ℕ) (k : ℕ) (o : Object)
    → stack_end text objects < 2 ^ 32 → IsObject o → length o.elements ≤ 0x80000000
    → (at : ObjectIn (data_start text + 4) objects k o)
    → ElementsStand (text_state text objects input) at.address o.width o.elements
unfolding begins-sound
object-elements text objects input k o fits is few at =
    let low : ℕ = data_start text in
    let high : ℕ = stack_end text objects in
    let s : State = text_state text objects input in
    let sound = begins-sound text objects input fits in
    let tail : List ℕ = zeros (data_memory objects - length (data_bytes objects)) in
    let count : List ℕ = little_bytes 4 (length o.elements) in
    let before : low + length (zeros 4 ++ at.front) ≡ at.address - 4 =
    count-place low (length at.front) (length (zeros 4 ++ at.front)) at.address
    (length-append (zeros 4) at.front ∙ ap (λ (n : ℕ). n + length at.front) (length-zeros 4)) at.place in
    let number : length o.elements % 256 ^ 4 ≡ length o.elements = mod-eq_of_lt (small (length o.elements) few) in
    let loaded : load 4 (at.address - 4) s ≡ Ok (length o.elements % 256 ^ 4) =
    number-loads text low high 4 (at.address - 4) (length o.elements) s (zeros 4 ++ at.front)
    (element_bytes o ++ (padding o ++ (at.back ++ tail))) sound (count-stands text objects k o at) before
    (omega arith) in (
      loaded ∙ ap (λ (n : ℕ). let r : Result ℕ End = Ok n in r) number,
      λ i z has. one i z (element-in o.width o.elements i z has),
    )
  where
    count-place : (low f l a : ℕ) → l ≡ 4 + f → low + 4 + f + 4 ≡ a → low + l ≡ a - 4
    count-place low f l a e h = omega arith

    small : (n : ℕ) → n ≤ 0x80000000 → n < 256 ^ 4
    small n h = omega arith

    element-place : (low f g c l a w : ℕ) → l ≡ 4 + (f + (c + g)) → c ≡ 4 → g ≡ w → low + 4 + f + 4 ≡ a
        → low + l ≡ a + w
    element-place low f g c l a w e h p q = omega arith

    one : (i : ℕ) (z : ℤ) → ElementIn o.width o.elements i z
        → (word : ℕ) × (load o.width (at.address + o.width * i) (text_state text objects input) ≡ Ok word)
        × (word ≡ cast_unsigned w32 z % 2 ^ (8 * o.width))
    one i z e =
        let low : ℕ = data_start text in
        let high : ℕ = stack_end text objects in
        let s : State = text_state text objects input in
        let tail : List ℕ = zeros (data_memory objects - length (data_bytes objects)) in
        let count : List ℕ = little_bytes 4 (length o.elements) in
        let front : List ℕ = zeros 4 ++ (at.front ++ (count ++ e.front)) in
        let long : length front ≡ 4 + (length at.front + (length count + length e.front)) =
        length-append (zeros 4) (at.front ++ (count ++ e.front))
        ∙ ap (λ (n : ℕ). n + length (at.front ++ (count ++ e.front))) (length-zeros 4)
        ∙ ap (λ (n : ℕ). 4 + n) (length-append at.front (count ++ e.front)
        ∙ ap (λ (n : ℕ). length at.front + n) (length-append count e.front)) in
        let place : low + length front ≡ at.address + o.width * i =
        element-place low (length at.front) (length e.front) (length count) (length front) at.address (o.width * i) long
        (length-bytes_low_first 0 4 (length o.elements)) e.long at.place in (
          cast_unsigned w32 z % 256 ^ o.width,
          number-loads text low high o.width (at.address + o.width * i) (cast_unsigned w32 z) s front
              (e.back ++ (padding o ++ (at.back ++ tail))) (begins-sound text objects input fits)
              (element-stands text objects k i z o at e) place (width-some o.width is.width),
          ap (λ (n : ℕ). cast_unsigned w32 z % n) (width-power o.width is.width),
        )

-- ---- the whole

-- the depth word stands in front
depth-stands : (text : List ℕ) (objects : List Object) → whole_data text objects
    ≡ [] ++ (zeros 4 ++ (all_objects objects ++ zeros (data_memory objects - length (data_bytes objects))))
depth-stands text objects =
    append_assoc (zeros 4) (all_objects objects) (zeros (data_memory objects - length (data_bytes objects)))

zero-each : (n k : ℕ) → get_or (zeros n) k 0 ≡ 0
unfolding zeros
zero-each n k =
    elim (cases_lt k n) [
      | inl before ↦ get_or-replicate n k 0 0 before
      | inr past ↦ get_or_past (replicate n 0) k 0
          (let l = length-replicate {A = ℕ} n 0 in let m : length (replicate {A = ℕ} n 0) ≤ k = omega arith in m)
    ]

-- the number in zeros is 0
zeros-read : (n i m : ℕ) → little_from i n (zeros m) ≡ 0
zeros-read zero i m = refl
zeros-read (suc n) i m =
    let first : get_or (zeros m) i 0 ≡ 0 = zero-each m i in
    let rest : little_from (suc i) n (zeros m) ≡ 0 = zeros-read n (suc i) m in
    omega (arith, first, rest)

-- zeros are zeros behind zeros
zeros-join : (m n : ℕ) → zeros (m + n) ≡ zeros m ++ zeros n
unfolding zeros
zeros-join zero n = let e : zero + n ≡ n = omega arith in rw e refl
zeros-join (suc m) n =
    let e : suc m + n ≡ suc (m + n) = omega arith in
    rw e (ap (λ (l : List ℕ). 0 ∷ l) (zeros-join m n))

depth-begins : (text : List ℕ) (objects : List Object) (input : List ℕ) → stack_end text objects < 2 ^ 32
    → load 4 (data_start text) (text_state text objects input) ≡ Ok 0
unfolding begins-sound
depth-begins text objects input fits =
    part-loads text (data_start text) (stack_end text objects) 4 (data_start text) (text_state text objects input) []
    (zeros 4) (all_objects objects ++ zeros (data_memory objects - length (data_bytes objects)))
    (begins-sound text objects input fits) (depth-stands text objects) (none (data_start text)) (length-zeros 4)
    (omega arith)
    ∙ ap (λ (k : ℕ). let r : Result ℕ End = Ok k in r) (zeros-read 4 0 4)
  where
    none : (n : ℕ) → n + 0 ≡ n
    none n = omega arith

-- zeros behind a front, up to more
zeros-within : (text : List ℕ) (objects : List Object) (input front back : List ℕ) (m n a : ℕ)
    → stack_end text objects < 2 ^ 32 → whole_data text objects ≡ front ++ (zeros m ++ back)
    → data_start text + length front ≤ a → a + n ≤ data_start text + length front + m → 0 < n
    → load n a (text_state text objects input) ≡ Ok 0
unfolding begins-sound
zeros-within text objects input front back m n a fits whole from to some =
    let low : ℕ = data_start text in
    let i : ℕ = a - low - length front in
    let r : ℕ = m - i - n in
    let split : m ≡ i + (n + r) = divided low (length front) m a n from to in
    let parted : whole_data text objects ≡ (front ++ zeros i) ++ (zeros n ++ (zeros r ++ back)) =
    whole ∙ ap (λ (k : ℕ). front ++ (zeros k ++ back)) split
    ∙ ap (λ (l : List ℕ). front ++ (l ++ back))
    (zeros-join i (n + r) ∙ ap (λ (l : List ℕ). zeros i ++ l) (zeros-join n r))
    ∙ grouped front (zeros i) (zeros n) (zeros r) back in
    let place : low + length (front ++ zeros i) ≡ a =
    behind low (length front) (length (front ++ zeros i)) a
    (length-append front (zeros i) ∙ ap (λ (k : ℕ). length front + k) (length-zeros i)) from in
    part-loads text low (stack_end text objects) n a (text_state text objects input) (front ++ zeros i) (zeros n)
    (zeros r ++ back) (begins-sound text objects input fits) parted place (length-zeros n) some
    ∙ ap (λ (k : ℕ). let o : Result ℕ End = Ok k in o) (zeros-read n 0 n)
  where
    divided : (low d m a n : ℕ) → low + d ≤ a → a + n ≤ low + d + m → m ≡ (a - low - d) + (n + (m - (a - low - d) - n))
    divided low d m a n from to = omega arith

    behind : (low d l a : ℕ) → l ≡ d + (a - low - d) → low + d ≤ a → low + l ≡ a
    behind low d l a e from = omega arith

    grouped : (f i n r b : List ℕ) → f ++ ((i ++ (n ++ r)) ++ b) ≡ (f ++ i) ++ (n ++ (r ++ b))
    grouped f i n r b = simp append_assoc refl

-- all that stands behind the objects is 0
zeros-begin : (text : List ℕ) (objects : List Object) (input : List ℕ) (n a : ℕ) → stack_end text objects < 2 ^ 32
    → data_start text + length (data_bytes objects) ≤ a → a + n ≤ stack_end text objects → 0 < n
    → load n a (text_state text objects input) ≡ Ok 0
zeros-begin text objects input n a fits from to some =
    let held : List ℕ = data_bytes objects in
    let m : ℕ = data_memory objects - length held in
    zeros-within text objects input held [] m n a fits
    (ap (λ (l : List ℕ). held ++ l) (sym (append-nil (zeros m)))) from
    (up (data_start text) (length held) (data_memory objects) a n from to some) some
  where
    up : (low d m a n : ℕ) → low + d ≤ a → a + n ≤ low + m → 0 < n → a + n ≤ low + d + (m - d)
    up low d m a n from to some = omega arith

-- and so is the padding behind an object's elements
padding-begins : (text : List ℕ) (objects : List Object) (input : List ℕ) (k n a : ℕ) (o : Object)
    → stack_end text objects < 2 ^ 32 → (at : ObjectIn (data_start text + 4) objects k o)
    → at.address + o.width * length o.elements ≤ a → a + n ≤ at.address + elements_size o → 0 < n
    → load n a (text_state text objects input) ≡ Ok 0
padding-begins text objects input k n a o fits at from to some =
    let tail : List ℕ = zeros (data_memory objects - length (data_bytes objects)) in
    let front : List ℕ = zeros 4 ++ (at.front ++ (little_bytes 4 (length o.elements) ++ element_bytes o)) in
    let m : ℕ = elements_size o - o.width * length o.elements in
    let whole : whole_data text objects ≡ front ++ (zeros m ++ (at.back ++ tail)) =
    ap (λ (l : List ℕ). (zeros 4 ++ l) ++ tail) at.whole
    ∙ grouped (zeros 4) at.front (little_bytes 4 (length o.elements)) (element_bytes o) (zeros m) at.back tail in
    let long : length front ≡ 4 + (length at.front + (4 + o.width * length o.elements)) =
    length-append (zeros 4) (at.front ++ (little_bytes 4 (length o.elements) ++ element_bytes o))
    ∙ ap (λ (j : ℕ). j + length (at.front ++ (little_bytes 4 (length o.elements) ++ element_bytes o))) (length-zeros 4)
    ∙ ap (λ (j : ℕ). 4 + j) (length-append at.front (little_bytes 4 (length o.elements) ++ element_bytes o)
    ∙ ap (λ (j : ℕ). length at.front + j) (length-append (little_bytes 4 (length o.elements)) (element_bytes o)
    ∙ ap (λ (j : ℕ). 4 + j) (length-elements o.width o.elements))) in
    let low : ℕ = data_start text in
    zeros-within text objects input front (at.back ++ tail) m n a fits whole
    (begins low (length at.front) (o.width * length o.elements) (length front) at.address a long at.place from)
    (ends low (length at.front) (o.width * length o.elements) (elements_size o) (length front) at.address a n long
    at.place (elements-within o) to) some
  where
    grouped : (z f c e p b t : List ℕ)
        → (z ++ (f ++ ((c ++ e ++ p) ++ b))) ++ t ≡ (z ++ (f ++ (c ++ e))) ++ (p ++ (b ++ t))
    grouped z f c e p b t = simp append_assoc refl

    begins : (low f n l at a : ℕ) → l ≡ 4 + (f + (4 + n)) → low + 4 + f + 4 ≡ at → at + n ≤ a → low + l ≤ a
    begins low f n l at a long place from = omega arith

    ends : (low f n size l at a k : ℕ) → l ≡ 4 + (f + (4 + n)) → low + 4 + f + 4 ≡ at → n ≤ size → a + k ≤ at + size
        → a + k ≤ low + l + (size - n)
    ends low f n size l at a k long place le to = omega arith

-- an element of a mapped list comes from one at the same place
pub map-of : {X Y : Type 0} → (f : X → Y) (xs : List X) (k : ℕ) (y : Y) → slice_get (map f xs) k ≡ Some y
    → (x : X) × (slice_get xs k ≡ Some x) × (f x ≡ y)
map-of f [] k y e = absurd (none-some y e)
map-of f (x ∷ xs) ℕ.zero y e = (x, refl, same_Some (f x) y e)
map-of f (x ∷ xs) (ℕ.suc k) y e = map-of f xs k y e

-- the object as the image holds it
abbrev pub copied : Object → Object
copied o = record { width = o.width; elements = o.elements }

pub objects-begin : (code : Code) (input : List ℕ) → IsSupported code
    → ObjectsStand code (image_state code input) (map (λ object. object.elements) code.program.objects)
objects-begin code input h k elements e =
    let objects : List Object = code.program.objects in
    let (o, declared, same) = map-of (λ (x : Object). x.elements) objects k elements e in
    let is : IsObject o = All-at IsObject objects k o (h.program).objects declared in
    let few = All-at (λ (x : Object). length x.elements ≤ 0x80000000) objects k o h.few declared in
    let there : slice_get (objects_of code.program) k ≡ Some (copied o) =
    slice_get-map copied objects k ∙ ap (λ (x : Option Object). option_map copied x) declared in
    let at = object-in (data_start code.text + 4) (objects_of code.program) k (copied o) there in
    let named : slice_get code.symbols.objects k ≡ Some at.address =
    ap (λ (l : List ℕ). slice_get l k) (h.is_code).text.objects_are ∙ at.named in
    let stand = object-elements code.text (objects_of code.program) input k (copied o) h.fits is few at in (
      o,
      at.address,
      declared,
      named,
      subst (ElementsStand (image_state code input) at.address o.width) same stand,
    )

-- the padding of an object of the code
padding-shown : (code : Code) (input : List ℕ) (k address n a : ℕ) (o : Object) → IsSupported code
    → slice_get code.program.objects k ≡ Some o → slice_get code.symbols.objects k ≡ Some address
    → address + o.width * length o.elements ≤ a → a + n ≤ address + elements_size o → 0 < n
    → load n a (image_state code input) ≡ Ok 0
padding-shown code input k address n a o h declared named from to some =
    let there : slice_get (objects_of code.program) k ≡ Some (copied o) =
    slice_get-map copied code.program.objects k ∙ ap (λ (x : Option Object). option_map copied x) declared in
    let at = object-in (data_start code.text + 4) (objects_of code.program) k (copied o) there in
    let same : address ≡ at.address = same_Some address at.address
    (sym named ∙ ap (λ (l : List ℕ). slice_get l k) (h.is_code).text.objects_are ∙ at.named) in
    padding-begins code.text (objects_of code.program) input k n a (copied o) h.fits at
    (subst (λ (b : ℕ). b + o.width * length o.elements ≤ a) same from)
    (subst (λ (b : ℕ). a + n ≤ b + elements_size o) same to) some

pub data-begin : DataBegin
data-begin code input h =
    record {
      objects = objects-begin code input h;
      depth = subst (λ (d : ℕ). load 4 d (image_state code input) ≡ Ok 0) (sym (h.is_code).text.depth_is)
          (depth-begins code.text (objects_of code.program) input h.fits);
      padding = λ k address n a object declared named from to some.
          padding-shown code input k address n a object h declared named from to some;
      zeros = λ n a from to some. zeros-begin code.text (objects_of code.program) input n a h.fits from to some;
    }

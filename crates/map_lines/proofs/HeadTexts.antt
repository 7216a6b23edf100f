-- The text of static objects, and of the arrays and variables of a function.
use Rattle.std.proofs.Common.{◌≡◌, ◌<◌, ◌≤◌, ℕ, zero, suc, ◌+◌, ◌-◌, List, [], ◌∷◌, ◌++◌, drop, get_or, length, map, take}
use Rattle.std.proofs.Common.{Some, refl, sym, ap, ◌∙◌, arith, append_assoc, length-append}
use Rattle.std.specs.Prelude.{slice_get}
use Rattle.std.specs.List.{flat_map}
use Rattle.std.proofs.lemmas.List.{drop_more}
use Rattle.std.proofs.lemmas.List.FromFn.{get_or-map-range_with_len, length-map-range_with_len}
use Rattle.std.proofs.lemmas.Option.{get_or_from_slice_get, slice_get_within}
use Rattle.pcc_base.specs.declared.run.Width.{Width}
use Rattle.c_tree.specs.declared.types.IntegerType.TheVariants.{Char, Short, Int, UnsignedInt}
use Rattle.c_tree.specs.declared.types.ValueType.{ValueType}
use Rattle.c_tree.specs.declared.types.ValueType.TheVariants.{Void, Integer, Pointer}
use Rattle.c_tree.specs.declared.program.Local as locals
use Rattle.c_tree.specs.declared.program.LocalArray as arrays
use Rattle.c_tree.specs.declared.program.StaticObject as objects
use Rattle.c_tree.specs.Erased.{array_of, local_of, object_of}
use Rattle.c_tree.specs.Program.{Local, LocalArray, StaticObject}
use Rattle.c_tree.specs.Sizes.{bytes_of}
use Rattle.flow_graph.specs.Graphs.{Flow}
use Rattle.flow_graph.specs.Sizes.{array_bytes}
use Rattle.puzzle_board.specs.Places.{PlaceMap}
use Rattle.allocator.specs.PointMaps.{array_below, bytes_of_arrays}
use Rattle.ia32_placements.specs.Placed.{arrays_in}
use Rattle.lower_lines.specs.Lowering as lowering
use Rattle.lower_lines.specs.Shown.{local_widths, type_widths}
use Rattle.map_text.specs.Maps.{MapVariable}
use Rattle.map_text.specs.Words.{ArrayLine, Line, ObjectLine, VariableLine, array_lines, numbered, object_lines}
use Rattle.map_text.specs.Words.{variable_lines}
use Rattle.map_lines.specs.Parts.{arrays_at, local_variables, objects_at, temporary, typed_variables}
use Rattle.map_lines.proofs.Texts.{made-put, next-put, one_put, text-both}

-- ---- objects

-- the next object, and the others
pub objects-put : (text : Line → List ℕ) (start old new : List ℕ) (os : List objects.StaticObject)
    (addresses : List ℕ) (i : ℕ) (d : objects.StaticObject) (z : ℕ) → i < length os → i < length addresses
    → old ++ flat_map text (numbered object_lines i (objects_at (map object_of (drop i os)) (drop i addresses))) ≡ start
    → new ≡ old
    ++ text (ObjectLine i (get_or addresses i z) (length (get_or os i d).elements.items) (bytes_of (get_or os i d).element))
    → new ++ flat_map text (numbered object_lines (i + 1)
    (objects_at (map object_of (drop (i + 1) os)) (drop (i + 1) addresses))) ≡ start
objects-put text start old new os addresses i d z h k all put =
    let o : StaticObject = object_of (get_or os i d) in
    let address = get_or addresses i z in
    next-put text object_lines start old new i
    (record { address = address; count = length o.elements; bytes = bytes_of o.element })
    (objects_at (map object_of (drop (i + 1) os)) (drop (i + 1) addresses))
    (ap (λ (xs : List objects.StaticObject). old ++ flat_map text (numbered object_lines i
    (objects_at (map object_of xs) (address ∷ drop (i + 1) addresses)))) (sym (drop_more os i d h))
    ∙ ap (λ (zs : List ℕ). old ++ flat_map text (numbered object_lines i (objects_at (map object_of (drop i os)) zs)))
    (sym (drop_more addresses i z k))
    ∙ all)
    (put ∙ one_put text old (ObjectLine i address (length o.elements) (bytes_of o.element)))

-- ---- arrays

-- the bytes of an element and the count of each array, as a graph has them
abbrev pub pairs_of : List arrays.LocalArray → List (ℕ × ℕ)
pairs_of els = map lowering.array_of (map array_of els)

-- the bytes of an array in a frame
abbrev pub own_bytes : arrays.LocalArray → ℕ
own_bytes a = array_bytes (lowering.array_of (array_of a))

-- the next array, and the others
pub arrays-put : (text : Line → List ℕ) (start old new : List ℕ) (els : List arrays.LocalArray)
    (belows : List ℕ) (i below : ℕ) (d : arrays.LocalArray) (z : ℕ) → i < length els → i < length belows
    → get_or belows i z ≡ below
    → old ++ flat_map text (numbered array_lines i (arrays_at (map array_of (drop i els)) (drop i belows))) ≡ start
    → new ≡ old ++ text (ArrayLine i below (get_or els i d).count (bytes_of (get_or els i d).element))
    → new ++ flat_map text (numbered array_lines (i + 1)
    (arrays_at (map array_of (drop (i + 1) els)) (drop (i + 1) belows))) ≡ start
arrays-put text start old new els belows i below d z h k is all put =
    let a : LocalArray = array_of (get_or els i d) in
    let there = get_or belows i z in
    next-put text array_lines start old new i (record { below = there; count = a.count; bytes = bytes_of a.element })
    (arrays_at (map array_of (drop (i + 1) els)) (drop (i + 1) belows))
    (ap (λ (xs : List arrays.LocalArray). old ++ flat_map text (numbered array_lines i
    (arrays_at (map array_of xs) (there ∷ drop (i + 1) belows)))) (sym (drop_more els i d h))
    ∙ ap (λ (zs : List ℕ). old ++ flat_map text (numbered array_lines i (arrays_at (map array_of (drop i els)) zs)))
    (sym (drop_more belows i z k))
    ∙ all)
    (put ∙ ap (λ (n : ℕ). old ++ text (ArrayLine i n a.count (bytes_of a.element))) (sym is)
    ∙ one_put text old (ArrayLine i there a.count (bytes_of a.element)))

-- the bytes of the next array, and of the others
pub bytes-left : (els : List arrays.LocalArray) (i : ℕ) (d : arrays.LocalArray) → i < length els
    → bytes_of_arrays (pairs_of (drop i els))
    ≡ own_bytes (get_or els i d) + bytes_of_arrays (pairs_of (drop (i + 1) els))
bytes-left els i d h =
    ap (λ (xs : List arrays.LocalArray). bytes_of_arrays (pairs_of xs)) (drop_more els i d h)

-- the bytes of the arrays so far, and of one more
pub bytes-taken : (els : List arrays.LocalArray) (i : ℕ) (d : arrays.LocalArray) → i < length els
    → bytes_of_arrays (pairs_of (take (i + 1) els))
    ≡ bytes_of_arrays (pairs_of (take i els)) + own_bytes (get_or els i d)
bytes-taken els i d h =
    let next : i + 1 ≡ suc i = omega arith in
    ap (λ (n : ℕ). bytes_of_arrays (pairs_of (take n els))) next ∙ more els i h
  where
    more : (xs : List arrays.LocalArray) (k : ℕ) → k < length xs
        → bytes_of_arrays (pairs_of (take (suc k) xs))
        ≡ bytes_of_arrays (pairs_of (take k xs)) + own_bytes (get_or xs k d)
    more [] k h = absurd (omega (arith, h))
    more (x ∷ xs) zero h = sums (own_bytes x)
      where
        sums : (n : ℕ) → n + 0 ≡ 0 + n
        sums n = omega arith
    more (x ∷ xs) (suc k) h =
        sums (own_bytes x) (own_bytes (get_or xs k d)) (bytes_of_arrays (pairs_of (take (suc k) xs)))
        (bytes_of_arrays (pairs_of (take k xs))) (more xs k (omega (arith, h)))
      where
        sums : (a b more fewer : ℕ) → more ≡ fewer + b → a + more ≡ a + fewer + b
        sums a b more fewer e = omega (arith, e)

-- the first arrays, as a graph has them
pairs-taken : (n : ℕ) (els : List arrays.LocalArray) → take n (pairs_of els) ≡ pairs_of (take n els)
pairs-taken zero els = refl
pairs-taken (suc n) [] = refl
pairs-taken (suc n) (x ∷ els) = ap (λ (ps : List (ℕ × ℕ)). lowering.array_of (array_of x) ∷ ps) (pairs-taken n els)

-- as many arrays in the graph
pairs-many : (els : List arrays.LocalArray) → length (pairs_of els) ≡ length els
pairs-many [] = refl
pairs-many (x ∷ els) = ap suc (pairs-many els)

-- there are as many arrays in a graph's frame
pub belows-many : (flow : Flow) (places : PlaceMap) (els : List arrays.LocalArray) → flow.arrays ≡ pairs_of els
    → length (arrays_in flow places) ≡ length els
belows-many flow places els same =
    length-map-range_with_len (array_below flow places) 0 (length flow.arrays) ∙ ap length same ∙ pairs-many els

-- each array has bytes
pub arrays-few : (els : List arrays.LocalArray) → length els ≤ bytes_of_arrays (pairs_of els)
arrays-few [] = omega arith
arrays-few (x ∷ els) = counted (own_bytes x) (bytes_of_arrays (pairs_of els)) (length els) (omega arith) (arrays-few els)
  where
    counted : (own rest many : ℕ) → 1 ≤ own → many ≤ rest → suc many ≤ own + rest
    counted own rest many e f = omega (arith, e, f)

-- where the next array stands
pub below-next : (flow : Flow) (places : PlaceMap) (els : List arrays.LocalArray) (i z header : ℕ)
    → flow.arrays ≡ pairs_of els → i < length els
    → header + bytes_of_arrays (pairs_of (take i els)) ≡ places.frame
    → get_or (arrays_in flow places) i z ≡ header - 4
below-next flow places els i z header same h at =
    let many : length flow.arrays ≡ length els = ap length same ∙ pairs-many els in
    let from : 0 + i ≡ i = omega arith in
    get_or-map-range_with_len (array_below flow places) 0 (length flow.arrays) i i z (omega (arith, h, many)) from
    ∙ ap (λ (ps : List (ℕ × ℕ)). places.frame - bytes_of_arrays (take i ps) - 4) same
    ∙ ap (λ (ps : List (ℕ × ℕ)). places.frame - bytes_of_arrays ps - 4) (pairs-taken i els)
    ∙ counted places.frame (bytes_of_arrays (pairs_of (take i els))) header at
  where
    counted : (frame bytes header : ℕ) → header + bytes ≡ frame → frame - bytes - 4 ≡ header - 4
    counted frame bytes header e = omega (arith, e)

-- ---- variables

-- a local has as many variables as widths
as-many : (name : List ℕ) (t : ValueType) → length (typed_variables name t) ≡ length (type_widths t)
as-many name Void = refl
as-many name (Integer Char) = refl
as-many name (Integer Short) = refl
as-many name (Integer Int) = refl
as-many name (Integer UnsignedInt) = refl
as-many name (Pointer element) = refl

all-many : (ls : List Local) → length (flat_map local_variables ls) ≡ length (local_widths ls)
all-many [] = refl
all-many (l ∷ ls) =
    let here = as-many l.name l.of in
    let rest = all-many ls in
    length-append (local_variables l) (flat_map local_variables ls)
    ∙ ap (λ (n : ℕ). n + length (flat_map local_variables ls)) here
    ∙ ap (λ (n : ℕ). length (type_widths l.of) + n) rest
    ∙ sym (length-append (type_widths l.of) (local_widths ls))

-- the widths of the next local and of the others
pub widths-next : (ls : List locals.Local) (i : ℕ) (d : locals.Local) → i < length ls
    → length (local_widths (map local_of (drop i ls)))
    ≡ length (type_widths (get_or ls i d).of) + length (local_widths (map local_of (drop (i + 1) ls)))
widths-next ls i d h =
    ap (λ (xs : List locals.Local). length (local_widths (map local_of xs))) (drop_more ls i d h)
    ∙ length-append (type_widths (get_or ls i d).of) (local_widths (map local_of (drop (i + 1) ls)))

-- the variables of the next local, and those of the others
pub locals-put : (text : Line → List ℕ) (start old new : List ℕ) (ls : List locals.Local) (i n next : ℕ)
    (d : locals.Local) → i < length ls → next ≡ n + length (type_widths (get_or ls i d).of)
    → old ++ flat_map text (numbered variable_lines n (flat_map local_variables (map local_of (drop i ls)))) ≡ start
    → new ≡ old ++ flat_map text (numbered variable_lines n (local_variables (local_of (get_or ls i d))))
    → new ++ flat_map text (numbered variable_lines next (flat_map local_variables (map local_of (drop (i + 1) ls))))
    ≡ start
locals-put text start old new ls i n next d h is all put =
    let l : Local = local_of (get_or ls i d) in
    let rest : List MapVariable = flat_map local_variables (map local_of (drop (i + 1) ls)) in
    let from : next ≡ n + length (local_variables l) = is ∙ ap (λ (k : ℕ). n + k) (sym (as-many l.name l.of)) in
    let here : List ℕ = flat_map text (numbered variable_lines n (local_variables l)) in
    ap (λ (k : ℕ). new ++ flat_map text (numbered variable_lines k rest)) from
    ∙ ap (λ (t : List ℕ). t ++ flat_map text (numbered variable_lines (n + length (local_variables l)) rest)) put
    ∙ append_assoc old here (flat_map text (numbered variable_lines (n + length (local_variables l)) rest))
    ∙ ap (λ (t : List ℕ). old ++ t) (sym (text-both text variable_lines n (local_variables l) rest))
    ∙ ap (λ (xs : List locals.Local). old ++ flat_map text (numbered variable_lines n
    (flat_map local_variables (map local_of xs)))) (sym (drop_more ls i d h))
    ∙ all

-- the next temporary, and the others
pub temporaries-put : (text : Line → List ℕ) (start old new : List ℕ) (widths : List Width) (v : ℕ) (width : Width)
    → slice_get widths v ≡ Some width
    → old ++ flat_map text (numbered variable_lines v (map temporary (drop v widths))) ≡ start
    → new ≡ old ++ text (VariableLine v width (temporary width).named)
    → new ++ flat_map text (numbered variable_lines (v + 1) (map temporary (drop (v + 1) widths))) ≡ start
temporaries-put text start old new widths v width at all put =
    made-put text variable_lines temporary start old new widths v width (slice_get_within widths v width at) all
    (put ∙ one_put text old (VariableLine v width (temporary width).named)
    ∙ ap (λ (w : Width). old ++ flat_map text (variable_lines v (temporary w)))
    (sym (get_or_from_slice_get widths v width width at)))

-- the variables of locals, and then the temporaries
pub variables-put : (text : Line → List ℕ) (old mid new : List ℕ) (ls : List Local) (widths : List Width) (first : ℕ)
    → first ≡ length (local_widths ls)
    → mid ≡ old ++ flat_map text (numbered variable_lines 0 (flat_map local_variables ls))
    → new ≡ mid ++ flat_map text (numbered variable_lines first (map temporary (drop first widths)))
    → new ≡ old ++ flat_map text (numbered variable_lines 0
    (flat_map local_variables ls ++ map temporary (drop (length (local_widths ls)) widths)))
variables-put text old mid new ls widths first many lines put =
    let n = length (local_widths ls) in
    let A : List MapVariable = flat_map local_variables ls in
    let T : List MapVariable = map temporary (drop n widths) in
    let from : 0 + length A ≡ n = omega (arith, all-many ls) in
    put
    ∙ ap (λ (k : ℕ). mid ++ flat_map text (numbered variable_lines k (map temporary (drop k widths)))) many
    ∙ ap (λ (t : List ℕ). t ++ flat_map text (numbered variable_lines n T)) lines
    ∙ append_assoc old (flat_map text (numbered variable_lines 0 A)) (flat_map text (numbered variable_lines n T))
    ∙ ap (λ (k : ℕ). old ++ (flat_map text (numbered variable_lines 0 A) ++ flat_map text (numbered variable_lines k T)))
    (sym from)
    ∙ ap (λ (t : List ℕ). old ++ t) (sym (text-both text variable_lines 0 A T))

-- The objects, the frame arrays and the variables of a map, by its rules.
use Rattle.std.proofs.Common.{◌≡◌, ◌<◌, ◌≤◌, ◌^◌, ℕ, zero, suc, ◌+◌, ◌*◌, List, [], ◌∷◌, ◌++◌, length, map, flat_map, Some}
use Rattle.std.proofs.Common.{refl, sym, ap, ◌∙◌, arith, inl, inr, length-append}
use Rattle.std.specs.Prelude.{◌⊎◌, slice_get}
use Rattle.std.specs.List.{AllByRecursion, All}
use Rattle.std.proofs.lemmas.List.{length-map}
use Rattle.std.proofs.lemmas.List.Elements.{All-from_recursion, recursion_from_All}
use Rattle.std.proofs.lemmas.Option.{none-some, same_Some}
use Rattle.pcc_base.specs.declared.run.Width.{Width}
use Rattle.pcc_base.specs.Names.{IsName}
use Rattle.pcc_base.specs.Objects as objects
use Rattle.pcc_base.proofs.Lists.{all-append, all-at}
use Rattle.c_tree.specs.declared.types.IntegerType.{IntegerType}
use Rattle.c_tree.specs.declared.types.IntegerType.TheVariants.{Char, Short, Int, UnsignedInt}
use Rattle.c_tree.specs.declared.types.ValueType.{ValueType}
use Rattle.c_tree.specs.declared.types.ValueType.TheVariants.{Void, Integer, Pointer}
use Rattle.c_tree.specs.Objects.{data_object}
use Rattle.c_tree.specs.Program.{Function, Local, LocalArray, Program, StaticObject}
use Rattle.c_tree.specs.Sizes.{bytes_of}
use Rattle.flow_graph.specs.Graphs.{Flow, IsArray, IsFlow}
use Rattle.lower_lines.specs.Lowering.{HasObjects, array_of}
use Rattle.ia32_insn.specs.Items.{data_bytes, data_start, round_up}
use Rattle.ia32_insn.specs.Items as items
use Rattle.ia32_insn.proofs.Objects.{length-object_addresses, round-above}
use Rattle.ia32_rows.specs.Paths.{IsAt}
use Rattle.ia32_rows.specs.Placements.{Code, objects_of}
use Rattle.ia32_laws.specs.Supports.{AreArraysIn, size_of}
use Rattle.ia32_laws.proofs.Objects.{object-in}
use Rattle.ia32_laws.specs.StandingLaws.{IsSelected}
use Rattle.map_text.specs.Maps.{IsMapArray, IsMapObject, IsMapVariable}
use Rattle.map_lines.specs.Parts.{arrays_at, local_variables, objects_at, temporary, typed_variables}
use Rattle.map_lines.specs.MapLaws.{IsNamedFunction}
use Rattle.map_lines.specs.MapOf.{variables_over}

-- ---- objects and arrays

element-bytes : (t : IntegerType) → (bytes_of t ≡ 1) ⊎ ((bytes_of t ≡ 2) ⊎ (bytes_of t ≡ 4))
element-bytes Char = inl refl
element-bytes Short = inr (inl refl)
element-bytes Int = inr (inr refl)
element-bytes UnsignedInt = inr (inr refl)

-- what is known of an object and its address
abbrev pub IsHeld : StaticObject → ℕ → Type 0
IsHeld o address = (address < 2 ^ 32) × (1 ≤ length o.elements) × (length o.elements < 2 ^ 32)

pub objects-ruled : (os : List StaticObject) (addresses : List ℕ)
    → ((k address : ℕ) (o : StaticObject) → slice_get os k ≡ Some o → slice_get addresses k ≡ Some address
    → IsHeld o address)
    → AllByRecursion IsMapObject (objects_at os addresses)
objects-ruled [] addresses held = tt
objects-ruled (o ∷ os) [] held = tt
objects-ruled (o ∷ os) (address ∷ addresses) held =
    let (low, some, few) = held 0 address o refl refl in (
      (low, (few, some, element-bytes o.element)),
      objects-ruled os addresses (λ k a x at there. held (suc k) a x at there),
    )

-- as many as the program has
pub objects-many : (os : List StaticObject) (addresses : List ℕ) → length addresses ≡ length os
    → length (objects_at os addresses) ≡ length os
objects-many [] addresses many = refl
objects-many (o ∷ os) [] many = absurd (omega (arith, many))
objects-many (o ∷ os) (address ∷ addresses) many = ap suc (objects-many os addresses (omega (arith, many)))

-- what is known of a frame array and of how far below EBP it is
abbrev pub IsHeldArray : LocalArray → ℕ → Type 0
IsHeldArray a below = (1 ≤ below) × (below ≤ 2 ^ 31) × (1 ≤ a.count) × (a.count < 2 ^ 32)

pub arrays-ruled : (arrays : List LocalArray) (belows : List ℕ)
    → ((k below : ℕ) (a : LocalArray) → slice_get arrays k ≡ Some a → slice_get belows k ≡ Some below
    → IsHeldArray a below)
    → AllByRecursion IsMapArray (arrays_at arrays belows)
arrays-ruled [] belows held = tt
arrays-ruled (a ∷ arrays) [] held = tt
arrays-ruled (a ∷ arrays) (below ∷ belows) held =
    let (low, high, some, few) = held 0 below a refl refl in (
      (low, high, (few, some, element-bytes a.element)),
      arrays-ruled arrays belows (λ k b x at there. held (suc k) b x at there),
    )

-- as many as the function has
pub arrays-many : (arrays : List LocalArray) (belows : List ℕ) → length belows ≡ length arrays
    → length (arrays_at arrays belows) ≡ length arrays
arrays-many [] belows many = refl
arrays-many (a ∷ arrays) [] many = absurd (omega (arith, many))
arrays-many (a ∷ arrays) (below ∷ belows) many = ap suc (arrays-many arrays belows (omega (arith, many)))

pub mapped-at : (arrays : List LocalArray) (k : ℕ) (a : LocalArray) → slice_get arrays k ≡ Some a
    → slice_get (map array_of arrays) k ≡ Some (array_of a)
mapped-at [] k a at = absurd (none-some a at)
mapped-at (x ∷ arrays) zero a at = ap (λ (y : LocalArray). Some (array_of y)) (same_Some x a at)
mapped-at (x ∷ arrays) (suc k) a at = mapped-at arrays k a at

data-at : (os : List StaticObject) (k : ℕ) (o : StaticObject) → slice_get os k ≡ Some o
    → slice_get (map data_object os) k ≡ Some (data_object o)
data-at [] k o at = absurd (none-some o at)
data-at (x ∷ os) zero o at = ap (λ (y : StaticObject). Some (data_object y)) (same_Some x o at)
data-at (x ∷ os) (suc k) o at = data-at os k o at

held-at : (os : List objects.Object) (k : ℕ) (o : objects.Object) → slice_get os k ≡ Some o
    → (x : items.Object) × (slice_get
    (map (λ object. let y : items.Object = record { width = object.width; elements = object.elements } in y) os) k
    ≡ Some x)
held-at [] k o at = absurd (none-some o at)
held-at (x ∷ os) zero o at = (_, refl)
held-at (x ∷ os) (suc k) o at = held-at os k o at

-- ---- variables

variables-named : (name : List ℕ) (t : ValueType) → IsName name → AllByRecursion IsMapVariable (typed_variables name t)
variables-named name Void is = tt
variables-named name (Integer Char) is = (is, tt)
variables-named name (Integer Short) is = (is, tt)
variables-named name (Integer Int) is = (is, tt)
variables-named name (Integer UnsignedInt) is = (is, tt)
variables-named name (Pointer element) is = (is, (is, tt))

pub locals-named : (locals : List Local) → AllByRecursion (λ l. IsName l.name) locals
    → AllByRecursion IsMapVariable (flat_map local_variables locals)
locals-named [] names = tt
locals-named (l ∷ locals) names =
    all-append IsMapVariable (local_variables l) (flat_map local_variables locals) (variables-named l.name l.of names.0)
    (locals-named locals names.1)

pub temporaries-named : (widths : List Width) → AllByRecursion IsMapVariable (map temporary widths)
temporaries-named [] = tt
temporaries-named (width ∷ widths) = (tt, temporaries-named widths)

-- the variables of a function have names, or are temporaries
pub variables-ruled : (f : Function) (flow : Flow) → IsNamedFunction f
    → All IsMapVariable (variables_over f flow)
variables-ruled f flow named =
    All-from_recursion IsMapVariable (variables_over f flow)
    (all-append IsMapVariable (flat_map local_variables f.locals) _
    (locals-named f.locals (recursion_from_All (λ l. IsName l.name) f.locals named.locals)) (temporaries-named _))

-- ---- where they stand

-- how a frame array stands
pub arrays-held : (f : Function) (flow : Flow) (own : List ℕ) (frame : ℕ) (belows : List ℕ)
    → flow.arrays ≡ map array_of f.arrays → IsFlow flow own → AreArraysIn flow.arrays frame belows → frame ≤ 0x4000
    → (j below : ℕ) (a : LocalArray) → slice_get f.arrays j ≡ Some a → slice_get belows j ≡ Some below
    → IsHeldArray a below
arrays-held f flow own frame belows are flows stand small j below a has there =
    let mine : slice_get flow.arrays j ≡ Some (array_of a) = ap (λ (xs : List (ℕ × ℕ)). slice_get xs j) are
    ∙ mapped-at f.arrays j a has in
    let inside = stand.inside j below (array_of a) mine there in
    let fits = all-at IsArray flow.arrays j (array_of a) flows.arrays_fit mine in
    let few = all-at (λ (array : ℕ × ℕ). array.1 ≤ 0xffffffff) flow.arrays j (array_of a) flows.few_elements mine in
    counted below (size_of (array_of a)) frame a.count inside.low inside.high small fits.1 few
  where
    counted : (below size frame count : ℕ) → 16 + size ≤ below → below + 4 ≤ frame → frame ≤ 0x4000 → 1 ≤ count
        → count ≤ 0xffffffff
        → (1 ≤ below) × (below ≤ 2 ^ 31) × (1 ≤ count) × (count < 2 ^ 32)
    counted below size frame count low high small some few =
        (omega (arith, low), omega (arith, high, small), some, omega (arith, few))

-- how a static object does
pub objects-held : (program : Program) (code : Code) → IsSelected code → HasObjects program code.program
    → (k address : ℕ) (o : StaticObject) → slice_get program.objects k ≡ Some o
    → slice_get code.symbols.objects k ≡ Some address → IsHeld o address
objects-held program code selected same k address o at there =
    let supported = selected.supported in
    let mine : slice_get code.program.objects k ≡ Some (data_object o) =
    ap (λ (xs : List objects.Object). slice_get xs k) same ∙ data-at program.objects k o at in
    let whole = all-at objects.IsObject code.program.objects k (data_object o)
    (recursion_from_All objects.IsObject code.program.objects supported.program.objects) mine in
    let short = all-at (λ (object : objects.Object). length object.elements ≤ 0x80000000) code.program.objects k
    (data_object o)
    (recursion_from_All (λ object. length object.elements ≤ 0x80000000) code.program.objects supported.few) mine in
    let (x, held) = held-at code.program.objects k (data_object o) mine in
    let os = objects_of code.program in
    let text = supported.is_code.text in
    let inside = object-in (data_start code.text) os k address x held
    (ap (λ (xs : List ℕ). slice_get xs k) (sym text.objects_are) ∙ there) in
    counted (data_start code.text) (length (data_bytes os)) address (x.width * length x.elements)
    (length o.elements) inside.1 (round-above (length (data_bytes os))) supported.fits whole.some_elements short
  where
    counted : (start size address mine count : ℕ) → address + mine ≤ start + size → size ≤ round_up 4 size
        → start + (round_up 4 size + 0x04001000) < 0x1_0000_0000 → 1 ≤ count → count ≤ 0x80000000
        → (address < 2 ^ 32) × (1 ≤ count) × (count < 2 ^ 32)
    counted start size address mine count inside most fits some few =
        (omega (arith, inside, most, fits), some, omega (arith, few))

-- each object has an address
pub addresses-many : (program : Program) (code : Code) → IsSelected code → HasObjects program code.program
    → (length code.symbols.objects ≡ length program.objects) × (length code.program.objects ≡ length program.objects)
addresses-many program code selected same =
    let os = objects_of code.program in
    let all : length code.program.objects ≡ length program.objects = ap length same ∙ length-map program.objects _ in (
      ap length selected.supported.is_code.text.objects_are
          ∙ (length-object_addresses (data_start code.text + 4) os ∙ (length-map code.program.objects _ ∙ all)),
      all,
    )

-- what stands in the text stands at an address of 32 bits
pub text-small : (text : List ℕ) (address : ℕ) (bytes : List ℕ) (end : ℕ) → IsAt text address bytes
    → data_start text ≤ end → end < 2 ^ 32 → address < 2 ^ 32
text-small text address bytes end at low high =
    let whole = ap length at.whole ∙ length-append at.done (bytes ++ at.rest) in
    let rounded : length text ≤ round_up 0x1000 (length text) = omega arith in
    omega (arith, whole, at.place, rounded, low, high)

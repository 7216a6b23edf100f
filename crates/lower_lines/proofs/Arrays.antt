-- Arrays on both sides: which array a name of a typed pointer reaches, and that the states belong together where one
-- gets other elements.
use Rattle.std.proofs.Common.{◌≡◌, ℕ, zero, suc, Bool, true, false, ℤ, pos, negsuc}
use Rattle.std.proofs.Common.{List, [], ◌∷◌, length, map, Option, Some, refl, sym, ap, ◌∙◌, subst, arith}
use Rattle.std.specs.Prelude.{slice_get, slice_set, slice_index_or, option_map, if◌then◌else◌, ◌==◌, IsSomeAnd}
use Rattle.std.specs.Prelude.{replicate}
use Rattle.std.specs.List.{AllZip}
use Rattle.std.proofs.lemmas.Int.{SFits-int_wrap, int_wrap_fits}
use Rattle.std.proofs.lemmas.List.Elements.{All-nil, All-replicate, All-set}
use Rattle.std.specs.Int.{w8, w16}
use Rattle.std.proofs.lemmas.Option.{same_Some}
use Rattle.pcc_base.specs.Outcome.{Null, Static, InFrame, Unknown}
use Rattle.c_tree.specs.declared.types.IntegerType.{IntegerType}
use Rattle.c_tree.specs.declared.types.IntegerType.TheVariants.{Char, Short, Int, UnsignedInt}
use Rattle.c_tree.specs.Objects.{data_object}
use Rattle.c_tree.specs.Program.{Function, LocalArray, Program, StaticObject}
use Rattle.c_tree.specs.Sizes.{bytes_of}
use Rattle.c_tree.specs.Store as source
use Rattle.c_tree.specs.Store.{array_named, arrays_in, call_of_depth, converted, with_array_in, with_own}
use Rattle.flow_graph.specs.Graphs.{Flow, empty_flow}
use Rattle.flow_graph.specs.Meaning.{Moved, given, of_width}
use Rattle.flow_graph.specs.States as graph
use Rattle.flow_graph.specs.States.{Elements, active_of, depth_of, elements_in, elements_of, elements_with, flow_at}
use Rattle.flow_graph.specs.States.{waiting_place, with_elements}
use Rattle.lower_lines.specs.Lowering.{array_of}
use Rattle.lower_lines.specs.Parts.{bits_of}
use Rattle.lower_lines.specs.Programs.{graph_of_function, lowered}
use Rattle.lower_lines.specs.Relation.{AreNumbersOf, IsNumberOf, Keeps, SameWaiting, ShowCalls, Shows, ShowsCall}
use Rattle.lower_lines.specs.Relation.{function_of_depth}
use Rattle.lower_lines.proofs.Depths.{active-with, all-same, deep, frame-deep, waiting-same, with_deep, with_frame}
use Rattle.lower_lines.specs.RelationLaws.{ArraysAreReached, ArraysAreSet, ArraysAreThere, ArraysFit, KeptByArrays}

-- ---- lists

pub index-of-map : {A B : Type 0} (f : A → B) (xs : List A) (k : ℕ) (x : A) (d : B) → slice_get xs k ≡ Some x
    → slice_index_or (map f xs) k d ≡ f x
index-of-map f [] k x d e = absurd (cc)
index-of-map f (y ∷ xs) zero x d e = ap f (same_Some y x e)
index-of-map f (y ∷ xs) (suc k) x d e = index-of-map f xs k x d e

-- an element is there where as many are
there : {B : Type 0} (count : B → ℕ) (P : B → Type 0) (xss : List (List ℤ)) (ys : List B) (k : ℕ)
    → map (λ (xs : List ℤ). length xs) xss ≡ map count ys → IsSomeAnd (slice_get ys k) P
    → slice_get xss k ≡ Some (slice_index_or xss k [])
there count P xss [] k e is = absurd is
there count P [] (y ∷ ys) k e is = absurd (apart (count y) (map count ys) e)
  where
    apart : (n : ℕ) (ns : List ℕ) → [] ≡ n ∷ ns → ⊥
    apart n ns e = absurd (cc)
there count P (xs ∷ xss) (y ∷ ys) zero e is = refl
there count P (xs ∷ xss) (y ∷ ys) (suc k) e is =
    there count P xss ys k (rest (length xs) (count y) (map (λ (zs : List ℤ). length zs) xss) (map count ys) e) is
  where
    rest : (m n : ℕ) (ms ns : List ℕ) → m ∷ ms ≡ n ∷ ns → ms ≡ ns
    rest m n ms ns e = cc

-- what is said of an element, of what is made of it
mapped : {A B : Type 0} (f : A → B) (P : A → Type 0) (b : B) (xs : List A) (k : ℕ)
    → ((x : A) → P x → f x ≡ b) → IsSomeAnd (slice_get xs k) P → slice_get (map f xs) k ≡ Some b
mapped f P b [] k says is = absurd is
mapped f P b (x ∷ xs) zero says is = ap Some (says x is)
mapped f P b (x ∷ xs) (suc k) says is = mapped f P b xs k says is

-- the same, of a part of what is made
part-mapped : {A B C : Type 0} (f : A → B) (h : B → C) (P : A → Type 0) (c : C) (xs : List A) (k : ℕ)
    → ((x : A) → P x → h (f x) ≡ c) → IsSomeAnd (slice_get xs k) P → option_map h (slice_get (map f xs) k) ≡ Some c
part-mapped f h P c [] k says is = absurd is
part-mapped f h P c (x ∷ xs) zero says is = ap Some (says x is)
part-mapped f h P c (x ∷ xs) (suc k) says is = part-mapped f h P c xs k says is

-- as many elements as before
lengths-set : (xss : List (List ℤ)) (k : ℕ) (xs : List ℤ) → length xs ≡ length (slice_index_or xss k [])
    → map (λ (ys : List ℤ). length ys) (slice_set xss k xs) ≡ map (λ (ys : List ℤ). length ys) xss
lengths-set [] k xs e = refl
lengths-set (ys ∷ xss) zero xs e = ap (λ (n : ℕ). n ∷ map (λ (zs : List ℤ). length zs) xss) e
lengths-set (ys ∷ xss) (suc k) xs e = ap (λ (ns : List ℕ). length ys ∷ ns) (lengths-set xss k xs e)

-- ---- numbers of a type

-- a number in a type is one of it
pub converted-of : (t : IntegerType) (n : ℤ) → IsNumberOf t (converted t n)
converted-of Char n = int_wrap_fits w8 _ (SFits-int_wrap w8 n)
converted-of Short n = int_wrap_fits w16 _ (SFits-int_wrap w16 n)
converted-of Int n = refl
converted-of UnsignedInt n = refl

zero-of : (t : IntegerType) → IsNumberOf t (pos 0)
zero-of Char = int_wrap_fits w8 (pos 0) (record { sfits = omega arith })
zero-of Short = int_wrap_fits w16 (pos 0) (record { sfits = omega arith })
zero-of Int = refl
zero-of UnsignedInt = refl

pub zeros-fit : (t : IntegerType) (n : ℕ) → AreNumbersOf t (replicate n (pos 0))
zeros-fit t n = All-replicate (IsNumberOf t) n (pos 0) (zero-of t)

-- one element is another number of the type
pub element-fits : (t : IntegerType) (elements : List ℤ) (index n : ℤ) → AreNumbersOf t elements
    → AreNumbersOf t (source.with_element elements index (converted t n))
element-fits t elements (pos i) n h = All-set (IsNumberOf t) elements i (converted t n) (converted-of t n) h
element-fits t elements (negsuc i) n h = h

-- the elements at one place, where those of each are numbers of a type
row-of : {B : Type 0} (of : B → IntegerType) (t : IntegerType) (ys : List B) (xss : List (List ℤ)) (k : ℕ)
    → AllZip (λ y xs. AreNumbersOf (of y) xs) ys xss → IsSomeAnd (slice_get ys k) (λ y. of y ≡ t)
    → AreNumbersOf t (slice_index_or xss k [])
row-of of t [] xss k h is = absurd is
row-of of t (y ∷ ys) [] k h is = absurd h
row-of of t (y ∷ ys) (xs ∷ xss) zero h is = subst (λ (u : IntegerType). AreNumbersOf u xs) is h.0
row-of of t (y ∷ ys) (xs ∷ xss) (suc k) h is = row-of of t ys xss k h.1 is

-- other elements at one place
rows-set : {B : Type 0} (of : B → IntegerType) (t : IntegerType) (ys : List B) (xss : List (List ℤ)) (k : ℕ)
    (elements : List ℤ) → AllZip (λ y xs. AreNumbersOf (of y) xs) ys xss
    → IsSomeAnd (slice_get ys k) (λ y. of y ≡ t) → AreNumbersOf t elements
    → AllZip (λ y xs. AreNumbersOf (of y) xs) ys (slice_set xss k elements)
rows-set of t [] xss k elements h is new = absurd is
rows-set of t (y ∷ ys) [] k elements h is new = absurd h
rows-set of t (y ∷ ys) (xs ∷ xss) zero elements h is new =
    (subst (λ (u : IntegerType). AreNumbersOf u elements) (sym is) new, h.1)
rows-set of t (y ∷ ys) (xs ∷ xss) (suc k) elements h is new = (h.0, rows-set of t ys xss k elements h.1 is new)

-- ---- active calls

-- as many calls are active on both sides
pub as-many : (p : Program) (fs : List Function) (olds : List source.Activation) (bs : List graph.Activation)
    → ShowCalls p fs olds bs → (length fs ≡ length olds) × (length bs ≡ length olds)
as-many p [] [] [] h = (refl, refl)
as-many p [] [] (b ∷ bs) h = absurd h
as-many p [] (a ∷ olds) [] h = absurd h
as-many p [] (a ∷ olds) (b ∷ bs) h = absurd h
as-many p (f ∷ fs) [] [] h = absurd h
as-many p (f ∷ fs) [] (b ∷ bs) h = absurd h
as-many p (f ∷ fs) (a ∷ olds) [] h = absurd h
as-many p (f ∷ fs) (a ∷ olds) (b ∷ bs) h =
    let rest = as-many p fs olds bs h.1 in
    (ap suc rest.0, ap suc rest.1)

-- the calls of a depth on both sides
abbrev Reached : Program → (Function → Type 0) → Option source.Activation → Option graph.Activation → Type 0
Reached p P x y = (f : Function) × (functions : List Function) × (a : source.Activation) × (b : graph.Activation)
    × P f × (x ≡ Some a) × (y ≡ Some b) × ShowsCall p f functions a b

reached : (p : Program) (P : Function → Type 0) (fs : List Function) (olds : List source.Activation)
    (bs : List graph.Activation) (depth : ℕ) → ShowCalls p fs olds bs → IsSomeAnd (function_of_depth fs depth) P
    → Reached p P (call_of_depth olds depth) (deep bs depth)
reached p P [] olds bs depth h is = absurd is
reached p P (f ∷ fs) [] [] depth h is = absurd h
reached p P (f ∷ fs) [] (b ∷ bs) depth h is = absurd h
reached p P (f ∷ fs) (a ∷ olds) [] depth h is = absurd h
reached p P (f ∷ fs) (a ∷ olds) (b ∷ bs) depth h is =
    let many = as-many p fs olds bs h.1 in
    subst (λ (n : ℕ). Reached p P (if depth == suc n then Some a else call_of_depth olds depth)
    (if depth == suc (length bs) then Some b else deep bs depth)) many.0
    (subst (λ (n : ℕ). Reached p P (if depth == suc (length fs) then Some a else call_of_depth olds depth)
    (if depth == suc n then Some b else deep bs depth)) (many.0 ∙ sym many.1)
    (by (depth == suc (length fs)) (reached p P fs olds bs depth h.1) is))
  where
    by : (here : Bool)
        → (IsSomeAnd (function_of_depth fs depth) P → Reached p P (call_of_depth olds depth) (deep bs depth))
        → IsSomeAnd (if here then Some f else function_of_depth fs depth) P
        → Reached p P (if here then Some a else call_of_depth olds depth) (if here then Some b else deep bs depth)
    by true others is = (f, f ∷ fs, a, b, is, refl, refl, h.0)
    by false others is = others is

-- ---- the elements of a name

frame-elements : (p : Program) (t : IntegerType) (g : graph.State) (s : source.State) (k depth : ℕ)
    → Reached p (λ f. IsSomeAnd (slice_get f.arrays k) (λ a. a.element ≡ t)) (call_of_depth s.active depth)
    (deep (active_of g) depth)
    → elements_of (lowered p) g (InFrame k depth) ≡ Some (bytes_of t, array_named s (InFrame k depth))
frame-elements p t g s k depth (f, functions, a, b, is, at_source, at_graph, shows) =
    let flow : flow_at (lowered p) b.function ≡ graph_of_function p f =
    index-of-map (graph_of_function p) p.functions b.function f empty_flow shows.function in
    let width : option_map (λ (x : ℕ × ℕ). x.0) (slice_get (flow_at (lowered p) b.function).arrays k)
    ≡ Some (bytes_of t) =
    ap (λ (x : Flow). option_map (λ (y : ℕ × ℕ). y.0) (slice_get x.arrays k)) flow
    ∙ part-mapped array_of (λ (y : ℕ × ℕ). y.0) (λ (x : LocalArray). x.element ≡ t) (bytes_of t) f.arrays k
    (λ x e. ap bytes_of e) is in
    let elements : slice_get b.arrays k ≡ Some (slice_index_or a.arrays k []) =
    ap (λ (xss : List (List ℤ)). slice_get xss k) shows.arrays
    ∙ there (λ (x : LocalArray). x.count) (λ (x : LocalArray). x.element ≡ t) a.arrays f.arrays k shows.counts is in
    ap (elements_in (lowered p) k) (frame-deep g depth ∙ at_graph)
    ∙ ap (λ (w : Option ℕ). elements_with w (slice_get b.arrays k)) width
    ∙ ap (elements_with (Some (bytes_of t))) elements
    ∙ ap (λ (x : Option source.Activation). Some (bytes_of t, slice_index_or (arrays_in x) k [])) (sym at_source)

-- the array is there, with the elements that the source has
pub arrays-there : ArraysAreThere
arrays-there p active s g t Null shows is some = absurd (some refl)
arrays-there p active s g t (Static k) shows is some =
    let width = part-mapped data_object (λ (o : graph.Object). o.width) (λ (o : StaticObject). o.element ≡ t)
    (bytes_of t) p.objects k (λ o e. ap bytes_of e) is in
    let elements = ap (λ (xss : List (List ℤ)). slice_get xss k) shows.objects
    ∙ there (λ (o : StaticObject). length o.elements) (λ (o : StaticObject). o.element ≡ t) s.objects p.objects k
    shows.counts is in
    ap (λ (w : Option ℕ). elements_with w (slice_get g.objects k)) width
    ∙ ap (elements_with (Some (bytes_of t))) elements
arrays-there p active s g t (InFrame k depth) shows is some =
    frame-elements p t g s k depth
    (reached p (λ f. IsSomeAnd (slice_get f.arrays k) (λ a. a.element ≡ t)) active s.active (active_of g) depth
    shows.calls is)
arrays-there p active s g t Unknown shows is some = absurd is

-- elements of a type have the bits of its accesses
of-bits : (t : IntegerType) (elements : List ℤ) (go : List ℤ → Moved)
    → of_width (bits_of t) (bytes_of t, elements) go ≡ go elements
of-bits Char elements go = refl
of-bits Short elements go = refl
of-bits Int elements go = refl
of-bits UnsignedInt elements go = refl

pub arrays-reached : ArraysAreReached
arrays-reached p active s g t Null shows is some go = absurd (some refl)
arrays-reached p active s g t (Static k) shows is some go =
    ap (λ (x : Option Elements). given x (λ elements. of_width (bits_of t) elements go))
    (arrays-there p active s g t (Static k) shows is some)
    ∙ of-bits t (array_named s (Static k)) go
arrays-reached p active s g t (InFrame k depth) shows is some go =
    ap (λ (x : Option Elements). given x (λ elements. of_width (bits_of t) elements go))
    (arrays-there p active s g t (InFrame k depth) shows is some)
    ∙ of-bits t (array_named s (InFrame k depth)) go
arrays-reached p active s g t Unknown shows is some go = absurd is

-- its elements are numbers of the type
frame-fits : (p : Program) (t : IntegerType) (s : source.State) (g : graph.State) (k depth : ℕ)
    → Reached p (λ f. IsSomeAnd (slice_get f.arrays k) (λ a. a.element ≡ t)) (call_of_depth s.active depth)
    (deep (active_of g) depth) → AreNumbersOf t (array_named s (InFrame k depth))
frame-fits p t s g k depth (f, functions, a, b, is, at_source, at_graph, shows) =
    subst (λ (x : Option source.Activation). AreNumbersOf t (slice_index_or (arrays_in x) k [])) (sym at_source)
    (row-of (λ (x : LocalArray). x.element) t f.arrays a.arrays k shows.fits is)

pub arrays-fit : ArraysFit
arrays-fit p active s g t Null shows is = All-nil (IsNumberOf t)
arrays-fit p active s g t (Static k) shows is =
    row-of (λ (o : StaticObject). o.element) t p.objects s.objects k shows.fits is
arrays-fit p active s g t (InFrame k depth) shows is =
    frame-fits p t s g k depth
    (reached p (λ f. IsSomeAnd (slice_get f.arrays k) (λ a. a.element ≡ t)) active s.active (active_of g) depth
    shows.calls is)
arrays-fit p active s g t Unknown shows is = absurd is

-- ---- other elements

-- the function has such an array
abbrev HasArray : ℕ → IntegerType → Function → Type 0
HasArray k t f = IsSomeAnd (slice_get f.arrays k) (λ a. a.element ≡ t)

call-set : (p : Program) (f : Function) (active : List Function) (a : source.Activation) (b : graph.Activation) (k : ℕ)
    (t : IntegerType) (elements : List ℤ) → ShowsCall p f active a b → HasArray k t f
    → length elements ≡ length (slice_index_or a.arrays k []) → AreNumbersOf t elements
    → ShowsCall p f active (with_own k elements a) (with_elements k elements b)
call-set p f active a b k t elements h is e new = record {
  function = h.function;
  as_many = h.as_many;
  locals = h.locals;
  values = h.values;
  arrays = ap (λ (xss : List (List ℤ)). slice_set xss k elements) h.arrays;
  counts = lengths-set a.arrays k elements e ∙ h.counts;
  fits = rows-set (λ (x : LocalArray). x.element) t f.arrays a.arrays k elements h.fits is new;
}

calls-set : (p : Program) (fs : List Function) (olds : List source.Activation) (bs : List graph.Activation)
    (k depth : ℕ) (t : IntegerType) (elements : List ℤ) → ShowCalls p fs olds bs
    → IsSomeAnd (function_of_depth fs depth) (HasArray k t)
    → length elements ≡ length (slice_index_or (arrays_in (call_of_depth olds depth)) k []) → AreNumbersOf t elements
    → ShowCalls p fs (with_array_in k depth elements olds) (with_deep k depth elements bs)
calls-set p [] [] [] k depth t elements h is e new = tt
calls-set p [] [] (b ∷ bs) k depth t elements h is e new = absurd h
calls-set p [] (a ∷ olds) [] k depth t elements h is e new = absurd h
calls-set p [] (a ∷ olds) (b ∷ bs) k depth t elements h is e new = absurd h
calls-set p (f ∷ fs) [] [] k depth t elements h is e new = absurd h
calls-set p (f ∷ fs) [] (b ∷ bs) k depth t elements h is e new = absurd h
calls-set p (f ∷ fs) (a ∷ olds) [] k depth t elements h is e new = absurd h
calls-set p (f ∷ fs) (a ∷ olds) (b ∷ bs) k depth t elements h is e new =
    let many = as-many p fs olds bs h.1 in
    let is' = subst (λ (n : ℕ). IsSomeAnd (if depth == suc n then Some f else function_of_depth fs depth)
    (HasArray k t)) many.0 is in
    subst (λ (n : ℕ). ShowCalls p (f ∷ fs) (if depth == suc (length olds) then with_own k elements a ∷ olds
    else a ∷ with_array_in k depth elements olds) (if depth == suc n then with_elements k elements b ∷ bs
    else b ∷ with_deep k depth elements bs)) (sym many.1)
    (by (depth == suc (length olds)) (λ there same. calls-set p fs olds bs k depth t elements h.1 there same new) is' e)
  where
    by : (here : Bool)
        → (IsSomeAnd (function_of_depth fs depth) (HasArray k t)
        → length elements ≡ length (slice_index_or (arrays_in (call_of_depth olds depth)) k [])
        → ShowCalls p fs (with_array_in k depth elements olds) (with_deep k depth elements bs))
        → IsSomeAnd (if here then Some f else function_of_depth fs depth) (HasArray k t)
        → length elements
        ≡ length (slice_index_or (arrays_in (if here then Some a else call_of_depth olds depth)) k [])
        → ShowCalls p (f ∷ fs) (if here then with_own k elements a ∷ olds else a ∷ with_array_in k depth elements olds)
        (if here then with_elements k elements b ∷ bs else b ∷ with_deep k depth elements bs)
    by true others there e = (call-set p f (f ∷ fs) a b k t elements h.0 there e new, h.1)
    by false others there e = (h.0, others there e)

frame-set : (p : Program) (active : List Function) (s : source.State) (g : graph.State) (k depth : ℕ)
    (elements : List ℤ) (mine : Bool) → Shows p active s g
    → ShowCalls p active (with_array_in k depth elements s.active)
    (active_of (with_frame mine k depth elements g))
    → Shows p active (source.with_array (InFrame k depth) elements s) (with_frame mine k depth elements g)
frame-set p active s g k depth elements true shows calls = record {
  calls = calls;
  objects = shows.objects;
  counts = shows.counts;
  fits = shows.fits;
  left = shows.left;
  taken = shows.taken;
  written = shows.written;
}
frame-set p active s g k depth elements false shows calls = record {
  calls = calls;
  objects = shows.objects;
  counts = shows.counts;
  fits = shows.fits;
  left = shows.left;
  taken = shows.taken;
  written = shows.written;
}

pub arrays-set : ArraysAreSet
arrays-set p active s g t Null elements shows is e new = shows
arrays-set p active s g t (Static k) elements shows is e new = record {
  calls = shows.calls;
  objects = ap (λ (xss : List (List ℤ)). slice_set xss k elements) shows.objects;
  counts = lengths-set s.objects k elements e ∙ shows.counts;
  fits = rows-set (λ (o : StaticObject). o.element) t p.objects s.objects k elements shows.fits is new;
  left = shows.left;
  taken = shows.taken;
  written = shows.written;
}
arrays-set p active s g t (InFrame k depth) elements shows is e new =
    frame-set p active s g k depth elements (depth == depth_of g) shows
    (subst (λ (bs : List graph.Activation). ShowCalls p active (with_array_in k depth elements s.active) bs)
    (sym (active-with g k depth elements))
    (calls-set p active s.active (active_of g) k depth t elements shows.calls is e new))
arrays-set p active s g t Unknown elements shows is e new = shows

-- ---- what is kept

frame-keeps : (first level : ℕ) (g : graph.State) (k depth : ℕ) (elements : List ℤ) (mine : Bool)
    → Keeps first level g (with_frame mine k depth elements g)
frame-keeps first level g k depth elements true = record {
  function = refl;
  arguments = refl;
  temporaries = λ v low below. refl;
  waiting = all-same g.waiting;
}
frame-keeps first level g k depth elements false = record {
  function = refl;
  arguments = refl;
  temporaries = λ v low below. refl;
  waiting = waiting-same g.waiting k (waiting_place g depth) elements;
}

kept-all : (first level : ℕ) (g h : graph.State) → h.current ≡ g.current → h.waiting ≡ g.waiting → Keeps first level g h
kept-all first level g h current waiting = record {
  function = ap (λ (a : graph.Activation). a.function) current;
  arguments = ap (λ (a : graph.Activation). a.arguments) current;
  temporaries = λ v low below. ap (λ (a : graph.Activation). slice_get a.variables v) current;
  waiting = subst (λ (ws : List graph.Waiting). AllZip SameWaiting g.waiting ws) (sym waiting) (all-same g.waiting);
}

pub kept-by-arrays : KeptByArrays
kept-by-arrays first level g Null elements = kept-all first level g g refl refl
kept-by-arrays first level g (Static k) elements =
    kept-all first level g (graph.with_array (Static k) elements g) refl refl
kept-by-arrays first level g (InFrame k depth) elements = frame-keeps first level g k depth elements (depth ==
    depth_of g)
kept-by-arrays first level g Unknown elements = kept-all first level g g refl refl

-- What is there is found under its number.
use Rattle.std.proofs.Common.{arith, ◌≡◌, refl, sym, ap, subst, ◌∙◌, ℕ, zero, suc, Bool, true, false, List, [], ◌∷◌}
use Rattle.std.proofs.Common.{map, length, inl, inr}
use Rattle.std.specs.Prelude.{ℤ, Option, Some, None, IsSomeAnd, slice_get, filter, filter_map, cond, not, ◌||◌}
use Rattle.std.specs.Prelude.{if◌then◌else◌}
use Rattle.std.specs.List.{list_any, cons_option}
use Rattle.c_tree.specs.Program as tree
use Rattle.c_tree.specs.Program.{StaticObject}
use Rattle.c_typing.specs.Library.{Entity, same_entity, number_among}
use Rattle.c_typing.specs.Types.{Declared}
use Rattle.c_typing.specs.Checked.{Stored, Note, Uses, Stores, Defines}
use Rattle.c_typing.specs.Numbering.{objects_noted, function_noted, defines, is_defining, is_defined, is_not}
use Rattle.c_typing.specs.Numbering.{first_ones, defined_ones, filled, static_object, is_function_of}
use Rattle.c_check_laws.proofs.RowsSound.{not_true}
use Rattle.c_check_laws.proofs.ExpressionsSound.{is_some_on}
use Rattle.c_check_laws.proofs.Entities.{IsIn, entity_is, entity_same}
use Rattle.c_check_laws.proofs.FilesSound.{Matches, declared_type}

-- ---- lists

pub any_is : {A : Type 0} (test : A → Bool) (xs : List A) → list_any test xs ≡ true
    → (x : A) × IsIn x xs × (test x ≡ true)
any_is test [] h = not_true h
any_is test (x ∷ xs) h = by_test (test x) refl h (λ k. any_is test xs k)
  where
    by_test : (b : Bool) → test x ≡ b → (b || list_any test xs) ≡ true
        → (list_any test xs ≡ true → (y : _) × IsIn y xs × (test y ≡ true))
        → (y : _) × IsIn y (x ∷ xs) × (test y ≡ true)
    by_test true e k rest = (x, inl refl, e)
    by_test false e k rest = let r = rest k in (r.0, inr r.1, r.2)

pub any_in : {A : Type 0} (test : A → Bool) (x : A) (xs : List A) → IsIn x xs → test x ≡ true
    → list_any test xs ≡ true
any_in test x [] i h = absurd i
any_in test x (y ∷ ys) (inl e) h = ap (λ b. b || list_any test ys) (subst (λ z. test z ≡ true) e h)
any_in test x (y ∷ ys) (inr i) h = either (test y) (any_in test x ys i h)
  where
    either : (b : Bool) → list_any test ys ≡ true → (b || list_any test ys) ≡ true
    either true k = refl
    either false k = k

pub none_of : {A B : Type 0} (h : A → Option B) (x : A) (xs : List A) → filter_map h xs ≡ [] → IsIn x xs → h x ≡ None
none_of h x [] e i = absurd i
none_of h x (y ∷ ys) e (inl p) = by_value (h y) refl e
  where
    by_value : (o : Option _) → h y ≡ o → cons_option o (filter_map h ys) ≡ [] → h x ≡ None
    by_value None q k = ap h p ∙ q
    by_value (Some z) q k = grind arith
none_of h x (y ∷ ys) e (inr i) = none_of h x ys (by_value (h y) e) i
  where
    by_value : (o : Option _) → cons_option o (filter_map h ys) ≡ [] → filter_map h ys ≡ []
    by_value None k = k
    by_value (Some z) k = grind arith

in_filter : {A : Type 0} (test : A → Bool) (x : A) (xs : List A) → IsIn x xs → test x ≡ true
    → IsIn x (filter test xs)
in_filter test x [] i h = absurd i
in_filter {A} test x (y ∷ ys) (inl e) h =
    subst (λ (b : Bool). IsIn x (cond b (y ∷ filter test ys) (filter test ys))) (sym (ap test (sym e) ∙ h)) (inl e)
in_filter test x (y ∷ ys) (inr i) h = by_test (test y) (in_filter test x ys i h)
  where
    by_test : (b : Bool) → IsIn x (filter test ys) → IsIn x (cond b (y ∷ filter test ys) (filter test ys))
    by_test true k = inr k
    by_test false k = k

pub of_filter : {A : Type 0} (test : A → Bool) (x : A) (xs : List A) → IsIn x (filter test xs) → IsIn x xs
of_filter test x [] i = absurd i
of_filter test x (y ∷ ys) i = by_test (test y) i (λ k. of_filter test x ys k)
  where
    by_test : (b : Bool) → IsIn x (cond b (y ∷ filter test ys) (filter test ys))
        → (IsIn x (filter test ys) → IsIn x ys) → IsIn x (y ∷ ys)
    by_test true (inl e) rest = inl e
    by_test true (inr k) rest = inr (rest k)
    by_test false k rest = inr (rest k)

-- ---- objects that are noted

pub in_objects : (x : Stored) (ns : List Note) → IsIn (Stores x) ns → IsIn x (objects_noted ns)
in_objects x [] i = absurd i
in_objects x (Uses e at ∷ ns) (inl e2) = grind arith
in_objects x (Uses e at ∷ ns) (inr i) = in_objects x ns i
in_objects x (Stores y ∷ ns) (inl e) = inl (stored_is e)
  where
    stored_or : Note → Stored
    stored_or (Uses f at) = x
    stored_or (Stores z) = z
    stored_or (Defines f d) = x

    stored_is : Stores x ≡ Stores y → x ≡ y
    stored_is p = ap stored_or p
in_objects x (Stores y ∷ ns) (inr i) = inr (in_objects x ns i)
in_objects x (Defines e d ∷ ns) (inl e2) = grind arith
in_objects x (Defines e d ∷ ns) (inr i) = in_objects x ns i

pub of_objects : (x : Stored) (ns : List Note) → IsIn x (objects_noted ns) → IsIn (Stores x) ns
of_objects x [] i = absurd i
of_objects x (Uses e at ∷ ns) i = inr (of_objects x ns i)
of_objects x (Stores y ∷ ns) (inl e) = inl (ap Stores e)
of_objects x (Stores y ∷ ns) (inr i) = inr (of_objects x ns i)
of_objects x (Defines e d ∷ ns) i = inr (of_objects x ns i)

pub of_first : (x : Stored) (os : List Stored) → IsIn x (first_ones os) → IsIn x os
of_first x [] i = absurd i
of_first x (o ∷ os) (inl e) = inl e
of_first x (o ∷ os) (inr i) = inr (of_first x os (of_filter (is_not o.entity) x (first_ones os) i))

-- an object of this entity is among these
abbrev HasOne : Entity → List Stored → Type 0
HasOne e os = (y : Stored) × IsIn y os × (y.entity ≡ e)

in_first : (x : Stored) (os : List Stored) → IsIn x os → HasOne x.entity (first_ones os)
in_first x [] i = absurd i
in_first x (o ∷ os) (inl e) = (o, inl refl, ap (λ (s : Stored). s.entity) (sym e))
in_first x (o ∷ os) (inr i) =
    let r = in_first x os i in by_test r.0 r.1 r.2 (same_entity r.0.entity o.entity) refl
  where
    by_test : (y : Stored) → IsIn y (first_ones os) → y.entity ≡ x.entity → (b : Bool)
        → same_entity y.entity o.entity ≡ b → HasOne x.entity (first_ones (o ∷ os))
    by_test y j p true q = (o, inl refl, sym (entity_is y.entity o.entity q) ∙ p)
    by_test y j p false q = (y, inr (in_filter (is_not o.entity) y (first_ones os) j (ap not q)), p)

abbrev pub StaticOf : List Stored → Entity → StaticObject → Type 0
StaticOf all e q = (y : Stored) × IsIn y all × (y.entity ≡ e) × (q ≡ static_object all y)

abbrev FoundIn : List Stored → Entity → List Stored → StaticObject → Type 0
FoundIn all e xs q = (y : Stored) × IsIn y xs × (y.entity ≡ e) × (q ≡ static_object all y)

number_finds : (all : List Stored) (e : Entity) (ds : List Stored) → HasOne e ds
    → IsSomeAnd (slice_get (map (static_object all) ds) (number_among (map (λ (o : Stored). o.entity) ds) e))
    (λ q. (y : Stored) × IsIn y ds × (y.entity ≡ e) × (q ≡ static_object all y))
number_finds all e [] h = absurd h.1
number_finds all e (d ∷ ds) h = by_test (same_entity d.entity e) refl h.0 h.1 h.2 (λ k. number_finds all e ds k)
  where
    by_test : (b : Bool) → same_entity d.entity e ≡ b → (y : Stored) → IsIn y (d ∷ ds) → y.entity ≡ e
        → (HasOne e ds → IsSomeAnd (slice_get (map (static_object all) ds)
        (number_among (map (λ (o : Stored). o.entity) ds) e)) (FoundIn all e ds))
        → IsSomeAnd (slice_get (static_object all d ∷ map (static_object all) ds)
        (if b then 0 else suc (number_among (map (λ (o : Stored). o.entity) ds) e))) (FoundIn all e (d ∷ ds))
    by_test true q y i p rest = (d, inl refl, entity_is d.entity e q, refl)
    by_test false q y (inl j) p rest =
        not_true (sym q ∙ entity_same d.entity e (ap (λ (s : Stored). s.entity) (sym j) ∙ p))
    by_test false q y (inr i) p rest =
        is_some_on (FoundIn all e ds) (FoundIn all e (d ∷ ds)) (slice_get (map (static_object all) ds)
        (number_among (map (λ (o : Stored). o.entity) ds) e)) (rest (y, i, p))
        (λ z r. (r.0, inr r.1, r.2, r.3))

defining_entity : (e : Entity) (x : Stored) (b : Bool) → same_entity x.entity e ≡ b
    → (if b then defines x.contents else false) ≡ true → x.entity ≡ e
defining_entity e x true q h = entity_is x.entity e q
defining_entity e x false q h = not_true h

-- what is defined has an object that is noted
pub defined_one : (all : List Stored) (e : Entity) → is_defined all e ≡ true → HasOne e all
defined_one all e h =
    let r = any_is (is_defining e) all h in
    (r.0, r.1, defining_entity e r.0 (same_entity r.0.entity e) refl r.2)

-- an object that is defined is found under its number
pub object_found : (all : List Stored) (e : Entity) → is_defined all e ≡ true
    → IsSomeAnd (slice_get (map (static_object all) (defined_ones all))
    (number_among (map (λ (o : Stored). o.entity) (defined_ones all)) e)) (StaticOf all e)
object_found all e h =
    let x = defined_one all e h in
    let y = in_first x.0 all x.1 in
    let p = y.2 ∙ x.2 in
    let test : Stored → Bool = λ o. is_defined all o.entity in
    let ds = defined_ones all in
    is_some_on (λ q. (z : Stored) × IsIn z ds × (z.entity ≡ e) × (q ≡ static_object all z)) (StaticOf all e)
    (slice_get (map (static_object all) ds) (number_among (map (λ (o : Stored). o.entity) ds) e))
    (number_finds all e ds
    (y.0, in_filter test y.0 (first_ones all) y.1 (ap (is_defined all) p ∙ h), p))
    (λ q r. (r.0, of_first r.0 all (of_filter test r.0 (first_ones all) r.1), r.2, r.3))

pub filled_length : (n : ℕ) (vs : List ℤ) → length (filled n vs) ≡ n
filled_length zero vs = refl
filled_length (suc n) [] = ap suc (filled_length n [])
filled_length (suc n) (v ∷ vs) = ap suc (filled_length n vs)

-- ---- functions that are defined

abbrev pub FunctionOf : List Note → Entity → tree.Function → Type 0
FunctionOf ns e f = (d : Declared) × IsIn (Defines e d) ns × (d ≡ declared_type f)

further : (n : Note) (ns : List Note) (e : Entity) (o : Option tree.Function) → IsSomeAnd o (FunctionOf ns e)
    → IsSomeAnd o (FunctionOf (n ∷ ns) e)
further n ns e o h = is_some_on (FunctionOf ns e) (FunctionOf (n ∷ ns) e) o h (λ f r. (r.0, inr r.1, r.2))

-- a function that is defined is found under its number
pub function_found : (e : Entity) (fs : List tree.Function) (ns : List Note) → Matches fs ns
    → list_any (is_function_of e) ns ≡ true
    → IsSomeAnd (slice_get fs (number_among (filter_map function_noted ns) e)) (FunctionOf ns e)
function_found e fs [] m h = not_true h
function_found e fs (Uses x at ∷ ns) m h =
    further (Uses x at) ns e (slice_get fs (number_among (filter_map function_noted ns) e))
    (function_found e fs ns m h)
function_found e fs (Stores x ∷ ns) m h =
    further (Stores x) ns e (slice_get fs (number_among (filter_map function_noted ns) e))
    (function_found e fs ns m h)
function_found e [] (Defines x d ∷ ns) m h = absurd m
function_found e (f ∷ fs) (Defines x d ∷ ns) m h =
    by_test (same_entity x e) refl h (λ k. function_found e fs ns m.1 k)
  where
    by_test : (b : Bool) → same_entity x e ≡ b → (b || list_any (is_function_of e) ns) ≡ true
        → (list_any (is_function_of e) ns ≡ true
        → IsSomeAnd (slice_get fs (number_among (filter_map function_noted ns) e)) (FunctionOf ns e))
        → IsSomeAnd (slice_get (f ∷ fs) (if b then 0 else suc (number_among (filter_map function_noted ns) e)))
        (FunctionOf (Defines x d ∷ ns) e)
    by_test true q k rest = (d, inl (ap (λ y. Defines y d) (sym (entity_is x e q))), m.0)
    by_test false q k rest =
        further (Defines x d) ns e (slice_get fs (number_among (filter_map function_noted ns) e)) (rest k)

-- each function that is noted has such a type
pub matched : (e : Entity) (d : Declared) (fs : List tree.Function) (ns : List Note) → Matches fs ns
    → IsIn (Defines e d) ns → (f : tree.Function) × (d ≡ declared_type f)
matched e d fs [] m i = absurd i
matched e d fs (Uses x at ∷ ns) m (inl p) = grind arith
matched e d fs (Uses x at ∷ ns) m (inr i) = matched e d fs ns m i
matched e d fs (Stores x ∷ ns) m (inl p) = grind arith
matched e d fs (Stores x ∷ ns) m (inr i) = matched e d fs ns m i
matched e d [] (Defines x t ∷ ns) m i = absurd m
matched e d (f ∷ fs) (Defines x t ∷ ns) m (inl p) = (f, ap type_or p ∙ m.0)
  where
    type_or : Note → Declared
    type_or (Uses y at) = d
    type_or (Stores y) = d
    type_or (Defines y u) = u
matched e d (f ∷ fs) (Defines x t ∷ ns) m (inr i) = matched e d fs ns m.1 i

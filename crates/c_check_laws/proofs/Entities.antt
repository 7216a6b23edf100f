-- Entities and types that are the same are equal, and declarations of files that fit agree.
use Rattle.std.proofs.Common.{arith, ◌≡◌, refl, sym, ap, subst, ◌∙◌, ℕ, Bool, true, false, List, [], ◌∷◌}
use Rattle.std.proofs.Common.{inl, inr}
use Rattle.std.specs.Prelude.{Option, Some, None, not, nat_eq, ◌&&◌, ◌||◌, ◌==◌, ◌⊎◌}
use Rattle.std.specs.List.{AllByRecursion, list_any}
use Rattle.std.proofs.lemmas.Bool.Decides.{Decides-eqb}
use Rattle.std.proofs.lemmas.Bool.{and_parts}
use Rattle.pcc_base.specs.declared.span.Span.{Span}
use Rattle.c_tree.specs.declared.types.ValueType.{ValueType}
use Rattle.c_tree.specs.declared.types.ValueType.TheVariants.{Void, Integer, Pointer}
use Rattle.c_typing.specs.Library.{LibraryFunction, Putchar, Getchar, Exit, Entity, Library, Shared, OfFile, At}
use Rattle.c_typing.specs.Library.{same_name}
use Rattle.c_typing.specs.Library.{same_function, same_place, same_entity}
use Rattle.c_typing.specs.Names.{Outer, clashes}
use Rattle.c_typing.specs.Types.{same_value, same_values, same_pointed, same_type, Declared, DeclaredValue}
use Rattle.c_typing.specs.Types.{DeclaredArray, DeclaredFunction}
use Rattle.c_check_laws.proofs.RowsSound.{either_false, not_true, same_integer_is}

pub number_is : (m n : ℕ) → (m == n) ≡ true → m ≡ n
number_is m n = (Decides-eqb m n).0

number_itself : (m : ℕ) → (m == m) ≡ true
number_itself m = (Decides-eqb m m).1 refl

-- ---- entities

name_is : (a b : List ℕ) → same_name a b ≡ true → a ≡ b
name_is [] [] h = refl
name_is [] (y ∷ ys) h = not_true h
name_is (x ∷ xs) [] h = not_true h
name_is (x ∷ xs) (y ∷ ys) h =
    let p = and_parts (nat_eq x y) (same_name xs ys) h in
    ap (λ z. z ∷ xs) (number_is x y p.0) ∙ ap (λ zs. y ∷ zs) (name_is xs ys p.1)

name_itself : (a : List ℕ) → same_name a a ≡ true
name_itself [] = refl
name_itself (x ∷ xs) = ap (λ b. b && same_name xs xs) (number_itself x) ∙ name_itself xs

function_is : (f g : LibraryFunction) → same_function f g ≡ true → f ≡ g
function_is Putchar Putchar h = refl
function_is Putchar Getchar h = not_true h
function_is Putchar Exit h = not_true h
function_is Getchar Putchar h = not_true h
function_is Getchar Getchar h = refl
function_is Getchar Exit h = not_true h
function_is Exit Putchar h = not_true h
function_is Exit Getchar h = not_true h
function_is Exit Exit h = refl

function_itself : (f : LibraryFunction) → same_function f f ≡ true
function_itself Putchar = refl
function_itself Getchar = refl
function_itself Exit = refl

place_is : (a b : Span) → same_place a b ≡ true → a ≡ b
place_is a b h =
    let p = and_parts (a.file == b.file) (a.line == b.line && a.col == b.col) h in
    let q = and_parts (a.line == b.line) (a.col == b.col) p.1 in
    spans a b (number_is a.file b.file p.0) (number_is a.line b.line q.0) (number_is a.col b.col q.1)
  where
    spans : (a b : Span) → a.file ≡ b.file → a.line ≡ b.line → a.col ≡ b.col → a ≡ b
    spans a b e f g =
        ap (λ x. let s : Span = record { file = x; line = a.line; col = a.col } in s) e
        ∙ ap (λ x. let s : Span = record { file = b.file; line = x; col = a.col } in s) f
        ∙ ap (λ x. let s : Span = record { file = b.file; line = b.line; col = x } in s) g

place_itself : (a : Span) → same_place a a ≡ true
place_itself a =
    ap (λ b. b && (a.line == a.line && a.col == a.col)) (number_itself a.file)
    ∙ ap (λ b. b && a.col == a.col) (number_itself a.line) ∙ number_itself a.col

pub entity_is : (a b : Entity) → same_entity a b ≡ true → a ≡ b
entity_is (Library f) (Library g) h = ap Library (function_is f g h)
entity_is (Library f) (Shared b) h = not_true h
entity_is (Library f) (OfFile l b) h = not_true h
entity_is (Library f) (At b) h = not_true h
entity_is (Shared a) (Library g) h = not_true h
entity_is (Shared a) (Shared b) h = ap Shared (name_is a b h)
entity_is (Shared a) (OfFile l b) h = not_true h
entity_is (Shared a) (At b) h = not_true h
entity_is (OfFile k a) (Library g) h = not_true h
entity_is (OfFile k a) (Shared b) h = not_true h
entity_is (OfFile k a) (OfFile l b) h =
    let p = and_parts (k == l) (same_name a b) h in
    ap (λ i. OfFile i a) (number_is k l p.0) ∙ ap (OfFile l) (name_is a b p.1)
entity_is (OfFile k a) (At b) h = not_true h
entity_is (At a) (Library g) h = not_true h
entity_is (At a) (Shared b) h = not_true h
entity_is (At a) (OfFile l b) h = not_true h
entity_is (At a) (At b) h = ap At (place_is a b h)

pub entity_itself : (a : Entity) → same_entity a a ≡ true
entity_itself (Library f) = function_itself f
entity_itself (Shared a) = name_itself a
entity_itself (OfFile k a) = ap (λ b. b && same_name a a) (number_itself k) ∙ name_itself a
entity_itself (At a) = place_itself a

pub entity_same : (a b : Entity) → a ≡ b → same_entity a b ≡ true
entity_same a b e = subst (λ x. same_entity a x ≡ true) e (entity_itself a)

-- ---- types

value_is : (t u : ValueType) → same_value t u ≡ true → t ≡ u
value_is Void Void h = refl
value_is Void (Integer u) h = not_true h
value_is Void (Pointer u) h = not_true h
value_is (Integer t) Void h = not_true h
value_is (Integer t) (Integer u) h = ap Integer (sym (same_integer_is t u h))
value_is (Integer t) (Pointer u) h = not_true h
value_is (Pointer t) Void h = not_true h
value_is (Pointer t) (Integer u) h = not_true h
value_is (Pointer t) (Pointer u) h = ap Pointer (sym (same_integer_is t u h))

values_are : (ts us : List ValueType) → same_values ts us ≡ true → ts ≡ us
values_are [] [] h = refl
values_are [] (u ∷ us) h = not_true h
values_are (t ∷ ts) [] h = not_true h
values_are (t ∷ ts) (u ∷ us) h =
    let p = and_parts (same_value t u) (same_values ts us) h in
    ap (λ z. z ∷ ts) (value_is t u p.0) ∙ ap (λ zs. u ∷ zs) (values_are ts us p.1)

pointed_is : (o p : Option ValueType) → same_pointed o p ≡ true → o ≡ p
pointed_is None None h = refl
pointed_is None (Some u) h = not_true h
pointed_is (Some t) None h = not_true h
pointed_is (Some t) (Some u) h = ap Some (value_is t u h)

pub type_is : (a b : Declared) → same_type a b ≡ true → a ≡ b
type_is (DeclaredValue t) (DeclaredValue u) h = ap DeclaredValue (pointed_is t u h)
type_is (DeclaredValue t) (DeclaredArray u n) h = not_true h
type_is (DeclaredValue t) (DeclaredFunction u us) h = not_true h
type_is (DeclaredArray t m) (DeclaredValue u) h = not_true h
type_is (DeclaredArray t m) (DeclaredArray u n) h =
    let p = and_parts (same_pointed t u) (m == n) h in
    ap (λ x. DeclaredArray x m) (pointed_is t u p.0) ∙ ap (DeclaredArray u) (number_is m n p.1)
type_is (DeclaredArray t m) (DeclaredFunction u us) h = not_true h
type_is (DeclaredFunction t ts) (DeclaredValue u) h = not_true h
type_is (DeclaredFunction t ts) (DeclaredArray u n) h = not_true h
type_is (DeclaredFunction t ts) (DeclaredFunction u us) h =
    let p = and_parts (same_pointed t u) (same_values ts us) h in
    ap (λ x. DeclaredFunction x ts) (pointed_is t u p.0) ∙ ap (DeclaredFunction u) (values_are ts us p.1)

-- ---- declarations that agree

-- two declarations of one thing have one type
abbrev pub OneType : Outer → Outer → Type 0
OneType o p = o.entity ≡ p.entity → o.type ≡ p.type

abbrev pub AreOne : List Outer → Type 0
AreOne [] = Unit {0}
AreOne (o ∷ os) = AllByRecursion (OneType o) os × AreOne os

type_by : (a b c : Bool) → a ≡ true → (a && (not b || c)) ≡ false → b ≡ true
type_by true true c e h = refl
type_by true false c e h = grind arith
type_by false b c e h = not_true e

no_clash : (o : Outer) (os : List Outer) → list_any (clashes o) os ≡ false → AllByRecursion (OneType o) os
no_clash o [] h = tt
no_clash o (p ∷ ps) h =
    let q = either_false (clashes o p) (list_any (clashes o) ps) h in (
      λ e. type_is o.type p.type
          (type_by (same_entity o.entity p.entity) (same_type o.type p.type) (o.whole && p.whole)
          (entity_same o.entity p.entity e) q.0),
      no_clash o ps q.1,
    )

pub agree_with : (b : Bool) (o : Outer) (os : List Outer) → (b || list_any (clashes o) os) ≡ false → AreOne os
    → AreOne (o ∷ os)
agree_with b o os h k = (no_clash o os (either_false b (list_any (clashes o) os) h).1, k)

abbrev pub IsIn : {A : Type 0} → A → List A → Type 0
IsIn x [] = ⊥
IsIn x (y ∷ ys) = (x ≡ y) ⊎ IsIn x ys

pub in_all : {A : Type 0} (P : A → Type 0) (x : A) (xs : List A) → AllByRecursion P xs → IsIn x xs → P x
in_all P x [] h i = absurd i
in_all P x (y ∷ ys) h (inl e) = subst P (sym e) h.0
in_all P x (y ∷ ys) h (inr i) = in_all P x ys h.1 i

pub all_in : {A : Type 0} (xs : List A) → AllByRecursion (λ x. IsIn x xs) xs
all_in [] = tt
all_in (x ∷ xs) = (inl refl, later xs (all_in xs))
  where
    later : (ys : List _) → AllByRecursion (λ y. IsIn y xs) ys → AllByRecursion (λ y. IsIn y (x ∷ xs)) ys
    later [] h = tt
    later (y ∷ ys) h = (inr h.0, later ys h.1)

pub one_type : (os : List Outer) → AreOne os → (a b : Outer) → IsIn a os → IsIn b os → a.entity ≡ b.entity
    → a.type ≡ b.type
one_type [] h a b i j e = absurd i
one_type (o ∷ os) h a b (inl p) (inl q) e = ap (λ (x : Outer). x.type) (p ∙ sym q)
one_type (o ∷ os) h a b (inl p) (inr j) e =
    ap (λ (x : Outer). x.type) p
    ∙ in_all (OneType o) b os h.0 j (sym (ap (λ (x : Outer). x.entity) p) ∙ e)
one_type (o ∷ os) h a b (inr i) (inl q) e =
    sym (in_all (OneType o) a os h.0 i (sym (ap (λ (x : Outer). x.entity) q) ∙ sym e))
    ∙ sym (ap (λ (x : Outer). x.type) q)
one_type (o ∷ os) h a b (inr i) (inr j) e = one_type os h.1 a b i j e

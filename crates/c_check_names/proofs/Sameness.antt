-- When types and things are the same.
use Rattle.std.proofs.Common.{◌≡◌, List, [], ◌∷◌, true, ◌&&◌, Option, Some, None, refl, ap, sym, ◌∙◌}
use Rattle.std.proofs.Common.{true≢false, ◌==◌}
use Rattle.std.specs.Cmp.Lexicographic.{pointwise}
use Rattle.std.proofs.lemmas.Bool.Decides.{Decides-eqb}
use Rattle.std.proofs.lemmas.Bool.{and_parts, and_from}
use Rattle.pcc_base.specs.declared.span.Span.{Span}
use Rattle.c_tree.specs.declared.types.IntegerType.{IntegerType}
use Rattle.c_tree.specs.declared.types.IntegerType.TheVariants.{Char, Short, Int, UnsignedInt}
use Rattle.c_tree.specs.declared.types.ValueType.{ValueType}
use Rattle.c_tree.specs.declared.types.ValueType.TheVariants.{Void, Integer, Pointer}
use Rattle.c_tree.specs.contracts.types.IntegerTypePartialEq.TheImpl.{ghosts as integers}
use Rattle.c_tree.specs.contracts.types.ValueTypePartialEq.TheImpl.{ghosts}
use Rattle.c_typing.specs.Library.{Entity, Library, Shared, OfFile, At, Putchar, Getchar, Exit, LibraryFunction}
use Rattle.c_typing.specs.Library.{same_entity, same_function, same_name, same_place}
use Rattle.c_typing.specs.Types.{same_integer, same_value, same_values, same_pointed, same_type}
use Rattle.c_typing.specs.Types.{Declared, DeclaredValue}
use Rattle.c_typing.specs.Types.{DeclaredArray, DeclaredFunction}
use Rattle.c_check_names.proofs.MeaningNames.{same_is, same_self}

-- ---- the tests of the code

integer_tested : (t u : IntegerType) → integers.eq t u ≡ same_integer t u
integer_tested Char Char = refl
integer_tested Char Short = refl
integer_tested Char Int = refl
integer_tested Char UnsignedInt = refl
integer_tested Short Char = refl
integer_tested Short Short = refl
integer_tested Short Int = refl
integer_tested Short UnsignedInt = refl
integer_tested Int Char = refl
integer_tested Int Short = refl
integer_tested Int Int = refl
integer_tested Int UnsignedInt = refl
integer_tested UnsignedInt Char = refl
integer_tested UnsignedInt Short = refl
integer_tested UnsignedInt Int = refl
integer_tested UnsignedInt UnsignedInt = refl

pub value_tested : (t u : ValueType) → ghosts.eq t u ≡ same_value t u
value_tested Void Void = refl
value_tested Void (Integer u) = refl
value_tested Void (Pointer u) = refl
value_tested (Integer t) Void = refl
value_tested (Integer t) (Integer u) = integer_tested t u
value_tested (Integer t) (Pointer u) = refl
value_tested (Pointer t) Void = refl
value_tested (Pointer t) (Integer u) = refl
value_tested (Pointer t) (Pointer u) = integer_tested t u

pub values_tested : (ts us : List ValueType) → pointwise ghosts.eq ts us ≡ same_values ts us
values_tested [] [] = refl
values_tested [] (u ∷ us) = refl
values_tested (t ∷ ts) [] = refl
values_tested (t ∷ ts) (u ∷ us) =
    ap (λ b. b && pointwise ghosts.eq ts us) (value_tested t u) ∙ ap (λ b. same_value t u && b) (values_tested ts us)

-- ---- types

integer_is : (t u : IntegerType) → same_integer t u ≡ true → t ≡ u
integer_is Char Char h = refl
integer_is Char Short h = absurd (true≢false (sym h))
integer_is Char Int h = absurd (true≢false (sym h))
integer_is Char UnsignedInt h = absurd (true≢false (sym h))
integer_is Short Char h = absurd (true≢false (sym h))
integer_is Short Short h = refl
integer_is Short Int h = absurd (true≢false (sym h))
integer_is Short UnsignedInt h = absurd (true≢false (sym h))
integer_is Int Char h = absurd (true≢false (sym h))
integer_is Int Short h = absurd (true≢false (sym h))
integer_is Int Int h = refl
integer_is Int UnsignedInt h = absurd (true≢false (sym h))
integer_is UnsignedInt Char h = absurd (true≢false (sym h))
integer_is UnsignedInt Short h = absurd (true≢false (sym h))
integer_is UnsignedInt Int h = absurd (true≢false (sym h))
integer_is UnsignedInt UnsignedInt h = refl

value_is : (t u : ValueType) → same_value t u ≡ true → t ≡ u
value_is Void Void h = refl
value_is Void (Integer u) h = absurd (true≢false (sym h))
value_is Void (Pointer u) h = absurd (true≢false (sym h))
value_is (Integer t) Void h = absurd (true≢false (sym h))
value_is (Integer t) (Integer u) h = ap Integer (integer_is t u h)
value_is (Integer t) (Pointer u) h = absurd (true≢false (sym h))
value_is (Pointer t) Void h = absurd (true≢false (sym h))
value_is (Pointer t) (Integer u) h = absurd (true≢false (sym h))
value_is (Pointer t) (Pointer u) h = ap Pointer (integer_is t u h)

values_is : (ts us : List ValueType) → same_values ts us ≡ true → ts ≡ us
values_is [] [] h = refl
values_is [] (u ∷ us) h = absurd (true≢false (sym h))
values_is (t ∷ ts) [] h = absurd (true≢false (sym h))
values_is (t ∷ ts) (u ∷ us) h =
    ap (λ x. x ∷ ts) (value_is t u (and_parts (same_value t u) (same_values ts us) h).0)
    ∙ ap (λ xs. u ∷ xs) (values_is ts us (and_parts (same_value t u) (same_values ts us) h).1)

pointed_is : (t u : Option ValueType) → same_pointed t u ≡ true → t ≡ u
pointed_is None None h = refl
pointed_is None (Some u) h = absurd (true≢false (sym h))
pointed_is (Some t) None h = absurd (true≢false (sym h))
pointed_is (Some t) (Some u) h = ap Some (value_is t u h)

pub type_is : (a b : Declared) → same_type a b ≡ true → a ≡ b
type_is (DeclaredValue t) (DeclaredValue u) h = ap DeclaredValue (pointed_is t u h)
type_is (DeclaredValue t) (DeclaredArray u n) h = absurd (true≢false (sym h))
type_is (DeclaredValue t) (DeclaredFunction u us) h = absurd (true≢false (sym h))
type_is (DeclaredArray t m) (DeclaredValue u) h = absurd (true≢false (sym h))
type_is (DeclaredArray t m) (DeclaredArray u n) h =
    ap (λ x. DeclaredArray x m) (pointed_is t u (and_parts (same_pointed t u) (m == n) h).0)
    ∙ ap (DeclaredArray u) ((Decides-eqb m n).0 (and_parts (same_pointed t u) (m == n) h).1)
type_is (DeclaredArray t m) (DeclaredFunction u us) h = absurd (true≢false (sym h))
type_is (DeclaredFunction t ts) (DeclaredValue u) h = absurd (true≢false (sym h))
type_is (DeclaredFunction t ts) (DeclaredArray u n) h = absurd (true≢false (sym h))
type_is (DeclaredFunction t ts) (DeclaredFunction u us) h =
    ap (λ x. DeclaredFunction x ts) (pointed_is t u (and_parts (same_pointed t u) (same_values ts us) h).0)
    ∙ ap (DeclaredFunction u) (values_is ts us (and_parts (same_pointed t u) (same_values ts us) h).1)

integer_self : (t : IntegerType) → same_integer t t ≡ true
integer_self Char = refl
integer_self Short = refl
integer_self Int = refl
integer_self UnsignedInt = refl

value_self : (t : ValueType) → same_value t t ≡ true
value_self Void = refl
value_self (Integer t) = integer_self t
value_self (Pointer t) = integer_self t

values_self : (ts : List ValueType) → same_values ts ts ≡ true
values_self [] = refl
values_self (t ∷ ts) = and_from (same_value t t) (same_values ts ts) (value_self t) (values_self ts)

pointed_self : (t : Option ValueType) → same_pointed t t ≡ true
pointed_self None = refl
pointed_self (Some t) = value_self t

pub type_self : (a : Declared) → same_type a a ≡ true
type_self (DeclaredValue t) = pointed_self t
type_self (DeclaredArray t m) = and_from (same_pointed t t) (m == m) (pointed_self t) ((Decides-eqb m m).1 refl)
type_self (DeclaredFunction t ts) = and_from (same_pointed t t) (same_values ts ts) (pointed_self t) (values_self ts)

-- ---- things

function_is : (f g : LibraryFunction) → same_function f g ≡ true → f ≡ g
function_is Putchar Putchar h = refl
function_is Putchar Getchar h = absurd (true≢false (sym h))
function_is Putchar Exit h = absurd (true≢false (sym h))
function_is Getchar Putchar h = absurd (true≢false (sym h))
function_is Getchar Getchar h = refl
function_is Getchar Exit h = absurd (true≢false (sym h))
function_is Exit Putchar h = absurd (true≢false (sym h))
function_is Exit Getchar h = absurd (true≢false (sym h))
function_is Exit Exit h = refl

function_self : (f : LibraryFunction) → same_function f f ≡ true
function_self Putchar = refl
function_self Getchar = refl
function_self Exit = refl

place_is : (a b : Span) → same_place a b ≡ true → a ≡ b
place_is a b h =
    let rest = (and_parts (a.file == b.file) (a.line == b.line && a.col == b.col) h).1 in
    let p : a.file ≡ b.file = (Decides-eqb a.file b.file).0
    (and_parts (a.file == b.file) (a.line == b.line && a.col == b.col) h).0 in
    let q : a.line ≡ b.line = (Decides-eqb a.line b.line).0 (and_parts (a.line == b.line) (a.col == b.col) rest).0 in
    let r : a.col ≡ b.col = (Decides-eqb a.col b.col).0 (and_parts (a.line == b.line) (a.col == b.col) rest).1 in
    λ i. record { file = p i; line = q i; col = r i }

pub thing_is : (e f : Entity) → same_entity e f ≡ true → e ≡ f
thing_is (Library f) (Library g) h = ap Library (function_is f g h)
thing_is (Library f) (Shared b) h = absurd (true≢false (sym h))
thing_is (Library f) (OfFile l b) h = absurd (true≢false (sym h))
thing_is (Library f) (At b) h = absurd (true≢false (sym h))
thing_is (Shared a) (Library g) h = absurd (true≢false (sym h))
thing_is (Shared a) (Shared b) h = ap Shared (same_is a b h)
thing_is (Shared a) (OfFile l b) h = absurd (true≢false (sym h))
thing_is (Shared a) (At b) h = absurd (true≢false (sym h))
thing_is (OfFile k a) (Library g) h = absurd (true≢false (sym h))
thing_is (OfFile k a) (Shared b) h = absurd (true≢false (sym h))
thing_is (OfFile k a) (OfFile l b) h =
    ap (λ x. OfFile x a) ((Decides-eqb k l).0 (and_parts (k == l) (same_name a b) h).0)
    ∙ ap (OfFile l) (same_is a b (and_parts (k == l) (same_name a b) h).1)
thing_is (OfFile k a) (At b) h = absurd (true≢false (sym h))
thing_is (At a) (Library g) h = absurd (true≢false (sym h))
thing_is (At a) (Shared b) h = absurd (true≢false (sym h))
thing_is (At a) (OfFile l b) h = absurd (true≢false (sym h))
thing_is (At a) (At b) h = ap At (place_is a b h)

pub thing_self : (e : Entity) → same_entity e e ≡ true
thing_self (Library f) = function_self f
thing_self (Shared a) = same_self a
thing_self (OfFile k a) = and_from (k == k) (same_name a a) ((Decides-eqb k k).1 refl) (same_self a)
thing_self (At a) =
    let place = and_from (a.line == a.line) (a.col == a.col) ((Decides-eqb a.line a.line).1 refl)
    ((Decides-eqb a.col a.col).1 refl) in
    and_from (a.file == a.file) (a.line == a.line && a.col == a.col) ((Decides-eqb a.file a.file).1 refl) place

-- An expression takes as many levels of temporaries as it is high, and one more at most.
use Rattle.std.proofs.Common.{◌≡◌, ◌≤◌, ℕ, suc, ◌+◌, max, List, [], ◌∷◌, refl}
use Rattle.std.proofs.Common.{arith}
use Rattle.std.specs.Prelude.{slice_get}
use Rattle.c_tree.specs.declared.types.ValueType.{ValueType}
use Rattle.c_tree.specs.declared.types.ValueType.TheVariants.{Void, Integer, Pointer}
use Rattle.c_tree.specs.declared.types.IntegerType.{IntegerType}
use Rattle.c_tree.specs.declared.types.IntegerType.TheVariants.{Char, Short, Int, UnsignedInt}
use Rattle.c_tree.specs.declared.expression.BinaryOp.{BinaryOp}
use Rattle.c_tree.specs.declared.expression.StepOp.{StepOp}
use Rattle.c_tree.specs.declared.expression.StepOp.TheVariants.{PreIncrement, PreDecrement, PostIncrement}
use Rattle.c_tree.specs.declared.expression.StepOp.TheVariants.{PostDecrement}
use Rattle.c_tree.specs.declared.expression.UnaryOp.{UnaryOp}
use Rattle.c_tree.specs.declared.expression.UnaryOp.TheVariants.{Plus, Minus, Complement, Not}
use Rattle.c_tree.specs.Operators.{step_op}
use Rattle.c_tree.specs.Program.{int, Expression, Constant, Start, Read, Address, Unary, Binary, And, Or}
use Rattle.c_tree.specs.Program.{Conditional, Cast, Assign, Update, Step, Comma, Call, Putchar, Getchar, Exit, Place}
use Rattle.c_tree.specs.Program.{LocalPlace, StaticPlace, Target, Element, Local, Arguments, Argument, NoMore}
use Rattle.c_tree.specs.Sizes.{arguments_height, height, place_height}
use Rattle.lower_lines.specs.Expressions.{Addressed, Located, AtLocal, AtObject, AtAddress, address_part, all_passed}
use Rattle.lower_lines.specs.Expressions.{arguments_levels, assign_part, assigned_local, binary_part}
use Rattle.lower_lines.specs.Expressions.{element_of, one_part}
use Rattle.lower_lines.specs.Expressions.{parameters_of, part_of, parts_of, passed, place_of, read_part, step_part}
use Rattle.lower_lines.specs.Expressions.{local_part, stepped_name, unary_part, update_part, result_type}
use Rattle.lower_lines.specs.Parts.{Part, as_pointer, in_type}
use Rattle.lower_lines.specs.Variables.{Context}

pointer-levels : (c : Context) (t : IntegerType) (of : ValueType) (a : Part) → (as_pointer c t of a).levels ≡ a.levels
pointer-levels c t (Pointer u) a = refl
pointer-levels c t Void a = refl
pointer-levels c t (Integer u) a = refl

pub turned-levels : (c : Context) (of : ValueType) (a : Part) → (in_type c of a).levels ≡ a.levels
turned-levels c Void a = refl
turned-levels c (Integer Char) a = refl
turned-levels c (Integer Short) a = refl
turned-levels c (Integer Int) a = refl
turned-levels c (Integer UnsignedInt) a = refl
turned-levels c (Pointer t) a = pointer-levels c t a.of a

local-levels : (c : Context) (of : ValueType) (v : ℕ) → (local_part c of v).levels ≡ 1
local-levels c Void v = refl
local-levels c (Integer Char) v = refl
local-levels c (Integer Short) v = refl
local-levels c (Integer Int) v = refl
local-levels c (Integer UnsignedInt) v = refl
local-levels c (Pointer t) v = refl

pub assigned-levels : (c : Context) (of : ValueType) (v : ℕ) (a : Part) → (assigned_local c of v a).levels ≡ a.levels
assigned-levels c Void v a = refl
assigned-levels c (Integer Char) v a = refl
assigned-levels c (Integer Short) v a = refl
assigned-levels c (Integer Int) v a = refl
assigned-levels c (Integer UnsignedInt) v a = refl
assigned-levels c (Pointer t) v a = turned-levels c (Pointer t) a

object-levels : (c : Context) (of : ValueType) (k : ℕ) → (read_part c of (AtObject k)).levels ≡ 1
object-levels c Void k = refl
object-levels c (Integer t) k = refl
object-levels c (Pointer t) k = refl

object-assigned : (c : Context) (of : ValueType) (k : ℕ) (a : Part)
    → (assign_part c of (AtObject k) a).levels ≡ a.levels
object-assigned c Void k a = refl
object-assigned c (Integer t) k a = refl
object-assigned c (Pointer t) k a = refl

element-assigned : (c : Context) (of : ValueType) (t : IntegerType) (to : Addressed) (a : Part)
    → (assign_part c of (AtAddress t to) a).levels ≡ max to.levels (suc a.levels)
element-assigned c Void t to a = refl
element-assigned c (Integer u) t to a = refl
element-assigned c (Pointer u) t to a = refl

element-read : (c : Context) (of : ValueType) (t : IntegerType) (to : Addressed)
    → (read_part c of (AtAddress t to)).levels ≡ to.levels
element-read c Void t to = refl
element-read c (Integer u) t to = refl
element-read c (Pointer u) t to = refl

element-levels : (c : Context) (element : IntegerType) (of : ValueType) (a b : Part)
    → ((element_of c element of a b).levels ≡ max a.levels (suc b.levels))
    × ((element_of c element of a b).value.levels ≡ max a.levels (suc b.levels))
element-levels c element (Pointer t) a b = (refl, refl)
element-levels c element Void a b = (refl, refl)
element-levels c element (Integer t) a b = (refl, refl)

-- the levels of an address, beside the height of its place
abbrev PlaceWithin : Located → ℕ → Type 0
PlaceWithin (AtLocal v) n = 1 ≤ n
PlaceWithin (AtObject k) n = 1 ≤ n
PlaceWithin (AtAddress t to) n = (to.levels ≤ n + 1) × (to.value.levels ≤ n + 1)

read-within : (c : Context) (of : ValueType) (l : Located) (n : ℕ) → PlaceWithin l n → (read_part c of l).levels ≤ n + 1
read-within c of (AtLocal v) n h = let e = local-levels c of v in omega (arith, e)
read-within c of (AtObject k) n h = let e = object-levels c of k in omega (arith, e)
read-within c of (AtAddress t to) n h = let e = element-read c of t to in let k = h.0 in omega (arith, e, k)

address-within : (c : Context) (element : IntegerType) (l : Located) (n : ℕ) → PlaceWithin l n
    → (address_part c element l).levels ≤ suc n + 1
address-within c element (AtLocal v) n h = let e = local-levels c (Pointer element) v in omega (arith, e)
address-within c element (AtObject k) n h = omega (arith, h)
address-within c element (AtAddress t to) n h = let k = h.1 in omega (arith, k)

unary-levels : (c : Context) (of : IntegerType) (operator : UnaryOp) (a : Part)
    → (unary_part c of operator a).levels ≡ a.levels
unary-levels c of Plus a = refl
unary-levels c of Minus a = refl
unary-levels c of Complement a = refl
unary-levels c of Not a = refl

assign-within : (c : Context) (of : ValueType) (l : Located) (a : Part) (n m : ℕ) → PlaceWithin l n → a.levels ≤ m + 1
    → (assign_part c of l a).levels ≤ suc (max n (suc m)) + 1
assign-within c of (AtLocal v) a n m h k = let e = assigned-levels c of v a in omega (arith, e, k)
assign-within c of (AtObject o) a n m h k = let e = object-assigned c of o a in omega (arith, e, k)
assign-within c of (AtAddress t to) a n m h k =
    let e = element-assigned c of t to a in let h' = h.0 in omega (arith, e, k, h')

update-within : (c : Context) (of : ValueType) (operator : BinaryOp) (l : Located) (a : Part) (n m : ℕ)
    → PlaceWithin l n → a.levels ≤ m + 1 → (update_part c of operator l a).levels ≤ suc (max n (suc m)) + 1
update-within c of operator (AtLocal v) a n m h k =
    let e = assigned-levels c of v (binary_part c (result_type of) operator (local_part c of v) a) in
    let e' = local-levels c of v in
    omega (arith, e, e', k)
update-within c of operator (AtObject o) a n m h k =
    let e = object-assigned c of o (binary_part c int operator (read_part c of (AtObject o)) a) in
    let e' = object-levels c of o in
    omega (arith, e, e', k)
update-within c of operator (AtAddress t to) a n m h k = let h' = h.0 in omega (arith, k, h')

stepped-within : (c : Context) (operator : StepOp) (of : ValueType) (name update : Part) (n : ℕ)
    → name.levels ≡ 1 → update.levels ≤ 2 → 1 ≤ n → (stepped_name c operator of name update).levels ≤ suc n + 1
stepped-within c PreIncrement of name update n e h k = omega (arith, e, h, k)
stepped-within c PreDecrement of name update n e h k = omega (arith, e, h, k)
stepped-within c PostIncrement of name update n e h k = omega (arith, e, h, k)
stepped-within c PostDecrement of name update n e h k = omega (arith, e, h, k)

step-within : (c : Context) (of : ValueType) (operator : StepOp) (l : Located) (n : ℕ) → PlaceWithin l n
    → (step_part c of operator l).levels ≤ suc n + 1
step-within c of operator (AtLocal v) n h =
    let e = assigned-levels c of v
    (binary_part c (result_type of) (step_op operator) (local_part c of v) (one_part c)) in
    let e' = local-levels c of v in
    stepped-within c operator of _ _ n e' (omega (arith, e, e')) h
step-within c of operator (AtObject k) n h =
    let e = object-assigned c of k
    (binary_part c int (step_op operator) (read_part c of (AtObject k)) (one_part c)) in
    let e' = object-levels c of k in
    stepped-within c operator of _ _ n e' (omega (arith, e, e')) h
step-within c of operator (AtAddress t to) n h = let h' = h.0 in omega (arith, h')

passed-levels : (c : Context) (of : ValueType) (a : Part) → (passed c of a).levels ≡ a.levels
passed-levels c (Pointer t) a = turned-levels c (Pointer t) a
passed-levels c Void a = refl
passed-levels c (Integer t) a = refl

all-passed-levels : (c : Context) (parameters : List Local) (parts : List Part)
    → arguments_levels (all_passed c parameters parts) ≤ arguments_levels parts
all-passed-levels c [] parts = omega arith
all-passed-levels c (l ∷ ls) [] = omega arith
all-passed-levels c (l ∷ ls) (a ∷ parts) =
    let e = passed-levels c l.of a in let h = all-passed-levels c ls parts in omega (arith, e, h)

module _ (c : Context) where
  mutual
    pub within : (e : Expression) → (part_of c e).levels ≤ height e + 1
    within (Constant of n) = omega arith
    within (Start element array) = omega arith
    within (Read of place) = read-within c of (place_of c place) (place_height place) (place-within place)
    within (Address element place) = address-within c element (place_of c place) (place_height place)
        (place-within place)
    within (Unary of operator e) =
        let h = within e in let k = unary-levels c of operator (part_of c e) in omega (arith, h, k)
    within (Binary of operator a b) = let h = within a in let k = within b in omega (arith, h, k)
    within (And a b) = let h = within a in let k = within b in omega (arith, h, k)
    within (Or a b) = let h = within a in let k = within b in omega (arith, h, k)
    within (Conditional of t a b) =
        let h = within t in
        let k = within a in
        let m = within b in
        let e = turned-levels c of (part_of c a) in
        let e' = turned-levels c of (part_of c b) in
        omega (arith, h, k, m, e, e')
    within (Cast to e) = let h = within e in let k = turned-levels c to (part_of c e) in omega (arith, h, k)
    within (Assign of place e) = assign-within c of (place_of c place) (part_of c e) (place_height place) (height e)
        (place-within place) (within e)
    within (Update of operator place e) = update-within c of operator (place_of c place) (part_of c e)
        (place_height place) (height e) (place-within place) (within e)
    within (Step of operator place) = step-within c of operator (place_of c place) (place_height place)
        (place-within place)
    within (Comma a b) = let h = within a in let k = within b in omega (arith, h, k)
    within (Call of f arguments) =
        let h = all-within arguments 0 in
        let k = all-passed-levels c (parameters_of (slice_get c.program.functions f)) (parts_of c arguments) in
        omega (arith, h, k)
    within (Putchar e) = let h = within e in omega (arith, h)
    within Getchar = omega arith
    within (Exit e) = let h = within e in omega (arith, h)

    pub place-within : (place : Place) → PlaceWithin (place_of c place) (place_height place)
    place-within (LocalPlace v) = omega arith
    place-within (StaticPlace k) = omega arith
    place-within (Target element e) = let h = within e in (omega (arith, h), omega (arith, h))
    place-within (Element element a i) =
        let h = within a in
        let k = within i in
        let (e, e') = element-levels c element (part_of c a).of (part_of c a) (part_of c i) in
        (omega (arith, h, k, e), omega (arith, h, k, e'))

    pub all-within : (arguments : Arguments) (place : ℕ)
        → place + arguments_levels (parts_of c arguments) ≤ arguments_height arguments place + 1
    all-within NoMore place = omega arith
    all-within (Argument e es) place =
        let h = within e in let k = all-within es (suc place) in omega (arith, h, k)

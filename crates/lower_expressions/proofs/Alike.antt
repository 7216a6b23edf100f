-- How many blocks a part takes doesn't depend on where control goes.
use Rattle.std.proofs.Common.{◌≡◌, ℕ, ◌+◌, refl, ap, ◌∙◌, true}
use Rattle.c_tree.specs.declared.expression.BinaryOp.{BinaryOp}
use Rattle.c_tree.specs.declared.expression.BinaryOp.TheVariants as binary
use Rattle.c_tree.specs.declared.expression.StepOp.{StepOp}
use Rattle.c_tree.specs.declared.expression.StepOp.TheVariants.{PreIncrement, PreDecrement, PostIncrement}
use Rattle.c_tree.specs.declared.expression.StepOp.TheVariants.{PostDecrement}
use Rattle.c_tree.specs.declared.expression.UnaryOp.TheVariants.{Plus, Minus, Complement, Not}
use Rattle.c_tree.specs.declared.types.IntegerType.TheVariants.{Char, Short, Int, UnsignedInt}
use Rattle.c_tree.specs.declared.types.ValueType.{ValueType}
use Rattle.c_tree.specs.declared.types.ValueType.TheVariants.{Void, Integer, Pointer}
use Rattle.c_tree.specs.Program.{Expression, Constant, Start, Read, Address, Unary, Binary, And, Or, Conditional}
use Rattle.c_tree.specs.Program.{Cast, Assign, Update, Step, Comma, Call, Putchar, Getchar, Exit, Place, LocalPlace}
use Rattle.c_tree.specs.Program.{StaticPlace, Target, Element}
use Rattle.c_tree.specs.Operators.{step_op}
use Rattle.lower_lines.specs.Expressions.{assign_part, assigned_local, binary_part, condition_blocks, local_part}
use Rattle.lower_lines.specs.Expressions.{AtAddress, address_part, element_of, one_part, own_blocks, part_of}
use Rattle.lower_lines.specs.Expressions.{test_blocks_of}
use Rattle.lower_lines.specs.Expressions.{place_of, read_part, step_part, stepped_name, update_part}
use Rattle.lower_lines.specs.Operators.{applied_blocks, on_pointer_blocks, on_pointers_blocks}
use Rattle.lower_lines.specs.Parts.{Wanted, Dropped, Own, ToLocal, Tests, Part, as_pointer, chosen_blocks, in_type}
use Rattle.lower_lines.specs.Parts.{operand, tested_blocks}
use Rattle.lower_lines.specs.Variables.{Context}
use Rattle.lower_builder.specs.MoveViews.{plain}

pub record IsAlike (a : Part) : Type 0 where
  pub same : (w : Wanted) → a.blocks w ≡ a.blocks (plain w)

tested : (w : Wanted) (t : ValueType) → tested_blocks w t ≡ tested_blocks (plain w) t
tested Dropped t = refl
tested Own t = refl
tested (ToLocal v) t = refl
tested (Tests h f) t = refl

chosen : (w : Wanted) (n : ℕ) → chosen_blocks w n ≡ chosen_blocks (plain w) n
chosen Dropped n = refl
chosen Own n = refl
chosen (ToLocal v) n = refl
chosen (Tests h f) n = refl

condition : (d t : ℕ) (w : Wanted) → condition_blocks d t w ≡ condition_blocks d t (plain w)
condition d t Dropped = refl
condition d t Own = refl
condition d t (ToLocal v) = refl
condition d t (Tests h f) = refl

pub owned : (w : Wanted) → own_blocks w ≡ own_blocks (plain w)
owned Dropped = refl
owned Own = refl
owned (ToLocal v) = refl
owned (Tests h f) = refl

on-pointer : (w : Wanted) (o : BinaryOp) → on_pointer_blocks w o ≡ on_pointer_blocks (plain w) o
on-pointer w binary.Multiply = tested w (Pointer Int)
on-pointer w binary.Divide = tested w (Pointer Int)
on-pointer w binary.Remainder = tested w (Pointer Int)
on-pointer w binary.Add = tested w (Pointer Int)
on-pointer w binary.Subtract = tested w (Pointer Int)
on-pointer w binary.ShiftLeft = tested w (Pointer Int)
on-pointer w binary.ShiftRight = tested w (Pointer Int)
on-pointer w binary.Less = tested w (Pointer Int)
on-pointer w binary.Greater = tested w (Pointer Int)
on-pointer w binary.LessOrEqual = tested w (Pointer Int)
on-pointer w binary.GreaterOrEqual = tested w (Pointer Int)
on-pointer w binary.Equal = chosen w 1
on-pointer w binary.NotEqual = chosen w 1
on-pointer w binary.BitAnd = tested w (Pointer Int)
on-pointer w binary.BitXor = tested w (Pointer Int)
on-pointer w binary.BitOr = tested w (Pointer Int)

on-pointers : (w : Wanted) (o : BinaryOp) → on_pointers_blocks w o ≡ on_pointers_blocks (plain w) o
on-pointers w binary.Multiply = refl
on-pointers w binary.Divide = refl
on-pointers w binary.Remainder = refl
on-pointers w binary.Add = refl
on-pointers w binary.Subtract = refl
on-pointers w binary.ShiftLeft = refl
on-pointers w binary.ShiftRight = refl
on-pointers w binary.Less = refl
on-pointers w binary.Greater = refl
on-pointers w binary.LessOrEqual = refl
on-pointers w binary.GreaterOrEqual = refl
on-pointers w binary.Equal = chosen w 1
on-pointers w binary.NotEqual = chosen w 1
on-pointers w binary.BitAnd = refl
on-pointers w binary.BitXor = refl
on-pointers w binary.BitOr = refl

applied : (w : Wanted) (o : BinaryOp) (s t : ValueType) → applied_blocks w o s t ≡ applied_blocks (plain w) o s t
applied w o Void Void = refl
applied w o Void (Integer u) = refl
applied w o Void (Pointer u) = refl
applied w o (Integer t) Void = refl
applied w o (Integer t) (Integer u) = refl
applied w o (Integer t) (Pointer u) = on-pointer w o
applied w o (Pointer t) Void = refl
applied w o (Pointer t) (Integer u) = on-pointer w o
applied w o (Pointer t) (Pointer u) = on-pointers w o

-- ---- parts

local-alike : (c : Context) (of : ValueType) (v : ℕ) → IsAlike (local_part c of v)
local-alike c Void v = record { same = λ w. tested w Void }
local-alike c (Integer Char) v = record { same = λ w. refl }
local-alike c (Integer Short) v = record { same = λ w. tested w (Integer Short) }
local-alike c (Integer Int) v = record { same = λ w. tested w (Integer Int) }
local-alike c (Integer UnsignedInt) v = record { same = λ w. tested w (Integer UnsignedInt) }
local-alike c (Pointer t) v = record { same = λ w. tested w (Pointer t) }

assigned-alike : (c : Context) (of : ValueType) (v : ℕ) (a : Part) → IsAlike (assigned_local c of v a)
assigned-alike c Void v a = record {
  same = λ w. ap (λ (n : ℕ). (in_type c Void a).blocks (ToLocal v) + n) (tested w Void);
}
assigned-alike c (Integer Char) v a = record { same = λ w. refl }
assigned-alike c (Integer Short) v a = record {
  same = λ w. ap (λ (n : ℕ). (in_type c (Integer Short) a).blocks (ToLocal v) + n) (tested w (Integer Short));
}
assigned-alike c (Integer Int) v a = record {
  same = λ w. ap (λ (n : ℕ). a.blocks (ToLocal v) + n) (tested w (Integer Int));
}
assigned-alike c (Integer UnsignedInt) v a = record {
  same = λ w. ap (λ (n : ℕ). a.blocks (ToLocal v) + n) (tested w (Integer UnsignedInt));
}
assigned-alike c (Pointer t) v a = record {
  same = λ w. ap (λ (n : ℕ). (in_type c (Pointer t) a).blocks (ToLocal v) + n) (tested w (Pointer t));
}

pub typed-alike : (c : Context) (of : ValueType) (a : Part) → IsAlike a → IsAlike (in_type c of a)
typed-alike c Void a h = record { same = λ w. refl }
typed-alike c (Integer Char) a h = record { same = λ w. refl }
typed-alike c (Integer Short) a h = record { same = λ w. refl }
typed-alike c (Integer Int) a h = h
typed-alike c (Integer UnsignedInt) a h = h
typed-alike c (Pointer t) a h = pointer a.of
  where
    pointer : (of : ValueType) → IsAlike (as_pointer c t of a)
    pointer Void = record { same = λ w. refl }
    pointer (Integer u) = record { same = λ w. refl }
    pointer (Pointer u) = h

read-alike : (c : Context) (of : ValueType) (place : Place) → IsAlike (read_part c of (place_of c place))
read-alike c of (LocalPlace v) = local-alike c of v
read-alike c Void (StaticPlace k) = record { same = λ w. refl }
read-alike c (Integer t) (StaticPlace k) = record { same = λ w. refl }
read-alike c (Pointer t) (StaticPlace k) = record { same = λ w. refl }
read-alike c Void (Target t e) = record { same = λ w. refl }
read-alike c (Integer u) (Target t e) = record { same = λ w. refl }
read-alike c (Pointer u) (Target t e) = record { same = λ w. refl }
read-alike c Void (Element t b i) = record { same = λ w. refl }
read-alike c (Integer u) (Element t b i) = record { same = λ w. refl }
read-alike c (Pointer u) (Element t b i) = record { same = λ w. refl }

assign-alike : (c : Context) (of : ValueType) (place : Place) (a : Part)
    → IsAlike (assign_part c of (place_of c place) a)
assign-alike c of (LocalPlace v) a = assigned-alike c of v a
assign-alike c Void (StaticPlace k) a = record { same = λ w. refl }
assign-alike c (Integer t) (StaticPlace k) a = record { same = λ w. refl }
assign-alike c (Pointer t) (StaticPlace k) a = record { same = λ w. refl }
assign-alike c of (Target t e) a = record { same = λ w. refl }
assign-alike c of (Element t b i) a = record { same = λ w. refl }

update-alike : (c : Context) (of : ValueType) (o : BinaryOp) (place : Place) (a : Part)
    → IsAlike (update_part c of o (place_of c place) a)
update-alike c of o (LocalPlace v) a = assigned-alike c of v _
update-alike c Void o (StaticPlace k) a = record { same = λ w. refl }
update-alike c (Integer t) o (StaticPlace k) a = record { same = λ w. refl }
update-alike c (Pointer t) o (StaticPlace k) a = record { same = λ w. refl }
update-alike c of o (Target t e) a = record { same = λ w. refl }
update-alike c of o (Element t b i) a = record { same = λ w. refl }

stepped-alike : (c : Context) (o : StepOp) (of : ValueType) (name update : Part) → IsAlike update
    → IsAlike (stepped_name c o of name update)
stepped-alike c PreIncrement of name update h = record { same = h.same }
stepped-alike c PreDecrement of name update h = record { same = h.same }
stepped-alike c PostIncrement of name update h = record {
  same = λ w. ap (λ (n : ℕ). update.blocks Dropped + n) (tested w of);
}
stepped-alike c PostDecrement of name update h = record {
  same = λ w. ap (λ (n : ℕ). update.blocks Dropped + n) (tested w of);
}

step-alike : (c : Context) (of : ValueType) (o : StepOp) (place : Place) → IsAlike (step_part c of o (place_of c place))
step-alike c of o (LocalPlace v) = stepped-alike c o of (local_part c of v)
    (update_part c of (step_op o) (place_of c (LocalPlace v)) (one_part c))
    (update-alike c of (step_op o) (LocalPlace v) (one_part c))
step-alike c of o (StaticPlace k) = stepped-alike c o of (read_part c of (place_of c (StaticPlace k)))
    (update_part c of (step_op o) (place_of c (StaticPlace k)) (one_part c))
    (update-alike c of (step_op o) (StaticPlace k) (one_part c))
step-alike c of o (Target t e) = record { same = λ w. refl }
step-alike c of o (Element t b i) = record { same = λ w. refl }

binary-alike : (c : Context) (of : ValueType) (o : BinaryOp) (a b : Part) → IsAlike (binary_part c of o a b)
binary-alike c of o a b = record {
  same = λ w. ap (λ (n : ℕ). (operand c b.simple a).blocks + (operand c true b).blocks + n) (applied w o a.of b.of);
}

pub alike : (c : Context) (e : Expression) → IsAlike (part_of c e)
alike c (Constant t n) = record { same = λ w. refl }
alike c (Start t array) = record { same = λ w. tested w (Pointer t) }
alike c (Read of place) = read-alike c of place
alike c (Address t (LocalPlace v)) = record { same = λ w. tested w (Pointer t) }
alike c (Address t (StaticPlace k)) = record { same = λ w. tested w (Pointer t) }
alike c (Address t (Target u e)) = record { same = (alike c e).same }
alike c (Address t (Element u a i)) = element (part_of c a).of
  where
    element : (of : ValueType) → IsAlike (address_part c t (AtAddress u
        (element_of c u of (part_of c a) (part_of c i))))
    element Void = record { same = (binary-alike c (Pointer u) binary.Add (part_of c a) (part_of c i)).same }
    element (Integer k) = record { same = (binary-alike c (Pointer u) binary.Add (part_of c a) (part_of c i)).same }
    element (Pointer k) = record { same = (binary-alike c (Pointer u) binary.Add (part_of c a) (part_of c i)).same }
alike c (Unary t Plus e) = record { same = (alike c e).same }
alike c (Unary t Minus e) = record { same = λ w. refl }
alike c (Unary t Complement e) = record { same = λ w. refl }
alike c (Unary t Not e) = record { same = λ w. condition _ _ w }
alike c (Binary of o a b) = record { same = (binary-alike c of o (part_of c a) (part_of c b)).same }
alike c (And a b) = record { same = λ w. condition _ _ w }
alike c (Or a b) = record { same = λ w. condition _ _ w }
alike c (Conditional of t a b) =
    let x = typed-alike c of (part_of c a) (alike c a) in
    let y = typed-alike c of (part_of c b) (alike c b) in
    record { same = λ w. four (test_blocks_of (part_of c t)) (owned w) (x.same w) (y.same w) }
  where
    four : {k l x y m n : ℕ} (t : ℕ) → k ≡ l → x ≡ y → m ≡ n → k + t + x + m ≡ l + t + y + n
    four {k} {l} {x} {y} {m} {n} t a b c = ap (λ (i : ℕ). i + t + x + m) a ∙ ap (λ (i : ℕ). l + t + i + m) b
        ∙ ap (λ (i : ℕ). l + t + y + i) c
alike c (Cast to e) = record { same = (typed-alike c to (part_of c e) (alike c e)).same }
alike c (Assign of place e) = assign-alike c of place (part_of c e)
alike c (Update of o place e) = update-alike c of o place (part_of c e)
alike c (Step of o place) = step-alike c of o place
alike c (Comma a b) = record { same = λ w. ap (λ (n : ℕ). (part_of c a).blocks Dropped + n) ((alike c b).same w) }
alike c (Call of f arguments) = record { same = λ w. refl }
alike c (Putchar e) = record { same = λ w. refl }
alike c Getchar = record { same = λ w. refl }
alike c (Exit e) = record { same = λ w. refl }

-- The blocks of each construct of expressions: its lines start each of them once, and close what they open.
use Rattle.std.proofs.Common.{◌≡◌, ℕ, suc, ◌+◌, Bool, true, false, ℤ, pos, List, [], ◌∷◌, ◌++◌, Option, Some, None}
use Rattle.std.proofs.Common.{refl, sym, ap, subst, arith}
use Rattle.std.specs.List.{AllByRecursion}
use Rattle.c_tree.specs.declared.expression.ArrayRef.{ArrayRef}
use Rattle.c_tree.specs.declared.expression.ArrayRef.TheVariants as refs
use Rattle.c_tree.specs.declared.expression.BinaryOp.{BinaryOp}
use Rattle.c_tree.specs.declared.expression.StepOp.{StepOp}
use Rattle.c_tree.specs.declared.expression.StepOp.TheVariants.{PreIncrement, PreDecrement, PostIncrement}
use Rattle.c_tree.specs.declared.expression.StepOp.TheVariants.{PostDecrement}
use Rattle.c_tree.specs.declared.expression.UnaryOp.{UnaryOp}
use Rattle.c_tree.specs.declared.expression.UnaryOp.TheVariants.{Plus, Minus, Complement, Not}
use Rattle.c_tree.specs.declared.types.IntegerType.{IntegerType}
use Rattle.c_tree.specs.declared.types.IntegerType.TheVariants.{Char, Short, Int, UnsignedInt}
use Rattle.c_tree.specs.declared.types.ValueType.{ValueType}
use Rattle.c_tree.specs.declared.types.ValueType.TheVariants.{Void, Integer, Pointer}
use Rattle.c_tree.specs.Operators.{step_op, step_type, working_type}
use Rattle.c_tree.specs.Program.{int, Local}
use Rattle.c_tree.specs.Store.{converted}
use Rattle.c_tree.specs.declared.expression.BinaryOp.TheVariants.{Equal, NotEqual, Add}
use Rattle.c_tree.specs.WellTyped.{IsResult, IsScalar}
use Rattle.flow_graph.specs.declared.op.Op.{Op}
use Rattle.flow_graph.specs.declared.op.Op.TheVariants as op
use Rattle.flow_graph.specs.Graphs.{is_end}
use Rattle.lower_lines.specs.Expressions.{Addressed, Located, AtLocal, AtObject, AtAddress, address_part, all_passed}
use Rattle.lower_lines.specs.Expressions.{all_simple, and_part, and_test, arguments_blocks, arguments_lines}
use Rattle.lower_lines.specs.Expressions.{array_line}
use Rattle.lower_lines.specs.Expressions.{arguments_words, assign_part, assigned_element, assigned_local}
use Rattle.lower_lines.specs.Expressions.{assigned_object}
use Rattle.lower_lines.specs.Expressions.{binary_part, call_part, cast_part, comma_part, conditional_lines}
use Rattle.lower_lines.specs.Expressions.{conditional_part, constant_part, element_of, element_sum, exit_part}
use Rattle.lower_lines.specs.Expressions.{getchar_part, local_part, negated, number_part, object_part}
use Rattle.lower_lines.specs.Expressions.{old_value, new_value}
use Rattle.lower_lines.specs.Expressions.{one_part, or_part, or_test, own_blocks, passed, read_part, reading}
use Rattle.lower_lines.specs.Expressions.{result_lines}
use Rattle.lower_lines.specs.Expressions.{result_type, start_part, step_part, step_value, stepped_after}
use Rattle.lower_lines.specs.Expressions.{stepped_element}
use Rattle.lower_lines.specs.Expressions.{stepped_lines, stepped_name, stored_lines, target_of, test_blocks_of}
use Rattle.lower_lines.specs.Expressions.{unary_part, update_part}
use Rattle.lower_lines.specs.Expressions.{updated_element}
use Rattle.lower_lines.specs.Lines.{Line, Start, Emit}
use Rattle.lower_lines.specs.Operators.{applied_blocks, on_pointer_blocks, on_pointers_blocks}
use Rattle.lower_lines.specs.Parts.{Wanted, Dropped, Own, ToLocal, Tests, Part, Operand, as_pointer, bits_of}
use Rattle.lower_lines.specs.Parts.{compound}
use Rattle.lower_lines.specs.Parts.{converting, delivered, if_stays, in_type, made, narrowed, null_lines}
use Rattle.lower_lines.specs.Parts.{operand, retyped, standing, tested_blocks}
use Rattle.lower_lines.specs.Variables.{Context, ForNumber, Spot, local_spot, own, temporary}
use Rattle.lower_lines.proofs.Filling.{Lays, IsPlain, end-lays, emit-lays, lays-then, lays-to, none-lays}
use Rattle.lower_lines.proofs.Filling.{plain-append}
use Rattle.lower_lines.proofs.Filling.{lays-swap, plain-lays, plain-then, start-lays, then-plain}
use Rattle.lower_lines.proofs.Joining.{chain-lays, dropped-lays, meeting-lays, three-lays, two-lays, ways-lays}
use Rattle.lower_lines.proofs.Pieces.{May, applied-lays, computing-plain, converted-lays, converting-plain}
use Rattle.lower_lines.proofs.Pieces.{copied-plain, delivered-lays, made-lays, made-number-lays, may-number}
use Rattle.lower_lines.proofs.Pieces.{moved-plain, no-blocks, null-lays, opens, truth-lays}

-- a part that stands somewhere takes no blocks for its value
abbrev pub StandsFree : Option Spot → ℕ → Type 0
StandsFree None blocks = Unit {0}
StandsFree (Some spot) blocks = blocks ≡ 0

-- the lines of a part start the blocks from one on, as many as it says
pub record IsLaid (a : Part) : Type 0 where
  pub lays : (block level : ℕ) (w : Wanted) → May w a.of
      → Lays block (block + a.blocks w) true (opens w) (a.lines block level w)
  pub tests : (holds fails : ℕ) → a.blocks (Tests holds fails) ≡ test_blocks_of a
  pub stood : StandsFree a.stands (a.blocks Own)

pub record IsLaidOperand (x : Operand) : Type 0 where
  pub lays : (block level : ℕ) → Lays block (block + x.blocks) true true (x.lines block level)

-- the lines of an address
pub record IsLaidAddress (to : Addressed) : Type 0 where
  pub lays : (stays : Bool) (block level : ℕ) → Lays block (block + to.blocks) true true (to.lines stays block level)
  pub value : IsLaid to.value
  pub scalar : IsScalar to.value.of

abbrev pub IsLaidPlace : Located → Type 0
IsLaidPlace (AtLocal local) = Unit {0}
IsLaidPlace (AtObject k) = Unit {0}
IsLaidPlace (AtAddress t to) = IsLaidAddress to

pub may-scalar : (w : Wanted) (of : ValueType) → IsScalar of → May w of
may-scalar Dropped of s = tt
may-scalar Own of s = tt
may-scalar (ToLocal local) of s = tt
may-scalar (Tests holds fails) of s = s

-- ---- what is made of parts

pub test-laid : (a : Part) → IsLaid a → IsScalar a.of → (block level holds fails : ℕ)
    → Lays block (block + test_blocks_of a) true false (a.lines block level (Tests holds fails))
test-laid a h s block level holds fails = lays-to block (block + a.blocks (Tests holds fails)) block
    (block + test_blocks_of a) refl (ap (λ (n : ℕ). block + n) (h.tests holds fails))
    (h.lays block level (Tests holds fails) s)

standing-laid : (c : Context) (a : Part) (o : Option Spot) → IsLaid a → IsLaidOperand (standing c a o)
standing-laid c a None h = record { lays = λ block level. h.lays block level Own tt }
standing-laid c a (Some spot) h = record {
  lays = λ block level. lays-to block block block (block + 0) refl (omega arith) (none-lays block true);
}

pub operand-laid : (c : Context) (stays : Bool) (a : Part) → IsLaid a → IsLaidOperand (operand c stays a)
operand-laid c stays a h = standing-laid c a (if_stays stays a.stands) h

-- ---- names, numbers and strings

pub constant-laid : (c : Context) (t : IntegerType) (n : ℤ) → IsLaid (constant_part c t n)
constant-laid c t n = record {
  lays = λ block level w m. lays-to block block block (block + 0) refl (omega arith)
      (made-number-lays c block level w t (λ to. Emit (op.Const to.number (converted t n)) ∷ []) (λ to. (refl, tt)));
  tests = λ holds fails. refl;
  stood = tt;
}

array-plain : (array : ArrayRef) (to : Spot)
    → IsPlain (array_line array to.array ∷ Emit (op.Const to.number (pos 0)) ∷ [])
array-plain (refs.Static k) to = (refl, (refl, tt))
array-plain (refs.Frame k) to = (refl, (refl, tt))

pub start-laid : (c : Context) (t : IntegerType) (array : ArrayRef) → IsLaid (start_part c t array)
start-laid c t array = record {
  lays = λ block level w m. made-lays c block level w (Pointer t)
      (λ to. array_line array to.array ∷ Emit (op.Const to.number (pos 0)) ∷ []) (array-plain array) m;
  tests = λ holds fails. refl;
  stood = tt;
}

reading-lays : (c : Context) (block level : ℕ) (w : Wanted) (of : ValueType) (spot : Spot) → May w of
    → Lays block (block + tested_blocks w of) true (opens w) (reading c block level w of spot)
reading-lays c block level Dropped of spot m = lays-to block block block (block + 0) refl (omega arith)
    (plain-lays block _ (moved-plain of (own c level) spot))
reading-lays c block level Own of spot m = delivered-lays c block level Own of spot m
reading-lays c block level (ToLocal local) of spot m = delivered-lays c block level (ToLocal local) of spot m
reading-lays c block level (Tests holds fails) of spot m = delivered-lays c block level (Tests holds fails) of spot m

pub local-laid : (c : Context) (of : ValueType) (local : ℕ) → IsLaid (local_part c of local)
local-laid c Void local = record {
  lays = λ block level w m. reading-lays c block level w Void (local_spot c local) m;
  tests = λ holds fails. refl;
  stood = refl;
}
local-laid c (Integer Char) local = record {
  lays = λ block level w m. lays-to block block block (block + 0) refl (omega arith)
      (made-number-lays c block level w Char (λ to. Emit (op.Wide to.number (local_spot c local).number) ∷ [])
      (λ to. (refl, tt)));
  tests = λ holds fails. refl;
  stood = tt;
}
local-laid c (Integer Short) local = record {
  lays = λ block level w m. reading-lays c block level w (Integer Short) (local_spot c local) m;
  tests = λ holds fails. refl;
  stood = refl;
}
local-laid c (Integer Int) local = record {
  lays = λ block level w m. reading-lays c block level w (Integer Int) (local_spot c local) m;
  tests = λ holds fails. refl;
  stood = refl;
}
local-laid c (Integer UnsignedInt) local = record {
  lays = λ block level w m. reading-lays c block level w (Integer UnsignedInt) (local_spot c local) m;
  tests = λ holds fails. refl;
  stood = refl;
}
local-laid c (Pointer t) local = record {
  lays = λ block level w m. reading-lays c block level w (Pointer t) (local_spot c local) m;
  tests = λ holds fails. refl;
  stood = refl;
}

-- the value of a local in temporaries takes no block
pub own-lays : (c : Context) (of : ValueType) (local block level : ℕ)
    → Lays block block true true ((local_part c of local).lines block level Own)
own-lays c Void local block level = none-lays block true
own-lays c (Integer Char) local block level = made-number-lays c block level Own Char
    (λ to. Emit (op.Wide to.number (local_spot c local).number) ∷ []) (λ to. (refl, tt))
own-lays c (Integer Short) local block level = plain-lays block _
    (moved-plain (Integer Short) (own c level) (local_spot c local))
own-lays c (Integer Int) local block level = plain-lays block _
    (moved-plain (Integer Int) (own c level) (local_spot c local))
own-lays c (Integer UnsignedInt) local block level = plain-lays block _
    (moved-plain (Integer UnsignedInt) (own c level) (local_spot c local))
own-lays c (Pointer t) local block level = plain-lays block _
    (moved-plain (Pointer t) (own c level) (local_spot c local))

pub local-type : (c : Context) (of : ValueType) (local : ℕ) → (local_part c of local).of ≡ of
local-type c Void local = refl
local-type c (Integer Char) local = refl
local-type c (Integer Short) local = refl
local-type c (Integer Int) local = refl
local-type c (Integer UnsignedInt) local = refl
local-type c (Pointer t) local = refl

pub object-laid : (c : Context) (t : IntegerType) (k : ℕ) → IsLaid (object_part c t k)
object-laid c t k = record {
  lays = λ block level w m. lays-to block block block (block + 0) refl (omega arith)
      (made-number-lays c block level w t (λ to. Emit (op.Get (bits_of t) to.number k) ∷ []) (λ to. (refl, tt)));
  tests = λ holds fails. refl;
  stood = tt;
}

-- ---- operators

pub number-laid : (c : Context) (made_by : ℕ → ℕ → Op) (a : Part) → ((d s : ℕ) → is_end (made_by d s) ≡ false)
    → IsLaid a → IsLaid (number_part c made_by a)
number-laid c made_by a e h =
    let x = operand c true a in
    record {
      lays = λ block level w m. lays-then block (block + x.blocks) (block + x.blocks) true true (opens w) _ _
          ((operand-laid c true a h).lays block level)
          (made-number-lays c (block + x.blocks) level w Int
          (λ to. Emit (made_by to.number (x.spot level).number) ∷ []) (λ to. (e to.number (x.spot level).number, tt)));
      tests = λ holds fails. refl;
      stood = tt;
    }

negated-laid : (c : Context) (a : Part) → IsLaid a → IsScalar a.of → IsLaid (negated c a)
negated-laid c a h s = record {
  lays = lines;
  tests = λ holds fails. refl;
  stood = tt;
}
  where
    lines : (block level : ℕ) (w : Wanted) → May w int
        → Lays block (block + (negated c a).blocks w) true (opens w) ((negated c a).lines block level w)
    lines block level Dropped m = h.lays block level Dropped tt
    lines block level Own m = truth-lays c block level (test_blocks_of a) Own _
        (λ b holds fails. test-laid a h s b level fails holds)
    lines block level (ToLocal local) m = truth-lays c block level (test_blocks_of a) (ToLocal local) _
        (λ b holds fails. test-laid a h s b level fails holds)
    lines block level (Tests holds fails) m = test-laid a h s block level fails holds

-- the same lines for another integer type
retyped-laid : (of : IntegerType) (a : Part) → IsLaid a → IsScalar a.of → IsLaid (retyped of a)
retyped-laid of a h s = record {
  lays = λ block level w m. h.lays block level w (may-scalar w a.of s);
  tests = h.tests;
  stood = h.stood;
}

pub unary-laid : (c : Context) (of : IntegerType) (operator : UnaryOp) (a : Part) → IsLaid a → IsScalar a.of
    → IsLaid (unary_part c of operator a)
unary-laid c of Plus a h s = record {
  lays = λ block level w m. h.lays block level w (may-scalar w a.of s);
  tests = h.tests;
  stood = tt;
}
unary-laid c of Minus a h s = retyped-laid of (number_part c op.Neg a) (number-laid c op.Neg a (λ d x. refl) h) tt
unary-laid c of Complement a h s = retyped-laid of (number_part c op.Not a) (number-laid c op.Not a (λ d x. refl) h) tt
unary-laid c of Not a h s = retyped-laid of (negated c a) (negated-laid c a h s) tt

pub binary-laid : (c : Context) (of : ValueType) (operator : BinaryOp) (a b : Part) → IsLaid a → IsLaid b
    → IsScalar a.of → IsScalar b.of → IsLaid (binary_part c of operator a b)
binary-laid c of operator a b h k s t =
    let x = operand c b.simple a in
    let y = operand c true b in
    record {
      lays = λ block level w m. three-lays block x.blocks y.blocks (applied_blocks w operator a.of b.of) (opens w) _ _ _
          ((operand-laid c b.simple a h).lays block level)
          ((operand-laid c true b k).lays (block + x.blocks) (suc level))
          (applied-lays c (block + x.blocks + y.blocks) level w operator a.of b.of (x.spot level)
          (y.spot (suc level)) s t);
      tests = λ holds fails. tests-alike operator a.of b.of holds fails x.blocks y.blocks;
      stood = tt;
    }
  where
    pointer-alike : (operator : BinaryOp) (holds fails : ℕ)
        → on_pointer_blocks (Tests holds fails) operator ≡ on_pointer_blocks (Tests 0 0) operator
    pointer-alike Equal holds fails = refl
    pointer-alike NotEqual holds fails = refl
    pointer-alike _ holds fails = refl

    pointers-alike : (operator : BinaryOp) (holds fails : ℕ)
        → on_pointers_blocks (Tests holds fails) operator ≡ on_pointers_blocks (Tests 0 0) operator
    pointers-alike Equal holds fails = refl
    pointers-alike NotEqual holds fails = refl
    pointers-alike _ holds fails = refl

    alike : (operator : BinaryOp) (s t : ValueType) (holds fails : ℕ)
        → applied_blocks (Tests holds fails) operator s t ≡ applied_blocks (Tests 0 0) operator s t
    alike operator (Integer s) (Integer t) holds fails = refl
    alike operator (Pointer s) (Integer t) holds fails = pointer-alike operator holds fails
    alike operator (Integer s) (Pointer t) holds fails = pointer-alike operator holds fails
    alike operator (Pointer s) (Pointer t) holds fails = pointers-alike operator holds fails
    alike operator Void t holds fails = refl
    alike operator (Integer s) Void holds fails = refl
    alike operator (Pointer s) Void holds fails = refl

    tests-alike : (operator : BinaryOp) (s t : ValueType) (holds fails m n : ℕ)
        → m + n + applied_blocks (Tests holds fails) operator s t ≡ m + n + applied_blocks (Tests 0 0) operator s t
    tests-alike operator s t holds fails m n = ap (λ (k : ℕ). m + n + k) (alike operator s t holds fails)

-- ---- conditions

pub and-laid : (c : Context) (a b : Part) → IsLaid a → IsLaid b → IsScalar a.of → IsScalar b.of
    → IsLaid (and_part c a b)
and-laid c a b h k s t = record { lays = lines; tests = λ holds fails. refl; stood = tt }
  where
    both : (level block holds fails : ℕ) → Lays block (block + (1 + test_blocks_of a + test_blocks_of b)) true false
        (and_test a b level block holds fails)
    both level block holds fails = chain-lays block (test_blocks_of a) (test_blocks_of b) false _ _
        (test-laid a h s (suc block) level block fails)
        (test-laid b k t (suc block + test_blocks_of a) level holds fails)

    lines : (block level : ℕ) (w : Wanted) → May w int
        → Lays block (block + (and_part c a b).blocks w) true (opens w) ((and_part c a b).lines block level w)
    lines block level Dropped m = dropped-lays block (test_blocks_of a) (b.blocks Dropped) _ _
        (test-laid a h s (block + 2) level block (suc block))
        (k.lays (block + 2 + test_blocks_of a) level Dropped tt)
    lines block level Own m = truth-lays c block level (1 + test_blocks_of a + test_blocks_of b) Own
        (and_test a b level) (both level)
    lines block level (ToLocal local) m = truth-lays c block level (1 + test_blocks_of a + test_blocks_of b)
        (ToLocal local) (and_test a b level) (both level)
    lines block level (Tests holds fails) m = both level block holds fails

pub or-laid : (c : Context) (a b : Part) → IsLaid a → IsLaid b → IsScalar a.of → IsScalar b.of
    → IsLaid (or_part c a b)
or-laid c a b h k s t = record { lays = lines; tests = λ holds fails. refl; stood = tt }
  where
    both : (level block holds fails : ℕ) → Lays block (block + (1 + test_blocks_of a + test_blocks_of b)) true false
        (or_test a b level block holds fails)
    both level block holds fails = chain-lays block (test_blocks_of a) (test_blocks_of b) false _ _
        (test-laid a h s (suc block) level holds block)
        (test-laid b k t (suc block + test_blocks_of a) level holds fails)

    lines : (block level : ℕ) (w : Wanted) → May w int
        → Lays block (block + (or_part c a b).blocks w) true (opens w) ((or_part c a b).lines block level w)
    lines block level Dropped m = dropped-lays block (test_blocks_of a) (b.blocks Dropped) _ _
        (test-laid a h s (block + 2) level (suc block) block)
        (k.lays (block + 2 + test_blocks_of a) level Dropped tt)
    lines block level Own m = truth-lays c block level (1 + test_blocks_of a + test_blocks_of b) Own
        (or_test a b level) (both level)
    lines block level (ToLocal local) m = truth-lays c block level (1 + test_blocks_of a + test_blocks_of b)
        (ToLocal local) (or_test a b level) (both level)
    lines block level (Tests holds fails) m = both level block holds fails

-- ---- conversions

pub narrowed-laid : (c : Context) (t : IntegerType) (a : Part) → IsLaid a → IsLaid (narrowed c t a)
narrowed-laid c t a h =
    let x = operand c true a in
    record {
      lays = λ block level w m. lays-then block (block + x.blocks) (block + x.blocks) true true (opens w) _ _
          ((operand-laid c true a h).lays block level)
          (made-number-lays c (block + x.blocks) level w t
          (λ to. converting c level t to.number (x.spot level).number)
          (λ to. converting-plain c level t to.number (x.spot level).number));
      tests = λ holds fails. refl;
      stood = tt;
    }

null-laid : (c : Context) (t : IntegerType) (a : Part) → IsLaid a
    → IsLaid (compound (Pointer t) a.levels (λ wanted. a.blocks Dropped)
    (λ block level wanted. a.lines block level Dropped ++ null_lines c level wanted))
null-laid c t a h = record {
  lays = λ block level w m. lays-then block (block + a.blocks Dropped) (block + a.blocks Dropped) true true (opens w)
      _ _ (h.lays block level Dropped tt) (null-lays c (block + a.blocks Dropped) level w);
  tests = λ holds fails. refl;
  stood = tt;
}

pointer-laid : (c : Context) (t : IntegerType) (of : ValueType) (a : Part) → IsLaid a → IsLaid (as_pointer c t of a)
pointer-laid c t (Pointer u) a h = h
pointer-laid c t Void a h = null-laid c t a h
pointer-laid c t (Integer u) a h = null-laid c t a h

opens-void : (w : Wanted) → May w Void → true ≡ opens w
opens-void Dropped m = refl
opens-void Own m = refl
opens-void (ToLocal local) m = refl
opens-void (Tests holds fails) m = absurd m

pub turned-laid : (c : Context) (of : ValueType) (a : Part) → IsLaid a → IsLaid (in_type c of a)
turned-laid c Void a h = record {
  lays = λ block level w m. subst (λ (q : Bool). Lays block (block + a.blocks Dropped) true q
      (a.lines block level Dropped)) (opens-void w m) (h.lays block level Dropped tt);
  tests = λ holds fails. refl;
  stood = tt;
}
turned-laid c (Integer Char) a h = narrowed-laid c Char a h
turned-laid c (Integer Short) a h = narrowed-laid c Short a h
turned-laid c (Integer Int) a h = h
turned-laid c (Integer UnsignedInt) a h = h
turned-laid c (Pointer t) a h = pointer-laid c t a.of a h

-- what is turned to a type is a scalar where the type is one
abbrev pub Turns : ValueType → ValueType → Type 0
Turns Void from = Unit {0}
Turns (Integer t) from = IsScalar from
Turns (Pointer t) from = Unit {0}

pointer-scalar : (c : Context) (t : IntegerType) (of : ValueType) (a : Part) → a.of ≡ of
    → IsScalar (as_pointer c t of a).of
pointer-scalar c t (Pointer u) a e = subst (λ (s : ValueType). IsScalar s) (sym e) tt
pointer-scalar c t Void a e = tt
pointer-scalar c t (Integer u) a e = tt

pub turned-scalar : (c : Context) (of : ValueType) (a : Part) → Turns of a.of → IsScalar of
    → IsScalar (in_type c of a).of
turned-scalar c Void a t s = absurd s
turned-scalar c (Integer Char) a t s = tt
turned-scalar c (Integer Short) a t s = tt
turned-scalar c (Integer Int) a t s = t
turned-scalar c (Integer UnsignedInt) a t s = t
turned-scalar c (Pointer u) a t s = pointer-scalar c u a.of a refl

pub turned-may : (c : Context) (of : ValueType) (a : Part) (w : Wanted) → Turns of a.of → May w of
    → May w (in_type c of a).of
turned-may c of a Dropped t m = tt
turned-may c of a Own t m = tt
turned-may c of a (ToLocal local) t m = tt
turned-may c of a (Tests holds fails) t m = turned-scalar c of a t m

pub cast-laid : (c : Context) (of : ValueType) (a : Part) → IsLaid a → Turns of a.of → IsLaid (cast_part c of a)
cast-laid c of a h t = record {
  lays = λ block level w m. (turned-laid c of a h).lays block level w (turned-may c of a w t m);
  tests = (turned-laid c of a h).tests;
  stood = tt;
}

pub comma-laid : (a b : Part) → IsLaid a → IsLaid b → IsLaid (comma_part a b)
comma-laid a b h k = record {
  lays = λ block level w m. two-lays block (a.blocks Dropped) (b.blocks w) true true (opens w) _ _
      (h.lays block level Dropped tt) (k.lays (block + a.blocks Dropped) level w m);
  tests = λ holds fails. ap (λ (n : ℕ). a.blocks Dropped + n) (k.tests holds fails);
  stood = tt;
}

-- `?:` on parts that have its type
ways-laid : (t a b : Part) → IsLaid t → IsLaid a → IsLaid b → IsScalar t.of → (w : Wanted) → May w a.of → May w b.of
    → (block level : ℕ)
    → Lays block (block + (own_blocks w + test_blocks_of t + a.blocks w + b.blocks w)) true (opens w)
    (conditional_lines t a b block level w)
ways-laid t a b ht ha hb s Dropped m n block level = meeting-lays block (test_blocks_of t) (a.blocks Dropped)
    (b.blocks Dropped) _ _ _ (test-laid t ht s (block + 3) level block (suc block))
    (ha.lays (block + 3 + test_blocks_of t) level Dropped m)
    (hb.lays (block + 3 + test_blocks_of t + a.blocks Dropped) level Dropped n)
ways-laid t a b ht ha hb s Own m n block level = meeting-lays block (test_blocks_of t) (a.blocks Own)
    (b.blocks Own) _ _ _ (test-laid t ht s (block + 3) level block (suc block))
    (ha.lays (block + 3 + test_blocks_of t) level Own m)
    (hb.lays (block + 3 + test_blocks_of t + a.blocks Own) level Own n)
ways-laid t a b ht ha hb s (ToLocal local) m n block level = meeting-lays block (test_blocks_of t)
    (a.blocks (ToLocal local)) (b.blocks (ToLocal local)) _ _ _ (test-laid t ht s (block + 3) level block (suc block))
    (ha.lays (block + 3 + test_blocks_of t) level (ToLocal local) m)
    (hb.lays (block + 3 + test_blocks_of t + a.blocks (ToLocal local)) level (ToLocal local) n)
ways-laid t a b ht ha hb s (Tests holds fails) m n block level =
    let w : Wanted = Tests holds fails in
    let last = block + 2 + test_blocks_of t + a.blocks w + b.blocks w in
    ways-lays block (test_blocks_of t) (a.blocks w) (b.blocks w)
    (t.lines (block + 2) level (Tests block (suc block))) (a.lines (block + 2 + test_blocks_of t) level w)
    (b.lines (block + 2 + test_blocks_of t + a.blocks w) level w ++ [])
    (test-laid t ht s (block + 2) level block (suc block))
    (ha.lays (block + 2 + test_blocks_of t) level w m)
    (lays-then (block + 2 + test_blocks_of t + a.blocks w) last last true false false _ []
    (hb.lays (block + 2 + test_blocks_of t + a.blocks w) level w n) (none-lays last false))

pub conditional-laid : (c : Context) (of : ValueType) (t a b : Part) → IsLaid t → IsLaid a → IsLaid b → IsScalar t.of
    → Turns of a.of → Turns of b.of → IsLaid (conditional_part c of t a b)
conditional-laid c of t a b ht ha hb s m n =
    let a' = in_type c of a in
    let b' = in_type c of b in
    record {
      lays = λ block level w may. ways-laid t a' b' ht (turned-laid c of a ha) (turned-laid c of b hb) s w
          (turned-may c of a w m may) (turned-may c of b w n may) block level;
      tests = λ holds fails.
          let ea = (turned-laid c of a ha).tests holds fails in
          let eb = (turned-laid c of b hb).tests holds fails in
          sums _ _ _ _ _ ea eb;
      stood = tt;
    }
  where
    sums : (k m m' n n' : ℕ) → m ≡ m' → n ≡ n' → k + m + n ≡ k + m' + n'
    sums k m m' n n' e f = omega (arith, e, f)

-- ---- places

pub target-laid : (c : Context) (a : Part) → IsLaid a → IsScalar a.of → IsLaidAddress (target_of c a)
target-laid c a h s = record {
  lays = λ stays block level. stands stays a.stands (a.blocks Own) h.stood block level refl;
  value = h;
  scalar = s;
}
  where
    stood-lays : (o : Option Spot) (n block level : ℕ) → StandsFree o n → n ≡ a.blocks Own
        → Lays block (block + n) true true ((standing c a o).lines block level)
    stood-lays None n block level f e = rw e (h.lays block level Own tt)
    stood-lays (Some spot) n block level f e = lays-to block block block (block + n) refl (omega (arith, f))
        (none-lays block true)

    stands : (stays : Bool) (o : Option Spot) (n : ℕ) → StandsFree o n → (block level : ℕ) → n ≡ a.blocks Own
        → Lays block (block + n) true true ((standing c a (if_stays stays o)).lines block level)
    stands true o n f block level e = stood-lays o n block level f e
    stands false o n f block level e = stood-lays None n block level tt e

sum-plain : (to x y : Spot) → IsPlain (element_sum to x y.number)
sum-plain to x y = plain-append _ _ (copied-plain to.array x.array) (refl, tt)

second-lays : (c : Context) (a b : Part) → IsLaid a → IsLaid b → (block level : ℕ)
    → Lays block (block + ((operand c b.simple a).blocks + (operand c true b).blocks)) true true
    ((operand c b.simple a).lines block level ++ ((operand c true b).lines (block + (operand c b.simple a).blocks)
    (suc level) ++ element_sum (own c level) ((operand c true b).spot (suc level))
    ((operand c b.simple a).spot level).number))
second-lays c a b h k block level =
    let x = operand c b.simple a in
    let y = operand c true b in
    two-lays block x.blocks y.blocks true true true _ _
    ((operand-laid c b.simple a h).lays block level)
    (then-plain (block + x.blocks) (block + x.blocks + y.blocks) true _ _
    ((operand-laid c true b k).lays (block + x.blocks) (suc level))
    (sum-plain (own c level) (y.spot (suc level)) (x.spot level)))

pub element-laid : (c : Context) (element : IntegerType) (of : ValueType) (a b : Part) → IsLaid a → IsLaid b
    → IsScalar a.of → IsScalar b.of → IsLaidAddress (element_of c element of a b)
element-laid c element (Pointer t) a b h k s s' =
    let x = operand c b.simple a in
    let y = operand c true b in
    record {
      lays = λ stays block level. two-lays block x.blocks y.blocks true true true _ _
          ((operand-laid c b.simple a h).lays block level)
          (then-plain (block + x.blocks) (block + x.blocks + y.blocks) true _ _
          ((operand-laid c true b k).lays (block + x.blocks) (suc level))
          (plain-append _ _ (copied-plain
          ((element_of c element (Pointer t) a b).spot stays level).array (x.spot level).array) (refl, tt)));
      value = binary-laid c (Pointer element) Add a b h k s s';
      scalar = tt;
    }
element-laid c element Void a b h k s s' = record {
  lays = λ stays block level. second-lays c a b h k block level;
  value = binary-laid c (Pointer element) Add a b h k s s';
  scalar = tt;
}
element-laid c element (Integer t) a b h k s s' = record {
  lays = λ stays block level. second-lays c a b h k block level;
  value = binary-laid c (Pointer element) Add a b h k s s';
  scalar = tt;
}

element-read-laid : (c : Context) (t : IntegerType) (to : Addressed) → IsLaidAddress to
    → (of : ValueType) → IsLaid (compound (Integer t) to.levels (λ wanted. to.blocks)
    (λ block level wanted. to.lines true block level ++ made c (block + to.blocks) level wanted (Integer t)
    (λ spot. Emit (op.Load (bits_of t) spot.number (to.spot true level).array (to.spot true level).number) ∷ [])))
element-read-laid c t to h of = record {
  lays = λ block level w m. lays-then block (block + to.blocks) (block + to.blocks) true true (opens w) _ _
      (h.lays true block level)
      (made-number-lays c (block + to.blocks) level w t
      (λ spot. Emit (op.Load (bits_of t) spot.number (to.spot true level).array (to.spot true level).number) ∷ [])
      (λ spot. (refl, tt)));
  tests = λ holds fails. refl;
  stood = tt;
}

pub read-laid : (c : Context) (of : ValueType) (l : Located) → IsLaidPlace l → IsLaid (read_part c of l)
read-laid c of (AtLocal local) h = local-laid c of local
read-laid c (Integer t) (AtObject k) h = object-laid c t k
read-laid c Void (AtObject k) h = object-laid c Int k
read-laid c (Pointer t) (AtObject k) h = object-laid c Int k
read-laid c Void (AtAddress t to) h = element-read-laid c t to h Void
read-laid c (Integer u) (AtAddress t to) h = element-read-laid c t to h Void
read-laid c (Pointer u) (AtAddress t to) h = element-read-laid c t to h Void

pub address-laid : (c : Context) (element : IntegerType) (l : Located) → IsLaidPlace l
    → IsLaid (address_part c element l)
address-laid c element (AtAddress t to) h = record {
  lays = λ block level w m. h.value.lays block level w (may-scalar w to.value.of h.scalar);
  tests = h.value.tests;
  stood = tt;
}
address-laid c element (AtLocal local) h = local-laid c (Pointer element) local
address-laid c element (AtObject k) h = start-laid c element (refs.Static k)

-- ---- assignments

-- a part that isn't dropped is read again
stored-lays : (c : Context) (of : ValueType) (local block level : ℕ) (w : Wanted) → May w of
    → (n : ℕ) → ((v : Wanted) → May v of
    → Lays block (block + tested_blocks v of) true (opens v) ((local_part c of local).lines block level v))
    → Lays block (block + tested_blocks w of) true (opens w) (stored_lines c block level w of local)
stored-lays c of local block level Dropped m n h = lays-to block block block (block + 0) refl (omega arith)
    (none-lays block true)
stored-lays c of local block level Own m n h = h Own tt
stored-lays c of local block level (ToLocal other) m n h = h (ToLocal other) tt
stored-lays c of local block level (Tests holds fails) m n h = h (Tests holds fails) m

-- a name is read by its type
named-lays : (c : Context) (of : ValueType) (local block level : ℕ) (w : Wanted) → May w of
    → Lays block (block + tested_blocks w of) true (opens w) ((local_part c of local).lines block level w)
named-lays c Void local block level w m = reading-lays c block level w Void (local_spot c local) m
named-lays c (Integer Char) local block level w m = made-lays c block level w (Integer Char)
    (λ to. Emit (op.Wide to.number (local_spot c local).number) ∷ []) (λ to. (refl, tt)) m
named-lays c (Integer Short) local block level w m = reading-lays c block level w (Integer Short) (local_spot c local) m
named-lays c (Integer Int) local block level w m = reading-lays c block level w (Integer Int) (local_spot c local) m
named-lays c (Integer UnsignedInt) local block level w m =
    reading-lays c block level w (Integer UnsignedInt) (local_spot c local) m
named-lays c (Pointer t) local block level w m = reading-lays c block level w (Pointer t) (local_spot c local) m

into-local-laid : (c : Context) (of : ValueType) (local : ℕ) (a : Part) → IsLaid (in_type c of a)
    → IsLaid (compound of (in_type c of a).levels
    (λ wanted. (in_type c of a).blocks (ToLocal local) + tested_blocks wanted of) (λ block level wanted.
    (in_type c of a).lines block level (ToLocal local)
    ++ stored_lines c (block + (in_type c of a).blocks (ToLocal local)) level wanted of local))
into-local-laid c of local a h =
    let n = (in_type c of a).blocks (ToLocal local) in
    record {
      lays = λ block level w m. two-lays block n (tested_blocks w of) true true (opens w) _ _
          (h.lays block level (ToLocal local) tt)
          (stored-lays c of local (block + n) level w m 0 (named-lays c of local (block + n) level));
      tests = λ holds fails. refl;
      stood = tt;
    }

pub assigned-local-laid : (c : Context) (of : ValueType) (local : ℕ) (a : Part) → IsLaid a
    → IsLaid (assigned_local c of local a)
assigned-local-laid c (Integer Char) local a h =
    let x = operand c true a in
    record {
      lays = λ block level w m.
          let e = no-blocks w Char in
          lays-then block (block + x.blocks) (block + x.blocks) true true (opens w) _ _
          ((operand-laid c true a h).lays block level)
          (emit-lays (block + x.blocks) (block + x.blocks) (opens w) _ _ refl
          (lays-to (block + x.blocks) (block + x.blocks + tested_blocks w (Integer Char)) (block + x.blocks)
          (block + x.blocks) refl (omega (arith, e))
          (stored-lays c (Integer Char) local (block + x.blocks) level w m 0
          (named-lays c (Integer Char) local (block + x.blocks) level))));
      tests = λ holds fails. refl;
      stood = tt;
    }
assigned-local-laid c Void local a h = into-local-laid c Void local a (turned-laid c Void a h)
assigned-local-laid c (Integer Short) local a h = into-local-laid c (Integer Short) local a
    (turned-laid c (Integer Short) a h)
assigned-local-laid c (Integer Int) local a h = into-local-laid c (Integer Int) local a
    (turned-laid c (Integer Int) a h)
assigned-local-laid c (Integer UnsignedInt) local a h = into-local-laid c (Integer UnsignedInt) local a
    (turned-laid c (Integer UnsignedInt) a h)
assigned-local-laid c (Pointer t) local a h = into-local-laid c (Pointer t) local a (turned-laid c (Pointer t) a h)

pub assigned-type : (c : Context) (of : ValueType) (local : ℕ) (a : Part) → (assigned_local c of local a).of ≡ of
assigned-type c Void local a = refl
assigned-type c (Integer Char) local a = refl
assigned-type c (Integer Short) local a = refl
assigned-type c (Integer Int) local a = refl
assigned-type c (Integer UnsignedInt) local a = refl
assigned-type c (Pointer t) local a = refl

pub assigned-object-laid : (c : Context) (t : IntegerType) (k : ℕ) (a : Part) → IsLaid a
    → IsLaid (assigned_object c t k a)
assigned-object-laid c t k a h =
    let x = operand c true a in
    record {
      lays = λ block level w m. lays-then block (block + x.blocks) (block + x.blocks) true true (opens w) _ _
          ((operand-laid c true a h).lays block level)
          (emit-lays (block + x.blocks) (block + x.blocks) (opens w) _ _ refl
          (converted-lays c (block + x.blocks) level w t (x.spot level).number));
      tests = λ holds fails. refl;
      stood = tt;
    }

pub assigned-element-laid : (c : Context) (t : IntegerType) (to : Addressed) (a : Part) → IsLaidAddress to → IsLaid a
    → IsLaid (assigned_element c t to a)
assigned-element-laid c t to a h k =
    let x = operand c true a in
    record {
      lays = λ block level w m. two-lays block to.blocks x.blocks true true (opens w) _ _
          (h.lays a.simple block level)
          (lays-then (block + to.blocks) (block + to.blocks + x.blocks) (block + to.blocks + x.blocks) true true
          (opens w) _ _ ((operand-laid c true a k).lays (block + to.blocks) (suc level))
          (emit-lays (block + to.blocks + x.blocks) (block + to.blocks + x.blocks) (opens w) _ _ refl
          (converted-lays c (block + to.blocks + x.blocks) level w t (x.spot (suc level)).number)));
      tests = λ holds fails. refl;
      stood = tt;
    }

pub assign-laid : (c : Context) (of : ValueType) (l : Located) (a : Part) → IsLaidPlace l → IsLaid a
    → IsLaid (assign_part c of l a)
assign-laid c of (AtLocal local) a h k = assigned-local-laid c of local a k
assign-laid c (Integer t) (AtObject o) a h k = assigned-object-laid c t o a k
assign-laid c Void (AtObject o) a h k = assigned-object-laid c Int o a k
assign-laid c (Pointer t) (AtObject o) a h k = assigned-object-laid c Int o a k
assign-laid c Void (AtAddress t to) a h k = assigned-element-laid c t to a h k
assign-laid c (Integer u) (AtAddress t to) a h k = assigned-element-laid c t to a h k
assign-laid c (Pointer u) (AtAddress t to) a h k = assigned-element-laid c t to a h k

pub updated-element-laid : (c : Context) (t : IntegerType) (operator : BinaryOp) (to : Addressed) (a : Part)
    → IsLaidAddress to → IsLaid a → IsLaid (updated_element c t operator to a)
updated-element-laid c t operator to a h k =
    let x = operand c true a in
    record {
      lays = λ block level w m.
          let last = block + to.blocks + x.blocks in
          two-lays block to.blocks x.blocks true true (opens w) _ _
          (h.lays a.simple block level)
          (emit-lays (block + to.blocks) last (opens w) _ _ refl
          (lays-then (block + to.blocks) last last true true
          (opens w) _ _ ((operand-laid c true a k).lays (block + to.blocks) (suc level))
          (plain-then last last (opens w) _ _ (computing-plain c level (working_type operator (Integer t) a.of) operator
          (new_value c level) (old_value c level) (x.spot (suc level)).number)
          (emit-lays last last (opens w) _ _ refl
          (converted-lays c last level w t (new_value c level))))));
      tests = λ holds fails. refl;
      stood = tt;
    }

object-scalar : (c : Context) (of : ValueType) (k : ℕ) → IsScalar (read_part c of (AtObject k)).of
object-scalar c Void k = tt
object-scalar c (Integer t) k = tt
object-scalar c (Pointer t) k = tt

pub update-laid : (c : Context) (of : ValueType) (operator : BinaryOp) (l : Located) (a : Part) → IsLaidPlace l
    → IsLaid a → IsScalar of → IsScalar a.of → IsLaid (update_part c of operator l a)
update-laid c of operator (AtLocal local) a h k s t = assigned-local-laid c of local
    (binary_part c (result_type of) operator (local_part c of local) a)
    (binary-laid c (result_type of) operator (local_part c of local) a (local-laid c of local) k
    (rw (local-type c of local) s) t)
update-laid c of operator (AtObject o) a h k s t = assign-laid c of (AtObject o)
    (binary_part c int operator (read_part c of (AtObject o)) a) tt
    (binary-laid c int operator (read_part c of (AtObject o)) a (read-laid c of (AtObject o) tt) k
    (object-scalar c of o) t)
update-laid c of operator (AtAddress t to) a h k s t' = updated-element-laid c t operator to a h k

-- ---- `++` and `--`

after-lays : (c : Context) (of : ValueType) (name update : Part) → IsLaid update
    → ((block level : ℕ) → Lays block block true true (name.lines block level Own))
    → (block level : ℕ) (w : Wanted) → May w of
    → Lays block (block + (update.blocks Dropped + tested_blocks w of)) true (opens w)
    (stepped_after c of name update block level w)
after-lays c of name update h e block level w m =
    lays-then block block (block + (update.blocks Dropped + tested_blocks w of)) true true (opens w) _ _ (e block level)
    (two-lays block (update.blocks Dropped) (tested_blocks w of) true true (opens w) _ _
    (h.lays block (suc level) Dropped tt)
    (delivered-lays c (block + update.blocks Dropped) level w of (own c level) m))

after-laid : (c : Context) (of : ValueType) (name update : Part) → IsLaid update
    → ((block level : ℕ) → Lays block block true true (name.lines block level Own))
    → (block level : ℕ) (w : Wanted) → May w of
    → Lays block (block + (update.blocks Dropped + tested_blocks w of)) true (opens w)
    (stepped_lines c of name update block level w)
after-laid c of name update h e block level Dropped m = lays-to block (block + update.blocks Dropped) block
    (block + (update.blocks Dropped + 0)) refl (omega arith) (h.lays block level Dropped tt)
after-laid c of name update h e block level Own m = after-lays c of name update h e block level Own m
after-laid c of name update h e block level (ToLocal local) m =
    after-lays c of name update h e block level (ToLocal local) m
after-laid c of name update h e block level (Tests holds fails) m =
    after-lays c of name update h e block level (Tests holds fails) m

-- the name, and its update, which has its type
stepped-laid : (c : Context) (operator : StepOp) (of : ValueType) (name update : Part) → IsLaid update
    → IsScalar update.of → ((block level : ℕ) → Lays block block true true (name.lines block level Own))
    → IsLaid (stepped_name c operator of name update)
stepped-laid c PreIncrement of name update h s e = record {
  lays = λ block level w m. h.lays block level w (may-scalar w update.of s);
  tests = h.tests;
  stood = tt;
}
stepped-laid c PreDecrement of name update h s e = record {
  lays = λ block level w m. h.lays block level w (may-scalar w update.of s);
  tests = h.tests;
  stood = tt;
}
stepped-laid c PostIncrement of name update h s e = record {
  lays = after-laid c of name update h e;
  tests = λ holds fails. refl;
  stood = tt;
}
stepped-laid c PostDecrement of name update h s e = record {
  lays = after-laid c of name update h e;
  tests = λ holds fails. refl;
  stood = tt;
}

old-lays : (c : Context) (block level : ℕ) (w : Wanted) (t : IntegerType) → Lays block block true (opens w)
    (delivered c block level w (Integer t) (record { array = old_value c level; number = old_value c level }))
old-lays c block level w t =
    let e = no-blocks w t in
    lays-to block (block + tested_blocks w (Integer t)) block block refl (omega (arith, e))
    (delivered-lays c block level w (Integer t) (record { array = old_value c level; number = old_value c level })
    (may-number w t))

get-lays : (c : Context) (t : IntegerType) (k block level : ℕ)
    → Lays block block true true ((object_part c t k).lines block level Own)
get-lays c t k block level = made-number-lays c block level Own t
    (λ to. Emit (op.Get (bits_of t) to.number k) ∷ []) (λ to. (refl, tt))

step-value-lays : (c : Context) (operator : StepOp) (block level : ℕ) (w : Wanted) (t : IntegerType)
    → Lays block block true (opens w) (step_value c operator block level w t)
step-value-lays c PreIncrement block level w t = converted-lays c block level w t (new_value c level)
step-value-lays c PreDecrement block level w t = converted-lays c block level w t (new_value c level)
step-value-lays c PostIncrement block level w t = old-lays c block level w t
step-value-lays c PostDecrement block level w t = old-lays c block level w t

pub stepped-element-laid : (c : Context) (operator : StepOp) (t : IntegerType) (to : Addressed) → IsLaidAddress to
    → IsLaid (stepped_element c operator t to)
stepped-element-laid c operator t to h = record {
  lays = λ block level w m.
      let last = block + to.blocks in
      lays-then block last last true true (opens w) _ _
      (h.lays true block level)
      (emit-lays last last (opens w) _ _ refl (emit-lays last last (opens w) _ _ refl
      (plain-then last last (opens w) _ _ (computing-plain c level (step_type operator (Integer t)) (step_op operator)
      (new_value c level) (old_value c level) (temporary c (suc level) ForNumber))
      (emit-lays last last (opens w) _ _ refl (step-value-lays c operator last level w t)))));
  tests = λ holds fails. refl;
  stood = tt;
}

assigned-object-scalar : (c : Context) (of : ValueType) (k : ℕ) (a : Part)
    → IsScalar (assign_part c of (AtObject k) a).of
assigned-object-scalar c Void k a = tt
assigned-object-scalar c (Integer t) k a = tt
assigned-object-scalar c (Pointer t) k a = tt

object-own-lays : (c : Context) (of : ValueType) (k block level : ℕ)
    → Lays block block true true ((read_part c of (AtObject k)).lines block level Own)
object-own-lays c Void k block level = get-lays c Int k block level
object-own-lays c (Integer t) k block level = get-lays c t k block level
object-own-lays c (Pointer t) k block level = get-lays c Int k block level

pub step-laid : (c : Context) (of : ValueType) (operator : StepOp) (l : Located) → IsLaidPlace l → IsScalar of
    → IsLaid (step_part c of operator l)
step-laid c of operator (AtLocal local) h s = stepped-laid c operator of (local_part c of local)
    (update_part c of (step_op operator) (AtLocal local) (one_part c))
    (update-laid c of (step_op operator) (AtLocal local) (one_part c) tt (constant-laid c Int (pos 1)) s tt)
    (rw (assigned-type c of local (binary_part c (result_type of) (step_op operator) (local_part c of local)
    (one_part c))) s)
    (own-lays c of local)
step-laid c of operator (AtObject k) h s = stepped-laid c operator of (read_part c of (AtObject k))
    (update_part c of (step_op operator) (AtObject k) (one_part c))
    (update-laid c of (step_op operator) (AtObject k) (one_part c) tt (constant-laid c Int (pos 1)) s tt)
    (assigned-object-scalar c of k (binary_part c int (step_op operator) (read_part c of (AtObject k)) (one_part c)))
    (object-own-lays c of k)
step-laid c of operator (AtAddress t to) h s = stepped-element-laid c operator t to h

-- ---- calls

passed-laid : (c : Context) (of : ValueType) (a : Part) → IsLaid a → IsLaid (passed c of a)
passed-laid c (Pointer t) a h = turned-laid c (Pointer t) a h
passed-laid c Void a h = h
passed-laid c (Integer t) a h = h

pub all-passed-laid : (c : Context) (parameters : List Local) (parts : List Part) → AllByRecursion IsLaid parts
    → AllByRecursion IsLaid (all_passed c parameters parts)
all-passed-laid c [] parts h = h
all-passed-laid c (l ∷ ls) [] h = tt
all-passed-laid c (l ∷ ls) (a ∷ parts) h = (passed-laid c l.of a h.0, all-passed-laid c ls parts h.1)

pub arguments-lay : (c : Context) (parts : List Part) → AllByRecursion IsLaid parts → (block level : ℕ)
    → Lays block (block + arguments_blocks c parts) true true (arguments_lines c parts block level)
arguments-lay c [] h block level = lays-to block block block (block + 0) refl (omega arith) (none-lays block true)
arguments-lay c (a ∷ parts) h block level =
    let x = operand c (all_simple parts) a in
    two-lays block x.blocks (arguments_blocks c parts) true true true _ _
    ((operand-laid c (all_simple parts) a h.0).lays block level)
    (arguments-lay c parts h.1 (block + x.blocks) (suc level))

result-lays : (c : Context) (block level : ℕ) (w : Wanted) (of : ValueType) (f : ℕ) (words : List ℕ) → IsResult of
    → May w of → Lays block block true (opens w) (result_lines c block level w of f words)
result-lays c block level Dropped of f words r m = plain-lays block (Emit (op.Call None f words) ∷ []) (refl, tt)
result-lays c block level Own Void f words r m = plain-lays block (Emit (op.Call None f words) ∷ []) (refl, tt)
result-lays c block level (ToLocal local) Void f words r m =
    plain-lays block (Emit (op.Call None f words) ∷ []) (refl, tt)
result-lays c block level (Tests holds fails) Void f words r m = absurd m
result-lays c block level Own (Integer t) f words r m = made-number-lays c block level Own t
    (λ to. Emit (op.Call (Some to.number) f words) ∷ []) (λ to. (refl, tt))
result-lays c block level (ToLocal local) (Integer t) f words r m = made-number-lays c block level (ToLocal local) t
    (λ to. Emit (op.Call (Some to.number) f words) ∷ []) (λ to. (refl, tt))
result-lays c block level (Tests holds fails) (Integer t) f words r m =
    made-number-lays c block level (Tests holds fails) t
    (λ to. Emit (op.Call (Some to.number) f words) ∷ []) (λ to. (refl, tt))
result-lays c block level Own (Pointer t) f words r m = absurd r
result-lays c block level (ToLocal local) (Pointer t) f words r m = absurd r
result-lays c block level (Tests holds fails) (Pointer t) f words r m = absurd r

pub call-laid : (c : Context) (of : ValueType) (f : ℕ) (parts : List Part) → AllByRecursion IsLaid parts
    → IsResult of → IsLaid (call_part c of f parts)
call-laid c of f parts h r = record {
  lays = λ block level w m.
      let last = block + arguments_blocks c parts in
      lays-then block last last true true (opens w) _ _ (arguments-lay c parts h block level)
      (result-lays c last level w of f (arguments_words c parts level) r m);
  tests = λ holds fails. refl;
  stood = tt;
}

pub getchar-laid : (c : Context) → IsLaid (getchar_part c)
getchar-laid c = record {
  lays = λ block level w m. lays-to block block block (block + 0) refl (omega arith)
      (made-number-lays c block level w Int (λ to. Emit (op.Getchar to.number) ∷ []) (λ to. (refl, tt)));
  tests = λ holds fails. refl;
  stood = tt;
}

-- behind an exit is a block that comes first
ended-lays : (block n : ℕ) (X : List Line) (x : ℕ) → Lays (suc block) (suc block + n) true true X
    → Lays block (block + suc n) true true (X ++ (Emit (op.Exit x) ∷ Start block ∷ []))
ended-lays block n X x h = lays-to block (suc block + n) block (block + suc n) refl (omega arith)
    (lays-swap block (suc block) (suc block + n) true true true X (Emit (op.Exit x) ∷ Start block ∷ []) h
    (end-lays block (suc block) true _ _ refl (start-lays block (suc block) true [] (none-lays (suc block) true))))

pub exit-laid : (c : Context) (a : Part) → IsLaid a → IsLaid (exit_part c a)
exit-laid c a h =
    let x = operand c true a in
    record {
      lays = λ block level w m. subst (λ (q : Bool). Lays block (block + suc x.blocks) true q
          (x.lines (suc block) level ++ (Emit (op.Exit (x.spot level).number) ∷ Start block ∷ []))) (opens-void w m)
          (ended-lays block x.blocks (x.lines (suc block) level) (x.spot level).number
          ((operand-laid c true a h).lays (suc block) level));
      tests = λ holds fails. refl;
      stood = tt;
    }

-- The lines that expressions are made of: which blocks they start, and what they leave open.
use Rattle.std.proofs.Common.{◌≡◌, ℕ, suc, ◌+◌, Bool, true, false, pos, List, [], ◌∷◌, ◌++◌, Option, Some, None}
use Rattle.std.proofs.Common.{refl, arith}
use Rattle.std.specs.Prelude.{if◌then◌else◌, ◌==◌}
use Rattle.std.proofs.lemmas.Bool.{cond_both}
use Rattle.c_tree.specs.declared.expression.BinaryOp.{BinaryOp}
use Rattle.c_tree.specs.declared.expression.BinaryOp.TheVariants.{Multiply, Divide, Remainder, Add, Subtract}
use Rattle.c_tree.specs.declared.expression.BinaryOp.TheVariants.{ShiftLeft}
use Rattle.c_tree.specs.declared.expression.BinaryOp.TheVariants.{ShiftRight, Less, Greater, LessOrEqual}
use Rattle.c_tree.specs.declared.expression.BinaryOp.TheVariants.{GreaterOrEqual, Equal, NotEqual, BitAnd, BitXor}
use Rattle.c_tree.specs.declared.expression.BinaryOp.TheVariants.{BitOr}
use Rattle.c_tree.specs.declared.types.IntegerType.{IntegerType}
use Rattle.c_tree.specs.declared.types.IntegerType.TheVariants.{Char, Short, Int, UnsignedInt}
use Rattle.c_tree.specs.declared.types.ValueType.{ValueType}
use Rattle.c_tree.specs.declared.types.ValueType.TheVariants.{Void, Integer, Pointer}
use Rattle.c_tree.specs.Operators.{is_signed, numbers_type}
use Rattle.c_tree.specs.WellTyped.{IsScalar}
use Rattle.flow_graph.specs.declared.op.Comparison.TheVariants.{Lt, Le, Gt, Ge}
use Rattle.flow_graph.specs.declared.op.Op.{Op}
use Rattle.flow_graph.specs.declared.op.Op.TheVariants as op
use Rattle.flow_graph.specs.declared.op.Order.TheVariants as order
use Rattle.flow_graph.specs.Graphs.{is_end}
use Rattle.lower_lines.specs.Lines.{Line, Start, Emit}
use Rattle.lower_lines.specs.Operators.{NumberTest, WithSigns, WithoutSigns, applied, applied_blocks, branching}
use Rattle.lower_lines.specs.Operators.{computing, equality_test, order_in, test_of, test_set}
use Rattle.lower_lines.specs.Operators.{moving, on_numbers, on_pointer, on_pointer_blocks, on_pointers}
use Rattle.lower_lines.specs.Operators.{on_pointers_blocks}
use Rattle.lower_lines.specs.Parts.{Wanted, Dropped, Own, ToLocal, Tests, chosen, chosen_blocks, converted_lines}
use Rattle.lower_lines.specs.Parts.{converting, delivered, made, null_lines, number_test, pointer_test, target}
use Rattle.lower_lines.specs.Parts.{tested}
use Rattle.lower_lines.specs.Parts.{tested_blocks, test_blocks, test_lines, truth}
use Rattle.lower_lines.specs.Variables.{Context, Spot, copied, moved, own, local_spot}
use Rattle.lower_lines.proofs.Filling.{Lays, IsPlain, end-lays, emit-lays, lays-to, none-lays, one, plain-append}
use Rattle.lower_lines.proofs.Filling.{plain-lays, plain-then, start-lays, starting-append}
use Rattle.lower_lines.proofs.Standing.{closes-append}

-- what may be wanted of a value of a type: control goes by scalars alone
abbrev pub May : Wanted → ValueType → Type 0
May (Tests holds fails) of = IsScalar of
May Dropped of = Unit {0}
May Own of = Unit {0}
May (ToLocal local) of = Unit {0}

-- whether a block is open behind lines of which something is wanted
abbrev pub opens : Wanted → Bool
opens (Tests holds fails) = false
opens Dropped = true
opens Own = true
opens (ToLocal local) = true

-- ---- ops alone

pub copied-plain : (to from : ℕ) → IsPlain (copied to from)
copied-plain to from = by_test (to == from)
  where
    by_test : (b : Bool) → IsPlain (if b then [] else Emit (op.Copy to from) ∷ [])
    by_test true = tt
    by_test false = (refl, tt)

pub moved-plain : (of : ValueType) (to from : Spot) → IsPlain (moved of to from)
moved-plain Void to from = tt
moved-plain (Integer t) to from = copied-plain to.number from.number
moved-plain (Pointer t) to from = plain-append (copied to.array from.array) (copied to.number from.number)
    (copied-plain to.array from.array) (copied-plain to.number from.number)

pub converting-plain : (c : Context) (level : ℕ) (t : IntegerType) (to from : ℕ)
    → IsPlain (converting c level t to from)
converting-plain c level Char to from = (refl, (refl, tt))
converting-plain c level Short to from = (refl, tt)
converting-plain c level Int to from = copied-plain to from
converting-plain c level UnsignedInt to from = copied-plain to from

set-plain : (test : NumberTest) (to x y : ℕ) → is_end (test_set test to x y) ≡ false
set-plain (WithSigns how) to x y = refl
set-plain (WithoutSigns how) to x y = refl

pub computing-plain : (c : Context) (level : ℕ) (within : IntegerType) (operator : BinaryOp) (to x y : ℕ)
    → IsPlain (computing c level within operator to x y)
computing-plain c level within Multiply to x y = (refl, tt)
computing-plain c level within Divide to x y =
    (refl, (cond_both (is_signed within) _ _ (λ (o : Op). is_end o ≡ false) (λ _. refl) (λ _. refl), tt))
computing-plain c level within Remainder to x y =
    (refl, (cond_both (is_signed within) _ _ (λ (o : Op). is_end o ≡ false) (λ _. refl) (λ _. refl), tt))
computing-plain c level within Add to x y = (refl, tt)
computing-plain c level within Subtract to x y = (refl, tt)
computing-plain c level within ShiftLeft to x y = (refl, (refl, tt))
computing-plain c level within ShiftRight to x y =
    (refl, (cond_both (is_signed within) _ _ (λ (o : Op). is_end o ≡ false) (λ _. refl) (λ _. refl), tt))
computing-plain c level within Less to x y = (set-plain (order_in within Lt order.Lt) to x y, tt)
computing-plain c level within Greater to x y = (set-plain (order_in within Gt order.Gt) to x y, tt)
computing-plain c level within LessOrEqual to x y = (set-plain (order_in within Le order.Le) to x y, tt)
computing-plain c level within GreaterOrEqual to x y = (set-plain (order_in within Ge order.Ge) to x y, tt)
computing-plain c level within Equal to x y = (refl, tt)
computing-plain c level within NotEqual to x y = (refl, tt)
computing-plain c level within BitAnd to x y = (refl, tt)
computing-plain c level within BitXor to x y = (refl, tt)
computing-plain c level within BitOr to x y = (refl, tt)

-- ---- tests

pub number-test-lays : (c : Context) (lo level x holds fails : ℕ) → Lays lo lo true false
    (number_test c level x holds fails)
number-test-lays c lo level x holds fails = emit-lays lo lo false _ _ refl
    (end-lays lo lo false _ _ refl (none-lays lo false))

pub pointer-test-lays : (c : Context) (block level : ℕ) (x : Spot) (holds fails : ℕ) → Lays block (suc block) true false
    (pointer_test c block level x holds fails)
pointer-test-lays c block level x holds fails = emit-lays block (suc block) false _ _ refl
    (end-lays block (suc block) false _ _ refl (start-lays block (suc block) false _
    (end-lays (suc block) (suc block) false _ _ refl (none-lays (suc block) false))))

pub equality-test-lays : (block : ℕ) (x y : Spot) (holds fails : ℕ) → Lays block (suc block) true false
    (equality_test block x y holds fails)
equality-test-lays block x y holds fails =
    end-lays block (suc block) false _ _ refl (start-lays block (suc block) false _
    (end-lays (suc block) (suc block) false _ _ refl (none-lays (suc block) false)))

pub test-lays : (c : Context) (block level : ℕ) (of : ValueType) (x : Spot) (holds fails : ℕ) → IsScalar of
    → Lays block (block + test_blocks of) true false (test_lines c block level of x holds fails)
test-lays c block level Void x holds fails s = absurd s
test-lays c block level (Integer t) x holds fails s = lays-to block block block (block + 0) refl (omega arith)
    (number-test-lays c block level x.number holds fails)
test-lays c block level (Pointer t) x holds fails s = lays-to block (suc block) block (block + 1) refl (omega arith)
    (pointer-test-lays c block level x holds fails)

pub tested-lays : (c : Context) (block level : ℕ) (w : Wanted) (of : ValueType) → May w of
    → Lays block (block + tested_blocks w of) true (opens w) (tested c block level w of)
tested-lays c block level Dropped of m = lays-to block block block (block + 0) refl (omega arith) (none-lays block true)
tested-lays c block level Own of m = lays-to block block block (block + 0) refl (omega arith) (none-lays block true)
tested-lays c block level (ToLocal local) of m = lays-to block block block (block + 0) refl (omega arith)
    (none-lays block true)
tested-lays c block level (Tests holds fails) of m = test-lays c block level of (own c level) holds fails m

-- ---- values

pub made-lays : (c : Context) (block level : ℕ) (w : Wanted) (of : ValueType) (ops : Spot → List Line)
    → ((to : Spot) → IsPlain (ops to)) → May w of
    → Lays block (block + tested_blocks w of) true (opens w) (made c block level w of ops)
made-lays c block level w of ops h m = plain-then block (block + tested_blocks w of) (opens w)
    (ops (target c level w)) (tested c block level w of) (h (target c level w)) (tested-lays c block level w of m)

pub delivered-lays : (c : Context) (block level : ℕ) (w : Wanted) (of : ValueType) (spot : Spot) → May w of
    → Lays block (block + tested_blocks w of) true (opens w) (delivered c block level w of spot)
delivered-lays c block level Dropped of spot m = lays-to block block block (block + 0) refl (omega arith)
    (none-lays block true)
delivered-lays c block level Own of spot m = lays-to block block block (block + 0) refl (omega arith)
    (plain-lays block _ (moved-plain of (own c level) spot))
delivered-lays c block level (ToLocal local) of spot m = lays-to block block block (block + 0) refl (omega arith)
    (plain-lays block _ (moved-plain of (local_spot c local) spot))
delivered-lays c block level (Tests holds fails) of spot m = test-lays c block level of spot holds fails m

-- a number's test takes no block
pub no-blocks : (w : Wanted) (t : IntegerType) → tested_blocks w (Integer t) ≡ 0
no-blocks Dropped t = refl
no-blocks Own t = refl
no-blocks (ToLocal local) t = refl
no-blocks (Tests holds fails) t = refl

pub may-number : (w : Wanted) (t : IntegerType) → May w (Integer t)
may-number Dropped t = tt
may-number Own t = tt
may-number (ToLocal local) t = tt
may-number (Tests holds fails) t = tt

pub may-pointer : (w : Wanted) (t : IntegerType) → May w (Pointer t)
may-pointer Dropped t = tt
may-pointer Own t = tt
may-pointer (ToLocal local) t = tt
may-pointer (Tests holds fails) t = tt

pub made-number-lays : (c : Context) (block level : ℕ) (w : Wanted) (t : IntegerType) (ops : Spot → List Line)
    → ((to : Spot) → IsPlain (ops to)) → Lays block block true (opens w) (made c block level w (Integer t) ops)
made-number-lays c block level w t ops h =
    let e = no-blocks w t in
    lays-to block (block + tested_blocks w (Integer t)) block block refl (omega (arith, e))
    (made-lays c block level w (Integer t) ops h (may-number w t))

pub converted-lays : (c : Context) (block level : ℕ) (w : Wanted) (t : IntegerType) (x : ℕ)
    → Lays block block true (opens w) (converted_lines c block level w t x)
converted-lays c block level Dropped t x = none-lays block true
converted-lays c block level Own t x = plain-lays block _ (converting-plain c level t (own c level).number x)
converted-lays c block level (ToLocal local) t x =
    plain-lays block _ (converting-plain c level t (local_spot c local).number x)
converted-lays c block level (Tests holds fails) t x = plain-then block block false _ _
    (converting-plain c level t (own c level).number x)
    (number-test-lays c block level (own c level).number holds fails)

pub null-lays : (c : Context) (block level : ℕ) (w : Wanted) → Lays block block true (opens w) (null_lines c level w)
null-lays c block level Dropped = none-lays block true
null-lays c block level Own = plain-lays block _ (refl, (refl, tt))
null-lays c block level (ToLocal local) = plain-lays block _ (refl, (refl, tt))
null-lays c block level (Tests holds fails) = end-lays block block false _ _ refl (none-lays block false)

-- ---- truth values

-- lines that test, with blocks from one on
abbrev pub TestLays : ℕ → (ℕ → ℕ → ℕ → List Line) → Type 0
TestLays n test = (block holds fails : ℕ) → Lays block (block + n) true false (test block holds fails)

pub truth-lays : (c : Context) (block level n : ℕ) (w : Wanted) (test : ℕ → ℕ → ℕ → List Line) → TestLays n test
    → Lays block (block + (3 + n)) true true (truth c block level w test)
truth-lays c block level n w test h =
    let T = test (block + 3) block (suc block) in
    let t = h (block + 3) block (suc block) in
    record {
      fills = λ b.
          let e = starting-append b T (Start block ∷ Emit (op.Const (target c level w).number (pos 1))
          ∷ Emit (op.Jump (block + 2)) ∷ Start (suc block) ∷ Emit (op.Const (target c level w).number (pos 0))
          ∷ Emit (op.Jump (block + 2)) ∷ Start (block + 2) ∷ []) in
          let f = t.fills b in
          let a = one b block (suc block) refl in
          let a' = one b (suc block) (block + 2) (omega arith) in
          let a'' = one b (block + 2) (block + 3) (omega arith) in
          let g : block + 3 + n ≡ block + (3 + n) = omega arith in
          rw (← g) (omega (arith, e, f, a, a', a''));
      closes = closes-append true false true T _ t.closes (refl, (refl, (refl, (refl, (refl, (refl, (refl, refl)))))));
    }

pub chosen-lays : (c : Context) (block level n : ℕ) (w : Wanted) (test : ℕ → ℕ → ℕ → List Line) → TestLays n test
    → Lays block (block + chosen_blocks w n) true (opens w) (chosen c block level w test)
chosen-lays c block level n Dropped test h = lays-to block block block (block + 0) refl (omega arith)
    (none-lays block true)
chosen-lays c block level n Own test h = truth-lays c block level n Own test h
chosen-lays c block level n (ToLocal local) test h = truth-lays c block level n (ToLocal local) test h
chosen-lays c block level n (Tests holds fails) test h = h block holds fails

-- ---- operators

branching-lays : (block : ℕ) (test : Option NumberTest) (w : Wanted) (otherwise : List Line) (x y : ℕ)
    → Lays block block true (opens w) otherwise → Lays block block true (opens w) (branching test w otherwise x y)
branching-lays block (Some (WithSigns how)) (Tests holds fails) otherwise x y h =
    end-lays block block false _ _ refl (none-lays block false)
branching-lays block (Some (WithoutSigns how)) (Tests holds fails) otherwise x y h =
    end-lays block block false _ _ refl (none-lays block false)
branching-lays block (Some test) Dropped otherwise x y h = h
branching-lays block (Some test) Own otherwise x y h = h
branching-lays block (Some test) (ToLocal local) otherwise x y h = h
branching-lays block None w otherwise x y h = h

pub on-numbers-lays : (c : Context) (block level : ℕ) (w : Wanted) (within : IntegerType) (operator : BinaryOp)
    (x y : ℕ) → Lays block block true (opens w) (on_numbers c block level w within operator x y)
on-numbers-lays c block level w within operator x y = branching-lays block (test_of within operator) w _ x y
    (made-number-lays c block level w Int _ (λ to. computing-plain c level within operator to.number x y))

moving-add : (to x : Spot) (n : ℕ) → IsPlain (copied to.array x.array ++ Emit (op.Add to.number x.number n) ∷ [])
moving-add to x n = plain-append _ _ (copied-plain to.array x.array) (refl, tt)

moving-plain : (operator : BinaryOp) (to x : Spot) (n : ℕ) → IsPlain (moving operator to x n)
moving-plain Subtract to x n = plain-append _ _ (copied-plain to.array x.array) (refl, tt)
moving-plain Multiply to x n = moving-add to x n
moving-plain Divide to x n = moving-add to x n
moving-plain Remainder to x n = moving-add to x n
moving-plain Add to x n = moving-add to x n
moving-plain ShiftLeft to x n = moving-add to x n
moving-plain ShiftRight to x n = moving-add to x n
moving-plain Less to x n = moving-add to x n
moving-plain Greater to x n = moving-add to x n
moving-plain LessOrEqual to x n = moving-add to x n
moving-plain GreaterOrEqual to x n = moving-add to x n
moving-plain Equal to x n = moving-add to x n
moving-plain NotEqual to x n = moving-add to x n
moving-plain BitAnd to x n = moving-add to x n
moving-plain BitXor to x n = moving-add to x n
moving-plain BitOr to x n = moving-add to x n

one-more : (block : ℕ) {o q : Bool} {lines : List Line} → Lays block (suc block) o q lines
    → Lays block (block + 1) o q lines
one-more block h = lays-to block (suc block) block (block + 1) refl (omega arith) h

moves-lays : (c : Context) (block level : ℕ) (w : Wanted) (operator : BinaryOp) (x : Spot) (n : ℕ)
    → Lays block (block + tested_blocks w (Pointer Int)) true (opens w)
    (made c block level w (Pointer Int) (λ to. moving operator to x n))
moves-lays c block level w operator x n = made-lays c block level w (Pointer Int) _
    (λ to. moving-plain operator to x n) (may-pointer w Int)

pub on-pointer-lays : (c : Context) (block level : ℕ) (w : Wanted) (operator : BinaryOp) (x : Spot) (n : ℕ)
    → Lays block (block + on_pointer_blocks w operator) true (opens w) (on_pointer c block level w operator x n)
on-pointer-lays c block level w Equal x n = chosen-lays c block level 1 w _
    (λ b holds fails. one-more b (pointer-test-lays c b level x fails holds))
on-pointer-lays c block level w NotEqual x n = chosen-lays c block level 1 w _
    (λ b holds fails. one-more b (pointer-test-lays c b level x holds fails))
on-pointer-lays c block level w Multiply x n = moves-lays c block level w Multiply x n
on-pointer-lays c block level w Divide x n = moves-lays c block level w Divide x n
on-pointer-lays c block level w Remainder x n = moves-lays c block level w Remainder x n
on-pointer-lays c block level w Add x n = moves-lays c block level w Add x n
on-pointer-lays c block level w Subtract x n = moves-lays c block level w Subtract x n
on-pointer-lays c block level w ShiftLeft x n = moves-lays c block level w ShiftLeft x n
on-pointer-lays c block level w ShiftRight x n = moves-lays c block level w ShiftRight x n
on-pointer-lays c block level w Less x n = moves-lays c block level w Less x n
on-pointer-lays c block level w Greater x n = moves-lays c block level w Greater x n
on-pointer-lays c block level w LessOrEqual x n = moves-lays c block level w LessOrEqual x n
on-pointer-lays c block level w GreaterOrEqual x n = moves-lays c block level w GreaterOrEqual x n
on-pointer-lays c block level w BitAnd x n = moves-lays c block level w BitAnd x n
on-pointer-lays c block level w BitXor x n = moves-lays c block level w BitXor x n
on-pointer-lays c block level w BitOr x n = moves-lays c block level w BitOr x n

both-lays : (c : Context) (block level : ℕ) (w : Wanted) (operator : BinaryOp) (x y : Spot)
    → Lays block (block + 0) true (opens w) (Emit (op.Same x.array y.array)
    ∷ on_numbers c block level w Int operator x.number y.number)
both-lays c block level w operator x y = lays-to block block block (block + 0) refl (omega arith)
    (emit-lays block block (opens w) _ _ refl (on-numbers-lays c block level w Int operator x.number y.number))

pub on-pointers-lays : (c : Context) (block level : ℕ) (w : Wanted) (operator : BinaryOp) (x y : Spot)
    → Lays block (block + on_pointers_blocks w operator) true (opens w) (on_pointers c block level w operator x y)
on-pointers-lays c block level w Equal x y = chosen-lays c block level 1 w _
    (λ b holds fails. one-more b (equality-test-lays b x y holds fails))
on-pointers-lays c block level w NotEqual x y = chosen-lays c block level 1 w _
    (λ b holds fails. one-more b (equality-test-lays b x y fails holds))
on-pointers-lays c block level w Multiply x y = both-lays c block level w Multiply x y
on-pointers-lays c block level w Divide x y = both-lays c block level w Divide x y
on-pointers-lays c block level w Remainder x y = both-lays c block level w Remainder x y
on-pointers-lays c block level w Add x y = both-lays c block level w Add x y
on-pointers-lays c block level w Subtract x y = both-lays c block level w Subtract x y
on-pointers-lays c block level w ShiftLeft x y = both-lays c block level w ShiftLeft x y
on-pointers-lays c block level w ShiftRight x y = both-lays c block level w ShiftRight x y
on-pointers-lays c block level w Less x y = both-lays c block level w Less x y
on-pointers-lays c block level w Greater x y = both-lays c block level w Greater x y
on-pointers-lays c block level w LessOrEqual x y = both-lays c block level w LessOrEqual x y
on-pointers-lays c block level w GreaterOrEqual x y = both-lays c block level w GreaterOrEqual x y
on-pointers-lays c block level w BitAnd x y = both-lays c block level w BitAnd x y
on-pointers-lays c block level w BitXor x y = both-lays c block level w BitXor x y
on-pointers-lays c block level w BitOr x y = both-lays c block level w BitOr x y

pub applied-lays : (c : Context) (block level : ℕ) (w : Wanted) (operator : BinaryOp) (s t : ValueType) (x y : Spot)
    → IsScalar s → IsScalar t
    → Lays block (block + applied_blocks w operator s t) true (opens w) (applied c block level w operator s t x y)
applied-lays c block level w operator Void t x y h k = absurd h
applied-lays c block level w operator (Integer s) Void x y h k = absurd k
applied-lays c block level w operator (Pointer s) Void x y h k = absurd k
applied-lays c block level w operator (Integer s) (Integer t) x y h k =
    lays-to block block block (block + 0) refl (omega arith)
    (on-numbers-lays c block level w (numbers_type operator s t) operator x.number y.number)
applied-lays c block level w operator (Pointer s) (Integer t) x y h k =
    on-pointer-lays c block level w operator x y.number
applied-lays c block level w operator (Integer s) (Pointer t) x y h k =
    on-pointer-lays c block level w operator y x.number
applied-lays c block level w operator (Pointer s) (Pointer t) x y h k = on-pointers-lays c block level w operator x y

-- What lines weigh: how many points they have, how many argument words, at most and in all, and which marks.
use Rattle.std.proofs.Common.{◌≡◌, ◌≤◌, ℕ, suc, ◌+◌, max, Bool, true, false, pos, List, [], ◌∷◌, ◌++◌, Option}
use Rattle.std.proofs.Common.{Some, None, refl, sym, ap, ◌∙◌, arith, length}
use Rattle.std.proofs.lemmas.Bool.{cond_both}
use Rattle.std.proofs.lemmas.List.Sums.{sum_by-cons}
use Rattle.std.specs.Prelude.{sum_by, if◌then◌else◌, ◌==◌}
use Rattle.c_tree.specs.declared.expression.BinaryOp.{BinaryOp}
use Rattle.c_tree.specs.declared.expression.BinaryOp.TheVariants.{Multiply, Divide, Remainder, Add, Subtract}
use Rattle.c_tree.specs.declared.expression.BinaryOp.TheVariants.{ShiftLeft}
use Rattle.c_tree.specs.declared.expression.BinaryOp.TheVariants.{ShiftRight, Less, Greater, LessOrEqual}
use Rattle.c_tree.specs.declared.expression.BinaryOp.TheVariants.{GreaterOrEqual, Equal, NotEqual, BitAnd, BitXor}
use Rattle.c_tree.specs.declared.expression.BinaryOp.TheVariants.{BitOr}
use Rattle.c_tree.specs.declared.types.IntegerType.{IntegerType}
use Rattle.c_tree.specs.declared.types.IntegerType.TheVariants.{Char, Short, Int, UnsignedInt}
use Rattle.c_tree.specs.declared.types.ValueType.{ValueType}
use Rattle.c_tree.specs.declared.types.ValueType.TheVariants.{Void, Integer, Pointer}
use Rattle.c_tree.specs.Operators.{is_signed, numbers_type}
use Rattle.c_tree.specs.Program.{int}
use Rattle.flow_graph.specs.declared.op.Comparison.TheVariants.{Lt, Le, Gt, Ge}
use Rattle.flow_graph.specs.declared.op.Op.{Op}
use Rattle.flow_graph.specs.declared.op.Op.TheVariants as op
use Rattle.flow_graph.specs.declared.op.Order.TheVariants as order
use Rattle.flow_graph.specs.Kinds.{marked}
use Rattle.flow_graph.specs.Sizes.{most_words, words_of}
use Rattle.lower_lines.specs.Lines.{Line, Start, Emit, ops_in}
use Rattle.lower_lines.specs.Lowering.{mark_of, marks_in}
use Rattle.lower_lines.specs.Operators.{NumberTest, WithSigns, WithoutSigns, applied, branching, computing}
use Rattle.lower_lines.specs.Operators.{equality_test, order_in, test_of, test_set}
use Rattle.lower_lines.specs.Operators.{moving, on_numbers, on_pointer, on_pointers}
use Rattle.lower_lines.specs.Parts.{Wanted, Dropped, Own, ToLocal, Tests, chosen, converted_lines}
use Rattle.lower_lines.specs.Parts.{converting, delivered, made, null_lines, number_test, pointer_test, target}
use Rattle.lower_lines.specs.Parts.{tested}
use Rattle.lower_lines.specs.Parts.{test_lines, truth}
use Rattle.lower_lines.specs.Variables.{Context, Spot, copied, moved, own, local_spot}

-- ---- lines one after another

-- the argument words of ops, in all
abbrev pub all_words : List Op → ℕ
all_words [] = 0
all_words (i ∷ is) = words_of i + all_words is

pub all-words : (is : List Op) → sum_by words_of is ≡ all_words is
all-words [] = refl
all-words (i ∷ is) = sum_by-cons words_of i is ∙ ap (λ (n : ℕ). words_of i + n) (all-words is)

pub points-append : (xs ys : List Line) → length (ops_in (xs ++ ys)) ≡ length (ops_in xs) + length (ops_in ys)
points-append [] ys = omega arith
points-append (Start b ∷ xs) ys = points-append xs ys
points-append (Emit i ∷ xs) ys = let e = points-append xs ys in omega (arith, e)

pub most-append : (xs ys : List Line)
    → most_words (ops_in (xs ++ ys)) ≡ max (most_words (ops_in xs)) (most_words (ops_in ys))
most-append [] ys = omega arith
most-append (Start b ∷ xs) ys = most-append xs ys
most-append (Emit i ∷ xs) ys = let e = most-append xs ys in omega (arith, e)

pub words-append : (xs ys : List Line)
    → all_words (ops_in (xs ++ ys)) ≡ all_words (ops_in xs) + all_words (ops_in ys)
words-append [] ys = omega arith
words-append (Start b ∷ xs) ys = words-append xs ys
words-append (Emit i ∷ xs) ys = let e = words-append xs ys in omega (arith, e)

more-marks : (o ms ns : List ℕ) → (o ++ ms) ++ ns ≡ o ++ (ms ++ ns)
more-marks [] ms ns = refl
more-marks (n ∷ o) ms ns = ap (λ (l : List ℕ). n ∷ l) (more-marks o ms ns)

pub marks-append : (xs ys : List Line) → marks_in (ops_in (xs ++ ys)) ≡ marks_in (ops_in xs) ++ marks_in (ops_in ys)
marks-append [] ys = refl
marks-append (Start b ∷ xs) ys = marks-append xs ys
marks-append (Emit i ∷ xs) ys = ap (λ (l : List ℕ). mark_of i ++ l) (marks-append xs ys)
    ∙ sym (more-marks (mark_of i) (marks_in (ops_in xs)) (marks_in (ops_in ys)))

-- No op of the lines has more than W words; they have at most so many points and words, and these marks.
pub record Weighs (W n k : ℕ) (marks : List ℕ) (lines : List Line) : Type 0 where
  pub most : most_words (ops_in lines) ≤ W
  pub points : length (ops_in lines) ≤ n
  pub words : all_words (ops_in lines) ≤ k
  pub has : marks_in (ops_in lines) ≡ marks

pub weighs-none : (W : ℕ) → Weighs W 0 0 [] []
weighs-none W = record { most = omega arith; points = omega arith; words = omega arith; has = refl }

pub weighs-then : (W m k n l : ℕ) (a b : List ℕ) (xs ys : List Line) → Weighs W m k a xs → Weighs W n l b ys
    → Weighs W (m + n) (k + l) (a ++ b) (xs ++ ys)
weighs-then W m k n l a b xs ys h h' = record {
  most = let e = most-append xs ys in let x = h.most in let y = h'.most in omega (arith, e, x, y);
  points = let e = points-append xs ys in let x = h.points in let y = h'.points in omega (arith, e, x, y);
  words = let e = words-append xs ys in let x = h.words in let y = h'.words in omega (arith, e, x, y);
  has = marks-append xs ys ∙ ap (λ (l : List ℕ). l ++ marks_in (ops_in ys)) h.has
      ∙ ap (λ (l : List ℕ). a ++ l) h'.has;
}

pub weighs-to : {W : ℕ} {marks : List ℕ} {lines : List Line} (m k n l : ℕ) → m ≤ n → k ≤ l → Weighs W m k marks lines
    → Weighs W n l marks lines
weighs-to m k n l le le' h = record {
  most = h.most;
  points = let x = h.points in omega (arith, x, le);
  words = let x = h.words in omega (arith, x, le');
  has = h.has;
}

pub weighs-start : {W n k : ℕ} {marks : List ℕ} {lines : List Line} (b : ℕ) → Weighs W n k marks lines
    → Weighs W n k marks (Start b ∷ lines)
weighs-start b h = record { most = h.most; points = h.points; words = h.words; has = h.has }

pub weighs-op : (W n k : ℕ) (marks : List ℕ) (i : Op) (lines : List Line) → words_of i ≡ 0 → marked i ≡ None
    → Weighs W n k marks lines → Weighs W (suc n) k marks (Emit i ∷ lines)
weighs-op W n k marks i lines w m h = record {
  most = let x = h.most in omega (arith, w, x);
  points = let x = h.points in omega (arith, x);
  words = let x = h.words in omega (arith, w, x);
  has = rw m h.has;
}

pub weighs-call : (W l : ℕ) (d : Option ℕ) (f : ℕ) (words : List ℕ) → length words ≤ W → length words ≤ l
    → Weighs W 1 l [] (Emit (op.Call d f words) ∷ [])
weighs-call W l d f words le le' = record {
  most = omega (arith, le);
  points = omega arith;
  words = omega (arith, le');
  has = refl;
}

pub weighs-mark : (W n k m : ℕ) (marks : List ℕ) (lines : List Line)
    → Weighs W n k marks lines → Weighs W (suc n) k (m ∷ marks) (Emit (op.Mark m) ∷ lines)
weighs-mark W n k m marks lines h = record {
  most = let x = h.most in omega (arith, x);
  points = let x = h.points in omega (arith, x);
  words = let x = h.words in omega (arith, x);
  has = ap (λ (l : List ℕ). m ∷ l) h.has;
}

-- ---- ops without words and marks

abbrev IsQuietOp : Op → Type 0
IsQuietOp i = (words_of i ≡ 0) × (marked i ≡ None)

abbrev pub IsQuiet : List Line → Type 0
IsQuiet [] = Unit {0}
IsQuiet (Start b ∷ lines) = IsQuiet lines
IsQuiet (Emit i ∷ lines) = (words_of i ≡ 0) × (marked i ≡ None) × IsQuiet lines

pub quiet-weighs : (W : ℕ) (lines : List Line) → IsQuiet lines → Weighs W (length (ops_in lines)) 0 [] lines
quiet-weighs W [] h = weighs-none W
quiet-weighs W (Start b ∷ lines) h = weighs-start b (quiet-weighs W lines h)
quiet-weighs W (Emit i ∷ lines) h =
    weighs-op W (length (ops_in lines)) 0 [] i lines h.0 h.1 (quiet-weighs W lines h.2)

-- lines of an expression
abbrev pub Quiet : ℕ → ℕ → ℕ → List Line → Type 0
Quiet W n k lines = Weighs W n k [] lines

pub quiet-then : (W m k n l : ℕ) (xs ys : List Line) → Quiet W m k xs → Quiet W n l ys
    → Quiet W (m + n) (k + l) (xs ++ ys)
quiet-then W m k n l xs ys h h' = weighs-then W m k n l [] [] xs ys h h'

-- at most so many quiet ops
pub quiet-ops : (W n : ℕ) (lines : List Line) → IsQuiet lines → length (ops_in lines) ≤ n → Quiet W n 0 lines
quiet-ops W n lines h le = weighs-to (length (ops_in lines)) 0 n 0 le (omega arith) (quiet-weighs W lines h)

module _ (W : ℕ) where
  pub copied-weighs : (to from : ℕ) → Quiet W 1 0 (copied to from)
  copied-weighs to from = by_test (to == from)
    where
      by_test : (b : Bool) → Quiet W 1 0 (if b then [] else Emit (op.Copy to from) ∷ [])
      by_test true = quiet-ops W 1 [] tt (omega arith)
      by_test false = quiet-ops W 1 (Emit (op.Copy to from) ∷ []) (refl, refl, tt) (omega arith)

  pub moved-weighs : (of : ValueType) (to from : Spot) → Quiet W 2 0 (moved of to from)
  moved-weighs Void to from = quiet-ops W 2 [] tt (omega arith)
  moved-weighs (Integer t) to from = weighs-to 1 0 2 0 (omega arith) (omega arith)
      (copied-weighs to.number from.number)
  moved-weighs (Pointer t) to from = quiet-then W 1 0 1 0 (copied to.array from.array) (copied to.number from.number)
      (copied-weighs to.array from.array) (copied-weighs to.number from.number)

  pub converting-weighs : (c : Context) (level : ℕ) (t : IntegerType) (to from : ℕ)
      → Quiet W 2 0 (converting c level t to from)
  converting-weighs c level Char to from = quiet-ops W 2 (converting c level Char to from)
      (refl, refl, (refl, refl, tt)) (omega arith)
  converting-weighs c level Short to from = quiet-ops W 2 (converting c level Short to from) (refl, refl, tt)
      (omega arith)
  converting-weighs c level Int to from = weighs-to 1 0 2 0 (omega arith) (omega arith) (copied-weighs to from)
  converting-weighs c level UnsignedInt to from = weighs-to 1 0 2 0 (omega arith) (omega arith) (copied-weighs to from)

  -- two ops, of which the first is quiet
  two-ops : (i j : Op) → IsQuietOp i → IsQuietOp j → Quiet W 2 0 (Emit i ∷ Emit j ∷ [])
  two-ops i j h k = quiet-ops W 2 (Emit i ∷ Emit j ∷ []) (h.0, h.1, (k.0, k.1, tt)) (omega arith)

  set-weighs : (test : NumberTest) (to x y : ℕ) → Quiet W 2 0 (Emit (test_set test to x y) ∷ [])
  set-weighs (WithSigns how) to x y = quiet-ops W 2 (Emit (op.Set how to x y) ∷ []) (refl, refl, tt) (omega arith)
  set-weighs (WithoutSigns how) to x y = quiet-ops W 2 (Emit (op.Setu how to x y) ∷ []) (refl, refl, tt) (omega arith)

  pub computing-weighs : (c : Context) (level : ℕ) (within : IntegerType) (operator : BinaryOp) (to x y : ℕ)
      → Quiet W 2 0 (computing c level within operator to x y)
  computing-weighs c level within Divide to x y = two-ops _ _ (refl, refl)
      (cond_both (is_signed within) _ _ IsQuietOp (λ _. (refl, refl)) (λ _. (refl, refl)))
  computing-weighs c level within Remainder to x y = two-ops _ _ (refl, refl)
      (cond_both (is_signed within) _ _ IsQuietOp (λ _. (refl, refl)) (λ _. (refl, refl)))
  computing-weighs c level within ShiftLeft to x y = quiet-ops W 2 (computing c level within ShiftLeft to x y)
      (refl, refl, (refl, refl, tt)) (omega arith)
  computing-weighs c level within ShiftRight to x y = two-ops _ _ (refl, refl)
      (cond_both (is_signed within) _ _ IsQuietOp (λ _. (refl, refl)) (λ _. (refl, refl)))
  computing-weighs c level within Multiply to x y = quiet-ops W 2 (computing c level within Multiply to x y)
      (refl, refl, tt) (omega arith)
  computing-weighs c level within Add to x y = quiet-ops W 2 (computing c level within Add to x y)
      (refl, refl, tt) (omega arith)
  computing-weighs c level within Subtract to x y = quiet-ops W 2 (computing c level within Subtract to x y)
      (refl, refl, tt) (omega arith)
  computing-weighs c level within Less to x y = set-weighs (order_in within Lt order.Lt) to x y
  computing-weighs c level within Greater to x y = set-weighs (order_in within Gt order.Gt) to x y
  computing-weighs c level within LessOrEqual to x y = set-weighs (order_in within Le order.Le) to x y
  computing-weighs c level within GreaterOrEqual to x y = set-weighs (order_in within Ge order.Ge) to x y
  computing-weighs c level within Equal to x y = quiet-ops W 2 (computing c level within Equal to x y)
      (refl, refl, tt) (omega arith)
  computing-weighs c level within NotEqual to x y = quiet-ops W 2 (computing c level within NotEqual to x y)
      (refl, refl, tt) (omega arith)
  computing-weighs c level within BitAnd to x y = quiet-ops W 2 (computing c level within BitAnd to x y)
      (refl, refl, tt) (omega arith)
  computing-weighs c level within BitXor to x y = quiet-ops W 2 (computing c level within BitXor to x y)
      (refl, refl, tt) (omega arith)
  computing-weighs c level within BitOr to x y = quiet-ops W 2 (computing c level within BitOr to x y)
      (refl, refl, tt) (omega arith)

  -- ---- tests and values

  pub test-weighs : (c : Context) (block level : ℕ) (of : ValueType) (x : Spot) (holds fails : ℕ)
      → Quiet W 3 0 (test_lines c block level of x holds fails)
  test-weighs c block level Void x holds fails = quiet-ops W 3 [] tt (omega arith)
  test-weighs c block level (Integer t) x holds fails = quiet-ops W 3 (number_test c level x.number holds fails)
      (refl, refl, (refl, refl, tt)) (omega arith)
  test-weighs c block level (Pointer t) x holds fails = quiet-ops W 3 (pointer_test c block level x holds fails)
      (refl, refl, (refl, refl, (refl, refl, tt))) (omega arith)

  pub tested-weighs : (c : Context) (block level : ℕ) (w : Wanted) (of : ValueType)
      → Quiet W 3 0 (tested c block level w of)
  tested-weighs c block level Dropped of = quiet-ops W 3 [] tt (omega arith)
  tested-weighs c block level Own of = quiet-ops W 3 [] tt (omega arith)
  tested-weighs c block level (ToLocal local) of = quiet-ops W 3 [] tt (omega arith)
  tested-weighs c block level (Tests holds fails) of = test-weighs c block level of (own c level) holds fails

  pub made-weighs : (c : Context) (block level : ℕ) (w : Wanted) (of : ValueType) (ops : Spot → List Line) (n k : ℕ)
      → ((to : Spot) → Quiet W n k (ops to)) → Quiet W (n + 3) (k + 0) (made c block level w of ops)
  made-weighs c block level w of ops n k h = quiet-then W n k 3 0 (ops (target c level w)) (tested c block level w of)
      (h (target c level w)) (tested-weighs c block level w of)

  pub delivered-weighs : (c : Context) (block level : ℕ) (w : Wanted) (of : ValueType) (spot : Spot)
      → Quiet W 3 0 (delivered c block level w of spot)
  delivered-weighs c block level Dropped of spot = quiet-ops W 3 [] tt (omega arith)
  delivered-weighs c block level Own of spot = weighs-to 2 0 3 0 (omega arith) (omega arith)
      (moved-weighs of (own c level) spot)
  delivered-weighs c block level (ToLocal local) of spot = weighs-to 2 0 3 0 (omega arith) (omega arith)
      (moved-weighs of (local_spot c local) spot)
  delivered-weighs c block level (Tests holds fails) of spot = test-weighs c block level of spot holds fails

  pub converted-weighs : (c : Context) (block level : ℕ) (w : Wanted) (t : IntegerType) (x : ℕ)
      → Quiet W 5 0 (converted_lines c block level w t x)
  converted-weighs c block level Dropped t x = quiet-ops W 5 [] tt (omega arith)
  converted-weighs c block level Own t x = weighs-to 2 0 5 0 (omega arith) (omega arith)
      (converting-weighs c level t (own c level).number x)
  converted-weighs c block level (ToLocal local) t x = weighs-to 2 0 5 0 (omega arith) (omega arith)
      (converting-weighs c level t (local_spot c local).number x)
  converted-weighs c block level (Tests holds fails) t x = quiet-then W 2 0 3 0
      (converting c level t (own c level).number x) (number_test c level (own c level).number holds fails)
      (converting-weighs c level t (own c level).number x)
      (test-weighs c block level (Integer t) (own c level) holds fails)

  pub null-weighs : (c : Context) (level : ℕ) (w : Wanted) → Quiet W 2 0 (null_lines c level w)
  null-weighs c level Dropped = quiet-ops W 2 [] tt (omega arith)
  null-weighs c level Own = quiet-ops W 2 (null_lines c level Own) (refl, refl, (refl, refl, tt)) (omega arith)
  null-weighs c level (ToLocal local) = quiet-ops W 2 (null_lines c level (ToLocal local))
      (refl, refl, (refl, refl, tt)) (omega arith)
  null-weighs c level (Tests holds fails) = quiet-ops W 2 (Emit (op.Jump fails) ∷ []) (refl, refl, tt) (omega arith)

  -- ---- truth values and operators

  abbrev pub TestWeighs : ℕ → ℕ → (ℕ → ℕ → ℕ → List Line) → Type 0
  TestWeighs n k test = (block holds fails : ℕ) → Quiet W n k (test block holds fails)

  pub truth-weighs : (c : Context) (block level n k : ℕ) (w : Wanted) (test : ℕ → ℕ → ℕ → List Line)
      → TestWeighs n k test → Quiet W (n + 4) (k + 0) (truth c block level w test)
  truth-weighs c block level n k w test h = quiet-then W n k 4 0 (test (block + 3) block (suc block)) _
      (h (block + 3) block (suc block))
      (quiet-ops W 4 (Start block ∷ Emit (op.Const (target c level w).number (pos 1)) ∷ Emit (op.Jump (block + 2))
      ∷ Start (suc block) ∷ Emit (op.Const (target c level w).number (pos 0)) ∷ Emit (op.Jump (block + 2))
      ∷ Start (block + 2) ∷ []) (refl, refl, (refl, refl, (refl, refl, (refl, refl, tt)))) (omega arith))

  pub chosen-weighs : (c : Context) (block level n : ℕ) (w : Wanted) (test : ℕ → ℕ → ℕ → List Line)
      → TestWeighs n 0 test → Quiet W (n + 4) 0 (chosen c block level w test)
  chosen-weighs c block level n Dropped test h = quiet-ops W (n + 4) [] tt (omega arith)
  chosen-weighs c block level n Own test h = weighs-to (n + 4) (0 + 0) (n + 4) 0 (omega arith) (omega arith)
      (truth-weighs c block level n 0 Own test h)
  chosen-weighs c block level n (ToLocal local) test h = weighs-to (n + 4) (0 + 0) (n + 4) 0 (omega arith) (omega arith)
      (truth-weighs c block level n 0 (ToLocal local) test h)
  chosen-weighs c block level n (Tests holds fails) test h = weighs-to n 0 (n + 4) 0 (omega arith) (omega arith)
      (h block holds fails)

  branching-weighs : (test : Option NumberTest) (w : Wanted) (otherwise : List Line) (x y : ℕ)
      → Quiet W 5 0 otherwise → Quiet W 5 0 (branching test w otherwise x y)
  branching-weighs (Some (WithSigns how)) (Tests holds fails) otherwise x y h =
      quiet-ops W 5 (Emit (op.Branch how x y holds fails) ∷ []) (refl, refl, tt) (omega arith)
  branching-weighs (Some (WithoutSigns how)) (Tests holds fails) otherwise x y h =
      quiet-ops W 5 (Emit (op.Branchu how x y holds fails) ∷ []) (refl, refl, tt) (omega arith)
  branching-weighs (Some test) Dropped otherwise x y h = h
  branching-weighs (Some test) Own otherwise x y h = h
  branching-weighs (Some test) (ToLocal local) otherwise x y h = h
  branching-weighs None w otherwise x y h = h

  pub on-numbers-weighs : (c : Context) (block level : ℕ) (w : Wanted) (within : IntegerType) (operator : BinaryOp)
      (x y : ℕ) → Quiet W 5 0 (on_numbers c block level w within operator x y)
  on-numbers-weighs c block level w within operator x y =
      let ops : Spot → List Line = λ to. computing c level within operator to.number x y in
      branching-weighs (test_of within operator) w (made c block level w int ops) x y
      (weighs-to (2 + 3) (0 + 0) 5 0 (omega arith) (omega arith)
      (made-weighs c block level w int ops 2 0 (λ to. computing-weighs c level within operator to.number x y)))

  moving-add : (to x : Spot) (n : ℕ) → Quiet W 2 0 (copied to.array x.array ++ Emit (op.Add to.number x.number n) ∷ [])
  moving-add to x n = quiet-then W 1 0 1 0 (copied to.array x.array) (Emit (op.Add to.number x.number n) ∷ [])
      (copied-weighs to.array x.array)
      (quiet-ops W 1 (Emit (op.Add to.number x.number n) ∷ []) (refl, refl, tt) (omega arith))

  moving-weighs : (operator : BinaryOp) (to x : Spot) (n : ℕ) → Quiet W 2 0 (moving operator to x n)
  moving-weighs Subtract to x n = quiet-then W 1 0 1 0 (copied to.array x.array) (Emit
      (op.Sub to.number x.number n) ∷ [])
      (copied-weighs to.array x.array)
      (quiet-ops W 1 (Emit (op.Sub to.number x.number n) ∷ []) (refl, refl, tt) (omega arith))
  moving-weighs _ to x n = moving-add to x n

  moves-weighs : (c : Context) (block level : ℕ) (w : Wanted) (operator : BinaryOp) (x : Spot) (n : ℕ)
      → Quiet W 7 0 (made c block level w (Pointer Int) (λ to. moving operator to x n))
  moves-weighs c block level w operator x n = weighs-to (2 + 3) (0 + 0) 7 0 (omega arith) (omega arith)
      (made-weighs c block level w (Pointer Int) (λ to. moving operator to x n) 2 0
      (λ to. moving-weighs operator to x n))

  pub on-pointer-weighs : (c : Context) (block level : ℕ) (w : Wanted) (operator : BinaryOp) (x : Spot) (n : ℕ)
      → Quiet W 7 0 (on_pointer c block level w operator x n)
  on-pointer-weighs c block level w Equal x n = weighs-to (3 + 4) 0 7 0 (omega arith) (omega arith)
      (chosen-weighs c block level 3 w (λ b holds fails. pointer_test c b level x fails holds)
      (λ b holds fails. test-weighs c b level (Pointer Int) x fails holds))
  on-pointer-weighs c block level w NotEqual x n = weighs-to (3 + 4) 0 7 0 (omega arith) (omega arith)
      (chosen-weighs c block level 3 w (λ b holds fails. pointer_test c b level x holds fails)
      (λ b holds fails. test-weighs c b level (Pointer Int) x holds fails))
  on-pointer-weighs c block level w Multiply x n = moves-weighs c block level w Multiply x n
  on-pointer-weighs c block level w Divide x n = moves-weighs c block level w Divide x n
  on-pointer-weighs c block level w Remainder x n = moves-weighs c block level w Remainder x n
  on-pointer-weighs c block level w Add x n = moves-weighs c block level w Add x n
  on-pointer-weighs c block level w Subtract x n = moves-weighs c block level w Subtract x n
  on-pointer-weighs c block level w ShiftLeft x n = moves-weighs c block level w ShiftLeft x n
  on-pointer-weighs c block level w ShiftRight x n = moves-weighs c block level w ShiftRight x n
  on-pointer-weighs c block level w Less x n = moves-weighs c block level w Less x n
  on-pointer-weighs c block level w Greater x n = moves-weighs c block level w Greater x n
  on-pointer-weighs c block level w LessOrEqual x n = moves-weighs c block level w LessOrEqual x n
  on-pointer-weighs c block level w GreaterOrEqual x n = moves-weighs c block level w GreaterOrEqual x n
  on-pointer-weighs c block level w BitAnd x n = moves-weighs c block level w BitAnd x n
  on-pointer-weighs c block level w BitXor x n = moves-weighs c block level w BitXor x n
  on-pointer-weighs c block level w BitOr x n = moves-weighs c block level w BitOr x n

  equality-weighs : (block : ℕ) (x y : Spot) (holds fails : ℕ) → Quiet W 3 0 (equality_test block x y holds fails)
  equality-weighs block x y holds fails = quiet-ops W 3 (equality_test block x y holds fails)
      (refl, refl, (refl, refl, tt)) (omega arith)

  both-weighs : (c : Context) (block level : ℕ) (w : Wanted) (operator : BinaryOp) (x y : Spot)
      → Quiet W 7 0 (Emit (op.Same x.array y.array) ∷ on_numbers c block level w Int operator x.number y.number)
  both-weighs c block level w operator x y = weighs-to (suc 5) 0 7 0 (omega arith) (omega arith)
      (weighs-op W 5 0 [] (op.Same x.array y.array) _ refl refl
      (on-numbers-weighs c block level w Int operator x.number y.number))

  pub on-pointers-weighs : (c : Context) (block level : ℕ) (w : Wanted) (operator : BinaryOp) (x y : Spot)
      → Quiet W 7 0 (on_pointers c block level w operator x y)
  on-pointers-weighs c block level w Equal x y = weighs-to (3 + 4) 0 7 0 (omega arith) (omega arith)
      (chosen-weighs c block level 3 w (λ b holds fails. equality_test b x y holds fails)
      (λ b holds fails. equality-weighs b x y holds fails))
  on-pointers-weighs c block level w NotEqual x y = weighs-to (3 + 4) 0 7 0 (omega arith) (omega arith)
      (chosen-weighs c block level 3 w (λ b holds fails. equality_test b x y fails holds)
      (λ b holds fails. equality-weighs b x y fails holds))
  on-pointers-weighs c block level w Multiply x y = both-weighs c block level w Multiply x y
  on-pointers-weighs c block level w Divide x y = both-weighs c block level w Divide x y
  on-pointers-weighs c block level w Remainder x y = both-weighs c block level w Remainder x y
  on-pointers-weighs c block level w Add x y = both-weighs c block level w Add x y
  on-pointers-weighs c block level w Subtract x y = both-weighs c block level w Subtract x y
  on-pointers-weighs c block level w ShiftLeft x y = both-weighs c block level w ShiftLeft x y
  on-pointers-weighs c block level w ShiftRight x y = both-weighs c block level w ShiftRight x y
  on-pointers-weighs c block level w Less x y = both-weighs c block level w Less x y
  on-pointers-weighs c block level w Greater x y = both-weighs c block level w Greater x y
  on-pointers-weighs c block level w LessOrEqual x y = both-weighs c block level w LessOrEqual x y
  on-pointers-weighs c block level w GreaterOrEqual x y = both-weighs c block level w GreaterOrEqual x y
  on-pointers-weighs c block level w BitAnd x y = both-weighs c block level w BitAnd x y
  on-pointers-weighs c block level w BitXor x y = both-weighs c block level w BitXor x y
  on-pointers-weighs c block level w BitOr x y = both-weighs c block level w BitOr x y

  pub applied-weighs : (c : Context) (block level : ℕ) (w : Wanted) (operator : BinaryOp) (s t : ValueType) (x y : Spot)
      → Quiet W 7 0 (applied c block level w operator s t x y)
  applied-weighs c block level w operator Void t x y = quiet-ops W 7 [] tt (omega arith)
  applied-weighs c block level w operator (Integer s) Void x y = quiet-ops W 7 [] tt (omega arith)
  applied-weighs c block level w operator (Pointer s) Void x y = quiet-ops W 7 [] tt (omega arith)
  applied-weighs c block level w operator (Integer s) (Integer t) x y = weighs-to 5 0 7 0 (omega arith) (omega arith)
      (on-numbers-weighs c block level w (numbers_type operator s t) operator x.number y.number)
  applied-weighs c block level w operator (Pointer s) (Integer t) x y =
      on-pointer-weighs c block level w operator x y.number
  applied-weighs c block level w operator (Integer s) (Pointer t) x y =
      on-pointer-weighs c block level w operator y x.number
  applied-weighs c block level w operator (Pointer s) (Pointer t) x y = on-pointers-weighs c block level w operator x y

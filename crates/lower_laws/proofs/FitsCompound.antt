-- What the ops of compound expressions ask for is there.
use Rattle.std.proofs.Common.{◌≡◌, ◌<◌, ◌≤◌, ℕ, suc, ◌+◌, max, true, List, [], ◌∷◌, ◌++◌}
use Rattle.std.proofs.Common.{refl, sym, ap, subst, arith}
use Rattle.c_tree.specs.declared.expression.BinaryOp.{BinaryOp}
use Rattle.c_tree.specs.declared.expression.BinaryOp.TheVariants.{Multiply, Divide, Remainder, Add, Subtract}
use Rattle.c_tree.specs.declared.expression.BinaryOp.TheVariants.{ShiftLeft, ShiftRight, Less, Greater, LessOrEqual}
use Rattle.c_tree.specs.declared.expression.BinaryOp.TheVariants.{GreaterOrEqual, Equal, NotEqual, BitAnd, BitXor}
use Rattle.c_tree.specs.declared.expression.BinaryOp.TheVariants.{BitOr}
use Rattle.c_tree.specs.declared.types.IntegerType.{IntegerType}
use Rattle.c_tree.specs.declared.types.IntegerType.TheVariants.{Char, Short, Int, UnsignedInt}
use Rattle.c_tree.specs.declared.types.ValueType.{ValueType}
use Rattle.c_tree.specs.declared.types.ValueType.TheVariants.{Void, Integer, Pointer}
use Rattle.c_tree.specs.Program.{int}
use Rattle.flow_graph.specs.declared.op.Op.TheVariants as op
use Rattle.lower_lines.specs.Expressions.{and_part, and_test}
use Rattle.lower_lines.specs.Expressions.{binary_part}
use Rattle.lower_lines.specs.Expressions.{cast_part, comma_part, conditional_part}
use Rattle.lower_lines.specs.Expressions.{joined, joins}
use Rattle.lower_lines.specs.Expressions.{or_part}
use Rattle.lower_lines.specs.Expressions.{or_test, own_blocks}
use Rattle.lower_lines.specs.Expressions.{test_blocks_of}
use Rattle.lower_lines.specs.Lines.{Line, Start, Emit}
use Rattle.lower_lines.specs.Operators.{applied_blocks, on_pointer_blocks, on_pointers_blocks}
use Rattle.lower_lines.specs.Parts.{Wanted, Dropped, Own, ToLocal, Tests, Part, as_pointer}
use Rattle.lower_lines.specs.Parts.{converting, in_type, narrowed, operand}
use Rattle.lower_lines.specs.Variables.{Context}
use Rattle.lower_laws.specs.FitsLaws.{Room}
use Rattle.lower_laws.proofs.Pieces.{Fit, LinesGive, May, applied-fit, blocks_in}
use Rattle.lower_laws.proofs.Pieces.{context_in, converting-fit}
use Rattle.lower_laws.proofs.Pieces.{fit-then, levels_in}
use Rattle.lower_laws.proofs.Pieces.{made-number-fit, may-integer, may-pointer, null-fit}
use Rattle.lower_laws.proofs.Pieces.{truth-fit}
use Rattle.lower_laws.proofs.FitsParts.{FitsPart, number-there}
use Rattle.lower_laws.proofs.FitsParts.{operand-fit, operand-holds, test-part}
use Rattle.c_tree.specs.WellTyped.{CanAssign, CanCast, ConditionalGives, IsInteger}

-- a value of the second type is one of the first by a conversion: a number only of a number
abbrev pub Becomes : ValueType → ValueType → Type 0
Becomes (Integer t) from = IsInteger from
Becomes Void from = Unit {0}
Becomes (Pointer t) from = Unit {0}

pub cast-becomes : (to from : ValueType) → CanCast to from → Becomes to from
cast-becomes Void from h = tt
cast-becomes (Pointer t) from h = tt
cast-becomes (Integer t) Void h = absurd h
cast-becomes (Integer t) (Integer u) h = tt
cast-becomes (Integer t) (Pointer u) h = absurd h

pub assign-becomes : (to from : ValueType) → CanAssign to from → Becomes to from
assign-becomes Void from h = tt
assign-becomes (Pointer t) from h = tt
assign-becomes (Integer t) Void h = absurd h
assign-becomes (Integer t) (Integer u) h = tt
assign-becomes (Integer t) (Pointer u) h = absurd h

pub conditional-becomes : (s t of : ValueType) → ConditionalGives s t of → Becomes of s × Becomes of t
conditional-becomes Void Void of h = subst (λ (o : ValueType). Becomes o Void × Becomes o Void) (sym h) (tt, tt)
conditional-becomes (Integer s) (Integer t) of h =
    subst (λ (o : ValueType). Becomes o (Integer s) × Becomes o (Integer t)) (sym h) (tt, tt)
conditional-becomes (Pointer s) (Pointer t) of h =
    subst (λ (o : ValueType). Becomes o (Pointer s) × Becomes o (Pointer t)) (sym h.1) (tt, tt)
conditional-becomes (Pointer s) (Integer t) of h =
    subst (λ (o : ValueType). Becomes o (Pointer s) × Becomes o (Integer t)) (sym h) (tt, tt)
conditional-becomes (Integer s) (Pointer t) of h =
    subst (λ (o : ValueType). Becomes o (Integer s) × Becomes o (Pointer t)) (sym h) (tt, tt)
conditional-becomes Void (Integer t) of h = absurd h
conditional-becomes Void (Pointer t) of h = absurd h
conditional-becomes (Integer s) Void of h = absurd h
conditional-becomes (Pointer s) Void of h = absurd h

module _ (R : Room) where
  abbrev c : Context
  c = context_in R

  abbrev L : ℕ
  L = levels_in R

  abbrev B : ℕ
  B = blocks_in R

  pointer-alike : (operator : BinaryOp) (holds fails : ℕ)
      → on_pointer_blocks (Tests holds fails) operator ≡ on_pointer_blocks (Tests 0 0) operator
  pointer-alike Multiply holds fails = refl
  pointer-alike Divide holds fails = refl
  pointer-alike Remainder holds fails = refl
  pointer-alike Add holds fails = refl
  pointer-alike Subtract holds fails = refl
  pointer-alike ShiftLeft holds fails = refl
  pointer-alike ShiftRight holds fails = refl
  pointer-alike Less holds fails = refl
  pointer-alike Greater holds fails = refl
  pointer-alike LessOrEqual holds fails = refl
  pointer-alike GreaterOrEqual holds fails = refl
  pointer-alike Equal holds fails = refl
  pointer-alike NotEqual holds fails = refl
  pointer-alike BitAnd holds fails = refl
  pointer-alike BitXor holds fails = refl
  pointer-alike BitOr holds fails = refl

  pointers-alike : (operator : BinaryOp) (holds fails : ℕ)
      → on_pointers_blocks (Tests holds fails) operator ≡ on_pointers_blocks (Tests 0 0) operator
  pointers-alike Multiply holds fails = refl
  pointers-alike Divide holds fails = refl
  pointers-alike Remainder holds fails = refl
  pointers-alike Add holds fails = refl
  pointers-alike Subtract holds fails = refl
  pointers-alike ShiftLeft holds fails = refl
  pointers-alike ShiftRight holds fails = refl
  pointers-alike Less holds fails = refl
  pointers-alike Greater holds fails = refl
  pointers-alike LessOrEqual holds fails = refl
  pointers-alike GreaterOrEqual holds fails = refl
  pointers-alike Equal holds fails = refl
  pointers-alike NotEqual holds fails = refl
  pointers-alike BitAnd holds fails = refl
  pointers-alike BitXor holds fails = refl
  pointers-alike BitOr holds fails = refl

  pub binary-part : (of : ValueType) (operator : BinaryOp) (a b : Part) → LinesGive operator a.of b.of of
      → FitsPart R a → FitsPart R b → FitsPart R (binary_part c of operator a b)
  binary-part of operator a b gives h h' =
      let x = operand c b.simple a in
      let y = operand c true b in
      record {
        fits = λ block level w room more m.
            let s = h.some in
            let s' = h'.some in
            let low : level < L = omega (arith, room, s') in
            let next : suc level < L = omega (arith, room, s') in
            fit-then R (x.lines block level) _
            (operand-fit R b.simple a h block level (omega (arith, room)) (omega (arith, more)))
            (fit-then R (y.lines (block + x.blocks) (suc level)) _
            (operand-fit R true b h' (block + x.blocks) (suc level) (omega (arith, room)) (omega (arith, more)))
            (applied-fit R (block + x.blocks + y.blocks) level w operator a.of b.of of (x.spot level)
            (y.spot (suc level)) gives low m (operand-holds R b.simple a h level low)
            (operand-holds R true b h' (suc level) next) (omega (arith, more))));
        stands = λ s e. absurd (cc);
        some = let s = h.some in omega (arith, s);
        tests = λ holds fails. ap (λ (n : ℕ). x.blocks + y.blocks + n) (applied-alike operator a.of b.of holds fails);
      }
    where
      applied-alike : (operator : BinaryOp) (s t : ValueType) (holds fails : ℕ)
          → applied_blocks (Tests holds fails) operator s t ≡ applied_blocks (Tests 0 0) operator s t
      applied-alike operator Void t holds fails = refl
      applied-alike operator (Integer s) Void holds fails = refl
      applied-alike operator (Integer s) (Integer t) holds fails = refl
      applied-alike operator (Integer s) (Pointer t) holds fails = pointer-alike operator holds fails
      applied-alike operator (Pointer s) Void holds fails = refl
      applied-alike operator (Pointer s) (Integer t) holds fails = pointer-alike operator holds fails
      applied-alike operator (Pointer s) (Pointer t) holds fails = pointers-alike operator holds fails

  dropped-fit : (block : ℕ) (X Y : List Line) → suc block < B → Fit R X → Fit R Y
      → Fit R (X ++ (Start block ∷ (Y ++ (Emit (op.Jump (suc block)) ∷ Start (suc block) ∷ []))))
  dropped-fit block X Y go h h' = fit-then R X _ h (fit-then R Y _ h' (((go, tt), tt), tt))

  pub and-part' : (a b : Part) → FitsPart R a → FitsPart R b → FitsPart R (and_part c a b)
  and-part' a b h h' = record {
    fits = lines;
    stands = λ s e. absurd (cc);
    some = let s = h.some in omega (arith, s);
    tests = λ holds fails. refl;
  }
    where
      both : (level block holds fails : ℕ) → level + max a.levels b.levels ≤ L
          → block + (1 + test_blocks_of a + test_blocks_of b) ≤ B → holds < B → fails < B
          → Fit R (and_test a b level block holds fails)
      both level block holds fails room more yes' no' = fit-then R (a.lines (suc block) level (Tests block fails)) _
          (test-part R a h (suc block) level block fails (omega (arith, room)) (omega (arith, more))
          (omega (arith, more)) no')
          (test-part R b h' (suc block + test_blocks_of a) level holds fails (omega (arith, room)) (omega (arith, more))
          yes' no')

      lines : (block level : ℕ) (w : Wanted) → level + max a.levels b.levels ≤ L
          → block + (and_part c a b).blocks w ≤ B → May R w int → Fit R ((and_part c a b).lines block level w)
      lines block level Dropped room more m = dropped-fit block (a.lines (block + 2) level (Tests block (suc block)))
          (b.lines (block + 2 + test_blocks_of a) level Dropped) (omega (arith, more))
          (test-part R a h (block + 2) level block (suc block) (omega (arith, room)) (omega (arith, more))
          (omega (arith, more)) (omega (arith, more)))
          (h'.fits (block + 2 + test_blocks_of a) level Dropped (omega (arith, room)) (omega (arith, more)) tt)
      lines block level Own room more m = truth-fit R (1 + test_blocks_of a + test_blocks_of b) block level Own
          (and_test a b level) (let s = h.some in omega (arith, room, s)) m more
          (λ b' holds fails yes' no' low. both level b' holds fails room low yes' no')
      lines block level (ToLocal local) room more m = truth-fit R (1 + test_blocks_of a + test_blocks_of b) block level
          (ToLocal local) (and_test a b level) (let s = h.some in omega (arith, room, s)) m more
          (λ b' holds fails yes' no' low. both level b' holds fails room low yes' no')
      lines block level (Tests holds fails) room more m = both level block holds fails room more m.0 m.1

  pub or-part' : (a b : Part) → FitsPart R a → FitsPart R b → FitsPart R (or_part c a b)
  or-part' a b h h' = record {
    fits = lines;
    stands = λ s e. absurd (cc);
    some = let s = h.some in omega (arith, s);
    tests = λ holds fails. refl;
  }
    where
      both : (level block holds fails : ℕ) → level + max a.levels b.levels ≤ L
          → block + (1 + test_blocks_of a + test_blocks_of b) ≤ B → holds < B → fails < B
          → Fit R (or_test a b level block holds fails)
      both level block holds fails room more yes' no' = fit-then R (a.lines (suc block) level (Tests holds block)) _
          (test-part R a h (suc block) level holds block (omega (arith, room)) (omega (arith, more)) yes'
          (omega (arith, more)))
          (test-part R b h' (suc block + test_blocks_of a) level holds fails (omega (arith, room)) (omega (arith, more))
          yes' no')

      lines : (block level : ℕ) (w : Wanted) → level + max a.levels b.levels ≤ L
          → block + (or_part c a b).blocks w ≤ B → May R w int → Fit R ((or_part c a b).lines block level w)
      lines block level Dropped room more m = dropped-fit block (a.lines (block + 2) level (Tests (suc block) block))
          (b.lines (block + 2 + test_blocks_of a) level Dropped) (omega (arith, more))
          (test-part R a h (block + 2) level (suc block) block (omega (arith, room)) (omega (arith, more))
          (omega (arith, more)) (omega (arith, more)))
          (h'.fits (block + 2 + test_blocks_of a) level Dropped (omega (arith, room)) (omega (arith, more)) tt)
      lines block level Own room more m = truth-fit R (1 + test_blocks_of a + test_blocks_of b) block level Own
          (or_test a b level) (let s = h.some in omega (arith, room, s)) m more
          (λ b' holds fails yes' no' low. both level b' holds fails room low yes' no')
      lines block level (ToLocal local) room more m = truth-fit R (1 + test_blocks_of a + test_blocks_of b) block level
          (ToLocal local) (or_test a b level) (let s = h.some in omega (arith, room, s)) m more
          (λ b' holds fails yes' no' low. both level b' holds fails room low yes' no')
      lines block level (Tests holds fails) room more m = both level block holds fails room more m.0 m.1

  -- ---- conversions

  narrowed-part : (t u : IntegerType) (a : Part) → a.of ≡ Integer u → FitsPart R a → FitsPart R (narrowed c t a)
  narrowed-part t u a of h =
      let x = operand c true a in
      record {
        fits = λ block level w room more m.
            let low : level < L = let s = h.some in omega (arith, room, s) in
            fit-then R (x.lines block level) _ (operand-fit R true a h block level room more)
            (made-number-fit R (block + x.blocks) level w t
            (λ to. converting c level t to.number (x.spot level).number) low m more
            (λ to k. converting-fit R level t to.number (x.spot level).number low k
            (number-there R true a u of h level low)));
        stands = λ s e. absurd (cc);
        some = h.some;
        tests = λ holds fails. refl;
      }

  null-part : (t : IntegerType) (a : Part) → FitsPart R a
      → FitsPart R (as_pointer c t Void a)
  null-part t a h = record {
    fits = λ block level w room more m.
        fit-then R (a.lines block level Dropped) _ (h.fits block level Dropped room more tt)
        (null-fit R level w t (let s = h.some in omega (arith, room, s)) m);
    stands = λ s e. absurd (cc);
    some = h.some;
    tests = λ holds fails. refl;
  }

  pointer-part : (t : IntegerType) (of : ValueType) (a : Part) → FitsPart R a → FitsPart R (as_pointer c t of a)
  pointer-part t (Pointer u) a h = h
  pointer-part t Void a h = null-part t a h
  pointer-part t (Integer u) a h =
      let n = null-part t a h in
      record { fits = n.fits; stands = λ s e. absurd (cc); some = n.some; tests = λ holds fails. refl }

  integer-turned : (t : IntegerType) (of : ValueType) → Becomes (Integer t) of → (u : IntegerType) × (of ≡ Integer u)
  integer-turned t Void h = absurd h
  integer-turned t (Integer u) h = (u, refl)
  integer-turned t (Pointer u) h = absurd h

  pub turned-part : (of : ValueType) (a : Part) → Becomes of a.of → FitsPart R a → FitsPart R (in_type c of a)
  turned-part Void a turns h = record {
    fits = λ block level w room more m. h.fits block level Dropped room more tt;
    stands = λ s e. absurd (cc);
    some = h.some;
    tests = λ holds fails. refl;
  }
  turned-part (Integer Char) a turns h =
      let (u, e) = integer-turned Char a.of turns in narrowed-part Char u a e h
  turned-part (Integer Short) a turns h =
      let (u, e) = integer-turned Short a.of turns in narrowed-part Short u a e h
  turned-part (Integer Int) a turns h = h
  turned-part (Integer UnsignedInt) a turns h = h
  turned-part (Pointer t) a turns h = pointer-part t a.of a h

  -- what may be wanted of the type may be wanted of what is in it
  pub turned-may : (w : Wanted) (of : ValueType) (a : Part) → Becomes of a.of → May R w of → May R w (in_type c of a).of
  turned-may w Void a turns m = m
  turned-may w (Integer Char) a turns m = m
  turned-may w (Integer Short) a turns m = m
  turned-may w (Integer Int) a turns m =
      let (u, e) = integer-turned Int a.of turns in
      subst (λ (t : ValueType). May R w t) (sym e) (may-integer R w Int u m)
  turned-may w (Integer UnsignedInt) a turns m =
      let (u, e) = integer-turned UnsignedInt a.of turns in
      subst (λ (t : ValueType). May R w t) (sym e) (may-integer R w UnsignedInt u m)
  turned-may w (Pointer t) a turns m = by a.of refl
    where
      by : (of : ValueType) → a.of ≡ of → May R w (as_pointer c t of a).of
      by Void e = m
      by (Integer u) e = m
      by (Pointer u) e = subst (λ (v : ValueType). May R w v) (sym e) (may-pointer R w t u m)

  pub cast-part' : (to : ValueType) (a : Part) → Becomes to a.of → FitsPart R a → FitsPart R (cast_part c to a)
  cast-part' to a turns h =
      let k = turned-part to a turns h in
      record {
        fits = λ block level w room more m. k.fits block level w room more (turned-may w to a turns m);
        stands = λ s e. absurd (cc);
        some = k.some;
        tests = k.tests;
      }

  pub comma-part' : (a b : Part) → FitsPart R a → FitsPart R b → FitsPart R (comma_part a b)
  comma-part' a b h h' = record {
    fits = λ block level w room more m. fit-then R (a.lines block level Dropped) _
        (h.fits block level Dropped (omega (arith, room)) (omega (arith, more)) tt)
        (h'.fits (block + a.blocks Dropped) level w (omega (arith, room)) (omega (arith, more)) m);
    stands = λ s e. absurd (cc);
    some = let s = h.some in omega (arith, s);
    tests = λ holds fails. ap (λ (n : ℕ). a.blocks Dropped + n) (h'.tests holds fails);
  }

  joined-fit : (block first : ℕ) (w : Wanted) → block + own_blocks w ≤ first → first ≤ B → Fit R (joined (block + 2) w)
  joined-fit block first (Tests holds fails) h k = tt
  joined-fit block first Dropped h k = (((omega (arith, h, k), tt), tt), tt)
  joined-fit block first Own h k = (((omega (arith, h, k), tt), tt), tt)
  joined-fit block first (ToLocal local) h k = (((omega (arith, h, k), tt), tt), tt)

  joins-fit : (block : ℕ) (w : Wanted) → Fit R (joins block w)
  joins-fit block (Tests holds fails) = tt
  joins-fit block Dropped = tt
  joins-fit block Own = tt
  joins-fit block (ToLocal local) = tt

  two-own : (w : Wanted) → 2 ≤ own_blocks w
  two-own (Tests holds fails) = omega arith
  two-own Dropped = omega arith
  two-own Own = omega arith
  two-own (ToLocal local) = omega arith

  pub conditional-part' : (of : ValueType) (t a b : Part) → Becomes of a.of × Becomes of b.of → FitsPart R t
      → FitsPart R a → FitsPart R b → FitsPart R (conditional_part c of t a b)
  conditional-part' of t a b turns ht ha hb =
      let a' = in_type c of a in
      let b' = in_type c of b in
      let ka = turned-part of a turns.0 ha in
      let kb = turned-part of b turns.1 hb in
      record {
        fits = λ block level w room more m.
            let first = block + own_blocks w in
            let own' = two-own w in
            fit-then R (t.lines first level (Tests block (suc block))) _
            (test-part R t ht first level block (suc block) (omega (arith, room)) (omega (arith, more))
            (omega (arith, more, own')) (omega (arith, more, own')))
            (fit-then R (a'.lines (first + test_blocks_of t) level w) _
            (ka.fits (first + test_blocks_of t) level w (omega (arith, room)) (omega (arith, more))
            (turned-may w of a turns.0 m))
            (fit-then R (joined (block + 2) w) _ (joined-fit block first w (omega arith) (omega (arith, more)))
            (fit-then R (b'.lines (first + test_blocks_of t + a'.blocks w) level w) _
            (kb.fits (first + test_blocks_of t + a'.blocks w) level w (omega (arith, room)) (omega (arith, more))
            (turned-may w of b turns.1 m))
            (fit-then R (joined (block + 2) w) _ (joined-fit block first w (omega arith) (omega (arith, more)))
            (joins-fit (block + 2) w)))));
        stands = λ s e. absurd (cc);
        some = let s = ht.some in omega (arith, s);
        tests = λ holds fails. alike (ka.tests holds fails) (kb.tests holds fails);
      }
    where
      alike : {x y m n : ℕ} → x ≡ m → y ≡ n → 2 + test_blocks_of t + x + y ≡ 2 + test_blocks_of t + m + n
      alike {x} {y} {m} {n} e e' = omega (arith, e, e')

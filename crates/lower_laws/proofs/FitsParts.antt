-- What the ops of the lines of expressions ask for is there.
use Rattle.std.proofs.Common.{◌≡◌, ◌<◌, ◌≤◌, ℕ, ◌+◌, Bool, true, false, ℤ, pos, [], ◌∷◌}
use Rattle.std.proofs.Common.{Option, Some, None, refl, sym, subst, arith, length}
use Rattle.std.specs.Prelude.{FitsSigned, slice_get}
use Rattle.std.specs.Int.{w32}
use Rattle.pcc_base.specs.declared.run.Width.TheVariants.{Two}
use Rattle.c_tree.specs.declared.expression.ArrayRef.{ArrayRef}
use Rattle.c_tree.specs.declared.expression.ArrayRef.TheVariants as refs
use Rattle.c_tree.specs.declared.expression.UnaryOp.{UnaryOp}
use Rattle.c_tree.specs.declared.expression.UnaryOp.TheVariants.{Plus, Minus, Complement, Not}
use Rattle.c_tree.specs.declared.types.IntegerType.{IntegerType}
use Rattle.c_tree.specs.declared.types.IntegerType.TheVariants.{Char, Short, Int, UnsignedInt}
use Rattle.c_tree.specs.declared.types.ValueType.{ValueType}
use Rattle.c_tree.specs.declared.types.ValueType.TheVariants.{Void, Integer, Pointer}
use Rattle.c_tree.specs.Program.{int, Local}
use Rattle.c_tree.specs.Store.{converted}
use Rattle.flow_graph.specs.declared.op.Op.{Op}
use Rattle.flow_graph.specs.declared.op.Op.TheVariants as op
use Rattle.lower_lines.specs.Expressions.{array_line}
use Rattle.lower_lines.specs.Expressions.{constant_part}
use Rattle.lower_lines.specs.Expressions.{local_part}
use Rattle.lower_lines.specs.Expressions.{negated, number_part, object_part}
use Rattle.lower_lines.specs.Expressions.{reading}
use Rattle.lower_lines.specs.Expressions.{start_part}
use Rattle.lower_lines.specs.Expressions.{test_blocks_of}
use Rattle.lower_lines.specs.Expressions.{unary_part}
use Rattle.lower_lines.specs.Lines.{Emit}
use Rattle.lower_lines.specs.Parts.{Wanted, Dropped, Own, ToLocal, Tests, Part, bits_of}
use Rattle.lower_lines.specs.Parts.{if_stays, operand, retyped, standing, tested_blocks}
use Rattle.lower_lines.specs.Variables.{Context, Spot, local_spot, own}
use Rattle.lower_laws.specs.FitsLaws.{IsGood, Room}
use Rattle.lower_laws.proofs.Pieces.{Fit, Holds, May, Wide, blocks_in, byte-holds}
use Rattle.lower_laws.proofs.Pieces.{context_in}
use Rattle.lower_laws.proofs.Pieces.{delivered-fit, fit-then, levels_in, local-holds, made-fit}
use Rattle.lower_laws.proofs.Pieces.{made-number-fit, may-integer, moved-fit, own-holds, small}
use Rattle.lower_laws.proofs.Pieces.{truth-fit}

module _ (R : Room) where
  abbrev c : Context
  c = context_in R

  abbrev L : ℕ
  L = levels_in R

  abbrev B : ℕ
  B = blocks_in R

  pub record FitsPart (a : Part) : Type 0 where
    pub fits : (block level : ℕ) (w : Wanted) → level + a.levels ≤ L → block + a.blocks w ≤ B → May R w a.of
        → Fit R (a.lines block level w)
    pub stands : (s : Spot) → a.stands ≡ Some s → Holds R a.of s
    pub some : 1 ≤ a.levels
    pub tests : (holds fails : ℕ) → a.blocks (Tests holds fails) ≡ test_blocks_of a

  nowhere : (a : Part) → a.stands ≡ None → (s : Spot) → a.stands ≡ Some s → Holds R a.of s
  nowhere a e s e' = absurd (never a.stands s e e')
    where
      never : (o : Option Spot) (s : Spot) → o ≡ None → o ≡ Some s → ⊥
      never o s e e' = cc

  -- a test, wherever it goes
  pub test-part : (a : Part) → FitsPart a → (block level holds fails : ℕ) → level + a.levels ≤ L
      → block + test_blocks_of a ≤ B → holds < B → fails < B → Fit R (a.lines block level (Tests holds fails))
  test-part a h block level holds fails room more yes' no' =
      let e = h.tests holds fails in
      h.fits block level (Tests holds fails) room (omega (arith, more, e)) (yes', no')

  -- ---- operands

  pub standing-fit : (a : Part) (o : Option Spot) → FitsPart a → (block level : ℕ) → level + a.levels ≤ L
      → block + (standing c a o).blocks ≤ B → Fit R ((standing c a o).lines block level)
  standing-fit a None h block level room more = h.fits block level Own room more tt
  standing-fit a (Some s) h block level room more = tt

  pub operand-fit : (stays : Bool) (a : Part) → FitsPart a → (block level : ℕ) → level + a.levels ≤ L
      → block + (operand c stays a).blocks ≤ B → Fit R ((operand c stays a).lines block level)
  operand-fit stays a h block level room more = standing-fit a (if_stays stays a.stands) h block level room more

  standing-holds : (a : Part) (o : Option Spot) → ((s : Spot) → o ≡ Some s → a.stands ≡ Some s) → FitsPart a
      → (level : ℕ) → level < L → Holds R a.of ((standing c a o).spot level)
  standing-holds a None same h level room = own-holds R a.of level room
  standing-holds a (Some s) same h level room = h.stands s (same s refl)

  pub operand-holds : (stays : Bool) (a : Part) → FitsPart a → (level : ℕ) → level < L
      → Holds R a.of ((operand c stays a).spot level)
  operand-holds true a h level room = standing-holds a a.stands (λ s e. e) h level room
  operand-holds false a h level room = own-holds R a.of level room

  pub number-there : (stays : Bool) (a : Part) (u : IntegerType) → a.of ≡ Integer u → FitsPart a → (level : ℕ)
      → level < L → Wide R ((operand c stays a).spot level).number
  number-there stays a u of h level room =
      subst (λ (t : ValueType). Holds R t ((operand c stays a).spot level)) of (operand-holds stays a h level room)

  pub pointer-there : (stays : Bool) (a : Part) (u : IntegerType) → a.of ≡ Pointer u → FitsPart a → (level : ℕ)
      → level < L
      → Wide R ((operand c stays a).spot level).array × Wide R ((operand c stays a).spot level).number
  pointer-there stays a u of h level room =
      subst (λ (t : ValueType). Holds R t ((operand c stays a).spot level)) of (operand-holds stays a h level room)

  -- ---- names, numbers and strings

  pub constant-part : (t : IntegerType) (n : ℤ) → FitsSigned w32 (converted t n) → FitsPart (constant_part c t n)
  constant-part t n small' = record {
    fits = λ block level w room more m. made-number-fit R block level w t
        (λ to. Emit (op.Const to.number (converted t n)) ∷ []) (omega (arith, room)) m (omega (arith, more))
        (λ to h. ((((Two, h), tt), small'), tt));
    stands = λ s e. absurd (cc);
    some = omega arith;
    tests = λ holds fails. refl;
  }

  abbrev pub IsThere : ArrayRef → Type 0
  IsThere (refs.Static k) = Unit {0}
  IsThere (refs.Frame k) = k < length R.flow.arrays

  array-fit : (array : ArrayRef) → IsThere array → (to : Spot) → Wide R to.array × Wide R to.number
      → Fit R (array_line array to.array ∷ Emit (op.Const to.number (pos 0)) ∷ [])
  array-fit (refs.Static k) there to h =
      (((h.0, tt), tt), ((((Two, h.1), tt), small 0 (omega arith)), tt))
  array-fit (refs.Frame k) there to h =
      (((h.0, (there, tt)), tt), ((((Two, h.1), tt), small 0 (omega arith)), tt))

  pub start-part : (t : IntegerType) (array : ArrayRef) → IsThere array → FitsPart (start_part c t array)
  start-part t array there = record {
    fits = λ block level w room more m. made-fit R block level w (Pointer t)
        (λ to. array_line array to.array ∷ Emit (op.Const to.number (pos 0)) ∷ []) (omega (arith, room)) m more
        (λ to h. array-fit array there to h);
    stands = λ s e. absurd (cc);
    some = omega arith;
    tests = λ holds fails. refl;
  }

  pub reading-fit : (block level : ℕ) (w : Wanted) (of : ValueType) (spot : Spot) → level < L → May R w of
      → Holds R of spot → block + tested_blocks w of ≤ B → Fit R (reading c block level w of spot)
  reading-fit block level Dropped of spot room m h more =
      moved-fit R of (own c level) spot (own-holds R of level room) h
  reading-fit block level Own of spot room m h more = delivered-fit R block level Own of spot room m h more
  reading-fit block level (ToLocal local) of spot room m h more =
      delivered-fit R block level (ToLocal local) of spot room m h more
  reading-fit block level (Tests holds fails) of spot room m h more =
      delivered-fit R block level (Tests holds fails) of spot room m h more

  some-same : (x y : Spot) → Some x ≡ Some y → x ≡ y
  some-same x y e = cc

  pub local-part : (of : ValueType) (k : ℕ) (l : Local) → slice_get R.function.locals k ≡ Some l → l.of ≡ of
      → FitsPart (local_part c of k)
  local-part (Integer Char) k l at e = record {
    fits = λ block level w room more m. made-number-fit R block level w Char
        (λ to. Emit (op.Wide to.number (local_spot c k).number) ∷ []) (omega (arith, room)) m (omega (arith, more))
        (λ to h. (((h, (byte-holds R k l at e, tt)), tt), tt));
    stands = λ s e'. absurd (cc);
    some = omega arith;
    tests = λ holds fails. refl;
  }
  local-part Void k l at e = record {
    fits = λ block level w room more m.
        reading-fit block level w Void (local_spot c k) (omega (arith, room)) m tt more;
    stands = λ s e'. tt;
    some = omega arith;
    tests = λ holds fails. refl;
  }
  local-part (Integer Short) k l at e = record {
    fits = λ block level w room more m. reading-fit block level w (Integer Short) (local_spot c k)
        (omega (arith, room)) m (local-holds R k l (Integer Short) at e tt) more;
    stands = λ s e'. subst (λ (q : Spot). Wide R q.number) (some-same (local_spot c k) s e')
        (local-holds R k l (Integer Short) at e tt);
    some = omega arith;
    tests = λ holds fails. refl;
  }
  local-part (Integer Int) k l at e = record {
    fits = λ block level w room more m. reading-fit block level w (Integer Int) (local_spot c k)
        (omega (arith, room)) m (local-holds R k l (Integer Int) at e tt) more;
    stands = λ s e'. subst (λ (q : Spot). Wide R q.number) (some-same (local_spot c k) s e')
        (local-holds R k l (Integer Int) at e tt);
    some = omega arith;
    tests = λ holds fails. refl;
  }
  local-part (Integer UnsignedInt) k l at e = record {
    fits = λ block level w room more m. reading-fit block level w (Integer UnsignedInt) (local_spot c k)
        (omega (arith, room)) m (local-holds R k l (Integer UnsignedInt) at e tt) more;
    stands = λ s e'. subst (λ (q : Spot). Wide R q.number) (some-same (local_spot c k) s e')
        (local-holds R k l (Integer UnsignedInt) at e tt);
    some = omega arith;
    tests = λ holds fails. refl;
  }
  local-part (Pointer t) k l at e = record {
    fits = λ block level w room more m. reading-fit block level w (Pointer t) (local_spot c k)
        (omega (arith, room)) m (local-holds R k l (Pointer t) at e tt) more;
    stands = λ s e'. subst (λ (q : Spot). Wide R q.array × Wide R q.number) (some-same (local_spot c k) s e')
        (local-holds R k l (Pointer t) at e tt);
    some = omega arith;
    tests = λ holds fails. refl;
  }

  pub object-part : (t : IntegerType) (o : ℕ) → FitsPart (object_part c t o)
  object-part t o = record {
    fits = λ block level w room more m. made-number-fit R block level w t
        (λ to. Emit (op.Get (bits_of t) to.number o) ∷ []) (omega (arith, room)) m (omega (arith, more))
        (λ to h. (((h, tt), tt), tt));
    stands = λ s e. absurd (cc);
    some = omega arith;
    tests = λ holds fails. refl;
  }

  -- ---- operators

  pub number-part : (made_by : ℕ → ℕ → Op) (a : Part) (u : IntegerType) → a.of ≡ Integer u
      → ((d s : ℕ) → Wide R d → Wide R s → IsGood R.flow (made_by d s)) → FitsPart a
      → FitsPart (number_part c made_by a)
  number-part made_by a u of good h =
      let x = operand c true a in
      record {
        fits = λ block level w room more m.
            let low : level < L = let s = h.some in omega (arith, room, s) in
            fit-then R (x.lines block level) _ (operand-fit true a h block level room more)
            (made-number-fit R (block + x.blocks) level w Int
            (λ to. Emit (made_by to.number (x.spot level).number) ∷ []) low m more
            (λ to k. (good to.number (x.spot level).number k (number-there true a u of h level low), tt)));
        stands = λ s e. absurd (cc);
        some = h.some;
        tests = λ holds fails. refl;
      }

  negated-part : (a : Part) → FitsPart a → FitsPart (negated c a)
  negated-part a h = record {
    fits = lines;
    stands = λ s e. absurd (cc);
    some = h.some;
    tests = λ holds fails. refl;
  }
    where
      lines : (block level : ℕ) (w : Wanted) → level + a.levels ≤ L → block + (negated c a).blocks w ≤ B → May R w int
          → Fit R ((negated c a).lines block level w)
      lines block level Dropped room more m = h.fits block level Dropped room more tt
      lines block level Own room more m = truth-fit R (test_blocks_of a) block level Own
          (λ b holds fails. a.lines b level (Tests fails holds)) (let s = h.some in omega (arith, room, s)) m more
          (λ b holds fails yes' no' low. test-part a h b level fails holds room low no' yes')
      lines block level (ToLocal local) room more m = truth-fit R (test_blocks_of a) block level (ToLocal local)
          (λ b holds fails. a.lines b level (Tests fails holds)) (let s = h.some in omega (arith, room, s)) m more
          (λ b holds fails yes' no' low. test-part a h b level fails holds room low no' yes')
      lines block level (Tests holds fails) room more m = test-part a h block level fails holds room more m.1 m.0

  -- what is a number, where the operator is one on numbers
  abbrev pub UnaryFits : UnaryOp → ValueType → Type 0
  UnaryFits Not of = Unit {0}
  UnaryFits _ of = (u : IntegerType) × (of ≡ Integer u)

  -- the same lines for another integer type
  retyped-part : (of t : IntegerType) (a : Part) → a.of ≡ Integer t → FitsPart a → a.stands ≡ None
      → FitsPart (retyped of a)
  retyped-part of t a e h none = record {
    fits = λ block level w room more m. h.fits block level w room more
        (subst (λ (v : ValueType). May R w v) (sym e) (may-integer R w of t m));
    stands = λ s e'. absurd (cc);
    some = h.some;
    tests = h.tests;
  }

  pub unary-part : (operator : UnaryOp) (a : Part) (of : IntegerType) → UnaryFits operator a.of → FitsPart a
      → FitsPart (unary_part c of operator a)
  unary-part Plus a of (u, e) h = record {
    fits = λ block level w room more m. h.fits block level w room more
        (subst (λ (t : ValueType). May R w t) (sym e) (may-integer R w of u m));
    stands = λ s e'. absurd (cc);
    some = h.some;
    tests = h.tests;
  }
  unary-part Minus a of (u, e) h = retyped-part of Int (number_part c op.Neg a) refl
      (number-part op.Neg a u e (λ d s k k'. ((k, (k', tt)), tt)) h) refl
  unary-part Complement a of (u, e) h = retyped-part of Int (number_part c op.Not a) refl
      (number-part op.Not a u e (λ d s k k'. ((k, (k', tt)), tt)) h) refl
  unary-part Not a of e h = retyped-part of Int (negated c a) refl (negated-part a h) refl

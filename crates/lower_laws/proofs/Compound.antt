-- Sets of the lines of conditions, conversions, and operators that choose.
use Rattle.std.proofs.Common.{◌≡◌, ◌<◌, ℕ, suc, ◌+◌, Bool, true, List, []}
use Rattle.std.proofs.Common.{◌∷◌, ◌++◌, refl, sym, ap, subst, arith, length}
use Rattle.std.proofs.Common.{length-append}
use Rattle.c_tree.specs.declared.expression.UnaryOp.{UnaryOp}
use Rattle.c_tree.specs.declared.expression.UnaryOp.TheVariants.{Plus, Minus, Complement, Not}
use Rattle.c_tree.specs.declared.types.IntegerType.{IntegerType}
use Rattle.c_tree.specs.declared.types.IntegerType.TheVariants.{Char, Short, Int, UnsignedInt}
use Rattle.c_tree.specs.declared.types.ValueType.{ValueType}
use Rattle.c_tree.specs.declared.types.ValueType.TheVariants.{Void, Integer, Pointer}
use Rattle.c_tree.specs.Program.{int}
use Rattle.flow_graph.specs.declared.op.Op.TheVariants as op
use Rattle.flow_graph.specs.Graphs.{IsIn}
use Rattle.lower_lines.specs.Expressions.{and_part, and_test, cast_part, comma_part, negated, or_part}
use Rattle.lower_lines.specs.Expressions.{number_part, or_test, test_blocks_of, unary_part, words_of}
use Rattle.lower_lines.specs.Lines.{Line, Start, Emit}
use Rattle.lower_lines.specs.Parts.{Wanted, Dropped, Own, ToLocal, Tests, Part, as_pointer, compound, converting}
use Rattle.lower_lines.specs.Parts.{in_type, made, narrowed, null_lines, operand, target, truth}
use Rattle.lower_lines.specs.Variables.{Context, Spot, local_spot, local_variables, own}
use Rattle.lower_laws.proofs.FitsCompound.{Becomes}
use Rattle.lower_laws.specs.Flows.{Within}
use Rattle.lower_laws.proofs.Applied.{LowTarget, Settled, none-agrees}
use Rattle.lower_laws.proofs.Parts.{Held, LivePart, Ready, number-in, number-part, operand-held, reached-more}
use Rattle.lower_laws.proofs.Parts.{settled-count, settled-less, settled-then}
use Rattle.lower_laws.proofs.Sets.{F, Goes, agrees-at, agrees-back, agrees-front, block-is, converting-flows}
use Rattle.lower_laws.proofs.Sets.{ends, flows-then, made-flows, null-flows, reached, starts, truth-flows, way}

-- types whose values stand alike: in no variable, in one, or in two
abbrev pub Alike : ValueType → ValueType → Type 0
Alike Void Void = Unit {0}
Alike (Integer t) (Integer u) = Unit {0}
Alike (Pointer t) (Pointer u) = Unit {0}
Alike _ _ = ⊥

pub alike-same : (s t : ValueType) → s ≡ t → Alike s t
alike-same s t e = subst (λ (u : ValueType). Alike s u) e (itself s)
  where
    itself : (s : ValueType) → Alike s s
    itself Void = tt
    itself (Integer t) = tt
    itself (Pointer t) = tt

pub words-alike : (s t : ValueType) (x : Spot) → Alike s t → words_of s x ≡ words_of t x
words-alike Void Void x h = refl
words-alike (Integer t) (Integer u) x h = refl
words-alike (Pointer t) (Pointer u) x h = refl
words-alike Void (Integer u) x h = absurd h
words-alike Void (Pointer u) x h = absurd h
words-alike (Integer t) Void x h = absurd h
words-alike (Integer t) (Pointer u) x h = absurd h
words-alike (Pointer t) Void x h = absurd h
words-alike (Pointer t) (Integer u) x h = absurd h

module _ (c : Context) (D : List ℕ) (low-known : (v : ℕ) → IsIn v D → v < local_variables c.function) where
  abbrev L : ℕ
  L = local_variables c.function

  abbrev Live : Part → Type 0
  Live a = LivePart c D low-known a

  abbrev IsReady : ℕ → List ℕ → Type 0
  IsReady level S = Ready c D low-known level S

  pub reached-alike : (level : ℕ) (w : Wanted) (s t : ValueType) (S : List ℕ) → Alike s t
      → reached c level w s S ≡ reached c level w t S
  reached-alike level Dropped s t S h = refl
  reached-alike level Own s t S h = ap (λ (xs : List ℕ). xs ++ S) (words-alike s t (own c level) h)
  reached-alike level (ToLocal local) s t S h = ap (λ (xs : List ℕ). xs ++ S) (words-alike s t (local_spot c local) h)
  reached-alike level (Tests holds fails) s t S h = refl

  pub low-alike : (w : Wanted) (s t : ValueType) → Alike s t → LowTarget c w t → LowTarget c w s
  low-alike Dropped s t h low = tt
  low-alike Own s t h low = tt
  low-alike (ToLocal local) s t h low = λ v is. low v
      (subst (λ (xs : List ℕ). IsIn v xs) (words-alike s t (local_spot c local) h) is)
  low-alike (Tests holds fails) s t h low = tt

  -- a part's lines as those of a type whose values stand alike
  pub settles-as : (a : Part) (of : ValueType) → Alike a.of of → Live a → (block level : ℕ) (w : Wanted) (S : List ℕ)
      → IsReady level S → LowTarget c w of
      → Settled c block (a.blocks w) w S (a.lines block level w) (reached c level w of S)
  settles-as a of same h block level w S ready low =
      subst (λ (T : List ℕ). Settled c block (a.blocks w) w S (a.lines block level w) T)
      (reached-alike level w a.of of S same) (h.settles block level w S ready (low-alike w a.of of same low))

  pub retyped : (a : Part) (of : ValueType) → Alike a.of of → Live a → Live (compound of a.levels a.blocks a.lines)
  retyped a of same h = record {
    settles = settles-as a of same h;
    stands = λ s e. absurd (cc);
    quiet = λ s e. absurd (cc);
    tests = h.tests;
  }

  pub test-settled : (a : Part) → Live a → (block level holds fails : ℕ) (S : List ℕ) → IsReady level S
      → Settled c block (test_blocks_of a) (Tests holds fails) S (a.lines block level (Tests holds fails)) S
  test-settled a h block level holds fails S ready =
      settled-count c D low-known block (a.blocks (Tests holds fails)) (test_blocks_of a) (Tests holds fails) S
      (a.lines block level (Tests holds fails)) S (h.tests holds fails)
      (h.settles block level (Tests holds fails) S ready tt)

  pub truth-settled : (block level n : ℕ) (w : Wanted) (S : List ℕ) (test : ℕ → ℕ → ℕ → List Line)
      → Settled c (block + 3) n (Tests block (suc block)) S (test (block + 3) block (suc block)) S
      → Settled c block (3 + n) w S (truth c block level w test) ((target c level w).number ∷ S)
  truth-settled block level n w S test s = record {
    sets = S ∷ S ∷ ((target c level w).number ∷ S) ∷ s.sets;
    size = let e = s.size in omega (arith, e);
    flows = λ B a g. truth-flows c B block (target c level w).number test s.sets S a
        (λ k yes' no'. s.flows B k (yes', no'));
  }

  -- ---- operands, and lines behind them

  pub operand-then : (stays : Bool) (a : Part) (h : Live a) (block level : ℕ) (S : List ℕ) (ready : IsReady level S)
      (w : Wanted) (of : ValueType) (n : ℕ) (lines : List Line)
      → ((T : List ℕ) → (k : Held c D low-known a (operand c stays a) block level S) → k.T ≡ T
      → Settled c (block + (operand c stays a).blocks) n w T lines (reached c level w of T))
      → Settled c block ((operand c stays a).blocks + n) w S ((operand c stays a).lines block level ++ lines)
      (reached c level w of S)
  operand-then stays a h block level S ready w of n lines go =
      let x = operand c stays a in
      let k = operand-held c D low-known stays a h block level S ready in
      settled-less c D low-known block (x.blocks + n) w S (x.lines block level ++ lines) (reached c level w of k.T)
      (reached c level w of S) (reached-more c D low-known level w of S k.T k.more)
      (settled-then c D low-known block x.blocks n Own w S k.T (reached c level w of k.T) (x.lines block level) lines
      (λ B. tt) k.more k.settled (go k.T k refl))

  -- ---- conditions

  -- a test, and lines in a block behind it
  two-tests : (block n m : ℕ) (w' w : Wanted) (S T : List ℕ) (xs ys : List Line) → Settled c (suc block) n w' S xs S
      → Settled c (suc block + n) m w S ys T
      → ((B : ℕ → List ℕ) → Within (B block) S → Goes c B w S → Goes c B w' S)
      → Settled c block (suc (n + m)) w S (xs ++ Start block ∷ ys) T
  two-tests block n m w' w S T xs ys s t go = record {
    sets = S ∷ (s.sets ++ t.sets);
    size = let e = length-append s.sets t.sets in let e' = s.size in let f = t.size in omega (arith, e, e', f);
    flows = λ B a g.
        let e = s.size in
        flows-then c B S xs (Start block ∷ ys) S T
        (s.flows B (agrees-front B (suc block) s.sets t.sets a.1) (go B (block-is c B block S a.0) g))
        (starts c B block S S T ys a.0
        (t.flows B (agrees-at B t.sets (suc block + length s.sets) (suc block + n) (omega (arith, e))
        (agrees-back B (suc block) s.sets t.sets a.1)) g));
  }

  -- a test, lines in a block behind it whose value nobody wants, and a block behind both
  dropped-settled : (block n m : ℕ) (w' : Wanted) (S : List ℕ) (xs ys : List Line) → Settled c (block + 2) n w' S xs S
      → Settled c (block + 2 + n) m Dropped S ys S
      → ((B : ℕ → List ℕ) → Within (B block) S → Within (B (suc block)) S → Goes c B w' S)
      → Settled c block (2 + n + m) Dropped S
      (xs ++ (Start block ∷ (ys ++ (Emit (op.Jump (suc block)) ∷ Start (suc block) ∷ [])))) S
  dropped-settled block n m w' S xs ys s t go = record {
    sets = S ∷ S ∷ (s.sets ++ t.sets);
    size = let e = length-append s.sets t.sets in let e' = s.size in let f = t.size in omega (arith, e, e', f);
    flows = λ B a g.
        let e = s.size in
        let last : List Line = Emit (op.Jump (suc block)) ∷ Start (suc block) ∷ [] in
        let one = block-is c B block S a.0 in
        let other = block-is c B (suc block) S a.1.0 in
        let rest = agrees-at B (s.sets ++ t.sets) (suc (suc block)) (block + 2) (omega arith) a.1.1 in
        flows-then c B S xs (Start block ∷ (ys ++ last)) S S
        (s.flows B (agrees-front B (block + 2) s.sets t.sets rest) (go B one other))
        (starts c B block S S S (ys ++ last) a.0
        (flows-then c B S ys last S S
        (t.flows B (agrees-at B t.sets (block + 2 + length s.sets) (block + 2 + n) (omega (arith, e))
        (agrees-back B (block + 2) s.sets t.sets rest)) tt)
        (ends c B (op.Jump (suc block)) S S S (Start (suc block) ∷ []) refl refl refl (λ v is. absurd is)
        (way c B (suc block) S other) (starts c B (suc block) S S S [] a.1.0 (λ v is. is)))));
  }

  negated-part : (a : Part) → Live a → Live (negated c a)
  negated-part a h = record {
    settles = lines;
    stands = λ s e. absurd (cc);
    quiet = λ s e. absurd
        (cc);
    tests = λ holds fails. refl;
  }
    where
      turned : (block level holds fails : ℕ) (S : List ℕ) → IsReady level S
          → Settled c block (test_blocks_of a) (Tests holds fails) S (a.lines block level (Tests fails holds)) S
      turned block level holds fails S ready =
          let s = test-settled a h block level fails holds S ready in
          record { sets = s.sets; size = s.size; flows = λ B k g. s.flows B k (g.1, g.0) }

      lines : (block level : ℕ) (w : Wanted) (S : List ℕ) → IsReady level S → LowTarget c w int
          → Settled c block ((negated c a).blocks w) w S ((negated c a).lines block level w) (reached c level w int S)
      lines block level Dropped S ready low = h.settles block level Dropped S ready tt
      lines block level Own S ready low = truth-settled block level (test_blocks_of a) Own S
          (λ b holds fails. a.lines b level (Tests fails holds)) (turned (block + 3) level block (suc block) S ready)
      lines block level (ToLocal local) S ready low = truth-settled block level (test_blocks_of a) (ToLocal local) S
          (λ b holds fails. a.lines b level (Tests fails holds)) (turned (block + 3) level block (suc block) S ready)
      lines block level (Tests holds fails) S ready low = turned block level holds fails S ready

  -- what is a number, where the operator is one on numbers
  abbrev pub UnaryFits : UnaryOp → ValueType → Type 0
  UnaryFits Not of = Unit {0}
  UnaryFits _ of = (u : IntegerType) × (of ≡ Integer u)

  pub unary-part : (of : IntegerType) (operator : UnaryOp) (a : Part) → UnaryFits operator a.of → Live a
      → Live (unary_part c of operator a)
  unary-part of Plus a (u, e) h = retyped a (Integer of) (subst (λ (t : ValueType). Alike t (Integer of)) (sym e) tt) h
  unary-part of Minus a (u, e) h = retyped (number_part c op.Neg a) (Integer of) tt
      (number-part c D low-known op.Neg a u e (λ d s. ((refl, refl, refl), refl, refl)) h)
  unary-part of Complement a (u, e) h = retyped (number_part c op.Not a) (Integer of) tt
      (number-part c D low-known op.Not a u e (λ d s. ((refl, refl, refl), refl, refl)) h)
  unary-part of Not a e h = retyped (negated c a) (Integer of) tt (negated-part a h)

  pub and-part : (a b : Part) → Live a → Live b → Live (and_part c a b)
  and-part a b ha hb = record {
    settles = lines;
    stands = λ s e. absurd (cc);
    quiet = λ s e. absurd
        (cc);
    tests = λ holds fails. refl;
  }
    where
      both : (block level holds fails : ℕ) (S : List ℕ) → IsReady level S
          → Settled c block (1 + test_blocks_of a + test_blocks_of b) (Tests holds fails) S
          (and_test a b level block holds fails) S
      both block level holds fails S ready =
          settled-count c D low-known block (suc (test_blocks_of a + test_blocks_of b))
          (1 + test_blocks_of a + test_blocks_of b) (Tests holds fails) S (and_test a b level block holds fails) S
          (omega arith)
          (two-tests block (test_blocks_of a) (test_blocks_of b) (Tests block fails) (Tests holds fails) S S
          (a.lines (suc block) level (Tests block fails))
          (b.lines (suc block + test_blocks_of a) level (Tests holds fails))
          (test-settled a ha (suc block) level block fails S ready)
          (test-settled b hb (suc block + test_blocks_of a) level holds fails S ready) (λ B here g. (here, g.1)))

      lines : (block level : ℕ) (w : Wanted) (S : List ℕ) → IsReady level S → LowTarget c w int
          → Settled c block ((and_part c a b).blocks w) w S ((and_part c a b).lines block level w)
          (reached c level w int S)
      lines block level Dropped S ready low =
          dropped-settled block (test_blocks_of a) (b.blocks Dropped) (Tests block (suc block)) S
          (a.lines (block + 2) level (Tests block (suc block)))
          (b.lines (block + 2 + test_blocks_of a) level Dropped)
          (test-settled a ha (block + 2) level block (suc block) S ready)
          (hb.settles (block + 2 + test_blocks_of a) level Dropped S ready tt) (λ B one other. (one, other))
      lines block level Own S ready low = truth-settled block level (1 + test_blocks_of a + test_blocks_of b) Own S
          (and_test a b level) (both (block + 3) level block (suc block) S ready)
      lines block level (ToLocal local) S ready low =
          truth-settled block level (1 + test_blocks_of a + test_blocks_of b) (ToLocal local) S
          (and_test a b level) (both (block + 3) level block (suc block) S ready)
      lines block level (Tests holds fails) S ready low = both block level holds fails S ready

  pub or-part : (a b : Part) → Live a → Live b → Live (or_part c a b)
  or-part a b ha hb = record {
    settles = lines;
    stands = λ s e. absurd (cc);
    quiet = λ s e. absurd
        (cc);
    tests = λ holds fails. refl;
  }
    where
      both : (block level holds fails : ℕ) (S : List ℕ) → IsReady level S
          → Settled c block (1 + test_blocks_of a + test_blocks_of b) (Tests holds fails) S
          (or_test a b level block holds fails) S
      both block level holds fails S ready =
          settled-count c D low-known block (suc (test_blocks_of a + test_blocks_of b))
          (1 + test_blocks_of a + test_blocks_of b) (Tests holds fails) S (or_test a b level block holds fails) S
          (omega arith)
          (two-tests block (test_blocks_of a) (test_blocks_of b) (Tests holds block) (Tests holds fails) S S
          (a.lines (suc block) level (Tests holds block))
          (b.lines (suc block + test_blocks_of a) level (Tests holds fails))
          (test-settled a ha (suc block) level holds block S ready)
          (test-settled b hb (suc block + test_blocks_of a) level holds fails S ready) (λ B here g. (g.0, here)))

      lines : (block level : ℕ) (w : Wanted) (S : List ℕ) → IsReady level S → LowTarget c w int
          → Settled c block ((or_part c a b).blocks w) w S ((or_part c a b).lines block level w)
          (reached c level w int S)
      lines block level Dropped S ready low =
          dropped-settled block (test_blocks_of a) (b.blocks Dropped) (Tests (suc block) block) S
          (a.lines (block + 2) level (Tests (suc block) block))
          (b.lines (block + 2 + test_blocks_of a) level Dropped)
          (test-settled a ha (block + 2) level (suc block) block S ready)
          (hb.settles (block + 2 + test_blocks_of a) level Dropped S ready tt) (λ B one other. (other, one))
      lines block level Own S ready low = truth-settled block level (1 + test_blocks_of a + test_blocks_of b) Own S
          (or_test a b level) (both (block + 3) level block (suc block) S ready)
      lines block level (ToLocal local) S ready low =
          truth-settled block level (1 + test_blocks_of a + test_blocks_of b) (ToLocal local) S
          (or_test a b level) (both (block + 3) level block (suc block) S ready)
      lines block level (Tests holds fails) S ready low = both block level holds fails S ready

  -- ---- conversions

  narrowed-part : (t u : IntegerType) (a : Part) → a.of ≡ Integer u → Live a → Live (narrowed c t a)
  narrowed-part t u a of h =
      let x = operand c true a in
      record {
        settles = λ block level w S ready low.
            let ops : Spot → List Line = λ to. converting c level t to.number (x.spot level).number in
            let lines = made c (block + x.blocks) level w (Integer t) ops in
            settled-count c D low-known block (x.blocks + 0) x.blocks w S (x.lines block level ++ lines)
            (reached c level w (Integer t) S) (omega arith)
            (operand-then true a h block level S ready w (Integer t) 0 lines
            (λ T k e. record {
              sets = [];
              size = refl;
              flows = λ B b g. made-flows c B (block + x.blocks) level w (Integer t) ops T
                  (none-agrees c B (block + x.blocks) level w t (words_of (Integer t) (own c level) ++ T)) g
                  (converting-flows c B level t T (target c level w).number (x.spot level).number
                  (subst (λ (Q : List ℕ). IsIn (x.spot level).number Q) e
                  (number-in c D low-known a x u block level S of k)));
            }));
        stands = λ s e. absurd (cc);
        quiet = λ s e. absurd (cc);
        tests = λ holds fails. refl;
      }

  null-part : (t : IntegerType) (a : Part) → Live a → Live (as_pointer c t Void a)
  null-part t a h = record {
    settles = λ block level w S ready low.
        settled-count c D low-known block (a.blocks Dropped + 0) (a.blocks Dropped) w S
        (a.lines block level Dropped ++ null_lines c level w) (reached c level w (Pointer t) S) (omega arith)
        (settled-then c D low-known block (a.blocks Dropped) 0 Dropped w S S (reached c level w (Pointer t) S)
        (a.lines block level Dropped) (null_lines c level w) (λ B. tt) (λ v is. is)
        (h.settles block level Dropped S ready tt)
        (record { sets = []; size = refl; flows = λ B b g. null-flows c B level w t S g }));
    stands = λ s e. absurd (cc);
    quiet = λ s e. absurd (cc);
    tests = λ holds fails. refl;
  }

  pointer-part : (t : IntegerType) (of : ValueType) (a : Part) → Live a → Live (as_pointer c t of a)
  pointer-part t (Pointer u) a h = h
  pointer-part t Void a h = null-part t a h
  pointer-part t (Integer u) a h =
      let n = null-part t a h in
      record {
        settles = n.settles;
        stands = λ s e. absurd (cc);
        quiet = λ s e. absurd
            (cc);
        tests = λ holds fails. refl;
      }

  integer-turned : (t : IntegerType) (of : ValueType) → Becomes (Integer t) of → (u : IntegerType) × (of ≡ Integer u)
  integer-turned t Void h = absurd h
  integer-turned t (Integer u) h = (u, refl)
  integer-turned t (Pointer u) h = absurd h

  -- what is dropped leaves all as it was
  dropped-any : (a : Part) → Live a → (block level : ℕ) (w : Wanted) (S : List ℕ) → IsReady level S
      → Settled c block (a.blocks Dropped) w S (a.lines block level Dropped) (reached c level w Void S)
  dropped-any a h block level w S ready =
      let s = h.settles block level Dropped S ready tt in
      record {
        sets = s.sets;
        size = s.size;
        flows = λ B k g. subst (λ (T : List ℕ). F c B S (a.lines block level Dropped) T) (sym (as-before level w S))
            (s.flows B k tt);
      }
    where
      as-before : (level : ℕ) (w : Wanted) (S : List ℕ) → reached c level w Void S ≡ S
      as-before level Dropped S = refl
      as-before level Own S = refl
      as-before level (ToLocal local) S = refl
      as-before level (Tests holds fails) S = refl

  pub turned-part : (of : ValueType) (a : Part) → Becomes of a.of → Live a → Live (in_type c of a)
  turned-part Void a turns h = record {
    settles = λ block level w S ready low. dropped-any a h block level w S ready;
    stands = λ s e. absurd (cc);
    quiet = λ s e. absurd (cc);
    tests = λ holds fails. refl;
  }
  turned-part (Integer Char) a turns h =
      let (u, e) = integer-turned Char a.of turns in narrowed-part Char u a e h
  turned-part (Integer Short) a turns h =
      let (u, e) = integer-turned Short a.of turns in narrowed-part Short u a e h
  turned-part (Integer Int) a turns h = h
  turned-part (Integer UnsignedInt) a turns h = h
  turned-part (Pointer t) a turns h = pointer-part t a.of a h

  pub turned-alike : (of : ValueType) (a : Part) → Becomes of a.of → Alike (in_type c of a).of of
  turned-alike Void a turns = tt
  turned-alike (Integer Char) a turns = tt
  turned-alike (Integer Short) a turns = tt
  turned-alike (Integer Int) a turns =
      let (u, e) = integer-turned Int a.of turns in subst (λ (t : ValueType). Alike t int) (sym e) tt
  turned-alike (Integer UnsignedInt) a turns =
      let (u, e) = integer-turned UnsignedInt a.of turns in
      subst (λ (t : ValueType). Alike t (Integer UnsignedInt)) (sym e) tt
  turned-alike (Pointer t) a turns = by a.of refl
    where
      by : (of : ValueType) → a.of ≡ of → Alike (as_pointer c t of a).of (Pointer t)
      by Void e = tt
      by (Integer u) e = tt
      by (Pointer u) e = subst (λ (v : ValueType). Alike v (Pointer t)) (sym e) tt

  pub cast-part : (to : ValueType) (a : Part) → Becomes to a.of → Live a → Live (cast_part c to a)
  cast-part to a turns h = retyped (in_type c to a) to (turned-alike to a turns) (turned-part to a turns h)

  pub comma-part : (a b : Part) → Live a → Live b → Live (comma_part a b)
  comma-part a b ha hb = record {
    settles = λ block level w S ready low.
        settled-then c D low-known block (a.blocks Dropped) (b.blocks w) Dropped w S S (reached c level w b.of S)
        (a.lines block level Dropped) (b.lines (block + a.blocks Dropped) level w) (λ B. tt) (λ v is. is)
        (ha.settles block level Dropped S ready tt) (hb.settles (block + a.blocks Dropped) level w S ready low);
    stands = λ s e. absurd (cc);
    quiet = λ s e. absurd (cc);
    tests = λ holds fails. ap (λ (n : ℕ). a.blocks Dropped + n) (hb.tests holds fails);
  }

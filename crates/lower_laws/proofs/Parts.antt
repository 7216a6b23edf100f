-- Sets of the lines of expressions: what is behind a part's lines has its value, and all that was there before.
use Rattle.std.proofs.Common.{◌≡◌, ◌<◌, ◌≤◌, ◌⊎◌, ℕ, suc, ◌+◌, ◌*◌, Bool, true, false, ℤ, pos, List, []}
use Rattle.std.proofs.Common.{◌∷◌, ◌++◌, Option, Some, None, inl, inr, refl, sym, ◌∙◌, subst, arith, length}
use Rattle.std.proofs.Common.{length-append}
use Rattle.c_tree.specs.declared.expression.ArrayRef.{ArrayRef}
use Rattle.c_tree.specs.declared.expression.ArrayRef.TheVariants as refs
use Rattle.c_tree.specs.declared.expression.BinaryOp.{BinaryOp}
use Rattle.c_tree.specs.declared.types.IntegerType.{IntegerType}
use Rattle.c_tree.specs.declared.types.IntegerType.TheVariants.{Char, Short, Int, UnsignedInt}
use Rattle.c_tree.specs.declared.types.ValueType.{ValueType}
use Rattle.c_tree.specs.declared.types.ValueType.TheVariants.{Void, Integer, Pointer}
use Rattle.c_tree.specs.Program.{int}
use Rattle.c_tree.specs.Store.{converted}
use Rattle.flow_graph.specs.declared.op.Op.{Op}
use Rattle.flow_graph.specs.declared.op.Op.TheVariants as op
use Rattle.flow_graph.specs.Graphs.{IsIn}
use Rattle.flow_graph.specs.Liveness.{defined, uses}
use Rattle.lower_lines.specs.Expressions.{array_line, binary_part}
use Rattle.lower_lines.specs.Expressions.{constant_part, local_part, number_part, object_part}
use Rattle.lower_lines.specs.Expressions.{reading, start_part, test_blocks_of, words_of}
use Rattle.lower_lines.specs.Lines.{Line, Emit}
use Rattle.lower_lines.specs.Operators.{applied, applied_blocks}
use Rattle.lower_lines.specs.Parts.{Wanted, Dropped, Own, ToLocal, Tests, Operand, Part, bits_of, made}
use Rattle.lower_lines.specs.Parts.{operand, standing, target, tested_blocks}
use Rattle.lower_lines.specs.Variables.{Context, Spot, local_spot, local_variables, moved, own}
use Rattle.lower_laws.specs.Flows.{Within}
use Rattle.lower_laws.proofs.Applied.{AllFree, Free, LowTarget, Settled, applied-settled, none-agrees}
use Rattle.lower_laws.proofs.Pieces.{LinesGive}
use Rattle.lower_laws.proofs.Sets.{Agrees, F, Goes, IsSimple, agrees-at, agrees-back, agrees-front}
use Rattle.lower_laws.proofs.Sets.{both-in, delivered-flows, flows-then, front-in, goes-more, last-less, made-flows}
use Rattle.lower_laws.proofs.Sets.{more-in, moved-flows, one-in, reached, swapped, tested-size, tested_sets}
use Rattle.lower_laws.proofs.Sets.{writes}

module _ (c : Context) (D : List ℕ) (low-known : (v : ℕ) → IsIn v D → v < local_variables c.function) where
  abbrev L : ℕ
  L = local_variables c.function

  -- the known locals are there, and of the temporaries those of lower levels alone
  pub record Ready (level : ℕ) (S : List ℕ) : Type 0 where
    pub known : Within D S
    pub under : (v : ℕ) → IsIn v S → v < L + level * 5

  pub record LivePart (a : Part) : Type 0 where
    pub settles : (block level : ℕ) (w : Wanted) (S : List ℕ) → Ready level S → LowTarget c w a.of
        → Settled c block (a.blocks w) w S (a.lines block level w) (reached c level w a.of S)
    pub stands : (s : Spot) → a.stands ≡ Some s → Within (words_of a.of s) D
    pub quiet : (s : Spot) → a.stands ≡ Some s → a.blocks Own ≡ 0
    pub tests : (holds fails : ℕ) → a.blocks (Tests holds fails) ≡ test_blocks_of a

  -- ---- sets of lines one after another

  pub settled-less : (block n : ℕ) (w : Wanted) (S : List ℕ) (lines : List Line) (T U : List ℕ) → Within U T
      → Settled c block n w S lines T → Settled c block n w S lines U
  settled-less block n w S lines T U h s = record {
    sets = s.sets;
    size = s.size;
    flows = λ B a g. last-less c B S lines T U h (s.flows B a g);
  }

  pub settled-count : (block n m : ℕ) (w : Wanted) (S : List ℕ) (lines : List Line) (T : List ℕ) → n ≡ m
      → Settled c block n w S lines T → Settled c block m w S lines T
  settled-count block n m w S lines T e s = record { sets = s.sets; size = s.size ∙ e; flows = s.flows }

  -- a part's lines that go nowhere else, and lines behind them
  pub settled-then : (block n m : ℕ) (w' w : Wanted) (S T U : List ℕ) (xs ys : List Line)
      → ((B : ℕ → List ℕ) → Goes c B w' S) → Within S T → Settled c block n w' S xs T
      → Settled c (block + n) m w T ys U → Settled c block (n + m) w S (xs ++ ys) U
  settled-then block n m w' w S T U xs ys stay h s t = record {
    sets = s.sets ++ t.sets;
    size = let e = length-append s.sets t.sets in let e' = s.size in let f = t.size in omega (arith, e, e', f);
    flows = λ B a g.
        let e = s.size in
        flows-then c B S xs ys T U (s.flows B (agrees-front B block s.sets t.sets a) (stay B))
        (t.flows B (agrees-at B t.sets (block + length s.sets) (block + n) (omega (arith, e))
        (agrees-back B block s.sets t.sets a)) (goes-more c B w S T h g));
  }

  pub reached-more : (level : ℕ) (w : Wanted) (of : ValueType) (S T : List ℕ) → Within S T
      → Within (reached c level w of S) (reached c level w of T)
  reached-more level Dropped of S T h = h
  reached-more level Own of S T h =
      let xs = words_of of (own c level) in
      both-in xs S (xs ++ T) (front-in xs T) (λ v is. more-in xs T v (h v is))
  reached-more level (ToLocal local) of S T h =
      let xs = words_of of (local_spot c local) in
      both-in xs S (xs ++ T) (front-in xs T) (λ v is. more-in xs T v (h v is))
  reached-more level (Tests holds fails) of S T h = h

  pub reached-has : (level : ℕ) (w : Wanted) (of : ValueType) (S : List ℕ) → Within S (reached c level w of S)
  reached-has level Dropped of S = λ v is. is
  reached-has level Own of S = more-in (words_of of (own c level)) S
  reached-has level (ToLocal local) of S = more-in (words_of of (local_spot c local)) S
  reached-has level (Tests holds fails) of S = λ v is. is

  -- ---- the temporaries of a level

  pub in-own : (of : ValueType) (level v : ℕ) → IsIn v (words_of of (own c level))
      → (L + level * 5 ≤ v) × (v < L + suc level * 5) × Free c level v
  in-own Void level v h = absurd h
  in-own (Integer t) level v (inl e) = (
    omega (arith, e),
    omega (arith, e),
    (λ e'. absurd (omega (arith, e, e')), λ e'. absurd (omega (arith, e, e'))),
  )
  in-own (Integer t) level v (inr none) = absurd none
  in-own (Pointer t) level v (inl e) = (
    omega (arith, e),
    omega (arith, e),
    (λ e'. absurd (omega (arith, e, e')), λ e'. absurd (omega (arith, e, e'))),
  )
  in-own (Pointer t) level v (inr (inl e)) = (
    omega (arith, e),
    omega (arith, e),
    (λ e'. absurd (omega (arith, e, e')), λ e'. absurd (omega (arith, e, e'))),
  )
  in-own (Pointer t) level v (inr (inr none)) = absurd none

  -- a variable in one of two lists
  pub either-in : (xs S : List ℕ) (v : ℕ) → IsIn v (xs ++ S) → IsIn v xs ⊎ IsIn v S
  either-in [] S v h = inr h
  either-in (x ∷ xs) S v (inl e) = inl (inl e)
  either-in (x ∷ xs) S v (inr h) = elim (either-in xs S v h) [ inl is ↦ inl (inr is) | inr is ↦ inr is ]

  below-free : (level v : ℕ) → v < L + level * 5 → Free c level v
  below-free level v h = (λ e. absurd (omega (arith, e, h)), λ e. absurd (omega (arith, e, h)))

  pub above-free : (level v : ℕ) → L + suc level * 5 ≤ v → Free c level v
  above-free level v h = (λ e. absurd (omega (arith, e, h)), λ e. absurd (omega (arith, e, h)))

  pub ready-free : (level : ℕ) (S : List ℕ) → Ready level S → AllFree c level S
  ready-free level S h v is = below-free level v (h.under v is)

  -- ---- operands

  -- What is there behind the lines of an operand: its value, and what was there before.
  pub record Held (a : Part) (x : Operand) (block level : ℕ) (S : List ℕ) : Type 0 where
    pub T : List ℕ
    pub settled : Settled c block x.blocks Own S (x.lines block level) T
    pub more : Within S T
    pub has : Within (words_of a.of (x.spot level)) T
    pub ready : Ready (suc level) T
    pub free : AllFree c level T
    pub new : (v : ℕ) → IsIn v T → IsIn v S ⊎ (L + level * 5 ≤ v)

  standing-held : (a : Part) (o : Option Spot) → ((s : Spot) → o ≡ Some s → a.stands ≡ Some s) → LivePart a
      → (block level : ℕ) (S : List ℕ) → Ready level S → Held a (standing c a o) block level S
  standing-held a None same h block level S ready =
      let xs = words_of a.of (own c level) in
      record {
        T = xs ++ S;
        settled = h.settles block level Own S ready tt;
        more = more-in xs S;
        has = front-in xs S;
        ready = record {
          known = λ v is. more-in xs S v (ready.known v is);
          under = λ v is. elim (either-in xs S v is) [
            | inl own' ↦ (in-own a.of level v own').1
            | inr old ↦ (let k = ready.under v old in omega (arith, k))
          ];
        };
        free = λ v is. elim (either-in xs S v is) [
          | inl own' ↦ (in-own a.of level v own').2
          | inr old ↦ ready-free level S ready v old
        ];
        new = λ v is. elim (either-in xs S v is) [
          | inl own' ↦ inr (in-own a.of level v own').0
          | inr old ↦ inl old
        ];
      }
  standing-held a (Some s) same h block level S ready = record {
    T = S;
    settled = record { sets = []; size = refl; flows = λ B k g v is. is };
    more = λ v is. is;
    has = λ v is. ready.known v (h.stands s (same s refl) v is);
    ready = record {
      known = ready.known;
      under = λ v is. let k = ready.under v is in omega (arith, k);
    };
    free = ready-free level S ready;
    new = λ v is. inl is;
  }

  pub operand-held : (stays : Bool) (a : Part) → LivePart a → (block level : ℕ) (S : List ℕ) → Ready level S
      → Held a (operand c stays a) block level S
  operand-held true a h block level S ready = standing-held a a.stands (λ s e. e) h block level S ready
  operand-held false a h block level S ready =
      standing-held a None (λ s e. absurd (never s e)) h block level S ready
    where
      never : (s : Spot) → None ≡ Some s → ⊥
      never s e = cc

  nowhere : (a : Part) → a.stands ≡ None → (s : Spot) → a.stands ≡ Some s → Within (words_of a.of s) D
  nowhere a e s e' = absurd (never a.stands s e e')
    where
      never : (o : Option Spot) (s : Spot) → o ≡ None → o ≡ Some s → ⊥
      never o s e e' = cc

  -- ---- names, numbers and strings

  -- a number that one op makes
  one-made : (block level : ℕ) (w : Wanted) (t : IntegerType) (i : ℕ → Op) (S : List ℕ)
      → ((d : ℕ) → IsSimple c (λ b. []) (i d) × (defined (i d) ≡ Some d) × Within (uses (i d)) S)
      → Settled c block 0 w S (made c block level w (Integer t) (λ to. Emit (i to.number) ∷ []))
      (reached c level w (Integer t) S)
  one-made block level w t i S h = record {
    sets = [];
    size = refl;
    flows = λ B a g.
        let d = (target c level w).number in
        made-flows c B block level w (Integer t) (λ to. Emit (i to.number) ∷ []) S
        (none-agrees c B block level w t (words_of (Integer t) (own c level) ++ S)) g
        (writes c B (i d) d S (d ∷ S) [] (h d).0 (h d).1 (h d).2 (λ v is. is));
  }

  pub constant-part : (t : IntegerType) (n : ℤ) → LivePart (constant_part c t n)
  constant-part t n = record {
    settles = λ block level w S ready low. one-made block level w t (λ d. op.Const d (converted t n)) S
        (λ d. ((refl, refl, refl), refl, λ v is. absurd is));
    stands = λ s e. absurd (cc);
    quiet = λ s e. absurd (cc);
    tests = λ holds fails. refl;
  }

  pub object-part : (t : IntegerType) (k : ℕ) → LivePart (object_part c t k)
  object-part t k = record {
    settles = λ block level w S ready low. one-made block level w t (λ d. op.Get (bits_of t) d k) S
        (λ d. ((refl, refl, refl), refl, λ v is. absurd is));
    stands = λ s e. absurd (cc);
    quiet = λ s e. absurd (cc);
    tests = λ holds fails. refl;
  }

  array-flows : (B : ℕ → List ℕ) (array : ArrayRef) (to : Spot) (S : List ℕ)
      → F c B S (array_line array to.array ∷ Emit (op.Const to.number (pos 0)) ∷ []) (to.array ∷ to.number ∷ S)
  array-flows B (refs.Static k) to S =
      writes c B (op.Static to.array k) to.array S (to.array ∷ to.number ∷ S)
      (Emit (op.Const to.number (pos 0)) ∷ []) (refl, refl, refl) refl (λ v is. absurd is)
      (writes c B (op.Const to.number (pos 0)) to.number (to.array ∷ S) (to.array ∷ to.number ∷ S) []
      (refl, refl, refl) refl (λ v is. absurd is) (swapped c B to.array to.number S))
  array-flows B (refs.Frame k) to S =
      writes c B (op.Frame to.array k) to.array S (to.array ∷ to.number ∷ S)
      (Emit (op.Const to.number (pos 0)) ∷ []) (refl, refl, refl) refl (λ v is. absurd is)
      (writes c B (op.Const to.number (pos 0)) to.number (to.array ∷ S) (to.array ∷ to.number ∷ S) []
      (refl, refl, refl) refl (λ v is. absurd is) (swapped c B to.array to.number S))

  pub start-part : (t : IntegerType) (array : ArrayRef) → LivePart (start_part c t array)
  start-part t array = record {
    settles = λ block level w S ready low. record {
      sets = tested_sets c level w (Pointer t) (words_of (Pointer t) (own c level) ++ S);
      size = tested-size c level w (Pointer t) (words_of (Pointer t) (own c level) ++ S);
      flows = λ B a g. made-flows c B block level w (Pointer t)
          (λ to. array_line array to.array ∷ Emit (op.Const to.number (pos 0)) ∷ []) S a g
          (array-flows B array (target c level w) S);
    };
    stands = λ s e. absurd (cc);
    quiet = λ s e. absurd (cc);
    tests = λ holds fails. refl;
  }

  reading-flows : (B : ℕ → List ℕ) (block level : ℕ) (w : Wanted) (of : ValueType) (spot : Spot) (S : List ℕ)
      → Within (words_of of spot) S → Agrees B block (tested_sets c level w of S) → Goes c B w S
      → F c B S (reading c block level w of spot) (reached c level w of S)
  reading-flows B block level Dropped of spot S h a g =
      let xs = words_of of (own c level) in
      last-less c B S (moved of (own c level) spot) (xs ++ S) S (more-in xs S)
      (moved-flows c B of S (own c level) spot h)
  reading-flows B block level Own of spot S h a g = delivered-flows c B block level Own of spot S h a g
  reading-flows B block level (ToLocal local) of spot S h a g =
      delivered-flows c B block level (ToLocal local) of spot S h a g
  reading-flows B block level (Tests holds fails) of spot S h a g =
      delivered-flows c B block level (Tests holds fails) of spot S h a g

  some-same : (x y : Spot) → Some x ≡ Some y → x ≡ y
  some-same x y e = cc

  abbrev WideLocal : ValueType → ℕ → Part
  WideLocal of k = record {
    of = of;
    simple = true;
    stands = Some (local_spot c k);
    levels = 1;
    blocks = λ wanted. tested_blocks wanted of;
    lines = λ block level wanted. reading c block level wanted of (local_spot c k);
  }

  wide-local : (of : ValueType) (k : ℕ) → Within (words_of of (local_spot c k)) D → LivePart (WideLocal of k)
  wide-local of k h = record {
    settles = λ block level w S ready low. record {
      sets = tested_sets c level w of S;
      size = tested-size c level w of S;
      flows = λ B a g. reading-flows B block level w of (local_spot c k) S (λ v is. ready.known v (h v is)) a g;
    };
    stands = λ s e. subst (λ (q : Spot). Within (words_of of q) D) (some-same (local_spot c k) s e) h;
    quiet = λ s e. refl;
    tests = λ holds fails. refl;
  }

  pub local-part : (of : ValueType) (k : ℕ) → Within (words_of of (local_spot c k)) D → LivePart (local_part c of k)
  local-part (Integer Char) k h = record {
    settles = λ block level w S ready low. one-made block level w Char (λ d. op.Wide d (local_spot c k).number) S
        (λ d. (
          (refl, refl, refl),
          refl,
          one-in S (local_spot c k).number
              (ready.known (local_spot c k).number (h (local_spot c k).number (inl refl))),
        ));
    stands = λ s e. absurd (cc);
    quiet = λ s e. absurd (cc);
    tests = λ holds fails. refl;
  }
  local-part Void k h = wide-local Void k h
  local-part (Integer Short) k h = wide-local (Integer Short) k h
  local-part (Integer Int) k h = wide-local (Integer Int) k h
  local-part (Integer UnsignedInt) k h = wide-local (Integer UnsignedInt) k h
  local-part (Pointer t) k h = wide-local (Pointer t) k h

  -- ---- operators

  pub number-in : (a : Part) (x : Operand) (u : IntegerType) (block level : ℕ) (S : List ℕ) → a.of ≡ Integer u
      → (k : Held a x block level S) → IsIn (x.spot level).number k.T
  number-in a x u block level S e k =
      subst (λ (t : ValueType). Within (words_of t (x.spot level)) k.T) e k.has (x.spot level).number (inl refl)

  pub number-part : (i : ℕ → ℕ → Op) (a : Part) (u : IntegerType) → a.of ≡ Integer u
      → ((d s : ℕ) → IsSimple c (λ b. []) (i d s) × (defined (i d s) ≡ Some d) × (uses (i d s) ≡ s ∷ []))
      → LivePart a → LivePart (number_part c i a)
  number-part i a u e simple h =
      let x = operand c true a in
      record {
        settles = λ block level w S ready low.
            let k = operand-held true a h block level S ready in
            let n = (x.spot level).number in
            let lines = made c (block + x.blocks) level w int (λ to. Emit (i to.number n) ∷ []) in
            settled-count block (x.blocks + 0) x.blocks w S (x.lines block level ++ lines) (reached c level w int S)
            (omega arith)
            (settled-less block (x.blocks + 0) w S (x.lines block level ++ lines) (reached c level w int k.T)
            (reached c level w int S) (reached-more level w int S k.T k.more)
            (settled-then block x.blocks 0 Own w S k.T (reached c level w int k.T) (x.lines block level) lines
            (λ B. tt) k.more k.settled
            (one-made (block + x.blocks) level w Int (λ d. i d n) k.T
            (λ d. (
              (simple d n).0,
              (simple d n).1,
              subst (λ (vs : List ℕ). Within vs k.T) (sym (simple d n).2)
                  (one-in k.T n (number-in a x u block level S e k)),
            )))));
        stands = λ s e. absurd (cc);
        quiet = λ s e. absurd (cc);
        tests = λ holds fails. refl;
      }

  pub binary-part : (of : ValueType) (operator : BinaryOp) (a b : Part) → LinesGive operator a.of b.of of → LivePart a
      → LivePart b → LivePart (binary_part c of operator a b)
  binary-part of operator a b gives ha hb =
      let x = operand c b.simple a in
      let y = operand c true b in
      record {
        settles = λ block level w S ready low.
            let k = operand-held b.simple a ha block level S ready in
            let m = operand-held true b hb (block + x.blocks) (suc level) k.T k.ready in
            let n = applied_blocks w operator a.of b.of in
            let ops = applied c (block + x.blocks + y.blocks) level w operator a.of b.of (x.spot level)
            (y.spot (suc level)) in
            let second = y.lines (block + x.blocks) (suc level) in
            let T = reached c level w of m.T in
            settled-count block (x.blocks + (y.blocks + n)) (x.blocks + y.blocks + n) w S
            (x.lines block level ++ (second ++ ops)) (reached c level w of S) (omega arith)
            (settled-less block (x.blocks + (y.blocks + n)) w S (x.lines block level ++ (second ++ ops)) T
            (reached c level w of S) (reached-more level w of S m.T (λ v is. m.more v (k.more v is)))
            (settled-then block x.blocks (y.blocks + n) Own w S k.T T (x.lines block level) (second ++ ops)
            (λ B. tt) k.more k.settled
            (settled-then (block + x.blocks) y.blocks n Own w k.T m.T T second ops (λ B. tt) m.more m.settled
            (applied-settled c (block + x.blocks + y.blocks) level w operator a.of b.of of (x.spot level)
            (y.spot (suc level)) m.T gives (λ v is. m.more v (k.has v is)) m.has (still level k.T m.T k.free m.new)
            low))));
        stands = λ s e. absurd (cc);
        quiet = λ s e. absurd (cc);
        tests = λ holds fails. refl;
      }
    where
      still : (level : ℕ) (S T : List ℕ) → AllFree c level S
          → ((v : ℕ) → IsIn v T → IsIn v S ⊎ (L + suc level * 5 ≤ v)) → AllFree c level T
      still level S T h new v is =
          elim (new v is) [ inl old ↦ h v old | inr above ↦ above-free level v above ]

-- Sets of lines, put together: ops, copies, conversions, tests and truth values.
use Rattle.std.proofs.Common.{◌≡◌, ◌≢◌, ◌<◌, ◌⊎◌, ℕ, suc, ◌+◌, Bool, true, false, pos, List, [], ◌∷◌, ◌++◌}
use Rattle.std.proofs.Common.{Option, Some, None, inl, inr, refl, sym, ap, ◌∙◌, subst, arith, length}
use Rattle.std.specs.Prelude.{if◌then◌else◌}
use Rattle.std.proofs.lemmas.Bool.Decides.{eqb_tells}
use Rattle.std.proofs.lemmas.Option.{same_Some}
use Rattle.c_tree.specs.declared.types.IntegerType.{IntegerType}
use Rattle.c_tree.specs.declared.types.IntegerType.TheVariants.{Char, Short, Int, UnsignedInt}
use Rattle.c_tree.specs.declared.types.ValueType.{ValueType}
use Rattle.c_tree.specs.declared.types.ValueType.TheVariants.{Void, Integer, Pointer}
use Rattle.c_tree.specs.Program.{int}
use Rattle.flow_graph.specs.declared.op.Op.{Op}
use Rattle.flow_graph.specs.declared.op.Comparison.TheVariants.{Ne}
use Rattle.flow_graph.specs.declared.op.Op.TheVariants as op
use Rattle.flow_graph.specs.Graphs.{IsIn, is_end}
use Rattle.flow_graph.specs.Kinds.{marked}
use Rattle.flow_graph.specs.Liveness.{defined, uses}
use Rattle.lower_lines.specs.Expressions.{words_of}
use Rattle.lower_lines.specs.Lines.{Line, Start, Emit}
use Rattle.lower_lines.specs.Parts.{Wanted, Dropped, Own, ToLocal, Tests, chosen, chosen_blocks, converted_lines}
use Rattle.lower_lines.specs.Parts.{converting, delivered, made, null_lines, number_test, pointer_test, target}
use Rattle.lower_lines.specs.Parts.{test_blocks, test_lines, tested_blocks}
use Rattle.lower_lines.specs.Variables.{Context, ForByte, ForScratch, Spot, copied, local_spot}
use Rattle.lower_lines.specs.Variables.{local_variables, moved, own, temporary}
use Rattle.lower_laws.specs.Flows.{Flows, Within, fixed, targets}
pub use Rattle.lower_laws.specs.Settled.{Agrees, Goes, reached}

-- ---- membership

pub one-in : (S : List ℕ) (x : ℕ) → IsIn x S → Within (x ∷ []) S
one-in S x h v (inl e) = subst (λ (u : ℕ). IsIn u S) e h
one-in S x h v (inr none) = absurd none

pub two-in : (S : List ℕ) (x y : ℕ) → IsIn x S → IsIn y S → Within (x ∷ y ∷ []) S
two-in S x y h k v (inl e) = subst (λ (u : ℕ). IsIn u S) e h
two-in S x y h k v (inr rest) = one-in S y k v rest

pub more-in : (xs S : List ℕ) → Within S (xs ++ S)
more-in [] S v h = h
more-in (x ∷ xs) S v h = inr (more-in xs S v h)

pub front-in : (xs S : List ℕ) → Within xs (xs ++ S)
front-in [] S v h = absurd h
front-in (x ∷ xs) S v (inl e) = inl e
front-in (x ∷ xs) S v (inr h) = inr (front-in xs S v h)

pub both-in : (xs S T : List ℕ) → Within xs T → Within S T → Within (xs ++ S) T
both-in [] S T h k v is = k v is
both-in (x ∷ xs) S T h k v (inl e) = h v (inl e)
both-in (x ∷ xs) S T h k v (inr is) = both-in xs S T (λ u i. h u (inr i)) k v is

pub agrees-front : (B : ℕ → List ℕ) (block : ℕ) (xs ys : List (List ℕ)) → Agrees B block (xs ++ ys)
    → Agrees B block xs
agrees-front B block [] ys h = tt
agrees-front B block (x ∷ xs) ys h = (h.0, agrees-front B (suc block) xs ys h.1)

pub agrees-at : (B : ℕ → List ℕ) (sets : List (List ℕ)) (x y : ℕ) → x ≡ y → Agrees B x sets → Agrees B y sets
agrees-at B sets x y e h = subst (λ (n : ℕ). Agrees B n sets) e h

pub agrees-back : (B : ℕ → List ℕ) (block : ℕ) (xs ys : List (List ℕ)) → Agrees B block (xs ++ ys)
    → Agrees B (block + length xs) ys
agrees-back B block [] ys h = agrees-at B ys block (block + 0) (omega arith) h
agrees-back B block (x ∷ xs) ys h =
    agrees-at B ys (suc block + length xs) (block + suc (length xs)) (omega arith) (agrees-back B (suc block) xs ys h.1)

module _ (c : Context) where
  abbrev L : ℕ
  L = local_variables c.function

  -- ---- lines one after another

  module _ (B : ℕ → List ℕ) where
    abbrev pub F : List ℕ → List Line → List ℕ → Type 0
    F S lines T = Flows L B S lines T

    pub wider : (S S' : List ℕ) (lines : List Line) (T : List ℕ) → Within S S' → F S lines T → F S' lines T
    wider S S' [] T w h = λ v is. w v (h v is)
    wider S S' (Start b ∷ lines) T w h = h
    wider S S' (Emit i ∷ lines) T w h = (h.0, h.1, λ v is. w v (h.2 v is), h.3, h.4)

    pub last-less : (S : List ℕ) (lines : List Line) (T U : List ℕ) → Within U T → F S lines T → F S lines U
    last-less S [] T U w h = λ v is. h v (w v is)
    last-less S (Start b ∷ lines) T U w h = last-less (B b) lines T U w h
    last-less S (Emit i ∷ lines) T U w h = (h.0, h.1, h.2, h.3, last-less h.1 lines T U w h.4)

    pub flows-then : (S : List ℕ) (xs ys : List Line) (T U : List ℕ) → F S xs T → F T ys U → F S (xs ++ ys) U
    flows-then S [] ys T U h k = wider T S ys U h k
    flows-then S (Start b ∷ xs) ys T U h k = flows-then (B b) xs ys T U h k
    flows-then S (Emit i ∷ xs) ys T U h k = (h.0, h.1, h.2, h.3, flows-then h.1 xs ys T U h.4 k)

    -- ---- ops

    none-pair : (o : Option (ℕ × ℕ)) (p : ℕ × ℕ) → o ≡ None → o ≡ Some p → ⊥
    none-pair o p e e' = cc

    none-number : (o : Option ℕ) (n : ℕ) → o ≡ None → o ≡ Some n → ⊥
    none-number o n e e' = cc

    end-not : (b : Bool) → b ≡ true → b ≡ false → ⊥
    end-not b e e' = cc

    -- an op that is no end, has no fixed operand, and is no mark
    abbrev pub IsSimple : Op → Type 0
    IsSimple i = (fixed i ≡ None) × (marked i ≡ None) × (targets i ≡ [])

    -- it writes a variable
    pub writes : (i : Op) (d : ℕ) (S T : List ℕ) (lines : List Line) → IsSimple i → defined i ≡ Some d
        → Within (uses i) S → F (d ∷ S) lines T → F S (Emit i ∷ lines) T
    writes i d S T lines simple e used h = (
      S,
      d ∷ S,
      λ v is. is,
      record {
        uses = used;
        goes = λ x is. absurd (subst (λ (xs : List ℕ). IsIn x xs) simple.2 is);
        onward = λ plain v is. written v is;
        dies = λ k a is. absurd (none-pair (fixed i) (k, a) simple.0 is);
        mark = λ n is. absurd (none-number (marked i) n simple.1 is);
      },
      h,
    )
      where
        written : (v : ℕ) → IsIn v (d ∷ S) → (defined i ≡ Some v) ⊎ IsIn v S
        written v (inl same) = inl (e ∙ ap Some same)
        written v (inr is) = inr is

    -- it writes none, or nobody uses what it writes
    pub keeps : (i : Op) (S T : List ℕ) (lines : List Line) → IsSimple i → Within (uses i) S → F S lines T
        → F S (Emit i ∷ lines) T
    keeps i S T lines simple used h = (
      S,
      S,
      λ v is. is,
      record {
        uses = used;
        goes = λ x is. absurd (subst (λ (xs : List ℕ). IsIn x xs) simple.2 is);
        onward = λ plain v is. inr is;
        dies = λ k a is. absurd (none-pair (fixed i) (k, a) simple.0 is);
        mark = λ n is. absurd (none-number (marked i) n simple.1 is);
      },
      h,
    )

    -- a mark: only locals stay
    pub marks : (n : ℕ) (S R T : List ℕ) (lines : List Line) → Within R S → ((v : ℕ) → IsIn v R → v < L)
        → F R lines T → F S (Emit (op.Mark n) ∷ lines) T
    marks n S R T lines w low h = (
      R,
      R,
      w,
      record {
        uses = λ v is. absurd is;
        goes = λ x is. absurd is;
        onward = λ plain v is. inr is;
        dies = λ k a is. absurd (none-pair (fixed (op.Mark n)) (k, a) refl is);
        mark = λ m is v here. low v here;
      },
      h,
    )

    -- an end: whatever stands behind it is another block
    pub ends : (i : Op) (S R T : List ℕ) (lines : List Line) → is_end i ≡ true → fixed i ≡ None → marked i ≡ None
        → Within (uses i) S → ((x : ℕ) → IsIn x (targets i) → Within (B x) S) → F R lines T
        → F S (Emit i ∷ lines) T
    ends i S R T lines e fix mark' used to h = (
      S,
      R,
      λ v is. is,
      record {
        uses = used;
        goes = to;
        onward = λ plain v is. absurd (end-not (is_end i) e plain);
        dies = λ k a is. absurd (none-pair (fixed i) (k, a) fix is);
        mark = λ n is. absurd (none-number (marked i) n mark' is);
      },
      h,
    )

    -- an op whose fixed operand k is used up
    pub uses-up : (i : Op) (d k a : ℕ) (S T : List ℕ) (lines : List Line) → defined i ≡ Some d → fixed i ≡ Some (k, a)
        → marked i ≡ None → targets i ≡ [] → k ≢ a → k ≢ d → (IsIn k S → ⊥) → Within (uses i) (k ∷ S)
        → F (d ∷ S) lines T → F (k ∷ S) (Emit i ∷ lines) T
    uses-up i d k a S T lines e fix mark' to other not-d fresh used h = (
      k ∷ S,
      d ∷ S,
      λ v is. is,
      record {
        uses = used;
        goes = λ x is. absurd (subst (λ (xs : List ℕ). IsIn x xs) to is);
        onward = λ plain v is. written v is;
        dies = λ k' a' is. gone k' a' (sym fix ∙ is);
        mark = λ n is. absurd (none-number (marked i) n mark' is);
      },
      h,
    )
      where
        written : (v : ℕ) → IsIn v (d ∷ S) → (defined i ≡ Some v) ⊎ IsIn v (k ∷ S)
        written v (inl same) = inl (e ∙ ap Some same)
        written v (inr is) = inr (inr is)

        not-in : IsIn k (d ∷ S) → ⊥
        not-in (inl same) = not-d (sym same)
        not-in (inr is) = fresh is

        same-pair : (p q : ℕ × ℕ) → Some p ≡ Some q → p ≡ q
        same-pair p q e = same_Some p q e

        first-same : (k' a' : ℕ) → ◌≡◌ {A = Option (ℕ × ℕ)} (Some (k, a)) (Some (k', a')) → k ≡ k'
        first-same k' a' same = ap (λ (p : ℕ × ℕ). p.0) (same-pair (k, a) (k', a') same)

        second-same : (k' a' : ℕ) → ◌≡◌ {A = Option (ℕ × ℕ)} (Some (k, a)) (Some (k', a')) → a ≡ a'
        second-same k' a' same = ap (λ (p : ℕ × ℕ). p.1) (same-pair (k, a) (k', a') same)

        gone : (k' a' : ℕ) → ◌≡◌ {A = Option (ℕ × ℕ)} (Some (k, a)) (Some (k', a')) → (k' ≢ a') × (IsIn k' (d ∷ S) → ⊥)
        gone k' a' same = (
          λ e. other (first-same k' a' same ∙ (e ∙ sym (second-same k' a' same))),
          subst (λ (n : ℕ). IsIn n (d ∷ S) → ⊥) (first-same k' a' same) not-in,
        )

    -- ---- copies and conversions

    pub copied-flows : (S : List ℕ) (to from : ℕ) → IsIn from S → F S (copied to from) (to ∷ S)
    copied-flows S to from h =
        elim (eqb_tells to from) [
          | inl same ↦ subst (λ (b : Bool). F S (if b then [] else Emit (op.Copy to from) ∷ []) (to ∷ S)) (sym same.0)
              (λ v is. here same.1 v is)
          | inr other ↦ subst (λ (b : Bool). F S (if b then [] else Emit (op.Copy to from) ∷ []) (to ∷ S)) (sym other.0)
              (writes (op.Copy to from) to S (to ∷ S) [] (refl, refl, refl) refl (one-in S from h) (λ v is. is))
        ]
      where
        here : to ≡ from → (v : ℕ) → IsIn v (to ∷ S) → IsIn v S
        here e v (inl same) = subst (λ (u : ℕ). IsIn u S) (sym e ∙ same) h
        here e v (inr is) = is

    pub swapped : (x y : ℕ) (S : List ℕ) → Within (x ∷ y ∷ S) (y ∷ x ∷ S)
    swapped x y S v (inl e) = inr (inl e)
    swapped x y S v (inr (inl e)) = inl e
    swapped x y S v (inr (inr is)) = inr (inr is)

    pub moved-flows : (of : ValueType) (S : List ℕ) (to from : Spot) → Within (words_of of from) S
        → F S (moved of to from) (words_of of to ++ S)
    moved-flows Void S to from h = λ v is. is
    moved-flows (Integer t) S to from h = copied-flows S to.number from.number (h from.number (inl refl))
    moved-flows (Pointer t) S to from h =
        last-less S (copied to.array from.array ++ copied to.number from.number) (to.number ∷ to.array ∷ S) _
        (swapped to.array to.number S)
        (flows-then S (copied to.array from.array) (copied to.number from.number) (to.array ∷ S) _
        (copied-flows S to.array from.array (h from.array (inl refl)))
        (copied-flows (to.array ∷ S) to.number from.number (inr (h from.number (inr (inl refl))))))

    behind-first : (x y : ℕ) (S : List ℕ) → Within (x ∷ S) (x ∷ y ∷ S)
    behind-first x y S v (inl e) = inl e
    behind-first x y S v (inr is) = inr (inr is)

    pub converting-flows : (level : ℕ) (t : IntegerType) (S : List ℕ) (to from : ℕ) → IsIn from S
        → F S (converting c level t to from) (to ∷ S)
    converting-flows level Char S to from h =
        let k = temporary c level ForByte in
        writes (op.Low k from) k S (to ∷ S) (Emit (op.Wide to k) ∷ []) (refl, refl, refl) refl (one-in S from h)
        (writes (op.Wide to k) to (k ∷ S) (to ∷ S) [] (refl, refl, refl) refl (one-in (k ∷ S) k (inl refl))
        (behind-first to k S))
    converting-flows level Short S to from h =
        writes (op.Low16 to from) to S (to ∷ S) [] (refl, refl, refl) refl (one-in S from h) (λ v is. is)
    converting-flows level Int S to from h = copied-flows S to from h
    converting-flows level UnsignedInt S to from h = copied-flows S to from h

    -- ---- tests

    -- a branch goes to two blocks
    pub ways : (holds fails : ℕ) (S : List ℕ) → Within (B holds) S → Within (B fails) S → (x : ℕ)
        → IsIn x (holds ∷ fails ∷ []) → Within (B x) S
    ways holds fails S yes' no' x (inl e) v is = yes' v (subst (λ (n : ℕ). IsIn v (B n)) (sym e) is)
    ways holds fails S yes' no' x (inr (inl e)) v is = no' v (subst (λ (n : ℕ). IsIn v (B n)) (sym e) is)
    ways holds fails S yes' no' x (inr (inr none)) v is = absurd none

    pub way : (block : ℕ) (S : List ℕ) → Within (B block) S → (x : ℕ) → IsIn x (block ∷ []) → Within (B x) S
    way block S h x (inl e) v is = h v (subst (λ (n : ℕ). IsIn v (B n)) (sym e) is)
    way block S h x (inr none) v is = absurd none

    -- a block whose set is known
    pub block-is : (block : ℕ) (S : List ℕ) → B block ≡ S → Within (B block) S
    block-is block S e v is = subst (λ (xs : List ℕ). IsIn v xs) e is

    pub starts : (block : ℕ) (R S T : List ℕ) (lines : List Line) → B block ≡ S → F S lines T
        → F R (Start block ∷ lines) T
    starts block R S T lines e h = subst (λ (xs : List ℕ). F xs lines T) (sym e) h

    pub number-tests : (level x holds fails : ℕ) (S T : List ℕ) → IsIn x S → Within (B holds) S → Within (B fails) S
        → F S (number_test c level x holds fails) T
    number-tests level x holds fails S T h yes' no' =
        let k = temporary c level ForScratch in
        writes (op.Const k (pos 0)) k S T (Emit (op.Branch Ne x k holds fails) ∷ []) (refl, refl, refl) refl
        (λ v is. absurd is)
        (ends (op.Branch Ne x k holds fails) (k ∷ S) T T [] refl refl refl (two-in (k ∷ S) x k (inr h) (inl refl))
        (ways holds fails (k ∷ S) (λ v is. inr (yes' v is)) (λ v is. inr (no' v is))) (λ v is. is))

    pub pointer-tests : (block level : ℕ) (x : Spot) (holds fails : ℕ) (S T : List ℕ) → IsIn x.array S
        → IsIn x.number S → B block ≡ temporary c level ForScratch ∷ S → Within (B holds) S → Within (B fails) S
        → F S (pointer_test c block level x holds fails) T
    pointer-tests block level x holds fails S T h k e yes' no' =
        let z = temporary c level ForScratch in
        let last = Emit (op.Branch Ne x.number z holds fails) ∷ [] in
        writes (op.Const z (pos 0)) z S T (Emit (op.Branch Ne x.array z holds block) ∷ Start block ∷ last)
        (refl, refl, refl) refl (λ v is. absurd is)
        (ends (op.Branch Ne x.array z holds block) (z ∷ S) S T (Start block ∷ last) refl refl refl
        (two-in (z ∷ S) x.array z (inr h) (inl refl))
        (ways holds block (z ∷ S) (λ v is. inr (yes' v is)) (block-is block (z ∷ S) e))
        (starts block S (z ∷ S) T last e
        (ends (op.Branch Ne x.number z holds fails) (z ∷ S) T T [] refl refl refl
        (two-in (z ∷ S) x.number z (inr k) (inl refl))
        (ways holds fails (z ∷ S) (λ v is. inr (yes' v is)) (λ v is. inr (no' v is))) (λ v is. is))))

  -- the sets of the blocks of a test
  abbrev pub test_sets : ℕ → ValueType → List ℕ → List (List ℕ)
  test_sets level Void S = []
  test_sets level (Integer t) S = []
  test_sets level (Pointer t) S = (temporary c level ForScratch ∷ S) ∷ []

  pub test-size : (level : ℕ) (of : ValueType) (S : List ℕ) → length (test_sets level of S) ≡ test_blocks of
  test-size level Void S = refl
  test-size level (Integer t) S = refl
  test-size level (Pointer t) S = refl

  abbrev pub tested_sets : ℕ → Wanted → ValueType → List ℕ → List (List ℕ)
  tested_sets level Dropped of S = []
  tested_sets level Own of S = []
  tested_sets level (ToLocal local) of S = []
  tested_sets level (Tests holds fails) of S = test_sets level of S

  pub tested-size : (level : ℕ) (w : Wanted) (of : ValueType) (S : List ℕ)
      → length (tested_sets level w of S) ≡ tested_blocks w of
  tested-size level Dropped of S = refl
  tested-size level Own of S = refl
  tested-size level (ToLocal local) of S = refl
  tested-size level (Tests holds fails) of S = test-size level of S

  abbrev pub chosen_sets : ℕ → Wanted → List ℕ → List (List ℕ) → List (List ℕ)
  chosen_sets level Dropped S sets = []
  chosen_sets level Own S sets = S ∷ S ∷ ((own c level).number ∷ S) ∷ sets
  chosen_sets level (ToLocal local) S sets = S ∷ S ∷ ((local_spot c local).number ∷ S) ∷ sets
  chosen_sets level (Tests holds fails) S sets = sets

  pub goes-more : (B : ℕ → List ℕ) (w : Wanted) (S T : List ℕ) → Within S T → Goes c B w S → Goes c B w T
  goes-more B Dropped S T h g = tt
  goes-more B Own S T h g = tt
  goes-more B (ToLocal local) S T h g = tt
  goes-more B (Tests holds fails) S T h g = (λ v is. h v (g.0 v is), λ v is. h v (g.1 v is))

  module _ (B : ℕ → List ℕ) where
    pub tests-flow : (block level : ℕ) (of : ValueType) (x : Spot) (holds fails : ℕ) (S : List ℕ)
        → Within (words_of of x) S → Agrees B block (test_sets level of S) → Within (B holds) S → Within (B fails) S
        → F B S (test_lines c block level of x holds fails) S
    tests-flow block level Void x holds fails S h a yes' no' = λ v is. is
    tests-flow block level (Integer t) x holds fails S h a yes' no' =
        number-tests B level x.number holds fails S S (h x.number (inl refl)) yes' no'
    tests-flow block level (Pointer t) x holds fails S h a yes' no' =
        pointer-tests B block level x holds fails S S (h x.array (inl refl)) (h x.number (inr (inl refl))) a.0 yes' no'

    pub made-flows : (block level : ℕ) (w : Wanted) (of : ValueType) (ops : Spot → List Line) (S : List ℕ)
        → Agrees B block (tested_sets level w of (words_of of (own c level) ++ S)) → Goes c B w S
        → F B S (ops (target c level w)) (words_of of (target c level w) ++ S)
        → F B S (made c block level w of ops) (reached c level w of S)
    made-flows block level Dropped of ops S a g h =
        flows-then B S (ops (own c level)) [] (words_of of (own c level) ++ S) S h (more-in (words_of of
        (own c level)) S)
    made-flows block level Own of ops S a g h =
        let T = words_of of (own c level) ++ S in
        flows-then B S (ops (own c level)) [] T T h (λ v is. is)
    made-flows block level (ToLocal local) of ops S a g h =
        let T = words_of of (local_spot c local) ++ S in
        flows-then B S (ops (local_spot c local)) [] T T h (λ v is. is)
    made-flows block level (Tests holds fails) of ops S a g h =
        let xs = words_of of (own c level) in
        let lines = test_lines c block level of (own c level) holds fails in
        flows-then B S (ops (own c level)) lines (xs ++ S) S h
        (last-less B (xs ++ S) lines (xs ++ S) S (more-in xs S)
        (tests-flow block level of (own c level) holds fails (xs ++ S) (front-in xs S) a
        (λ v is. more-in xs S v (g.0 v is)) (λ v is. more-in xs S v (g.1 v is))))

    pub delivered-flows : (block level : ℕ) (w : Wanted) (of : ValueType) (spot : Spot) (S : List ℕ)
        → Within (words_of of spot) S → Agrees B block (tested_sets level w of S) → Goes c B w S
        → F B S (delivered c block level w of spot) (reached c level w of S)
    delivered-flows block level Dropped of spot S h a g = λ v is. is
    delivered-flows block level Own of spot S h a g = moved-flows B of S (own c level) spot h
    delivered-flows block level (ToLocal local) of spot S h a g = moved-flows B of S (local_spot c local) spot h
    delivered-flows block level (Tests holds fails) of spot S h a g =
        tests-flow block level of spot holds fails S h a g.0 g.1

    pub converted-flows : (block level : ℕ) (w : Wanted) (t : IntegerType) (x : ℕ) (S : List ℕ) → IsIn x S
        → Goes c B w S → F B S (converted_lines c block level w t x) (reached c level w (Integer t) S)
    converted-flows block level Dropped t x S h g = λ v is. is
    converted-flows block level Own t x S h g = converting-flows B level t S (own c level).number x h
    converted-flows block level (ToLocal local) t x S h g =
        converting-flows B level t S (local_spot c local).number x h
    converted-flows block level (Tests holds fails) t x S h g =
        let y = (own c level).number in
        flows-then B S (converting c level t y x) (number_test c level y holds fails) (y ∷ S) S
        (converting-flows B level t S y x h)
        (number-tests B level y holds fails (y ∷ S) S (inl refl) (λ v is. inr (g.0 v is)) (λ v is. inr (g.1 v is)))

    null-spot : (to : Spot) (S : List ℕ)
        → F B S (Emit (op.Const to.array (pos 0)) ∷ Emit (op.Const to.number (pos 0)) ∷ []) (to.array ∷ to.number ∷ S)
    null-spot to S =
        writes B (op.Const to.array (pos 0)) to.array S (to.array ∷ to.number ∷ S)
        (Emit (op.Const to.number (pos 0)) ∷ []) (refl, refl, refl) refl (λ v is. absurd is)
        (writes B (op.Const to.number (pos 0)) to.number (to.array ∷ S) (to.array ∷ to.number ∷ S) []
        (refl, refl, refl) refl (λ v is. absurd is) (swapped B to.array to.number S))

    pub null-flows : (level : ℕ) (w : Wanted) (t : IntegerType) (S : List ℕ) → Goes c B w S
        → F B S (null_lines c level w) (reached c level w (Pointer t) S)
    null-flows level Dropped t S g = λ v is. is
    null-flows level Own t S g = null-spot (own c level) S
    null-flows level (ToLocal local) t S g = null-spot (local_spot c local) S
    null-flows level (Tests holds fails) t S g =
        ends B (op.Jump fails) S S S [] refl refl refl (λ v is. absurd is) (way B fails S g.1) (λ v is. is)

    -- ---- truth values

    -- the lines of a test from a block on, and where it goes
    abbrev pub TestAt : List (List ℕ) → List ℕ → ℕ → ℕ → ℕ → List Line → Type 0
    TestAt sets S block holds fails lines = Agrees B block sets → Within (B holds) S → Within (B fails) S
        → F B S lines S

    abbrev pub TestFlows : List (List ℕ) → List ℕ → (ℕ → ℕ → ℕ → List Line) → Type 0
    TestFlows sets S test = (block holds fails : ℕ) → Agrees B block sets → Within (B holds) S → Within (B fails) S
        → F B S (test block holds fails) S

    -- the block of each truth value, then the one behind, and those of the test
    pub truth-flows : (block x : ℕ) (test : ℕ → ℕ → ℕ → List Line) (sets : List (List ℕ)) (S : List ℕ)
        → Agrees B block (S ∷ S ∷ (x ∷ S) ∷ sets)
        → TestAt sets S (block + 3) block (suc block) (test (block + 3) block (suc block))
        → F B S (test (block + 3) block (suc block) ++ (Start block ∷ Emit (op.Const x (pos 1))
        ∷ Emit (op.Jump (block + 2)) ∷ Start (suc block) ∷ Emit (op.Const x (pos 0)) ∷ Emit (op.Jump (block + 2))
        ∷ Start (block + 2) ∷ [])) (x ∷ S)
    truth-flows block x test sets S a h =
        let third : B (block + 2) ≡ x ∷ S = at-two a.1.1.0 in
        let last : List Line = Start (block + 2) ∷ [] in
        let second : List Line = Start (suc block) ∷ Emit (op.Const x (pos 0)) ∷ Emit (op.Jump (block + 2)) ∷ last in
        flows-then B S (test (block + 3) block (suc block))
        (Start block ∷ Emit (op.Const x (pos 1)) ∷ Emit (op.Jump (block + 2)) ∷ second) S (x ∷ S)
        (h (agrees-at B sets (suc (suc (suc block))) (block + 3) (omega arith) a.1.1.1)
        (block-is B block S a.0) (block-is B (suc block) S a.1.0))
        (starts B block S S (x ∷ S) (Emit (op.Const x (pos 1)) ∷ Emit (op.Jump (block + 2)) ∷ second) a.0
        (gives (pos 1) second third
        (starts B (suc block) S S (x ∷ S) (Emit (op.Const x (pos 0)) ∷ Emit (op.Jump (block + 2)) ∷ last) a.1.0
        (gives (pos 0) last third (starts B (block + 2) S (x ∷ S) (x ∷ S) [] third (λ v is. is))))))
      where
        at-two : B (suc (suc block)) ≡ x ∷ S → B (block + 2) ≡ x ∷ S
        at-two e = subst (λ (n : ℕ). B n ≡ x ∷ S) (omega arith) e

        gives : (n : _) (rest : List Line) → B (block + 2) ≡ x ∷ S → F B S rest (x ∷ S)
            → F B S (Emit (op.Const x n) ∷ Emit (op.Jump (block + 2)) ∷ rest) (x ∷ S)
        gives n rest e more =
            writes B (op.Const x n) x S (x ∷ S) (Emit (op.Jump (block + 2)) ∷ rest) (refl, refl, refl) refl
            (λ v is. absurd is)
            (ends B (op.Jump (block + 2)) (x ∷ S) S (x ∷ S) rest refl refl refl (λ v is. absurd is)
            (way B (block + 2) (x ∷ S) (block-is B (block + 2) (x ∷ S) e)) more)

    pub chosen-flows : (block level : ℕ) (w : Wanted) (test : ℕ → ℕ → ℕ → List Line) (sets : List (List ℕ)) (S : List ℕ)
        → Agrees B block (chosen_sets level w S sets) → Goes c B w S → TestFlows sets S test
        → F B S (chosen c block level w test) (reached c level w int S)
    chosen-flows block level Dropped test sets S a g h = λ v is. is
    chosen-flows block level Own test sets S a g h = truth-flows block (own c level).number test sets S a
        (h (block + 3) block (suc block))
    chosen-flows block level (ToLocal local) test sets S a g h =
        truth-flows block (local_spot c local).number test sets S a (h (block + 3) block (suc block))
    chosen-flows block level (Tests holds fails) test sets S a g h = h block holds fails a g.0 g.1

  pub chosen-size : (level : ℕ) (w : Wanted) (S : List ℕ) (sets : List (List ℕ)) (n : ℕ)
      → length sets ≡ n → length (chosen_sets level w S sets) ≡ chosen_blocks w n
  chosen-size level Dropped S sets n e = refl
  chosen-size level Own S sets n e = omega (arith, e)
  chosen-size level (ToLocal local) S sets n e = omega (arith, e)
  chosen-size level (Tests holds fails) S sets n e = e

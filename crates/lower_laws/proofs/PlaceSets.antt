-- Sets of the lines of `?:`, and of expressions that name places.
use Rattle.std.proofs.Common.{◌≡◌, ◌<◌, ℕ, suc, ◌+◌, true, List, []}
use Rattle.std.proofs.Common.{◌∷◌, ◌++◌, refl, subst, arith, length}
use Rattle.std.proofs.Common.{length-append}
use Rattle.c_tree.specs.declared.types.IntegerType.{IntegerType}
use Rattle.c_tree.specs.declared.types.IntegerType.TheVariants.{Int}
use Rattle.c_tree.specs.declared.types.ValueType.{ValueType}
use Rattle.c_tree.specs.declared.types.ValueType.TheVariants.{Void, Integer}
use Rattle.c_tree.specs.Program.{int}
use Rattle.flow_graph.specs.declared.op.Op.TheVariants as op
use Rattle.flow_graph.specs.Graphs.{IsIn}
use Rattle.lower_lines.specs.Expressions.{conditional_part}
use Rattle.lower_lines.specs.Expressions.{exit_part, getchar_part}
use Rattle.lower_lines.specs.Expressions.{test_blocks_of, words_of}
use Rattle.lower_lines.specs.Lines.{Line, Start, Emit}
use Rattle.lower_lines.specs.Parts.{Wanted, Dropped, Own, ToLocal, Tests, Part, in_type}
use Rattle.lower_lines.specs.Parts.{operand, target}
use Rattle.lower_lines.specs.Variables.{Context, local_variables, own}
use Rattle.lower_laws.proofs.FitsCompound.{Becomes}
use Rattle.lower_laws.proofs.Applied.{LowTarget, Settled, none-agrees}
use Rattle.lower_laws.proofs.Compound.{settles-as, test-settled, turned-alike, turned-part}
use Rattle.lower_laws.proofs.Parts.{LivePart, Ready, number-in, operand-held}
use Rattle.lower_laws.proofs.Sets.{agrees-at, agrees-back, agrees-front, block-is, ends}
use Rattle.lower_laws.proofs.Sets.{flows-then, made-flows, one-in, reached, starts, way}
use Rattle.lower_laws.proofs.Sets.{writes}

module _ (c : Context) (D : List ℕ) (low-known : (v : ℕ) → IsIn v D → v < local_variables c.function) where
  abbrev L : ℕ
  L = local_variables c.function

  abbrev Live : Part → Type 0
  Live a = LivePart c D low-known a

  abbrev IsReady : ℕ → List ℕ → Type 0
  IsReady level S = Ready c D low-known level S

  -- a value on two ways, and the block behind both
  cond-value : (block n m l : ℕ) (w : Wanted) (S T : List ℕ) (xs ys zs : List Line)
      → Settled c (block + 3) n (Tests block (suc block)) S xs S → Settled c (block + 3 + n) m w S ys T
      → Settled c (block + 3 + n + m) l w S zs T
      → Settled c block (3 + n + m + l) w S (xs ++ (Start block ∷ (ys ++ (Emit (op.Jump (block + 2))
      ∷ (Start (suc block) ∷ (zs ++ (Emit (op.Jump (block + 2)) ∷ Start (block + 2) ∷ []))))))) T
  cond-value block n m l w S T xs ys zs s t r = record {
    sets = S ∷ S ∷ T ∷ (s.sets ++ (t.sets ++ r.sets));
    size =
        let e = length-append s.sets (t.sets ++ r.sets) in let e' = length-append t.sets r.sets in
        let f = s.size in let f' = t.size in let f2 = r.size in omega (arith, e, e', f, f', f2);
    flows = λ B a g.
        let e = s.size in
        let e' = t.size in
        let one = block-is c B block S a.0 in
        let other = block-is c B (suc block) S a.1.0 in
        let behind : B (block + 2) ≡ T = at-two B a.1.1.0 in
        let J = λ (rest : List Line). Emit (op.Jump (block + 2)) ∷ rest in
        let last : List Line = Emit (op.Jump (block + 2)) ∷ Start (block + 2) ∷ [] in
        let second : List Line = Start (suc block) ∷ (zs ++ last) in
        let rest = agrees-at B (s.sets ++ (t.sets ++ r.sets)) (suc (suc (suc block))) (block + 3)
        (omega arith) a.1.1.1 in
        let rest' = agrees-at B (t.sets ++ r.sets) (block + 3 + length s.sets) (block + 3 + n) (omega (arith, e))
        (agrees-back B (block + 3) s.sets (t.sets ++ r.sets) rest) in
        flows-then c B S xs (Start block ∷ (ys ++ (Emit (op.Jump (block + 2)) ∷ second))) S T
        (s.flows B (agrees-front B (block + 3) s.sets (t.sets ++ r.sets) rest) (one, other))
        (starts c B block S S T (ys ++ (Emit (op.Jump (block + 2)) ∷ second)) a.0
        (flows-then c B S ys (Emit (op.Jump (block + 2)) ∷ second) T T
        (t.flows B (agrees-front B (block + 3 + n) t.sets r.sets rest') g)
        (ends c B (op.Jump (block + 2)) T S T second refl refl refl (λ v is. absurd is)
        (way c B (block + 2) T (block-is c B (block + 2) T behind))
        (starts c B (suc block) S S T (zs ++ last) a.1.0
        (flows-then c B S zs last T T
        (r.flows B (agrees-at B r.sets (block + 3 + n + length t.sets) (block + 3 + n + m) (omega (arith, e'))
        (agrees-back B (block + 3 + n) t.sets r.sets rest')) g)
        (ends c B (op.Jump (block + 2)) T S T (Start (block + 2) ∷ []) refl refl refl (λ v is. absurd is)
        (way c B (block + 2) T (block-is c B (block + 2) T behind))
        (starts c B (block + 2) S T T [] behind (λ v is. is))))))));
  }
    where
      at-two : (B : ℕ → List ℕ) → B (suc (suc block)) ≡ T → B (block + 2) ≡ T
      at-two B e = subst (λ (k : ℕ). B k ≡ T) (omega arith) e

  -- a test on two ways
  cond-tests : (block n m l holds fails : ℕ) (S : List ℕ) (xs ys zs : List Line)
      → Settled c (block + 2) n (Tests block (suc block)) S xs S
      → Settled c (block + 2 + n) m (Tests holds fails) S ys S
      → Settled c (block + 2 + n + m) l (Tests holds fails) S zs S
      → Settled c block (2 + n + m + l) (Tests holds fails) S
      (xs ++ (Start block ∷ (ys ++ (Start (suc block) ∷ (zs ++ []))))) S
  cond-tests block n m l holds fails S xs ys zs s t r = record {
    sets = S ∷ S ∷ (s.sets ++ (t.sets ++ r.sets));
    size =
        let e = length-append s.sets (t.sets ++ r.sets) in let e' = length-append t.sets r.sets in
        let f = s.size in let f' = t.size in let f2 = r.size in omega (arith, e, e', f, f', f2);
    flows = λ B a g.
        let e = s.size in
        let e' = t.size in
        let second : List Line = Start (suc block) ∷ (zs ++ []) in
        let rest = agrees-at B (s.sets ++ (t.sets ++ r.sets)) (suc (suc block)) (block + 2) (omega arith) a.1.1 in
        let rest' = agrees-at B (t.sets ++ r.sets) (block + 2 + length s.sets) (block + 2 + n) (omega (arith, e))
        (agrees-back B (block + 2) s.sets (t.sets ++ r.sets) rest) in
        flows-then c B S xs (Start block ∷ (ys ++ second)) S S
        (s.flows B (agrees-front B (block + 2) s.sets (t.sets ++ r.sets) rest)
        (block-is c B block S a.0, block-is c B (suc block) S a.1.0))
        (starts c B block S S S (ys ++ second) a.0
        (flows-then c B S ys second S S (t.flows B (agrees-front B (block + 2 + n) t.sets r.sets rest') g)
        (starts c B (suc block) S S S (zs ++ []) a.1.0
        (flows-then c B S zs [] S S
        (r.flows B (agrees-at B r.sets (block + 2 + n + length t.sets) (block + 2 + n + m) (omega (arith, e'))
        (agrees-back B (block + 2 + n) t.sets r.sets rest')) g) (λ v is. is)))));
  }

  pub conditional-part' : (of : ValueType) (t a b : Part) → Becomes of a.of × Becomes of b.of → Live t → Live a → Live b
      → Live (conditional_part c of t a b)
  conditional-part' of t a b turns ht ha hb = record {
    settles = lines;
    stands = λ s e. absurd (cc);
    quiet = λ s e. absurd (cc);
    tests = λ holds fails. alike (ka.tests holds fails) (kb.tests holds fails);
  }
    where
      a' : Part
      a' = in_type c of a

      b' : Part
      b' = in_type c of b

      ka : Live (in_type c of a)
      ka = turned-part c D low-known of a turns.0 ha

      kb : Live (in_type c of b)
      kb = turned-part c D low-known of b turns.1 hb

      alike : {x y m n : ℕ} → x ≡ m → y ≡ n → 2 + test_blocks_of t + x + y ≡ 2 + test_blocks_of t + m + n
      alike {x} {y} {m} {n} e e' = omega (arith, e, e')

      way-a : (block level : ℕ) (w : Wanted) (S : List ℕ) → IsReady level S → LowTarget c w of
          → Settled c block ((in_type c of a).blocks w) w S ((in_type c of a).lines block level w)
          (reached c level w of S)
      way-a block level w S ready low =
          settles-as c D low-known (in_type c of a) of (turned-alike c D low-known of a turns.0)
          (turned-part c D low-known of a turns.0 ha) block level w S ready low

      way-b : (block level : ℕ) (w : Wanted) (S : List ℕ) → IsReady level S → LowTarget c w of
          → Settled c block ((in_type c of b).blocks w) w S ((in_type c of b).lines block level w)
          (reached c level w of S)
      way-b block level w S ready low =
          settles-as c D low-known (in_type c of b) of (turned-alike c D low-known of b turns.1)
          (turned-part c D low-known of b turns.1 hb) block level w S ready low

      value : (block level : ℕ) (w : Wanted) (S : List ℕ) → IsReady level S → LowTarget c w of
          → Settled c block (3 + test_blocks_of t + (in_type c of a).blocks w + (in_type c of b).blocks w) w S
          (t.lines (block + 3) level (Tests block (suc block)) ++ (Start block
          ∷ ((in_type c of a).lines (block + 3 + test_blocks_of t) level w ++ (Emit (op.Jump (block + 2))
          ∷ (Start (suc block)
          ∷ ((in_type c of b).lines (block + 3 + test_blocks_of t + (in_type c of a).blocks w) level w
          ++ (Emit (op.Jump (block + 2)) ∷ Start (block + 2) ∷ []))))))) (reached c level w of S)
      value block level w S ready low =
          cond-value block (test_blocks_of t) ((in_type c of a).blocks w) ((in_type c of b).blocks w) w S
          (reached c level w of S) (t.lines (block + 3) level (Tests block (suc block)))
          ((in_type c of a).lines (block + 3 + test_blocks_of t) level w)
          ((in_type c of b).lines (block + 3 + test_blocks_of t + (in_type c of a).blocks w) level w)
          (test-settled c D low-known t ht (block + 3) level block (suc block) S ready)
          (way-a (block + 3 + test_blocks_of t) level w S ready low)
          (way-b (block + 3 + test_blocks_of t + (in_type c of a).blocks w) level w S ready low)

      lines : (block level : ℕ) (w : Wanted) (S : List ℕ) → IsReady level S → LowTarget c w of
          → Settled c block ((conditional_part c of t a b).blocks w) w S
          ((conditional_part c of t a b).lines block level w)
          (reached c level w of S)
      lines block level Dropped S ready low = value block level Dropped S ready low
      lines block level Own S ready low = value block level Own S ready low
      lines block level (ToLocal local) S ready low = value block level (ToLocal local) S ready low
      lines block level (Tests holds fails) S ready low =
          let w = Tests holds fails in
          cond-tests block (test_blocks_of t) ((in_type c of a).blocks w) ((in_type c of b).blocks w) holds fails S
          (t.lines (block + 2) level (Tests block (suc block)))
          ((in_type c of a).lines (block + 2 + test_blocks_of t) level w)
          ((in_type c of b).lines (block + 2 + test_blocks_of t + (in_type c of a).blocks w) level w)
          (test-settled c D low-known t ht (block + 2) level block (suc block) S ready)
          (way-a (block + 2 + test_blocks_of t) level w S ready low)
          (way-b (block + 2 + test_blocks_of t + (in_type c of a).blocks w) level w S ready low)

  -- ---- input, and the end of a program

  pub getchar-part : Live (getchar_part c)
  getchar-part = record {
    settles = λ block level w S ready low. record {
      sets = [];
      size = refl;
      flows = λ B a g.
          let d = (target c level w).number in
          made-flows c B block level w int (λ to. Emit (op.Getchar to.number) ∷ []) S
          (none-agrees c B block level w Int (words_of int (own c level) ++ S)) g
          (writes c B (op.Getchar d) d S (d ∷ S) [] (refl, refl, refl) refl (λ v is. absurd is) (λ v is. is));
    };
    stands = λ s e. absurd (cc);
    quiet = λ s e. absurd (cc);
    tests = λ holds fails. refl;
  }

  -- behind the end of a program stands a block that nothing leads to: it has what there was before
  pub exit-part : (a : Part) (u : IntegerType) → a.of ≡ Integer u → Live a → Live (exit_part c a)
  exit-part a u of h =
      let x = operand c true a in
      record {
        settles = λ block level w S ready low.
            let k = operand-held c D low-known true a h (suc block) level S ready in
            let R = reached c level w Void S in
            let ks = k.settled in
            record {
              sets = R ∷ ks.sets;
              size = let e = ks.size in omega (arith, e);
              flows = λ B b g.
                  let n = (x.spot level).number in
                  flows-then c B S (x.lines (suc block) level) (Emit (op.Exit n) ∷ Start block ∷ []) k.T R
                  (ks.flows B b.1 tt)
                  (ends c B (op.Exit n) k.T S R (Start block ∷ []) refl refl refl
                  (one-in k.T n (number-in c D low-known a x u (suc block) level S of k)) (λ y is. absurd is)
                  (starts c B block S R R [] b.0 (λ v is. is)));
            };
        stands = λ s e. absurd (cc);
        quiet = λ s e. absurd (cc);
        tests = λ holds fails. refl;
      }

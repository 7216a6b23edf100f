-- What the lines of each statement weigh, beside its size and its height, and their marks.
use Rattle.std.proofs.Common.{◌≡◌, ◌≤◌, ℕ, zero, suc, ◌+◌, ◌*◌, Bool, true, false, ℤ, List, [], ◌∷◌}
use Rattle.std.proofs.Common.{◌++◌, Option, Some, None, refl, sym, ap, subst, arith, length, length-append}
use Rattle.std.specs.Prelude.{if◌then◌else◌, ◌==◌, ◌||◌}
use Rattle.std.proofs.lemmas.List.{append-nil}
use Rattle.c_tree.specs.declared.statement.Label.{Label}
use Rattle.c_tree.specs.declared.types.ValueType.{ValueType}
use Rattle.c_tree.specs.declared.types.ValueType.TheVariants.{Void, Integer, Pointer}
use Rattle.c_tree.specs.Program.{Expression, First}
use Rattle.c_tree.specs.Sizes.{option_height, option_size}
use Rattle.flow_graph.specs.declared.op.Op.TheVariants as op
use Rattle.lower_lines.specs.Expressions.{part_of, test_blocks_of}
use Rattle.lower_lines.specs.Lines.{Line, Start, Emit}
use Rattle.lower_lines.specs.Parts.{Dropped, Tests, Part, operand}
use Rattle.lower_lines.specs.Programs.{no_exits}
use Rattle.lower_lines.specs.Statements.{After, Here, To, Leaves, Case, Exits, Labelled, Run, after_lines}
use Rattle.lower_lines.specs.Statements.{block_run, body_lines, case_of, cases_of, comparing, continue_block, dead}
use Rattle.lower_lines.specs.Statements.{comparing_blocks, dead_blocks, default_block, do_run}
use Rattle.lower_lines.specs.Statements.{ending, exit_blocks, exit_lines, exit_of, first_blocks, first_lines}
use Rattle.lower_lines.specs.Statements.{for_run, has_label, if_run, is_empty}
use Rattle.lower_lines.specs.Statements.{labelled_before, labelled_from, left_by}
use Rattle.lower_lines.specs.Statements.{loop_lines, none_labelled, onward, opening, opening_blocks}
use Rattle.lower_lines.specs.Statements.{second_block, second_lines, sequence_lines}
use Rattle.lower_lines.specs.Statements.{started, straight, switch_run, test_blocks_if_any, test_if_any, towards}
use Rattle.lower_lines.specs.Statements.{while_run}
use Rattle.lower_lines.specs.Variables.{Context}
use Rattle.lower_lines.proofs.Filling.{one, under, under-one}
use Rattle.lower_lines.proofs.Weighed.{weighed}
use Rattle.lower_lines.proofs.Weights.{Quiet, Weighs, quiet-ops, quiet-then, weighs-mark, weighs-none, weighs-op}
use Rattle.lower_lines.proofs.Weights.{weighs-start, weighs-then, weighs-to}

-- how many ops lead on behind a statement
abbrev pub leave : After → ℕ
leave Here = 0
leave (To block) = 1
leave Leaves = 2

-- how many of the statements behind the first go on to one with a label
abbrev pub jumps : Labelled → ℕ → List Run → ℕ
jumps labelled place [] = 0
jumps labelled place (r ∷ []) = 0
jumps labelled place (r ∷ q ∷ rs) = leave (towards (labelled (suc place))) + jumps labelled (suc place) (q ∷ rs)

module _ (W : ℕ) (c : Context) where
  then-quiet : (m k n l : ℕ) (a : List ℕ) (xs ys : List Line) → Weighs W m k a xs → Quiet W n l ys
      → Weighs W (m + n) (k + l) a (xs ++ ys)
  then-quiet m k n l a xs ys h h' = subst (λ (b : List ℕ). Weighs W (m + n) (k + l) b (xs ++ ys)) (append-nil a)
      (weighs-then W m k n l a [] xs ys h h')

  quiet-before : (m k n l : ℕ) (a : List ℕ) (xs ys : List Line) → Quiet W m k xs → Weighs W n l a ys
      → Weighs W (m + n) (k + l) a (xs ++ ys)
  quiet-before m k n l a xs ys h h' = weighs-then W m k n l [] a xs ys h h'

  pub record WeighsRun (n k : ℕ) (marks : List ℕ) (r : Run) : Type 0 where
    pub weighs : (exits : Exits) (block : ℕ) (after : After)
        → Weighs W (n + leave after) k marks (r.lines exits block after)
    pub none : r.nothing ≡ true → marks ≡ []

  -- a statement's run beside its size
  pub record WeighedRun (size : ℕ) (marks : List ℕ) (r : Run) : Type 0 where
    pub n : ℕ
    pub k : ℕ
    pub few : n ≤ 20 * size
    pub fewer : k ≤ 2 * size
    pub is : WeighsRun n k marks r

  -- lines from a block on
  pub record WeighedLines (size : ℕ) (marks : List ℕ) (lines : ℕ → List Line) : Type 0 where
    pub n : ℕ
    pub k : ℕ
    pub few : n ≤ 20 * size
    pub fewer : k ≤ 2 * size
    pub is : (block : ℕ) → Weighs W n k marks (lines block)

  pub record WeighedRuns (size : ℕ) (marks : List ℕ) (rs : List Run) : Type 0 where
    pub n : ℕ
    pub k : ℕ
    pub few : n ≤ 20 * size
    pub fewer : k ≤ 2 * size
    pub is : (labelled : Labelled) (place : ℕ) (exits : Exits) (block : ℕ) (after : After)
        → Weighs W (n + jumps labelled place rs + leave after) k marks
        (sequence_lines c labelled place rs exits block after)

  -- ---- where control goes

  left-weighs : (of : ValueType) → Quiet W 2 0 (left_by of c)
  left-weighs Void = quiet-ops W 2 (Emit (op.Return None) ∷ []) (refl, refl, tt) (omega arith)
  left-weighs (Integer t) = quiet-ops W 2 (left_by (Integer t) c) (refl, refl, (refl, refl, tt)) (omega arith)
  left-weighs (Pointer t) = quiet-ops W 2 (left_by (Pointer t) c) (refl, refl, (refl, refl, tt)) (omega arith)

  onward-weighs : (after : After) → Quiet W (leave after) 0 (onward c after)
  onward-weighs Here = quiet-ops W 0 [] tt (omega arith)
  onward-weighs (To block) = quiet-ops W 1 (Emit (op.Jump block) ∷ []) (refl, refl, tt) (omega arith)
  onward-weighs Leaves = left-weighs c.function.result

  exit-lines-weigh : (block : ℕ) (after : After) → Quiet W (leave after) 0 (exit_lines c block after)
  exit-lines-weigh block Here = quiet-ops W 0 (Start block ∷ []) tt (omega arith)
  exit-lines-weigh block (To other) = quiet-ops W 1 [] tt (omega arith)
  exit-lines-weigh block Leaves = weighs-start block (left-weighs c.function.result)

  dead-weighs : (block : ℕ) (after : After) → Quiet W 0 0 (dead block after)
  dead-weighs block Here = quiet-ops W 0 (Start block ∷ []) tt (omega arith)
  dead-weighs block (To other) = quiet-ops W 0 [] tt (omega arith)
  dead-weighs block Leaves = quiet-ops W 0 [] tt (omega arith)

  some : {marks : List ℕ} → false ≡ true → marks ≡ []
  some e = absurd (not e)
    where
      not : false ≡ true → ⊥
      not e = cc

  straight-weighs : (n k levels blocks : ℕ) (marks : List ℕ) (lines : ℕ → List Line)
      → ((block : ℕ) → Weighs W n k marks (lines block)) → WeighsRun n k marks (straight c levels blocks lines)
  straight-weighs n k levels blocks marks lines h = record {
    weighs = λ exits block after. weighs-to (n + leave after) (k + 0) (n + leave after) k (omega arith) (omega arith)
        (then-quiet n k (leave after) 0 marks (lines block) (onward c after) (h block) (onward-weighs after));
    none = some;
  }

  pub straight-run : (size levels blocks : ℕ) (marks : List ℕ) (lines : ℕ → List Line) → WeighedLines size marks lines
      → WeighedRun size marks (straight c levels blocks lines)
  straight-run size levels blocks marks lines h = record {
    n = h.n;
    k = h.k;
    few = h.few;
    fewer = h.fewer;
    is = straight-weighs h.n h.k levels blocks marks lines h.is;
  }

  pub ending-weighs : (n k levels blocks : ℕ) (marks : List ℕ) (lines : Exits → ℕ → List Line)
      → ((exits : Exits) (block : ℕ) → Weighs W n k marks (lines exits block))
      → WeighsRun n k marks (ending levels blocks lines)
  ending-weighs n k levels blocks marks lines h = record {
    weighs = λ exits block after.
        weighs-to (n + 0) (k + 0) (n + leave after) k (omega arith) (omega arith)
        (then-quiet n k 0 0 marks (lines exits (block + dead_blocks after)) (dead block after)
        (h exits (block + dead_blocks after)) (dead-weighs block after));
    none = some;
  }

  -- ---- `if`

  second-weighs : (t : Bool) (n k second : ℕ) (marks : List ℕ) (lines : List Line) → (t ≡ true → marks ≡ [])
      → Weighs W n k marks lines → Weighs W n k marks (second_lines t second lines)
  second-weighs true n k second marks lines e h =
      subst (λ (m : List ℕ). Weighs W n k m []) (sym (e refl))
      (weighs-to 0 0 n k (omega arith) (omega arith) (weighs-none W))
  second-weighs false n k second marks lines e h = weighs-start second h

  pub if-weighs : (n k m l o q number : ℕ) (ma mb : List ℕ) (e : Part) (a b : Run)
      → ((block holds fails : ℕ) → Quiet W n k (e.lines block 0 (Tests holds fails))) → WeighsRun m l ma a
      → WeighsRun o q mb b
      → WeighsRun (suc (n + (m + 1 + (o + 1)))) (k + (l + q)) (number ∷ (ma ++ mb)) (if_run c number e a b)
  if-weighs n k m l o q number ma mb e a b he ha hb = record {
    weighs = λ exits block after.
        let exit = exit_of block after in
        let first = block + exit_blocks after in
        let second = suc first + test_blocks_of e + a.blocks (To 0) in
        weighs-to (suc (n + (m + 1 + (o + 1 + leave after)))) (k + (l + (q + 0)))
        (suc (n + (m + 1 + (o + 1))) + leave after) (k + (l + q)) (omega arith) (omega arith)
        (weighs-mark W (n + (m + 1 + (o + 1 + leave after))) (k + (l + (q + 0))) number (ma ++ mb) _
        (quiet-before n k (m + 1 + (o + 1 + leave after)) (l + (q + 0)) (ma ++ mb)
        (e.lines (suc first) 0 (Tests first (second_block b.nothing exit second))) _
        (he (suc first) first (second_block b.nothing exit second))
        (weighs-start first (weighs-then W (m + 1) l (o + 1 + leave after) (q + 0) ma mb
        (a.lines exits (suc first + test_blocks_of e) (To exit)) _
        (ha.weighs exits (suc first + test_blocks_of e) (To exit))
        (then-quiet (o + 1) q (leave after) 0 mb
        (second_lines b.nothing second (b.lines exits (suc second) (To exit))) (exit_lines c block after)
        (second-weighs b.nothing (o + 1) q second mb (b.lines exits (suc second) (To exit)) hb.none
        (hb.weighs exits (suc second) (To exit)))
        (exit-lines-weigh block after))))));
    none = some;
  }

  -- ---- loops

  -- the test of a loop, and what comes after its body
  pub record WeighedAny (size : ℕ) (value : Option Expression) : Type 0 where
    pub n : ℕ
    pub k : ℕ
    pub few : n ≤ 20 * size
    pub fewer : k ≤ 2 * size
    pub test : (block body exit : ℕ) → Quiet W n k (test_if_any c value block body exit)
    pub behind : (start block : ℕ) → Quiet W (n + 1) k (after_lines c value start block)

  pub any-weighed : (value : Option Expression) → 2 * option_height value ≤ W → WeighedAny (option_size value) value
  any-weighed None le = record {
    n = 0;
    k = 0;
    few = omega arith;
    fewer = omega arith;
    test = λ block body exit. quiet-ops W 0 [] tt (omega arith);
    behind = λ start block. quiet-ops W 1 [] tt (omega arith);
  }
  any-weighed (Some e) le =
      let h = weighed W c e le in
      record {
        n = h.n;
        k = h.k;
        few = let e = h.few in omega (arith, e);
        fewer = let e = h.fewer in omega (arith, e);
        test = λ block body exit. weighs-to (h.n + 0) (h.k + 0) h.n h.k (omega arith) (omega arith)
            (quiet-then W h.n h.k 0 0 ((part_of c e).lines block 0 (Tests body exit)) (Start body ∷ [])
            (h.is.weighs block 0 (Tests body exit)) (quiet-ops W 0 (Start body ∷ []) tt (omega arith)));
        behind = λ start block. weighs-to (h.n + 1) (h.k + 0) (h.n + 1) h.k (omega arith) (omega arith)
            (weighs-start block (quiet-then W h.n h.k 1 0 ((part_of c e).lines (suc block) 0 Dropped)
            (Emit (op.Jump start) ∷ []) (h.is.weighs (suc block) 0 Dropped)
            (quiet-ops W 1 (Emit (op.Jump start) ∷ []) (refl, refl, tt) (omega arith))));
      }

  loop-weighs : (s t m l : ℕ) (marks : List ℕ) (test after : Option Expression) (body : Run) (ht : WeighedAny s test)
      (ha : WeighedAny t after) → WeighsRun m l marks body → (block : ℕ) (leaves : After)
      → Weighs W (ht.n + m + ha.n + 4 + leave leaves) (ht.k + l + ha.k) marks
      (loop_lines c test after body block leaves)
  loop-weighs s t m l marks test after body ht ha hb block leaves =
      let exit = exit_of block leaves in
      let start = block + exit_blocks leaves in
      let inside = suc start + test_blocks_if_any c test in
      let behind = inside + body.blocks (To 0) in
      let again = continue_block after start behind in
      weighs-to (suc (suc (ht.n + (m + 1 + (ha.n + 1 + leave leaves))))) (ht.k + (l + (ha.k + 0)))
      (ht.n + m + ha.n + 4 + leave leaves) (ht.k + l + ha.k) (omega arith) (omega arith)
      (weighs-op W (suc (ht.n + (m + 1 + (ha.n + 1 + leave leaves)))) (ht.k + (l + (ha.k + 0))) marks (op.Jump start) _
      refl refl (weighs-start start
      (weighs-op W (ht.n + (m + 1 + (ha.n + 1 + leave leaves))) (ht.k + (l + (ha.k + 0))) marks op.Turn _ refl refl
      (quiet-before ht.n ht.k (m + 1 + (ha.n + 1 + leave leaves)) (l + (ha.k + 0)) marks
      (test_if_any c test (start + 2) (suc start) exit) _ (ht.test (start + 2) (suc start) exit)
      (then-quiet (m + 1) l (ha.n + 1 + leave leaves) (ha.k + 0) marks
      (body.lines (record { breaks = exit; continues = again }) inside (To again)) _
      (hb.weighs (record { breaks = exit; continues = again }) inside (To again))
      (quiet-then W (ha.n + 1) ha.k (leave leaves) 0 (after_lines c after start behind) (exit_lines c block leaves)
      (ha.behind start behind) (exit-lines-weigh block leaves)))))))

  pub while-weighs : (s number m l : ℕ) (marks : List ℕ) (e : Expression) (body : Run) (ht : WeighedAny s (Some e))
      → WeighsRun m l marks body → (hn : WeighedAny 0 None)
      → WeighsRun (ht.n + m + hn.n + 5) (ht.k + l + hn.k) (number ∷ marks) (while_run c number e body)
  while-weighs s number m l marks e body ht hb hn = record {
    weighs = λ exits block after.
        weighs-to (suc (ht.n + m + hn.n + 4 + leave after)) (ht.k + l + hn.k) (ht.n + m + hn.n + 5 + leave after)
        (ht.k + l + hn.k) (omega arith) (omega arith)
        (weighs-mark W (ht.n + m + hn.n + 4 + leave after) (ht.k + l + hn.k) number marks _
        (loop-weighs s 0 m l marks (Some e) None body ht hn hb block after));
    none = some;
  }

  pub do-weighs : (n k number m l : ℕ) (marks : List ℕ) (body : Run) (e : Part)
      → ((block holds fails : ℕ) → Quiet W n k (e.lines block 0 (Tests holds fails))) → WeighsRun m l marks body
      → WeighsRun (m + n + 4) (l + k) (number ∷ marks) (do_run c number body e)
  do-weighs n k number m l marks body e he hb = record {
    weighs = λ exits block after.
        let exit = exit_of block after in
        let start = block + exit_blocks after in
        let inside = start + 2 in
        weighs-to (suc (suc (suc (m + 1 + (n + leave after))))) (l + (k + 0)) (m + n + 4 + leave after) (l + k)
        (omega arith) (omega arith)
        (weighs-mark W (suc (suc (m + 1 + (n + leave after)))) (l + (k + 0)) number marks _
        (weighs-op W (suc (m + 1 + (n + leave after))) (l + (k + 0)) marks (op.Jump start) _ refl refl
        (weighs-start start
        (weighs-op W (m + 1 + (n + leave after)) (l + (k + 0)) marks op.Turn _ refl refl
        (then-quiet (m + 1) l (n + leave after) (k + 0) marks
        (body.lines (record { breaks = exit; continues = suc start }) inside (To (suc start))) _
        (hb.weighs (record { breaks = exit; continues = suc start }) inside (To (suc start)))
        (weighs-start (suc start) (quiet-then W n k (leave after) 0
        (e.lines (inside + body.blocks (To 0)) 0 (Tests start exit)) (exit_lines c block after)
        (he (inside + body.blocks (To 0)) start exit) (exit-lines-weigh block after))))))));
    none = some;
  }

  pub for-weighs : (r s t number m l : ℕ) (mf marks : List ℕ) (first : First) (test after : Option Expression)
      (body : Run) (hf : WeighedLines r mf (first_lines c first)) (ht : WeighedAny s test) (ha : WeighedAny t after)
      → WeighsRun m l marks body
      → WeighsRun (hf.n + (ht.n + m + ha.n + 5)) (hf.k + (ht.k + l + ha.k)) (number ∷ (mf ++ marks))
      (for_run c number first test after body)
  for-weighs r s t number m l mf marks first test after body hf ht ha hb = record {
    weighs = λ exits block leaves.
        weighs-to (suc (hf.n + (ht.n + m + ha.n + 4 + leave leaves))) (hf.k + (ht.k + l + ha.k))
        (hf.n + (ht.n + m + ha.n + 5) + leave leaves) (hf.k + (ht.k + l + ha.k)) (omega arith) (omega arith)
        (weighs-mark W (hf.n + (ht.n + m + ha.n + 4 + leave leaves)) (hf.k + (ht.k + l + ha.k)) number (mf ++ marks) _
        (weighs-then W hf.n hf.k (ht.n + m + ha.n + 4 + leave leaves) (ht.k + l + ha.k) mf marks
        (first_lines c first block) _ (hf.is block)
        (loop-weighs s t m l marks test after body ht ha hb (block + first_blocks c first) leaves)));
    none = some;
  }

  -- ---- statements in order

  started-weighs : (o : Option ℕ) → Quiet W 0 0 (started o)
  started-weighs None = quiet-ops W 0 [] tt (omega arith)
  started-weighs (Some block) = quiet-ops W 0 (Start block ∷ []) tt (omega arith)

  pub runs-none : WeighedRuns 0 [] []
  runs-none = record {
    n = 0;
    k = 0;
    few = omega arith;
    fewer = omega arith;
    is = λ labelled place exits block after. weighs-to (leave after) 0 (0 + 0 + leave after) 0 (omega arith)
        (omega arith)
        (onward-weighs after);
  }

  pub runs-one : (size : ℕ) (marks : List ℕ) (r : Run) → WeighedRun size marks r
      → WeighedRuns (size + 0) (marks ++ []) (r ∷ [])
  runs-one size marks r h = record {
    n = h.n;
    k = h.k;
    few = let e = h.few in omega (arith, e);
    fewer = let e = h.fewer in omega (arith, e);
    is = λ labelled place exits block after. rw (append-nil marks)
        (weighs-to (0 + (h.n + leave after)) (0 + h.k) (h.n + 0 + leave after) h.k (omega arith) (omega arith)
        (quiet-before 0 0 (h.n + leave after) h.k marks (started (labelled place)) (r.lines exits block after)
        (started-weighs (labelled place)) (h.is.weighs exits block after)));
  }

  pub runs-more : (s t : ℕ) (ms ns : List ℕ) (r q : Run) (rs : List Run) → WeighedRun s ms r
      → WeighedRuns t ns (q ∷ rs) → WeighedRuns (s + t) (ms ++ ns) (r ∷ q ∷ rs)
  runs-more s t ms ns r q rs h h' = record {
    n = h.n + h'.n;
    k = h.k + h'.k;
    few = let e = h.few in let e' = h'.few in omega (arith, e, e');
    fewer = let e = h.fewer in let e' = h'.fewer in omega (arith, e, e');
    is = λ labelled place exits block after.
        let next = towards (labelled (suc place)) in
        let j = jumps labelled (suc place) (q ∷ rs) in
        weighs-to (0 + (h.n + leave next + (h'.n + j + leave after))) (0 + (h.k + h'.k))
        (h.n + h'.n + (leave next + j) + leave after) (h.k + h'.k) (omega arith) (omega arith)
        (quiet-before 0 0 (h.n + leave next + (h'.n + j + leave after)) (h.k + h'.k) (ms ++ ns)
        (started (labelled place)) _ (started-weighs (labelled place))
        (weighs-then W (h.n + leave next) h.k (h'.n + j + leave after) h'.k ms ns (r.lines exits block next) _
        (h.is.weighs exits block next) (h'.is labelled (suc place) exits (block + r.blocks next) after)));
  }

  none-jumps : (place : ℕ) (rs : List Run) → jumps none_labelled place rs ≡ 0
  none-jumps place [] = refl
  none-jumps place (r ∷ []) = refl
  none-jumps place (r ∷ q ∷ rs) = let h = none-jumps (suc place) (q ∷ rs) in omega (arith, h)

  none-runs : (size : ℕ) (marks : List ℕ) (rs : List Run) → WeighedRuns size marks rs → is_empty rs ≡ true → marks ≡ []
  none-runs size marks [] h e = sym (h.is none_labelled 0 no_exits 0 Here).has
  none-runs size marks (r ∷ rs) h e = some e

  pub block-weighed : (size : ℕ) (marks : List ℕ) (rs : List Run) → WeighedRuns size marks rs
      → WeighedRun size marks (block_run c rs)
  block-weighed size marks rs h = record {
    n = h.n;
    k = h.k;
    few = h.few;
    fewer = h.fewer;
    is = record {
      weighs = λ exits block after.
          let e = none-jumps 0 rs in
          weighs-to (h.n + jumps none_labelled 0 rs + leave after) h.k (h.n + leave after) h.k (omega (arith, e))
          (omega arith) (h.is none_labelled 0 exits block after);
      none = none-runs size marks rs h;
    };
  }

  -- ---- `switch`

  leave-test : (t : Bool) (x : ℕ) → leave (towards (if t then Some x else None)) ≡ (if t then 1 else 0)
  leave-test true x = refl
  leave-test false x = refl

  jumps-before : (first : ℕ) (labels : List Label) (place : ℕ) (r : Run) (rs : List Run)
      → jumps (labelled_from first labels) place (r ∷ rs) + labelled_before labels (suc place)
      ≡ labelled_before labels (place + length (r ∷ rs))
  jumps-before first labels place r [] =
      let e : suc place ≡ place + 1 = omega arith in
      let k : labelled_before labels (suc place) ≡ labelled_before labels (place + 1) = ap (labelled_before labels) e in
      rw (← k) (omega arith)
  jumps-before first labels place r (q ∷ rs) =
      let h = jumps-before first labels (suc place) q rs in
      let e : suc place + length (q ∷ rs) ≡ place + length (r ∷ q ∷ rs) = omega arith in
      let k : labelled_before labels (suc place + length (q ∷ rs)) ≡ labelled_before labels (place + length
      (r ∷ q ∷ rs))
      = ap (labelled_before labels) e in
      let t = leave-test (has_label labels (suc place)) (first + labelled_before labels (suc place)) in
      rw (← k) (omega (arith, h, t))

  -- no more places have labels than there are labels
  none-before : (n : ℕ) → labelled_before [] n ≡ 0
  none-before zero = refl
  none-before (suc n) = let h = none-before n in omega (arith, h)

  -- one label more is before at most one place more
  more-label : (label : Label) (labels : List Label) (n : ℕ)
      → labelled_before (label ∷ labels) n ≤ labelled_before labels n + under label.before n
  more-label label labels zero = omega arith
  more-label label labels (suc n) =
      let h = more-label label labels n in
      let e = either-label (label.before == n) (has_label labels n) in
      let o = one label.before n (suc n) refl in
      omega (arith, h, e, o)
    where
      either-label : (t u : Bool)
          → (if t || u then 1 else 0) ≤ (if t then 1 else 0) + (if u then 1 else 0)
      either-label true true = omega arith
      either-label true false = omega arith
      either-label false true = omega arith
      either-label false false = omega arith

  pub few-labels : (labels : List Label) (n : ℕ) → labelled_before labels n ≤ length labels
  few-labels [] n = let h = none-before n in omega (arith, h)
  few-labels (label ∷ labels) n =
      let h = few-labels labels n in
      let e = more-label label labels n in
      let u = under-one label.before n in
      omega (arith, h, e, u)

  few-jumps : (first : ℕ) (labels : List Label) (rs : List Run)
      → jumps (labelled_from first labels) 0 rs ≤ length labels
  few-jumps first labels [] = omega arith
  few-jumps first labels (r ∷ rs) =
      let h = jumps-before first labels 0 r rs in
      let e = few-labels labels (0 + length (r ∷ rs)) in
      omega (arith, h, e)

  comparing-weighs : (x otherwise : ℕ) (cases : List Case) (block : ℕ)
      → Quiet W (2 * length cases + 1) 0 (comparing c x otherwise cases block)
  comparing-weighs x otherwise [] block = quiet-ops W (2 * length {A = Case} [] + 1) (Emit (op.Jump otherwise) ∷ [])
      (refl, refl, tt) (omega arith)
  comparing-weighs x otherwise (one ∷ []) block = quiet-ops W (2 * length (one ∷ []) + 1)
      (comparing c x otherwise (one ∷ []) block) (refl, refl, (refl, refl, tt)) (omega arith)
  comparing-weighs x otherwise (one ∷ other ∷ cases) block =
      let n = 2 * length (other ∷ cases) + 1 in
      weighs-to (suc (suc n)) 0 (2 * length (one ∷ other ∷ cases) + 1) 0 (omega arith) (omega arith)
      (weighs-op W (suc n) 0 [] _ _ refl refl (weighs-op W n 0 [] _ _ refl refl
      (weighs-start block (comparing-weighs x otherwise (other ∷ cases) (suc block)))))

  case-few : (value : Option ℤ) (x : ℕ) → length (case_of value x) ≤ 1
  case-few None x = omega arith
  case-few (Some v) x = omega arith

  cases-few : (first : ℕ) (all labels : List Label) → length (cases_of first all labels) ≤ length labels
  cases-few first all [] = omega arith
  cases-few first all (label ∷ labels) =
      let m = first + labelled_before all label.before in
      let e = length-append (case_of label.value m) (cases_of first all labels) in
      let h = case-few label.value m in
      let k = cases-few first all labels in
      omega (arith, e, h, k)

  opening-weighs : (t : Bool) (block : ℕ) → Quiet W 0 0 (opening t block)
  opening-weighs true block = quiet-ops W 0 [] tt (omega arith)
  opening-weighs false block = quiet-ops W 0 (Start block ∷ []) tt (omega arith)

  body-weighs : (size first : ℕ) (marks : List ℕ) (labels : List Label) (rs : List Run) (h : WeighedRuns size marks rs)
      → (exits : Exits) (block other : ℕ) → Weighs W (h.n + length labels + 1) h.k marks
      (body_lines c (labelled_from first labels) (has_label labels 0) rs exits block (To other))
  body-weighs size first marks labels [] h exits block other =
      subst (λ (m : List ℕ). Weighs W (h.n + length labels + 1) h.k m [])
      (h.is none_labelled 0 no_exits 0 Here).has
      (weighs-to 0 0 (h.n + length labels + 1) h.k (omega arith) (omega arith) (weighs-none W))
  body-weighs size first marks labels (r ∷ rs) h exits block other =
      let j = jumps (labelled_from first labels) 0 (r ∷ rs) in
      let t = has_label labels 0 in
      let e = few-jumps first labels (r ∷ rs) in
      weighs-to (0 + (h.n + j + 1)) (0 + h.k) (h.n + length labels + 1) h.k (omega (arith, e)) (omega arith)
      (quiet-before 0 0 (h.n + j + 1) h.k marks (opening t block) _ (opening-weighs t block)
      (h.is (labelled_from first labels) 0 exits (block + opening_blocks t) (To other)))

  pub switch-weighs : (size n k number : ℕ) (marks : List ℕ) (e : Part) (labels : List Label) (rs : List Run)
      → ((block : ℕ) → Quiet W n k ((operand c true e).lines block 0)) → (h : WeighedRuns size marks rs)
      → WeighsRun (n + h.n + 3 * length labels + 3) (k + h.k) (number ∷ marks) (switch_run c number e labels rs)
  switch-weighs size n k number marks e labels rs he h = record {
    weighs = λ exits block after.
        let exit = exit_of block after in
        let first = block + exit_blocks after in
        let cases = cases_of first labels labels in
        let tests = first + labelled_before labels (length rs) in
        let value = tests + comparing_blocks cases in
        let x = operand c true e in
        let inner : Exits = record { breaks = exit; continues = exits.continues } in
        let few = cases-few first labels labels in
        let m = 2 * length cases + 1 in
        let b = h.n + length labels + 1 in
        weighs-to (suc (n + (m + (b + leave after)))) (k + (0 + (h.k + 0)))
        (n + h.n + 3 * length labels + 3 + leave after) (k + h.k) (omega (arith, few)) (omega arith)
        (weighs-mark W (n + (m + (b + leave after))) (k + (0 + (h.k + 0))) number marks _
        (quiet-before n k (m + (b + leave after)) (0 + (h.k + 0)) marks (x.lines value 0) _ (he value)
        (quiet-before m 0 (b + leave after) (h.k + 0) marks
        (comparing c (x.spot 0).number (default_block exit first labels) cases tests) _
        (comparing-weighs (x.spot 0).number (default_block exit first labels) cases tests)
        (then-quiet b h.k (leave after) 0 marks
        (body_lines c (labelled_from first labels) (has_label labels 0) rs inner (value + x.blocks) (To exit))
        (exit_lines c block after) (body-weighs size first marks labels rs h inner (value + x.blocks) exit)
        (exit-lines-weigh block after)))));
    none = some;
  }

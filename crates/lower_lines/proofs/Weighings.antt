-- What the lines of items, statements and functions weigh.
use Rattle.std.proofs.Common.{◌≤◌, ℕ, zero, suc, ◌+◌, ◌*◌, Bool, true, false, pos, List, [], ◌∷◌}
use Rattle.std.proofs.Common.{Option, Some, None, refl, arith, length, map, take}
use Rattle.std.specs.Prelude.{if◌then◌else◌, sum_by}
use Rattle.std.proofs.lemmas.List.Sums.{sum_by-cons}
use Rattle.c_tree.specs.declared.types.IntegerType.{IntegerType}
use Rattle.c_tree.specs.declared.types.IntegerType.TheVariants.{Char, Short, Int, UnsignedInt}
use Rattle.c_tree.specs.declared.types.ValueType.{ValueType}
use Rattle.c_tree.specs.declared.types.ValueType.TheVariants.{Void, Integer, Pointer}
use Rattle.c_tree.specs.Evaluation.{type_at}
use Rattle.c_tree.specs.Program.{Expression, Elements, Text, Item, Scalar, Array, First, Nothing, Evaluated}
use Rattle.c_tree.specs.Program.{Declared, Statement, Declare, Empty, Evaluate, Block, If, While, Do, For}
use Rattle.c_tree.specs.Program.{Switch, Break}
use Rattle.c_tree.specs.Program.{Continue, Return, Statements, Done, Next, Local}
use Rattle.c_tree.specs.Sizes.{expression_size, first_height, first_size, function_size, highest}
use Rattle.c_tree.specs.Sizes.{item_height, item_size, items_height, option_height, option_size}
use Rattle.c_tree.specs.Sizes.{statement_height, statement_size, statements_height, statements_size}
use Rattle.c_tree.specs.WellTyped.{first_numbers, item_number, statement_numbers, statements_numbers}
use Rattle.flow_graph.specs.declared.op.Op.TheVariants as op
use Rattle.lower_lines.specs.Expressions.{part_of}
use Rattle.lower_lines.specs.Lines.{Line, Emit}
use Rattle.lower_lines.specs.Parts.{Dropped, Tests, bits_of, in_type, operand}
use Rattle.lower_lines.specs.Programs.{body_run, lines_of_function, no_exits, parameter_of, parameters_lines}
use Rattle.lower_lines.specs.Programs.{words_in}
use Rattle.lower_lines.specs.Statements.{Leaves, copying, dropped_lines, elements_lines, first_lines}
use Rattle.lower_lines.specs.Statements.{initialiser_part, item_blocks, item_lines, items_lines, reads_none}
use Rattle.lower_lines.specs.Statements.{returned_lines, run_of, runs_of, text_count, zeroed_by, zeroing}
use Rattle.lower_lines.specs.Variables.{Context, Spot, local_spot, own}
use Rattle.lower_lines.proofs.Burdens.{WeighedAny, WeighedLines, WeighedRun, WeighedRuns, any-weighed, block-weighed}
use Rattle.lower_lines.proofs.Burdens.{do-weighs, ending-weighs, for-weighs, if-weighs, runs-more, runs-none}
use Rattle.lower_lines.proofs.Burdens.{runs-one}
use Rattle.lower_lines.proofs.Burdens.{straight-run, switch-weighs, while-weighs}
use Rattle.lower_lines.proofs.Weighed.{assigned-local-weighs, operand-weighs, turned-weighs, weighed}
use Rattle.lower_lines.proofs.Weights.{Quiet, Weighs, quiet-ops, quiet-then, weighs-mark, weighs-op, weighs-start}
use Rattle.lower_lines.proofs.Weights.{weighs-then, weighs-to}

module _ (W : ℕ) (c : Context) where
  -- ---- items

  zeroed-weighs : (of : ValueType) (spot : Spot) → Quiet W 2 0 (zeroed_by of spot)
  zeroed-weighs Void spot = quiet-ops W 2 [] tt (omega arith)
  zeroed-weighs (Integer t) spot = quiet-ops W 2 (zeroed_by (Integer t) spot) (refl, refl, tt) (omega arith)
  zeroed-weighs (Pointer t) spot = quiet-ops W 2 (zeroed_by (Pointer t) spot) (refl, refl, (refl, refl, tt))
      (omega arith)

  unless-weighs : (t : Bool) (lines : List Line) → Quiet W 2 0 lines → Quiet W 2 0 (if t then [] else lines)
  unless-weighs true lines h = quiet-ops W 2 [] tt (omega arith)
  unless-weighs false lines h = h

  copying-weighs : (t : IntegerType) (count block : ℕ) → Quiet W 8 0 (copying c t count block)
  copying-weighs t count block = quiet-ops W 8 (copying c t count block)
      (refl, refl, (refl, refl, (refl, refl, (refl, refl, (refl, refl, (refl, refl, (refl, refl, (refl, refl, tt))))))))
      (omega arith)

  -- the elements of an array
  elements-weighed : (t : IntegerType) (place : ℕ) (es : List Expression) → 2 * highest 2 es ≤ W
      → WeighedLines W c (sum_by expression_size es) [] (elements_lines c t place es)
  elements-weighed t place [] le = record {
    n = 0;
    k = 0;
    few = omega arith;
    fewer = omega arith;
    is = λ block. quiet-ops W 0 [] tt (omega arith);
  }
  elements-weighed t place (e ∷ es) le =
      let h = weighed W c e (omega (arith, le)) in
      let h' = elements-weighed t (suc place) es (omega (arith, le)) in
      let s = sum_by-cons expression_size e es in
      let x = operand c true (part_of c e) in
      record {
        n = h.n + suc (suc h'.n);
        k = h.k + h'.k;
        few = let e = h.few in let e' = h'.few in omega (arith, e, e', s);
        fewer = let e = h.fewer in let e' = h'.fewer in omega (arith, e, e', s);
        is = λ block. quiet-then W h.n h.k (suc (suc h'.n)) h'.k (x.lines block 1) _
            ((operand-weighs W c h.n h.k true (part_of c e) h.is).weighs block 1)
            (weighs-op W (suc h'.n) h'.k [] (op.Const (own c 0).number (pos place)) _ refl refl
            (weighs-op W h'.n h'.k [] (op.Store (bits_of t) (own c 0).array (own c 0).number
            (x.spot 1).number) _ refl refl
            (h'.is (block + x.blocks))));
      }

  item-weighed : (item : Item) → 2 * item_height item ≤ W
      → WeighedLines W c (item_size item) (item_number item ∷ []) (item_lines c item)
  item-weighed (Scalar n local None) le = record {
    n = 3;
    k = 0;
    few = omega arith;
    fewer = omega arith;
    is = λ block. weighs-mark W 2 0 n [] _ (zeroed-weighs (type_at c.function local) (local_spot c local));
  }
  item-weighed (Scalar n local (Some e)) le =
      let h = weighed W c e (omega (arith, le)) in
      let a = initialiser_part c local e in
      record {
        n = suc (2 + (h.n + 9));
        k = 0 + (h.k + 0);
        few = let e = h.few in omega (arith, e);
        fewer = let e = h.fewer in omega (arith, e);
        is = λ block. weighs-mark W (2 + (h.n + 9)) (0 + (h.k + 0)) n [] _
            (quiet-then W 2 0 (h.n + 9) (h.k + 0) (if reads_none e then [] else zeroing c local)
            (a.lines block 0 Dropped)
            (unless-weighs (reads_none e) (zeroing c local)
            (zeroed-weighs (type_at c.function local) (local_spot c local)))
            ((assigned-local-weighs W c h.n h.k (type_at c.function local) local
            (part_of c e) h.is).weighs block 0 Dropped));
      }
  item-weighed (Array n k t (Elements es)) le =
      let h = elements-weighed t 0 es le in
      record {
        n = suc (suc (suc h.n));
        k = h.k;
        few = let e = h.few in omega (arith, e);
        fewer = let e = h.fewer in omega (arith, e);
        is = λ block. weighs-mark W (suc (suc h.n)) h.k n [] _
            (weighs-op W (suc h.n) h.k [] (op.Clear k) _ refl refl
            (weighs-op W h.n h.k [] (op.Frame (own c 0).array k) _ refl refl (h.is block)));
      }
  item-weighed (Array n k t (Text object)) le = record {
    n = suc (suc (suc (suc 8)));
    k = 0;
    few = omega arith;
    fewer = omega arith;
    is = λ block. weighs-mark W (suc (suc (suc 8))) 0 n [] _
        (weighs-op W (suc (suc 8)) 0 [] (op.Clear k) _ refl refl
        (weighs-op W (suc 8) 0 [] (op.Frame (own c 0).array k) _ refl refl
        (weighs-op W 8 0 [] (op.Static (own c 1).array object) _ refl refl
        (copying-weighs t (text_count c k object) block))));
  }

  items-weighed : (items : List Item) → 2 * items_height items ≤ W
      → WeighedLines W c (sum_by item_size items) (map item_number items) (items_lines c items)
  items-weighed [] le = record {
    n = 0;
    k = 0;
    few = omega arith;
    fewer = omega arith;
    is = λ block. quiet-ops W 0 [] tt (omega arith);
  }
  items-weighed (item ∷ items) le =
      let h = item-weighed item (omega (arith, le)) in
      let h' = items-weighed items (omega (arith, le)) in
      let s = sum_by-cons item_size item items in
      record {
        n = h.n + h'.n;
        k = h.k + h'.k;
        few = let e = h.few in let e' = h'.few in omega (arith, e, e', s);
        fewer = let e = h.fewer in let e' = h'.fewer in omega (arith, e, e', s);
        is = λ block. weighs-then W h.n h.k h'.n h'.k (item_number item ∷ []) (map item_number items)
            (item_lines c item block) (items_lines c items (block + item_blocks c item)) (h.is block)
            (h'.is (block + item_blocks c item));
      }

  first-weighed : (first : First) → 2 * first_height first ≤ W
      → WeighedLines W c (first_size first) (first_numbers first) (first_lines c first)
  first-weighed Nothing le = record {
    n = 0;
    k = 0;
    few = omega arith;
    fewer = omega arith;
    is = λ block. quiet-ops W 0 [] tt (omega arith);
  }
  first-weighed (Evaluated e) le =
      let h = weighed W c e le in
      record {
        n = h.n;
        k = h.k;
        few = let e = h.few in omega (arith, e);
        fewer = let e = h.fewer in omega (arith, e);
        is = λ block. h.is.weighs block 0 Dropped;
      }
  first-weighed (Declared items) le = items-weighed items le

  returned-weighed : (value : Option Expression) → 2 * option_height value ≤ W
      → (n : ℕ) × (k : ℕ) × (suc n ≤ 20 * suc (option_size value)) × (k ≤ 2 * suc (option_size value))
      × ((block : ℕ) → Quiet W n k (returned_lines c value block))
  returned-weighed None le = (
    1,
    0,
    omega arith,
    omega arith,
    (λ block. quiet-ops W 1 (Emit (op.Return None) ∷ []) (refl, refl, tt) (omega arith)),
  )
  returned-weighed (Some e) le =
      let h = weighed W c e le in
      let x = operand c true (in_type c c.function.result (part_of c e)) in
      let few = h.few in
      let fewer = h.fewer in (
        h.n + 5 + 1,
        h.k + 0,
        omega (arith, few),
        omega (arith, fewer),
        (λ block. quiet-then W (h.n + 5) h.k 1 0 (x.lines block 0) _
            ((operand-weighs W c (h.n + 5) h.k true (in_type c c.function.result (part_of c e))
            (turned-weighs W c h.n h.k c.function.result (part_of c e) h.is)).weighs block 0)
            (quiet-ops W 1 (Emit (op.Return (Some (x.spot 0).number)) ∷ []) (refl, refl, tt) (omega arith))),
      )

  -- ---- statements

  mutual
    pub run-weighed : (x : Statement) → 2 * statement_height x ≤ W
        → WeighedRun W c (statement_size x) (statement_numbers x) (run_of c x)
    run-weighed (Declare item) le =
        straight-run W c (item_size item) _ _ (item_number item ∷ []) (item_lines c item) (item-weighed item le)
    run-weighed (Empty n) le = straight-run W c 1 _ _ (n ∷ []) (λ block. Emit (op.Mark n) ∷ []) (record {
      n = 1;
      k = 0;
      few = omega arith;
      fewer = omega arith;
      is = λ block. weighs-mark W 0 0 n [] [] (quiet-ops W 0 [] tt (omega arith));
    })
    run-weighed (Evaluate n e) le =
        let h = weighed W c e le in
        straight-run W c (suc (expression_size e)) _ _ (n ∷ []) (λ block. Emit (op.Mark n) ∷ dropped_lines c e block)
        (record {
          n = suc h.n;
          k = h.k;
          few = let e = h.few in omega (arith, e);
          fewer = let e = h.fewer in omega (arith, e);
          is = λ block. weighs-mark W h.n h.k n [] _ (h.is.weighs block 0 Dropped);
        })
    run-weighed (Block body) le = block-weighed W c (statements_size body) (statements_numbers body) (runs_of c body)
        (runs-weighed body le)
    run-weighed (If number e a b) le =
        let h = weighed W c e (omega (arith, le)) in
        let ha = run-weighed a (omega (arith, le)) in
        let hb = run-weighed b (omega (arith, le)) in
        record {
          n = suc (h.n + (ha.n + 1 + (hb.n + 1)));
          k = h.k + (ha.k + hb.k);
          few = let e = h.few in let e' = ha.few in let e'' = hb.few in omega (arith, e, e', e'');
          fewer = let e = h.fewer in let e' = ha.fewer in let e'' = hb.fewer in omega (arith, e, e', e'');
          is = if-weighs W c h.n h.k ha.n ha.k hb.n hb.k number (statement_numbers a) (statement_numbers b)
              (part_of c e)
              (run_of c a) (run_of c b) (λ block holds fails. h.is.weighs block 0 (Tests holds fails)) ha.is hb.is;
        }
    run-weighed (While number e s) le =
        let h = any-weighed W c (Some e) (omega (arith, le)) in
        let hs = run-weighed s (omega (arith, le)) in
        let hn : WeighedAny W c 0 None = any-weighed W c None (omega arith) in
        record {
          n = h.n + hs.n + hn.n + 5;
          k = h.k + hs.k + hn.k;
          few = let e = h.few in let e' = hs.few in let e'' = hn.few in omega (arith, e, e', e'');
          fewer = let e = h.fewer in let e' = hs.fewer in let e'' = hn.fewer in omega (arith, e, e', e'');
          is = while-weighs W c (expression_size e) number hs.n hs.k (statement_numbers s) e (run_of c s) h hs.is hn;
        }
    run-weighed (Do number s e) le =
        let h = weighed W c e (omega (arith, le)) in
        let hs = run-weighed s (omega (arith, le)) in
        record {
          n = hs.n + h.n + 4;
          k = hs.k + h.k;
          few = let e = h.few in let e' = hs.few in omega (arith, e, e');
          fewer = let e = h.fewer in let e' = hs.fewer in omega (arith, e, e');
          is = do-weighs W c h.n h.k number hs.n hs.k (statement_numbers s) (run_of c s) (part_of c e)
              (λ block holds fails. h.is.weighs block 0 (Tests holds fails)) hs.is;
        }
    run-weighed (For number first test after s) le =
        let hf = first-weighed first (omega (arith, le)) in
        let ht = any-weighed W c test (omega (arith, le)) in
        let ha = any-weighed W c after (omega (arith, le)) in
        let hs = run-weighed s (omega (arith, le)) in
        record {
          n = hf.n + (ht.n + hs.n + ha.n + 5);
          k = hf.k + (ht.k + hs.k + ha.k);
          few = let e = hf.few in
              let e' = ht.few in
              let e'' = ha.few in
              let e''' = hs.few in
              omega (arith, e, e', e'', e''');
          fewer = let e = hf.fewer in
              let e' = ht.fewer in
              let e'' = ha.fewer in
              let e''' = hs.fewer in
              omega (arith, e, e', e'', e''');
          is = for-weighs W c (first_size first) (option_size test) (option_size after) number hs.n hs.k
              (first_numbers first) (statement_numbers s) first test after (run_of c s) hf ht ha hs.is;
        }
    run-weighed (Switch number e labels body) le =
        let h = weighed W c e (omega (arith, le)) in
        let hs = runs-weighed body (omega (arith, le)) in
        record {
          n = h.n + hs.n + 3 * length labels + 3;
          k = h.k + hs.k;
          few = let e = h.few in let e' = hs.few in omega (arith, e, e');
          fewer = let e = h.fewer in let e' = hs.fewer in omega (arith, e, e');
          is = switch-weighs W c (statements_size body) h.n h.k number (statements_numbers body) (part_of c e) labels
              (runs_of c body) (λ block. (operand-weighs W c h.n h.k true (part_of c e) h.is).weighs block 0) hs;
        }
    run-weighed (Break number) le = record {
      n = 2;
      k = 0;
      few = omega arith;
      fewer = omega arith;
      is = ending-weighs W c 2 0 _ _ (number ∷ [])
          (λ exits block. Emit (op.Mark number) ∷ Emit (op.Jump exits.breaks) ∷ [])
          (λ exits block. weighs-mark W 1 0 number [] _
          (quiet-ops W 1 (Emit (op.Jump exits.breaks) ∷ []) (refl, refl, tt) (omega arith)));
    }
    run-weighed (Continue number) le = record {
      n = 2;
      k = 0;
      few = omega arith;
      fewer = omega arith;
      is = ending-weighs W c 2 0 _ _ (number ∷ [])
          (λ exits block. Emit (op.Mark number) ∷ Emit (op.Jump exits.continues) ∷ [])
          (λ exits block. weighs-mark W 1 0 number [] _
          (quiet-ops W 1 (Emit (op.Jump exits.continues) ∷ []) (refl, refl, tt) (omega arith)));
    }
    run-weighed (Return number value) le =
        let (n, k, few, fewer, is) = returned-weighed value le in
        record {
          n = suc n;
          k = k;
          few = few;
          fewer = fewer;
          is = ending-weighs W c (suc n) k _ _ (number ∷ [])
              (λ exits block. Emit (op.Mark number) ∷ returned_lines c value block)
              (λ exits block. weighs-mark W n k number [] _ (is block));
        }

    pub runs-weighed : (xs : Statements) → 2 * statements_height xs ≤ W
        → WeighedRuns W c (statements_size xs) (statements_numbers xs) (runs_of c xs)
    runs-weighed Done le = runs-none W c
    runs-weighed (Next s Done) le =
        runs-one W c (statement_size s) (statement_numbers s) (run_of c s) (run-weighed s (omega (arith, le)))
    runs-weighed (Next s (Next t others)) le = runs-more W c (statement_size s) (statements_size (Next t others))
        (statement_numbers s) (statements_numbers (Next t others)) (run_of c s) (run_of c t) (runs_of c others)
        (run-weighed s (omega (arith, le))) (runs-weighed (Next t others) (omega (arith, le)))

  -- ---- functions

  parameter-weighs : (of : ValueType) (spot : Spot) (word : ℕ) → Quiet W 2 0 (parameter_of c of spot word)
  parameter-weighs Void spot word = quiet-ops W 2 [] tt (omega arith)
  parameter-weighs (Integer Char) spot word = quiet-ops W 2 (parameter_of c (Integer Char) spot word)
      (refl, refl, (refl, refl, tt)) (omega arith)
  parameter-weighs (Integer Short) spot word = quiet-ops W 2 (parameter_of c (Integer Short) spot word)
      (refl, refl, (refl, refl, tt)) (omega arith)
  parameter-weighs (Integer Int) spot word = quiet-ops W 2 (parameter_of c (Integer Int) spot word) (refl, refl, tt)
      (omega arith)
  parameter-weighs (Integer UnsignedInt) spot word = quiet-ops W 2 (parameter_of c (Integer UnsignedInt) spot word)
      (refl, refl, tt) (omega arith)
  parameter-weighs (Pointer t) spot word = quiet-ops W 2 (parameter_of c (Pointer t) spot word)
      (refl, refl, (refl, refl, tt)) (omega arith)

  parameters-weigh : (ls : List Local) (local word : ℕ)
      → Quiet W (2 * length ls) 0 (parameters_lines c ls local word)
  parameters-weigh [] local word = quiet-ops W (2 * length {A = Local} []) [] tt (omega arith)
  parameters-weigh (l ∷ ls) local word =
      weighs-to (2 + 2 * length ls) (0 + 0) (2 * length (l ∷ ls)) 0 (omega arith) (omega arith)
      (quiet-then W 2 0 (2 * length ls) 0 (parameter_of c l.of (local_spot c local) word) _
      (parameter-weighs l.of (local_spot c local) word) (parameters-weigh ls (suc local) (word + words_in l.of)))

  -- the lines of a function have the marks of its statements
  pub function-weighs : 2 * statements_height c.function.body ≤ W
      → Weighs W (20 * function_size c.function) (2 * function_size c.function) (statements_numbers c.function.body)
      (lines_of_function c)
  function-weighs le =
      let f = c.function in
      let ls = take f.parameters f.locals in
      let body = block-weighed W c (statements_size f.body) (statements_numbers f.body) (runs_of c f.body)
      (runs-weighed f.body le) in
      let few = body.few in
      let fewer = body.fewer in
      let l = length-few f.parameters f.locals in
      weighs-to (suc (2 * length ls + (body.n + 2))) (0 + body.k) (20 * function_size f) (2 * function_size f)
      (omega (arith, few, l)) (omega (arith, fewer))
      (weighs-start 0 (weighs-op W (2 * length ls + (body.n + 2)) (0 + body.k)
      (statements_numbers f.body) op.Turn _ refl
      refl (weighs-then W (2 * length ls) 0 (body.n + 2) body.k [] (statements_numbers f.body)
      (parameters_lines c ls 0 0) ((body_run c).lines no_exits 1 Leaves) (parameters-weigh ls 0 0)
      (body.is.weighs no_exits 1 Leaves))))
    where
      length-few : (n : ℕ) (ls : List Local) → length (take n ls) ≤ n
      length-few zero ls = omega arith
      length-few (suc n) [] = omega arith
      length-few (suc n) (l ∷ ls) = let h = length-few n ls in omega (arith, h)

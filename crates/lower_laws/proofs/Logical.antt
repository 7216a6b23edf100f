-- `&&` and `||`, whatever is wanted of them.
use Rattle.std.proofs.Common.{◌≡◌, ◌≢◌, ℕ, suc, ◌+◌, ◌≤◌, Bool, true, false, List, [], ◌∷◌, ◌++◌}
use Rattle.std.proofs.Common.{max, refl, sym, ◌∙◌, subst, arith, append-nil, append_assoc}
use Rattle.std.proofs.Math.Nat.{le-max_left, le-max_right}
use Rattle.std.specs.List.{Contains}
use Rattle.std.specs.Prelude.{if◌then◌else◌}
use Rattle.c_eval_laws.specs.Bounds.{state_of}
use Rattle.c_tree.specs.declared.types.ValueType.TheVariants.{Void}
use Rattle.c_tree.specs.Evaluation.{evaluate, truth_value}
use Rattle.c_tree.specs.Operators.{is_true}
use Rattle.c_tree.specs.Program.{Function, int}
use Rattle.c_tree.specs.Store as source
use Rattle.c_tree.specs.Store.{Evaluated, Gives, Ends, Held, HoldsNumber, HoldsPointer, and_then}
use Rattle.flow_graph.specs.declared.op.Op.TheVariants as op
use Rattle.flow_graph.specs.States as graph
use Rattle.lower_lines.specs.Expressions.{and_part, and_test, or_part, or_test, part_of}
use Rattle.lower_lines.specs.Expressions.{test_blocks_of}
use Rattle.lower_lines.specs.Following.{Begins, Follows, HoldsWanted, IsSite, Lowers, MayWant, Site, Stand}
use Rattle.lower_lines.specs.Following.{at_start, behind, context_of, shown_state, site_lines}
use Rattle.lower_lines.specs.Lines.{Line, Start, Emit, starts_in}
use Rattle.lower_lines.specs.Parts.{Wanted, Dropped, Own, ToLocal, Tests, Part}
use Rattle.lower_lines.specs.Relation.{Shows}
use Rattle.lower_lines.specs.Variables.{levels_of, local_variables}
use Rattle.lower_lines.proofs.Changes.{kept-none}
use Rattle.lower_lines.proofs.Steps.{jump-step}
use Rattle.lower_laws.proofs.Binary.{Fits, compound-lowers, turns-fall}
use Rattle.lower_laws.proofs.Going.{Goes, stand-back, stand-front}
use Rattle.lower_laws.proofs.Leading.{IsTruth, LeadsTo, choose-leads, follows-lead, leads-behind}
use Rattle.lower_laws.proofs.Leading.{leads-follow, leads-on, one-more, start-goes, start-there}
use Rattle.lower_laws.proofs.Leading.{tests_place}
use Rattle.lower_laws.proofs.Levels.{levels-one, levels-below}
use Rattle.lower_laws.proofs.Pairs.{Falls}
use Rattle.lower_laws.proofs.Stepping.{lowers-same}
use Rattle.lower_laws.proofs.ExpressionConditions.{TestsSo, dropped-any, tests-fit}
use Rattle.lower_laws.proofs.ExpressionConditions.{truth-fits, truth-test, truth-typed}
use Rattle.lower_laws.specs.ExpressionsLaws.{AndsLower, OrsLower}

-- ---- the second operand

-- its lines where nothing is wanted of it, and the block behind them
abbrev pub tail_of : Part → ℕ → ℕ → ℕ → List Line
tail_of b block inner level =
    Start block ∷ (b.lines inner level Dropped ++ (Emit (op.Jump (suc block)) ∷ Start (suc block) ∷ []))

-- its truth value
abbrev pub second_run : (source.State → Evaluated Held) → source.State → Evaluated Held
second_run run t = and_then (run t) (λ y u. Gives (truth_value (is_true y)) u)

second-truth : (r : Evaluated Held) → IsTruth (and_then r (λ y u. Gives (truth_value (is_true y)) u))
second-truth (Ends end t) = tt
second-truth (Gives v t) = by (is_true v)
  where
    by : (bit : Bool) → truth_value bit ≡ truth_value (is_true (truth_value bit))
    by true = refl
    by false = refl

second-falls : (turns : ℕ) (r : Evaluated Held) → (state_of r).turns ≤ turns
    → (state_of (and_then r (λ y u. Gives (truth_value (is_true y)) u))).turns ≤ turns
second-falls turns (Gives v t) fall = fall
second-falls turns (Ends end t) fall = fall

-- it is there, and nothing is evaluated
already : (S : Site) (older : List Function) (level : ℕ) (wanted : Wanted) (t : source.State) (start : graph.State)
    (h : graph.State) (place : Held → graph.State → graph.State) (v : Held)
    → Shows S.program (S.function ∷ older) (shown_state wanted v t) h → HoldsWanted S level wanted int h v
    → Goes S t.turns start t.turns (place v h) []
    → LeadsTo S (S.function ∷ older) level wanted int t start h place (Gives v t)
already S older level wanted t start h place v shows holds goes =
    (h, [], shows, kept-none (local_variables S.function) level h, holds, sym (append-nil t.visits), goes)

module _ (S : Site) (site : IsSite S) (older : List Function) (b : Part) (run : source.State → Evaluated Held)
    (lb : Lowers S b run) (scalar : b.of ≢ Void) (level : ℕ) (room : level + b.levels ≤ levels_of S.function)
    (block inner : ℕ) (front : List Line) where
  -- tested, from the start of its block
  pub second-tests : (yes' no' : ℕ) (t : source.State) (h : graph.State)
      → Stand S front (Start block ∷ b.lines inner level (Tests yes' no')) → Contains (starts_in (site_lines S)) yes'
      → Contains (starts_in (site_lines S)) no' → Begins S (S.function ∷ older) t h
      → LeadsTo S (S.function ∷ older) level (Tests yes' no') int t (at_start S block h) h (tests_place S yes' no')
      (second_run run t)
  second-tests yes' no' t h stands holds fails begins =
      let ys = b.lines inner level (Tests yes' no') in
      leads-behind S (S.function ∷ older) level (Tests yes' no') int t t (at_start S block h)
      (behind (front ++ Start block ∷ []) h) h h [] (tests_place S yes' no') (second_run run t)
      (kept-none (local_variables S.function) level h) (sym (append-nil t.visits))
      (start-goes S site front block t.turns h (stand-front S front (Start block ∷ []) ys stands) begins.function)
      (truth-test S (S.function ∷ older) level yes' no' b.of t (behind (front ++ Start block ∷ []) h) h (run t)
      (follows-lead S (S.function ∷ older) (front ++ Start block ∷ []) ys level (Tests yes' no') b.of t h (run t)
      (lb.follows (S.function ∷ older) inner level (Tests yes' no') (front ++ Start block ∷ []) t h
      (stand-back S front (Start block ∷ []) ys stands) room (scalar, holds, fails) begins)))

  -- dropped, and then behind all lines
  abbrev dropped : List Line
  dropped = b.lines inner level Dropped

  abbrev leaves : Line
  leaves = Emit (op.Jump (suc block))

  abbrev other : List Line
  other = ((front ++ Start block ∷ []) ++ dropped) ++ leaves ∷ []

  all-is : other ++ Start (suc block) ∷ [] ≡ front ++ tail_of b block inner level
  all-is = one-more ((front ++ Start block ∷ []) ++ dropped) leaves (Start (suc block) ∷ [])
      ∙ append_assoc (front ++ Start block ∷ []) dropped (leaves ∷ Start (suc block) ∷ [])
      ∙ one-more front (Start block) (dropped ++ (leaves ∷ Start (suc block) ∷ []))

  in-block : Stand S front (tail_of b block inner level)
      → Stand S (front ++ Start block ∷ []) (dropped ++ (leaves ∷ Start (suc block) ∷ []))
  in-block stands = stand-back S front (Start block ∷ []) (dropped ++ (leaves ∷ Start (suc block) ∷ [])) stands

  at-leave : Stand S front (tail_of b block inner level)
      → Stand S ((front ++ Start block ∷ []) ++ dropped) (leaves ∷ Start (suc block) ∷ [])
  at-leave stands = stand-back S (front ++ Start block ∷ []) dropped (leaves ∷ Start (suc block) ∷ []) (in-block stands)

  pub at-end : Stand S front (tail_of b block inner level) → Stand S other (Start (suc block) ∷ [])
  at-end stands = stand-back S ((front ++ Start block ∷ []) ++ dropped) (leaves ∷ []) (Start (suc block) ∷ [])
      (at-leave stands)

  pub end-there : Stand S front (tail_of b block inner level) → Contains (starts_in (site_lines S)) (suc block)
  end-there stands = start-there S other [] (suc block) (at-end stands)

  end-goes : Stand S front (tail_of b block inner level) → (turns : ℕ) (i : graph.State) → i.current.function ≡ S.number
      → Goes S turns (at_start S (suc block) i) turns (behind (front ++ tail_of b block inner level) i) []
  end-goes stands turns i own =
      subst (λ (ls : List Line). Goes S turns (at_start S (suc block) i) turns (behind ls i) []) all-is
      (start-goes S site other (suc block) turns i (at-end stands) own)

  pub second-dropped : (t : source.State) (h : graph.State) → Stand S front (tail_of b block inner level)
      → Begins S (S.function ∷ older) t h
      → LeadsTo S (S.function ∷ older) level Dropped int t (at_start S block h) h
      (λ v i. behind (front ++ tail_of b block inner level) i) (second_run run t)
  second-dropped t h stands begins =
      leads-behind S (S.function ∷ older) level Dropped int t t (at_start S block h)
      (behind (front ++ Start block ∷ []) h) h h [] (λ v i. behind (front ++ tail_of b block inner level) i)
      (second_run run t)
      (kept-none (local_variables S.function) level h) (sym (append-nil t.visits))
      (start-goes S site front block t.turns h
      (stand-front S front (Start block ∷ []) (dropped ++ (leaves ∷ Start (suc block) ∷ [])) stands) begins.function)
      (leads-on S (S.function ∷ older) level Dropped int t (behind (front ++ Start block ∷ []) h) h
      (λ v i. behind ((front ++ Start block ∷ []) ++ dropped) i) (λ v i. behind
      (front ++ tail_of b block inner level) i)
      (second_run run t) begins.function
      (λ v turns i own o c. jump-step S site ((front ++ Start block ∷ []) ++ dropped) i own (suc block) turns o other
      (stand-front S ((front ++ Start block ∷ []) ++ dropped) (leaves ∷ []) (Start (suc block) ∷ []) (at-leave stands))
      (at-end stands) (end-goes stands turns i own o c))
      (dropped-any S (S.function ∷ older) level b.of int t (behind (front ++ Start block ∷ []) h) h
      ((front ++ Start block ∷ []) ++ dropped) (run t) (λ y. truth_value (is_true y))
      (follows-lead S (S.function ∷ older) (front ++ Start block ∷ []) dropped level Dropped b.of t h (run t)
      (lb.follows (S.function ∷ older) inner level Dropped (front ++ Start block ∷ []) t h
      (stand-front S (front ++ Start block ∷ []) dropped (leaves ∷ Start (suc block) ∷ []) (in-block stands)) room tt
      begins))))

  pub first-dropped : (v : Held) (t : source.State) (h : graph.State) → Stand S front (tail_of b block inner level)
      → Begins S (S.function ∷ older) t h
      → LeadsTo S (S.function ∷ older) level Dropped int t (at_start S (suc block) h) h
      (λ v i. behind (front ++ tail_of b block inner level) i) (Gives v t)
  first-dropped v t h stands begins =
      already S older level Dropped t (at_start S (suc block) h) h (λ v i. behind
      (front ++ tail_of b block inner level) i) v begins.shows
      tt (end-goes stands t.turns h begins.function)

first-room : (level i j top : ℕ) → level + max i j ≤ top → level + i ≤ top
first-room level i j top h = let m = le-max_left i j in omega (arith, h, m)

second-room : (level i j top : ℕ) → level + max i j ≤ top → level + j ≤ top
second-room level i j top h = let m = le-max_right i j in omega (arith, h, m)

pub both-fall : (i j k : ℕ) → i ≤ j → j ≤ k → i ≤ k
both-fall i j k p q = omega (arith, p, q)

-- ---- `&&`

abbrev pub and_run : (source.State → Evaluated Held) → (source.State → Evaluated Held) → source.State → Evaluated Held
and_run run run' s = and_then (run s) (λ x t. if is_true x then second_run run' t
    else Gives (truth_value false) t)

and-truth : (run' : source.State → Evaluated Held) (r : Evaluated Held)
    → IsTruth (and_then r (λ x t. if is_true x then second_run run' t
    else Gives (truth_value false) t))
and-truth run' (Ends end t) = tt
and-truth run' (Gives v t) = by (is_true v)
  where
    by : (bit : Bool) → IsTruth (if bit then second_run run' t else Gives (truth_value false) t)
    by true = second-truth (run' t)
    by false = refl

and-falls : (run' : source.State → Evaluated Held) → Falls run' → (turns : ℕ) (r : Evaluated Held)
    → (state_of r).turns ≤ turns
    → (state_of (and_then r (λ x t. if is_true x then second_run run' t
    else Gives (truth_value false) t))).turns ≤ turns
and-falls run' falls turns (Ends end t) fall = fall
and-falls run' falls turns (Gives v t) fall = by (is_true v)
  where
    by : (bit : Bool)
        → (state_of (if bit then second_run run' t else Gives (truth_value false) t)).turns ≤ turns
    by true = second-falls turns (run' t) (both-fall (state_of (run' t)).turns t.turns turns (falls t) fall)
    by false = fall

module _ (S : Site) (site : IsSite S) (a b : Part) (run run' : source.State → Evaluated Held) (la : Lowers S a run)
    (lb : Lowers S b run') (scalar : a.of ≢ Void) (scalar' : b.of ≢ Void) (one : 1 ≤ a.levels) (falls : Falls run)
    (falls' : Falls run') where
  and-tests : (older : List Function) (level : ℕ) → level + max a.levels b.levels ≤ levels_of S.function
      → TestsSo S (S.function ∷ older) level (and_test a b level) (and_run run run')
  and-tests older level room block yes' no' before s g stands holds fails begins =
      let xs = a.lines (suc block) level (Tests block no') in
      let ys = b.lines (suc block + test_blocks_of a) level (Tests yes' no') in
      let tail = stand-back S before xs (Start block ∷ ys) stands in
      choose-leads S older level block no' a.of (Tests yes' no') int s (behind before g) g (tests_place S yes' no')
      (run s)
      (λ x t. if is_true x then second_run run' t else Gives (truth_value false) t) begins (falls s)
      (follows-lead S (S.function ∷ older) before xs level (Tests block no') a.of s g (run s)
      (la.follows (S.function ∷ older) (suc block) level (Tests block no') before s g
      (stand-front S before xs (Start block ∷ ys) stands) (first-room level a.levels b.levels _ room)
      (scalar, start-there S (before ++ xs) ys block tail, fails) begins))
      (λ v t h again. pick (is_true v) t h (before ++ xs) tail again)
    where
      pick : (bit : Bool) (t : source.State) (h : graph.State) (front : List Line)
          → Stand S front (Start block ∷ b.lines (suc block + test_blocks_of a) level (Tests yes' no'))
          → Begins S (S.function ∷ older) t h
          → LeadsTo S (S.function ∷ older) level (Tests yes' no') int t (at_start S (if bit then block else no') h) h
          (tests_place S yes' no') (if bit then second_run run' t else Gives (truth_value false) t)
      pick true t h front tail again =
          second-tests S site older b run' lb scalar' level (second-room level a.levels b.levels _ room) block
          (suc block + test_blocks_of a) front yes' no' t h tail holds fails again
      pick false t h front tail again =
          already S older level (Tests yes' no') t (at_start S no' h) h (tests_place S yes' no') (truth_value false)
          again.shows tt (λ o c. c)

  and-drops : (older : List Function) (block level : ℕ) (before xs : List Line) (s : source.State)
      (g : graph.State) → xs ≡ a.lines (block + 2) level (Tests block (suc block))
      → Stand S before (xs ++ tail_of b block (block + 2 + test_blocks_of a) level)
      → level + max a.levels b.levels ≤ levels_of S.function → Begins S (S.function ∷ older) s g
      → Follows S (S.function ∷ older) before (xs ++ tail_of b block (block + 2 + test_blocks_of a) level) level Dropped
      int s g (and_run run run' s)
  and-drops older block level before xs s g same stands room begins =
      let inner = block + 2 + test_blocks_of a in
      let tail = tail_of b block inner level in
      let there = stand-back S before xs tail stands in
      let last = end-there S site older b run' lb scalar' level (second-room level a.levels b.levels _ room) block inner
      (before ++ xs) there in
      let first = start-there S (before ++ xs) (b.lines inner level Dropped
      ++ (Emit (op.Jump (suc block)) ∷ Start (suc block) ∷ [])) block there in
      leads-follow S (S.function ∷ older) before (xs ++ tail) level Dropped int s g (and_run run run' s)
      (subst (λ (ls : List Line). LeadsTo S (S.function ∷ older) level Dropped int s (behind before g) g
      (λ v i. behind ls i) (and_run run run' s)) (append_assoc before xs tail)
      (choose-leads S older level block (suc block) a.of Dropped int s (behind before g) g
      (λ v i. behind ((before ++ xs) ++ tail) i) (run s)
      (λ x t. if is_true x then second_run run' t else Gives (truth_value false) t) begins (falls s)
      (follows-lead S (S.function ∷ older) before xs level (Tests block (suc block)) a.of s g (run s)
      (subst (λ (ls : List Line). Follows S (S.function ∷ older) before ls level (Tests block (suc block)) a.of s g
      (run s)) (sym same)
      (la.follows (S.function ∷ older) (block + 2) level (Tests block (suc block)) before s g
      (subst (λ (ls : List Line). Stand S before ls) same (stand-front S before xs tail stands))
      (first-room level a.levels b.levels _ room) (scalar, first, last) begins)))
      (λ v t h again. pick (is_true v) t h (before ++ xs) there again)))
    where
      pick : (bit : Bool) (t : source.State) (h : graph.State) (front : List Line)
          → Stand S front (tail_of b block (block + 2 + test_blocks_of a) level) → Begins S (S.function ∷ older) t h
          → LeadsTo S (S.function ∷ older) level Dropped int t (at_start S (if bit then block else suc block) h) h
          (λ v i. behind (front ++ tail_of b block (block + 2 + test_blocks_of a) level) i)
          (if bit then second_run run' t else Gives (truth_value false) t)
      pick true t h front there again =
          second-dropped S site older b run' lb scalar' level (second-room level a.levels b.levels _ room) block
          (block + 2 + test_blocks_of a) front t h there again
      pick false t h front there again =
          first-dropped S site older b run' lb scalar' level (second-room level a.levels b.levels _ room) block
          (block + 2 + test_blocks_of a) front (truth_value false) t h there again

  and-fits : (older : List Function) (block level : ℕ) (wanted : Wanted) (before : List Line) (s : source.State)
      (g : graph.State) → Stand S before ((and_part (context_of S) a b).lines block level wanted)
      → level + max a.levels b.levels ≤ levels_of S.function → MayWant S wanted int → Begins S (S.function ∷ older) s g
      → Fits S (S.function ∷ older) before ((and_part (context_of S) a b).lines block level wanted) level wanted int s g
      (and_run run run' s)
  and-fits older block level Dropped before s g stands room may begins = (
    and-drops older block level before (a.lines (block + 2) level (Tests block
        (suc block))) s g refl stands room begins,
    truth-typed S (S.function ∷ older) (and_run run run' s) (and-truth run' (run s)),
  )
  and-fits older block level Own before s g stands room may begins =
      truth-fits S site older level (and_test a b level) (and_run run run') (and-tests older level room)
      (λ t. and-falls run' falls' t.turns (run t) (falls t)) (λ t. and-truth run' (run t)) block Own tt before s g
      stands (levels-below level a.levels _ (first-room level a.levels b.levels _ room) one) may begins
  and-fits older block level (ToLocal k) before s g stands room may begins =
      truth-fits S site older level (and_test a b level) (and_run run run') (and-tests older level room)
      (λ t. and-falls run' falls' t.turns (run t) (falls t)) (λ t. and-truth run' (run t)) block (ToLocal k) tt before
      s g stands (levels-below level a.levels _ (first-room level a.levels b.levels _ room) one) may begins
  and-fits older block level (Tests yes' no') before s g stands room may begins =
      tests-fit S older level (and_test a b level) (and_run run run') (and-tests older level room)
      (λ t. and-truth run' (run t)) block yes' no' before s g stands may begins

  pub and-lowers : Lowers S (and_part (context_of S) a b) (and_run run run')
  and-lowers = compound-lowers S (and_part (context_of S) a b) (and_run run run') refl refl
      (λ older block level wanted before s g stands room may begins.
      and-fits older block level wanted before s g stands room may begins)

pub ands-lower : AndsLower
ands-lower S site a b la lb scalar scalar' =
    lowers-same S (and_part (context_of S) (part_of (context_of S) a) (part_of (context_of S) b)) _ _ (λ s. refl)
    (and-lowers S site (part_of (context_of S) a) (part_of (context_of S) b) (evaluate S.calls a) (evaluate S.calls b)
    la lb scalar scalar' (levels-one (context_of S) a) (turns-fall S site a) (turns-fall S site b))

-- ---- `||`

abbrev pub or_run : (source.State → Evaluated Held) → (source.State → Evaluated Held) → source.State → Evaluated Held
or_run run run' s = and_then (run s) (λ x t. if is_true x then Gives (truth_value true) t
    else second_run run' t)

or-truth : (run' : source.State → Evaluated Held) (r : Evaluated Held)
    → IsTruth (and_then r (λ x t. if is_true x then Gives (truth_value true) t
    else second_run run' t))
or-truth run' (Ends end t) = tt
or-truth run' (Gives v t) = by (is_true v)
  where
    by : (bit : Bool) → IsTruth (if bit then Gives (truth_value true) t else second_run run' t)
    by false = second-truth (run' t)
    by true = refl

or-falls : (run' : source.State → Evaluated Held) → Falls run' → (turns : ℕ) (r : Evaluated Held)
    → (state_of r).turns ≤ turns
    → (state_of (and_then r (λ x t. if is_true x then Gives (truth_value true) t
    else second_run run' t))).turns ≤ turns
or-falls run' falls turns (Ends end t) fall = fall
or-falls run' falls turns (Gives v t) fall = by (is_true v)
  where
    by : (bit : Bool)
        → (state_of (if bit then Gives (truth_value true) t else second_run run' t)).turns ≤ turns
    by false = second-falls turns (run' t) (both-fall (state_of (run' t)).turns t.turns turns (falls t) fall)
    by true = fall

module _ (S : Site) (site : IsSite S) (a b : Part) (run run' : source.State → Evaluated Held) (la : Lowers S a run)
    (lb : Lowers S b run') (scalar : a.of ≢ Void) (scalar' : b.of ≢ Void) (one : 1 ≤ a.levels) (falls : Falls run)
    (falls' : Falls run') where
  or-tests : (older : List Function) (level : ℕ) → level + max a.levels b.levels ≤ levels_of S.function
      → TestsSo S (S.function ∷ older) level (or_test a b level) (or_run run run')
  or-tests older level room block yes' no' before s g stands holds fails begins =
      let xs = a.lines (suc block) level (Tests yes' block) in
      let ys = b.lines (suc block + test_blocks_of a) level (Tests yes' no') in
      let tail = stand-back S before xs (Start block ∷ ys) stands in
      choose-leads S older level yes' block a.of (Tests yes' no') int s (behind before g) g (tests_place S yes' no')
      (run s)
      (λ x t. if is_true x then Gives (truth_value true) t else second_run run' t) begins (falls s)
      (follows-lead S (S.function ∷ older) before xs level (Tests yes' block) a.of s g (run s)
      (la.follows (S.function ∷ older) (suc block) level (Tests yes' block) before s g
      (stand-front S before xs (Start block ∷ ys) stands) (first-room level a.levels b.levels _ room)
      (scalar, holds, start-there S (before ++ xs) ys block tail) begins))
      (λ v t h again. pick (is_true v) t h (before ++ xs) tail again)
    where
      pick : (bit : Bool) (t : source.State) (h : graph.State) (front : List Line)
          → Stand S front (Start block ∷ b.lines (suc block + test_blocks_of a) level (Tests yes' no'))
          → Begins S (S.function ∷ older) t h
          → LeadsTo S (S.function ∷ older) level (Tests yes' no') int t (at_start S (if bit then yes' else block) h) h
          (tests_place S yes' no') (if bit then Gives (truth_value true) t else second_run run' t)
      pick false t h front tail again =
          second-tests S site older b run' lb scalar' level (second-room level a.levels b.levels _ room) block
          (suc block + test_blocks_of a) front yes' no' t h tail holds fails again
      pick true t h front tail again =
          already S older level (Tests yes' no') t (at_start S yes' h) h (tests_place S yes' no') (truth_value true)
          again.shows tt (λ o c. c)

  or-drops : (older : List Function) (block level : ℕ) (before xs : List Line) (s : source.State)
      (g : graph.State) → xs ≡ a.lines (block + 2) level (Tests (suc block) block)
      → Stand S before (xs ++ tail_of b block (block + 2 + test_blocks_of a) level)
      → level + max a.levels b.levels ≤ levels_of S.function → Begins S (S.function ∷ older) s g
      → Follows S (S.function ∷ older) before (xs ++ tail_of b block (block + 2 + test_blocks_of a) level) level Dropped
      int s g (or_run run run' s)
  or-drops older block level before xs s g same stands room begins =
      let inner = block + 2 + test_blocks_of a in
      let tail = tail_of b block inner level in
      let there = stand-back S before xs tail stands in
      let last = end-there S site older b run' lb scalar' level (second-room level a.levels b.levels _ room) block inner
      (before ++ xs) there in
      let first = start-there S (before ++ xs) (b.lines inner level Dropped
      ++ (Emit (op.Jump (suc block)) ∷ Start (suc block) ∷ [])) block there in
      leads-follow S (S.function ∷ older) before (xs ++ tail) level Dropped int s g (or_run run run' s)
      (subst (λ (ls : List Line). LeadsTo S (S.function ∷ older) level Dropped int s (behind before g) g
      (λ v i. behind ls i) (or_run run run' s)) (append_assoc before xs tail)
      (choose-leads S older level (suc block) block a.of Dropped int s (behind before g) g
      (λ v i. behind ((before ++ xs) ++ tail) i) (run s)
      (λ x t. if is_true x then Gives (truth_value true) t else second_run run' t) begins (falls s)
      (follows-lead S (S.function ∷ older) before xs level (Tests (suc block) block) a.of s g (run s)
      (subst (λ (ls : List Line). Follows S (S.function ∷ older) before ls level (Tests (suc block) block) a.of s g
      (run s)) (sym same)
      (la.follows (S.function ∷ older) (block + 2) level (Tests (suc block) block) before s g
      (subst (λ (ls : List Line). Stand S before ls) same (stand-front S before xs tail stands))
      (first-room level a.levels b.levels _ room) (scalar, last, first) begins)))
      (λ v t h again. pick (is_true v) t h (before ++ xs) there again)))
    where
      pick : (bit : Bool) (t : source.State) (h : graph.State) (front : List Line)
          → Stand S front (tail_of b block (block + 2 + test_blocks_of a) level) → Begins S (S.function ∷ older) t h
          → LeadsTo S (S.function ∷ older) level Dropped int t (at_start S (if bit then suc block else block) h) h
          (λ v i. behind (front ++ tail_of b block (block + 2 + test_blocks_of a) level) i)
          (if bit then Gives (truth_value true) t else second_run run' t)
      pick false t h front there again =
          second-dropped S site older b run' lb scalar' level (second-room level a.levels b.levels _ room) block
          (block + 2 + test_blocks_of a) front t h there again
      pick true t h front there again =
          first-dropped S site older b run' lb scalar' level (second-room level a.levels b.levels _ room) block
          (block + 2 + test_blocks_of a) front (truth_value true) t h there again

  or-fits : (older : List Function) (block level : ℕ) (wanted : Wanted) (before : List Line) (s : source.State)
      (g : graph.State) → Stand S before ((or_part (context_of S) a b).lines block level wanted)
      → level + max a.levels b.levels ≤ levels_of S.function → MayWant S wanted int → Begins S (S.function ∷ older) s g
      → Fits S (S.function ∷ older) before ((or_part (context_of S) a b).lines block level wanted) level wanted int s g
      (or_run run run' s)
  or-fits older block level Dropped before s g stands room may begins = (
    or-drops older block level before (a.lines (block + 2) level (Tests (suc block) block)) s g refl stands room begins,
    truth-typed S (S.function ∷ older) (or_run run run' s) (or-truth run' (run s)),
  )
  or-fits older block level Own before s g stands room may begins =
      truth-fits S site older level (or_test a b level) (or_run run run') (or-tests older level room)
      (λ t. or-falls run' falls' t.turns (run t) (falls t)) (λ t. or-truth run' (run t)) block Own tt before s g
      stands (levels-below level a.levels _ (first-room level a.levels b.levels _ room) one) may begins
  or-fits older block level (ToLocal k) before s g stands room may begins =
      truth-fits S site older level (or_test a b level) (or_run run run') (or-tests older level room)
      (λ t. or-falls run' falls' t.turns (run t) (falls t)) (λ t. or-truth run' (run t)) block (ToLocal k) tt before
      s g stands (levels-below level a.levels _ (first-room level a.levels b.levels _ room) one) may begins
  or-fits older block level (Tests yes' no') before s g stands room may begins =
      tests-fit S older level (or_test a b level) (or_run run run') (or-tests older level room)
      (λ t. or-truth run' (run t)) block yes' no' before s g stands may begins

  pub or-lowers : Lowers S (or_part (context_of S) a b) (or_run run run')
  or-lowers = compound-lowers S (or_part (context_of S) a b) (or_run run run') refl refl
      (λ older block level wanted before s g stands room may begins.
      or-fits older block level wanted before s g stands room may begins)

pub ors-lower : OrsLower
ors-lower S site a b la lb scalar scalar' =
    lowers-same S (or_part (context_of S) (part_of (context_of S) a) (part_of (context_of S) b)) _ _ (λ s. refl)
    (or-lowers S site (part_of (context_of S) a) (part_of (context_of S) b) (evaluate S.calls a) (evaluate S.calls b)
    la lb scalar scalar' (levels-one (context_of S) a) (turns-fall S site a) (turns-fall S site b))

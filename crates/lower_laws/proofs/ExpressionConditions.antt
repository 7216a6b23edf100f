-- `!`, `&&` and `||`, whatever is wanted of them.
use Rattle.std.proofs.Common.{◌≡◌, ◌≢◌, ℕ, suc, ◌+◌, ◌<◌, ◌≤◌, Bool, true, false, not, pos, List, [], ◌∷◌, ◌++◌}
use Rattle.std.proofs.Common.{refl, sym, ap, subst, append-nil, append_assoc}
use Rattle.std.specs.List.{Contains}
use Rattle.std.specs.Ordering.{int_eq}
use Rattle.std.specs.Prelude.{if◌then◌else◌}
use Rattle.c_eval_laws.specs.Bounds.{state_of}
use Rattle.c_tree.specs.declared.expression.UnaryOp.TheVariants.{Not}
use Rattle.c_tree.specs.declared.types.IntegerType.TheVariants.{Int}
use Rattle.c_tree.specs.declared.types.ValueType.{ValueType}
use Rattle.c_tree.specs.declared.types.ValueType.TheVariants.{Void}
use Rattle.c_tree.specs.Evaluation.{evaluate, truth_value}
use Rattle.c_tree.specs.Operators.{is_true, unary_value}
use Rattle.c_tree.specs.Program.{Function, int}
use Rattle.c_tree.specs.Store as source
use Rattle.c_tree.specs.Store.{Evaluated, Gives, Ends, Held, HoldsNumber, HoldsPointer, and_then}
use Rattle.flow_graph.specs.declared.op.Op.TheVariants as op
use Rattle.flow_graph.specs.States as graph
use Rattle.lower_lines.specs.Expressions.{negated, part_of}
use Rattle.lower_lines.specs.Following.{Begins, Follows, GivesOf, IsSite, Lowers, MayWant, Site, Stand}
use Rattle.lower_lines.specs.Following.{at_start, behind, context_of, site_lines}
use Rattle.lower_lines.specs.Lines.{Line, Start, Emit, starts_in}
use Rattle.lower_lines.specs.Parts.{Wanted, Dropped, Own, ToLocal, Tests, Part, target, truth}
use Rattle.lower_lines.specs.Relation.{IsOf}
use Rattle.lower_lines.specs.Variables.{levels_of, local_variables}
use Rattle.lower_lines.proofs.Changes.{kept-none}
use Rattle.lower_laws.proofs.Binary.{Fits, compound-lowers, turns-fall}
use Rattle.lower_laws.proofs.Going.{Goes, stand-back, stand-front}
use Rattle.lower_laws.proofs.Leading.{IsTruth, IsValue, LeadsTo, choose-leads, follows-lead, leads-behind}
use Rattle.lower_laws.proofs.Leading.{leads-follow, one-way, seven-more, start-goes, start-there}
use Rattle.lower_laws.proofs.Leading.{tests_place}
use Rattle.lower_laws.proofs.Levels.{levels-one, levels-below}
use Rattle.lower_laws.proofs.Pairs.{Falls}
use Rattle.lower_laws.proofs.Stepping.{lowers-same}
use Rattle.lower_laws.specs.ExpressionsLaws.{NotsLower}

-- ---- a truth value from lines that test

-- lines that test, wherever they stand: their value is a truth value
abbrev pub TestsSo : Site → List Function → ℕ → (ℕ → ℕ → ℕ → List Line) → (source.State → Evaluated Held) → Type 0
TestsSo S active level test run = (block yes' no' : ℕ) (before : List Line) (s : source.State) (g : graph.State)
    → Stand S before (test block yes' no') → Contains (starts_in (site_lines S)) yes'
    → Contains (starts_in (site_lines S)) no' → Begins S active s g
    → LeadsTo S active level (Tests yes' no') int s (behind before g) g (tests_place S yes' no') (run s)

truth-same : (r : Evaluated Held) → IsTruth r → and_then r (λ v t. Gives (truth_value (is_true v)) t) ≡ r
truth-same (Gives v t) is = ap (λ (w : Held). Gives w t) (sym is)
truth-same (Ends end t) is = refl

pub truth-typed : (S : Site) (active : List Function) (r : Evaluated Held) → IsTruth r → GivesOf S.program active int r
truth-typed S active (Gives v t) is = subst (λ (w : Held). IsOf S.program active int w) (sym is) tt
truth-typed S active (Ends end t) is = tt

-- the lines behind a test that make 1 or 0 of it
abbrev truth_lines : Site → ℕ → ℕ → Wanted → List Line
truth_lines S block level wanted =
    Start block ∷ Emit (op.Const (target (context_of S) level wanted).number (pos 1)) ∷ Emit (op.Jump (block + 2))
    ∷ Start (suc block) ∷ Emit (op.Const (target (context_of S) level wanted).number (pos 0))
    ∷ Emit (op.Jump (block + 2)) ∷ Start (block + 2) ∷ []

module _ (S : Site) (site : IsSite S) (older : List Function) (block level : ℕ) (wanted : Wanted)
    (value : IsValue wanted) (front : List Line) (room : level < levels_of S.function) (may : MayWant S wanted int)
    (stands : Stand S front (truth_lines S block level wanted)) where
  abbrev one : Line
  one = Emit (op.Const (target (context_of S) level wanted).number (pos 1))

  abbrev zero_line : Line
  zero_line = Emit (op.Const (target (context_of S) level wanted).number (pos 0))

  abbrev leaves : Line
  leaves = Emit (op.Jump (block + 2))

  abbrev second : List Line
  second = ((front ++ Start block ∷ []) ++ one ∷ []) ++ leaves ∷ []

  abbrev third : List Line
  third = ((second ++ Start (suc block) ∷ []) ++ zero_line ∷ []) ++ leaves ∷ []

  in-first : Stand S (front ++ Start block ∷ []) (one ∷ leaves ∷ Start (suc block) ∷ zero_line ∷ leaves
      ∷ Start (block + 2) ∷ [])
  in-first = stand-back S front (Start block ∷ [])
      (one ∷ leaves ∷ Start (suc block) ∷ zero_line ∷ leaves ∷ Start (block + 2) ∷ []) stands

  at-second : Stand S second (Start (suc block) ∷ zero_line ∷ leaves ∷ Start (block + 2) ∷ [])
  at-second = stand-back S ((front ++ Start block ∷ []) ++ one ∷ []) (leaves ∷ [])
      (Start (suc block) ∷ zero_line ∷ leaves ∷ Start (block + 2) ∷ [])
      (stand-back S (front ++ Start block ∷ []) (one ∷ [])
      (leaves ∷ Start (suc block) ∷ zero_line ∷ leaves ∷ Start (block + 2) ∷ []) in-first)

  in-second : Stand S (second ++ Start (suc block) ∷ []) (zero_line ∷ leaves ∷ Start (block + 2) ∷ [])
  in-second = stand-back S second (Start (suc block) ∷ []) (zero_line ∷ leaves ∷ Start (block + 2) ∷ []) at-second

  at-third : Stand S third (Start (block + 2) ∷ [])
  at-third = stand-back S ((second ++ Start (suc block) ∷ []) ++ zero_line ∷ []) (leaves ∷ [])
      (Start (block + 2) ∷ []) (stand-back S (second ++ Start (suc block) ∷ []) (zero_line ∷ [])
      (leaves ∷ Start (block + 2) ∷ []) in-second)

  either-way : (bit : Bool) (t : source.State) (h : graph.State) → Begins S (S.function ∷ older) t h
      → LeadsTo S (S.function ∷ older) level wanted int t (at_start S (if bit then block else suc block) h) h
      (λ v i. behind (third ++ Start (block + 2) ∷ []) i) (Gives (truth_value bit) t)
  either-way true t h b =
      leads-behind S (S.function ∷ older) level wanted int t t (at_start S block h)
      (behind (front ++ Start block ∷ []) h) h h [] (λ v i. behind (third ++ Start (block + 2) ∷ []) i)
      (Gives (truth_value true) t) (kept-none (local_variables S.function) level h) (sym (append-nil t.visits))
      (start-goes S site front block t.turns h (stand-front S front (Start block ∷ [])
      (one ∷ leaves ∷ Start (suc block) ∷ zero_line ∷ leaves ∷ Start (block + 2) ∷ []) stands) b.function)
      (one-way S site older level wanted value (pos 1) (front ++ Start block ∷ []) third (block + 2) t h room may b
      (stand-front S (front ++ Start block ∷ []) (one ∷ leaves ∷ [])
      (Start (suc block) ∷ zero_line ∷ leaves ∷ Start (block + 2) ∷ []) in-first) at-third)
  either-way false t h b =
      leads-behind S (S.function ∷ older) level wanted int t t (at_start S (suc block) h)
      (behind (second ++ Start (suc block) ∷ []) h) h h [] (λ v i. behind (third ++ Start (block + 2) ∷ []) i)
      (Gives (truth_value false) t) (kept-none (local_variables S.function) level h) (sym (append-nil t.visits))
      (start-goes S site second (suc block) t.turns h (stand-front S second (Start (suc block) ∷ [])
      (zero_line ∷ leaves ∷ Start (block + 2) ∷ []) at-second)
      b.function)
      (one-way S site older level wanted value (pos 0) (second ++ Start (suc block) ∷ []) third
      (block + 2) t h room may b
      (stand-front S (second ++ Start (suc block) ∷ []) (zero_line ∷ leaves ∷ [])
      (Start (block + 2) ∷ []) in-second) at-third)

  -- the test leads behind all lines
  pub truth-leads : (s : source.State) (start g : graph.State) (r : Evaluated Held) → Begins S (S.function ∷ older) s g
      → (state_of r).turns ≤ s.turns → IsTruth r
      → LeadsTo S (S.function ∷ older) level (Tests block (suc block)) int s start g (tests_place S block (suc block)) r
      → LeadsTo S (S.function ∷ older) level wanted int s start g
      (λ v i. behind (front ++ truth_lines S block level wanted) i) r
  truth-leads s start g r b fall is leads =
      subst (λ (ls : List Line). LeadsTo S (S.function ∷ older) level wanted int s start g (λ v i. behind ls i) r)
      (seven-more front (Start block) one leaves (Start (suc block)) zero_line leaves (Start (block + 2)))
      (subst (λ (q : Evaluated Held). LeadsTo S (S.function ∷ older) level wanted int s start g
      (λ v i. behind (third ++ Start (block + 2) ∷ []) i) q) (truth-same r is)
      (choose-leads S older level block (suc block) int wanted int s start g
      (λ v i. behind (third ++ Start (block + 2) ∷ []) i) r (λ v t. Gives (truth_value (is_true v)) t) b fall leads
      (λ v t h again. either-way (is_true v) t h again)))

  pub first-there : Contains (starts_in (site_lines S)) block
  first-there = start-there S front
      (one ∷ leaves ∷ Start (suc block) ∷ zero_line ∷ leaves ∷ Start (block + 2) ∷ []) block stands

  pub second-there : Contains (starts_in (site_lines S)) (suc block)
  second-there = start-there S second (zero_line ∷ leaves ∷ Start (block + 2) ∷ []) (suc block) at-second

behind-all : (S : Site) (active : List Function) (before lines : List Line) (level : ℕ) (wanted : Wanted)
    (s : source.State) (g : graph.State) (r : Evaluated Held) → IsValue wanted
    → LeadsTo S active level wanted int s (behind before g) g (λ v i. behind (before ++ lines) i) r
    → Follows S active before lines level wanted int s g r
behind-all S active before lines level Dropped s g r value leads = absurd value
behind-all S active before lines level (Tests yes' no') s g r value leads = absurd value
behind-all S active before lines level Own s g r value leads = leads-follow S active before lines level Own int s g r
    leads
behind-all S active before lines level (ToLocal k) s g r value leads =
    leads-follow S active before lines level (ToLocal k) int s g r leads

pub truth-fits : (S : Site) (site : IsSite S) (older : List Function) (level : ℕ) (test : ℕ → ℕ → ℕ → List Line)
    (run : source.State → Evaluated Held) → TestsSo S (S.function ∷ older) level test run → Falls run
    → ((s : source.State) → IsTruth (run s)) → (block : ℕ) (wanted : Wanted) → IsValue wanted → (before : List Line)
    (s : source.State) (g : graph.State) → Stand S before (truth (context_of S) block level wanted test)
    → level < levels_of S.function → MayWant S wanted int → Begins S (S.function ∷ older) s g
    → Fits S (S.function ∷ older) before (truth (context_of S) block level wanted test) level wanted int s g (run s)
truth-fits S site older level test run tests falls is block wanted value before s g stands room may b =
    let xs = test (block + 3) block (suc block) in
    let tail = truth_lines S block level wanted in
    let behind_test : Stand S (before ++ xs) tail = stand-back S before xs tail stands in (
      behind-all S (S.function ∷ older) before (xs ++ tail) level wanted s g (run s) value
          (subst (λ (ls : List Line). LeadsTo S (S.function ∷ older) level wanted int s (behind before g) g
          (λ v i. behind ls i) (run s)) (append_assoc before xs tail)
          (truth-leads S site older block level wanted value (before ++ xs) room may behind_test s (behind before g) g
          (run s) b (falls s) (is s)
          (tests (block + 3) block (suc block) before s g (stand-front S before xs tail stands)
          (first-there S site older block level wanted value (before ++ xs) room may behind_test)
          (second-there S site older block level wanted value (before ++ xs) room may behind_test) b))),
      truth-typed S (S.function ∷ older) (run s) (is s),
    )

-- lines that test, where control is wanted
pub tests-fit : (S : Site) (older : List Function) (level : ℕ) (test : ℕ → ℕ → ℕ → List Line)
    (run : source.State → Evaluated Held) → TestsSo S (S.function ∷ older) level test run
    → ((s : source.State) → IsTruth (run s)) → (block yes' no' : ℕ) (before : List Line) (s : source.State)
    (g : graph.State) → Stand S before (test block yes' no') → MayWant S (Tests yes' no') int
    → Begins S (S.function ∷ older) s g
    → Fits S (S.function ∷ older) before (test block yes' no') level (Tests yes' no') int s g (run s)
tests-fit S older level test run tests is block yes' no' before s g stands may b = (
  leads-follow S (S.function ∷ older) before (test block yes' no') level (Tests yes' no') int s g (run s)
      (tests block yes' no' before s g stands may.1 may.2 b),
  truth-typed S (S.function ∷ older) (run s) (is s),
)

-- ---- other values at the same place

-- a test of another value that goes to the same block
test-as : (S : Site) (active : List Function) (level p q p' q' : ℕ) (of : ValueType) (s : source.State)
    (start g : graph.State) (v v' : Held) (t : source.State)
    → (if is_true v then p else q) ≡ (if is_true v' then p' else q')
    → LeadsTo S active level (Tests p q) of s start g (tests_place S p q) (Gives v t)
    → LeadsTo S active level (Tests p' q') int s start g (tests_place S p' q') (Gives v' t)
test-as S active level p q p' q' of s start g v v' t same (h, us, shows, keeps, holds, seen, goes) = (
  h,
  us,
  shows,
  keeps,
  tt,
  seen,
  subst (λ (block : ℕ). Goes S s.turns start t.turns (at_start S block h) us) same goes,
)

true-same : (bit : Bool) → bit ≡ is_true (truth_value bit)
true-same true = refl
true-same false = refl

-- the truth value of a value goes where it does
pub truth-test : (S : Site) (active : List Function) (level p q : ℕ) (of : ValueType) (s : source.State)
    (start g : graph.State) (r : Evaluated Held)
    → LeadsTo S active level (Tests p q) of s start g (tests_place S p q) r
    → LeadsTo S active level (Tests p q) int s start g (tests_place S p q)
    (and_then r (λ v t. Gives (truth_value (is_true v)) t))
truth-test S active level p q of s start g (Ends end t) ends = ends
truth-test S active level p q of s start g (Gives v t) leads =
    test-as S active level p q p q of s start g v (truth_value (is_true v)) t
    (ap (λ (bit : Bool). if bit then p else q) (true-same (is_true v))) leads

-- where nothing is wanted, any value will do
pub dropped-any : (S : Site) (active : List Function) (level : ℕ) (of of' : ValueType) (s : source.State)
    (start g : graph.State) (lines : List Line) (r : Evaluated Held) (f : Held → Held)
    → LeadsTo S active level Dropped of s start g (λ v i. behind lines i) r
    → LeadsTo S active level Dropped of' s start g (λ v i. behind lines i) (and_then r (λ v t. Gives (f v) t))
dropped-any S active level of of' s start g lines (Ends end t) f ends = ends
dropped-any S active level of of' s start g lines (Gives v t) f (h, us, shows, keeps, holds, seen, goes) =
    (h, us, shows, keeps, tt, seen, goes)

-- ---- `!`

abbrev pub negating : Held → source.State → Evaluated Held
negating v t = Gives (truth_value (not (is_true v))) t

negating-truth : (r : Evaluated Held) → IsTruth (and_then r negating)
negating-truth (Ends end t) = tt
negating-truth (Gives v t) = by (not (is_true v))
  where
    by : (bit : Bool) → truth_value bit ≡ truth_value (is_true (truth_value bit))
    by true = refl
    by false = refl

negating-falls : (turns : ℕ) (r : Evaluated Held) → (state_of r).turns ≤ turns
    → (state_of (and_then r negating)).turns ≤ turns
negating-falls turns (Gives v t) fall = fall
negating-falls turns (Ends end t) fall = fall

flips : (bit : Bool) (yes' no' : ℕ)
    → (if bit then no' else yes') ≡ (if is_true (truth_value (not bit)) then yes' else no')
flips true yes' no' = refl
flips false yes' no' = refl

negating-leads : (S : Site) (active : List Function) (level yes' no' : ℕ) (of : ValueType) (s : source.State)
    (start g : graph.State) (r : Evaluated Held)
    → LeadsTo S active level (Tests no' yes') of s start g (tests_place S no' yes') r
    → LeadsTo S active level (Tests yes' no') int s start g (tests_place S yes' no') (and_then r negating)
negating-leads S active level yes' no' of s start g (Ends end t) ends = ends
negating-leads S active level yes' no' of s start g (Gives v t) leads =
    test-as S active level no' yes' yes' no' of s start g v (truth_value (not (is_true v))) t
    (flips (is_true v) yes' no') leads

module _ (S : Site) (site : IsSite S) (a : Part) (run : source.State → Evaluated Held) (la : Lowers S a run)
    (scalar : a.of ≢ Void) (one : 1 ≤ a.levels) (falls : Falls run) where
  abbrev negated_run : source.State → Evaluated Held
  negated_run s = and_then (run s) negating

  negated-tests : (older : List Function) (level : ℕ) → level + a.levels ≤ levels_of S.function
      → TestsSo S (S.function ∷ older) level (λ b holds fails. a.lines b level (Tests fails holds)) negated_run
  negated-tests older level room block yes' no' before s g stands holds fails b =
      negating-leads S (S.function ∷ older) level yes' no' a.of s (behind before g) g (run s)
      (follows-lead S (S.function ∷ older) before (a.lines block level (Tests no' yes')) level (Tests no' yes') a.of s g
      (run s)
      (la.follows (S.function ∷ older) block level (Tests no' yes') before s g stands room (scalar, fails, holds) b))

  negated-fits : (older : List Function) (block level : ℕ) (wanted : Wanted) (before : List Line) (s : source.State)
      (g : graph.State) → Stand S before ((negated (context_of S) a).lines block level wanted)
      → level + a.levels ≤ levels_of S.function → MayWant S wanted int → Begins S (S.function ∷ older) s g
      → Fits S (S.function ∷ older) before ((negated (context_of S) a).lines block level wanted) level wanted int s g
      (negated_run s)
  negated-fits older block level Dropped before s g stands room may b = (
    leads-follow S (S.function ∷ older) before (a.lines block level Dropped) level Dropped int s g (negated_run s)
        (dropped-any S (S.function ∷ older) level a.of int s (behind before g) g
        (before ++ a.lines block level Dropped) (run s) (λ v. truth_value (not (is_true v)))
        (follows-lead S (S.function ∷ older) before (a.lines block level Dropped) level Dropped a.of s g (run s)
        (la.follows (S.function ∷ older) block level Dropped before s g stands room tt b))),
    truth-typed S (S.function ∷ older) (negated_run s) (negating-truth (run s)),
  )
  negated-fits older block level Own before s g stands room may b =
      truth-fits S site older level (λ b holds fails. a.lines b level (Tests fails holds)) negated_run
      (negated-tests older level room) (λ t. negating-falls t.turns (run t) (falls t)) (λ t. negating-truth
      (run t)) block
      Own tt before s g stands (levels-below level a.levels (levels_of S.function) room one) may b
  negated-fits older block level (ToLocal k) before s g stands room may b =
      truth-fits S site older level (λ b holds fails. a.lines b level (Tests fails holds)) negated_run
      (negated-tests older level room) (λ t. negating-falls t.turns (run t) (falls t)) (λ t. negating-truth
      (run t)) block
      (ToLocal k) tt before s g stands (levels-below level a.levels (levels_of S.function) room one) may b
  negated-fits older block level (Tests yes' no') before s g stands room may b =
      tests-fit S older level (λ b holds fails. a.lines b level (Tests fails holds)) negated_run
      (negated-tests older level room) (λ t. negating-truth (run t)) block yes' no' before s g stands may b

  pub negated-lowers : Lowers S (negated (context_of S) a) negated_run
  negated-lowers = compound-lowers S (negated (context_of S) a) negated_run refl refl
      (λ older block level wanted before s g stands room may b.
      negated-fits older block level wanted before s g stands room may b)

not-value : (v : Held) → unary_value Int Not v ≡ truth_value (not (is_true v))
not-value (HoldsNumber n) = by (int_eq n (pos 0))
  where
    by : (bit : Bool) → HoldsNumber (if bit then pos 1 else pos 0) ≡ truth_value (not (not bit))
    by true = refl
    by false = refl
not-value (HoldsPointer array index) = by (is_true (HoldsPointer array index))
  where
    by : (bit : Bool) → HoldsNumber (if bit then pos 0 else pos 1) ≡ truth_value (not bit)
    by true = refl
    by false = refl

not-run : (r : Evaluated Held) → and_then r negating ≡ and_then r (λ v t. Gives (unary_value Int Not v) t)
not-run (Gives v t) = ap (λ (w : Held). Gives w t) (sym (not-value v))
not-run (Ends end t) = refl

pub nots-lower : NotsLower
nots-lower S site e lowers scalar =
    lowers-same S (negated (context_of S) (part_of (context_of S) e)) _ _ (λ s. not-run (evaluate S.calls e s))
    (negated-lowers S site (part_of (context_of S) e) (evaluate S.calls e) lowers scalar (levels-one (context_of S) e)
    (turns-fall S site e))

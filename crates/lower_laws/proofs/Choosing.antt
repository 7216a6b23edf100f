-- A truth value from lines that test it, whatever is wanted of it, at one state of the graphs.
use Rattle.std.proofs.Common.{◌≡◌, ℕ, suc, ◌+◌, ◌<◌, Bool, true, false, not, pos, List, [], ◌∷◌, ◌++◌, refl, sym}
use Rattle.std.proofs.Common.{subst, arith, append-nil, append_assoc}
use Rattle.std.specs.List.{Contains}
use Rattle.std.specs.Prelude.{if◌then◌else◌}
use Rattle.c_tree.specs.Evaluation.{truth_value}
use Rattle.c_tree.specs.Operators.{is_true}
use Rattle.c_tree.specs.Program.{Function, int}
use Rattle.c_tree.specs.Store as source
use Rattle.c_tree.specs.Store.{Evaluated, Gives}
use Rattle.flow_graph.specs.declared.op.Op.TheVariants as op
use Rattle.flow_graph.specs.States as graph
use Rattle.lower_lines.specs.Following.{Begins, Comes, IsSite, MayWant, Site, Stand, at_start, behind}
use Rattle.lower_lines.specs.Following.{context_of, site_lines}
use Rattle.lower_lines.specs.Lines.{Line, Start, Emit, starts_in}
use Rattle.lower_lines.specs.Parts.{Wanted, Dropped, Own, ToLocal, Tests, chosen, target, truth}
use Rattle.lower_lines.specs.Variables.{levels_of, local_variables}
use Rattle.lower_lines.proofs.Changes.{kept-none}
use Rattle.lower_laws.proofs.Binary.{Fits}
use Rattle.lower_laws.proofs.ExpressionConditions.{first-there, second-there, truth-leads}
use Rattle.lower_laws.proofs.Going.{Goes, stand-back, stand-front}
use Rattle.lower_laws.proofs.Leading.{IsValue, LeadsTo, tests_place}

-- where lines stand that test a truth value, at a state
abbrev pub TestsHere : Site → List Function → ℕ → (ℕ → ℕ → ℕ → List Line) → List Line → source.State → graph.State
    → Bool → Type 0
TestsHere S active level test before s g bit =
    (block yes' no' : ℕ) → Stand S before (test block yes' no') → Contains (starts_in (site_lines S)) yes'
    → Contains (starts_in (site_lines S)) no'
    → LeadsTo S active level (Tests yes' no') int s (behind before g) g (tests_place S yes' no')
    (Gives (truth_value bit) s)

-- ---- the other way round

flips : (bit : Bool) (yes' no' : ℕ) → (if is_true (truth_value bit) then no' else yes')
    ≡ (if is_true (truth_value (not bit)) then yes' else no')
flips true yes' no' = refl
flips false yes' no' = refl

-- a test whose blocks change places is one of the other truth value
pub tests-turned : (S : Site) (active : List Function) (level : ℕ) (test : ℕ → ℕ → ℕ → List Line) (before : List Line)
    (s : source.State) (g : graph.State) (bit : Bool) → TestsHere S active level test before s g bit
    → TestsHere S active level (λ block holds fails. test block fails holds) before s g (not bit)
tests-turned S active level test before s g bit tests block yes' no' stands has-yes has-no =
    let (h, us, shows, keeps, nothing, seen, goes) = tests block no' yes' stands has-no has-yes in (
      h,
      us,
      shows,
      keeps,
      tt,
      seen,
      subst (λ (b : ℕ). Goes S s.turns (behind before g) s.turns (at_start S b h) us) (flips bit yes' no') goes,
    )

-- ---- 1 or 0

true-same : (bit : Bool) → truth_value bit ≡ truth_value (is_true (truth_value bit))
true-same true = refl
true-same false = refl

-- the lines behind a test that make 1 or 0 of it
abbrev behind_test : Site → ℕ → ℕ → Wanted → List Line
behind_test S block level wanted =
    Start block ∷ Emit (op.Const (target (context_of S) level wanted).number (pos 1)) ∷ Emit (op.Jump (block + 2))
    ∷ Start (suc block) ∷ Emit (op.Const (target (context_of S) level wanted).number (pos 0))
    ∷ Emit (op.Jump (block + 2)) ∷ Start (block + 2) ∷ []

module _ (S : Site) (site : IsSite S) (older : List Function) (level : ℕ) (test : ℕ → ℕ → ℕ → List Line)
    (before : List Line) (s : source.State) (g : graph.State) (bit : Bool) (room : level < levels_of S.function)
    (b : Begins S (S.function ∷ older) s g) (tests : TestsHere S (S.function ∷ older) level test before s g bit) where
  made-leads : (block : ℕ) (wanted : Wanted) → IsValue wanted
      → Stand S before (truth (context_of S) block level wanted test) → MayWant S wanted int
      → LeadsTo S (S.function ∷ older) level wanted int s (behind before g) g
      (λ v i. behind (before ++ truth (context_of S) block level wanted test) i) (Gives (truth_value bit) s)
  made-leads block wanted value stands may =
      let xs = test (block + 3) block (suc block) in
      let tail = behind_test S block level wanted in
      let there = stand-back S before xs tail stands in
      subst (λ (ls : List Line). LeadsTo S (S.function ∷ older) level wanted int s (behind before g) g
      (λ v i. behind ls i) (Gives (truth_value bit) s)) (append_assoc before xs tail)
      (truth-leads S site older block level wanted value (before ++ xs) room may there s (behind before g) g
      (Gives (truth_value bit) s) b (omega arith) (true-same bit)
      (tests (block + 3) block (suc block) (stand-front S before xs tail stands)
      (first-there S site older block level wanted value (before ++ xs) room may there)
      (second-there S site older block level wanted value (before ++ xs) room may there)))

  -- whatever is wanted of it
  pub chosen-fits : (block : ℕ) (wanted : Wanted) → Stand S before (chosen (context_of S) block level wanted test)
      → MayWant S wanted int
      → Fits S (S.function ∷ older) before (chosen (context_of S) block level wanted test) level wanted int s g
      (Gives (truth_value bit) s)
  chosen-fits block Dropped stands may = (
    (
      g,
      [],
      b.shows,
      kept-none (local_variables S.function) level g,
      tt,
      sym (append-nil s.visits),
      λ o c. subst (λ (ls : List Line). Comes S s.turns (behind ls g) o) (append-nil before) c,
    ),
    tt,
  )
  chosen-fits block Own stands may = (made-leads block Own tt stands may, tt)
  chosen-fits block (ToLocal k) stands may = (made-leads block (ToLocal k) tt stands may, tt)
  chosen-fits block (Tests yes' no') stands may = (tests block yes' no' stands may.1 may.2, tt)

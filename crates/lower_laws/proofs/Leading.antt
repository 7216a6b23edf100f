-- Where evaluations lead, from one place of the lines to another: tests, and what comes behind them.
use Rattle.std.proofs.Common.{◌≡◌, ℕ, suc, ◌<◌, ◌≤◌, ℤ, List, [], ◌∷◌, ◌++◌}
use Rattle.std.proofs.Common.{refl, sym, ap, ◌∙◌, subst, arith, append_assoc}
use Rattle.std.specs.List.{Contains}
use Rattle.std.specs.Prelude.{if◌then◌else◌}
use Rattle.pcc_base.specs.Outcome.{Visit}
use Rattle.c_eval_laws.specs.Bounds.{state_of}
use Rattle.c_tree.specs.declared.types.IntegerType.TheVariants.{Int}
use Rattle.c_tree.specs.declared.types.ValueType.{ValueType}
use Rattle.c_tree.specs.Evaluation.{truth_value}
use Rattle.c_tree.specs.Operators.{is_true}
use Rattle.c_tree.specs.Program.{Function, int}
use Rattle.c_tree.specs.Store as source
use Rattle.c_tree.specs.Store.{Evaluated, Gives, Ends, Held, HoldsNumber, HoldsPointer, and_then}
use Rattle.flow_graph.specs.declared.op.Op.TheVariants as op
use Rattle.flow_graph.specs.States as graph
use Rattle.lower_lines.specs.Following.{Begins, Comes, EndsSo, Follows, HoldsWanted, IsSite, MayWant, Site, Stand}
use Rattle.lower_lines.specs.Following.{at_start, behind, context_of, reached, shown_state, site_lines}
use Rattle.lower_lines.specs.Lines.{Line, Start, Emit, starts_in}
use Rattle.lower_lines.specs.Parts.{Wanted, Dropped, Own, ToLocal, Tests, target}
use Rattle.lower_lines.specs.Relation.{Keeps, Shows}
use Rattle.lower_lines.specs.Variables.{levels_of, local_variables}
use Rattle.lower_lines.proofs.Changes.{kept-twice}
use Rattle.lower_lines.proofs.Points.{starts-stand}
use Rattle.lower_lines.proofs.Steps.{jump-step}
use Rattle.lower_laws.proofs.Atoms.{constants-lower}
use Rattle.lower_laws.proofs.Converting.{begins-again, lowers-fit}
use Rattle.lower_laws.proofs.Going.{Goes, goes-end, goes-then, stand-back, stand-front}

-- ---- blocks that stand

contains-start : (xs : List Line) (block : ℕ) (ys : List Line) → Contains (starts_in (xs ++ Start block ∷ ys)) block
contains-start [] block ys = (0, omega arith, refl)
contains-start (Start other ∷ xs) block ys =
    let (i, h, e) = contains-start xs block ys in (suc i, omega (arith, h), e)
contains-start (Emit o ∷ xs) block ys = contains-start xs block ys

-- a block whose start stands is one of the function's
pub start-there : (S : Site) (before ys : List Line) (block : ℕ) → Stand S before (Start block ∷ ys)
    → Contains (starts_in (site_lines S)) block
start-there S before ys block (rest, e) =
    subst (λ (ls : List Line). Contains (starts_in ls) block) (sym e) (contains-start before block (ys ++ rest))

-- from the start of a block to behind the line that starts it
pub start-goes : (S : Site) (site : IsSite S) (before : List Line) (block turns : ℕ) (h : graph.State)
    → Stand S before (Start block ∷ []) → h.current.function ≡ S.number
    → Goes S turns (at_start S block h) turns (behind (before ++ Start block ∷ []) h) []
start-goes S site before block turns h stands own o c =
    subst (λ (q : graph.State). Comes S turns q o) (sym (starts-stand S site before block h stands own).1) c

-- ---- where an evaluation leads

abbrev pub LeadsTo : Site → List Function → ℕ → Wanted → ValueType → source.State → graph.State → graph.State
    → (Held → graph.State → graph.State) → Evaluated Held → Type 0
LeadsTo S active level wanted of s start g place (Gives v t) =
    (h : graph.State) × (visits : List Visit) × Shows S.program active (shown_state wanted v t) h
    × Keeps (local_variables S.function) level g h × HoldsWanted S level wanted of h v
    × (t.visits ≡ s.visits ++ visits) × Goes S s.turns start t.turns (place v h) visits
LeadsTo S active level wanted of s start g place (Ends end t) = EndsSo S end s t start

pub follows-lead : (S : Site) (active : List Function) (before lines : List Line) (level : ℕ) (wanted : Wanted)
    (of : ValueType) (s : source.State) (g : graph.State) (r : Evaluated Held)
    → Follows S active before lines level wanted of s g r
    → LeadsTo S active level wanted of s (behind before g) g (λ v h. reached S wanted v (before ++ lines) h) r
follows-lead S active before lines level wanted of s g (Gives v t) f = f
follows-lead S active before lines level wanted of s g (Ends end t) f = f

pub leads-follow : (S : Site) (active : List Function) (before lines : List Line) (level : ℕ) (wanted : Wanted)
    (of : ValueType) (s : source.State) (g : graph.State) (r : Evaluated Held)
    → LeadsTo S active level wanted of s (behind before g) g (λ v h. reached S wanted v (before ++ lines) h) r
    → Follows S active before lines level wanted of s g r
leads-follow S active before lines level wanted of s g (Gives v t) f = f
leads-follow S active before lines level wanted of s g (Ends end t) f = f

-- it begins where something before it leads
pub leads-behind : (S : Site) (active : List Function) (level : ℕ) (wanted : Wanted) (of : ValueType)
    (s t : source.State) (start mid g h : graph.State) (us : List Visit) (place : Held → graph.State → graph.State)
    (r : Evaluated Held) → Keeps (local_variables S.function) level g h → t.visits ≡ s.visits ++ us
    → Goes S s.turns start t.turns mid us → LeadsTo S active level wanted of t mid h place r
    → LeadsTo S active level wanted of s start g place r
leads-behind S active level wanted of s t start mid g h us place (Ends end u) keeps seen goes ends =
    goes-end S end s t u start mid us seen goes ends
leads-behind S active level wanted of s t start mid g h us place (Gives v u) keeps seen goes
    (i, vs, shows, kept, holds, more, on) = (
      i,
      us ++ vs,
      shows,
      kept-twice (local_variables S.function) level g h i keeps kept,
      holds,
      more ∙ ap (λ (ws : List Visit). ws ++ vs) seen ∙ append_assoc s.visits us vs,
      goes-then S s.turns t.turns u.turns start mid (place v i) us vs goes on,
    )

-- it goes on from where it leads
pub leads-on : (S : Site) (active : List Function) (level : ℕ) (wanted : Wanted) (of : ValueType) (s : source.State)
    (start g : graph.State) (place place' : Held → graph.State → graph.State) (r : Evaluated Held)
    → g.current.function ≡ S.number
    → ((v : Held) (turns : ℕ) (i : graph.State) → i.current.function ≡ S.number
    → Goes S turns (place v i) turns (place' v i) [])
    → LeadsTo S active level wanted of s start g place r → LeadsTo S active level wanted of s start g place' r
leads-on S active level wanted of s start g place place' (Ends end u) own on ends = ends
leads-on S active level wanted of s start g place place' (Gives v u) own on
    (i, vs, shows, kept, holds, more, goes) = (
      i,
      vs,
      shows,
      kept,
      holds,
      more,
      λ o c. goes o (on v u.turns i (kept.function ∙ own) o c),
    )

-- where a test leads
abbrev pub tests_place : Site → ℕ → ℕ → Held → graph.State → graph.State
tests_place S yes' no' v h = at_start S (if is_true v then yes' else no') h

-- what comes behind a test, at the start of either block
pub choose-leads : (S : Site) (older : List Function) (level yes' no' : ℕ) (of' : ValueType) (wanted : Wanted)
    (of : ValueType) (s : source.State) (start g : graph.State) (place : Held → graph.State → graph.State)
    (r : Evaluated Held) (next : Held → source.State → Evaluated Held) → Begins S (S.function ∷ older) s g
    → (state_of r).turns ≤ s.turns
    → LeadsTo S (S.function ∷ older) level (Tests yes' no') of' s start g (tests_place S yes' no') r
    → ((v : Held) (t : source.State) (h : graph.State) → Begins S (S.function ∷ older) t h
    → LeadsTo S (S.function ∷ older) level wanted of t (tests_place S yes' no' v h) h place (next v t))
    → LeadsTo S (S.function ∷ older) level wanted of s start g place (and_then r next)
choose-leads S older level yes' no' of' wanted of s start g place (Ends end t) next b fall ends goes_on = ends
choose-leads S older level yes' no' of' wanted of s start g place (Gives v t) next b fall
    (h, us, shows, keeps, holds, seen, goes) goes_on =
    leads-behind S (S.function ∷ older) level wanted of s t start (tests_place S yes' no' v h) g h us place (next v t)
    keeps seen goes (goes_on v t h (begins-again S older s t g h level b shows keeps fall))

-- ---- truth values

-- what is given is 1 or 0
abbrev pub IsTruth : Evaluated Held → Type 0
IsTruth (Gives v t) = v ≡ truth_value (is_true v)
IsTruth (Ends end t) = Unit {0}

-- one line more
pub one-more : (xs : List Line) (a : Line) (ys : List Line) → (xs ++ a ∷ []) ++ ys ≡ xs ++ a ∷ ys
one-more xs a ys = append_assoc xs (a ∷ []) ys

pub seven-more : (xs : List Line) (a b c d e f g : Line)
    → (((((((xs ++ a ∷ []) ++ b ∷ []) ++ c ∷ []) ++ d ∷ []) ++ e ∷ []) ++ f ∷ []) ++ g ∷ [])
    ≡ xs ++ a ∷ b ∷ c ∷ d ∷ e ∷ f ∷ g ∷ []
seven-more xs a b c d e f g =
    one-more (((((xs ++ a ∷ []) ++ b ∷ []) ++ c ∷ []) ++ d ∷ []) ++ e ∷ []) f (g ∷ [])
    ∙ one-more ((((xs ++ a ∷ []) ++ b ∷ []) ++ c ∷ []) ++ d ∷ []) e (f ∷ g ∷ [])
    ∙ one-more (((xs ++ a ∷ []) ++ b ∷ []) ++ c ∷ []) d (e ∷ f ∷ g ∷ [])
    ∙ one-more ((xs ++ a ∷ []) ++ b ∷ []) c (d ∷ e ∷ f ∷ g ∷ [])
    ∙ one-more (xs ++ a ∷ []) b (c ∷ d ∷ e ∷ f ∷ g ∷ [])
    ∙ one-more xs a (b ∷ c ∷ d ∷ e ∷ f ∷ g ∷ [])

-- the wants of a value that go by `truth`
abbrev pub IsValue : Wanted → Type 0
IsValue Dropped = ⊥
IsValue Own = Unit {0}
IsValue (ToLocal k) = Unit {0}
IsValue (Tests yes' no') = ⊥

-- a value is written, and control goes to the block behind
pub one-way : (S : Site) (site : IsSite S) (older : List Function) (level : ℕ) (wanted : Wanted) → IsValue wanted
    → (n : ℤ) (before other : List Line) (block : ℕ) (t : source.State) (h : graph.State)
    → level < levels_of S.function → MayWant S wanted int → Begins S (S.function ∷ older) t h
    → Stand S before (Emit (op.Const (target (context_of S) level wanted).number n) ∷ Emit (op.Jump block) ∷ [])
    → Stand S other (Start block ∷ [])
    → LeadsTo S (S.function ∷ older) level wanted int t (behind before h) h
    (λ v i. behind (other ++ Start block ∷ []) i) (Gives (HoldsNumber n) t)
one-way S site older level Dropped value n before other block t h room may b stands there = absurd value
one-way S site older level (Tests yes' no') value n before other block t h room may b stands there = absurd value
one-way S site older level Own value n before other block t h room may b stands there =
    let line = Emit (op.Const (target (context_of S) level Own).number n) in
    leads-on S (S.function ∷ older) level Own int t (behind before h) h (λ v i. behind (before ++ line ∷ []) i)
    (λ v i. behind (other ++ Start block ∷ []) i) (Gives (HoldsNumber n) t) b.function
    (λ v turns i own o c. jump-step S site (before ++ line ∷ []) i own block turns o other
    (stand-back S before (line ∷ []) (Emit (op.Jump block) ∷ []) stands) there
    (start-goes S site other block turns i there own o c))
    (lowers-fit S _ _ (constants-lower S site Int n) (S.function ∷ older) 0 level Own before t h
    (stand-front S before (line ∷ []) (Emit (op.Jump block) ∷ []) stands) (omega (arith, room)) may b).0
one-way S site older level (ToLocal k) value n before other block t h room may b stands there =
    let line = Emit (op.Const (target (context_of S) level (ToLocal k)).number n) in
    leads-on S (S.function ∷ older) level (ToLocal k) int t (behind before h) h (λ v i. behind (before ++ line ∷ []) i)
    (λ v i. behind (other ++ Start block ∷ []) i) (Gives (HoldsNumber n) t) b.function
    (λ v turns i own o c. jump-step S site (before ++ line ∷ []) i own block turns o other
    (stand-back S before (line ∷ []) (Emit (op.Jump block) ∷ []) stands) there
    (start-goes S site other block turns i there own o c))
    (lowers-fit S _ _ (constants-lower S site Int n) (S.function ∷ older) 0 level (ToLocal k) before t h
    (stand-front S before (line ∷ []) (Emit (op.Jump block) ∷ []) stands) (omega (arith, room)) may b).0

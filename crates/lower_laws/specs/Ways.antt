-- What comes of an evaluation from a state of the graphs, wherever this stands, and what it means that lines do what an
-- evaluation does.
use Rattle.std.specs.Prelude.{◌≡◌, ◌≤◌, ℕ, Bool, List, ◌++◌}
use Rattle.pcc_base.specs.Outcome.{Outcome, Visit, after_visits}
use Rattle.c_eval_laws.specs.Bounds as bounds
use Rattle.c_tree.specs.Evaluation.{Left, Runs}
use Rattle.c_tree.specs.Program.{Function}
use Rattle.c_tree.specs.Store as source
use Rattle.c_tree.specs.Store.{Evaluated, Gives, Ends}
use Rattle.flow_graph.specs.States as graph
use Rattle.lower_lines.specs.Following.{Begins, Comes, ComesLeft, EndsSo, MayExit, MayGo, Site, Stand, behind}
use Rattle.lower_lines.specs.Following.{context_of}
use Rattle.lower_lines.specs.Lines.{Line}
use Rattle.lower_lines.specs.Relation.{Keeps, Shows}
use Rattle.lower_lines.specs.Statements.{After, Exits, Labelled, Run, runs_levels, sequence_lines, started}
use Rattle.lower_lines.specs.Variables.{levels_of, local_variables}

-- an evaluation keeps what every one does (`c_eval_laws` has it of all trees)
abbrev pub Keeping : {A : Type 0} → Site → (source.State → Evaluated A) → Type 0
Keeping S run = (s : source.State) → bounds.Keeps S.bound s (run s)

-- What comes of an evaluation: where it gives something, what has to come then comes from here, with the visits
-- between.
abbrev pub From : {A : Type 0} → Site → List Function → ℕ → graph.State → source.State → graph.State
    → (A → source.State → graph.State → Outcome → Type 0) → Evaluated A → Type 0
From S active level from s g aim (Gives v t) =
    (h : graph.State) × (visits : List Visit) × Shows S.program active t h
    × Keeps (local_variables S.function) level g h × (t.visits ≡ s.visits ++ visits)
    × ((outcome : Outcome) → aim v t h outcome → Comes S s.turns from (after_visits visits outcome))
From S active level from s g aim (Ends end t) = EndsSo S end s t from

-- control is behind lines
abbrev pub Behind : {A : Type 0} → Site → List Line → A → source.State → graph.State → Outcome → Type 0
Behind S lines v t h o = Comes S t.turns (behind lines h) o

-- by how a statement is left
abbrev pub LeftBy : Site → List Line → Exits → After → Left → source.State → graph.State → Outcome → Type 0
LeftBy S lines exits after left t h o = ComesLeft S lines exits after left t.turns h o

-- Lines do what an evaluation does, wherever they stand, and control is then behind them. Their temporaries are those
-- from level 0 on.
pub record LowersLines {A : Type 0} (S : Site) (levels : ℕ) (lines : ℕ → List Line) (run : source.State → Evaluated A)
    : Type 0 where
  pub follows : (active : List Function) (block : ℕ) (before : List Line) (s : source.State) (g : graph.State)
      → Stand S before (lines block) → levels ≤ levels_of S.function → Begins S active s g
      → From S active 0 (behind before g) s g (Behind S (before ++ lines block)) (run s)

-- Statements in order, of which the first has this place, do what the evaluation does, from behind the start of the
-- first one's block, where it has a label.
pub record LowersFrom (S : Site) (breaks continues : Bool) (labelled : Labelled) (place : ℕ) (rs : List Run) (run :
    Runs)
    : Type 0 where
  pub follows : (active : List Function) (exits : Exits) (block : ℕ) (after : After) (before : List Line)
      (s : source.State) (g : graph.State)
      → Stand S before (sequence_lines (context_of S) labelled place rs exits block after)
      → runs_levels rs ≤ levels_of S.function → MayExit S breaks continues exits → MayGo S after → Begins S active s g
      → From S active 0 (behind (before ++ started (labelled place)) g) s g
      (LeftBy S (before ++ sequence_lines (context_of S) labelled place rs exits block after) exits after) (run s)

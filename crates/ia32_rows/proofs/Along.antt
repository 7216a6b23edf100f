-- A run of the machine along a run of a program of graphs.
use Rattle.std.specs.Prelude.{◌≡◌, ◌≤◌, ℕ, zero, suc, true, false, List, [], ◌∷◌, ◌++◌, length, Option, Some, None}
use Rattle.std.specs.Prelude.{option_map, refl}
use Rattle.std.specs.List.{AllByRecursion}
use Rattle.std.proofs.Common.{sym, ◌∙◌, ap, subst, arith}
use Rattle.std.specs.List.{All}
use Rattle.std.proofs.lemmas.List.Elements.{All-drop, All-take}
use Rattle.std.proofs.Math.Seq.{take-append_seam, drop-append_seam}
use Rattle.std.proofs.lemmas.Option.{same_Some, none-some}
use Rattle.pcc_base.specs.Bytes.{AreBytes}
use Rattle.pcc_base.specs.Outcome.{AreKnown, IsKnown, End, Goes, Visit, Listing, Outcome, after_visits}
use Rattle.ia32_insn.specs.State as machine
use Rattle.ia32_insn.specs.Items.{text_state}
use Rattle.ia32_insn.specs.Meaning as moved
use Rattle.ia32_insn.specs.Runs.{Steps, stands, Runs}
use Rattle.ia32_insn.proofs.Runs.{runs_after, runs_halts}
use Rattle.flow_graph.specs.declared.op.Op.{Op}
use Rattle.flow_graph.specs.declared.op.Op.TheVariants as op
use Rattle.flow_graph.specs.Meaning.{Moved, Moves, Halts, Stuck, act, at_point, given, step}
use Rattle.flow_graph.specs.Running.{GraphAt, from_state, outcome_at, outcome_from, run_within, state_after, takes_turn}
use Rattle.flow_graph.specs.Running.{visits_at, with_turn}
use Rattle.flow_graph.specs.States as graph
use Rattle.flow_graph.specs.States.{op_at, point_after}
use Rattle.ia32_rows.specs.Paths.{Path, Comes, IsClear}
use Rattle.ia32_rows.specs.Placements.{Code, objects_of}
use Rattle.ia32_rows.specs.Shows.{Shows}
use Rattle.flow_graph.specs.WellFormed.{IsGraphProgram}
use Rattle.ia32_rows.specs.Follows.{ComesToEnd, Follows, FollowsAll, is_nop, ShowsVisits, WholeRuns}
use Rattle.flow_graph.proofs.Keeping.{states_are_states}

-- a run of at least so many steps has this outcome
abbrev RunsFor : (machine.State → List Visit) → ℕ → machine.State → Outcome → Type 0
RunsFor visits turns s o = (m : ℕ) × (turns ≤ m) × Runs visits m s o

-- at an address without a NOP nothing is visited
abbrev NothingElsewhere : List ℕ → (machine.State → List Visit) → Type 0
NothingElsewhere text visits = (s : machine.State) → IsClear text s.eip → visits s ≡ []

-- a step and then a run, with the step's visits before those of the run
run-after : (visits : machine.State → List Visit) (turns : ℕ) (s t : machine.State) (o : Outcome) (vs : List Visit)
    → visits s ≡ vs → Steps s (moved.Moves t) → RunsFor visits turns t o
    → RunsFor visits (suc turns) s (after_visits vs o)
run-after visits turns s t o vs seen step (m, le, run) = (
  suc m,
  (omega (arith, le)),
  subst (λ (v : List Visit). Runs visits (suc m) s (after_visits v o)) seen
      (runs_after visits m s t o step run),
)

-- a run of more steps than so many is one of at least so many
run-fewer : (visits : machine.State → List Visit) (turns : ℕ) (s : machine.State) (o : Outcome)
    → RunsFor visits (suc turns) s o → RunsFor visits turns s o
run-fewer visits turns s o (m, le, run) = (m, (omega (arith, le)), run)

-- steps at addresses without a NOP, and then a run, have the outcome of the run
run-after-path : (text : List ℕ) (visits : machine.State → List Visit) (turns : ℕ) (o : Outcome)
    → NothingElsewhere text visits
    → (addresses : List ℕ) (s t : machine.State) → Path addresses s t → AllByRecursion (IsClear text) addresses
    → RunsFor visits turns t o → RunsFor visits turns s o
run-after-path text visits turns o nothing [] s t path clear run =
    subst (λ (u : machine.State). RunsFor visits turns u o) (sym path) run
run-after-path text visits turns o nothing (address ∷ addresses) s t (next, at, step, path) (clear, others) run =
    let seen : visits s ≡ [] = nothing s (subst (IsClear text) (sym at) clear) in
    run-fewer visits turns s o
    (run-after visits turns s next o [] seen step
    (run-after-path text visits turns o nothing addresses next t path others run))

-- where the machine comes without passing a NOP to the start of a run, there is one with the same outcome
run-after-coming : (text : List ℕ) (visits : machine.State → List Visit) (turns : ℕ) (o : Outcome)
    → NothingElsewhere text visits
    → (s t : machine.State) → Comes text s t → RunsFor visits turns t o → RunsFor visits turns s o
run-after-coming text visits turns o nothing s t comes run =
    run-after-path text visits turns o nothing comes.addresses s t comes.path comes.clear run

-- where the machine comes to the end of the program, a run of any length beyond has the program's outcome
run-to-end : (code : Code) (visits : machine.State → List Visit) (turns : ℕ) (s : machine.State) (g : graph.State)
    (end : End)
    → NothingElsewhere code.text visits → ComesToEnd code s g end → RunsFor visits turns s (outcome_at g end)
run-to-end code visits turns s g end nothing (t, comes, clear, halts, taken, written) =
    let same : stands (visits t) t end ≡ outcome_at g end =
    ap (λ (vs : List Visit). record { visits = vs; taken = t.taken; written = t.written; end = end }) (nothing t clear)
    ∙ ap (λ (n : ℕ). record { visits = []; taken = n; written = t.written; end = end }) taken
    ∙ ap (λ (bytes : List ℕ). record { visits = []; taken = g.taken; written = bytes; end = end }) written
    in
    let run : Runs visits (suc turns) t (outcome_at g end) =
    subst (Runs visits (suc turns) t) same (runs_halts visits turns t end halts) in
    run-after-coming code.text visits turns (outcome_at g end) nothing s t comes (suc turns, (omega arith), run)

-- where a state leads to another by one step more
after-step : (program : graph.GraphProgram) (k : ℕ) (m : Moved) (t h : graph.State)
    → ((u : graph.State) → state_after program k u ≡ Some t → state_after program (suc k) u ≡ Some h)
    → from_state m (state_after program k) ≡ Some t → from_state m (state_after program (suc k)) ≡ Some h
after-step program k (Moves u) t h later e = later u e
after-step program k (Halts end) t h later e = absurd (none-some t e)
after-step program k Stuck t h later e = absurd (none-some t e)

state-next : (program : graph.GraphProgram) (k : ℕ) (s t h : graph.State) → state_after program k s ≡ Some t
    → step program t ≡ Moves h → state_after program (suc k) s ≡ Some h
state-next program zero s t h at next =
    let moves : step program s ≡ Moves h = subst (λ (u : graph.State). step program u ≡ Moves h)
    (sym (same_Some s t at)) next in
    ap (λ (m : Moved). from_state m (state_after program zero)) moves
state-next program (suc k) s t h at next =
    after-step program k (step program s) t h (λ u e. state-next program k u t h e next) at

-- one step on from a state that the program comes to
graph-next : (program : graph.GraphProgram) (input : List ℕ) (k : ℕ) (g h : graph.State) → GraphAt program input k g
    → step program g ≡ Moves h → GraphAt program input (suc k) h
graph-next program input k g h (s, first, at) next = (s, first, state-next program k s g h at next)

-- from each state that the program comes to and that is shown, there is a run with each known outcome in so many turns
-- and steps
abbrev RunsFrom : Code → Listing → (machine.State → List Visit) → List ℕ → ℕ → ℕ → Type 0
RunsFrom code listing visits input steps turns =
    (k : ℕ) (g : graph.State) (s : machine.State) (o : Outcome) → GraphAt code.program input k g → Shows code input g s
    → AreKnown o.visits → run_within code.program listing steps turns g ≡ Some o → RunsFor visits turns s o

-- what holds of the elements of two lists behind one another holds of those of each
all-front : {A : Type 0} (P : A → Type 0) (xs ys : List A) → All P (xs ++ ys) → All P xs
all-front P xs ys h = subst (All P) (take-append_seam xs ys) (All-take P (length xs) (xs ++ ys) h)

all-behind : {A : Type 0} (P : A → Type 0) (xs ys : List A) → All P (xs ++ ys) → All P ys
all-behind P xs ys h = subst (All P) (drop-append_seam xs ys) (All-drop P (length xs) (xs ++ ys) h)

visits-known : (vs : List Visit) (p o : Outcome) → after_visits vs p ≡ o → AreKnown o.visits → AreKnown (vs ++ p.visits)
visits-known vs p o same known = subst (λ (q : Outcome). AreKnown q.visits) (sym same) known

-- what comes of a step of the program, with these visits before it
abbrev outcome_after : Code → Listing → ℕ → ℕ → graph.State → List Visit → Moved → Option Outcome
outcome_after code listing steps turns g vs m =
    option_map (after_visits vs) (outcome_from m g (run_within code.program listing steps turns))

-- what the outcome with visits before it is the outcome of
before-visits : (vs : List Visit) (q : Option Outcome) (o : Outcome) → option_map (after_visits vs) q ≡ Some o
    → (p : Outcome) × (q ≡ Some p) × (after_visits vs p ≡ o)
before-visits vs None o e = absurd (none-some o e)
before-visits vs (Some p) o e = (p, refl, same_Some (after_visits vs p) o e)

-- along a step of the program whose op is no NOP
along-plain : (code : Code) (listing : Listing) (visits : machine.State → List Visit) (input : List ℕ)
    (steps turns k : ℕ) (g : graph.State) (s : machine.State) (o : Outcome) (m : Moved)
    → NothingElsewhere code.text visits → RunsFrom code listing visits input steps turns
    → GraphAt code.program input k g → step code.program g ≡ m → Follows code input s g false m
    → AreKnown o.visits → outcome_after code listing steps turns g [] m ≡ Some o → RunsFor visits turns s o
along-plain code listing visits input steps turns k g s o (Moves h) nothing later at next (t, comes, shows) known e =
    let (p, is, same) = before-visits [] (run_within code.program listing steps turns h) o e in
    run-after-coming code.text visits turns o nothing s t comes
    (later (suc k) h t o (graph-next code.program input k g h at next) shows known (is ∙ ap Some same))
along-plain code listing visits input steps turns k g s o (Halts end) nothing later at next ends known e =
    subst (RunsFor visits turns s) (same_Some (outcome_at g end) o e)
    (run-to-end code visits turns s g end nothing ends)
along-plain code listing visits input steps turns k g s o Stuck nothing later at next follows known e =
    absurd (none-some o e)

-- along a step of the program from a point to the next, whose op is a NOP
along-nop : (code : Code) (listing : Listing) (visits : machine.State → List Visit) (input : List ℕ)
    (steps turns k : ℕ) (g : graph.State) (s : machine.State) (o : Outcome) (next : Option ℕ) (vs : List Visit)
    → NothingElsewhere code.text visits → (AreKnown vs → visits s ≡ vs)
    → RunsFrom code listing visits input steps turns → GraphAt code.program input k g
    → step code.program g ≡ at_point g.block g next → Follows code input s g true (at_point g.block g next)
    → AreKnown o.visits → outcome_after code listing steps turns g vs (at_point g.block g next) ≡ Some o
    → RunsFor visits (suc turns) s o
along-nop code listing visits input steps turns k g s o None vs nothing seen later at on follows known e =
    absurd (none-some o e)
along-nop code listing visits input steps turns k g s o (Some point) vs nothing seen later at on
    (t, one, there) known e =
    let h : graph.State = record g { point = point } in
    let (u, comes, shows) = there in
    let (p, is, same) = before-visits vs (run_within code.program listing steps turns h) o e in
    let all = visits-known vs p o same known in
    let front = all-front (λ visit. All IsKnown visit.values) vs p.visits all in
    let behind = all-behind (λ visit. All IsKnown visit.values) vs p.visits all in
    let rest = later (suc k) h u p (graph-next code.program input k g h at on) shows behind is in
    subst (RunsFor visits (suc turns) s) same
    (run-after visits turns s t p vs (seen front) one
    (run-after-coming code.text visits turns p nothing t u comes rest))

-- a step is what its op does
stepped : (program : graph.GraphProgram) (g : graph.State) (about : Option Op) → op_at program g ≡ about
    → step program g ≡ given about (act program g)
stepped program g about is = ap (λ (o : Option Op). given o (act program g)) is

-- along a step of the program, by its op
along-op : (code : Code) (listing : Listing) (visits : machine.State → List Visit) (input : List ℕ) (steps turns k : ℕ)
    (g : graph.State) (s : machine.State) (o : Outcome) (about : Option Op)
    → ShowsVisits code listing visits → ((left : ℕ) → RunsFrom code listing visits input steps left) → AreBytes input
    → GraphAt code.program input k g → Shows code input g s → op_at code.program g ≡ about
    → Follows code input s g (is_nop about) (given about (act code.program g))
    → with_turn (takes_turn about) turns g (λ left.
    outcome_after code listing steps left g (visits_at listing g about) (given about (act code.program g))) ≡ Some o
    → AreKnown o.visits → RunsFor visits turns s o
along-op code listing visits input steps turns k g s o None seen later bytes at shows is follows e known =
    absurd (none-some o e)
along-op code listing visits input steps turns k g s o (Some (op.Mark statement)) seen later bytes at shows is follows e
    known =
    run-fewer visits turns s o
    (along-nop code listing visits input steps turns k g s o
    (point_after code.program g.current.function g.block g.point) (visits_at listing g (Some (op.Mark statement)))
    seen.elsewhere (seen.marks input k g s statement bytes at shows is) (later turns) at
    (stepped code.program g (Some (op.Mark statement)) is) follows known e)
along-op code listing visits input steps zero k g s o (Some op.Turn) seen later bytes at shows is follows e known =
    let stands_still : outcome_at g Goes ≡ stands [] s Goes =
    ap (λ (n : ℕ). record { visits = []; taken = n; written = g.written; end = Goes }) (sym shows.taken)
    ∙ ap (λ (bytes : List ℕ). record { visits = []; taken = s.taken; written = bytes; end = Goes }) (sym shows.written)
    in
    (0, (omega arith), sym (same_Some (outcome_at g Goes) o e) ∙ stands_still)
along-op code listing visits input steps (suc turns) k g s o (Some op.Turn) seen later bytes at shows is follows e
    known =
    along-nop code listing visits input steps turns k g s o
    (point_after code.program g.current.function g.block g.point) []
    seen.elsewhere (λ none. seen.turns input g s shows is) (later turns) at
    (stepped code.program g (Some op.Turn) is) follows known e
along-op code listing visits input steps turns k g s o (Some about) seen later bytes at shows is follows e known =
    along-plain code listing visits input steps turns k g s o (act code.program g about) seen.elsewhere (later turns) at
    (stepped code.program g (Some about) is) follows known e

-- along a run of the program
along-run : (code : Code) (listing : Listing) (visits : machine.State → List Visit) (input : List ℕ)
    → IsGraphProgram code.program → FollowsAll code → ShowsVisits code listing visits → AreBytes input
    → (steps turns : ℕ) → RunsFrom code listing visits input steps turns
along-run code listing visits input program follows seen bytes zero turns k g s o at shows known e =
    absurd (none-some o e)
along-run code listing visits input program follows seen bytes (suc steps) turns k g s o at shows known e =
    let is_state = states_are_states code.program input k g program bytes at in
    along-op code listing visits input steps turns k g s o (op_at code.program g) seen
    (along-run code listing visits input program follows seen bytes steps) bytes at shows refl
    (follows input g s is_state shows) e known

-- code that starts as its program does, and follows it step by step, has the program's outcomes
pub whole_runs : WholeRuns
whole_runs code program starts follows listing visits seen input turns o bytes known (g, first, steps, run) =
    let (t, comes, shows) = starts input g bytes first in
    run-after-coming code.text visits turns o seen.elsewhere (text_state code.text (objects_of code.program) input) t
    comes (along-run code listing visits input program follows seen bytes steps turns 0 g t o (g, first, refl) shows
    known run)

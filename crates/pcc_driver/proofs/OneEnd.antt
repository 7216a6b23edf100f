-- What is listed, or shown of an image by a map, changes no end.
use Rattle.std.proofs.lemmas.List.Elements.{All-nil}
use Rattle.std.proofs.Common.{◌≡◌, ◌≤◌, ◌<◌, ◌+◌, ◌-◌, ℕ, zero, suc, List, [], Bool, true, false, Option, Some, None, refl, sym, ap}
use Rattle.std.proofs.Common.{◌∙◌, subst, arith}
use Rattle.std.specs.Prelude.{option_map}
use Rattle.std.proofs.lemmas.Option.{same_Some, none-some}
use Rattle.pcc_base.specs.Outcome as outcome
use Rattle.pcc_base.specs.Outcome.{End, Goes, Listing, Outcome, Visit, after_visits, nothing_listed}
use Rattle.c_tree.specs.Evaluation.{source_outcome}
use Rattle.c_tree.specs.Program.{Program}
use Rattle.c_tree.specs.WellTyped.{WellTyped}
use Rattle.c_eval.specs.Runs.{outcome_in}
use Rattle.flow_graph.specs.Meaning.{Moved, Moves, Halts, Stuck, step}
use Rattle.flow_graph.specs.Running.{GraphOutcome, outcome_at, outcome_from, run_within, takes_turn, visits_at}
use Rattle.flow_graph.specs.Running.{with_turn}
use Rattle.flow_graph.specs.States.{GraphProgram, State, op_at}
use Rattle.lower_lines.specs.Lowering.{KeepsOutcome}
use Rattle.lower_lines.specs.Shown.{ListsLocals, variables_shown}
use Rattle.ia32_insn.specs.State as machine
use Rattle.ia32_insn.specs.Meaning as moves
use Rattle.ia32_insn.specs.Runs.{GoesOn, Runs, Steps, no_visits, stands}
use Rattle.ia32_insn.proofs.Runs.{run_once, runs_more}
use Rattle.ia32_machine.specs.First.{First}
use Rattle.ia32_machine.proofs.First.{first-one}
use Rattle.map_lines.specs.MapLaws.{MapListsLocals}
use Rattle.map_text.specs.Maps.{Map}
use Rattle.map_text.specs.Marks.{listed, visits_of}
use Rattle.pcc_program.specs.Products.{IsImageOf}
use Rattle.pcc_driver.specs.Selftests.{EndsSo, HasEnd}

-- ---- graphs

-- where both are there, they end alike
abbrev EndAlike : Option Outcome → Option Outcome → Type 0
EndAlike o p = (a b : Outcome) → o ≡ Some a → p ≡ Some b → a.end ≡ b.end

alike-none : (o : Option Outcome) → EndAlike None o
alike-none o a b e f = absurd (none-some a e)

alike-same : (o : Option Outcome) → EndAlike o o
alike-same o a b e f = ap (λ (x : Outcome). x.end) (same_Some a b (sym e ∙ f))

alike-visits : (vs ws : List Visit) (o p : Option Outcome) → EndAlike o p
    → EndAlike (option_map (after_visits vs) o) (option_map (after_visits ws) p)
alike-visits vs ws None p h a b e f = absurd (none-some a e)
alike-visits vs ws (Some x) None h a b e f = absurd (none-some b f)
alike-visits vs ws (Some x) (Some y) h a b e f =
    sym (ap (λ (o : Outcome). o.end) (same_Some (after_visits vs x) a e)) ∙ h x y refl refl
    ∙ ap (λ (o : Outcome). o.end) (same_Some (after_visits ws y) b f)

alike-from : (m : Moved) (s : State) (go other : State → Option Outcome) → ((t : State) → EndAlike (go t) (other t))
    → EndAlike (outcome_from m s go) (outcome_from m s other)
alike-from (Moves t) s go other h = h t
alike-from (Halts end) s go other h = alike-same (Some (outcome_at s end))
alike-from Stuck s go other h = alike-none None

alike-turn : (takes : Bool) (turns : ℕ) (s : State) (go other : ℕ → Option Outcome)
    → ((left : ℕ) → EndAlike (go left) (other left))
    → EndAlike (with_turn takes turns s go) (with_turn takes turns s other)
alike-turn false turns s go other h = h turns
alike-turn true zero s go other h = alike-same (with_turn true zero s go)
alike-turn true (suc turns) s go other h = h turns

-- runs with two listings end alike
runs-alike : (program : GraphProgram) (one other : Listing) (k j turns : ℕ) (s : State)
    → EndAlike (run_within program one k turns s) (run_within program other j turns s)
runs-alike program one other zero j turns s = alike-none (run_within program other j turns s)
runs-alike program one other (suc k) zero turns s = λ a b e f. absurd (none-some b f)
runs-alike program one other (suc k) (suc j) turns s =
    alike-turn (takes_turn (op_at program s)) turns s _ _
    (λ left. alike-visits (visits_at one s (op_at program s)) (visits_at other s (op_at program s)) _ _
    (alike-from (step program s) s _ _ (λ t. runs-alike program one other k j left t)))

graphs-alike : (program : GraphProgram) (one other : Listing) (input : List ℕ) (turns : ℕ) (a b : Outcome)
    → GraphOutcome program one input turns a → GraphOutcome program other input turns b → a.end ≡ b.end
graphs-alike program one other input turns a b (s, first, k, run) (t, again, j, run') =
    let same : t ≡ s = same_Some t s (sym again ∙ first) in
    runs-alike program one other k j turns s a b run
    (subst (λ (u : State). run_within program other j turns u ≡ Some b) same run')

-- a program that is lowered ends alike with every listing of locals
sources-alike : (program : Program) (graphs : GraphProgram) (listing : Listing) (input : List ℕ) (turns : ℕ)
    → KeepsOutcome program graphs → ListsLocals program listing
    → (source_outcome program listing input turns).end ≡ (outcome_in program turns input).end
sources-alike program graphs listing input turns keeps lists =
    graphs-alike graphs (variables_shown program listing) (variables_shown program nothing_listed) input turns _ _
    (keeps listing lists input turns) (keeps nothing_listed (λ statement. tt) input turns)

-- ---- images

-- this holds of what goes on without visits, where it goes on with them to the same end
abbrev EndsUnseen : (rest : machine.State → Outcome → Type 0) → machine.State → moves.Moved → Outcome → Type 0
EndsUnseen rest s moved o = (quiet : Outcome) × GoesOn rest [] s moved quiet × (quiet.end ≡ o.end)

unseen-on : (seen rest : machine.State → Outcome → Type 0) (visits : List Visit) (s : machine.State)
    (moved : moves.Moved) (o : Outcome)
    → ((t : machine.State) (c : Outcome) → seen t c → (quiet : Outcome) × rest t quiet × (quiet.end ≡ c.end))
    → GoesOn seen visits s moved o → EndsUnseen rest s moved o
unseen-on seen rest visits s (moves.Moves next) o h went =
    let later = h next went.0 went.1 in (
      after_visits [] later.0,
      (later.0, later.1, refl),
      later.2 ∙ sym (ap (λ (x : Outcome). x.end) went.2),
    )
unseen-on seen rest visits s (moves.Halts end) o h went =
    (stands [] s end, refl, sym (ap (λ (x : Outcome). x.end) went))

-- a run with visits ends as one without them
pub unseen : (visits : machine.State → List Visit) (m : ℕ) (s : machine.State) (o : Outcome) → Runs visits m s o
    → (quiet : Outcome) × Runs no_visits m s quiet × (quiet.end ≡ o.end)
unseen visits zero s o run = (stands [] s Goes, refl, sym (ap (λ (x : Outcome). x.end) run))
unseen visits (suc m) s o (moved, steps, on) =
    let quiet = unseen-on (Runs visits m) (Runs no_visits m) (visits s) s moved o (unseen visits m) on in
    (quiet.0, (moved, steps, quiet.1), quiet.2)

-- two runs from a state that end, end alike
ends-once : (k m : ℕ) (s : machine.State) (a b : Outcome) → (a.end ≡ Goes → ⊥) → (b.end ≡ Goes → ⊥)
    → Runs no_visits k s a → Runs no_visits m s b → a.end ≡ b.end
ends-once k m s a b ends other run run' =
    let more : Runs no_visits (k + m) s b = runs_more no_visits k m s b other run' in
    let e : m + k ≡ k + m = omega arith in
    ap (λ (o : Outcome). o.end) (run_once no_visits (k + m) s a b
    (subst (λ (n : ℕ). Runs no_visits n s a) e (runs_more no_visits m k s a ends run)) more)

-- a run of no more steps than one that goes on goes on
pub goes-before : (n fewer : ℕ) (s : machine.State) (o other : Outcome) → fewer ≤ n → Runs no_visits n s o
    → o.end ≡ Goes → Runs no_visits fewer s other → other.end ≡ Goes
goes-before n fewer s o other le run goes run' = by other.end refl
  where
    later : (other.end ≡ Goes → ⊥) → other.end ≡ Goes
    later ends =
        let e : n - fewer + fewer ≡ n = omega (arith, le) in
        ap (λ (x : Outcome). x.end) (run_once no_visits n s other o
        (subst (λ (k : ℕ). Runs no_visits k s other) e (runs_more no_visits (n - fewer) fewer s other ends run')) run)
        ∙ goes

    by : (end : End) → other.end ≡ end → other.end ≡ Goes
    by Goes e = e
    by (outcome.Ended status) e = later (λ g. let no_end : outcome.Ended status ≡ Goes = sym e ∙ g in cc)
    by (outcome.Trapped trap) e = later (λ g. let no_end : outcome.Trapped trap ≡ Goes = sym e ∙ g in cc)
    by (outcome.Stopped cause address) e =
        later (λ g. let no_end : outcome.Stopped cause address ≡ Goes = sym e ∙ g in cc)

-- Where some turns of a program end over no input, its image has no other end.
pub ends-as : (program : Program) (map : Map) (image : List ℕ) (end : End) → IsImageOf program map image
    → WellTyped program → MapListsLocals → HasEnd program → (end ≡ Goes → ⊥) → EndsSo image end
    → (status : ℕ) × (end ≡ outcome.Ended status)
ends-as program map image end is typed lists (turns, status, ended) stays (steps, o, (s, first, run), o_ends) =
    let (m, many, (t, again, shown)) = is.correct [] turns (All-nil (λ (byte : ℕ). byte < 256)) in
    let quiet = unseen (visits_of map) m t _ shown in
    let same : t ≡ s = first-one image [] t s again first in
    let alike = sources-alike program is.belongs.code.program (listed map) [] turns is.belongs.lowered.keeps
    (lists program is.belongs.code map typed is.belongs.lowered.shapes is.belongs.lowered.marks is.belongs.is_map) in
    let quiet_ends : quiet.0.end ≡ outcome.Ended status = quiet.2 ∙ alike ∙ ended in
    let one = ends-once steps m s o quiet.0 (λ g. stays (sym o_ends ∙ g))
    (λ g. let no_end : outcome.Ended status ≡ Goes = sym quiet_ends ∙ g in cc) run
    (subst (λ (u : machine.State). Runs no_visits m u quiet.0) same quiet.1) in
    (status, sym o_ends ∙ one ∙ quiet_ends)

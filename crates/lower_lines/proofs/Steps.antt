-- What each kind of op does behind lines: in continuation style, from what comes behind the op to what comes before it.
use Rattle.std.proofs.Common.{◌≡◌, ℕ, suc, ◌+◌, ◌++◌, Bool, true, false, ℤ, pos, List, [], ◌∷◌}
use Rattle.std.proofs.Common.{Option, Some, None, refl, sym, ap, ◌∙◌, subst}
use Rattle.std.specs.Prelude.{slice_get, option_map, if◌then◌else◌, negsuc, ◌==◌, length, replicate}
use Rattle.pcc_base.specs.declared.run.Width.{Width}
use Rattle.pcc_base.specs.declared.run.Width.TheVariants.{Two}
use Rattle.pcc_base.specs.declared.run.Trap.TheVariants.{Divide, Check}
use Rattle.pcc_base.specs.Outcome.{ArrayName, End, Ended, Trapped, Goes, Null, Static, InFrame, Unknown, Value}
use Rattle.pcc_base.specs.Outcome.{Number, Array, Visit}
use Rattle.pcc_base.specs.Outcome.{Listing, Outcome, after_visits}
use Rattle.flow_graph.specs.declared.op.Bits.{Bits}
use Rattle.flow_graph.specs.declared.op.Comparison.{Comparison}
use Rattle.flow_graph.specs.declared.op.Comparison.TheVariants.{Eq}
use Rattle.flow_graph.specs.declared.op.Op.{Op}
use Rattle.flow_graph.specs.declared.op.Op.TheVariants as op
use Rattle.flow_graph.specs.Graphs.{Flow, is_end}
use Rattle.flow_graph.specs.Kinds.{is_turn, marked}
use Rattle.flow_graph.specs.Meaning.{Moved, Moves, Halts, Stuck, accessed, act, checked, comparison, given}
use Rattle.flow_graph.specs.Meaning.{into_block, low_byte, onward, one_number, ordering, puts, sets, stored}
use Rattle.flow_graph.specs.Meaning.{divided_unless, gets, loads, puts_scalar, result_to, returns_to, scalar_of}
use Rattle.flow_graph.specs.Meaning.{stores, two_numbers}
use Rattle.flow_graph.specs.Running.{outcome_at, outcome_from, run_within, takes_turn, visits_at, visits_of}
use Rattle.flow_graph.specs.Running.{with_turn}
use Rattle.flow_graph.specs.States as graph
use Rattle.flow_graph.specs.States.{array_at, depth_of, element_at, elements_of, fitted, flow_at, number_at, op_at}
use Rattle.flow_graph.specs.States.{value_at, waiting_place, waiting_with, with_array, with_element, with_elements}
use Rattle.flow_graph.specs.States.{with_value}
use Rattle.lower_lines.specs.Following.{Comes, ComesOf, IsSite, Site, Stand, at_start, behind, graphs_of}
use Rattle.lower_lines.specs.Lines.{Line, Start, Emit}
use Rattle.lower_lines.specs.Operators.{NumberTest, WithSigns, WithoutSigns, test_branch, test_set}
use Rattle.lower_lines.specs.Shown.{variables_shown}
use Rattle.lower_lines.specs.Variables.{variable_widths}
use Rattle.lower_lines.proofs.Points.{flow-there, next-stands, ops-stand, starts-stand}

-- what the marks of the graphs show
abbrev pub shown_by : Site → Listing
shown_by S = variables_shown S.program S.listing

-- what a test answers of two variables
abbrev pub answer_at : NumberTest → graph.State → ℕ → ℕ → Option Bool
answer_at (WithSigns how) g a b = comparison how g a b
answer_at (WithoutSigns how) g a b = ordering how g a b

-- ---- one step of a run

-- one step, where this op is about to run
abbrev run_on : Site → Option Op → ℕ → ℕ → graph.State → Option Outcome
run_on S x k turns g =
    with_turn (takes_turn x) turns g
    (λ left. option_map (after_visits (visits_at (shown_by S) g x))
    (outcome_from (given x (act (graphs_of S) g)) g (run_within (graphs_of S) (shown_by S) k left)))

moved : (S : Site) (takes : Bool) (vs : List Visit) (m : Moved) (g h : graph.State) (k turns : ℕ) (o : Outcome)
    → takes ≡ false → m ≡ Moves h → run_within (graphs_of S) (shown_by S) k turns h ≡ Some o
    → with_turn takes turns g (λ left. option_map (after_visits vs)
    (outcome_from m g (run_within (graphs_of S) (shown_by S) k left))) ≡ Some (after_visits vs o)
moved S takes vs m g h k turns o et em r = rw (et, em) (ap (option_map (after_visits vs)) r)

halted : (S : Site) (takes : Bool) (vs : List Visit) (m : Moved) (g : graph.State) (k turns : ℕ) (end : End)
    → takes ≡ false → m ≡ Halts end → with_turn takes turns g (λ left. option_map (after_visits vs)
    (outcome_from m g (run_within (graphs_of S) (shown_by S) k left))) ≡ Some (after_visits vs (outcome_at g end))
halted S takes vs m g k turns end et em = rw (et, em) refl

-- a step that takes no turn
pub comes-by : (S : Site) (g h : graph.State) (i : Op) (turns : ℕ) (o : Outcome) → op_at (graphs_of S) g ≡ Some i
    → is_turn i ≡ false → act (graphs_of S) g i ≡ Moves h → Comes S turns h o
    → Comes S turns g (after_visits (visits_of (shown_by S) g (marked i)) o)
comes-by S g h i turns o here plain moves (k, r) = (
  suc k,
  subst (λ (x : Option Op). run_on S x k turns g ≡ Some (after_visits (visits_of (shown_by S) g (marked i)) o))
      (sym here)
      (moved S (is_turn i) (visits_of (shown_by S) g (marked i)) (act (graphs_of S) g i) g h k turns o plain moves r),
)

-- a step that visits nothing, either
pub comes-plain : (S : Site) (g h : graph.State) (i : Op) (turns : ℕ) (o : Outcome) → op_at (graphs_of S) g ≡ Some i
    → is_turn i ≡ false → marked i ≡ None → act (graphs_of S) g i ≡ Moves h → Comes S turns h o → Comes S turns g o
comes-plain S g h i turns o here plain unmarked moves r =
    subst (λ (m : Option ℕ). Comes S turns g (after_visits (visits_of (shown_by S) g m) o)) unmarked
    (comes-by S g h i turns o here plain moves r)

-- a step that ends the program
pub comes-end : (S : Site) (g : graph.State) (i : Op) (turns : ℕ) (end : End) → op_at (graphs_of S) g ≡ Some i
    → is_turn i ≡ false → marked i ≡ None → act (graphs_of S) g i ≡ Halts end → Comes S turns g (outcome_at g end)
comes-end S g i turns end here plain unmarked halts = (
  1,
  subst (λ (x : Option Op). run_on S x 0 turns g ≡ Some (outcome_at g end)) (sym here)
      (subst (λ (m : Option ℕ). with_turn (is_turn i) turns g (λ left. option_map (after_visits
      (visits_of (shown_by S) g m)) (outcome_from (act (graphs_of S) g i) g
      (run_within (graphs_of S) (shown_by S) 0 left))) ≡ Some (outcome_at g end)) (sym unmarked)
      (halted S (is_turn i) [] (act (graphs_of S) g i) g 0 turns end plain halts)),
)

-- what comes of what the op makes
pub comes-of : (S : Site) (g : graph.State) (i : Op) (turns : ℕ) (o : Outcome) (m : Moved)
    → op_at (graphs_of S) g ≡ Some i → is_turn i ≡ false → marked i ≡ None → act (graphs_of S) g i ≡ m
    → ComesOf S turns g m o → Comes S turns g o
comes-of S g i turns o (Moves h) here plain unmarked does r = comes-plain S g h i turns o here plain unmarked does r
comes-of S g i turns o (Halts end) here plain unmarked does r =
    subst (λ (p : Outcome). Comes S turns g p) (sym r) (comes-end S g i turns end here plain unmarked does)
comes-of S g i turns o Stuck here plain unmarked does r = absurd r

-- a call that returns goes on in the caller, wherever it stood
returns-same : (S : Site) (before : List Line) (g : graph.State) (waiting : List graph.Waiting) (n : Option ℤ)
    → returns_to (graphs_of S) (behind before g) waiting n ≡ returns_to (graphs_of S) g waiting n
returns-same S before g [] n = refl
returns-same S before g (w ∷ waiting) n = refl

of-behind : (S : Site) (before : List Line) (g : graph.State) (turns : ℕ) (o : Outcome) (m : Moved)
    → ComesOf S turns g m o → ComesOf S turns (behind before g) m o
of-behind S before g turns o (Moves h) r = r
of-behind S before g turns o (Halts end) r = r
of-behind S before g turns o Stuck r = r

module _ (S : Site) (site : IsSite S) (before : List Line) (g : graph.State) (own : g.current.function ≡ S.number) where
  -- behind an op of the lines
  abbrev pub past : Op → graph.State → graph.State
  past i h = behind (before ++ Emit i ∷ []) h

  -- ---- turns and marks

  pub turn-step : (turns : ℕ) (o : Outcome) → Stand S before (Emit op.Turn ∷ []) → Comes S turns (past op.Turn g) o
      → Comes S (suc turns) (behind before g) o
  turn-step turns o stands (k, r) = (
    suc k,
    subst (λ (x : Option Op). run_on S x k (suc turns) (behind before g) ≡ Some o)
        (sym (ops-stand S site before op.Turn g stands own))
        (moved S false [] (onward (graphs_of S) (behind before g)) (behind before g) (past op.Turn g) k turns o refl
        (next-stands S site before op.Turn g stands refl own) r),
  )

  -- no turn is left
  pub turn-spent : Stand S before (Emit op.Turn ∷ []) → Comes S 0 (behind before g) (outcome_at g Goes)
  turn-spent stands = (
    1,
    subst (λ (x : Option Op). run_on S x 0 0 (behind before g) ≡ Some (outcome_at g Goes))
        (sym (ops-stand S site before op.Turn g stands own)) refl,
  )

  -- the visit that a mark makes
  pub mark-step : (statement turns : ℕ) (o : Outcome) → Stand S before (Emit (op.Mark statement) ∷ [])
      → Comes S turns (past (op.Mark statement) g) o
      → Comes S turns (behind before g) (after_visits (visits_of (shown_by S) g (Some statement)) o)
  mark-step statement turns o stands r =
      comes-by S (behind before g) (past (op.Mark statement) g) (op.Mark statement) turns o
      (ops-stand S site before (op.Mark statement) g stands own) refl
      (next-stands S site before (op.Mark statement) g stands refl own) r

  -- ---- an op that changes the state and goes on

  pub change-step : (i : Op) (h : graph.State) (turns : ℕ) (o : Outcome) → Stand S before (Emit i ∷ [])
      → is_turn i ≡ false → marked i ≡ None → is_end i ≡ false → h.current.function ≡ g.current.function
      → act (graphs_of S) (behind before g) i ≡ onward (graphs_of S) (behind before h)
      → Comes S turns (past i h) o → Comes S turns (behind before g) o
  change-step i h turns o stands plain unmarked goes kept does r =
      comes-plain S (behind before g) (past i h) i turns o (ops-stand S site before i g stands own) plain unmarked
      (does ∙ next-stands S site before i h stands goes (kept ∙ own)) r

  -- an op that gives a variable a value
  pub sets-step : (i : Op) (d : ℕ) (x : Value) (turns : ℕ) (o : Outcome) → Stand S before (Emit i ∷ [])
      → is_turn i ≡ false → marked i ≡ None → is_end i ≡ false
      → act (graphs_of S) (behind before g) i ≡ sets (graphs_of S) (behind before g) d x
      → Comes S turns (past i (with_value d x g)) o → Comes S turns (behind before g) o
  sets-step i d x turns o stands plain unmarked goes does r =
      change-step i (with_value d x g) turns o stands plain unmarked goes refl does r

  -- an op that ends the program
  pub end-step : (i : Op) (end : End) (turns : ℕ) → Stand S before (Emit i ∷ []) → is_turn i ≡ false
      → marked i ≡ None → act (graphs_of S) (behind before g) i ≡ Halts end
      → Comes S turns (behind before g) (outcome_at g end)
  end-step i end turns stands plain unmarked halts =
      comes-end S (behind before g) i turns end (ops-stand S site before i g stands own) plain unmarked halts

  -- ---- numbers

  pub const-step : (d : ℕ) (n : ℤ) (turns : ℕ) (o : Outcome) → Stand S before (Emit (op.Const d n) ∷ [])
      → slice_get (variable_widths S.function) d ≡ Some Two
      → Comes S turns (past (op.Const d n) (with_value d (Number n) g)) o → Comes S turns (behind before g) o
  const-step d n turns o stands wide r =
      sets-step (op.Const d n) d (Number n) turns o stands refl refl refl
      (ap (λ (w : Option Width). sets (graphs_of S) (behind before g) d (Number (fitted w n)))
      (ap (λ (k : ℕ). slice_get (flow_at (graphs_of S) k).widths d) own
      ∙ ap (λ (flow : Flow). slice_get flow.widths d) (flow-there S.program S.number S.function site.there)
      ∙ wide)) r

  pub copy-step : (d a : ℕ) (x : Value) (turns : ℕ) (o : Outcome) → Stand S before (Emit (op.Copy d a) ∷ [])
      → value_at g a ≡ Some x → Comes S turns (past (op.Copy d a) (with_value d x g)) o
      → Comes S turns (behind before g) o
  copy-step d a x turns o stands there r =
      sets-step (op.Copy d a) d x turns o stands refl refl refl
      (ap (λ (v : Option Value). given v (sets (graphs_of S) (behind before g) d)) there) r

  -- an op on one number
  pub one-step : (i : Op) (d a : ℕ) (f : ℤ → ℤ) (x : ℤ) (turns : ℕ) (o : Outcome) → Stand S before (Emit i ∷ [])
      → is_turn i ≡ false → marked i ≡ None → is_end i ≡ false
      → act (graphs_of S) (behind before g) i ≡ one_number (graphs_of S) (behind before g) d a f
      → number_at g a ≡ Some x → Comes S turns (past i (with_value d (Number (f x)) g)) o
      → Comes S turns (behind before g) o
  one-step i d a f x turns o stands plain unmarked goes does there r =
      sets-step i d (Number (f x)) turns o stands plain unmarked goes
      (does ∙ ap (λ (n : Option ℤ). given n (λ m. sets (graphs_of S) (behind before g) d (Number (f m)))) there) r

  -- an op on two numbers
  pub two-step : (i : Op) (d a b : ℕ) (f : ℤ → ℤ → ℤ) (x y : ℤ) (turns : ℕ) (o : Outcome)
      → Stand S before (Emit i ∷ []) → is_turn i ≡ false → marked i ≡ None → is_end i ≡ false
      → act (graphs_of S) (behind before g) i ≡ two_numbers (graphs_of S) (behind before g) d a b f
      → number_at g a ≡ Some x → number_at g b ≡ Some y
      → Comes S turns (past i (with_value d (Number (f x y)) g)) o → Comes S turns (behind before g) o
  two-step i d a b f x y turns o stands plain unmarked goes does at_a at_b r =
      sets-step i d (Number (f x y)) turns o stands plain unmarked goes
      (does
      ∙ ap (λ (n : Option ℤ). given n (λ m. given (number_at g b)
      (λ k. sets (graphs_of S) (behind before g) d (Number (f m k))))) at_a
      ∙ ap (λ (n : Option ℤ). given n (λ k. sets (graphs_of S) (behind before g) d (Number (f x k)))) at_b) r

  -- what an op on two numbers comes to that traps for some of them
  divides : (fails : ℤ → ℤ → Bool) (d a b : ℕ) (f : ℤ → ℤ → ℤ) (x y : ℤ) (traps : Bool) → number_at g a ≡ Some x
      → number_at g b ≡ Some y → fails x y ≡ traps → divided_unless fails (graphs_of S) (behind before g) d a b f
      ≡ (if traps then Halts (Trapped Divide) else sets (graphs_of S) (behind before g) d (Number (f x y)))
  divides fails d a b f x y traps at_a at_b e =
      ap (λ (n : Option ℤ). given n (λ m. given (number_at g b)
      (λ k. if fails m k then Halts (Trapped Divide)
      else sets (graphs_of S) (behind before g) d (Number (f m k))))) at_a
      ∙ ap (λ (n : Option ℤ). given n (λ k. if fails x k then Halts (Trapped Divide)
      else sets (graphs_of S) (behind before g) d (Number (f x k)))) at_b
      ∙ ap (λ (t : Bool). if t then Halts (Trapped Divide) else sets (graphs_of S) (behind before g) d (Number (f x y)))
      e

  pub divide-step : (fails : ℤ → ℤ → Bool) (i : Op) (d a b : ℕ) (f : ℤ → ℤ → ℤ) (x y : ℤ) (turns : ℕ) (o : Outcome)
      → Stand S before (Emit i ∷ []) → is_turn i ≡ false → marked i ≡ None → is_end i ≡ false
      → act (graphs_of S) (behind before g) i ≡ divided_unless fails (graphs_of S) (behind before g) d a b f
      → number_at g a ≡ Some x → number_at g b ≡ Some y → fails x y ≡ false
      → Comes S turns (past i (with_value d (Number (f x y)) g)) o → Comes S turns (behind before g) o
  divide-step fails i d a b f x y turns o stands plain unmarked goes does at_a at_b quotient r =
      sets-step i d (Number (f x y)) turns o stands plain unmarked goes
      (does ∙ divides fails d a b f x y false at_a at_b quotient) r

  pub divide-traps : (fails : ℤ → ℤ → Bool) (i : Op) (d a b : ℕ) (f : ℤ → ℤ → ℤ) (x y : ℤ) (turns : ℕ)
      → Stand S before (Emit i ∷ []) → is_turn i ≡ false → marked i ≡ None
      → act (graphs_of S) (behind before g) i ≡ divided_unless fails (graphs_of S) (behind before g) d a b f
      → number_at g a ≡ Some x → number_at g b ≡ Some y → fails x y ≡ true
      → Comes S turns (behind before g) (outcome_at g (Trapped Divide))
  divide-traps fails i d a b f x y turns stands plain unmarked does at_a at_b quotient =
      end-step i (Trapped Divide) turns stands plain unmarked
      (does ∙ divides fails d a b f x y true at_a at_b quotient)

  -- an op that gives a variable a truth value
  truth-step : (i : Op) (d : ℕ) (asked : Option Bool) (holds : Bool) (turns : ℕ) (o : Outcome)
      → Stand S before (Emit i ∷ []) → is_turn i ≡ false → marked i ≡ None → is_end i ≡ false
      → act (graphs_of S) (behind before g) i
      ≡ given asked (λ h. sets (graphs_of S) (behind before g) d (Number (if h then pos 1 else pos 0)))
      → asked ≡ Some holds → Comes S turns (past i (with_value d (Number (if holds then pos 1 else pos 0)) g)) o
      → Comes S turns (behind before g) o
  truth-step i d asked holds turns o stands plain unmarked goes does answers r =
      sets-step i d (Number (if holds then pos 1 else pos 0)) turns o stands plain unmarked goes
      (does ∙ ap (λ (c : Option Bool). given c
      (λ h. sets (graphs_of S) (behind before g) d (Number (if h then pos 1 else pos 0)))) answers) r

  pub set-step : (test : NumberTest) (d a b : ℕ) (holds : Bool) (turns : ℕ) (o : Outcome)
      → Stand S before (Emit (test_set test d a b) ∷ []) → answer_at test g a b ≡ Some holds
      → Comes S turns (past (test_set test d a b) (with_value d (Number (if holds then pos 1 else pos 0)) g)) o
      → Comes S turns (behind before g) o
  set-step (WithSigns how) d a b holds turns o stands answers r =
      truth-step (op.Set how d a b) d (comparison how g a b) holds turns o stands refl refl refl refl answers r
  set-step (WithoutSigns how) d a b holds turns o stands answers r =
      truth-step (op.Setu how d a b) d (ordering how g a b) holds turns o stands refl refl refl refl answers r

  -- ---- arrays

  pub frame-step : (d k turns : ℕ) (o : Outcome) → Stand S before (Emit (op.Frame d k) ∷ [])
      → Comes S turns (past (op.Frame d k) (with_value d (Array (InFrame k (depth_of g))) g)) o
      → Comes S turns (behind before g) o
  frame-step d k turns o stands r = sets-step (op.Frame d k) d (Array (InFrame k (depth_of g))) turns o stands refl
      refl refl refl r

  pub static-step : (d k turns : ℕ) (o : Outcome) → Stand S before (Emit (op.Static d k) ∷ [])
      → Comes S turns (past (op.Static d k) (with_value d (Array (Static k)) g)) o
      → Comes S turns (behind before g) o
  static-step d k turns o stands r = sets-step (op.Static d k) d (Array (Static k)) turns o stands refl refl refl refl r

  -- an argument word
  pub param-step : (d k turns : ℕ) (x : Value) (o : Outcome) → Stand S before (Emit (op.Param d k) ∷ [])
      → slice_get g.current.arguments k ≡ Some x → Comes S turns (past (op.Param d k) (with_value d x g)) o
      → Comes S turns (behind before g) o
  param-step d k turns x o stands there r =
      sets-step (op.Param d k) d x turns o stands refl refl refl
      (ap (λ (v : Option Value). given v (sets (graphs_of S) (behind before g) d)) there) r

  -- ---- the outside

  pub putchar-step : (d a turns : ℕ) (x : ℤ) (o : Outcome) → Stand S before (Emit (op.Putchar d a) ∷ [])
      → number_at g a ≡ Some x → Comes S turns (past (op.Putchar d a) (with_value d (Number (pos (low_byte x)))
      (record g { written = g.written ++ low_byte x ∷ [] }))) o → Comes S turns (behind before g) o
  putchar-step d a turns x o stands there r =
      change-step (op.Putchar d a) (with_value d (Number (pos (low_byte x)))
      (record g { written = g.written ++ low_byte x ∷ [] })) turns o stands refl refl refl refl
      (ap (λ (n : Option ℤ). given n (puts (graphs_of S) (behind before g) d)) there) r

  pub exit-step : (a turns : ℕ) (x : ℤ) → Stand S before (Emit (op.Exit a) ∷ []) → number_at g a ≡ Some x
      → Comes S turns (behind before g) (outcome_at g (Ended (low_byte x)))
  exit-step a turns x stands there =
      end-step (op.Exit a) (Ended (low_byte x)) turns stands refl refl
      (ap (λ (n : Option ℤ). given n (λ m. Halts (Ended (low_byte m)))) there)

  -- two pointers have one array, or the program traps
  pub same-step : (a b turns : ℕ) (o : Outcome) → Stand S before (Emit (op.Same a b) ∷ [])
      → comparison Eq g a b ≡ Some true → Comes S turns (past (op.Same a b) g) o → Comes S turns (behind before g) o
  same-step a b turns o stands compares r =
      change-step (op.Same a b) g turns o stands refl refl refl refl
      (ap (λ (c : Option Bool). given c
      (λ h. if h then onward (graphs_of S) (behind before g) else Halts (Trapped Check))) compares) r

  pub same-traps : (a b turns : ℕ) → Stand S before (Emit (op.Same a b) ∷ []) → comparison Eq g a b ≡ Some false
      → Comes S turns (behind before g) (outcome_at g (Trapped Check))
  same-traps a b turns stands compares =
      end-step (op.Same a b) (Trapped Check) turns stands refl refl
      (ap (λ (c : Option Bool). given c
      (λ h. if h then onward (graphs_of S) (behind before g) else Halts (Trapped Check))) compares)

  -- ---- ends of blocks

  -- a block of the function, whose lines stand anywhere
  pub jump-step : (block turns : ℕ) (o : Outcome) (other : List Line) → Stand S before (Emit (op.Jump block) ∷ [])
      → Stand S other (Start block ∷ []) → Comes S turns (at_start S block g) o → Comes S turns (behind before g) o
  jump-step block turns o other stands there r =
      comes-plain S (behind before g) (at_start S block g) (op.Jump block) turns o
      (ops-stand S site before (op.Jump block) g stands own) refl refl
      (starts-stand S site other block (behind before g) there own).0 r

  -- an op that goes to either of two blocks
  either-step : (i : Op) (yes' no' : ℕ) (asked : Option Bool) (holds : Bool) (turns : ℕ) (o : Outcome)
      (other : List Line) → Stand S before (Emit i ∷ []) → is_turn i ≡ false → marked i ≡ None
      → act (graphs_of S) (behind before g) i
      ≡ given asked (λ h. into_block (graphs_of S) (if h then yes' else no') (behind before g)) → asked ≡ Some holds
      → Stand S other (Start (if holds then yes' else no') ∷ [])
      → Comes S turns (at_start S (if holds then yes' else no') g) o → Comes S turns (behind before g) o
  either-step i yes' no' asked holds turns o other stands plain unmarked does answers there r =
      comes-plain S (behind before g) (at_start S (if holds then yes' else no') g) i turns o
      (ops-stand S site before i g stands own) plain unmarked
      (does
      ∙ ap (λ (c : Option Bool). given c (λ h. into_block (graphs_of S) (if h then yes' else no') (behind before g)))
      answers
      ∙ (starts-stand S site other (if holds then yes' else no') (behind before g) there own).0) r

  pub branch-step : (how : Comparison) (a b yes' no' : ℕ) (holds : Bool) (turns : ℕ) (o : Outcome) (other : List Line)
      → Stand S before (Emit (op.Branch how a b yes' no') ∷ []) → comparison how g a b ≡ Some holds
      → Stand S other (Start (if holds then yes' else no') ∷ [])
      → Comes S turns (at_start S (if holds then yes' else no') g) o → Comes S turns (behind before g) o
  branch-step how a b yes' no' holds turns o other stands compares there r =
      either-step (op.Branch how a b yes' no') yes' no' (comparison how g a b) holds turns o other stands refl refl refl
      compares there r

  pub test-step : (test : NumberTest) (a b yes' no' : ℕ) (holds : Bool) (turns : ℕ) (o : Outcome) (other : List Line)
      → Stand S before (Emit (test_branch test a b yes' no') ∷ []) → answer_at test g a b ≡ Some holds
      → Stand S other (Start (if holds then yes' else no') ∷ [])
      → Comes S turns (at_start S (if holds then yes' else no') g) o → Comes S turns (behind before g) o
  test-step (WithSigns how) a b yes' no' holds turns o other stands answers there r =
      branch-step how a b yes' no' holds turns o other stands answers there r
  test-step (WithoutSigns how) a b yes' no' holds turns o other stands answers there r =
      either-step (op.Branchu how a b yes' no') yes' no' (ordering how g a b) holds turns o other stands refl refl refl
      answers there r

  -- ---- elements: `reaches` says that the array is there, with elements of this width

  loaded : (bits : Bits) (d : ℕ) (array : ArrayName) (index : ℤ) (elements : List ℤ) (n : Option ℤ)
      → ((go : List ℤ → Moved) → accessed (graphs_of S) (behind before g) bits array go ≡ go elements)
      → element_at elements index ≡ n → loads (graphs_of S) (behind before g) bits d array index
      ≡ checked n (λ m. sets (graphs_of S) (behind before g) d (Number m))
  loaded bits d array index elements n reaches there =
      reaches (λ es. checked (element_at es index) (λ m. sets (graphs_of S) (behind before g) d (Number m)))
      ∙ ap (λ (e : Option ℤ). checked e (λ m. sets (graphs_of S) (behind before g) d (Number m))) there

  found : (p i : ℕ) (array : ArrayName) (index : ℤ) (go : ArrayName → ℤ → Moved) → array_at g p ≡ Some array
      → number_at g i ≡ Some index
      → given (array_at (behind before g) p) (λ a. given (number_at (behind before g) i) (go a)) ≡ go array index
  found p i array index go at_p at_i =
      ap (λ (a : Option ArrayName). given a (λ b. given (number_at g i) (go b))) at_p
      ∙ ap (λ (n : Option ℤ). given n (go array)) at_i

  pub load-step : (bits : Bits) (d p i turns : ℕ) (array : ArrayName) (index n : ℤ) (elements : List ℤ) (o : Outcome)
      → Stand S before (Emit (op.Load bits d p i) ∷ []) → array_at g p ≡ Some array → number_at g i ≡ Some index
      → ((go : List ℤ → Moved) → accessed (graphs_of S) (behind before g) bits array go ≡ go elements)
      → element_at elements index ≡ Some n
      → Comes S turns (past (op.Load bits d p i) (with_value d (Number n) g)) o → Comes S turns (behind before g) o
  load-step bits d p i turns array index n elements o stands at_p at_i reaches there r =
      sets-step (op.Load bits d p i) d (Number n) turns o stands refl refl refl
      (found p i array index (loads (graphs_of S) (behind before g) bits d) at_p at_i
      ∙ loaded bits d array index elements (Some n) reaches there) r

  -- outside the array
  pub load-traps : (bits : Bits) (d p i turns : ℕ) (array : ArrayName) (index : ℤ) (elements : List ℤ)
      → Stand S before (Emit (op.Load bits d p i) ∷ []) → array_at g p ≡ Some array → number_at g i ≡ Some index
      → ((go : List ℤ → Moved) → accessed (graphs_of S) (behind before g) bits array go ≡ go elements)
      → element_at elements index ≡ None → Comes S turns (behind before g) (outcome_at g (Trapped Check))
  load-traps bits d p i turns array index elements stands at_p at_i reaches there =
      end-step (op.Load bits d p i) (Trapped Check) turns stands refl refl
      (found p i array index (loads (graphs_of S) (behind before g) bits d) at_p at_i
      ∙ loaded bits d array index elements None reaches there)

  -- through null
  pub load-null : (bits : Bits) (d p i turns : ℕ) (index : ℤ) → Stand S before (Emit (op.Load bits d p i) ∷ [])
      → array_at g p ≡ Some Null → number_at g i ≡ Some index
      → Comes S turns (behind before g) (outcome_at g (Trapped Check))
  load-null bits d p i turns index stands at_p at_i =
      end-step (op.Load bits d p i) (Trapped Check) turns stands refl refl
      (found p i Null index (loads (graphs_of S) (behind before g) bits d) at_p at_i)

  storing : Bits → ArrayName → ℤ → ℤ → List ℤ → Option ℤ → Moved
  storing bits array index n elements old = checked old (λ m. onward (graphs_of S)
      (with_array array (with_element elements index (stored bits n)) (behind before g)))

  saves : (bits : Bits) (p i a : ℕ) (array : ArrayName) (index n : ℤ) (elements : List ℤ) (old : Option ℤ)
      → array_at g p ≡ Some array → number_at g i ≡ Some index → number_at g a ≡ Some n
      → ((go : List ℤ → Moved) → accessed (graphs_of S) (behind before g) bits array go ≡ go elements)
      → element_at elements index ≡ old → act (graphs_of S) (behind before g) (op.Store bits p i a)
      ≡ storing bits array index n elements old
  unfolding storing
  saves bits p i a array index n elements old at_p at_i at_a reaches there =
      found p i array index (λ b j. given (number_at g a) (stores (graphs_of S) (behind before g) bits b j)) at_p at_i
      ∙ ap (λ (m : Option ℤ). given m (stores (graphs_of S) (behind before g) bits array index)) at_a
      ∙ reaches (λ es. checked (element_at es index) (λ m. onward (graphs_of S)
      (with_array array (with_element es index (stored bits n)) (behind before g))))
      ∙ ap (λ (e : Option ℤ). checked e (λ m. onward (graphs_of S)
      (with_array array (with_element elements index (stored bits n)) (behind before g)))) there

  -- the arrays of calls and objects don't depend on the point
  array-behind : (array : ArrayName) (elements : List ℤ)
      → with_array array elements (behind before g) ≡ behind before (with_array array elements g)
  array-behind Null elements = refl
  array-behind (Static k) elements = refl
  array-behind (InFrame k depth) elements = by (depth == depth_of g)
    where
      by : (mine : Bool) → (if mine then record (behind before g) { current = with_elements k elements g.current }
          else record (behind before g) {
            waiting = waiting_with k elements (waiting_place g depth)
                (slice_get g.waiting (waiting_place g depth)) g.waiting;
          })
          ≡ behind before (if mine then record g { current = with_elements k elements g.current }
          else record g {
            waiting = waiting_with k elements (waiting_place g depth)
                (slice_get g.waiting (waiting_place g depth)) g.waiting;
          })
      by true = refl
      by false = refl
  array-behind Unknown elements = refl

  function-kept : (array : ArrayName) (elements : List ℤ)
      → (with_array array elements g).current.function ≡ g.current.function
  function-kept Null elements = refl
  function-kept (Static k) elements = refl
  function-kept (InFrame k depth) elements = by (depth == depth_of g)
    where
      by : (mine : Bool) → (if mine then record g { current = with_elements k elements g.current }
          else record g {
            waiting = waiting_with k elements (waiting_place g depth)
                (slice_get g.waiting (waiting_place g depth)) g.waiting;
          }).current.function ≡ g.current.function
      by true = refl
      by false = refl
  function-kept Unknown elements = refl

  pub store-step : (bits : Bits) (p i a turns : ℕ) (array : ArrayName) (index n old : ℤ) (elements : List ℤ)
      (o : Outcome) → Stand S before (Emit (op.Store bits p i a) ∷ []) → array_at g p ≡ Some array
      → number_at g i ≡ Some index → number_at g a ≡ Some n
      → ((go : List ℤ → Moved) → accessed (graphs_of S) (behind before g) bits array go ≡ go elements)
      → element_at elements index ≡ Some old → Comes S turns
      (past (op.Store bits p i a) (with_array array (with_element elements index (stored bits n)) g)) o
      → Comes S turns (behind before g) o
  unfolding storing
  store-step bits p i a turns array index n old elements o stands at_p at_i at_a reaches there r =
      change-step (op.Store bits p i a) (with_array array (with_element elements index (stored bits n)) g) turns o
      stands refl refl refl (function-kept array (with_element elements index (stored bits n)))
      (saves bits p i a array index n elements (Some old) at_p at_i at_a reaches there
      ∙ ap (onward (graphs_of S)) (array-behind array (with_element elements index (stored bits n)))) r

  pub store-traps : (bits : Bits) (p i a turns : ℕ) (array : ArrayName) (index n : ℤ) (elements : List ℤ)
      → Stand S before (Emit (op.Store bits p i a) ∷ []) → array_at g p ≡ Some array
      → number_at g i ≡ Some index → number_at g a ≡ Some n
      → ((go : List ℤ → Moved) → accessed (graphs_of S) (behind before g) bits array go ≡ go elements)
      → element_at elements index ≡ None → Comes S turns (behind before g) (outcome_at g (Trapped Check))
  unfolding storing
  store-traps bits p i a turns array index n elements stands at_p at_i at_a reaches there =
      end-step (op.Store bits p i a) (Trapped Check) turns stands refl refl
      (saves bits p i a array index n elements None at_p at_i at_a reaches there)

  pub store-null : (bits : Bits) (p i a turns : ℕ) (index n : ℤ) → Stand S before (Emit (op.Store bits p i a) ∷ [])
      → array_at g p ≡ Some Null → number_at g i ≡ Some index → number_at g a ≡ Some n
      → Comes S turns (behind before g) (outcome_at g (Trapped Check))
  store-null bits p i a turns index n stands at_p at_i at_a =
      end-step (op.Store bits p i a) (Trapped Check) turns stands refl refl
      (found p i Null index (λ b j. given (number_at g a) (stores (graphs_of S) (behind before g) bits b j)) at_p at_i
      ∙ ap (λ (m : Option ℤ). given m (stores (graphs_of S) (behind before g) bits Null index)) at_a)

  -- ---- static objects that are no arrays, and arrays that become zero

  scalars : (bits : Bits) (k : ℕ) (go : List ℤ → ℤ → Moved) (elements : List ℤ) (n : ℤ)
      → ((to : List ℤ → Moved) → accessed (graphs_of S) (behind before g) bits (Static k) to ≡ to elements)
      → slice_get elements 0 ≡ Some n → scalar_of (graphs_of S) (behind before g) bits k go ≡ go elements n
  scalars bits k go elements n reaches there = reaches (λ numbers. given (slice_get numbers 0) (go numbers))
      ∙ ap (λ (m : Option ℤ). given m (go elements)) there

  pub get-step : (bits : Bits) (d k turns : ℕ) (n : ℤ) (elements : List ℤ) (o : Outcome)
      → Stand S before (Emit (op.Get bits d k) ∷ [])
      → ((go : List ℤ → Moved) → accessed (graphs_of S) (behind before g) bits (Static k) go ≡ go elements)
      → slice_get elements 0 ≡ Some n → Comes S turns (past (op.Get bits d k) (with_value d (Number n) g)) o
      → Comes S turns (behind before g) o
  get-step bits d k turns n elements o stands reaches there r =
      sets-step (op.Get bits d k) d (Number n) turns o stands refl refl refl
      (scalars bits k (λ numbers m. sets (graphs_of S) (behind before g) d (Number m)) elements n reaches there) r

  pub put-step : (bits : Bits) (k a turns : ℕ) (n old : ℤ) (elements : List ℤ) (o : Outcome)
      → Stand S before (Emit (op.Put bits k a) ∷ []) → number_at g a ≡ Some n
      → ((go : List ℤ → Moved) → accessed (graphs_of S) (behind before g) bits (Static k) go ≡ go elements)
      → slice_get elements 0 ≡ Some old → Comes S turns
      (past (op.Put bits k a) (with_array (Static k) (with_element elements (pos 0) (stored bits n)) g)) o
      → Comes S turns (behind before g) o
  put-step bits k a turns n old elements o stands at_a reaches there r =
      change-step (op.Put bits k a) (with_array (Static k) (with_element elements (pos 0) (stored bits n)) g) turns o
      stands refl refl refl refl
      (ap (λ (m : Option ℤ). given m (puts_scalar (graphs_of S) (behind before g) bits k)) at_a
      ∙ scalars bits k (λ numbers m. onward (graphs_of S)
      (with_array (Static k) (with_element numbers (pos 0) (stored bits n)) (behind before g))) elements old reaches
      there) r

  pub clear-step : (k turns : ℕ) (elements : List ℤ) (o : Outcome) → Stand S before (Emit (op.Clear k) ∷ [])
      → slice_get g.current.arrays k ≡ Some elements → Comes S turns (past (op.Clear k)
      (with_array (InFrame k (depth_of g)) (replicate (length elements) (pos 0)) g)) o
      → Comes S turns (behind before g) o
  clear-step k turns elements o stands there r =
      let zeros = replicate (length elements) (pos 0) in
      change-step (op.Clear k) (with_array (InFrame k (depth_of g)) zeros g) turns o stands refl refl refl
      (function-kept (InFrame k (depth_of g)) zeros)
      (ap (λ (e : Option (List ℤ)). given e (λ es. onward (graphs_of S)
      (with_array (InFrame k (depth_of g)) (replicate (length es) (pos 0)) (behind before g)))) there
      ∙ ap (onward (graphs_of S)) (array-behind (InFrame k (depth_of g)) zeros)) r

  -- ---- the input

  pub getchar-step : (d turns byte : ℕ) (bytes : List ℕ) (o : Outcome) → Stand S before (Emit (op.Getchar d) ∷ [])
      → g.left ≡ byte ∷ bytes → Comes S turns (past (op.Getchar d) (with_value d (Number (pos byte))
      (record g { left = bytes; taken = g.taken + 1 }))) o → Comes S turns (behind before g) o
  getchar-step d turns byte bytes o stands there r =
      change-step (op.Getchar d) (with_value d (Number (pos byte)) (record g { left = bytes; taken = g.taken + 1 }))
      turns o stands refl refl refl refl (ap (gets (graphs_of S) (behind before g) d) there) r

  pub getchar-end : (d turns : ℕ) (o : Outcome) → Stand S before (Emit (op.Getchar d) ∷ []) → g.left ≡ []
      → Comes S turns (past (op.Getchar d) (with_value d (Number (negsuc 0)) g)) o → Comes S turns (behind before g) o
  getchar-end d turns o stands there r =
      sets-step (op.Getchar d) d (Number (negsuc 0)) turns o stands refl refl refl
      (ap (gets (graphs_of S) (behind before g) d) there) r

  -- ---- calls

  pub return-step : (a turns : ℕ) (n : ℤ) (o : Outcome) → Stand S before (Emit (op.Return (Some a)) ∷ [])
      → number_at g a ≡ Some n → ComesOf S turns g (returns_to (graphs_of S) g g.waiting (Some n)) o
      → Comes S turns (behind before g) o
  return-step a turns n o stands there r =
      comes-of S (behind before g) (op.Return (Some a)) turns o
      (returns_to (graphs_of S) g g.waiting (Some n)) (ops-stand S site before (op.Return (Some a)) g stands own) refl
      refl
      (ap (λ (m : Option ℤ). given m (λ k. returns_to (graphs_of S) (behind before g) g.waiting (Some k))) there
      ∙ returns-same S before g g.waiting (Some n))
      (of-behind S before g turns o (returns_to (graphs_of S) g g.waiting (Some n)) r)

  pub return-none : (turns : ℕ) (o : Outcome) → Stand S before (Emit (op.Return None) ∷ [])
      → ComesOf S turns g (returns_to (graphs_of S) g g.waiting None) o → Comes S turns (behind before g) o
  return-none turns o stands r =
      comes-of S (behind before g) (op.Return None) turns o (returns_to (graphs_of S) g g.waiting None)
      (ops-stand S site before (op.Return None) g stands own) refl refl (returns-same S before g g.waiting None)
      (of-behind S before g turns o (returns_to (graphs_of S) g g.waiting None) r)

  -- the caller goes on with a result, or without
  pub result-step : (d f turns : ℕ) (words : List ℕ) (n : ℤ) (o : Outcome)
      → Stand S before (Emit (op.Call (Some d) f words) ∷ [])
      → Comes S turns (past (op.Call (Some d) f words) (with_value d (Number n) g)) o
      → ComesOf S turns (behind before g)
      (result_to (graphs_of S) (behind before g) (Some n) (Some (op.Call (Some d) f words))) o
  result-step d f turns words n o stands r =
      subst (λ (m : Moved). ComesOf S turns (behind before g) m o)
      (sym (next-stands S site before (op.Call (Some d) f words) (with_value d (Number n) g) stands refl own)) r

  pub no-result-step : (f turns : ℕ) (words : List ℕ) (n : Option ℤ) (o : Outcome)
      → Stand S before (Emit (op.Call None f words) ∷ []) → Comes S turns (past (op.Call None f words) g) o
      → ComesOf S turns (behind before g)
      (result_to (graphs_of S) (behind before g) n (Some (op.Call None f words))) o
  no-result-step f turns words None o stands r =
      subst (λ (m : Moved). ComesOf S turns (behind before g) m o)
      (sym (next-stands S site before (op.Call None f words) g stands refl own)) r
  no-result-step f turns words (Some n) o stands r =
      subst (λ (m : Moved). ComesOf S turns (behind before g) m o)
      (sym (next-stands S site before (op.Call None f words) g stands refl own)) r

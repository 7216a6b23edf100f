-- `getchar` and `putchar` on the streams that are lent.
use Rattle.std.proofs.Common.{◌≡◌, ℕ, zero, suc, List, [], ◌∷◌, ◌++◌, length, take, drop, refl, sym, ap, subst}
use Rattle.std.proofs.Common.{◌∙◌, arith, append-nil, append_assoc, Ok, Err, pos}
use Rattle.std.proofs.lemmas.List.{drop-drop}
use Rattle.pcc_base.specs.Outcome.{Goes, Outcome, nothing_listed}
use Rattle.pcc_outside.specs.Streams.{SinkCounts}
use Rattle.c_tree.specs.Evaluation.{low_byte, outcome_at}
use Rattle.c_tree.specs.Program.{Expression, Getchar, Program}
use Rattle.c_tree.specs.Store.{Held, State, Gives}
use Rattle.c_eval_laws.specs.Laws.{GoesOn}
use Rattle.c_eval_laws.specs.Stacks.{StacksFit}
use Rattle.c_eval_laws.specs.Steps.{Configuration, go_on, rest_of}
use Rattle.c_eval_laws.specs.Tasks.{Task, Evaluates, Puts, Way, Ahead, below, top}
use Rattle.c_eval_laws.proofs.Corollaries.{steps_go_on}
use Rattle.c_eval_laws.proofs.Going.{rest_goes_on}
use Rattle.c_eval_state.specs.Kept.{Kept, over}
use Rattle.c_eval_state.specs.Changes.{doing, holding, without_value}
use Rattle.c_eval_state.specs.Streaming.{GetTold, InputCounts, OutCounts, PutTold, taking}
use Rattle.c_eval_state.specs.declared.end.EvalEnd.{EvalEnd}
use Rattle.c_eval_state.specs.declared.end.EvalEnd.TheVariants.{Ended, Trapped, TurnsSpent, ReadFault, WriteFault, NoMemory}
use Rattle.c_eval.specs.Performs.{Fits}
use Rattle.c_eval.specs.Runs.{EvalCounts, EvalTold, WritesSoFar, outcome_in}
use Rattle.c_eval.specs.Standing.{BothTell, Ran, SameCounts, Standing, Steps, Stops, Tells, before_task}
use Rattle.c_eval.proofs.Going.{ahead_step, next_step, ran_far, ran_on, ran_wrote, writes_front}

-- ---- the input

-- a value more fits where `getchar` fits
fits_get : (way : Way) (e : Expression) (ts : List Task) (n m : ℕ) → way ≡ Ahead
    → StacksFit way (Evaluates e ∷ ts) n m → StacksFit way ts (suc n) m
unfolding StacksFit
fits_get way e ts n m ahead =
    subst (λ (w : Way). StacksFit w (Evaluates e ∷ ts) n m → StacksFit w ts (suc n) m) (sym ahead) (λ h. h)

-- a byte that is taken leaves the same of all else
taking_over : (left : List ℕ) (s : State) (kept : Kept) → taking left (over s kept) ≡ over (taking left s) kept
taking_over [] s kept = refl
taking_over (byte ∷ bytes) s kept = refl

taking_turns : (left : List ℕ) (s : State) → (taking left s).turns ≡ s.turns
taking_turns [] s = refl
taking_turns (byte ∷ bytes) s = refl

taking_written : (left : List ℕ) (s : State) → (taking left s).written ≡ s.written
taking_written [] s = refl
taking_written (byte ∷ bytes) s = refl

taking_took : (left all : List ℕ) (s : State) → s.left ≡ left → s.left ≡ drop s.taken all
    → (taking left s).left ≡ drop (taking left s).taken all
taking_took [] all s l took = took
taking_took (byte ∷ bytes) all s l took =
    ap (λ (xs : List ℕ). drop 1 xs) (sym l ∙ took) ∙ drop-drop 1 s.taken all

-- the standing after it: nothing else of the streams has changed
abbrev after_input : Standing → Configuration → ℕ → Type 0 → List ℕ → Standing
after_input now c faults tells left = record now {
  config = c;
  streams = record now.streams { faults = faults; input_tells = tells; left = left };
}

-- a byte was taken, or the input is at its end
pub steps_get : (p : Program) (now new : Standing) (value : Held)
    → now.config.way ≡ Ahead → Fits (doing (Evaluates Getchar) now.config)
    → Tells now.streams new.streams → SameCounts now.streams new.streams → new.kept ≡ now.kept
    → new.streams.taken ≡ now.streams.taken → new.config ≡ holding value now.config
    → (BothTell now.streams → GetTold now.config new.config now.streams.left new.streams.left (Ok tt))
    → Steps p (before_task (Evaluates Getchar) now) new
steps_get p now new value ahead fits tells counted kept taken_is config told =
    let c : Configuration = now.config in
    record {
      tells = tells;
      counted = counted;
      fits = subst Fits (sym config)
          (fits_get c.way Getchar c.tasks (length c.values) (length c.places) ahead fits);
      falls = rw config (omega arith);
      on = λ both rest turns left taken r.
          let s : State = r.state in
          let h : GetTold c new.config now.streams.left new.streams.left (Ok tt) = told both in
          let here : (over s now.kept).left ≡ now.streams.left = sym r.left_is in
          let t : State = taking now.streams.left s in
          let goes : next_step p (doing (Evaluates Getchar) c) (over s now.kept) ≡ Gives new.config (over t new.kept) =
          ahead_step p (Evaluates Getchar) c (over s now.kept) ahead ∙ (h (over s now.kept) here).0
          ∙ ap (λ (u : State). Gives new.config u) (taking_over now.streams.left s now.kept
          ∙ ap (λ (k : Kept). over t k) (sym kept)) in
          ran_on p turns rest rest left taken (before_task (Evaluates Getchar) now) new t r goes
          (taking_turns now.streams.left s ∙ r.turns_left)
          (sym (h (over s now.kept) here).1 ∙ ap (λ (u : State). u.left) (taking_over now.streams.left s now.kept))
          (taking_took now.streams.left left s (sym r.left_is) r.took)
          (taken_is ∙ r.wrote ∙ ap (λ (w : List ℕ). taken ++ w) (sym (taking_written now.streams.left s)));
    }

-- the input failed, or no memory was found for the byte
get_ends : (p : Program) (turns rest : ℕ) (left taken : List ℕ) (now new : Standing) (end : EvalEnd)
    → GetTold now.config new.config now.streams.left new.streams.left (Err end)
    → new.streams.taken ≡ now.streams.taken
    → Ran p turns rest left taken (before_task (Evaluates Getchar) now)
    → EvalTold p turns left new.streams.left taken new.streams.taken end
unfolding EvalTold
get_ends p turns rest left taken now new (Ended status) h same r = absurd h
get_ends p turns rest left taken now new (Trapped trap) h same r = absurd h
get_ends p turns rest left taken now new TurnsSpent h same r = absurd h
get_ends p turns rest left taken now new ReadFault h same r =
    ran_far p turns rest left taken new.streams.left new.streams.taken (before_task (Evaluates Getchar) now) r h
    (ran_wrote p turns rest left taken new.streams.taken (before_task (Evaluates Getchar) now) r same)
get_ends p turns rest left taken now new WriteFault h same r = absurd h
get_ends p turns rest left taken now new NoMemory h same r =
    ran_wrote p turns rest left taken new.streams.taken (before_task (Evaluates Getchar) now) r same

get_counts : (faults faults' : ℕ) (counts counts' : SinkCounts) (end : EvalEnd) → counts' ≡ counts
    → InputCounts faults faults' (Err end) → EvalCounts faults faults' counts counts' end
get_counts faults faults' counts counts' (Ended status) same h = absurd h
get_counts faults faults' counts counts' (Trapped trap) same h = absurd h
get_counts faults faults' counts counts' TurnsSpent same h = absurd h
get_counts faults faults' counts counts' ReadFault same h = (h, same)
get_counts faults faults' counts counts' WriteFault same h = absurd h
get_counts faults faults' counts counts' NoMemory same h = (h, ap (λ (x : SinkCounts). x.faults) same)

pub stops_get : (p : Program) (now new : Standing) (end : EvalEnd)
    → Tells now.streams new.streams → new.streams.counts ≡ now.streams.counts
    → InputCounts now.streams.faults new.streams.faults (Err end)
    → new.streams.taken ≡ now.streams.taken
    → (BothTell now.streams → GetTold now.config new.config now.streams.left new.streams.left (Err end))
    → Stops p end (before_task (Evaluates Getchar) now) new
stops_get p now new end tells counts faults same told = record {
  tells = tells;
  counted = get_counts now.streams.faults new.streams.faults now.streams.counts new.streams.counts end counts faults;
  ends = λ both rest turns left taken r. get_ends p turns rest left taken now new end (told both) same r;
}

-- ---- the output

-- the value of `putchar` fits in place of the one that it takes
fits_put : (way : Way) (ts : List Task) (vs : List Held) (value : Held) (m : ℕ) → way ≡ Ahead
    → StacksFit way (Puts ∷ ts) (length vs) m → StacksFit way ts (length (value ∷ below vs)) m
unfolding StacksFit
fits_put way ts [] value m ahead =
    subst (λ (w : Way). StacksFit w (Puts ∷ ts) 0 m → StacksFit w ts 1 m) (sym ahead) (λ h. absurd h)
fits_put way ts (v ∷ vs) value m ahead =
    subst (λ (w : Way). StacksFit w (Puts ∷ ts) (suc (length vs)) m → StacksFit w ts (suc (length vs)) m)
    (sym ahead) (λ h. h)

abbrev byte_put : Configuration → ℕ
byte_put c = low_byte (top c.values)

-- the state after a byte is written
abbrev wrote_byte : ℕ → State → State
wrote_byte byte s = record s { written = s.written ++ byte ∷ [] }

-- a byte was written
pub steps_put : (p : Program) (now new : Standing) (value : Held)
    → now.config.way ≡ Ahead → Fits (doing Puts now.config)
    → Tells now.streams new.streams → SameCounts now.streams new.streams → new.kept ≡ now.kept
    → new.streams.left ≡ now.streams.left → new.config ≡ holding value (without_value now.config)
    → (BothTell now.streams → PutTold now.config new.config now.streams.taken new.streams.taken (Ok tt))
    → Steps p (before_task Puts now) new
steps_put p now new value ahead fits tells counted kept left_is config told =
    let c : Configuration = now.config in
    record {
      tells = tells;
      counted = counted;
      fits = subst Fits (sym config) (fits_put c.way c.tasks c.values value (length c.places) ahead fits);
      falls = rw config (omega arith);
      on = λ both rest turns left taken r.
          let s : State = r.state in
          let h : PutTold c new.config now.streams.taken new.streams.taken (Ok tt) = told both in
          let t : State = wrote_byte (byte_put c) s in
          let goes : next_step p (doing Puts c) (over s now.kept) ≡ Gives new.config (over t new.kept) =
          ahead_step p Puts c (over s now.kept) ahead ∙ h.1 p nothing_listed (over s now.kept)
          ∙ ap (λ (k : Kept). Gives new.config (over t k)) (sym kept) in
          ran_on p turns rest rest left taken (before_task Puts now) new t r goes r.turns_left
          (left_is ∙ r.left_is) r.took
          (h.0 ∙ ap (λ (l : List ℕ). l ++ byte_put c ∷ []) r.wrote ∙ append_assoc taken s.written (byte_put c ∷ []));
    }

-- bytes, and one more or none, are a front where they are with that one more
byte_front : (w all others : List ℕ) (byte n : ℕ) → all ≡ (w ++ byte ∷ []) ++ others
    → (more : List ℕ) × (all ≡ (w ++ take n (byte ∷ [])) ++ more)
byte_front w all others byte zero e =
    let same : w ≡ w ++ [] = sym (append-nil w) in
    (byte ∷ others, e ∙ append_assoc w (byte ∷ []) others ∙ ap (λ (l : List ℕ). l ++ byte ∷ others) same)
byte_front w all others byte (suc zero) e = (others, e)
byte_front w all others byte (suc (suc n)) e = (others, e)

-- what `putchar` had written in part is the first of what the turns write
put_wrote : (p : Program) (turns rest : ℕ) (left taken taken' : List ℕ) (now : Standing) (n : ℕ)
    → now.config.way ≡ Ahead → Ran p turns rest left taken (before_task Puts now)
    → taken' ≡ now.streams.taken ++ take n (byte_put now.config ∷ []) → WritesSoFar p turns left taken taken'
put_wrote p turns rest left taken taken' now n ahead r e =
    let c : Configuration = now.config in
    let s : State = over r.state now.kept in
    let value : Held = Held.HoldsNumber (pos (byte_put c)) in
    let next : Configuration = go_on c.function c.tasks (value ∷ below c.values) c.places in
    let t : State = wrote_byte (byte_put c) s in
    let goes : next_step p (doing Puts c) s ≡ Gives next t = ahead_step p Puts c s ahead in
    let same : rest_of p nothing_listed next t ≡ outcome_in p turns left =
    sym (steps_go_on p nothing_listed c.function c.way (Puts ∷ c.tasks) c.values c.places s next t goes).same
    ∙ r.same in
    let on : GoesOn (outcome_at Goes t) (outcome_in p turns left) =
    subst (λ (o : Outcome). GoesOn (outcome_at Goes t) o) same
    (rest_goes_on p nothing_listed c.function Ahead c.tasks (value ∷ below c.values) c.places t) in
    let front : (more : List ℕ) × ((outcome_in p turns left).written
    ≡ (r.state.written ++ take n (byte_put c ∷ [])) ++ more) =
    byte_front r.state.written (outcome_in p turns left).written on.written.0 (byte_put c) n on.written.1 in
    writes_front p turns left taken taken' (r.state.written ++ take n (byte_put c ∷ [])) front.0 front.1
    (e ∙ ap (λ (l : List ℕ). l ++ take n (byte_put c ∷ [])) r.wrote
    ∙ append_assoc taken r.state.written (take n (byte_put c ∷ [])))

-- the output failed, or no memory was found
put_ends : (p : Program) (turns rest : ℕ) (left taken : List ℕ) (now new : Standing) (end : EvalEnd)
    → now.config.way ≡ Ahead → PutTold now.config new.config now.streams.taken new.streams.taken (Err end)
    → new.streams.left ≡ now.streams.left → Ran p turns rest left taken (before_task Puts now)
    → EvalTold p turns left new.streams.left taken new.streams.taken end
unfolding EvalTold
put_ends p turns rest left taken now new (Ended status) ahead h same r = absurd h
put_ends p turns rest left taken now new (Trapped trap) ahead h same r = absurd h
put_ends p turns rest left taken now new TurnsSpent ahead h same r = absurd h
put_ends p turns rest left taken now new ReadFault ahead h same r = absurd h
put_ends p turns rest left taken now new WriteFault ahead h same r =
    ran_far p turns rest left taken new.streams.left new.streams.taken (before_task Puts now) r same
    (put_wrote p turns rest left taken new.streams.taken now h.0 ahead r h.1)
put_ends p turns rest left taken now new NoMemory ahead h same r =
    put_wrote p turns rest left taken new.streams.taken now h.0 ahead r h.1

put_counts : (faults faults' : ℕ) (counts counts' : SinkCounts) (end : EvalEnd) → faults' ≡ faults
    → OutCounts counts counts' (Err end) → EvalCounts faults faults' counts counts' end
put_counts faults faults' counts counts' (Ended status) same h = absurd h
put_counts faults faults' counts counts' (Trapped trap) same h = absurd h
put_counts faults faults' counts counts' TurnsSpent same h = absurd h
put_counts faults faults' counts counts' ReadFault same h = absurd h
put_counts faults faults' counts counts' WriteFault same h = (same, h.0, h.1)
put_counts faults faults' counts counts' NoMemory same h = (same, h)

pub stops_put : (p : Program) (now new : Standing) (end : EvalEnd) → now.config.way ≡ Ahead
    → Tells now.streams new.streams → new.streams.faults ≡ now.streams.faults
    → OutCounts now.streams.counts new.streams.counts (Err end)
    → new.streams.left ≡ now.streams.left
    → (BothTell now.streams → PutTold now.config new.config now.streams.taken new.streams.taken (Err end))
    → Stops p end (before_task Puts now) new
stops_put p now new end ahead tells faults counts same told = record {
  tells = tells;
  counted = put_counts now.streams.faults new.streams.faults now.streams.counts new.streams.counts end faults counts;
  ends = λ both rest turns left taken r. put_ends p turns rest left taken now new end ahead (told both) same r;
}

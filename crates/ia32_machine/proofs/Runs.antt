-- A run of the machine, step by step: the state that was reached, and the outcome that it gives.
use Rattle.std.specs.Prelude.{◌≡◌, ◌≢◌, ⊤, ℕ, zero, suc, ◌+◌, ◌-◌, ◌<◌, List, [], ◌∷◌, ◌++◌, length, take, drop, refl}
use Rattle.std.proofs.Common.{sym, ◌∙◌, ap, subst, arith, append-nil, append_assoc, add-zero, length-append}
use Rattle.std.proofs.lemmas.List.{drop-drop}
use Rattle.pcc_base.specs.Outcome as outcome
use Rattle.pcc_outside.specs.Streams.{SinkCounts}
use Rattle.pcc_outside.specs.declared.sink.Sink as sink
use Rattle.ia32_insn.specs.State.{State}
use Rattle.ia32_insn.specs.Meaning.{Moves, Halts}
use Rattle.ia32_insn.specs.Runs.{Steps, Runs, stands, no_visits}
use Rattle.ia32_insn.proofs.Runs.{runs_after, runs_halts}
use Rattle.ia32_insn.proofs.Streams.{since, steps-since, Takes, steps-takes}
use Rattle.ia32_machine.specs.First.{lent}
use Rattle.ia32_machine.specs.Lending.{IsPutOn}
use Rattle.ia32_machine.specs.Runs.{alone, Reaches, HaltsAt, EndsTold, StepTold, GivesSoFar, GivesPart, RunEnds}
use Rattle.ia32_machine.specs.Runs.{WritesNext, RunTold, StepCounts, RunCounts}
use Rattle.ia32_machine.specs.declared.ends.MachineEnd.{MachineEnd}
use Rattle.ia32_machine.specs.declared.ends.MachineEnd.TheVariants.{Ended, Trapped, Stopped, BudgetSpent, ReadFault}
use Rattle.ia32_machine.specs.declared.ends.MachineEnd.TheVariants.{WriteFault, NoMemory}
use Rattle.ia32_machine.specs.declared.ends.StepEnd.TheVariants as step

-- one more step at the end
pub reaches_more : (n : ℕ) (s t u : State) → Reaches n s t → Steps t (Moves u) → Reaches (suc n) s u
reaches_more zero s t u r h = (u, subst (λ (v : State). Steps v (Moves u)) r h, refl)
reaches_more (suc n) s t u r h = (r.0, r.1, reaches_more n r.0 t u r.2 h)

-- the run that goes on after its steps
pub reaches_goes : (n : ℕ) (s t : State) → Reaches n s t → Runs no_visits n s (stands [] t outcome.Goes)
reaches_goes zero s t r = ap (λ (v : State). stands [] v outcome.Goes) r
reaches_goes (suc n) s t r = runs_after no_visits n s r.0 (stands [] t outcome.Goes) r.1 (reaches_goes n r.0 t r.2)

-- the run that ends after some steps, with some to spare
reaches_halts-spare : (n k : ℕ) (s t : State) (end : outcome.End) → Reaches n s t → Steps t (Halts end)
    → Runs no_visits (n + suc k) s (stands [] t end)
reaches_halts-spare zero k s t end r h =
    let e : suc k ≡ 0 + suc k = omega arith in
    let run : Runs no_visits (suc k) t (stands [] t end) = runs_halts no_visits k t end h in
    subst (λ (m : ℕ). Runs no_visits m s (stands [] t end)) e
    (subst (λ (v : State). Runs no_visits (suc k) v (stands [] t end)) r run)
reaches_halts-spare (suc n) k s t end r h =
    let e : suc (n + suc k) ≡ suc n + suc k = omega arith in
    subst (λ (m : ℕ). Runs no_visits m s (stands [] t end)) e
    (runs_after no_visits (n + suc k) s r.0 (stands [] t end) r.1 (reaches_halts-spare n k r.0 t end r.2 h))

-- the run that ends after fewer steps than the budget
pub reaches_halts : (n budget : ℕ) (s t : State) (end : outcome.End) → n < budget → Reaches n s t → Steps t (Halts end)
    → Runs no_visits budget s (stands [] t end)
reaches_halts n budget s t end lt r h =
    let e : n + suc (budget - suc n) ≡ budget = omega arith in
    subst (λ (m : ℕ). Runs no_visits m s (stands [] t end)) e (reaches_halts-spare n (budget - suc n) s t end r h)

-- a run of n steps from s so far: the machine, what is left of the input, and what was put out
pub record Ran (n : ℕ) (s machine : State) (left left' : List ℕ) (IsPut : List ℕ → Type 0) : Type 0 where
  pub state : State
  pub reaches : Reaches n s state
  pub machine_is : machine ≡ alone state
  pub left_is : left' ≡ state.left
  pub took : state.left ≡ drop state.taken left
  pub wrote : IsPut state.written

-- no steps yet
pub ran_none : (machine : State) (left : List ℕ) (IsPut : List ℕ → Type 0) → machine ≡ alone machine → IsPut []
    → Ran 0 (lent machine left) machine left left IsPut
ran_none machine left IsPut bare none =
    record {
      state = lent machine left;
      reaches = refl;
      machine_is = bare;
      left_is = refl;
      took = refl;
      wrote = none;
    }

-- bytes that are put one after the other are put together
abbrev pub Joins : (List ℕ → Type 0) → (List ℕ → Type 0) → (List ℕ → Type 0) → Type 0
Joins IsFirst IsNext IsPut = (xs ys : List ℕ) → IsFirst xs → IsNext ys → IsPut (xs ++ ys)

-- so they are on an output that goes on telling
pub put_joins : {O : Type 0} → (output : sink.Ghosts O) (first next last : O)
    → (output.tells first → output.tells next)
    → Joins (IsPutOn output first next) (IsPutOn output next last) (IsPutOn output first last)
put_joins output first next last telling = λ xs ys p q t.
    q (telling t) ∙ ap (λ (l : List ℕ). l ++ ys) (p t) ∙ append_assoc (output.taken first) xs ys

-- a state is the machine lent its input, since what was taken and written before
since_lent : (t machine : State) (left : List ℕ) → machine ≡ alone t → left ≡ t.left
    → since t.taken t.written (lent machine left) ≡ t
since_lent t machine left m l =
    ap (λ (v : State). since t.taken t.written (lent v left)) m
    ∙ ap (λ (v : List ℕ). since t.taken t.written (lent t v)) l
    ∙ ap (λ (k : ℕ). let u : State = record {
      registers = t.registers;
      flags = t.flags;
      eip = t.eip;
      memory = t.memory;
      left = t.left;
      taken = k;
      written = t.written ++ [];
    } in u) (add-zero t.taken)
    ∙ ap (λ (w : List ℕ). let u : State = record {
      registers = t.registers;
      flags = t.flags;
      eip = t.eip;
      memory = t.memory;
      left = t.left;
      taken = t.taken;
      written = w;
    } in u) (append-nil t.written)

-- a step that goes on, from the state that was reached
ran_steps : (n : ℕ) (s machine next : State) (left left' : List ℕ) (IsPut : List ℕ → Type 0)
    → (r : Ran n s machine left left' IsPut) → Steps (lent machine left') (Moves next)
    → Steps r.state (Moves (since r.state.taken r.state.written next))
ran_steps n s machine next left left' IsPut r h =
    subst (λ (v : State). Steps v (Moves (since r.state.taken r.state.written next)))
    (since_lent r.state machine left' r.machine_is r.left_is)
    (steps-since r.state.taken r.state.written (lent machine left') (Moves next) h)

-- a step that ends, from the state that was reached
ran_halts : (n : ℕ) (s machine : State) (left left' : List ℕ) (IsPut : List ℕ → Type 0) (end : outcome.End)
    → (r : Ran n s machine left left' IsPut) → Steps (lent machine left') (Halts end) → Steps r.state (Halts end)
ran_halts n s machine left left' IsPut end r h =
    subst (λ (v : State). Steps v (Halts end)) (since_lent r.state machine left' r.machine_is r.left_is)
    (steps-since r.state.taken r.state.written (lent machine left') (Halts end) h)

-- one more step
pub ran_more : (n : ℕ) (s machine machine' : State) (left left' left'' : List ℕ) (IsFirst IsNext IsPut : List ℕ → Type 0)
    → Joins IsFirst IsNext IsPut → Ran n s machine left left' IsFirst
    → StepTold (lent machine left') machine' left'' IsNext step.Going → Ran (suc n) s machine' left left'' IsPut
unfolding StepTold
ran_more n s machine machine' left left' left'' IsFirst IsNext IsPut joins r h =
    let t : State = r.state in
    let u : State = since t.taken t.written h.0 in
    let steps : Steps t (Moves u) = ran_steps n s machine h.0 left left' IsFirst r h.1 in
    let takes : Takes t u = steps-takes t u steps in
    record {
      state = u;
      reaches = reaches_more n s t u r.reaches steps;
      machine_is = h.2;
      left_is = h.3;
      took = takes.left ∙ ap (drop takes.count) r.took ∙ drop-drop takes.count t.taken left
          ∙ ap (λ (k : ℕ). drop k left) (sym takes.taken);
      wrote = joins t.written h.0.written r.wrote h.4;
    }

-- after a step that puts nothing, what was put is what was put before
same_put : (IsFirst IsNext IsPut : List ℕ → Type 0) (bytes : List ℕ) → Joins IsFirst IsNext IsPut → IsFirst bytes
    → IsNext [] → IsPut bytes
same_put IsFirst IsNext IsPut bytes joins first none = subst IsPut (append-nil bytes) (joins bytes [] first none)

-- an end of the definition after some steps is that of the run
ran_ends : (n budget : ℕ) (s machine machine' : State) (left left' left'' : List ℕ)
    (IsFirst IsNext IsPut : List ℕ → Type 0) (end : outcome.End)
    → Joins IsFirst IsNext IsPut → n < budget → Ran n s machine left left' IsFirst
    → HaltsAt (Steps (lent machine left')) (lent machine left') machine' left'' IsNext end
    → RunEnds budget s machine' left left'' IsPut end
ran_ends n budget s machine machine' left left' left'' IsFirst IsNext IsPut end joins lt r h =
    let t : State = r.state in
    let halts : Steps t (Halts end) = ran_halts n s machine left left' IsFirst end r h.0 in
    let left_is : left'' ≡ t.left = h.2 ∙ r.left_is in
    let machine_is : machine' ≡ alone t = h.1 ∙ ap alone r.machine_is in
    let put : IsPut t.written = same_put IsFirst IsNext IsPut t.written joins r.wrote h.3 in (
      (stands [] t end, reaches_halts n budget s t end lt r.reaches halts, refl, left_is ∙ r.took, put),
      n,
      lt,
      (t, r.reaches, halts, machine_is, left_is),
    )

-- a refusal of a lent object after some steps, of which it took the bytes
ran_refused : (n budget : ℕ) (s machine machine' : State) (left left' left'' : List ℕ)
    (IsFirst IsNext IsPut : List ℕ → Type 0) (Holds : State → Type 0)
    → Joins IsFirst IsNext IsPut → n < budget → (r : Ran n s machine left left' IsFirst) → Holds r.state
    → machine' ≡ alone (lent machine left') → left'' ≡ left' → IsNext []
    → GivesSoFar budget s machine' left left'' IsPut Holds
ran_refused n budget s machine machine' left left' left'' IsFirst IsNext IsPut Holds joins lt r holds m l none =
    let t : State = r.state in
    let put : IsPut t.written = same_put IsFirst IsNext IsPut t.written joins r.wrote none in (
      n,
      lt,
      (stands [] t outcome.Goes, reaches_goes n s t r.reaches, refl, l ∙ r.left_is ∙ r.took, put),
      (t, r.reaches, holds, m ∙ ap alone r.machine_is, l ∙ r.left_is),
    )

-- something behind a list makes another list
something-behind : (xs ys : List ℕ) → ys ≢ [] → xs ++ ys ≢ xs
something-behind xs [] some e = some refl
something-behind xs (y ∷ ys) some e = absurd
    (let n : length (xs ++ y ∷ ys) ≡ length xs = ap length e in omega (arith, n, length-append xs (y ∷ ys)))

-- a step that writes, from the state that was reached
ran_writes : (n : ℕ) (s machine next : State) (left left' : List ℕ) (IsPut : List ℕ → Type 0)
    → (r : Ran n s machine left left' IsPut) → Steps (lent machine left') (Moves next) → next.written ≢ []
    → WritesNext r.state
ran_writes n s machine next left left' IsPut r h some =
    let t : State = r.state in (
      since t.taken t.written next,
      ran_steps n s machine next left left' IsPut r h,
      something-behind t.written next.written some,
    )

-- bytes, and then a part of more
take-append-more : (xs ys : List ℕ) (k : ℕ) → xs ++ take k ys ≡ take (length xs + k) (xs ++ ys)
take-append-more [] ys k = let e : k ≡ 0 + k = omega arith in ap (λ (m : ℕ). take m ys) e
take-append-more (x ∷ xs) ys k =
    let e : suc (length xs + k) ≡ suc (length xs) + k = omega arith in
    ap (λ (l : List ℕ). x ∷ l) (take-append-more xs ys k) ∙ ap (λ (m : ℕ). take m (x ∷ (xs ++ ys))) e

-- an output that failed in a step after some steps took a part of what the step writes
ran_failed : (n budget : ℕ) (s machine machine' : State) (left left' left'' : List ℕ)
    (IsFirst IsNext IsPut : List ℕ → Type 0)
    → Joins IsFirst IsNext IsPut → n < budget → Ran n s machine left left' IsFirst
    → EndsTold (Steps (lent machine left')) (lent machine left') machine' left'' IsNext WriteFault
    → GivesPart budget s machine' left left'' IsPut
ran_failed n budget s machine machine' left left' left'' IsFirst IsNext IsPut joins lt r h =
    let t : State = r.state in
    let u : State = since t.taken t.written h.0 in
    let steps : Steps t (Moves u) = ran_steps n s machine h.0 left left' IsFirst r h.1 in
    let writes : WritesNext t = ran_writes n s machine h.0 left left' IsFirst r h.1 h.2 in
    let part : IsPut (take (length t.written + h.5) (t.written ++ h.0.written)) =
    subst IsPut (take-append-more t.written h.0.written h.5) (joins t.written (take h.5 h.0.written) r.wrote h.6) in (
      n,
      lt,
      stands [] t outcome.Goes,
      stands [] u outcome.Goes,
      reaches_goes n s t r.reaches,
      reaches_goes (suc n) s u (reaches_more n s t u r.reaches steps),
      h.4 ∙ r.left_is ∙ r.took,
      h.5,
      part,
      (t, r.reaches, writes, h.3 ∙ ap alone r.machine_is, h.4 ∙ r.left_is),
    )

-- a step that ends the run
pub ran_last : (n budget : ℕ) (s machine machine' : State) (left left' left'' : List ℕ)
    (IsFirst IsNext IsPut : List ℕ → Type 0) (end : MachineEnd)
    → Joins IsFirst IsNext IsPut → n < budget → Ran n s machine left left' IsFirst
    → StepTold (lent machine left') machine' left'' IsNext (step.End end)
    → RunTold budget s machine' left left'' IsPut end
unfolding StepTold RunTold
ran_last n budget s machine machine' left left' left'' IsFirst IsNext IsPut (Ended status) joins lt r h =
    ran_ends n budget s machine machine' left left' left'' IsFirst IsNext IsPut (outcome.Ended status) joins lt r h
ran_last n budget s machine machine' left left' left'' IsFirst IsNext IsPut (Trapped trap) joins lt r h =
    ran_ends n budget s machine machine' left left' left'' IsFirst IsNext IsPut (outcome.Trapped trap) joins lt r h
ran_last n budget s machine machine' left left' left'' IsFirst IsNext IsPut (Stopped cause address) joins lt r h =
    ran_ends n budget s machine machine' left left' left'' IsFirst IsNext IsPut (outcome.Stopped cause address) joins lt
    r h
ran_last n budget s machine machine' left left' left'' IsFirst IsNext IsPut BudgetSpent joins lt r h = elim h [ ]
ran_last n budget s machine machine' left left' left'' IsFirst IsNext IsPut ReadFault joins lt r h =
    ran_refused n budget s machine machine' left left' left'' IsFirst IsNext IsPut (λ t. ⊤) joins lt r tt h.0 h.1 h.2
ran_last n budget s machine machine' left left' left'' IsFirst IsNext IsPut WriteFault joins lt r h =
    ran_failed n budget s machine machine' left left' left'' IsFirst IsNext IsPut joins lt r h
ran_last n budget s machine machine' left left' left'' IsFirst IsNext IsPut NoMemory joins lt r h =
    ran_refused n budget s machine machine' left left' left'' IsFirst IsNext IsPut WritesNext joins lt r
    (ran_writes n s machine h.0 left left' IsFirst r h.1 h.2) h.3 h.4 h.5

-- all steps were made
pub ran_spent : (budget : ℕ) (s machine : State) (left left' : List ℕ) (IsPut : List ℕ → Type 0)
    → Ran budget s machine left left' IsPut → RunTold budget s machine left left' IsPut BudgetSpent
unfolding RunTold
ran_spent budget s machine left left' IsPut r =
    let t : State = r.state in (
      (stands [] t outcome.Goes, reaches_goes budget s t r.reaches, refl, r.left_is ∙ r.took, r.wrote),
      (t, r.reaches, tt, r.machine_is, r.left_is),
    )

-- the counts of a step that ends are those of a run that ends so
pub end_counts : (input input' : ℕ) (out out' : SinkCounts) (end : MachineEnd)
    → StepCounts input input' out out' (step.End end) → RunCounts input input' out out' end
end_counts input input' out out' (Ended status) h = h
end_counts input input' out out' (Trapped trap) h = h
end_counts input input' out out' (Stopped cause address) h = h
end_counts input input' out out' BudgetSpent h = elim h [ ]
end_counts input input' out out' ReadFault h = h
end_counts input input' out out' WriteFault h = h
end_counts input input' out out' NoMemory h = h

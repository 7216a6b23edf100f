-- Steps and runs have one outcome each, and a run that ends is the same with more steps.
use Rattle.std.specs.Prelude.{◌≡◌, ℕ, zero, suc, ◌+◌, List, Option, Some, None, refl}
use Rattle.std.proofs.Common.{sym, ◌∙◌, ap, subst, arith, inl, inr}
use Rattle.pcc_base.specs.Outcome.{Visit, Outcome, End, Goes, after_visits}
use Rattle.ia32_insn.specs.declared.insn.Insn.{Insn}
use Rattle.ia32_insn.specs.State.{State, code_at}
use Rattle.ia32_insn.specs.Meaning.{Moved, Moves, Halts, perform}
use Rattle.ia32_insn.specs.Runs.{StepsAt, Steps, stands, GoesOn, Runs}
use Rattle.ia32_insn.proofs.Spelling.{begins_once}

-- a step from a state where this code stands, or none, leads to one place
step_at_once : (code : Option (List ℕ)) (s : State) (a b : Moved) → StepsAt code s a → StepsAt code s b → a ≡ b
step_at_once None s a b p q = p ∙ sym q
step_at_once (Some code) s a b p q =
    elim p [
      | inl x ↦ elim q [
        | inl y ↦
            let same = begins_once x.0 y.0 x.1 y.1 code x.2 y.2 in
            x.3 ∙ ap (λ (i : Insn). perform i (s.eip + x.1) s) same.0 ∙ ap (λ (n : ℕ). perform y.0 (s.eip + n) s) same.1
            ∙ sym y.3
        | inr y ↦ absurd (y.0 x.0 x.1 x.2)
      ]
      | inr x ↦ elim q [
        | inl y ↦ absurd (x.0 y.0 y.1 y.2)
        | inr y ↦ x.1 ∙ sym y.1
      ]
    ]

-- a step leads to one place
pub step_once : (s : State) (a b : Moved) → Steps s a → Steps s b → a ≡ b
step_once s a b p q = step_at_once (code_at s.eip s.memory) s a b p q

-- where what follows has one outcome, so has a run that goes on
goes_on_once : (rest : State → Outcome → Type 0) (visits : List Visit) (s : State) (moved : Moved) (a b : Outcome)
    → ((t : State) (c d : Outcome) → rest t c → rest t d → c ≡ d) → GoesOn rest visits s moved a
    → GoesOn rest visits s moved b → a ≡ b
goes_on_once rest visits s (Moves next) a b once p q =
    p.2 ∙ ap (after_visits visits) (once next p.0 q.0 p.1 q.1) ∙ sym q.2
goes_on_once rest visits s (Halts end) a b once p q = p ∙ sym q

-- a run has one outcome
pub run_once : (visits : State → List Visit) (m : ℕ) (s : State) (a b : Outcome) → Runs visits m s a → Runs visits m s b
    → a ≡ b
run_once visits zero s a b p q = p ∙ sym q
run_once visits (suc m) s a b p q =
    let moved = step_once s q.0 p.0 q.1 p.1 in
    let later : GoesOn (Runs visits m) (visits s) s p.0 b =
    subst (λ (v : Moved). GoesOn (Runs visits m) (visits s) s v b) moved q.2 in
    goes_on_once (Runs visits m) (visits s) s p.0 a b (run_once visits m) p.2 later

-- a step that leads to a state, and then a run from there
pub runs_after : (visits : State → List Visit) (k : ℕ) (s t : State) (o : Outcome) → Steps s (Moves t)
    → Runs visits k t o → Runs visits (suc k) s (after_visits (visits s) o)
runs_after visits k s t o step run = (Moves t, step, (o, run, refl))

-- a step that ends the run
pub runs_halts : (visits : State → List Visit) (k : ℕ) (s : State) (end : End) → Steps s (Halts end)
    → Runs visits (suc k) s (stands (visits s) s end)
runs_halts visits k s end step = (Halts end, step, refl)

-- where what follows goes on being so with more steps, so does a run that goes on
goes_on_more : (rest more : State → Outcome → Type 0) (visits : List Visit) (s : State) (moved : Moved) (o : Outcome)
    → ((t : State) (c : Outcome) → (c.end ≡ Goes → ⊥) → rest t c → more t c) → (o.end ≡ Goes → ⊥)
    → GoesOn rest visits s moved o → GoesOn more visits s moved o
goes_on_more rest more visits s (Moves next) o longer ends p =
    (p.0, longer next p.0 (λ goes. ends (ap (λ (c : Outcome). c.end) p.2 ∙ goes)) p.1, p.2)
goes_on_more rest more visits s (Halts end) o longer ends p = p

-- a run that has ended has the same outcome with one more step
pub runs_suc : (visits : State → List Visit) (m : ℕ) (s : State) (o : Outcome) → (o.end ≡ Goes → ⊥) → Runs visits m s o
    → Runs visits (suc m) s o
runs_suc visits zero s o ends p = absurd (ends (ap (λ (c : Outcome). c.end) p))
runs_suc visits (suc m) s o ends p =
    (p.0, p.1, goes_on_more (Runs visits m) (Runs visits (suc m)) (visits s) s p.0 o (runs_suc visits m) ends p.2)

-- a run that has ended has the same outcome with more steps
pub runs_more : (visits : State → List Visit) (k m : ℕ) (s : State) (o : Outcome) → (o.end ≡ Goes → ⊥)
    → Runs visits m s o → Runs visits (k + m) s o
runs_more visits zero m s o ends p = subst (λ (n : ℕ). Runs visits n s o) (let e : m ≡ 0 + m = omega arith in e) p
runs_more visits (suc k) m s o ends p =
    let e : suc (k + m) ≡ suc k + m = omega arith in
    subst (λ (n : ℕ). Runs visits n s o) e (runs_suc visits (k + m) s o ends (runs_more visits k m s o ends p))

-- A run over an input that tells, and streams that never refuse, ends as the definition says.
use Rattle.std.specs.Prelude.{◌≡◌, ℕ, List, []}
use Rattle.std.proofs.Common.{sym, ◌∙◌, ap, subst, arith, inl, inr}
use Rattle.pcc_base.specs.Counts.{Rose}
use Rattle.pcc_base.specs.Outcome as outcome
use Rattle.pcc_base.specs.Outcome.{Outcome, End}
use Rattle.pcc_outside.specs.Memory.{no_puts}
use Rattle.ia32_insn.specs.State.{State}
use Rattle.ia32_insn.specs.Runs.{Runs, no_visits}
use Rattle.ia32_insn.proofs.Runs.{run_once}
use Rattle.ia32_machine.specs.First.{lent}
use Rattle.ia32_machine.specs.Runs.{Gives, RunCounts, RunTold}
use Rattle.ia32_machine.specs.declared.ends.MachineEnd.{MachineEnd}
use Rattle.ia32_machine.specs.declared.ends.MachineEnd.TheVariants.{Ended, Trapped, Stopped, BudgetSpent, ReadFault}
use Rattle.ia32_machine.specs.declared.ends.MachineEnd.TheVariants.{WriteFault, NoMemory}
use Rattle.ia32_tests.specs.Ends.{answer_of}

-- a count that stays didn't rise
stays : Rose 0 0 → ⊥
stays rose = elim rose.1 [ inl more ↦ omega (arith, more) | inr last ↦ omega (arith, last) ]

-- all outcomes of a run have the same end
same_end : (budget : ℕ) (s : State) (left left' : List ℕ) (IsPut : List ℕ → Type 0) (end : End) (o : Outcome)
    → Gives budget s left left' IsPut end → Runs no_visits budget s o → answer_of end ≡ answer_of o.end
same_end budget s left left' IsPut end o gives runs =
    ap answer_of (sym gives.2 ∙ ap (λ (a : Outcome). a.end) (run_once no_visits budget s gives.0 o gives.1 runs))

ends_as_defined : (budget : ℕ) (s machine : State) (left left' : List ℕ) (IsPut : List ℕ → Type 0)
    (end : MachineEnd) (o : Outcome)
    → RunCounts 0 0 no_puts no_puts end → RunTold budget s machine left left' IsPut end → Runs no_visits budget s o
    → end ≡ answer_of o.end
unfolding RunTold
ends_as_defined budget s machine left left' IsPut (Ended status) o counted told runs =
    same_end budget s left left' IsPut (outcome.Ended status) o told.0 runs
ends_as_defined budget s machine left left' IsPut (Trapped trap) o counted told runs =
    same_end budget s left left' IsPut (outcome.Trapped trap) o told.0 runs
ends_as_defined budget s machine left left' IsPut (Stopped cause address) o counted told runs =
    same_end budget s left left' IsPut (outcome.Stopped cause address) o told.0 runs
ends_as_defined budget s machine left left' IsPut BudgetSpent o counted told runs =
    same_end budget s left left' IsPut outcome.Goes o told.0 runs
ends_as_defined budget s machine left left' IsPut ReadFault o counted told runs = absurd (stays counted.0)
ends_as_defined budget s machine left left' IsPut WriteFault o counted told runs = absurd (stays counted.1)
ends_as_defined budget s machine left left' IsPut NoMemory o counted told runs = absurd (stays counted.2)

-- the same of a machine that was lent an input with nothing left
pub ends_unread : (budget : ℕ) (s machine : State) (left left' : List ℕ) (IsPut : List ℕ → Type 0) (end : MachineEnd)
    (o : Outcome)
    → left ≡ [] → RunCounts 0 0 no_puts no_puts end → RunTold budget (lent s left) machine left left' IsPut end
    → Runs no_visits budget (lent s []) o → end ≡ answer_of o.end
ends_unread budget s machine left left' IsPut end o none counted told runs =
    ends_as_defined budget (lent s left) machine left left' IsPut end o counted told
    (subst (λ (l : List ℕ). Runs no_visits budget (lent s l) o) (sym none) runs)

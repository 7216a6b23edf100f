-- The jump to the trap of a failed check.
use Rattle.std.proofs.Common.{◌≡◌, ℕ, ◌+◌, ◌%◌, ◌^◌, ◌<◌, Bool, true, false, List, [], ◌++◌, length, Some, Ok, refl}
use Rattle.std.proofs.Common.{sym, ap, subst}
use Rattle.std.specs.Prelude.{Option, Result, if◌then◌else◌}
use Rattle.std.proofs.Math.Nat.{mod-eq_of_lt}
use Rattle.pcc_base.specs.Outcome.{End, Stopped, Trapped}
use Rattle.pcc_base.specs.declared.run.Stop.TheVariants.{Flags as UnknownFlags}
use Rattle.pcc_base.specs.declared.run.Trap.TheVariants.{Check}
use Rattle.ia32_insn.specs.declared.insn.Cond.{Cond}
use Rattle.ia32_insn.specs.declared.insn.Insn.TheVariants as insn
use Rattle.ia32_insn.specs.declared.item.Item.{Item}
use Rattle.ia32_insn.specs.State.{State, at_address}
use Rattle.ia32_insn.specs.Arithmetic.{holds}
use Rattle.ia32_insn.specs.Meaning.{and_then, or_end, distant, target}
use Rattle.ia32_insn.specs.Items.{ItemsAt, check_items}
use Rattle.ia32_rows.specs.Sites.{Site, ReadyAt, StandsFrom}
use Rattle.ia32_rows.proofs.Sound.{sound-at}
use Rattle.ia32_rows.proofs.Steps.{IsAt, at-front, at-back, after-fits, step-goes}
use Rattle.ia32_laws.proofs.Stopping.{plain-halts}
use Rattle.ia32_laws.specs.RoutinesLaws.{CheckPasses, CheckTraps}
use Rattle.ia32_rows.proofs.Jumps.{branch-effect, decides, landed}

pub check-traps : CheckTraps
check-traps site c rest s sound stands ready e =
    let first : List ℕ = ready.stand.0 in
    let leads = ready.stand.3 in
    let whole : IsAt site.text s.eip (first ++ ready.stand.1) = subst (IsAt site.text s.eip) ready.stand.2 ready.here in
    let after : ℕ = s.eip + length first in
    let goal : ℕ = distant after leads.0 in
    let is : target (insn.Jcc c leads.0) after s ≡ Ok goal =
    ap (λ (x : Result Bool End). let address : Result ℕ End =
    and_then x (λ known. Ok (if known then goal else after)) in address) (decides (holds c s.flags) true s e) in
    let t : State = at_address goal s in
    let there : ReadyAt site check_items t = landed site check_items site.symbols.check goal s stands leads.2 in
    let ends = plain-halts site insn.Ud2 [] t (Trapped Check)
    (sound-at site.text site.low site.high goal s sound) there tt (λ after. refl) in (
      goal,
      step-goes site.text site.low site.high (insn.Jcc c leads.0) first s s goal sound
          (at-front site.text s.eip first ready.stand.1 whole) leads.1 tt (branch-effect c true s e) is,
      ends.0,
      ends.1,
    )

pub check-passes : CheckPasses
check-passes site c rest s sound ready e =
    let first : List ℕ = ready.stand.0 in
    let bytes : List ℕ = ready.stand.1 in
    let leads = ready.stand.3 in
    let whole : IsAt site.text s.eip (first ++ bytes) = subst (IsAt site.text s.eip) ready.stand.2 ready.here in
    let front = at-front site.text s.eip first bytes whole in
    let after : ℕ = s.eip + length first in
    let goal : ℕ = distant after leads.0 in
    let is : target (insn.Jcc c leads.0) after s ≡ Ok after =
    ap (λ (x : Result Bool End). let address : Result ℕ End =
    and_then x (λ known. Ok (if known then goal else after)) in address) (decides (holds c s.flags) false s e) in
    let behind : StandsFrom site rest after =
    record { bytes = bytes; here = at-back site.text s.eip first bytes whole; stand = ready.stand.4 } in
    let fits : after < 2 ^ 32 = after-fits site.text site.low site.high s.eip first s sound front in (
      after,
      step-goes site.text site.low site.high (insn.Jcc c leads.0) first s s after sound front leads.1 tt
          (branch-effect c false s e) is,
      landed site rest after after s behind (mod-eq_of_lt fits),
    )

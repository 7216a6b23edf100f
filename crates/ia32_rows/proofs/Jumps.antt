-- Where jumps within a function lead.
use Rattle.std.proofs.Common.{◌≡◌, ℕ, ◌+◌, ◌%◌, ◌^◌, ◌<◌, Bool, true, false, List, [], ◌∷◌, ◌++◌, length, Some, Ok}
use Rattle.std.proofs.Common.{refl}
use Rattle.std.proofs.Common.{sym, ap, subst, ◌∙◌, arith}
use Rattle.std.specs.Prelude.{Option, Result, if◌then◌else◌}
use Rattle.std.proofs.Math.Nat.{mod-eq_of_lt}
use Rattle.pcc_base.specs.Outcome.{End, Stopped}
use Rattle.pcc_base.specs.declared.run.Stop.TheVariants.{Flags as UnknownFlags}
use Rattle.ia32_insn.specs.declared.insn.Cond.{Cond}
use Rattle.ia32_insn.specs.declared.insn.Insn.TheVariants as insn
use Rattle.ia32_insn.specs.declared.item.Item.{Item}
use Rattle.ia32_insn.specs.declared.item.Item.TheVariants as item
use Rattle.ia32_insn.specs.State.{State, at_address}
use Rattle.ia32_insn.specs.Arithmetic.{holds}
use Rattle.ia32_insn.specs.Meaning.{and_then, or_end, distant, target}
use Rattle.ia32_insn.specs.Items.{ItemsAt}
use Rattle.ia32_rows.specs.Jumps.{JumpLeads, BranchLeads, BranchPasses}
use Rattle.ia32_rows.specs.Sites.{Site, ReadyAt, StandsFrom}
use Rattle.ia32_rows.proofs.Steps.{IsAt, at-front, at-back, after-fits, items-split, step-goes}

-- ---- labels

-- what comes last of items that stand in the text stands there too
pub stands-behind : (site : Site) (front back : List Item) (start : ℕ) → StandsFrom site (front ++ back) start
    → (address : ℕ) × StandsFrom site back address
stands-behind site front back start h =
    let m = items-split site.symbols site.places start front back h.bytes h.stand in (
      start + length m.0,
      record {
        bytes = m.1;
        here = at-back site.text start m.0 m.1
            (subst (IsAt site.text start) m.2 h.here);
        stand = m.4;
      },
    )

-- a label is at the address of what follows it
pub label-stands : (site : Site) (label start : ℕ) (back : List Item) → StandsFrom site (item.Label label ∷ back) start
    → StandsFrom site back (site.places.labels label)
label-stands site label start back h =
    let first : List ℕ = h.stand.0 in
    let rest : List ℕ = h.stand.1 in
    let none : first ≡ [] = h.stand.3.0 in
    let same : h.bytes ≡ rest = h.stand.2 ∙ ap (λ (l : List ℕ). l ++ rest) none in
    let at : start ≡ site.places.labels label = sym h.stand.3.1 in
    let here : start + length first ≡ site.places.labels label = let l = ap length none in omega (arith, l, at) in
    record {
      bytes = rest;
      here = subst (λ (a : ℕ). IsAt site.text a rest) at (subst (IsAt site.text start) same h.here);
      stand = subst (λ (a : ℕ). ItemsAt site.symbols site.places a back rest) here h.stand.4;
    }

pub label-among : (site : Site) (front back : List Item) (start label : ℕ)
    → StandsFrom site (front ++ (item.Label label ∷ back)) start → StandsFrom site back (site.places.labels label)
label-among site front back start label h =
    let behind = stands-behind site front (item.Label label ∷ back) start h in
    label-stands site label behind.0 back behind.1

-- ---- jumps

-- where the target of a jump is an address at which items stand, it leads there
pub landed : (site : Site) (items : List Item) (address goal : ℕ) (s : State) → StandsFrom site items address
    → goal % 2 ^ 32 ≡ address → ReadyAt site items (at_address goal s)
landed site items address goal s h at =
    record {
      bytes = h.bytes;
      here = subst (λ (a : ℕ). IsAt site.text a h.bytes) (sym at) h.here;
      stand = subst (λ (a : ℕ). ItemsAt site.symbols site.places a items h.bytes) (sym at) h.stand;
    }

pub jump-leads : JumpLeads
jump-leads site front back rest start label s sound stands ready =
    let first : List ℕ = ready.stand.0 in
    let leads = ready.stand.3 in
    let whole : IsAt site.text s.eip (first ++ ready.stand.1) = subst (IsAt site.text s.eip) ready.stand.2 ready.here in
    let goal : ℕ = distant (s.eip + length first) leads.0 in (
      goal,
      step-goes site.text site.low site.high (insn.Jmp leads.0) first s s goal sound
          (at-front site.text s.eip first ready.stand.1 whole) leads.1 tt refl refl,
      landed site back (site.places.labels label) goal s (label-among site front back start label stands) leads.2,
    )

-- what a condition gives where it is known
pub decides : (o : Option Bool) (b : Bool) (s : State) → o ≡ Some b
    → (let known : Result Bool End = or_end o (Stopped UnknownFlags s.eip) in known) ≡ Ok b
decides o b s e = ap (λ (x : Option Bool). let known : Result Bool End = or_end x (Stopped UnknownFlags s.eip) in known)
    e

pub branch-effect : (c : Cond) (b : Bool) (s : State) → holds c s.flags ≡ Some b
    → (let done : Result State End = and_then (or_end (holds c s.flags) (Stopped UnknownFlags s.eip)) (λ known. Ok s) in
    done) ≡ Ok s
branch-effect c b s e =
    ap (λ (x : Result Bool End). let done : Result State End = and_then x (λ known. Ok s) in done)
    (decides (holds c s.flags) b s e)

pub branch-leads : BranchLeads
branch-leads site c front back rest start label s sound stands ready e =
    let first : List ℕ = ready.stand.0 in
    let leads = ready.stand.3 in
    let whole : IsAt site.text s.eip (first ++ ready.stand.1) = subst (IsAt site.text s.eip) ready.stand.2 ready.here in
    let after : ℕ = s.eip + length first in
    let goal : ℕ = distant after leads.0 in
    let is : target (insn.Jcc c leads.0) after s ≡ Ok goal =
    ap (λ (x : Result Bool End). let address : Result ℕ End =
    and_then x (λ known. Ok (if known then goal else after)) in address) (decides (holds c s.flags) true s e) in (
      goal,
      step-goes site.text site.low site.high (insn.Jcc c leads.0) first s s goal sound
          (at-front site.text s.eip first ready.stand.1 whole) leads.1 tt (branch-effect c true s e) is,
      landed site back (site.places.labels label) goal s (label-among site front back start label stands) leads.2,
    )

pub branch-passes : BranchPasses
branch-passes site c rest label s sound ready e =
    let first : List ℕ = ready.stand.0 in
    let bytes : List ℕ = ready.stand.1 in
    let leads = ready.stand.3 in
    let whole : IsAt site.text s.eip (first ++ bytes) = subst (IsAt site.text s.eip) ready.stand.2 ready.here in
    let front = at-front site.text s.eip first bytes whole in
    let after : ℕ = s.eip + length first in
    let goal : ℕ = distant after leads.0 in
    let is : target (insn.Jcc c leads.0) after s ≡ Ok after =
    ap (λ (x : Result Bool End). let address : Result ℕ End =
    and_then x (λ known. Ok (if known then goal else after)) in address) (decides (holds c s.flags) false s e) in
    let behind : StandsFrom site rest after =
    record { bytes = bytes; here = at-back site.text s.eip first bytes whole; stand = ready.stand.4 } in
    let fits : after < 2 ^ 32 = after-fits site.text site.low site.high s.eip first s sound front in (
      after,
      step-goes site.text site.low site.high (insn.Jcc c leads.0) first s s after sound front leads.1 tt
          (branch-effect c false s e) is,
      landed site rest after after s behind (mod-eq_of_lt fits),
    )

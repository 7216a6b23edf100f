-- Outcomes of more turns, and the input that is taken.
use Rattle.std.proofs.Common.{◌≡◌, ◌≢◌, ℕ, suc, ◌+◌, ◌-◌, ◌≤◌, List, [], ◌++◌, length, refl, sym, ap, subst}
use Rattle.std.proofs.Common.{arith, length-append}
use Rattle.std.proofs.lemmas.List.{append-nil}
use Rattle.pcc_base.specs.Outcome.{End, Ended, Goes, Listing, Outcome, Stopped, Trapped}
use Rattle.c_tree.specs.Evaluation.{call_within, first_state, low_byte, outcome_at, outcome_of, source_outcome}
use Rattle.c_tree.specs.Program.{Program}
use Rattle.c_tree.specs.Store.{Held, State, Evaluated, Gives, Ends}
use Rattle.c_eval_laws.specs.Bounds.{ComesAfter, Extends, state_of, with_more}
use Rattle.c_eval_laws.specs.Laws.{EndsStay, GoesOn, OutcomesGoOn, TakenIsThere}
use Rattle.c_eval_laws.proofs.Calls.{calls_extend, calls_keep}

-- `main` with so many turns
abbrev main_after : Program → Listing → List ℕ → ℕ → Evaluated Held
main_after program listing input n =
    call_within (suc n) program listing program.main [] (first_state program input n)

-- with more turns it comes to what it does with fewer
main-extends : (program : Program) (listing : Listing) (input : List ℕ) (n d : ℕ)
    → Extends d (main_after program listing input n) (main_after program listing input (n + d))
main-extends program listing input n d =
    (calls_extend program listing (suc n) d (suc n) (suc (n + d)) (omega arith) (omega arith) program.main []).extends
    (first_state program input n) (omega arith)

-- an outcome that has ended is the same with more turns
same-outcome : (d : ℕ) (r other : Evaluated Held) → Extends d r other → ((outcome_of r).end ≢ Goes)
    → outcome_of other ≡ outcome_of r
same-outcome d (Gives value t) other h ended = ap outcome_of (h.gives value t refl)
same-outcome d (Ends end t) other h ended = ap outcome_of (h.ends end t refl (λ e. absurd (ended e)))

-- a program that has ended has the same outcome with more turns
pub ends_stay : EndsStay
ends_stay program listing input n m le ended =
    let e : n + (m - n) ≡ m = omega (arith, le) in
    subst (λ (k : ℕ). source_outcome program listing input k ≡ source_outcome program listing input n) e
    (same-outcome (m - n) (main_after program listing input n) (main_after program listing input (n + (m - n)))
    (main-extends program listing input n (m - n)) ended)

-- from states that come after one another
state-goes-on : (end end' : End) (s t : State) → ComesAfter s t → GoesOn (outcome_at end s) (outcome_at end' t)
state-goes-on end end' s t h = record {
  visits = h.visits;
  written = h.written;
  taken = let e = h.input.2 in omega (arith, e);
}

-- an outcome goes on from itself
goes-on-same : (o : Outcome) → GoesOn o o
goes-on-same o = record {
  visits = ([], sym (append-nil o.visits));
  written = ([], sym (append-nil o.written));
  taken = omega arith;
}

-- an end goes on from itself, and where the program still goes, what more turns come to goes on from there
end-goes-on : (d : ℕ) (end : End) (t : State) (other : Evaluated Held) → Extends d (Ends end t) other → end ≡ Goes
    → GoesOn (outcome_at end t) (outcome_of other)
end-goes-on d end t (Gives value u) h e = state-goes-on end (Ended (low_byte value)) (with_more d t) u (h.goes t (cc))
end-goes-on d end t (Ends end' u) h e = state-goes-on end end' (with_more d t) u (h.goes t (cc))

-- what more turns come to goes on from what fewer do
outcome-goes-on : (d : ℕ) (r other : Evaluated Held) → Extends d r other → GoesOn (outcome_of r) (outcome_of other)
outcome-goes-on d (Gives value t) other h = rw (h.gives value t refl) (goes-on-same (outcome_of (Gives value t)))
outcome-goes-on d (Ends Goes t) other h = end-goes-on d Goes t other h refl
outcome-goes-on d (Ends (Ended status) t) other h = rw (h.ends _ t refl (λ e. cc)) (goes-on-same _)
outcome-goes-on d (Ends (Trapped trap) t) other h = rw (h.ends _ t refl (λ e. cc)) (goes-on-same _)
outcome-goes-on d (Ends (Stopped cause address) t) other h = rw (h.ends _ t refl (λ e. cc)) (goes-on-same _)

-- more turns go on from fewer
pub outcomes_go_on : OutcomesGoOn
outcomes_go_on program listing input n m le =
    let e : n + (m - n) ≡ m = omega (arith, le) in
    subst (λ (k : ℕ). GoesOn (source_outcome program listing input n) (source_outcome program listing input k)) e
    (outcome-goes-on (m - n) (main_after program listing input n) (main_after program listing input (n + (m - n)))
    (main-extends program listing input n (m - n)))

-- what was taken of the input is no longer than it
few : (input left bytes : List ℕ) (taken : ℕ) → input ≡ bytes ++ left → taken ≡ 0 + length bytes
    → taken ≤ length input
few input left bytes taken e f = omega (arith, ap length e, f, length-append bytes left)

-- an outcome has taken no more than the input has
taken-outcome : (program : Program) (input : List ℕ) (n : ℕ) (r : Evaluated Held)
    → ComesAfter (first_state program input n) (state_of r) → (outcome_of r).taken ≤ length input
taken-outcome program input n (Gives value t) h = few input t.left h.input.0 t.taken h.input.1 h.input.2
taken-outcome program input n (Ends end t) h = few input t.left h.input.0 t.taken h.input.1 h.input.2

-- no program takes more
pub taken_is_there : TakenIsThere
taken_is_there program listing input n = taken-outcome program input n (main_after program listing input n)
    (calls_keep program listing (suc n) program.main [] (first_state program input n)).after

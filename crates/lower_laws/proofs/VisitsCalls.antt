-- Calls of a typed program keep locals in their types, so what its visits show is known.
use Rattle.std.proofs.Common.{◌≡◌, ℕ, zero, suc, Bool, true, false, List, [], ◌∷◌, length, Option, Some, sym, subst}
use Rattle.std.specs.Prelude.{if◌then◌else◌, nat_le, slice_get}
use Rattle.std.specs.List.{All, AllZip}
use Rattle.std.proofs.lemmas.List.Elements.{All-head, All-nil, All-tail, recursion_from_All}
use Rattle.pcc_base.specs.Outcome.{AreKnown, Listing}
use Rattle.pcc_base.proofs.Lists.{all-at}
use Rattle.c_tree.specs.Evaluation.{Calls, Left, call_over, call_within, enter, execute_from, first_activation}
use Rattle.c_tree.specs.Evaluation.{most_active, older, outcome_of, run_function, type_at}
use Rattle.c_tree.specs.Evaluation as evaluation
use Rattle.c_tree.specs.Program.{Function, Local, Program}
use Rattle.c_tree.specs.Store.{Activation, Evaluated, Gives, Ends, Held, and_then, first_values}
use Rattle.c_tree.specs.WellTyped.{IsResult, IsTypedFunction, WellTyped, statements_numbers}
use Rattle.lower_lines.proofs.Types.{some-and}
use Rattle.lower_laws.specs.CallsLaws.{StatementsAreOwn}
use Rattle.lower_lines.specs.Shown.{ListsLocals, locals_at}
use Rattle.lower_laws.specs.VisitsLaws.{VisitsAreKnown}
use Rattle.lower_laws.proofs.Values.{HasKind, IsLeftSo, IsSafe, in-kind, left-kind, zero-kind}
use Rattle.lower_laws.proofs.Knowing.{Comes, HoldsLocals, Knows, ends-knows, none-known, turn-knows}
use Rattle.lower_laws.proofs.Trees.{CallsKnow, statements}

-- the locals of a call that begins
first-kinds : (ls : List Local) (xs : List Held) → All IsSafe xs
    → AllZip (λ l x. HasKind l.of x) ls (first_values ls xs)
first-kinds [] xs h = tt
first-kinds (l ∷ ls) [] h = (zero-kind l.of, first-kinds ls [] h)
first-kinds (l ∷ ls) (x ∷ xs) h =
    (in-kind l.of x (All-head IsSafe x xs h), first-kinds ls xs (All-tail IsSafe x xs h))

older-holds : (locals : List Local) (calls : List (List Local)) (active : List Activation)
    → AllZip HoldsLocals (locals ∷ calls) active → AllZip HoldsLocals calls (older active)
older-holds locals calls [] h = absurd h
older-holds locals calls (a ∷ active) h = h.1

-- the call is over
over-comes : (calls : List (List Local)) (f : Function) (r : Evaluated Left) → IsResult f.result
    → Comes (f.locals ∷ calls) (IsLeftSo f.result) r → Comes calls (HasKind f.result) (and_then r call_over)
over-comes calls f (Gives left t) result h =
    (left-kind f.result left result h.0, (older-holds f.locals calls t.active h.1.0, h.1.1))
over-comes calls f (Ends end t) result h = h

either-comes : (calls : List (List Local)) (K : Held → Type 0) (test : Bool) (r q : Evaluated Held) → Comes calls K r
    → Comes calls K q → Comes calls K (if test then r else q)
either-comes calls K true r q h h' = h
either-comes calls K false r q h h' = h'

module _ (p : Program) (typed : WellTyped p) (listing : Listing) (lists : ListsLocals p listing)
    (owns : StatementsAreOwn) where
  -- a function is entered
  enters : (calls : Calls) (bound : ℕ) (active : List (List Local)) (k : ℕ) (f : Function) (arguments : List Held)
      → CallsKnow p calls → slice_get p.functions k ≡ Some f → All IsSafe arguments
      → Knows active (HasKind f.result) (run_function calls bound listing (Some f) arguments)
  enters calls bound active k f arguments known there safe =
      let function : IsTypedFunction p f =
      all-at (IsTypedFunction p) p.functions k f (recursion_from_All (IsTypedFunction p) p.functions typed.functions)
      there in
      let own = recursion_from_All (λ n. locals_at p.functions n ≡ f.locals) (statements_numbers f.body)
      (owns p typed.numbered k f there) in
      let body = statements p f calls active known listing lists bound false false f.body 0 function.body own in
      let turn : Knows active (HasKind f.result) _ =
      turn-knows (record {
        from = λ s h. over-comes active f _ function.result
            (body.from (record s { active = first_activation f arguments ∷ s.active })
            ((first-kinds f.locals arguments safe, h.0), h.1));
      }) in
      record {
        from = λ s h. either-comes active (HasKind f.result) (nat_le most_active (length s.active)) _ _ h.1
            (turn.from s h);
      }

  calls-know : (bound : ℕ) → CallsKnow p (call_within bound p listing)
  calls-know zero active k f arguments there safe = ends-knows
  calls-know (suc bound) active k f arguments there safe =
      subst (λ (o : Option Function). Knows active (HasKind f.result)
      (run_function (call_within bound p listing) (suc bound) listing o arguments)) (sym there)
      (enters (call_within bound p listing) (suc bound) active k f arguments (calls-know bound) there safe)

outcome-known : (K : Held → Type 0) (r : Evaluated Held) → Comes [] K r → AreKnown (outcome_of r).visits
outcome-known K (Gives value s) h = h.1.1
outcome-known K (Ends end s) h = h

pub visits-known : StatementsAreOwn → VisitsAreKnown
visits-known owns p listing typed lists input n =
    let (f, there, main) = some-and (slice_get p.functions p.main) _ typed.main in
    outcome-known (HasKind f.result) _
    ((calls-know p typed listing lists owns (suc n) [] p.main f [] there (All-nil IsSafe)).from
    (evaluation.first_state p input n) (tt, none-known))

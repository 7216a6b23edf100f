use Rattle.std.proofs.Common.{ℕ, suc, ◌≡◌, ◌≤◌, ◌+◌, Some, length, inl, inr, get_or, sym, subst, arith, ◌∙◌}
use Rattle.std.specs.List.{slice_get}
use Rattle.std.proofs.lemmas.Bool.{cases_eq}
use Rattle.std.proofs.lemmas.Option.{same_Some, slice_get_within}
use Rattle.flow_liveness.specs.Search.{IsPassed, unmarked}
use Rattle.flow_liveness.proofs.Adding.{has-item, has-read}
use Rattle.flow_liveness.proofs.Placed.{placed-within}
use Rattle.flow_liveness.proofs.Searching.{next-placed, noted-leads, passed-stays, passes-on, room, search-done}
use Rattle.flow_liveness.proofs.search.step_back.Goals as goal

pub returns-then-not-is_live_before-clause-search : goal.returns-then-not-is_live_before-clause-search
returns-then-not-is_live_before-clause-search c =
    search-done c.args.graph.now c.args.var c.args.place c.index.result.now.0 c.index.result.now.1 _ _ _ _
    c.requires.search (has-read c.args.search.now.nexts.items c.args.place c.index.result.now c.requires.in_range
    c.index.ensures) (inl c.if-not-is_live_before.ensures)

pub at-before-items-requires : goal.at-before-items-requires
at-before-items-requires c =
    rw c.requires.index.points (placed-within c.args.graph.now c.is_flow.ensures.0 c.is_flow.ensures.1
    c.index.result.now.0 (next-placed c.args.graph.now c.args.var c.index.result.now.0 c.index.result.now.1
    (c.requires.search.sound c.args.place c.index.result.now.0 c.index.result.now.1
    (has-read c.args.search.now.nexts.items c.args.place c.index.result.now c.requires.in_range c.index.ensures))))

pub loop-before-init : goal.loop-before-init
loop-before-init c = record {
  search = c.requires.search;
  at_head = has-read c.args.search.now.nexts.items c.args.place c.index.result.now c.requires.in_range c.index.ensures;
  passed = λ i p l e. absurd (omega arith);
  fewer = omega arith;
}

pub pass-requires-clause-used : goal.pass-requires-clause-used
pass-requires-clause-used c =
    let items = c.at-before-items.result.now in
    let p = get_or items c.loop-before.before-index 0 in
    let leads = noted-leads c.args.graph.now c.args.predecessors.now items c.index.result.now.0
    c.loop-before.before-index
    c.requires.index c.at-before-items.ensures c.loop-before-test.true in
    rw c.loop-before.invariant.search.used_points (placed-within c.args.graph.now c.is_flow.ensures.0
    c.is_flow.ensures.1 p leads.0)

pub pass-requires-clause-passed : goal.pass-requires-clause-passed
pass-requires-clause-passed c =
    let items = c.at-before-items.result.now in
    let p = get_or items c.loop-before.before-index 0 in
    let leads = noted-leads c.args.graph.now c.args.predecessors.now items c.index.result.now.0
    c.loop-before.before-index
    c.requires.index c.at-before-items.ensures c.loop-before-test.true in
    rw c.loop-before.invariant.search.passed_points (placed-within c.args.graph.now c.is_flow.ensures.0
    c.is_flow.ensures.1 p leads.0)

pub pass-requires-clause-few : goal.pass-requires-clause-few
pass-requires-clause-few c =
    let items = c.at-before-items.result.now in
    let p = get_or items c.loop-before.before-index 0 in
    let leads = noted-leads c.args.graph.now c.args.predecessors.now items c.index.result.now.0
    c.loop-before.before-index
    c.requires.index c.at-before-items.ensures c.loop-before-test.true in
    room c.args.graph.now c.args.var c.args.place c.index.result.now.1 p c.index.result.now.0 _ _ _ _
    c.loop-before.invariant.search c.loop-before.invariant.at_head c.if-not-is_live_before.ensures leads
    (placed-within c.args.graph.now c.is_flow.ensures.0 c.is_flow.ensures.1 p leads.0)
    c.is_flow.ensures.1.few_points

pub loop-before-preserved : goal.loop-before-preserved
loop-before-preserved c =
    let items = c.at-before-items.result.now in
    let p = get_or items c.loop-before.before-index 0 in
    let leads = noted-leads c.args.graph.now c.args.predecessors.now items c.index.result.now.0
    c.loop-before.before-index
    c.requires.index c.at-before-items.ensures c.loop-before-test.true in
    let onward = passes-on c.args.graph.now c.args.var c.args.place c.index.result.now.1 p c.index.result.now.0 _ _ _ _
    c.loop-before.invariant.search c.loop-before.invariant.at_head c.if-not-is_live_before.ensures leads
    (placed-within c.args.graph.now c.is_flow.ensures.0 c.is_flow.ensures.1 p leads.0) _ _ _ _
    c.in_ok-pass.ensures in
    let fewer : length c.pass.new.self.nexts.items + unmarked c.args.var c.pass.new.self.passed
    ≤ length c.loop-before.search.nexts.items + unmarked c.args.var c.loop-before.search.passed = onward.fewer in
    record {
      search = onward.search;
      at_head = onward.grows.nexts_stay c.args.place (c.index.result.now.0, c.index.result.now.1)
          c.loop-before.invariant.at_head;
      passed = λ i q l e. elim (cases_eq i c.loop-before.before-index) [
        | inl same ↦
            let equal : p ≡ q = same_Some p q (sym (has-item items c.loop-before.before-index 0 c.loop-before-test.true)
            ∙ subst (λ (j : ℕ). slice_get items j ≡ Some q) same e) in
            subst (λ (x : ℕ). IsPassed c.pass.new.self.nexts.items c.pass.new.self.after.items
            (suc c.index.result.now.1) x) equal onward.here
        | inr d ↦ passed-stays _ _ _ _ onward.grows (suc c.index.result.now.1) q
            (c.loop-before.invariant.passed i q (omega arith) e)
      ];
      fewer = let before = c.loop-before.invariant.fewer in omega arith;
    }

pub returns-clause-search : goal.returns-clause-search
returns-clause-search c =
    search-done c.args.graph.now c.args.var c.args.place c.index.result.now.0 c.index.result.now.1 _ _ _ _
    c.loop-before.invariant.search c.loop-before.invariant.at_head (inr (λ before leads.
    let (i, e) = (c.requires.index.leads before c.index.result.now.0).1 leads in
    let at : slice_get c.at-before-items.result.now i ≡ Some before =
    rw c.at-before-items.ensures e in
    c.loop-before.invariant.passed i before
    (let within = slice_get_within c.at-before-items.result.now i before at in omega arith) at))

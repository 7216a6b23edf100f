use Rattle.std.proofs.Common.{◌≡◌, ◌∙◌, List, ap, map, rules, subst}
use Rattle.std.specs.List.Sorted.{IsPermutation}
use Rattle.std.proofs.lemmas.Fn.{always_returns_same}
use Rattle.std.proofs.lemmas.Result.{IfOk-weaker}
use Rattle.puzzle_solver.specs.declared.order.Candidate.{Candidate}
use Rattle.puzzle_solver.specs.Orders.{sort_key}
use Rattle.puzzle_solver.proofs.Orders.{in-order}
use Rattle.puzzle_solver.proofs.order.spill_order.Goals as goal

pub returns : goal.returns
returns c =
    let sorted : List Candidate = c.sort_unstable_by_key.new.self.items in
    let read : c.deref.result.now ≡ sorted = c.deref.ensures.value in
    let copied : c.in_ok-sorted.sorted.items ≡ c.args.candidates.now = search rules in
    let permuted : IsPermutation c.args.candidates.now sorted =
    subst (λ (xs : List Candidate). IsPermutation xs sorted) copied c.sort_unstable_by_key.ensures.permutation in
    let ordered = in-order sorted (c.sort_unstable_by_key.ensures.sorted sort_key
    (always_returns_same _ _ _ (λ a r q k. search rules))) in
    IfOk-weaker c.variables_of.result _ _ (λ order is. record {
      sorted = sorted;
      permuted = permuted;
      ordered = ordered;
      variables = is ∙ ap (map (λ (x : Candidate). x.variable)) read;
    }) c.variables_of.ensures

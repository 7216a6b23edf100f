-- The remainder is congruent to the number, and so is the remainder less the modulus.
use Rattle.std.proofs.Common.{pos, ◌*ℤ◌, ◌≡◌, w64, ◌-ℤ◌, to_z, of_z, arith, ◌∙◌, sym, subst}
use Rattle.std.specs.Int.{int_rem_euclid}
use Rattle.std.proofs.lemmas.Int.{ints}
use Rattle.pcc_base.specs.Wrapping.{IsCongruent}
use Rattle.pcc_base.proofs.Congruence.{low_congruent, less_congruent}
use Rattle.pcc_base.proofs.wrapping.wrapped.Goals as goal

pub returns-then-low-half-clause-congruent : goal.returns-then-low-half-clause-congruent
returns-then-low-half-clause-congruent c =
    let modulus : to_z w64 (of_z w64 (pos 2 *ℤ to_z w64 (of_z w64 c.args.half))) ≡ pos 2 *ℤ c.args.half =
    omega (arith, ints) in
    let number : to_z w64 (of_z w64 c.args.n) ≡ c.args.n = omega (arith, ints) in
    let low : to_z w64 (of_z w64 c.rem_euclid-low.result) ≡ c.rem_euclid-low.result = omega (arith, ints) in
    low_congruent c.args.n (pos 2 *ℤ c.args.half) _ (omega (arith, ints))
    (low ∙ c.rem_euclid-low.ensures.value ∙ (λ i. int_rem_euclid (number i) (modulus i)))

pub returns-else-low-half-clause-congruent : goal.returns-else-low-half-clause-congruent
returns-else-low-half-clause-congruent c =
    let modulus : to_z w64 (of_z w64 (pos 2 *ℤ to_z w64 (of_z w64 c.args.half))) ≡ pos 2 *ℤ c.args.half =
    omega (arith, ints) in
    let number : to_z w64 (of_z w64 c.args.n) ≡ c.args.n = omega (arith, ints) in
    let shown : to_z w64 (of_z w64 (to_z w64 (of_z w64 c.rem_euclid-low.result) -ℤ to_z w64
    (of_z w64 (pos 2 *ℤ to_z w64 (of_z w64 c.args.half))))) ≡ c.rem_euclid-low.result -ℤ (pos 2 *ℤ c.args.half) =
    omega (arith, ints) in
    let low : IsCongruent (pos 2 *ℤ c.args.half) c.args.n c.rem_euclid-low.result =
    low_congruent c.args.n (pos 2 *ℤ c.args.half) _ (omega (arith, ints))
    (c.rem_euclid-low.ensures.value ∙ (λ i. int_rem_euclid (number i) (modulus i))) in
    subst (λ x. IsCongruent (pos 2 *ℤ c.args.half) c.args.n x) (sym shown)
    (less_congruent c.args.n (pos 2 *ℤ c.args.half) _ low)

pub overflow_sub-result : goal.overflow_sub-result
overflow_sub-result c = omega (arith, ints)

pub returns-else-low-half-clause-above : goal.returns-else-low-half-clause-above
returns-else-low-half-clause-above c = omega (arith, ints)

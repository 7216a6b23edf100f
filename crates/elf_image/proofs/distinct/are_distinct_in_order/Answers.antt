-- One that begins before the end of what came before overlaps it; the others go on.
use Rattle.std.proofs.Common.{◌≡◌, ◌↔◌, List, ◌∷◌, AllPairs, ℕ, subst, sym, refl, arith, true≢false}
use Rattle.elf_image.specs.declared.distinct.Extent.{Extent}
use Rattle.elf_image.specs.MemoryExtents.{AreDistinct}
use Rattle.elf_image.proofs.MemoryExtents.{Follow, InOrder, nothing-follows, order-rest, step-empty, step-overlap}
use Rattle.elf_image.proofs.MemoryExtents.{step-some}
use Rattle.elf_image.proofs.distinct.are_distinct_in_order.Goals as goal

pub returns-then-first-end : goal.returns-then-first-end
returns-then-first-end c =
    let first = c.in-Some.first.now in
    let others = c.in-Some.others.now in
    let Told : List Extent → Type 0 = λ xs. AllPairs AreDistinct c.args.extents.now ↔ Follow c.loop-first.end xs in
    let told : Told (first ∷ others) = subst Told c.in-Some.ensures.cases.0 c.loop-first.invariant.0 in (
      λ e. absurd (true≢false (sym e)),
      λ all. absurd (step-overlap c.loop-first.end first others c.if-first-gt0.true c.if-first-end.true (told.0 all)),
    )

pub loop-first-preserved-else-first-end : goal.loop-first-preserved-else-first-end
loop-first-preserved-else-first-end c =
    let first = c.in-Some.first.now in
    let others = c.in-Some.others.now in
    let Told : List Extent → Type 0 = λ xs. AllPairs AreDistinct c.args.extents.now ↔ Follow c.loop-first.end xs in
    let rest : c.loop-first.rest.now ≡ first ∷ others = c.in-Some.ensures.cases.0 in
    let told : Told (first ∷ others) = subst Told rest c.loop-first.invariant.0 in
    let ordered : InOrder (first ∷ others) = subst InOrder rest c.loop-first.invariant.1 in
    let step = step-some c.loop-first.end first others ordered c.if-first-gt0.true
    (omega (arith, c.if-first-end.false)) in
    let Behind : ℕ → Type 0 = λ end. AllPairs AreDistinct c.args.extents.now ↔ Follow end others in (
      subst Behind (sym c.end-end.ensures) (λ all. step.0 (told.0 all), λ follow. told.1 (step.1 follow)),
      order-rest first others ordered,
    )

pub loop-first-preserved : goal.loop-first-preserved
loop-first-preserved c =
    let first = c.in-Some.first.now in
    let others = c.in-Some.others.now in
    let Told : List Extent → Type 0 = λ xs. AllPairs AreDistinct c.args.extents.now ↔ Follow c.loop-first.end xs in
    let rest : c.loop-first.rest.now ≡ first ∷ others = c.in-Some.ensures.cases.0 in
    let told : Told (first ∷ others) = subst Told rest c.loop-first.invariant.0 in
    let ordered : InOrder (first ∷ others) = subst InOrder rest c.loop-first.invariant.1 in
    let step = step-empty c.loop-first.end first others (omega (arith, c.if-first-gt0.false)) in
    ((λ all. step.0 (told.0 all), λ follow. told.1 (step.1 follow)), order-rest first others ordered)

pub returns : goal.returns
returns c = (
  λ e. c.loop-first.invariant.0.1 (nothing-follows c.loop-first.end c.loop-first.rest.now c.in_default.ensures.cases),
  λ all. refl,
)

-- The segments so far and the next one have too much.
use Rattle.std.proofs.Common.{◌≡◌, ℕ, List, ap, arith, sum_by, sym, take, take_all, refl, true≢false}
use Rattle.std.proofs.lemmas.List.Sums.{sum_by_more_le}
use Rattle.elf_image.specs.declared.loaded.Segment.{Segment}
use Rattle.elf_image.specs.Segments.{piece_of}
use Rattle.elf_image.proofs.Apart.{sizes}
use Rattle.elf_image.proofs.loadable.are_few.Goals as goal

pub returns-in-None : goal.returns-in-None
returns-in-None c =
    let segments = c.args.segments.now in
    let size : Segment → ℕ = λ segment. segment.size in
    let more = sum_by_more_le size segments c.loop-segment.segment-index c.segment-item.result
    c.loop-segment-test.true in
    let item = ap size c.segment-item.is in
    let same = sizes (λ piece. piece.size) piece_of segments in (
      λ e. absurd (true≢false (sym e)),
      λ few.
          absurd (c.in-None.ensures (omega (arith, more, item, same, few, c.loop-segment.invariant))),
    )

pub returns : goal.returns
returns c =
    let segments = c.args.segments.now in
    let whole : take c.loop-segment.segment-index segments ≡ segments =
    take_all c.loop-segment.segment-index segments c.loop-segment-test.false in
    let sum = ap (λ (xs : List Segment). sum_by (λ segment. segment.size) xs) whole in
    let same = sizes (λ piece. piece.size) piece_of segments in
    (λ e. omega (arith, sum, same, c.loop-segment.invariant), λ few. refl)

use Rattle.std.proofs.Common.{◌≡◌, ◌++◌, drop, map}
use Rattle.std.specs.List.{flat_map}
use Rattle.map_file.specs.Views.{block_of}
use Rattle.map_file.proofs.points.have_distinct_numbers.Given as goal

-- the numbers so far and those of the other blocks are all
abbrev pub invariant-loop-block : goal.invariant-loop-block
invariant-loop-block l =
    l.numbers.items ++ flat_map (λ b. map (λ p. p.number) (block_of b)) (drop l.block-index l.function.blocks.items)
    ≡ flat_map (λ b. map (λ p. p.number) (block_of b)) l.function.blocks.items

-- The comparisons from here on.
use Rattle.std.proofs.Common.{◌-◌, ◌<◌, drop, length}
use Rattle.lower.proofs.Resting.{Rests}
use Rattle.lower_lines.specs.Statements.{comparing}
use Rattle.lower_builder.specs.Sites.{context_of}
use Rattle.lower.proofs.switches.compare_some.Given as goal

abbrev pub invariant-cases : goal.invariant-cases
invariant-cases l = record {
  there : l.place < length l.cases;
  rests : Rests l.lines 0 (λ k. comparing (context_of l.site) l.x l.otherwise (drop l.place l.cases) l.block)
      l.initial.lines 0 (comparing (context_of l.site) l.x l.otherwise l.cases l.first);
}

abbrev pub decreases-cases : goal.decreases-cases
decreases-cases l = length l.cases - l.place

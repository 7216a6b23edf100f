use Rattle.std.proofs.Common.{◌-◌, ◌≡◌, ◌++◌, drop, length}
use Rattle.lower_lines.specs.Statements.{cases_of}
use Rattle.lower.proofs.labels.cases_of.Given as goal

abbrev pub invariant-labels : goal.invariant-labels
invariant-labels l = l.cases.items ++ cases_of l.first l.labels (drop l.place l.labels)
    ≡ cases_of l.first l.labels l.labels

abbrev pub decreases-labels : goal.decreases-labels
decreases-labels l = length l.labels - l.place

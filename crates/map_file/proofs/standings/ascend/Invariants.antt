use Rattle.std.proofs.Common.{drop, map}
use Rattle.map_text.specs.Entries.{standings_of}
use Rattle.map_file.proofs.Ascending.{Ascends}
use Rattle.map_file.proofs.standings.ascend.Given as goal

-- the variables ascend exactly where those that are left follow
abbrev pub invariant-loop-variable : goal.invariant-loop-variable
invariant-loop-variable l =
    Ascends (map (λ s. s.variable) (standings_of l.entries)) l.least
    (map (λ s. s.variable) (standings_of (drop l.variable-index l.entries)))

use Rattle.std.proofs.Common.{◌≡◌, ◌++◌, drop, map}
use Rattle.ia32_emit.specs.Locations.{place_of}
use Rattle.ia32_select.specs.Sites.{before_at}
use Rattle.ia32_select.proofs.site.all_before.Given as goal

abbrev pub invariant-loop-variable : goal.invariant-loop-variable
invariant-loop-variable l =
    map place_of l.locations.items ++ map (before_at l.site l.point) (drop l.variable-index l.variables)
    ≡ map (before_at l.site l.point) l.variables

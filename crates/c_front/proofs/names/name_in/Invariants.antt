-- The name of this number among all definitions is that of the number that is left among those behind.
use Rattle.std.proofs.Common.{◌≡◌, ◌++◌, ℕ, List, drop, filter_map, map, slice_get}
use Rattle.c_syntax.specs.Statements.{external_of}
use Rattle.c_check_laws.specs.Names.{defined_name}
use Rattle.c_front.proofs.names.name_in.Given as goal

abbrev pub invariant-loop-external : goal.invariant-loop-external
invariant-loop-external l = (others : List (List ℕ))
    → slice_get (filter_map defined_name (map external_of l.externals) ++ others) l.fn.left
    ≡ slice_get (filter_map defined_name (map external_of (drop l.external-index l.externals)) ++ others) l.left

-- Statements of which each part is judged, one behind the other.
use Rattle.std.specs.Prelude.{List, ◌++◌}
use Rattle.c_tree.specs.Program.{Statement}
use Rattle.c_typing.specs.Checked.{Checked, both, fits}

-- more statements behind others
abbrev pub joined : Checked (List Statement) → Checked (List Statement) → Checked (List Statement)
joined front part = both front part (λ xs ys. fits (xs ++ ys))

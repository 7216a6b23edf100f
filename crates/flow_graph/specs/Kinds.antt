-- Which ops start a turn, and which mark a statement.
use Rattle.std.specs.Prelude.{ℕ, Bool, true, false, Option, Some, None}
use Rattle.flow_graph.specs.declared.op.Op.{Op}
use Rattle.flow_graph.specs.Shapes.{About, NothingElse, TheNumber, TheWord, TheObject, TheFunction, TheStatement}
use Rattle.flow_graph.specs.Shapes.{TheTurn, shape}

abbrev pub about_turn : About → Bool
about_turn NothingElse = false
about_turn (TheNumber n) = false
about_turn (TheWord k) = false
about_turn (TheObject k) = false
about_turn (TheFunction f) = false
about_turn (TheStatement s) = false
about_turn TheTurn = true

-- the op starts a turn
abbrev pub is_turn : Op → Bool
is_turn op = about_turn (shape op).about

abbrev pub statement_of : About → Option ℕ
statement_of NothingElse = None
statement_of (TheNumber n) = None
statement_of (TheWord k) = None
statement_of (TheObject k) = None
statement_of (TheFunction f) = None
statement_of (TheStatement s) = Some s
statement_of TheTurn = None

-- the statement that the op marks
abbrev pub marked : Op → Option ℕ
marked op = statement_of (shape op).about

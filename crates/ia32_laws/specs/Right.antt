-- That the code of a program is right, over any placements that support its graphs.
use Rattle.ia32_rows.specs.Follows.{FollowsAll, IsRightCode}
use Rattle.ia32_rows.specs.Placements.{Code}
use Rattle.ia32_laws.specs.StandingLaws.{IsSelected}

-- From every state that shows one of the program the machine follows the program's step, at every op.
abbrev pub ProgramsFollow : Type 0
ProgramsFollow = (code : Code) → IsSelected code → FollowsAll code

-- So selected code does what its program does: from the image's first state the machine comes to one that shows the
-- program's first state, and its runs have the program's outcomes.
abbrev pub ProgramsAreRight : Type 0
ProgramsAreRight = (code : Code) → IsSelected code → IsRightCode code

use Rattle.map_lines.proofs.Between.{none-between}
use Rattle.map_lines.proofs.Found.{functions-told}
use Rattle.map_lines.proofs.Frames.{frames-told}
use Rattle.map_lines.proofs.ToldHomes.{tells}
use Rattle.map_lines.proofs.visits_laws.frames_are_found.Goals as goal

pub returns-clause-between : goal.returns-clause-between
returns-clause-between c = none-between

pub returns-clause-functions : goal.returns-clause-functions
returns-clause-functions c = λ program code m w younger address has below waits returns.
    functions-told program code m w younger address (tells program code m has) below waits returns

pub returns-clause-frames : goal.returns-clause-frames
returns-clause-frames c = λ program code m mark input g s has state shown same.
    frames-told program code m mark input g s (tells program code m has) state shown same

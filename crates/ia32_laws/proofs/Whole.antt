-- Selected code does what its program does.
use Rattle.ia32_rows.proofs.Along.{whole_runs}
use Rattle.ia32_laws.proofs.StartsReady.{objects-start}
use Rattle.ia32_laws.specs.Right.{ProgramsAreRight}
use Rattle.ia32_laws.proofs.Following.{programs-follow}

pub programs-are-right : ProgramsAreRight
programs-are-right code h =
    let starts = objects-start code h in
    let follows = programs-follow code h in
    record { starts = starts; follows = follows; runs = whole_runs code (h.supported).program starts follows }

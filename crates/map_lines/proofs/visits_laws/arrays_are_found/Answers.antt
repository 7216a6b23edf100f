use Rattle.map_lines.proofs.Arrays.{arrays-told}
use Rattle.map_lines.proofs.ToldHomes.{tells}
use Rattle.map_lines.proofs.visits_laws.arrays_are_found.Goals as goal

pub returns : goal.returns
returns c = λ program code m input g s array word has state shown at.
    arrays-told program code m input g s array word (tells program code m has) state shown at

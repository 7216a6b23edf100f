use Rattle.ia32_rows.proofs.Worked.{none-above, none-beyond-arrays, none-beyond-objects}
use Rattle.ia32_rows.proofs.shows.arrays_are_there.Goals as goal

pub returns : goal.returns
returns c = record { above = none-above; arrays = none-beyond-arrays; objects = none-beyond-objects }

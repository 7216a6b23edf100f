use Rattle.std.proofs.Common.{◌∙◌, sym}
use Rattle.map_text.specs.Entries.{standing_of}
use Rattle.map_file.specs.Views.{function_of}
use Rattle.map_file.proofs.Variables.{stands_nowhere, stands_there}
use Rattle.map_file.proofs.standings.is_standing.Goals as goal

pub returns-in-Some : goal.returns-in-Some
returns-in-Some c =
    stands_there (function_of c.args.function.now).variables (standing_of c.args.entry) c.in-Some.width c.takes.result
    (sym c.in-Some.is ∙ c.width.ensures) c.takes.ensures

pub returns-in-None : goal.returns-in-None
returns-in-None c =
    stands_nowhere (function_of c.args.function.now).variables (standing_of c.args.entry)
    (sym c.in-None.is ∙ c.width.ensures)

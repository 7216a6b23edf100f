use Rattle.std.proofs.Common.{map, sym, ◌∙◌}
use Rattle.c_check_expressions.specs.Notes.{note_of}
use Rattle.c_check.proofs.Outlining.{outlined}
use Rattle.c_check.proofs.outlines.outlined_or_missing.Goals as goal

pub returns-in_ok-outlined-in-None-clause-outline
    : goal.returns-in_ok-outlined-in-None-clause-outline
returns-in_ok-outlined-in-None-clause-outline c =
    outlined (map note_of c.args.notes.now) c.args.end c.in_ok-outlined-in-None.field-0.outline
    (sym c.unfinished.ensures ∙ c.in-None.is) c.in_ok-outlined-in-None.ensures.main
    c.in_ok-outlined-in-None.ensures.objects

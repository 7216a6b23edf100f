use Rattle.std.proofs.Common.{map}
use Rattle.c_tree.specs.Erased.{local_of}
use Rattle.map_text.specs.Words.{line_text}
use Rattle.map_lines.proofs.HeadTexts.{variables-put}
use Rattle.map_lines.proofs.printed_heads.print_variables.Goals as goal

pub returns : goal.returns
returns c =
    variables-put line_text _ _ _ (map local_of c.args.locals.now) c.args.graph.now.widths _
    c.in_ok-first.ensures.many c.in_ok-first.ensures.lines c.in_ok-print_temporaries.ensures

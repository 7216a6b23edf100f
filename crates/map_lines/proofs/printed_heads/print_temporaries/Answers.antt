use Rattle.map_text.specs.Words.{line_text}
use Rattle.map_lines.proofs.HeadTexts.{temporaries-put}
use Rattle.map_lines.proofs.printed_heads.print_temporaries.Goals as goal

pub loop-number-preserved : goal.loop-number-preserved
loop-number-preserved c =
    temporaries-put line_text _ c.loop-number.out.items _ c.args.graph.now.widths c.loop-number.number c.width.result
    c.width.ensures c.loop-number.invariant c.in_ok-push_variable.ensures

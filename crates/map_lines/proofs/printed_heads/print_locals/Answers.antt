use Rattle.std.proofs.Common.{◌++◌, length, ap, ◌∙◌, arith}
use Rattle.std.specs.List.{flat_map}
use Rattle.c_tree.specs.declared.program.Local.{Local}
use Rattle.c_tree.specs.Erased.{local_of}
use Rattle.lower_lines.specs.Shown.{type_widths}
use Rattle.map_text.specs.Words.{line_text, numbered, variable_lines}
use Rattle.map_lines.specs.Parts.{local_variables}
use Rattle.map_lines.proofs.HeadTexts.{locals-put, widths-next}
use Rattle.map_lines.proofs.printed_heads.print_locals.Goals as goal

pub loop-local-preserved : goal.loop-local-preserved
loop-local-preserved c =
    let ls = c.args.locals.now in
    let i = c.loop-local.local-index in
    let x = c.local-item.result in
    let old = c.loop-local.out.items in
    let n = c.loop-local.number in
    let h = c.loop-local-test.true in
    let widths = ap (λ (l : Local). length (type_widths l.of)) c.local-item.is in
    record {
      lines = locals-put line_text _ old _ ls i n _ x h (omega (arith, c.variables_in-number.ensures, widths))
          c.loop-local.invariant.lines
          (c.in_ok-print_local.ensures
          ∙ ap (λ (l : Local). old ++ flat_map line_text (numbered variable_lines n (local_variables (local_of l))))
          c.local-item.is);
      many = omega (arith, c.loop-local.invariant.many, c.variables_in-number.ensures, widths, widths-next ls i x h);
    }

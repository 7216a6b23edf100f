use Rattle.std.proofs.Common.{◌++◌, ℕ, List, drop, length, map, ap, ◌∙◌}
use Rattle.std.specs.Prelude.{slice_index}
use Rattle.std.specs.List.{flat_map}
use Rattle.pcc_base.specs.declared.run.Width.{Width}
use Rattle.c_tree.specs.declared.program.Local.{Local}
use Rattle.c_tree.specs.declared.program.LocalArray.{LocalArray}
use Rattle.c_tree.specs.Erased.{array_of, function_of, local_of}
use Rattle.flow_graph.specs.Graphs.{Flow}
use Rattle.lower_lines.specs.Shown.{local_widths}
use Rattle.ia32_placements.specs.Placed.{arrays_in}
use Rattle.map_text.specs.Words.{array_lines, line_text, numbered, variable_lines}
use Rattle.map_lines.specs.Parts.{arrays_at, local_variables, temporary}
use Rattle.map_lines.specs.Printing.{graph_of, home_of}
use Rattle.map_lines.proofs.FunctionTexts.{function-put}
use Rattle.map_lines.proofs.printed.print_function.Goals as goal

pub returns : goal.returns
returns c =
    let home = c.args.home.now in
    let address : ℕ → ℕ = λ q. slice_index c.args.addresses.now q in
    let variables : List Local → List Width → List ℕ = λ ls widths.
    c.print_arrays.new.out.items ++ flat_map line_text (numbered variable_lines 0
    (flat_map local_variables (map local_of ls)
    ++ map temporary (drop (length (local_widths (map local_of ls))) widths))) in
    function-put line_text c.args.number c.frame.result (function_of c.args.function.now) (graph_of home)
    (home_of home) address c.args.out.now.items c.push_function.new.out.items c.print_arrays.new.out.items
    c.print_variables.new.out.items _ c.frame.ensures c.in_ok-push_function.ensures
    (c.in_ok-print_arrays.ensures
    ∙ ap (λ (els : List LocalArray). c.push_function.new.out.items ++ flat_map line_text (numbered array_lines 0
    (arrays_at (map array_of els) (arrays_in (graph_of home) home.places)))) c.as_slice.ensures.value)
    (c.in_ok-print_variables.ensures
    ∙ ap (λ (ls : List Local). variables ls c.graph.result.now.widths) c.as_slice-2.ensures.value
    ∙ ap (λ (flow : Flow). variables c.args.function.now.locals.items flow.widths) c.graph.ensures)
    c.in_ok-print_blocks.ensures

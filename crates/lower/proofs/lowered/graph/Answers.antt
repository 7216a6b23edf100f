use Rattle.std.proofs.Common.{rules, ◌≡◌, ◌∙◌}
use Rattle.c_tree.specs.Erased.{function_of, program_of}
use Rattle.lower_builder.specs.Sites.{context_of}
use Rattle.lower.proofs.Closed.{arrays-of, closed-of, fit-of}
use Rattle.lower.proofs.lowered.graph.Goals as goal

pub graph-requires-clause-arrays : goal.graph-requires-clause-arrays
graph-requires-clause-arrays c =
    let arrays : c.as_slice-2.result.now ≡ c.in_ok-arrays.arrays.items = search rules in
    arrays-of (program_of c.args.program.now) c.requires.typed c.requires.memory c.requires.there.0
    (function_of c.args.function.now) c.requires.there.1 (arrays ∙ c.in_ok-arrays.ensures)

pub graph-requires-clause-closed : goal.graph-requires-clause-closed
graph-requires-clause-closed c =
    closed-of (program_of c.args.program.now) c.requires.typed c.requires.memory c.requires.there.0
    (function_of c.args.function.now) c.requires.there.1 (context_of c.in_ok-site.site) c.in_ok-site.ensures
    c.in_ok-lines.ensures.lines (c.next-blocks.ensures ∙ c.in_ok-lines.ensures.blocks)

pub graph-requires-clause-fit : goal.graph-requires-clause-fit
graph-requires-clause-fit c =
    let widths : c.as_slice.result.now ≡ c.in_ok-widths.widths.items = search rules in
    let arrays : c.as_slice-2.result.now ≡ c.in_ok-arrays.arrays.items = search rules in
    fit-of (program_of c.args.program.now) c.requires.typed c.requires.memory c.requires.there.0
    (function_of c.args.function.now) c.requires.there.1 (context_of c.in_ok-site.site) c.in_ok-site.ensures
    (widths ∙ c.in_ok-widths.ensures) (arrays ∙ c.in_ok-arrays.ensures) c.in_ok-lines.ensures.lines
    (c.next-blocks.ensures ∙ c.in_ok-lines.ensures.blocks)

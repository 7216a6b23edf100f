use Rattle.std.proofs.Common.{List, map, ap, ◌∙◌}
use Rattle.std.specs.Prelude.{slice_get}
use Rattle.ia32_insn.specs.declared.insn.Insn.{Insn}
use Rattle.ia32_select.specs.declared.stretch.Stretch.{Stretch}
use Rattle.ia32_select.specs.MoveTables.{Ways, between_in, ways_in}
use Rattle.ia32_select.proofs.Ranges.{between-nowhere, between-there}
use Rattle.ia32_select.proofs.move_table.MoveTable.between.Goals as goal

pub returns-in-Some : goal.returns-in-Some
returns-in-Some c =
    let ways : List (Stretch × Stretch) = c.self.inside.ways.items in
    c.on_way.ensures
    ∙ (between-there c.as_slice-in-Some.result.now ways c.args.point c.args.next c.in-Some.ways c.ways_at.result
    (c.ways_at.ensures ∙ ap (λ (l : List (Stretch × Stretch)). slice_get l c.args.point) c.as_slice.ensures.value)
    c.in-Some.is
    ∙ (ap (λ (l : List Insn). between_in (map (ways_in l) ways) c.args.point c.args.next) c.as_slice-in-Some.ensures.value
    ∙ ap (λ (t : List Ways). between_in t c.args.point c.args.next) c.self.view_is))

pub returns-in-None : goal.returns-in-None
returns-in-None c =
    let ways : List (Stretch × Stretch) = c.self.inside.ways.items in
    between-nowhere c.self.inside.insns.items ways c.args.point c.args.next c.ways_at.result
    (c.ways_at.ensures ∙ ap (λ (l : List (Stretch × Stretch)). slice_get l c.args.point) c.as_slice.ensures.value)
    c.in-None.is
    ∙ ap (λ (t : List Ways). between_in t c.args.point c.args.next) c.self.view_is

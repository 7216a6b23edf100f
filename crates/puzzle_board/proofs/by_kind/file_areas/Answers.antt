use Rattle.std.proofs.Common.{List, ◌+◌, ◌∙◌, ap, subst, arith, length, take}
use Rattle.std.proofs.lemmas.List.{take_all}
use Rattle.index_lists.specs.Lists.{Lists}
use Rattle.puzzle_board.specs.declared.area.Area.{Area}
use Rattle.puzzle_board.specs.Classes.{IsFiled}
use Rattle.puzzle_board.specs.Stored.{area_classes}
use Rattle.puzzle_board.proofs.Stored.{filed-empty, area-more-read, area-unlisted, length-area-more}
use Rattle.puzzle_board.proofs.by_kind.file_areas.Goals as goal

pub file-requires-clause-class : goal.file-requires-clause-class
file-requires-clause-class g c = omega (arith, c.loop-i.invariant.0.as_many, c.list.ensures.few)

pub file-requires-clause-number : goal.file-requires-clause-number
file-requires-clause-number g c = omega (arith, c.loop-i.invariant.1, c.loop-i-test.true)

pub file-requires-clause-in_none : goal.file-requires-clause-in_none
file-requires-clause-in_none g c =
    area-unlisted c.loop-i.by_kind c.args.areas.now c.loop-i.i c.loop-i.invariant.0 (omega (arith, c.loop-i-test.true))

pub loop-i-init : goal.loop-i-init
loop-i-init g c =
    (rw c.requires.empty (filed-empty (length c.args.areas.now) 10), ap (λ (s : Lists). s.nodes) c.requires.empty)

pub loop-i-preserved : goal.loop-i-preserved
loop-i-preserved g c =
    let areas = c.args.areas.now in
    let i = c.loop-i.i in (
      c.file.ensures.filed 10 (area_classes (take i areas)) (area_classes (take (i + 1) areas)) c.loop-i.invariant.0
          (area-more-read areas i c.list.result _ c.kind.result c.loop-i-test.true c.kind.ensures c.list.ensures.value)
          (rw c.loop-i.invariant.1 (length-area-more areas i c.loop-i-test.true)),
      c.file.ensures.nodes ∙ c.loop-i.invariant.1,
    )

pub returns : goal.returns
returns g c =
    subst (λ (areas : List Area). IsFiled c.loop-i.by_kind 10 (area_classes areas))
    (take_all c.loop-i.i c.args.areas.now c.loop-i-test.false)
    c.loop-i.invariant.0

use Rattle.std.proofs.Common.{rules, arith, sym, get_or, ◌≡◌, ◌∙◌, ◌++◌, ◌∷◌, [], true, false, Some, None, ◌+◌}
use Rattle.lower_lines.specs.Statements.{has_label}
use Rattle.lower.proofs.Cases.{any-default, count-more, count-same, found, label-none, label-there, size-more}
use Rattle.lower.proofs.Cases.{starts-more}
use Rattle.lower.proofs.labels.starts_of.Goals.{then-index+in_ok-plus+in_ok-push+in_ok-count}
use Rattle.lower.proofs.labels.starts_of.Goals.{else-index+in_ok-push-2}
use Rattle.lower.proofs.labels.starts_of.Goals as goal

pub places-preserved : goal.places-preserved
places-preserved c = elim c.if-index.branch [
  | then-index+in_ok-plus+in_ok-push+in_ok-count w ↦
      let mark : c.index.result.now ≡ get_or c.in_ok-marks.marks.items c.places.place false = search (
        rules,
        any-default,
      ) in
      let is : c.index.result.now ≡ true = search rules in
      let h : has_label c.args.labels.now c.places.place ≡ true =
      sym (c.in_ok-marks.ensures.marks c.places.place c.places-test.true) ∙ sym mark ∙ is in
      let items : c.if-index.blocks.items ≡ c.places.blocks.items ++ Some w.in_ok-plus.field-0 ∷ [] = search rules in
      let next : c.if-index.count ≡ c.places.count + 1 = search rules in
      record {
        bound = omega (arith, c.places-test.true);
        size = size-more c.places.blocks.items c.if-index.blocks.items c.places.place _ c.places.invariant.size items;
        count = next ∙ count-more c.args.labels.now c.places.place c.places.count h c.places.invariant.count;
        starts = starts-more c.args.first c.args.labels.now c.places.blocks.items c.if-index.blocks.items
            c.places.place _
            c.places.invariant.size c.places.invariant.starts (label-there c.args.first c.args.labels.now c.places.place
            c.places.count w.in_ok-plus.field-0 h c.places.invariant.count w.in_ok-plus.ensures) items;
      }
  | else-index+in_ok-push-2 w ↦
      let mark : c.index.result.now ≡ get_or c.in_ok-marks.marks.items c.places.place false = search (
        rules,
        any-default,
      ) in
      let is : c.index.result.now ≡ false = search rules in
      let h : has_label c.args.labels.now c.places.place ≡ false =
      sym (c.in_ok-marks.ensures.marks c.places.place c.places-test.true) ∙ sym mark ∙ is in
      let items : c.if-index.blocks.items ≡ c.places.blocks.items ++ None ∷ [] = search rules in
      let next : c.if-index.count ≡ c.places.count = search rules in
      record {
        bound = omega (arith, c.places-test.true);
        size = size-more c.places.blocks.items c.if-index.blocks.items c.places.place _ c.places.invariant.size items;
        count = next ∙ count-same c.args.labels.now c.places.place c.places.count h c.places.invariant.count;
        starts = starts-more c.args.first c.args.labels.now c.places.blocks.items c.if-index.blocks.items
            c.places.place _
            c.places.invariant.size c.places.invariant.starts
            (label-none c.args.first c.args.labels.now c.places.place h) items;
      }
]

pub returns-clause-found : goal.returns-clause-found
returns-clause-found c = found c.args.first c.args.labels.now c.places.blocks.items c.args.statements c.places.place
    c.places.invariant.size c.places.invariant.bound c.places.invariant.starts

-- Two stretches more, and the ways of a point.
use Rattle.std.proofs.Common.{List, ap, ◌∙◌}
use Rattle.std.specs.Prelude.{slice_set}
use Rattle.ia32_select.specs.MoveTables.{Ways}
use Rattle.ia32_select.proofs.Ranges.{set-way}
use Rattle.ia32_select.proofs.move_table.MoveTable.set.Goals as goal

pub invariant_of-self-2 : goal.invariant_of-self-2
invariant_of-self-2 c =
    let one = c.in_ok-one.ensures in
    let two = c.in_ok-two.ensures in
    (set-way c.self.inside.insns.items c.add_stretch.new.insns.items c.add_stretch-2.new.insns.items c.args.to_first.now
    c.args.to_second.now c.self.inside.ways.items c.args.point c.in_ok-one.one c.in_ok-two.two c.args.first c.args.second
    c.self.invariant one.0 one.1 one.2 one.3 two.0 two.1 two.2 two.3).within

pub returns : goal.returns
returns c =
    let one = c.in_ok-one.ensures in
    let two = c.in_ok-two.ensures in
    (set-way c.self.inside.insns.items c.add_stretch.new.insns.items c.add_stretch-2.new.insns.items c.args.to_first.now
    c.args.to_second.now c.self.inside.ways.items c.args.point c.in_ok-one.one c.in_ok-two.two c.args.first c.args.second
    c.self.invariant one.0 one.1 one.2 one.3 two.0 two.1 two.2 two.3).table
    ∙ ap (λ (t : List Ways). slice_set t c.args.point
    ((c.args.first, c.args.to_first.now), (c.args.second, c.args.to_second.now))) c.self.view_is

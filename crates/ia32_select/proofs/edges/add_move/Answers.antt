-- A variable that is listed moves already.
use Rattle.std.proofs.Common.{◌≡◌, ◌==◌, true, false, rules}
use Rattle.std.specs.List.{list_any}
use Rattle.ia32_select.proofs.Gathering.{listed, minds-listed, unlisted}
use Rattle.ia32_select.proofs.edges.add_move.Goals as goal

pub push_move-requires-clause-other : goal.push_move-requires-clause-other
push_move-requires-clause-other c =
    let e : list_any (λ v. v == c.args.variable) c.args.variables.now.items ≡ false = search rules in
    unlisted c.args.variable c.args.variables.now.items e

pub returns-else-not-is_listed-clause-minds : goal.returns-else-not-is_listed-clause-minds
returns-else-not-is_listed-clause-minds c =
    let e : list_any (λ v. v == c.args.variable) c.args.variables.now.items ≡ true = search rules in
    minds-listed c.args.edge.now.map.now c.args.edge.now.point c.args.edge.now.next c.args.variable
    c.args.variables.now.items (listed c.args.variable c.args.variables.now.items e)

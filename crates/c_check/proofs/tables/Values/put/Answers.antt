use Rattle.std.proofs.Common.{◌≡◌, rules}
use Rattle.c_check_names.specs.Views.{entity_of}
use Rattle.c_check.proofs.Things.{with_value}
use Rattle.c_check.proofs.tables.Values.put.Goals as goal

pub returns : goal.returns
returns c =
    let is : c.in_ok-values.values.items ≡ c.args.values.now = search rules in
    with_value (λ v. v.items) c.in_ok-copy.copy c.in_ok-values.values c.args.self.now.values.entries
    c.insert.new.self.entries (entity_of c.args.entity.now) c.args.values.now c.in_ok-copy.ensures is
    c.in_ok-insert.ensures.updates.1 c.in_ok-insert.ensures.updates.3

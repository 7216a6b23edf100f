use Rattle.c_check_names.specs.Views.{entity_of}
use Rattle.c_check.proofs.Things.{one_more}
use Rattle.c_check.proofs.tables.Things.add.Goals as goal

pub returns : goal.returns
returns c = one_more c.in_ok-copy.copy c.args.self.now.things.keys c.insert.new.self.keys
    (entity_of c.args.entity.now) c.in_ok-copy.ensures c.in_ok-insert.ensures.keys

use Rattle.std.proofs.Common.{◌∙◌, arith}
use Rattle.c_check_names.proofs.Tables.{one_forgotten}
use Rattle.c_check_names.proofs.names.Names.forget_until.Goals as goal

pub names-preserved : goal.names-preserved
names-preserved c = one_forgotten c.names.self c.forget_one.new.self c.args.count c.forget_one.ensures
    (omega (arith, c.names-test.true, c.len.ensures)) ∙ c.names.invariant

use Rattle.pcc_driver.proofs.Files.{first_refused}
use Rattle.pcc_driver.proofs.compile.write_products.Goals as goal

pub returns-in-Err-clause-told : goal.returns-in-Err-clause-told
returns-in-Err-clause-told g c t =
    rw c.write_report.ensures (first_refused c.in-Err.refusal c.args.map_name.now c.args.name.now _ _
    c.as_slice.result.now _ _ (c.in-Err.ensures.others t) (c.in-Err.ensures.told t))

-- The table's items can be assembled.
use Rattle.ia32_tests.proofs.Table.{table_can}
use Rattle.ia32_tests.proofs.items.jumps_call_and_address.Goals as goal

pub assemble-requires : goal.assemble-requires
assemble-requires g c = table_can c.in_ok-items.items.items c.in_ok-items.ensures.items

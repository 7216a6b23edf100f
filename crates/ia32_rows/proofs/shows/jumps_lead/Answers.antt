use Rattle.ia32_rows.proofs.Jumps.{jump-leads, branch-leads, branch-passes}
use Rattle.ia32_rows.proofs.shows.jumps_lead.Goals as goal

pub returns : goal.returns
returns c = record { jump = jump-leads; taken = branch-leads; passed = branch-passes }

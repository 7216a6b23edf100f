use Rattle.std.proofs.Common.{arith}
use Rattle.pcc_outside.proofs.host.HostFilesFileStore.read.Goals as goal

pub returns-in-Ok-clause-size : goal.returns-in-Ok-clause-size
returns-in-Ok-clause-size c = omega arith

pub returns-in-Err-Missing-clause-counted : goal.returns-in-Err-Missing-clause-counted
returns-in-Err-Missing-clause-counted c = grind arith

pub returns-in-Err-TooLong-clause-counted : goal.returns-in-Err-TooLong-clause-counted
returns-in-Err-TooLong-clause-counted c = grind arith

pub returns-in-Err-Failed-clause-counted : goal.returns-in-Err-Failed-clause-counted
returns-in-Err-Failed-clause-counted c = grind arith

use Rattle.ia32_laws.proofs.Standing.{blocks-stand}
use Rattle.ia32_laws.proofs.Changing.{half-follows, low-follows}
use Rattle.ia32_laws.proofs.Counting.{left-shift-follows, right-shift-follows, unsigned-right-shift-follows}
use Rattle.ia32_laws.proofs.Stopping.{quotient-follows, remainder-follows, unsigned-quotient-follows}
use Rattle.ia32_laws.proofs.Stopping.{unsigned-remainder-follows}
use Rattle.ia32_laws.proofs.Choosing.{jump-follows}
use Rattle.ia32_laws.proofs.Comparing.{numbers-branch-follow, numbers-set-follow}
use Rattle.ia32_laws.proofs.cores.rows_follow_steps.Goals as goal

pub returns-clause-low : goal.returns-clause-low
returns-clause-low c = low-follows

pub returns-clause-half : goal.returns-clause-half
returns-clause-half c = half-follows

pub returns-clause-set : goal.returns-clause-set
returns-clause-set c = numbers-set-follow

pub returns-clause-shl : goal.returns-clause-shl
returns-clause-shl c = left-shift-follows

pub returns-clause-sar : goal.returns-clause-sar
returns-clause-sar c = right-shift-follows

pub returns-clause-div : goal.returns-clause-div
returns-clause-div c = quotient-follows

pub returns-clause-rem : goal.returns-clause-rem
returns-clause-rem c = remainder-follows

pub returns-clause-branch : goal.returns-clause-branch
returns-clause-branch c = numbers-branch-follow

pub returns-clause-jump : goal.returns-clause-jump
returns-clause-jump c = jump-follows

pub returns-clause-blocks : goal.returns-clause-blocks
returns-clause-blocks c = blocks-stand

pub returns-clause-shr : goal.returns-clause-shr
returns-clause-shr c = unsigned-right-shift-follows

pub returns-clause-udiv : goal.returns-clause-udiv
returns-clause-udiv c = unsigned-quotient-follows

pub returns-clause-urem : goal.returns-clause-urem
returns-clause-urem c = unsigned-remainder-follows

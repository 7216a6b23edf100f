-- How the machine answers an end of its definition.
use Rattle.pcc_base.specs.Outcome.{End, Ended, Trapped, Stopped, Goes}
use Rattle.ia32_machine.specs.declared.ends.MachineEnd.{MachineEnd}
use Rattle.ia32_machine.specs.declared.ends.MachineEnd.TheVariants as machine

-- the answer of a run whose outcome has this end
abbrev pub answer_of : End → MachineEnd
answer_of (Ended status) = machine.Ended status
answer_of (Trapped trap) = machine.Trapped trap
answer_of (Stopped cause address) = machine.Stopped cause address
answer_of Goes = machine.BudgetSpent

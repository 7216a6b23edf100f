use Rattle.ia32_laws.proofs.Returns.{calls-return, calls-stand, marked-stand, marks-say-where}
use Rattle.ia32_laws.proofs.standing_laws.calls_lead_back.Goals as goal

pub returns-clause-calls : goal.returns-clause-calls
returns-clause-calls c = calls-stand

pub returns-clause-returns : goal.returns-clause-returns
returns-clause-returns c = calls-return

pub returns-clause-marked : goal.returns-clause-marked
returns-clause-marked c = marked-stand

pub returns-clause-marks : goal.returns-clause-marks
returns-clause-marks c = marks-say-where

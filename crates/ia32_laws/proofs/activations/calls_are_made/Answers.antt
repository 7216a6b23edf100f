use Rattle.ia32_laws.proofs.Arguments.{places-pass}
use Rattle.ia32_laws.proofs.Calling.{call-makes, resume-goes}
use Rattle.ia32_laws.proofs.activations.calls_are_made.Goals as goal

pub returns-clause-words : goal.returns-clause-words
returns-clause-words c = places-pass

pub returns-clause-call : goal.returns-clause-call
returns-clause-call c = call-makes

pub returns-clause-resumes : goal.returns-clause-resumes
returns-clause-resumes c = resume-goes

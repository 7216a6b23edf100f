use Rattle.ia32_machine.proofs.instruction.fetch.Goals as goal

pub returns-in-None-decode-clause-told : goal.returns-in-None-decode-clause-told
returns-in-None-decode-clause-told c = (c.in-Some.code.now, c.in-Some.ensures.found, c.in-None-decode.ensures.none)

use Rattle.std.proofs.Common.{◌≡◌, ◌<◌, true, false, ◌∷◌, sym, ◌∙◌, arith}
use Rattle.ia32_insn.specs.declared.register_names.Reg32.TheVariants.{Edx}
use Rattle.ia32_insn.specs.State.{State}
use Rattle.ia32_insn.specs.Meaning.{word_of}
use Rattle.ia32_machine.proofs.Kept.{keeps-same}
use Rattle.ia32_machine.proofs.Storing.{one_byte, byte_keeps}
use Rattle.ia32_machine.proofs.Calls.{not_is, may_so, read_none, read_denied, read_end, read_byte, read_fault}
use Rattle.ia32_machine.proofs.system_calls.read_call.Goals as goal

pub returns-then-count-eq0-clause-told : goal.returns-then-count-eq0-clause-told
returns-then-count-eq0-clause-told g c = λ _.
    rw (c.set_word.ensures, c.if-count-eq0.true)
    (read_none c.args.processor.now (g.I.Source.left c.args.input.now) c.requires
    (sym c.word-count.ensures ∙ c.if-count-eq0.true))

pub returns-then-not-may_store-clause-told : goal.returns-then-not-may_store-clause-told
returns-then-not-may_store-clause-told g c = λ _.
    let old : State = c.args.processor.now in
    let some = not_is (word_of Edx old) 0 (λ e. c.if-count-eq0.false (c.word-count.ensures ∙ e)) in
    let denies = may_so old c.word-count.result c.word-address.result c.may_store.result false c.word-count.ensures
    c.word-address.ensures c.may_store.ensures c.if-not-may_store.true in
    rw (c.word-address.ensures, c.eip.ensures.value)
    (read_denied old (g.I.Source.left c.args.input.now) c.requires some denies)

pub take_byte-requires : goal.take_byte-requires
take_byte-requires g c =
    let more : 0 < c.word-count.result = omega arith in
    one_byte c.word-address.result c.word-count.result c.args.processor.now.memory more
    (sym c.may_store.ensures ∙ c.if-not-may_store.false)

pub returns-in-Ok-Some-clause-told : goal.returns-in-Ok-Some-clause-told
returns-in-Ok-Some-clause-told g c = λ i.
    let old : State = c.args.processor.now in
    let some = not_is (word_of Edx old) 0 (λ e. c.if-count-eq0.false (c.word-count.ensures ∙ e)) in
    let allows = may_so old c.word-count.result c.word-address.result c.may_store.result true c.word-count.ensures
    c.word-address.ensures c.may_store.ensures c.if-not-may_store.false in
    let left : g.I.Source.left c.args.input.now ≡ c.in-Ok-Some.byte ∷ g.I.Source.left c.next_byte.new.self =
    rw c.in-Ok-Some.field-0-is at (c.in-Ok-Some.ensures.told i) in
    read_byte old c.take_byte.new.processor c.word-address.result c.in-Ok-Some.byte (g.I.Source.left c.args.input.now)
    (g.I.Source.left c.next_byte.new.self) c.requires some allows left c.word-address.ensures
    c.take_byte.ensures

pub returns-in-Ok-None-clause-told : goal.returns-in-Ok-None-clause-told
returns-in-Ok-None-clause-told g c = λ i.
    let old : State = c.args.processor.now in
    let some = not_is (word_of Edx old) 0 (λ e. c.if-count-eq0.false (c.word-count.ensures ∙ e)) in
    let allows = may_so old c.word-count.result c.word-address.result c.may_store.result true c.word-count.ensures
    c.word-address.ensures c.may_store.ensures c.if-not-may_store.false in
    let ended = rw c.in-Ok-None.field-0-is at (c.in-Ok-None.ensures.told i) in
    rw c.set_word-in-Ok-None.ensures (read_end old (g.I.Source.left c.args.input.now)
    (g.I.Source.left c.next_byte.new.self) c.requires some allows ended.0 ended.1)

pub returns-in-Err-clause-told : goal.returns-in-Err-clause-told
returns-in-Err-clause-told g c = λ i.
    read_fault c.args.processor.now (g.I.Source.left c.args.input.now) (g.I.Source.left c.next_byte.new.self)
    c.requires (c.in-Err.ensures.told i)

pub returns-then-count-eq0-clause-code : goal.returns-then-count-eq0-clause-code
returns-then-count-eq0-clause-code g c = rw c.set_word.ensures (keeps-same c.args.processor.now.memory)

pub returns-then-not-may_store-clause-code : goal.returns-then-not-may_store-clause-code
returns-then-not-may_store-clause-code g c = keeps-same c.args.processor.now.memory

pub returns-in-Ok-Some-clause-code : goal.returns-in-Ok-Some-clause-code
returns-in-Ok-Some-clause-code g c =
    byte_keeps c.word-address.result c.in-Ok-Some.byte c.args.processor.now c.take_byte.new.processor
    c.take_byte.ensures

pub returns-in-Ok-None-clause-code : goal.returns-in-Ok-None-clause-code
returns-in-Ok-None-clause-code g c = rw c.set_word-in-Ok-None.ensures (keeps-same c.args.processor.now.memory)

pub returns-in-Err-clause-code : goal.returns-in-Err-clause-code
returns-in-Err-clause-code g c = keeps-same c.args.processor.now.memory

use Rattle.std.proofs.Common.{Some, None, refl, sym, ◌∙◌}
use Rattle.ia32_insn.specs.declared.register_names.Reg32.TheVariants.{Edx}
use Rattle.ia32_insn.specs.State.{State}
use Rattle.ia32_insn.specs.Meaning.{word_of}
use Rattle.ia32_machine.proofs.Kept.{keeps-same}
use Rattle.ia32_machine.proofs.Calls.{not_is, bytes_so, write_none, write_denied, write_done, write_failed}
use Rattle.ia32_machine.proofs.Calls.{write_wanted, some_bytes}
use Rattle.ia32_machine.proofs.Performs.{none_put, unchanged_put, part_put}
use Rattle.ia32_machine.specs.Lending.{IsPutOn}
use Rattle.ia32_machine.proofs.system_calls.write_call.Goals as goal

pub returns-then-count-eq0-clause-told : goal.returns-then-count-eq0-clause-told
returns-then-count-eq0-clause-told g c = λ left.
    rw (c.set_word.ensures, c.if-count-eq0.true)
    (write_none c.args.processor.now left (IsPutOn g.O.Sink c.args.out.now c.args.out.now) c.requires
    (sym c.word-count.ensures ∙ c.if-count-eq0.true) (none_put g.O.Sink c.args.out.now))

pub returns-then-count-eq0-clause-counted : goal.returns-then-count-eq0-clause-counted
returns-then-count-eq0-clause-counted g c = λ _. (refl, refl)

pub returns-then-count-eq0-clause-out_tells : goal.returns-then-count-eq0-clause-out_tells
returns-then-count-eq0-clause-out_tells g c = λ t. t

pub part_none-processor : goal.part_none-processor
part_none-processor g c = (refl, refl)

pub returns-in_default-clause-told : goal.returns-in_default-clause-told
returns-in_default-clause-told g c = λ left.
    let old : State = c.args.processor.now in
    let some = not_is (word_of Edx old) 0 (λ e. c.if-count-eq0.false (c.word-count.ensures ∙ e)) in
    let none = bytes_so old c.word-count.result c.word-address.result None c.word-count.ensures c.word-address.ensures
    c.in_default.ensures.none in
    rw (c.word-address.ensures, c.eip.ensures.value, c.bytes_at.follows.holds-at-none)
    (write_denied old left (IsPutOn g.O.Sink c.args.out.now c.args.out.now) c.requires some none
    (none_put g.O.Sink c.args.out.now))

pub returns-in_default-clause-counted : goal.returns-in_default-clause-counted
returns-in_default-clause-counted g c = λ _. (refl, refl)

pub returns-in_default-clause-out_tells : goal.returns-in_default-clause-out_tells
returns-in_default-clause-out_tells g c = λ t. t

pub returns-in-Ok-clause-told : goal.returns-in-Ok-clause-told
returns-in-Ok-clause-told g c = λ left.
    let old : State = c.args.processor.now in
    let some = not_is (word_of Edx old) 0 (λ e. c.if-count-eq0.false (c.word-count.ensures ∙ e)) in
    let there = bytes_so old c.word-count.result c.word-address.result (Some c.in-Some.bytes.now) c.word-count.ensures
    c.word-address.ensures c.in-Some.ensures.found in
    rw (c.set_word-in-Ok.ensures, c.bytes_at.follows.holds-at-none, c.word-count.ensures)
    (write_done old c.in-Some.bytes.now left (IsPutOn g.O.Sink c.args.out.now c.put_all.new.self)
    c.requires some there c.in-Ok.ensures.told)

pub returns-in-Ok-clause-counted : goal.returns-in-Ok-clause-counted
returns-in-Ok-clause-counted g c = λ _. (refl, c.in-Ok.ensures.counted)

pub returns-in-Ok-clause-out_tells : goal.returns-in-Ok-clause-out_tells
returns-in-Ok-clause-out_tells g c = c.put_all.ensures.telling

pub returns-in-Err-Failed-clause-told : goal.returns-in-Err-Failed-clause-told
returns-in-Err-Failed-clause-told g c = λ left.
    let old : State = c.args.processor.now in
    let some = not_is (word_of Edx old) 0 (λ e. c.if-count-eq0.false (c.word-count.ensures ∙ e)) in
    let there = bytes_so old c.word-count.result c.word-address.result (Some c.in-Some.bytes.now) c.word-count.ensures
    c.word-address.ensures c.in-Some.ensures.found in
    let told = rw c.in-Err-Failed.field-0-is at c.in-Err-Failed.ensures.told in
    let filled = some_bytes c.word-count.result c.in-Some.bytes.now c.in-Some.ensures.count c.if-count-eq0.false in
    rw c.bytes_at.follows.holds-at-none
    (write_failed old c.in-Some.bytes.now left (IsPutOn g.O.Sink c.args.out.now c.put_all.new.self)
    c.requires some there filled (part_put g.O.Sink c.args.out.now c.put_all.new.self c.in-Some.bytes.now told))

pub returns-in-Err-Failed-clause-counted : goal.returns-in-Err-Failed-clause-counted
returns-in-Err-Failed-clause-counted g c = λ _. let counted =
    rw c.in-Err-Failed.field-0-is at c.in-Err-Failed.ensures.counted in (refl, counted.0, counted.1)

pub returns-in-Err-Failed-clause-out_tells : goal.returns-in-Err-Failed-clause-out_tells
returns-in-Err-Failed-clause-out_tells g c = c.put_all.ensures.telling

pub returns-in-Err-NoMemory-clause-told : goal.returns-in-Err-NoMemory-clause-told
returns-in-Err-NoMemory-clause-told g c = λ left.
    let old : State = c.args.processor.now in
    let some = not_is (word_of Edx old) 0 (λ e. c.if-count-eq0.false (c.word-count.ensures ∙ e)) in
    let there = bytes_so old c.word-count.result c.word-address.result (Some c.in-Some.bytes.now) c.word-count.ensures
    c.word-address.ensures c.in-Some.ensures.found in
    let told = rw c.in-Err-NoMemory.field-0-is at c.in-Err-NoMemory.ensures.told in
    let filled = some_bytes c.word-count.result c.in-Some.bytes.now c.in-Some.ensures.count c.if-count-eq0.false in
    rw c.bytes_at.follows.holds-at-none
    (write_wanted old c.in-Some.bytes.now left (IsPutOn g.O.Sink c.args.out.now c.put_all.new.self)
    c.requires some there filled (unchanged_put g.O.Sink c.args.out.now c.put_all.new.self told))

pub returns-in-Err-NoMemory-clause-counted : goal.returns-in-Err-NoMemory-clause-counted
returns-in-Err-NoMemory-clause-counted g c = λ _. let counted =
    rw c.in-Err-NoMemory.field-0-is at c.in-Err-NoMemory.ensures.counted in (refl, counted.1, counted.0)

pub returns-in-Err-NoMemory-clause-out_tells : goal.returns-in-Err-NoMemory-clause-out_tells
returns-in-Err-NoMemory-clause-out_tells g c = c.put_all.ensures.telling

pub returns-then-count-eq0-clause-code : goal.returns-then-count-eq0-clause-code
returns-then-count-eq0-clause-code g c = rw c.set_word.ensures (keeps-same c.args.processor.now.memory)

pub returns-in_default-clause-code : goal.returns-in_default-clause-code
returns-in_default-clause-code g c =
    rw c.bytes_at.follows.holds-at-none (keeps-same c.args.processor.now.memory)

pub returns-in-Ok-clause-code : goal.returns-in-Ok-clause-code
returns-in-Ok-clause-code g c =
    rw (c.set_word-in-Ok.ensures, c.bytes_at.follows.holds-at-none) (keeps-same c.args.processor.now.memory)

pub returns-in-Err-Failed-clause-code : goal.returns-in-Err-Failed-clause-code
returns-in-Err-Failed-clause-code g c =
    rw c.bytes_at.follows.holds-at-none (keeps-same c.args.processor.now.memory)

pub returns-in-Err-NoMemory-clause-code : goal.returns-in-Err-NoMemory-clause-code
returns-in-Err-NoMemory-clause-code g c =
    rw c.bytes_at.follows.holds-at-none (keeps-same c.args.processor.now.memory)

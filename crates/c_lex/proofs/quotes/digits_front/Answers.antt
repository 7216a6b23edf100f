use Rattle.std.proofs.Common.{◌<◌, ◌+◌, length, drop, get_or, arith}
use Rattle.c_lex.specs.Radixes.{base_of, is_digit_of}
use Rattle.c_lex.specs.Characters.{front_of}
use Rattle.c_lex.proofs.DigitFronts.{base_above, digit_read, front_next, front_pass}
use Rattle.c_lex.proofs.quotes.digits_front.Goals as goal

pub loop-count-preserved : goal.loop-count-preserved
loop-count-preserved c =
    let radix = c.args.radix in
    let xs = c.args.bytes.now in
    let i = c.loop-count.count in
    let number = c.loop-count.number in
    let within : i < length xs = omega arith in
    let pass = front_pass (is_digit_of radix) xs i within c.in-Some.ensures.0 in
    let before = rw pass at c.loop-count.invariant in
    let small =
    digit_read number _ _ _ _ _ c.base_in-base.ensures.value c.in-Some.ensures.1 c.appended-number.ensures.small in
    front_next (base_of radix) (front_of (is_digit_of radix) xs) number i (get_or xs i 0)
    (front_of (is_digit_of radix) (drop (i + 1) xs)) c.appended-number.result (base_above radix) before
    small c.appended-number.ensures.large

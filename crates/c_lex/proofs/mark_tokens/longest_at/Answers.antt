use Rattle.std.proofs.lemmas.Grind.{common_steps}
use Rattle.std.proofs.Common.{◌<◌, length, arith}
use Rattle.std.proofs.lemmas.Bool.Decides.{nat_tests}
use Rattle.c_lex.proofs.MarkPieces.{NoneOf, none_of_few, none_of_one, none_of_two, none_of_three}
use Rattle.c_lex.proofs.MarkPieces.{longest_two, longest_one, none_at_all}
use Rattle.c_lex.proofs.mark_tokens.longest_at.Goals as goal
use Rattle.c_lex.proofs.mark_tokens.longest_at.Goals.{then-rest-gt2+in_default, else-rest-gt2}
use Rattle.c_lex.proofs.mark_tokens.longest_at.Goals.{then-rest-gt1+in_default-mark_of_two, else-rest-gt1}

pub returns-in-Some-mark_of_two : goal.returns-in-Some-mark_of_two
returns-in-Some-mark_of_two c =
    let threes : NoneOf 3 c.args.rest.now = elim c.if-rest-gt2.branch [
      | then-rest-gt2+in_default w ↦ none_of_three c.args.rest.now w.if-rest-gt2.true w.in_default.ensures
      | else-rest-gt2 w ↦ none_of_few 3 c.args.rest.now (omega (arith, w.if-rest-gt2.false))
    ] in
    longest_two c.args.rest.now _ c.if-rest-gt1.true threes c.in-Some-mark_of_two.ensures

pub returns-in_err-mark : goal.returns-in_err-mark
returns-in_err-mark c =
    let threes : NoneOf 3 c.args.rest.now = elim c.if-rest-gt2.branch [
      | then-rest-gt2+in_default w ↦ none_of_three c.args.rest.now w.if-rest-gt2.true w.in_default.ensures
      | else-rest-gt2 w ↦ none_of_few 3 c.args.rest.now (omega (arith, w.if-rest-gt2.false))
    ] in
    let twos : NoneOf 2 c.args.rest.now = elim c.if-rest-gt1.branch [
      | then-rest-gt1+in_default-mark_of_two w ↦
          none_of_two c.args.rest.now w.if-rest-gt1.true w.in_default-mark_of_two.ensures
      | else-rest-gt1 w ↦ none_of_few 2 c.args.rest.now (omega (arith, w.if-rest-gt1.false))
    ] in
    let some : 0 < length c.args.rest.now = grind (arith, nat_tests, c.if-is_empty.ensures) in
    rw c.from_residual.ensures
    (none_at_all c.args.rest.now threes twos (none_of_one c.args.rest.now some c.in_err-mark.ensures))

pub returns : goal.returns
returns c =
    let threes : NoneOf 3 c.args.rest.now = elim c.if-rest-gt2.branch [
      | then-rest-gt2+in_default w ↦ none_of_three c.args.rest.now w.if-rest-gt2.true w.in_default.ensures
      | else-rest-gt2 w ↦ none_of_few 3 c.args.rest.now (omega (arith, w.if-rest-gt2.false))
    ] in
    let twos : NoneOf 2 c.args.rest.now = elim c.if-rest-gt1.branch [
      | then-rest-gt1+in_default-mark_of_two w ↦
          none_of_two c.args.rest.now w.if-rest-gt1.true w.in_default-mark_of_two.ensures
      | else-rest-gt1 w ↦ none_of_few 2 c.args.rest.now (omega (arith, w.if-rest-gt1.false))
    ] in
    let some : 0 < length c.args.rest.now = grind (arith, nat_tests, c.if-is_empty.ensures) in
    longest_one c.args.rest.now _ some threes twos c.in_ok-mark.ensures

pub returns-in-Some : goal.returns-in-Some
returns-in-Some c = grind (arith, common_steps)

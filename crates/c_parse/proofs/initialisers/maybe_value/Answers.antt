use Rattle.std.proofs.Common.{arith}
use Rattle.std.proofs.lemmas.Result.{err_from_is_err_and}
use Rattle.c_parse.proofs.Initial.{value_low, value_refused, value_read}
use Rattle.c_parse.proofs.initialisers.maybe_value.Goals as goal

pub returns-in_err-lower : goal.returns-in_err-lower
returns-in_err-lower c =
    let p = err_from_is_err_and c.from_residual.result c.from_residual.ensures.1 in
    rw (p.1, p.2) (value_low c.args.height.levels c.args.cursor.now.rest.now c.take_mark.new.self.rest.now
    c.in-Some.equal _ c.in_err-lower.ensures.err.0 c.in-Some.ensures.0 c.in_err-lower.ensures.err.1)

pub returns-in_err-value : goal.returns-in_err-value
returns-in_err-value c =
    let p = err_from_is_err_and c.from_residual-in_err-value.result c.from_residual-in_err-value.ensures.1 in
    rw (p.1, p.2) (value_refused c.args.height.levels c.in_ok-lower.lower.levels c.args.cursor.now.rest.now
    c.take_mark.new.self.rest.now c.in-Some.equal _ c.in_ok-lower.ensures.ok.1 c.in_ok-lower.lower.low
    c.in-Some.ensures.0 c.in_err-value.ensures)

pub returns : goal.returns
returns c = (
  value_read c.args.height.levels c.in_ok-lower.lower.levels c.args.cursor.now.rest.now
      c.take_mark.new.self.rest.now c.initialiser.new.cursor.rest.now c.in-Some.equal _ c.in_ok-lower.ensures.ok.1
      c.in_ok-lower.lower.low c.in-Some.ensures.0 c.in_ok-value.ensures.0,
  omega (arith, c.in-Some.ensures.1, c.in_ok-value.ensures.1),
)

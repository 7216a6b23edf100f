use Rattle.std.proofs.Common.{◌≡◌, false, true, arith}
use Rattle.c_tree.specs.Worked.{takes_and_ignores}
use Rattle.c_tree.proofs.laws.worked_types.Goals as goal

-- `break` stands outside
pub returns-clause-jump : goal.returns-clause-jump
returns-clause-jump c typed =
    let outside : false ≡ true = (typed.functions 0 (takes_and_ignores 0) (omega arith)).body.0 in
    absurd (cc)

-- there is no local
pub returns-clause-local : goal.returns-clause-local
returns-clause-local c typed = (typed.functions 0 (takes_and_ignores 0) (omega arith)).body.0.0

-- void can't be assigned to `int`
pub returns-clause-value : goal.returns-clause-value
returns-clause-value c typed = (typed.functions 0 (takes_and_ignores 0) (omega arith)).body.0.1

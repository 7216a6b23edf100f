-- The name at the function's number is the function's.
use Rattle.std.proofs.Common.{map}
use Rattle.c_syntax.specs.Statements.{unit_of}
use Rattle.c_front.proofs.Reasons.{large_by_name}
use Rattle.c_front.proofs.refused.large_frame.Goals as goal

pub returns-in-Ok : goal.returns-in-Ok
returns-in-Ok c texts have above =
    let units = map unit_of c.args.units.now in (
      units,
      have,
      large_by_name c.functions_are_named.ensures units c.args.function c.args.bytes c.in-Ok.name.items c.in-Ok.ensures
          above,
    )

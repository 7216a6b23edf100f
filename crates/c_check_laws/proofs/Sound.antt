-- Typed programs of files are well typed.
use Rattle.std.specs.Prelude.{List}
use Rattle.c_syntax.specs.Statements.{ExternalTree}
use Rattle.c_typing.specs.Laws.{AreSources, TypedIsWellTyped}
use Rattle.c_typing.specs.Typed.{numbers_in, notes_of}
use Rattle.c_typing.proofs.FilesCountUp.{statements_count_up}
use Rattle.c_check_laws.proofs.Places.{AreRight}
use Rattle.c_check_laws.proofs.ProgramSound.{ArePlaced, program_right}
use Rattle.c_check_laws.proofs.UnitsPlaces.{units_are_placed, units_are_right}

placed : (units : List (List ExternalTree)) → AreSources units → ArePlaced (notes_of units)
placed units h = units_are_placed units h.trees h.places (numbers_in units)

right : (units : List (List ExternalTree)) → AreSources units → AreRight (notes_of units)
right units h = units_are_right units h.trees h.numbers (numbers_in units)

-- typed programs of files are well typed
pub typed_is_well_typed : TypedIsWellTyped
typed_is_well_typed units p h t =
    let r = program_right units p h.trees t (placed units h) (right units h) in
    record { objects = r.2; functions = r.0; main = r.1; numbered = statements_count_up units p t }

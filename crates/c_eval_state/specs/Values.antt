-- What the values, arrays and places of an evaluator stand for in the source meaning.
use Rattle.std.specs.Prelude.{Result, Ok, Err}
use Rattle.pcc_base.specs.Outcome as outcome
use Rattle.pcc_base.specs.declared.run.Trap.{Trap}
use Rattle.c_tree.specs.Operators.{Computed, Computes, Traps}
use Rattle.c_tree.specs.Store.{Held, HoldsNumber, HoldsPointer}
use Rattle.c_tree.specs.Evaluation.{Found, InLocal, InObject, AtIndex}
use Rattle.c_eval_state.specs.declared.value.ArrayName.{ArrayName}
use Rattle.c_eval_state.specs.declared.value.ArrayName.TheVariants as names
use Rattle.c_eval_state.specs.declared.value.Value.{Value}
use Rattle.c_eval_state.specs.declared.value.Value.TheVariants as values
use Rattle.c_eval_state.specs.declared.value.Place.{Place}
use Rattle.c_eval_state.specs.declared.value.Place.TheVariants as places

abbrev pub name_of : ArrayName → outcome.ArrayName
name_of names.Null = outcome.Null
name_of (names.Static k) = outcome.Static k
name_of (names.InFrame k depth) = outcome.InFrame k depth
name_of names.Unknown = outcome.Unknown

abbrev pub held_of : Value → Held
held_of (values.Number n) = HoldsNumber n
held_of (values.Pointer array index) = HoldsPointer (name_of array) index

abbrev pub found_of : Place → Found
found_of (places.Local local) = InLocal local
found_of (places.Object object) = InObject object
found_of (places.Element array index) = AtIndex (name_of array) index

-- a value, or a trap, as an answer of the source meaning
abbrev pub computed_of : Result Value Trap → Computed
computed_of (Ok value) = Computes (held_of value)
computed_of (Err trap) = Traps trap

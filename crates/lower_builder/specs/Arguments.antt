-- Arguments of calls.
use Rattle.std.specs.Prelude.{Option, Some, None}
use Rattle.c_tree.specs.declared.types.ValueType.{ValueType}
use Rattle.c_tree.specs.declared.types.ValueType.TheVariants.{Void, Integer, Pointer}

-- the type of an argument as its parameter takes it
abbrev pub passed_type : Option ValueType → ValueType → ValueType
passed_type None of = of
passed_type (Some Void) of = of
passed_type (Some (Integer t)) of = of
passed_type (Some (Pointer t)) Void = Pointer t
passed_type (Some (Pointer t)) (Integer u) = Pointer t
passed_type (Some (Pointer t)) (Pointer u) = Pointer u

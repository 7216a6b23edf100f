-- What is called (C99 6.5.2.2).
use Rattle.std.specs.Prelude.{List, [], Option, Some, None}
use Rattle.c_tree.specs.declared.types.ValueType.{ValueType}
use Rattle.c_typing.specs.Names.{Meaning, Local, LocalArray, Object, ObjectArray, Function}

-- the parameters of a function; a name that means none asks nothing of its arguments
abbrev pub parameters_of : Option Meaning → List ValueType
parameters_of None = []
parameters_of (Some (Local v of)) = []
parameters_of (Some (LocalArray k element)) = []
parameters_of (Some (Object e of)) = []
parameters_of (Some (ObjectArray e element)) = []
parameters_of (Some (Function e signature)) = signature.parameters

-- Initialisers of arrays, by their form (C99 6.7.8p14 to p16).
use Rattle.std.specs.Prelude.{List, Option, Some, None}
use Rattle.c_syntax.specs.declared.expression.TextPiece.{TextPiece}
use Rattle.c_syntax.specs.Declarations.{InitialiserTree}
use Rattle.c_tree.specs.declared.types.ValueType.{ValueType}
use Rattle.c_tree.specs.declared.types.ValueType.TheVariants.{Void, Integer, Pointer}
use Rattle.c_typing.specs.Declarators.{ArrayValues, Letters, Listed, NoValues, array_values, other_values}

-- the values of an array whose elements are of a type, which it may not have
abbrev pub values_by : Option ValueType → InitialiserTree → ArrayValues
values_by None v = other_values v
values_by (Some Void) v = other_values v
values_by (Some (Integer t)) v = array_values t v
values_by (Some (Pointer t)) v = other_values v

-- the string that they are
abbrev pub letters_in : ArrayValues → Option (List TextPiece)
letters_in (Letters pieces) = Some pieces
letters_in (Listed es) = None
letters_in (NoValues e) = None

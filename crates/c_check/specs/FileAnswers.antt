-- How what is answered of files stands for what the definitions have.
use Rattle.std.specs.Prelude.{◌≡◌, List, [], ◌∷◌, map, Vec, Option, Some, None}
use Rattle.std.specs.declared.alloc.Global.{Global}
use Rattle.c_tree.specs.declared.program.Function.{Function as Built}
use Rattle.c_tree.specs.Erased.{function_of}
use Rattle.c_tree.specs.Program.{Function}

abbrev pub IsFunction : Function → Built → Type 0
IsFunction x a = function_of a ≡ x

-- a defined function, where there is one
abbrev pub AreFunction : List Function → Option Built → Type 0
AreFunction xs None = [] ≡ xs
AreFunction xs (Some f) = function_of f ∷ [] ≡ xs

abbrev pub AreFunctions : List Function → Vec Built Global → Type 0
AreFunctions xs v = map function_of v.items ≡ xs

-- How what is answered of initialisers and items stands for what the definitions have.
use Rattle.std.specs.Prelude.{◌≡◌, List, [], ◌∷◌, map, option_map, Vec, Option, Some, None}
use Rattle.std.specs.Global.{Box}
use Rattle.std.specs.declared.alloc.Global.{Global}
use Rattle.c_tree.specs.declared.expression.Expression.{Expression as Built}
use Rattle.c_tree.specs.declared.statement.Initialiser.{Initialiser as BuiltInitialiser}
use Rattle.c_tree.specs.declared.statement.Item.{Item as BuiltItem}
use Rattle.c_tree.specs.Erased.{boxed_of, initialiser_of, item_of}
use Rattle.c_tree.specs.Program.{Expression, Initialiser, Item}
use Rattle.c_typing.specs.Checked as checked
use Rattle.c_check_expressions.specs.declared.notes.Contents.{Contents}
use Rattle.c_check_expressions.specs.Notes.{contents_of}

abbrev pub IsContents : checked.Contents → Contents → Type 0
IsContents x a = contents_of a ≡ x

-- the tree of an expression that may be absent
abbrev pub IsTreeIfAny : Option Expression → Option (Box Built) → Type 0
IsTreeIfAny x a = option_map boxed_of a ≡ x

abbrev pub IsInitialiser : Initialiser → BuiltInitialiser → Type 0
IsInitialiser x a = initialiser_of a ≡ x

-- the items of a list
abbrev pub AreItems : List Item → Vec BuiltItem Global → Type 0
AreItems xs v = map item_of v.items ≡ xs

-- an item, where there is one
abbrev pub AreItem : List Item → Option BuiltItem → Type 0
AreItem xs None = [] ≡ xs
AreItem xs (Some i) = item_of i ∷ [] ≡ xs

-- what is judged for its faults and notes alone
abbrev pub IsAnything : {X A : Type 0} → X → A → Type 0
IsAnything x a = Unit {0}

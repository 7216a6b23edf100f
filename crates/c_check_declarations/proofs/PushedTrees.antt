-- One more tree behind others.
use Rattle.std.proofs.Common.{◌≡◌, ◌∙◌, List, [], ◌∷◌, ◌++◌, map}
use Rattle.std.proofs.lemmas.List.{map-append}
use Rattle.c_tree.specs.declared.expression.Expression.{Expression as Built}
use Rattle.c_tree.specs.Erased.{expression_of}
use Rattle.c_tree.specs.Program.{Expression}
use Rattle.c_check_declarations.proofs.Lists.{push_same}

abbrev pub AreTreesOf : List Expression → List Built → Type 0
AreTreesOf xs vs = map expression_of vs ≡ xs

pub push_tree : (xs : List Expression) (x : Expression) (vs : List Built) (a : Built) → map expression_of vs ≡ xs
    → expression_of a ≡ x → map expression_of (vs ++ a ∷ []) ≡ (xs ++ x ∷ [])
push_tree xs x vs a h k = map-append expression_of vs (a ∷ [])
    ∙ push_same xs x (map expression_of vs) (expression_of a) h k

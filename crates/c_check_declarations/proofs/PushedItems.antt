-- One more item behind others.
use Rattle.std.proofs.Common.{◌≡◌, sym, ap, ◌∙◌, List, [], ◌∷◌, ◌++◌, map, Option, Some, None}
use Rattle.std.proofs.lemmas.List.{append-nil, map-append}
use Rattle.c_tree.specs.declared.statement.Item.{Item as BuiltItem}
use Rattle.c_tree.specs.Erased.{item_of}
use Rattle.c_tree.specs.Program.{Item}
use Rattle.c_check_declarations.specs.ItemAnswers.{AreItem}
use Rattle.c_check_declarations.specs.Together.{maybe_listed}

abbrev pub AreItemsOf : List Item → List BuiltItem → Type 0
AreItemsOf xs vs = map item_of vs ≡ xs

pub push_item : (xs ys : List Item) (vs : List BuiltItem) (o : Option BuiltItem) → map item_of vs ≡ xs → AreItem ys o
    → map item_of (vs ++ maybe_listed o) ≡ (xs ++ ys)
push_item xs ys vs None h k = ap (map item_of) (append-nil vs) ∙ h ∙ sym (append-nil xs) ∙ ap (λ zs. xs ++ zs) k
push_item xs ys vs (Some i) h k = map-append item_of vs (i ∷ []) ∙ ap (λ zs. zs ++ item_of i ∷ []) h
    ∙ ap (λ zs. xs ++ zs) k

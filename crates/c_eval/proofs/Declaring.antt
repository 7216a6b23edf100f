-- What the declaration of an item leaves.
use Rattle.std.proofs.Common.{◌≡◌, ℕ, List, ◌∷◌, ap, sym, ◌∙◌}
use Rattle.pcc_base.specs.Outcome.{Listing, Static}
use Rattle.c_tree.specs.declared.types.IntegerType.{IntegerType}
use Rattle.c_tree.specs.Evaluation.{own_array, text_then_zeros, zeroed}
use Rattle.c_tree.specs.Program.{Array, Elements, Expression, Text}
use Rattle.c_tree.specs.Store.{State, Gives, array_named, visited, with_array}
use Rattle.c_eval_laws.specs.Steps.{Configuration, go_on}
use Rattle.c_eval_laws.specs.Tasks.{Fills}
use Rattle.c_eval_state.specs.Changes.{item_done}

-- an array with first elements
pub array_declared : (l : Listing) (n k : ℕ) (element : IntegerType) (es : List Expression) (c : Configuration)
    (s t : State) → t ≡ with_array (own_array s k) (zeroed (array_named s (own_array s k))) (visited l n s)
    → item_done l (Array n k element (Elements es)) c s
    ≡ Gives (go_on c.function (Fills k element 0 es ∷ c.tasks) c.values c.places) t
array_declared l n k element es c s t e = ap (λ (x : State). Gives
    (go_on c.function (Fills k element 0 es ∷ c.tasks) c.values c.places) x) (sym e)

-- the state of an array with a text, whose elements were zeros
abbrev pub text_set : (k object : ℕ) → State → State
text_set k object t = with_array (own_array t k)
    (text_then_zeros (array_named t (own_array t k)) (array_named t (Static object))) t

-- an array with a text
pub text_declared : (l : Listing) (n k object : ℕ) (element : IntegerType) (c : Configuration) (s t u : State)
    → t ≡ with_array (own_array s k) (zeroed (array_named s (own_array s k))) (visited l n s)
    → u ≡ text_set k object t
    → item_done l (Array n k element (Text object)) c s ≡ Gives (go_on c.function c.tasks c.values c.places) u
text_declared l n k object element c s t u e d = ap (λ (x : State). Gives
    (go_on c.function c.tasks c.values c.places) (text_set k object x)) (sym e)
    ∙ ap (λ (x : State). Gives (go_on c.function c.tasks c.values c.places) x) (sym d)

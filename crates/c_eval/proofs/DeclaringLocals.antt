-- What the declaration of a local leaves.
use Rattle.std.proofs.Common.{◌≡◌, ℕ, Option, ap, sym}
use Rattle.pcc_base.specs.Outcome.{Listing}
use Rattle.c_tree.specs.Evaluation.{type_at}
use Rattle.c_tree.specs.Program.{Expression, Scalar}
use Rattle.c_tree.specs.Store.{State, Gives, visited, with_local, zero_of}
use Rattle.c_eval_laws.specs.Steps.{Configuration, first_value, go_on}
use Rattle.c_eval_state.specs.Changes.{item_done}

-- a local
pub local_declared : (l : Listing) (n local : ℕ) (value : Option Expression) (c : Configuration) (s t : State)
    → t ≡ with_local local (zero_of (type_at c.function local)) (visited l n s)
    → item_done l (Scalar n local value) c s
    ≡ Gives (go_on c.function (first_value local (type_at c.function local) value c.tasks) c.values c.places) t
local_declared l n local value c s t e = ap (λ (x : State). Gives
    (go_on c.function (first_value local (type_at c.function local) value c.tasks) c.values c.places) x) (sym e)

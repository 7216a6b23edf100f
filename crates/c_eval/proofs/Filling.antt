-- An element that isn't there gets no first value.
use Rattle.std.proofs.Common.{◌≡◌, ◌≤◌, ℕ, suc, List, ◌∷◌, length, ap}
use Rattle.std.proofs.lemmas.Option.{slice_get_past}
use Rattle.std.specs.Prelude.{ℤ, pos, Option}
use Rattle.pcc_base.specs.Outcome.{Listing, Trapped}
use Rattle.pcc_base.specs.declared.run.Trap.TheVariants.{Check}
use Rattle.c_tree.specs.declared.types.IntegerType.{IntegerType}
use Rattle.c_tree.specs.declared.types.ValueType.TheVariants.{Integer}
use Rattle.c_tree.specs.Evaluation.{element_written, own_array}
use Rattle.c_tree.specs.Program.{Expression, Program}
use Rattle.c_tree.specs.Store.{State, Gives, Ends, and_then, array_named, in_type}
use Rattle.c_eval_laws.specs.Steps.{Configuration, go_on}
use Rattle.c_eval_laws.specs.Tasks.{Fills, FillsElement, below, top}
use Rattle.c_eval_state.specs.Changes.{done}

pub filled_past : (p : Program) (l : Listing) (k i : ℕ) (element : IntegerType) (es : List Expression)
    (c : Configuration) (s : State) → length (array_named s (own_array s k)) ≤ i
    → done p l (FillsElement k element i es) c s ≡ Ends (Trapped Check) s
filled_past p l k i element es c s h = ap (λ (o : Option ℤ). and_then
    (element_written (own_array s k) (pos i) (in_type (Integer element) (top c.values)) s o)
    (λ stored t. Gives (go_on c.function (Fills k element (suc i) es ∷ c.tasks) (below c.values) c.places) t))
    (slice_get_past (array_named s (own_array s k)) i h)

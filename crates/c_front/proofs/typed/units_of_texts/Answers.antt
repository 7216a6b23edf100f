-- What is told of texts without tokens is why they have none.
use Rattle.std.proofs.Common.{ℕ, List, Vec, Global, map}
use Rattle.c_front.proofs.typed.units_of_texts.Goals as goal

abbrev bytes : List (Vec ℕ Global) → List (List ℕ)
bytes texts = map (λ t. t.items) texts

pub returns-clause-refused : goal.returns-clause-refused
returns-clause-refused c = c.without_trees-in-Err.ensures.unread (bytes c.args.texts.now) c.in-Err.ensures.refused

-- What a contract sees of index lists, what each call leaves, and what they always keep.
use Rattle.std.specs.Prelude.{ℕ, ◌≡◌, ◌≢◌, ◌<◌, List, [], ◌∷◌, ◌++◌, replicate, Some, slice_get}
use Rattle.std.specs.Prelude.{slice_set, slice_index_or}
use Rattle.std.specs.List.{AllByRecursion}

-- the nodes are the numbers below `nodes`, and each list has some of them in order
pub record Lists : Type 0 where
  pub nodes : ℕ
  pub lists : List (List ℕ)

-- the node is not among these
abbrev pub IsAbsent : ℕ → List ℕ → Type 0
IsAbsent node xs = AllByRecursion (λ x. x ≢ node) xs

-- no node of one list is in the other
abbrev pub AreApart : List ℕ → List ℕ → Type 0
AreApart xs ys = AllByRecursion (λ x. IsAbsent x ys) xs

-- no node stands twice
abbrev pub IsOnce : List ℕ → Type 0
IsOnce [] = Unit {0}
IsOnce (x ∷ xs) = IsAbsent x xs × IsOnce xs

-- the nodes of a list, in order
abbrev pub nodes_of : Lists → ℕ → List ℕ
nodes_of s list = slice_index_or s.lists list []

-- the node is in the list, with these before it and these after it
abbrev pub StandsIn : Lists → ℕ → List ℕ → ℕ → List ℕ → Type 0
StandsIn s list before node after = slice_get s.lists list ≡ Some (before ++ node ∷ after)

-- the node is in some list
abbrev pub IsListed : Lists → ℕ → Type 0
IsListed s node = (list : ℕ) × (before : List ℕ) × (after : List ℕ) × StandsIn s list before node after

-- so many nodes, all in no list, and so many lists
abbrev pub empty_lists : ℕ → ℕ → Lists
empty_lists nodes lists = record { nodes = nodes; lists = replicate lists [] }

-- the same lists, of so many nodes
abbrev pub with_nodes : Lists → ℕ → Lists
with_nodes s nodes = record { nodes = nodes; lists = s.lists }

-- one more list, which is empty
abbrev pub with_empty_list : Lists → Lists
with_empty_list s = record { nodes = s.nodes; lists = s.lists ++ [] ∷ [] }

-- these nodes in a list, and all other lists as they were
abbrev pub with_list : Lists → ℕ → List ℕ → Lists
with_list s list xs = record { nodes = s.nodes; lists = slice_set s.lists list xs }

-- What index lists always keep: a list has no node twice and only nodes that are there, and no node is in two lists.
pub record IsLists (s : Lists) : Type 0 where
  pub once : (list : ℕ) (xs : List ℕ) → slice_get s.lists list ≡ Some xs → IsOnce xs
  pub within : (list : ℕ) (xs : List ℕ) → slice_get s.lists list ≡ Some xs → AllByRecursion (λ x. x < s.nodes) xs
  pub apart : (list other : ℕ) (xs ys : List ℕ) → list ≢ other → slice_get s.lists list ≡ Some xs
      → slice_get s.lists other ≡ Some ys → AreApart xs ys

-- How links stand for lists: each node has the nodes right before and right after it, and each list its first and last.
use Rattle.std.specs.Prelude.{ℕ, zero, suc, ◌≡◌, ◌<◌, ◌≤◌, ◌+◌, ◌-◌, List, [], ◌∷◌, length, map, Option, Some, None}
use Rattle.std.specs.Prelude.{slice_get}
use Rattle.std.specs.Prelude.{slice_set}
use Rattle.index_lists.specs.declared.link.Link.{Link}
use Rattle.index_lists.specs.declared.link.Ends.{Ends}
use Rattle.index_lists.specs.Lists.{IsOnce}

-- the first of these nodes, or `after` where there are none
abbrev pub first_or : List ℕ → Option ℕ → Option ℕ
first_or [] after = after
first_or (x ∷ xs) after = Some x

-- the last of these nodes, or `before` where there are none
abbrev pub last_or : List ℕ → Option ℕ → Option ℕ
last_or [] before = before
last_or (x ∷ xs) before = last_or xs (Some x)

-- These nodes stand in this order in a list, behind `before` and before `after`: each has its neighbours in its link.
abbrev pub AreLinked : List Link → ℕ → Option ℕ → List ℕ → Option ℕ → Type 0
AreLinked links list before [] after = Unit {0}
AreLinked links list before (x ∷ xs) after =
    (slice_get links x ≡ Some (record { list = list; previous = before; next = first_or xs after }))
    × AreLinked links list (Some x) xs after

-- the ends of a list of these nodes
abbrev pub ends_of : List ℕ → Ends
ends_of xs = record { first = first_or xs None; last = last_or xs None; count = length xs }

-- a list has these nodes: its ends are theirs, each is linked to its neighbours, and none stands twice
pub record IsThreaded (links : List Link) (ends : List Ends) (list : ℕ) (xs : List ℕ) : Type 0 where
  pub ends_are : slice_get ends list ≡ Some (ends_of xs)
  pub linked : AreLinked links list None xs None
  pub once : IsOnce xs

-- links and ends are those of these lists
pub record AreIndexed (links : List Link) (ends : List Ends) (lists : List (List ℕ)) : Type 0 where
  pub as_many : length ends ≡ length lists
  pub threaded : (list : ℕ) (xs : List ℕ) → slice_get lists list ≡ Some xs → IsThreaded links ends list xs

-- the next node that a link names
abbrev pub next_of : Option Link → Option ℕ
next_of None = None
next_of (Some link) = link.next

-- so many nodes from a node on, each the next of the one before it
abbrev pub walk : List Link → ℕ → Option ℕ → List ℕ
walk links zero from = []
walk links (suc n) None = []
walk links (suc n) (Some x) = x ∷ walk links n (next_of (slice_get links x))

-- the nodes of each list, from its first on
abbrev pub walks : List Link → List Ends → List (List ℕ)
walks links ends = map (λ e. walk links e.count e.first) ends

-- the lists that the links stand for are those that they are walked in, and there are fewer than 2^32 nodes
pub record IsIndex (links : List Link) (ends : List Ends) : Type 0 where
  pub indexed : AreIndexed links ends (walks links ends)
  pub few_nodes : length links ≤ 0xffffffff

-- the node has a link, if it is one
abbrev pub IsOneOf : List Link → Option ℕ → Type 0
IsOneOf links None = Unit {0}
IsOneOf links (Some x) = x < length links

-- the link with another next node
abbrev pub linked_next : Option Link → Option ℕ → Option Link
linked_next None next = None
linked_next (Some link) next = Some (record { list = link.list; previous = link.previous; next = next })

-- the link with another previous node
abbrev pub linked_previous : Option Link → Option ℕ → Option Link
linked_previous None previous = None
linked_previous (Some link) previous = Some (record { list = link.list; previous = previous; next = link.next })

-- the links with this one for a node, if it is any
abbrev pub with_link : List Link → ℕ → Option Link → List Link
with_link links x None = links
with_link links x (Some link) = slice_set links x link

-- the links where `next` stands right after a node, if it is one
abbrev pub with_next : List Link → Option ℕ → Option ℕ → List Link
with_next links None next = links
with_next links (Some x) next = with_link links x (linked_next (slice_get links x) next)

-- the links where `previous` stands right before a node, if it is one
abbrev pub with_previous : List Link → Option ℕ → Option ℕ → List Link
with_previous links None previous = links
with_previous links (Some x) previous = with_link links x (linked_previous (slice_get links x) previous)

-- the ends where `next` stands first, unless a node is before it
abbrev pub with_first : Ends → Option ℕ → Option ℕ → Ends
with_first ends None next = record { first = next; last = ends.last; count = ends.count }
with_first ends (Some x) next = ends

-- the ends where `previous` stands last, unless a node is after it
abbrev pub with_last : Ends → Option ℕ → Option ℕ → Ends
with_last ends None previous = record { first = ends.first; last = previous; count = ends.count }
with_last ends (Some x) previous = ends

-- one node more
abbrev pub more : Ends → Ends
more ends = record { first = ends.first; last = ends.last; count = ends.count + 1 }

-- one node fewer
abbrev pub less : Ends → Ends
less ends = record { first = ends.first; last = ends.last; count = ends.count - 1 }

-- the links where a node stands in the place that its link names
abbrev pub with_node : List Link → ℕ → Link → List Link
with_node links node link =
    with_previous (with_next (slice_set links node link) link.previous (Some node)) link.next (Some node)

-- the ends of the list that a node came into, in the place that its link names
abbrev pub ends_with_node : Ends → ℕ → Link → Ends
ends_with_node ends node link = more (with_last (with_first ends link.previous (Some node)) link.next (Some node))

-- the links where the neighbours of a node that has this link stand next to one another
abbrev pub without_node : List Link → Link → List Link
without_node links link = with_previous (with_next links link.previous link.next) link.next link.previous

-- the ends of the list that a node with this link went out of
abbrev pub ends_without_node : Ends → Link → Ends
ends_without_node ends link = less (with_last (with_first ends link.previous link.next) link.next link.previous)

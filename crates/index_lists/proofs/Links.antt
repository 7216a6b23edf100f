-- Nodes that are linked: what a changed link leaves of them, and what a node does that comes in or goes out.
use Rattle.std.proofs.Common.{ℕ, zero, suc, ◌≡◌, ◌≢◌, ◌<◌, List, [], ◌∷◌, ◌++◌, length, set, Option, Some, None}
use Rattle.std.proofs.Common.{refl, sym, ap, arith, ◌∙◌}
use Rattle.std.specs.List.{AllByRecursion, slice_get}
use Rattle.std.proofs.lemmas.List.{length-set}
use Rattle.std.proofs.lemmas.Option.{slice_get_within, same_Some}
use Rattle.pcc_base.proofs.Lists.{all-append, all-left, all-right}
use Rattle.index_lists.specs.declared.link.Link.{Link}
use Rattle.index_lists.specs.Lists.{IsAbsent, AreApart, IsOnce}
use Rattle.index_lists.specs.Links.{AreLinked, first_or, last_or, linked_next, linked_previous, with_link, with_next}
use Rattle.index_lists.specs.Links.{with_previous, with_node, without_node}

-- ---- one element of a list

-- an element stays where another is set
pub get-other : {X : Type 0} (xs : List X) (i j : ℕ) (v : X) → j ≢ i → slice_get (set xs i v) j ≡ slice_get xs j
get-other [] i j v n = refl
get-other (x ∷ xs) zero zero v n = absurd (n refl)
get-other (x ∷ xs) zero (suc j) v n = refl
get-other (x ∷ xs) (suc i) zero v n = refl
get-other (x ∷ xs) (suc i) (suc j) v n = get-other xs i j v (λ e. n (ap suc e))

-- an element that is set is there
pub get-same : {X : Type 0} (xs : List X) (i : ℕ) (v : X) → i < length xs → slice_get (set xs i v) i ≡ Some v
get-same [] i v l = absurd (omega arith)
get-same (x ∷ xs) zero v l = refl
get-same (x ∷ xs) (suc i) v l = get-same xs i v (omega arith)

-- what holds of each of two lists that were joined
pub all-split : {X : Type 0} (P : X → Type 0) (xs ys : List X) → AllByRecursion P (xs ++ ys)
    → AllByRecursion P xs × AllByRecursion P ys
all-split P xs ys h = (all-left P xs ys h, all-right P xs ys h)

-- ---- nodes that are apart

-- no node is in an empty list
apart-nil : (ys : List ℕ) → AreApart ys []
apart-nil [] = tt
apart-nil (y ∷ ys) = (tt, apart-nil ys)

-- a node more that is not among the others
apart-cons : (x : ℕ) (xs ys : List ℕ) → IsAbsent x ys → AreApart ys xs → AreApart ys (x ∷ xs)
apart-cons x xs [] n h = tt
apart-cons x xs (y ∷ ys) n h = ((λ e. n.0 (sym e), h.0), apart-cons x xs ys n.1 h.1)

-- lists are apart either way
pub apart-swap : (xs ys : List ℕ) → AreApart xs ys → AreApart ys xs
apart-swap [] ys h = apart-nil ys
apart-swap (x ∷ xs) ys h = apart-cons x xs ys h.0 (apart-swap xs ys h.1)

-- a list where no node stands twice, in two parts
pub once-split : (xs ys : List ℕ) → IsOnce (xs ++ ys) → IsOnce xs × IsOnce ys × AreApart xs ys
once-split [] ys h = (tt, h, tt)
once-split (x ∷ xs) ys h =
    let r = once-split xs ys h.1 in
    let n = all-split (λ y. y ≢ x) xs ys h.0 in
    ((n.0, r.0), r.1, (n.1, r.2))

-- two lists that are apart, in one
pub once-join : (xs ys : List ℕ) → IsOnce xs → IsOnce ys → AreApart xs ys → IsOnce (xs ++ ys)
once-join [] ys h g n = g
once-join (x ∷ xs) ys h g n = (all-append (λ y. y ≢ x) xs ys h.0 n.0, once-join xs ys h.1 g n.1)

-- a node more that is not among the nodes of a list
apart-behind : (before : List ℕ) (node : ℕ) (after : List ℕ) → IsAbsent node before → AreApart before after
    → AreApart before (node ∷ after)
apart-behind [] node after n h = tt
apart-behind (x ∷ before) node after n h = ((λ e. n.0 (sym e), h.0), apart-behind before node after n.1 h.1)

-- a node more in a list that doesn't have it
pub once-insert : (before : List ℕ) (node : ℕ) (after : List ℕ) → IsOnce (before ++ after)
    → IsAbsent node (before ++ after) → IsOnce (before ++ node ∷ after)
once-insert before node after h n =
    let r = once-split before after h in
    let out = all-split (λ x. x ≢ node) before after n in
    once-join before (node ∷ after) r.0 (out.1, r.1) (apart-behind before node after out.0 r.2)

-- a node fewer in a list
pub once-remove : (before : List ℕ) (node : ℕ) (after : List ℕ) → IsOnce (before ++ node ∷ after)
    → IsOnce (before ++ after)
once-remove [] node after h = h.1
once-remove (x ∷ before) node after h =
    let n = all-split (λ y. y ≢ x) before (node ∷ after) h.0 in
    (all-append (λ y. y ≢ x) before after n.0 n.1.1, once-remove before node after h.1)

-- what the last of some nodes is not, where none is
last-other : (x : ℕ) (xs : List ℕ) → IsAbsent x xs → last_or xs None ≡ Some x → ⊥
last-other x [] n e = absurd (cc)
last-other x (y ∷ []) n e = n.0 (same_Some y x e)
last-other x (y ∷ z ∷ xs) n e = last-other x (z ∷ xs) n.1 e

-- what the first of some nodes is not, where none is
first-other : (x : ℕ) (xs : List ℕ) → IsAbsent x xs → first_or xs None ≡ Some x → ⊥
first-other x [] n e = absurd (cc)
first-other x (y ∷ xs) n e = n.0 (same_Some y x e)

-- the node, if it is any, is not among these
abbrev pub IsNoneOf : Option ℕ → List ℕ → Type 0
IsNoneOf None xs = Unit {0}
IsNoneOf (Some x) xs = IsAbsent x xs

-- the last of a list is not in one apart from it
pub last-apart : (xs ys : List ℕ) → AreApart xs ys → IsNoneOf (last_or xs None) ys
last-apart [] ys h = tt
last-apart (x ∷ []) ys h = h.0
last-apart (x ∷ y ∷ xs) ys h = last-apart (y ∷ xs) ys h.1

-- the first of a list is not in one apart from it
pub first-apart : (xs ys : List ℕ) → AreApart xs ys → IsNoneOf (first_or xs None) ys
first-apart [] ys h = tt
first-apart (x ∷ xs) ys h = h.0

-- ---- a changed link

-- no link comes or goes
pub length-with_link : (links : List Link) (x : ℕ) (link : Option Link) → length (with_link links x link) ≡ length links
length-with_link links x None = refl
length-with_link links x (Some link) = length-set links x link

-- no link comes or goes where a next node is set
pub length-with_next : (links : List Link) (o n : Option ℕ) → length (with_next links o n) ≡ length links
length-with_next links None n = refl
length-with_next links (Some x) n = length-with_link links x (linked_next (slice_get links x) n)

-- no link comes or goes where a previous node is set
pub length-with_previous : (links : List Link) (o n : Option ℕ) → length (with_previous links o n) ≡ length links
length-with_previous links None n = refl
length-with_previous links (Some x) n = length-with_link links x (linked_previous (slice_get links x) n)

-- a link stays where another changes
get-link : (links : List Link) (x y : ℕ) (link : Option Link) → y ≢ x
    → slice_get (with_link links x link) y ≡ slice_get links y
get-link links x y None n = refl
get-link links x y (Some link) n = get-other links x y link n

-- a link stays where the next node of another is set
get-next : (links : List Link) (o n : Option ℕ) (y : ℕ) → (o ≡ Some y → ⊥)
    → slice_get (with_next links o n) y ≡ slice_get links y
get-next links None n y d = refl
get-next links (Some x) n y d = get-link links x y (linked_next (slice_get links x) n) (λ e. d (ap Some (sym e)))

-- a link stays where the previous node of another is set
get-previous : (links : List Link) (o n : Option ℕ) (y : ℕ) → (o ≡ Some y → ⊥)
    → slice_get (with_previous links o n) y ≡ slice_get links y
get-previous links None n y d = refl
get-previous links (Some x) n y d =
    get-link links x y (linked_previous (slice_get links x) n) (λ e. d (ap Some (sym e)))

-- the link whose next node is set
get-next-same : (links : List Link) (x : ℕ) (k : Link) (n : Option ℕ) → slice_get links x ≡ Some k
    → slice_get (with_next links (Some x) n) x ≡ Some (record { list = k.list; previous = k.previous; next = n })
get-next-same links x k n e =
    rw e (get-same links x (record { list = k.list; previous = k.previous; next = n }) (slice_get_within links x k e))

-- the link whose previous node is set
get-previous-same : (links : List Link) (x : ℕ) (k : Link) (n : Option ℕ) → slice_get links x ≡ Some k
    → slice_get (with_previous links (Some x) n) x ≡ Some (record { list = k.list; previous = n; next = k.next })
get-previous-same links x k n e =
    rw e (get-same links x (record { list = k.list; previous = n; next = k.next }) (slice_get_within links x k e))

-- ---- linked nodes

-- linked nodes in two parts
pub linked-split : (links : List Link) (l : ℕ) (b : Option ℕ) (xs ys : List ℕ) (a : Option ℕ)
    → AreLinked links l b (xs ++ ys) a
    → AreLinked links l b xs (first_or ys a) × AreLinked links l (last_or xs b) ys a
linked-split links l b [] ys a h = (tt, h)
linked-split links l b (x ∷ []) ys a h = ((h.0, tt), h.1)
linked-split links l b (x ∷ y ∷ xs) ys a h =
    let r = linked-split links l (Some x) (y ∷ xs) ys a h.1 in
    ((h.0, r.0), r.1)

-- two parts of linked nodes, in one
pub linked-join : (links : List Link) (l : ℕ) (b : Option ℕ) (xs ys : List ℕ) (a : Option ℕ)
    → AreLinked links l b xs (first_or ys a) → AreLinked links l (last_or xs b) ys a
    → AreLinked links l b (xs ++ ys) a
linked-join links l b [] ys a h g = g
linked-join links l b (x ∷ []) ys a h g = (h.0, g)
linked-join links l b (x ∷ y ∷ xs) ys a h g = (h.0, linked-join links l (Some x) (y ∷ xs) ys a h.1 g)

-- the nodes stay linked where another's link is set
pub linked-set : (links : List Link) (l : ℕ) (b : Option ℕ) (xs : List ℕ) (a : Option ℕ) (x : ℕ) (k : Link)
    → IsAbsent x xs → AreLinked links l b xs a → AreLinked (set links x k) l b xs a
linked-set links l b [] a x k n h = tt
linked-set links l b (y ∷ xs) a x k n h =
    (get-other links x y k n.0 ∙ h.0, linked-set links l (Some y) xs a x k n.1 h.1)

-- the nodes stay linked where another's link changes
linked-link : (links : List Link) (l : ℕ) (b : Option ℕ) (xs : List ℕ) (a : Option ℕ) (x : ℕ) (k : Option Link)
    → IsAbsent x xs → AreLinked links l b xs a → AreLinked (with_link links x k) l b xs a
linked-link links l b xs a x None n h = h
linked-link links l b xs a x (Some k) n h = linked-set links l b xs a x k n h

-- the nodes stay linked where the next node of another is set
pub linked-next : (links : List Link) (l : ℕ) (b : Option ℕ) (xs : List ℕ) (a o n : Option ℕ)
    → IsNoneOf o xs → AreLinked links l b xs a → AreLinked (with_next links o n) l b xs a
linked-next links l b xs a None n d h = h
linked-next links l b xs a (Some x) n d h = linked-link links l b xs a x (linked_next (slice_get links x) n) d h

-- the nodes stay linked where the previous node of another is set
pub linked-previous : (links : List Link) (l : ℕ) (b : Option ℕ) (xs : List ℕ) (a o n : Option ℕ)
    → IsNoneOf o xs → AreLinked links l b xs a → AreLinked (with_previous links o n) l b xs a
linked-previous links l b xs a None n d h = h
linked-previous links l b xs a (Some x) n d h =
    linked-link links l b xs a x (linked_previous (slice_get links x) n) d h

-- linked nodes before another one than before
relink-next : (links : List Link) (l : ℕ) (b : Option ℕ) (xs : List ℕ) (a n : Option ℕ) → IsOnce xs
    → AreLinked links l b xs a → AreLinked (with_next links (last_or xs None) n) l b xs n
relink-next links l b [] a n d h = tt
relink-next links l b (x ∷ []) a n d h = (get-next-same links x _ n h.0, tt)
relink-next links l b (x ∷ y ∷ xs) a n d h = (
  get-next links (last_or (y ∷ xs) None) n x (last-other x (y ∷ xs) d.0) ∙ h.0,
  relink-next links l (Some x) (y ∷ xs) a n d.1 h.1,
)

-- linked nodes behind another one than before
relink-previous : (links : List Link) (l : ℕ) (b : Option ℕ) (xs : List ℕ) (a n : Option ℕ) → IsOnce xs
    → AreLinked links l b xs a → AreLinked (with_previous links (first_or xs None) n) l n xs a
relink-previous links l b [] a n d h = tt
relink-previous links l b (x ∷ xs) a n d h = (
  get-previous-same links x _ n h.0,
  linked-link links l (Some x) xs a x (linked_previous (slice_get links x) n) d.0 h.1,
)

-- a node that is linked in one list is not in another
linked-absent : (links : List Link) (m : ℕ) (b : Option ℕ) (ys : List ℕ) (a : Option ℕ) (x : ℕ) (k : Link)
    → slice_get links x ≡ Some k → k.list ≢ m → AreLinked links m b ys a → IsAbsent x ys
linked-absent links m b [] a x k e n h = tt
linked-absent links m b (y ∷ ys) a x k e n h = (
  λ s. n (ap (λ (r : Link). r.list) (same_Some k _ (sym e ∙ (ap (slice_get links) (sym s) ∙ h.0)))),
  linked-absent links m (Some y) ys a x k e n h.1,
)

-- the nodes of two lists are apart
pub linked-apart : (links : List Link) (l m : ℕ) (b c : Option ℕ) (xs ys : List ℕ) (a d : Option ℕ) → l ≢ m
    → AreLinked links l b xs a → AreLinked links m c ys d → AreApart xs ys
linked-apart links l m b c [] ys a d n h g = tt
linked-apart links l m b c (x ∷ xs) ys a d n h g = (
  linked-absent links m c ys d x _ h.0 n g,
  linked-apart links l m (Some x) c xs ys a d n h.1 g,
)

-- linked nodes have links
pub linked-within : (links : List Link) (l : ℕ) (b : Option ℕ) (xs : List ℕ) (a : Option ℕ)
    → AreLinked links l b xs a → AllByRecursion (λ x. x < length links) xs
linked-within links l b [] a h = tt
linked-within links l b (x ∷ xs) a h = (slice_get_within links x _ h.0, linked-within links l (Some x) xs a h.1)

-- the link of a node, by what stands before it and after it
pub linked-at : (links : List Link) (l : ℕ) (before : List ℕ) (node : ℕ) (after : List ℕ)
    → AreLinked links l None (before ++ node ∷ after) None
    → slice_get links node ≡ Some (record { list = l; previous = last_or before None; next = first_or after None })
linked-at links l before node after h = (linked-split links l None before (node ∷ after) None h).1.0

-- ---- a node that comes in or goes out

-- the node is linked in its new place
pub linked-insert : (links : List Link) (l : ℕ) (before : List ℕ) (node : ℕ) (after : List ℕ) → node < length links
    → IsAbsent node (before ++ after) → IsOnce (before ++ after) → AreLinked links l None (before ++ after) None
    → AreLinked
    (with_node links node (record { list = l; previous = last_or before None; next = first_or after None }))
    l None (before ++ node ∷ after) None
linked-insert links l before node after w n d h =
    let k : Link = record { list = l; previous = last_or before None; next = first_or after None } in
    let out = all-split (λ x. x ≢ node) before after n in
    let parts = once-split before after d in
    let whole = linked-split links l None before after None h in
    let one : List Link = set links node k in
    let two : List Link = with_next one (last_or before None) (Some node) in
    let a1 : AreLinked one l None before (first_or after None) =
    linked-set links l None before (first_or after None) node k out.0 whole.0 in
    let b1 : AreLinked one l (last_or before None) after None =
    linked-set links l (last_or before None) after None node k out.1 whole.1 in
    let a2 : AreLinked two l None before (Some node) =
    relink-next one l None before (first_or after None) (Some node) parts.0 a1 in
    let b2 : AreLinked two l (last_or before None) after None =
    linked-next one l (last_or before None) after None (last_or before None) (Some node)
    (last-apart before after parts.2) b1 in
    let back = first-apart after before (apart-swap before after parts.2) in
    let a3 = linked-previous two l None before (Some node) (first_or after None) (Some node) back a2 in
    let b3 = relink-previous two l (last_or before None) after None (Some node) parts.1 b2 in
    let there : slice_get (with_previous two (first_or after None) (Some node)) node ≡ Some k =
    get-previous two (first_or after None) (Some node) node (first-other node after out.1)
    ∙ (get-next one (last_or before None) (Some node) node (last-other node before out.0) ∙ get-same links node k w) in
    linked-join _ l None before (node ∷ after) None a3 (there, b3)

-- the nodes of another list stay linked where a node comes in
pub linked-insert-other : (links : List Link) (l m : ℕ) (before : List ℕ) (node : ℕ) (after ys : List ℕ)
    → IsAbsent node ys → AreApart before ys → AreApart after ys → AreLinked links m None ys None
    → AreLinked
    (with_node links node (record { list = l; previous = last_or before None; next = first_or after None }))
    m None ys None
linked-insert-other links l m before node after ys n front back h =
    linked-previous _ m None ys None (first_or after None) (Some node) (first-apart after ys back)
    (linked-next _ m None ys None (last_or before None) (Some node) (last-apart before ys front)
    (linked-set links m None ys None node _ n h))

-- the nodes that are left are linked
pub linked-remove : (links : List Link) (l : ℕ) (before : List ℕ) (node : ℕ) (after : List ℕ)
    → IsOnce (before ++ node ∷ after) → AreLinked links l None (before ++ node ∷ after) None
    → AreLinked
    (without_node links (record { list = l; previous = last_or before None; next = first_or after None }))
    l None (before ++ after) None
linked-remove links l before node after d h =
    let parts = once-split before (node ∷ after) d in
    let behind : AreApart after before = (apart-swap before (node ∷ after) parts.2).1 in
    let whole = linked-split links l None before (node ∷ after) None h in
    let one : List Link = with_next links (last_or before None) (first_or after None) in
    let a1 : AreLinked one l None before (first_or after None) =
    relink-next links l None before (Some node) (first_or after None) parts.0 whole.0 in
    let b1 : AreLinked one l (Some node) after None =
    linked-next links l (Some node) after None (last_or before None) (first_or after None)
    (last-apart before after (apart-swap after before behind)) whole.1.1 in
    let a2 = linked-previous one l None before (first_or after None) (first_or after None) (last_or before None)
    (first-apart after before behind) a1 in
    let b2 = relink-previous one l (Some node) after None (last_or before None) parts.1.1 b1 in
    linked-join _ l None before after None a2 b2

-- the nodes of another list stay linked where a node goes out
pub linked-remove-other : (links : List Link) (l m : ℕ) (before after ys : List ℕ)
    → AreApart before ys → AreApart after ys → AreLinked links m None ys None
    → AreLinked
    (without_node links (record { list = l; previous = last_or before None; next = first_or after None }))
    m None ys None
linked-remove-other links l m before after ys front back h =
    linked-previous _ m None ys None (first_or after None) (last_or before None) (first-apart after ys back)
    (linked-next links m None ys None (last_or before None) (first_or after None) (last-apart before ys front) h)

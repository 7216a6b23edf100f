use Rattle.std.proofs.Common.{ℕ, ◌≡◌, ◌++◌, ◌∷◌, [], List, length, refl, sym, ap, subst, arith, ◌∙◌}
use Rattle.std.specs.List.{slice_get}
use Rattle.index_lists.specs.Lists.{Lists, IsListed, with_list, with_nodes, nodes_of}
use Rattle.index_lists.proofs.Callers.{unlisted}
use Rattle.graph_tests.proofs.list_rows.edited.Goals as goal

-- so many nodes, these in the first list, and none in the second
abbrev first_of : ℕ → List ℕ → Lists
first_of n xs = record { nodes = n; lists = xs ∷ [] ∷ [] }

-- a node that is none of those in the first list is in none
not-there : (s : Lists) (n : ℕ) (xs : List ℕ) (node : ℕ) → s ≡ first_of n xs → (IsListed (first_of n xs) node → ⊥)
    → IsListed s node → ⊥
not-there s n xs node e f = subst (λ (t : Lists). IsListed t node → ⊥) (sym e) f

-- a node that is in the first list is in one
is-there : (s : Lists) (n : ℕ) (xs : List ℕ) (node : ℕ) → s ≡ first_of n xs → IsListed (first_of n xs) node
    → IsListed s node
is-there s n xs node e f = subst (λ (t : Lists). IsListed t node) (sym e) f

-- the first list after a node comes last into it
after-back : (s : Lists) (n : ℕ) (xs : List ℕ) (node : ℕ) (t : Lists) → s ≡ first_of n xs
    → t ≡ with_list s 0 (nodes_of s 0 ++ node ∷ []) → t ≡ first_of n (xs ++ node ∷ [])
after-back s n xs node t e h = h ∙ ap (λ (r : Lists). with_list r 0 (nodes_of r 0 ++ node ∷ [])) e

-- the first list after another change
after-set : (s : Lists) (n : ℕ) (xs ys : List ℕ) (t : Lists) → s ≡ first_of n xs → t ≡ with_list s 0 ys
    → t ≡ first_of n ys
after-set s n xs ys t e h = h ∙ ap (λ (r : Lists). with_list r 0 ys) e

pub push_back-requires-clause-in_none : goal.push_back-requires-clause-in_none
push_back-requires-clause-in_none g c =
    not-there c.in_ok-lists.lists 4 [] 2 c.in_ok-lists.ensures (unlisted (first_of 4 []) 2 (tt, (tt, tt)))

pub push_back-requires-2-clause-in_none : goal.push_back-requires-2-clause-in_none
push_back-requires-2-clause-in_none g c =
    let e1 = after-back _ 4 [] 2 _ c.in_ok-lists.ensures c.push_back.ensures.lists in
    not-there _ 4 (2 ∷ []) 0 e1 (unlisted (first_of 4 (2 ∷ [])) 0 ((λ (q : 2 ≡ 0). omega (arith, q), tt), (tt, tt)))

pub push_after-requires-clause-at : goal.push_after-requires-clause-at
push_after-requires-clause-at g c =
    let e1 = after-back _ 4 [] 2 _ c.in_ok-lists.ensures c.push_back.ensures.lists in
    let e2 = after-back _ 4 (2 ∷ []) 0 _ e1 c.push_back-2.ensures.lists in
    is-there _ 4 (2 ∷ 0 ∷ []) 2 e2 (0, [], 0 ∷ [], refl)

pub push_after-requires-clause-in_none : goal.push_after-requires-clause-in_none
push_after-requires-clause-in_none g c =
    let e1 = after-back _ 4 [] 2 _ c.in_ok-lists.ensures c.push_back.ensures.lists in
    let e2 = after-back _ 4 (2 ∷ []) 0 _ e1 c.push_back-2.ensures.lists in
    not-there _ 4 (2 ∷ 0 ∷ []) 3 e2 (unlisted (first_of 4 (2 ∷ 0 ∷ [])) 3
    ((λ (q : 2 ≡ 3). omega (arith, q), (λ (q : 0 ≡ 3). omega (arith, q), tt)), (tt, tt)))

pub unlink-requires : goal.unlink-requires
unlink-requires g c =
    let e1 = after-back _ 4 [] 2 _ c.in_ok-lists.ensures c.push_back.ensures.lists in
    let e2 = after-back _ 4 (2 ∷ []) 0 _ e1 c.push_back-2.ensures.lists in
    let stands = ap (λ (s : Lists). slice_get s.lists 0) e2 in
    let e3 = after-set _ 4 (2 ∷ 0 ∷ []) (2 ∷ 3 ∷ 0 ∷ []) _ e2 (c.push_after.ensures.lists 0 [] (0 ∷ []) stands) in
    is-there _ 4 (2 ∷ 3 ∷ 0 ∷ []) 0 e3 (0, 2 ∷ 3 ∷ [], [], refl)

pub grow-requires : goal.grow-requires
grow-requires g c =
    let e1 = after-back _ 4 [] 2 _ c.in_ok-lists.ensures c.push_back.ensures.lists in
    let e2 = after-back _ 4 (2 ∷ []) 0 _ e1 c.push_back-2.ensures.lists in
    let stands = ap (λ (s : Lists). slice_get s.lists 0) e2 in
    let e3 = after-set _ 4 (2 ∷ 0 ∷ []) (2 ∷ 3 ∷ 0 ∷ []) _ e2 (c.push_after.ensures.lists 0 [] (0 ∷ []) stands) in
    let ends = ap (λ (s : Lists). slice_get s.lists 0) e3 in
    let e4 = after-set _ 4 (2 ∷ 3 ∷ 0 ∷ []) (2 ∷ 3 ∷ []) _ e3 (c.unlink.ensures.lists 0 (2 ∷ 3 ∷ []) [] ends) in
    let four = ap (λ (s : Lists). s.nodes) e4 in
    omega (arith, four)

pub returns-clause-first : goal.returns-clause-first
returns-clause-first g c =
    let e1 = after-back _ 4 [] 2 _ c.in_ok-lists.ensures c.push_back.ensures.lists in
    let e2 = after-back _ 4 (2 ∷ []) 0 _ e1 c.push_back-2.ensures.lists in
    let stands = ap (λ (s : Lists). slice_get s.lists 0) e2 in
    let e3 = after-set _ 4 (2 ∷ 0 ∷ []) (2 ∷ 3 ∷ 0 ∷ []) _ e2 (c.push_after.ensures.lists 0 [] (0 ∷ []) stands) in
    let ends = ap (λ (s : Lists). slice_get s.lists 0) e3 in
    let e4 = after-set _ 4 (2 ∷ 3 ∷ 0 ∷ []) (2 ∷ 3 ∷ []) _ e3 (c.unlink.ensures.lists 0 (2 ∷ 3 ∷ []) [] ends) in
    let e5 : c.grow.new.self ≡ first_of 6 (2 ∷ 3 ∷ []) =
    c.in_ok-grow.ensures ∙ ap (λ (s : Lists). with_nodes s 6) e4 in
    ap (λ (s : Lists). nodes_of s 0) e5

pub returns-clause-second : goal.returns-clause-second
returns-clause-second g c =
    let e1 = after-back _ 4 [] 2 _ c.in_ok-lists.ensures c.push_back.ensures.lists in
    let e2 = after-back _ 4 (2 ∷ []) 0 _ e1 c.push_back-2.ensures.lists in
    let stands = ap (λ (s : Lists). slice_get s.lists 0) e2 in
    let e3 = after-set _ 4 (2 ∷ 0 ∷ []) (2 ∷ 3 ∷ 0 ∷ []) _ e2 (c.push_after.ensures.lists 0 [] (0 ∷ []) stands) in
    let ends = ap (λ (s : Lists). slice_get s.lists 0) e3 in
    let e4 = after-set _ 4 (2 ∷ 3 ∷ 0 ∷ []) (2 ∷ 3 ∷ []) _ e3 (c.unlink.ensures.lists 0 (2 ∷ 3 ∷ []) [] ends) in
    let e5 : c.grow.new.self ≡ first_of 6 (2 ∷ 3 ∷ []) =
    c.in_ok-grow.ensures ∙ ap (λ (s : Lists). with_nodes s 6) e4 in
    ap (λ (s : Lists). nodes_of s 1) e5

pub returns-clause-lists : goal.returns-clause-lists
returns-clause-lists g c =
    let e1 = after-back _ 4 [] 2 _ c.in_ok-lists.ensures c.push_back.ensures.lists in
    let e2 = after-back _ 4 (2 ∷ []) 0 _ e1 c.push_back-2.ensures.lists in
    let stands = ap (λ (s : Lists). slice_get s.lists 0) e2 in
    let e3 = after-set _ 4 (2 ∷ 0 ∷ []) (2 ∷ 3 ∷ 0 ∷ []) _ e2 (c.push_after.ensures.lists 0 [] (0 ∷ []) stands) in
    let ends = ap (λ (s : Lists). slice_get s.lists 0) e3 in
    let e4 = after-set _ 4 (2 ∷ 3 ∷ 0 ∷ []) (2 ∷ 3 ∷ []) _ e3 (c.unlink.ensures.lists 0 (2 ∷ 3 ∷ []) [] ends) in
    let e5 : c.grow.new.self ≡ first_of 6 (2 ∷ 3 ∷ []) =
    c.in_ok-grow.ensures ∙ ap (λ (s : Lists). with_nodes s 6) e4 in
    ap (λ (s : Lists). length s.lists) e5

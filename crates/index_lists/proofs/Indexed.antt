-- Links and ends that stand for lists, and what they stand for after each call.
use Rattle.std.proofs.Common.{ℕ, zero, suc, ◌≡◌, ◌≢◌, ◌⊎◌, ◌<◌, ◌≤◌, ◌+◌, ◌-◌, List, [], ◌∷◌, ◌++◌, length, set, map}
use Rattle.std.proofs.Common.{get_or}
use Rattle.std.proofs.Common.{Option, Some, None, inl, inr, true, false, eqb, refl, sym, ap, subst, arith, ◌∙◌}
use Rattle.std.proofs.Common.{length-append}
use Rattle.std.proofs.Common.{take, drop, replicate, append_assoc}
use Rattle.std.specs.List.{AllByRecursion, slice_get, IsDistinct, list_any}
use Rattle.std.proofs.lemmas.List.{length-set, length-map, same_lists, get_or-map, append-nil, length_push}
use Rattle.std.proofs.lemmas.List.{length-replicate}
use Rattle.std.proofs.lemmas.List.{take_all}
use Rattle.std.proofs.lemmas.Option.{slice_get_within, slice_get-get_or, get_or_from_slice_get, same_Some}
use Rattle.std.proofs.lemmas.Bool.{cases_eq}
use Rattle.std.proofs.lemmas.Bool.Decides.{eqb_tells}
use Rattle.std.proofs.lemmas.Map.Steps.{length-le_from_distinct_below}
use Rattle.pcc_base.proofs.Lists.{get-last, get-append}
use Rattle.index_lists.specs.declared.link.Link.{Link}
use Rattle.index_lists.specs.declared.link.Ends.{Ends}
use Rattle.index_lists.specs.Lists.{Lists, IsLists, IsAbsent, IsOnce, IsListed, StandsIn, nodes_of}
use Rattle.index_lists.specs.Links.{AreLinked, first_or, last_or, ends_of, IsThreaded, AreIndexed, walk, walks}
use Rattle.index_lists.specs.Links.{IsIndex, IsOneOf, with_first, with_last, with_node}
use Rattle.index_lists.specs.Links.{without_node, ends_with_node, ends_without_node, more}
use Rattle.index_lists.proofs.Links.{get-other, get-same, all-split, once-insert, once-remove}
use Rattle.index_lists.proofs.Links.{linked-insert, linked-insert-other, linked-remove, linked-remove-other}
use Rattle.index_lists.proofs.Links.{linked-apart, linked-within, linked-at, length-with_next, length-with_previous}

-- ---- the lists that links are walked in

-- linked nodes are walked through
walk-linked : (links : List Link) (l : ℕ) (b : Option ℕ) (xs : List ℕ) (a c : Option ℕ) → AreLinked links l b xs a
    → walk links (length xs) (first_or xs c) ≡ xs
walk-linked links l b [] a c h = refl
walk-linked links l b (x ∷ xs) a c h = rw h.0 (ap (λ ys. x ∷ ys) (walk-linked links l (Some x) xs a a h.1))

-- the lists that links stand for are those that they are walked in
pub walks-are : (links : List Link) (ends : List Ends) (lists : List (List ℕ)) → AreIndexed links ends lists
    → walks links ends ≡ lists
walks-are links ends lists h =
    let f : Ends → List ℕ = λ e. walk links e.count e.first in
    same_lists (map f ends) lists (length-map ends f ∙ h.as_many) (λ k d w.
    let within : k < length ends = omega (arith, length-map ends f) in
    let there : k < length lists = omega (arith, h.as_many) in
    let xs = get_or lists k [] in
    let got : slice_get lists k ≡ Some xs = slice_get-get_or lists k [] there in
    let t = h.threaded k xs got in
    get_or-map f ends k (ends_of xs) d within
    ∙ (ap f (get_or_from_slice_get ends k (ends_of xs) (ends_of xs) t.ends_are)
    ∙ (walk-linked links k None xs None None t.linked ∙ sym (get_or_from_slice_get lists k xs d got))))

-- links and ends that stand for lists are an index
pub index-of : (links : List Link) (ends : List Ends) (lists : List (List ℕ)) → AreIndexed links ends lists
    → length links ≤ 0xffffffff → IsIndex links ends
index-of links ends lists h few = record {
  indexed = subst (AreIndexed links ends) (sym (walks-are links ends lists h)) h;
  few_nodes = few;
}

-- ---- what index lists always keep

-- what links and ends stand for are lists
pub indexed-lists : (links : List Link) (ends : List Ends) (lists : List (List ℕ)) → AreIndexed links ends lists
    → IsLists (record { nodes = length links; lists = lists })
indexed-lists links ends lists h = record {
  once = λ l xs e. (h.threaded l xs e).once;
  within = λ l xs e. linked-within links l None xs None (h.threaded l xs e).linked;
  apart = λ l m xs ys n e g.
      linked-apart links l m None None xs ys None None n (h.threaded l xs e).linked (h.threaded m ys g).linked;
}

-- ---- numbers of nodes

-- the test of std for numbers that differ
not-equal : (a b : ℕ) → (b ≡ a → ⊥) → eqb a b ≡ false
not-equal a b n = elim (eqb_tells a b) [ inl p ↦ absurd (n (sym p.1)) | inr q ↦ q.0 ]

-- the test of std for a node that is not among others
all-differ : (x : ℕ) (xs : List ℕ) → IsAbsent x xs → AllByRecursion (λ y. eqb x y ≡ false) xs
all-differ x [] h = tt
all-differ x (y ∷ xs) h = (not-equal x y h.0, all-differ x xs h.1)

-- the test of std for nodes that stand once
distinct-once : (xs : List ℕ) → IsOnce xs → IsDistinct eqb xs
unfolding IsDistinct
distinct-once [] h = tt
distinct-once (x ∷ xs) h = (all-differ x xs h.0, distinct-once xs h.1)

-- what holds of each holds of one that is found
found-holds : (P : ℕ → Type 0) (q : ℕ) (xs : List ℕ) → AllByRecursion P xs → list_any (eqb q) xs ≡ true → P q
found-holds P q [] h e = absurd (cc)
found-holds P q (x ∷ xs) h e =
    elim (eqb_tells q x) [
      | inl p ↦ subst P (sym p.1) h.0
      | inr p ↦ found-holds P q xs h.1 (rw p.0 at e)
    ]

-- a list in which no node stands twice has no more nodes than there are
once-few : (xs : List ℕ) (n : ℕ) → IsOnce xs → AllByRecursion (λ x. x < n) xs → length xs ≤ n
once-few xs n h w =
    length-le_from_distinct_below xs n (distinct-once xs h) (λ q e. found-holds (λ x. x < n) q xs w e)

-- where a node is in no list, a list that has all others has room
pub room-for : (links : List Link) (ends : List Ends) (lists : List (List ℕ)) (l : ℕ) (xs : List ℕ) (node : ℕ)
    → AreIndexed links ends lists → slice_get lists l ≡ Some xs → node < length links → IsAbsent node xs
    → length xs < length links
room-for links ends lists l xs node h e w n =
    let t = h.threaded l xs e in
    let few : length (node ∷ xs) ≤ length links =
    once-few (node ∷ xs) (length links) (n, t.once) (w, linked-within links l None xs None t.linked) in
    omega arith

-- the last of some nodes is one, if there is any
pub last-one : (links : List Link) (xs : List ℕ) → AllByRecursion (λ x. x < length links) xs
    → IsOneOf links (last_or xs None)
last-one links [] h = tt
last-one links (x ∷ []) h = h.0
last-one links (x ∷ y ∷ xs) h = last-one links (y ∷ xs) h.1

-- the first of some nodes is one, if there is any
pub first-one : (links : List Link) (xs : List ℕ) → AllByRecursion (λ x. x < length links) xs
    → IsOneOf links (first_or xs None)
first-one links [] h = tt
first-one links (x ∷ xs) h = h.0

-- as many links, the same nodes
pub one-same : (links other : List Link) (o : Option ℕ) → length other ≡ length links → IsOneOf links o
    → IsOneOf other o
one-same links other None e h = tt
one-same links other (Some x) e h = omega arith

-- ---- the ends of a list

-- ends with the same parts are the same
same-ends : (e f : Ends) → e.first ≡ f.first → e.last ≡ f.last → e.count ≡ f.count → e ≡ f
same-ends e f p q r =
    let make : Option ℕ → Option ℕ → ℕ → Ends = λ a b n. record { first = a; last = b; count = n } in
    ap (λ a. make a e.last e.count) p
    ∙ (ap (λ b. make f.first b e.count) q ∙ ap (λ n. make f.first f.last n) r)

-- the first of joined nodes
first_or-append : (xs ys : List ℕ) (a : Option ℕ) → first_or (xs ++ ys) a ≡ first_or xs (first_or ys a)
first_or-append [] ys a = refl
first_or-append (x ∷ xs) ys a = refl

-- the last of joined nodes
last_or-append : (xs ys : List ℕ) (b : Option ℕ) → last_or (xs ++ ys) b ≡ last_or ys (last_or xs b)
last_or-append [] ys b = refl
last_or-append (x ∷ xs) ys b = last_or-append xs ys (Some x)

-- some nodes have a last
last-some : (x : ℕ) (xs : List ℕ) → (p : ℕ) × (last_or (x ∷ xs) None ≡ Some p)
last-some x [] = (x, refl)
last-some x (y ∷ xs) = last-some y xs

-- the first of a list whose nodes behind `before` change
first-set : (e : Ends) (before after : List ℕ) (n : Option ℕ) → e.first ≡ first_or (before ++ after) None
    → (with_first e (last_or before None) n).first ≡ first_or before n
first-set e [] after n h = refl
first-set e (x ∷ xs) after n h = let s = last-some x xs in rw s.1 h

-- the last of a list whose nodes before `after` change
last-set : (e : Ends) (after : List ℕ) (c n : Option ℕ) → e.last ≡ last_or after c
    → (with_last e (first_or after None) n).last ≡ last_or after n
last-set e [] c n h = refl
last-set e (y ∷ ys) c n h = h

-- a first node leaves the last one and the count, a last node the first one and the count
first-keeps : (e : Ends) (o n : Option ℕ) → ((with_first e o n).last ≡ e.last) × ((with_first e o n).count ≡ e.count)
first-keeps e None n = (refl, refl)
first-keeps e (Some x) n = (refl, refl)

last-keeps : (e : Ends) (o n : Option ℕ) → ((with_last e o n).first ≡ e.first) × ((with_last e o n).count ≡ e.count)
last-keeps e None n = (refl, refl)
last-keeps e (Some x) n = (refl, refl)

-- the link of a node with these nodes before it and after it
abbrev pub between : ℕ → List ℕ → List ℕ → Link
between l before after = record { list = l; previous = last_or before None; next = first_or after None }

-- the ends of a list that a node came into
ends-insert : (l : ℕ) (before : List ℕ) (node : ℕ) (after : List ℕ)
    → ends_with_node (ends_of (before ++ after)) node (between l before after) ≡ ends_of (before ++ node ∷ after)
ends-insert l before node after =
    let e = ends_of (before ++ after) in
    let f : Ends = with_first e (last_or before None) (Some node) in
    let kept = first-keeps e (last_or before None) (Some node) in
    let also = last-keeps f (first_or after None) (Some node) in
    same-ends _ _
    (also.0 ∙ (first-set e before after (Some node) refl ∙ sym (first_or-append before (node ∷ after) None)))
    (last-set f after (last_or before None) (Some node) (kept.0 ∙ last_or-append before after None)
    ∙ sym (last_or-append before (node ∷ after) None))
    (ap (λ n. n + 1) (also.1 ∙ kept.1)
    ∙ omega (arith, length-append before after, length-append before (node ∷ after)))

-- the ends of a list that a node went out of
ends-remove : (l : ℕ) (before : List ℕ) (node : ℕ) (after : List ℕ)
    → ends_without_node (ends_of (before ++ node ∷ after)) (between l before after) ≡ ends_of (before ++ after)
ends-remove l before node after =
    let e = ends_of (before ++ node ∷ after) in
    let f : Ends = with_first e (last_or before None) (first_or after None) in
    let kept = first-keeps e (last_or before None) (first_or after None) in
    let also = last-keeps f (first_or after None) (last_or before None) in
    same-ends _ _
    (also.0 ∙ (first-set e before (node ∷ after) (first_or after None) refl ∙ sym (first_or-append before after None)))
    (last-set f after (Some node) (last_or before None) (kept.0 ∙ last_or-append before (node ∷ after) None)
    ∙ sym (last_or-append before after None))
    (ap (λ n. n - 1) (also.1 ∙ kept.1)
    ∙ omega (arith, length-append before after, length-append before (node ∷ after)))

-- ---- the lists after each call

-- the lists where one has other nodes, whose links are theirs, and the links of all others stay
indexed-set : (links other : List Link) (ends : List Ends) (lists : List (List ℕ)) (l : ℕ) (xs : List ℕ) (e : Ends)
    → AreIndexed links ends lists → l < length lists → e ≡ ends_of xs → AreLinked other l None xs None → IsOnce xs
    → ((m : ℕ) (ys : List ℕ) → m ≢ l → slice_get lists m ≡ Some ys → AreLinked other m None ys None)
    → AreIndexed other (set ends l e) (set lists l xs)
indexed-set links other ends lists l xs e h w are linked once rest = record {
  as_many = length-set ends l e ∙ (h.as_many ∙ sym (length-set lists l xs));
  threaded = λ m ys got.
      elim (cases_eq m l) [
        | inl q ↦
            let within : l < length ends = omega (arith, h.as_many) in
            let same : xs ≡ ys =
            same_Some xs ys (sym (get-same lists l xs w) ∙ (ap (slice_get (set lists l xs)) (sym q) ∙ got)) in
            let here : IsThreaded other (set ends l e) l xs =
            record { ends_are = get-same ends l e within ∙ ap Some are; linked = linked; once = once } in
            subst (λ zs. IsThreaded other (set ends l e) m zs) same
            (subst (λ i. IsThreaded other (set ends l e) i xs) (sym q) here)
        | inr n ↦
            let old : slice_get lists m ≡ Some ys = sym (get-other lists l m xs n) ∙ got in
            let t = h.threaded m ys old in
            record { ends_are = get-other ends l m e n ∙ t.ends_are; linked = rest m ys n old; once = t.once }
      ];
}

-- a node that was in no list comes into one, between two parts of it
indexed-insert : (links : List Link) (ends : List Ends) (lists : List (List ℕ)) (l : ℕ) (before : List ℕ) (node : ℕ)
    (after : List ℕ) → AreIndexed links ends lists → slice_get lists l ≡ Some (before ++ after) → node < length links
    → ((m : ℕ) (ys : List ℕ) → slice_get lists m ≡ Some ys → IsAbsent node ys)
    → AreIndexed (with_node links node (between l before after))
    (set ends l (ends_with_node (ends_of (before ++ after)) node (between l before after)))
    (set lists l (before ++ node ∷ after))
indexed-insert links ends lists l before node after h got w n =
    let t = h.threaded l (before ++ after) got in
    indexed-set links _ ends lists l (before ++ node ∷ after) _ h (slice_get_within lists l _ got)
    (ends-insert l before node after)
    (linked-insert links l before node after w (n l _ got) t.once t.linked)
    (once-insert before node after t.once (n l _ got))
    (λ m ys d old.
    let u = h.threaded m ys old in
    let out = linked-apart links l m None None (before ++ after) ys None None (λ q. d (sym q)) t.linked u.linked in
    let parts = all-split (λ x. IsAbsent x ys) before after out in
    linked-insert-other links l m before node after ys (n m ys old) parts.0 parts.1 u.linked)

-- a node goes out of its list
indexed-remove : (links : List Link) (ends : List Ends) (lists : List (List ℕ)) (l : ℕ) (before : List ℕ) (node : ℕ)
    (after : List ℕ) → AreIndexed links ends lists → slice_get lists l ≡ Some (before ++ node ∷ after)
    → AreIndexed (without_node links (between l before after))
    (set ends l (ends_without_node (ends_of (before ++ node ∷ after)) (between l before after)))
    (set lists l (before ++ after))
indexed-remove links ends lists l before node after h got =
    let t = h.threaded l (before ++ node ∷ after) got in
    indexed-set links _ ends lists l (before ++ after) _ h (slice_get_within lists l _ got)
    (ends-remove l before node after)
    (linked-remove links l before node after t.once t.linked)
    (once-remove before node after t.once)
    (λ m ys d old.
    let u = h.threaded m ys old in
    let out =
    linked-apart links l m None None (before ++ node ∷ after) ys None None (λ q. d (sym q)) t.linked u.linked in
    let parts = all-split (λ x. IsAbsent x ys) before (node ∷ after) out in
    linked-remove-other links l m before after ys parts.0 parts.1.1 u.linked)

-- a node comes in at the end of a list
pub pushed-back : (links : List Link) (ends : List Ends) (lists : List (List ℕ)) (l : ℕ) (xs : List ℕ) (node : ℕ)
    (e : Ends) (k : Link) → AreIndexed links ends lists → slice_get lists l ≡ Some xs → node < length links
    → ((m : ℕ) (ys : List ℕ) → slice_get lists m ≡ Some ys → IsAbsent node ys) → slice_get ends l ≡ Some e
    → k ≡ record { list = l; previous = e.last; next = None }
    → AreIndexed (with_node links node k) (set ends l (ends_with_node e node k)) (set lists l (xs ++ node ∷ []))
pushed-back links ends lists l xs node e k h got w n there same =
    let whole : xs ++ [] ≡ xs = append-nil xs in
    let are : e ≡ ends_of (xs ++ []) =
    same_Some e _ (sym there ∙ ((h.threaded l xs got).ends_are ∙ ap (λ zs. Some (ends_of zs)) (sym whole))) in
    let last : e.last ≡ last_or xs None = ap (λ (f : Ends). f.last) are ∙ ap (λ zs. last_or zs None) whole in
    let link : k ≡ between l xs [] =
    same ∙ ap (λ o. let r : Link = record { list = l; previous = o; next = None } in r) last in
    rw (link, are) (indexed-insert links ends lists l xs node [] h (got ∙ ap Some (sym whole)) w n)

-- a node comes in right after another
pub pushed-after : (links : List Link) (ends : List Ends) (lists : List (List ℕ)) (l : ℕ) (before : List ℕ)
    (at node : ℕ)
    (after : List ℕ) (e : Ends) (k : Link) → AreIndexed links ends lists
    → slice_get lists l ≡ Some (before ++ at ∷ after) → node < length links
    → ((m : ℕ) (ys : List ℕ) → slice_get lists m ≡ Some ys → IsAbsent node ys) → slice_get ends l ≡ Some e
    → k ≡ record { list = l; previous = Some at; next = first_or after None }
    → AreIndexed (with_node links node k) (set ends l (ends_with_node e node k))
    (set lists l (before ++ at ∷ node ∷ after))
pushed-after links ends lists l before at node after e k h got w n there same =
    let front : List ℕ = before ++ at ∷ [] in
    let whole : front ++ after ≡ before ++ at ∷ after = append_assoc before (at ∷ []) after in
    let fresh : front ++ node ∷ after ≡ before ++ at ∷ node ∷ after = append_assoc before (at ∷ []) (node ∷ after) in
    let are : e ≡ ends_of (front ++ after) =
    same_Some e _ (sym there ∙ ((h.threaded l _ got).ends_are ∙ ap (λ zs. Some (ends_of zs)) (sym whole))) in
    let last : Some at ≡ last_or front None = sym (last_or-append before (at ∷ []) None) in
    let link : k ≡ between l front after =
    same ∙ ap (λ o. let r : Link = record { list = l; previous = o; next = first_or after None } in r) last in
    rw (← fresh, link, are) (indexed-insert links ends lists l front node after h (got ∙ ap Some (sym whole)) w n)

-- a node goes out of its list
pub unlinked : (links : List Link) (ends : List Ends) (lists : List (List ℕ)) (l : ℕ) (before : List ℕ) (node : ℕ)
    (after : List ℕ) (e : Ends) (k : Link) → AreIndexed links ends lists
    → slice_get lists l ≡ Some (before ++ node ∷ after) → slice_get ends l ≡ Some e → k ≡ between l before after
    → AreIndexed (without_node links k) (set ends l (ends_without_node e k)) (set lists l (before ++ after))
unlinked links ends lists l before node after e k h got there same =
    let are : e ≡ ends_of (before ++ node ∷ after) = same_Some e _ (sym there ∙ (h.threaded l _ got).ends_are) in
    rw (same, are) (indexed-remove links ends lists l before node after h got)

-- ---- more nodes, more lists

-- an element of a list with one more at its end
get-push : {X : Type 0} (xs : List X) (x : X) (k : ℕ) (y : X) → slice_get (xs ++ x ∷ []) k ≡ Some y
    → (slice_get xs k ≡ Some y) ⊎ ((k ≡ length xs) × (y ≡ x))
get-push [] x zero y e = inr (refl, same_Some y x (sym e))
get-push [] x (suc k) y e = absurd (cc)
get-push (z ∷ xs) x zero y e = inl e
get-push (z ∷ xs) x (suc k) y e =
    elim (get-push xs x k y e) [ inl h ↦ inl h | inr h ↦ inr (ap suc h.0, h.1) ]

-- an element of a list of one element, so many times
get-replicate : {X Y : Type 0} (n : ℕ) (x : X) (z : Y) (k : ℕ) (y : X) → slice_get (replicate n x) k ≡ Some y
    → (y ≡ x) × (slice_get (replicate n z) k ≡ Some z)
get-replicate zero x z k y e = absurd (cc)
get-replicate (suc n) x z zero y e = (same_Some y x (sym e), refl)
get-replicate (suc n) x z (suc k) y e = get-replicate n x z k y e

-- the nodes stay linked where links come after theirs
linked-append : (links more : List Link) (l : ℕ) (b : Option ℕ) (xs : List ℕ) (a : Option ℕ)
    → AreLinked links l b xs a → AreLinked (links ++ more) l b xs a
linked-append links more l b [] a h = tt
linked-append links more l b (x ∷ xs) a h =
    (get-append links more x _ h.0, linked-append links more l (Some x) xs a h.1)

-- more nodes, which are in no list
pub indexed-grow : (links more : List Link) (ends : List Ends) (lists : List (List ℕ)) → AreIndexed links ends lists
    → AreIndexed (links ++ more) ends lists
indexed-grow links more ends lists h = record {
  as_many = h.as_many;
  threaded = λ l xs e.
      let t = h.threaded l xs e in
      record { ends_are = t.ends_are; linked = linked-append links more l None xs None t.linked; once = t.once };
}

-- one more list, which is empty
pub indexed-push : (links : List Link) (ends : List Ends) (lists : List (List ℕ)) → AreIndexed links ends lists
    → AreIndexed links (ends ++ ends_of [] ∷ []) (lists ++ [] ∷ [])
indexed-push links ends lists h = record {
  as_many = length_push ends (ends_of []) ∙ (ap (λ n. n + 1) h.as_many ∙ sym (length_push lists []));
  threaded = λ l xs e.
      elim (get-push lists [] l xs e) [
        | inl old ↦
            let t = h.threaded l xs old in
            record { ends_are = get-append ends (ends_of [] ∷ []) l _ t.ends_are; linked = t.linked; once = t.once }
        | inr new ↦
            let last : slice_get (ends ++ ends_of [] ∷ []) l ≡ Some (ends_of []) =
            ap (slice_get (ends ++ ends_of [] ∷ [])) (new.0 ∙ sym h.as_many) ∙ get-last ends (ends_of []) in
            let empty : IsThreaded links (ends ++ ends_of [] ∷ []) l [] =
            record { ends_are = last; linked = tt; once = tt } in
            subst (IsThreaded links (ends ++ ends_of [] ∷ []) l) (sym new.1) empty
      ];
}

-- the front of an empty list
take-nil : {X : Type 0} (n : ℕ) → take n (let none : List X = [] in none) ≡ []
take-nil zero = refl
take-nil (suc n) = refl

-- what fills a list that was empty
pub filled : {X : Type 0} (xs ys : List X) (n m : ℕ) (x : X) → xs ≡ [] → m ≡ 0
    → ys ≡ take n xs ++ replicate (n - m) x → ys ≡ replicate n x
filled xs ys n m x none start are =
    let same : n - m ≡ n = omega arith in
    are ∙ (ap (λ zs. take n zs ++ replicate (n - m) x) none
    ∙ (ap (λ zs. zs ++ replicate (n - m) x) (take-nil n) ∙ ap (λ k. replicate k x) same))

-- lists that are all empty
pub indexed-empty : (links : List Link) (n : ℕ) → AreIndexed links (replicate n (ends_of [])) (replicate n [])
indexed-empty links n = record {
  as_many = length-replicate n (ends_of []) ∙ sym (length-replicate n []);
  threaded = λ l xs e.
      let r = get-replicate n [] (ends_of []) l xs e in
      let empty : IsThreaded links (replicate n (ends_of [])) l [] =
      record { ends_are = r.1; linked = tt; once = tt } in
      subst (IsThreaded links (replicate n (ends_of [])) l) (sym r.0) empty;
}

-- ---- what is read

-- the first of some nodes
first-is : (xs : List ℕ) → first_or xs None ≡ slice_get xs 0
first-is [] = refl
first-is (x ∷ xs) = refl

-- the ends of a list are those of its nodes
pub ends-read : (links : List Link) (ends : List Ends) (lists : List (List ℕ)) (l : ℕ) (e : Ends)
    → AreIndexed links ends lists → l < length lists → slice_get ends l ≡ Some e → e ≡ ends_of (get_or lists l [])
ends-read links ends lists l e h w got =
    same_Some e _ (sym got ∙ (h.threaded l _ (slice_get-get_or lists l [] w)).ends_are)

-- the first node of a list, and how many there are
pub first-read : (links : List Link) (ends : List Ends) (lists : List (List ℕ)) (l : ℕ) (e : Ends)
    → AreIndexed links ends lists → l < length lists → slice_get ends l ≡ Some e
    → (e.first ≡ slice_get (get_or lists l []) 0) × (e.count ≡ length (get_or lists l []))
first-read links ends lists l e h w got =
    let are = ends-read links ends lists l e h w got in
    (ap (λ (f : Ends). f.first) are ∙ first-is (get_or lists l []), ap (λ (f : Ends). f.count) are)

-- the link of a node is that of its place
pub link-read : (links : List Link) (ends : List Ends) (lists : List (List ℕ)) (l : ℕ) (before : List ℕ) (node : ℕ)
    (after : List ℕ) (k : Link) → AreIndexed links ends lists → slice_get lists l ≡ Some (before ++ node ∷ after)
    → slice_get links node ≡ Some k → k ≡ between l before after
link-read links ends lists l before node after k h got e =
    same_Some k _ (sym e ∙ linked-at links l before node after (h.threaded l _ got).linked)

-- the next node of a node
pub next-read : (links : List Link) (ends : List Ends) (lists : List (List ℕ)) (l : ℕ) (before : List ℕ) (node : ℕ)
    (after : List ℕ) (k : Link) → AreIndexed links ends lists → slice_get lists l ≡ Some (before ++ node ∷ after)
    → slice_get links node ≡ Some k → k.next ≡ slice_get after 0
next-read links ends lists l before node after k h got e =
    ap (λ (r : Link). r.next) (link-read links ends lists l before node after k h got e) ∙ first-is after

-- a node of a list has a link
pub listed-within : (links : List Link) (ends : List Ends) (s : Lists) (node : ℕ) → AreIndexed links ends s.lists
    → IsListed s node → node < length links
listed-within links ends s node h (l, before, after, e) =
    slice_get_within links node _ (linked-at links l before node after (h.threaded l _ e).linked)

-- ---- what a contract sees

-- links and ends stand for the lists that a contract sees
pub seen : (links : List Link) (ends : List Ends) (s : Lists) → IsIndex links ends
    → record { nodes = length links; lists = walks links ends } ≡ s
    → AreIndexed links ends s.lists × (length links ≡ s.nodes)
seen links ends s i e =
    (subst (λ (t : Lists). AreIndexed links ends t.lists) e i.indexed, ap (λ (t : Lists). t.nodes) e)

-- so many nodes, and these lists
abbrev pub as_lists : ℕ → List (List ℕ) → Lists
as_lists n lists = record { nodes = n; lists = lists }

-- a contract sees the lists that links and ends stand for
pub seen-as : (links : List Link) (ends : List Ends) (n : ℕ) (lists : List (List ℕ)) → AreIndexed links ends lists
    → length links ≡ n → as_lists (length links) (walks links ends) ≡ as_lists n lists
seen-as links ends n lists h e =
    ap (λ m. as_lists m (walks links ends)) e ∙ ap (as_lists n) (walks-are links ends lists h)

-- ---- what the calls need, and what they leave

-- links that come behind the others
pub grown : (links new : List Link) (ends : List Ends) (lists : List (List ℕ)) (n m : ℕ) (k : Link)
    → AreIndexed links ends lists → length links ≤ n → m ≡ length links → new ≡ take n links ++ replicate (n - m) k
    → AreIndexed new ends lists × (length new ≡ n)
grown links new ends lists n m k h few same are =
    let rest : List Link = replicate (n - m) k in
    let all : new ≡ links ++ rest = are ∙ ap (λ xs. xs ++ rest) (take_all n links few) in
    let count : length new ≡ n =
    ap length all ∙ omega (arith, length-append links rest, length-replicate (n - m) k) in
    (subst (λ zs. AreIndexed zs ends lists) (sym all) (indexed-grow links rest ends lists h), count)

-- the last node of a list is one, if there is any, and another node has room
pub back-ready : (links : List Link) (ends : List Ends) (lists : List (List ℕ)) (l : ℕ) (xs : List ℕ) (e : Ends)
    → AreIndexed links ends lists → slice_get lists l ≡ Some xs → slice_get ends l ≡ Some e → IsOneOf links e.last
back-ready links ends lists l xs e h got there =
    let t = h.threaded l xs got in
    let are : e ≡ ends_of xs = same_Some e _ (sym there ∙ t.ends_are) in
    subst (λ (f : Ends). IsOneOf links f.last) (sym are)
    (last-one links xs (linked-within links l None xs None t.linked))

-- a list has room for a node that is in none
pub has-room : (links : List Link) (ends : List Ends) (lists : List (List ℕ)) (l : ℕ) (xs : List ℕ) (node : ℕ)
    (e : Ends) → AreIndexed links ends lists → slice_get lists l ≡ Some xs → slice_get ends l ≡ Some e
    → node < length links → IsAbsent node xs → e.count < length links
has-room links ends lists l xs node e h got there w n =
    let are : e ≡ ends_of xs = same_Some e _ (sym there ∙ (h.threaded l xs got).ends_are) in
    subst (λ (f : Ends). f.count < length links) (sym are) (room-for links ends lists l xs node h got w n)

-- a list that has a node has one at least
pub has-some : (links : List Link) (ends : List Ends) (lists : List (List ℕ)) (l : ℕ) (before : List ℕ) (node : ℕ)
    (after : List ℕ) (e : Ends) → AreIndexed links ends lists → slice_get lists l ≡ Some (before ++ node ∷ after)
    → slice_get ends l ≡ Some e → 0 < e.count
has-some links ends lists l before node after e h got there =
    let are : e ≡ ends_of (before ++ node ∷ after) = same_Some e _ (sym there ∙ (h.threaded l _ got).ends_are) in
    let some : 0 < length (before ++ node ∷ after) = omega (arith, length-append before (node ∷ after)) in
    subst (λ (f : Ends). 0 < f.count) (sym are) some

-- the neighbours that a node has in its link are nodes
pub neighbours : (links : List Link) (ends : List Ends) (lists : List (List ℕ)) (l : ℕ) (before : List ℕ) (node : ℕ)
    (after : List ℕ) (k : Link) → AreIndexed links ends lists → slice_get lists l ≡ Some (before ++ node ∷ after)
    → k ≡ between l before after → IsOneOf links k.previous × IsOneOf links k.next
neighbours links ends lists l before node after k h got are =
    let t = h.threaded l (before ++ node ∷ after) got in
    let all = all-split (λ x. x < length links) before (node ∷ after) (linked-within links l None _ None t.linked) in (
      subst (λ (r : Link). IsOneOf links r.previous) (sym are) (last-one links before all.0),
      subst (λ (r : Link). IsOneOf links r.next) (sym are) (first-one links after all.1.1),
    )

-- the links are as many where a node comes in
pub length-with_node : (links : List Link) (node : ℕ) (k : Link) → length (with_node links node k) ≡ length links
length-with_node links node k =
    length-with_previous _ k.next (Some node)
    ∙ (length-with_next (set links node k) k.previous (Some node) ∙ length-set links node k)

-- the links are as many where a node goes out
pub length-without_node : (links : List Link) (k : Link) → length (without_node links k) ≡ length links
length-without_node links k = length-with_previous _ k.next k.previous ∙ length-with_next links k.previous k.next

-- ---- a list that is read from its first node on

-- what begins with a node
pub begins-with : (rest : List ℕ) (x : ℕ) → Some x ≡ slice_get rest 0 → rest ≡ x ∷ drop 1 rest
begins-with [] x e = absurd (cc)
begins-with (y ∷ ys) x e = ap (λ z. z ∷ ys) (sym (same_Some x y e))

-- where no first node is left, all were read
pub all-read : (front rest all : List ℕ) → front ++ rest ≡ all → None ≡ slice_get rest 0 → front ≡ all
all-read front [] all whole e = sym (append-nil front) ∙ whole
all-read front (y ∷ ys) all whole e = absurd (cc)

-- a node that was come to stands in the list
pub stands-next : (s : Lists) (l : ℕ) (front rest : List ℕ) (x : ℕ) → l < length s.lists
    → front ++ rest ≡ nodes_of s l → Some x ≡ slice_get rest 0 → StandsIn s l front x (drop 1 rest)
stands-next s l front rest x w whole e =
    slice_get-get_or s.lists l [] w ∙ ap Some (sym whole ∙ ap (λ zs. front ++ zs) (begins-with rest x e))

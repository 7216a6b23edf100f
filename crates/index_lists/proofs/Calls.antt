-- What each call needs of the link and the ends that it reads, and what it leaves.
use Rattle.std.proofs.Common.{ℕ, ◌≡◌, ◌<◌, ◌∙◌, List, [], ◌∷◌, ◌++◌, length, set, get_or, Some, None, refl, sym, ap}
use Rattle.std.proofs.Common.{subst, arith}
use Rattle.std.specs.List.{slice_get}
use Rattle.std.proofs.lemmas.Option.{slice_get_within, slice_get_read, slice_get-get_or}
use Rattle.index_lists.specs.declared.link.Link.{Link}
use Rattle.index_lists.specs.declared.link.Ends.{Ends}
use Rattle.index_lists.specs.Lists.{Lists, IsListed, StandsIn, nodes_of}
use Rattle.index_lists.specs.Links.{AreIndexed, IsOneOf, first_or, with_node, without_node, ends_with_node}
use Rattle.index_lists.specs.Links.{ends_without_node}
use Rattle.index_lists.proofs.Links.{linked-at}
use Rattle.index_lists.proofs.Callers.{absent-all}
use Rattle.index_lists.proofs.Indexed.{between, link-read, neighbours, has-room, has-some, back-ready, pushed-back}
use Rattle.index_lists.proofs.Indexed.{pushed-after, unlinked, length-with_node, length-without_node}

-- ---- what is read

-- the link that is read of a node is that of its place
link-of : (links : List Link) (ends : List Ends) (s : Lists) (l : ℕ) (before : List ℕ) (node : ℕ) (after : List ℕ)
    (k : Link) → AreIndexed links ends s.lists → StandsIn s l before node after → k ≡ get_or links node k
    → k ≡ between l before after
link-of links ends s l before node after k h got read =
    let t = h.threaded l (before ++ node ∷ after) got in
    let w : node < length links = slice_get_within links node _ (linked-at links l before node after t.linked) in
    link-read links ends s.lists l before node after k h got
    (slice_get_read links (length links) node k refl w read)

-- the ends that are read of a node's list are those of the list
ends-at : (links : List Link) (ends : List Ends) (s : Lists) (l : ℕ) (before : List ℕ) (node : ℕ) (after : List ℕ)
    (k : Link) (e : Ends) → AreIndexed links ends s.lists → StandsIn s l before node after → k ≡ between l before after
    → e ≡ get_or ends k.list e → slice_get ends l ≡ Some e
ends-at links ends s l before node after k e h got is read =
    let here : k.list ≡ l = ap (λ (r : Link). r.list) is in
    let within : l < length ends = omega (arith, h.as_many, slice_get_within s.lists l _ got) in
    slice_get_read ends (length ends) l e refl within (read ∙ ap (λ (i : ℕ). get_or ends i e) here)

-- ---- what is needed

-- a link names a list, and nodes where it names any
pub record IsReady (links : List Link) (ends : List Ends) (k : Link) : Type 0 where
  pub list : k.list < length ends
  pub previous : IsOneOf links k.previous
  pub next : IsOneOf links k.next

-- so does the link that is read of a node of a list
pub ready : (links : List Link) (ends : List Ends) (s : Lists) (node : ℕ) (k : Link) → AreIndexed links ends s.lists
    → IsListed s node → k ≡ get_or links node k → IsReady links ends k
ready links ends s node k h (l, before, after, got) read =
    let is = link-of links ends s l before node after k h got read in
    let near = neighbours links ends s.lists l before node after k h got is in
    let here : k.list ≡ l = ap (λ (r : Link). r.list) is in
    record {
      list = omega (arith, here, h.as_many, slice_get_within s.lists l _ got);
      previous = near.0;
      next = near.1;
    }

-- there is room for a node in no list behind another
pub room-behind : (links : List Link) (ends : List Ends) (s : Lists) (at node : ℕ) (k : Link) (e : Ends)
    → AreIndexed links ends s.lists → IsListed s at → k ≡ get_or links at k → e ≡ get_or ends k.list e
    → node < length links → (IsListed s node → ⊥) → e.count < length links
room-behind links ends s at node k e h (l, before, after, got) read there w out =
    let is = link-of links ends s l before at after k h got read in
    has-room links ends s.lists l _ node e h got (ends-at links ends s l before at after k e h got is there) w
    (absent-all s node out l _ got)

-- the list of a node has one at least
pub some-left : (links : List Link) (ends : List Ends) (s : Lists) (node : ℕ) (k : Link) (e : Ends)
    → AreIndexed links ends s.lists → IsListed s node → k ≡ get_or links node k → e ≡ get_or ends k.list e
    → 0 < e.count
some-left links ends s node k e h (l, before, after, got) read there =
    let is = link-of links ends s l before node after k h got read in
    has-some links ends s.lists l before node after e h got
    (ends-at links ends s l before node after k e h got is there)

-- the last node of a list is one, if there is any, and there is room for a node in no list
pub ready-last : (links : List Link) (ends : List Ends) (s : Lists) (l node : ℕ) (e : Ends)
    → AreIndexed links ends s.lists → l < length s.lists → e ≡ get_or ends l e → node < length links
    → (IsListed s node → ⊥) → IsOneOf links e.last × (e.count < length links)
ready-last links ends s l node e h within read w out =
    let got : slice_get s.lists l ≡ Some (nodes_of s l) = slice_get-get_or s.lists l [] within in
    let there : slice_get ends l ≡ Some e =
    slice_get_read ends (length ends) l e refl (omega (arith, h.as_many, within)) read in (
      back-ready links ends s.lists l (nodes_of s l) e h got there,
      has-room links ends s.lists l (nodes_of s l) node e h got there w (absent-all s node out l _ got),
    )

-- ---- what is left

-- a node in no list comes last into one
pub put-last : (links : List Link) (ends : List Ends) (s : Lists) (l node : ℕ) (e : Ends) (k : Link)
    (new : List Link) (f : Ends) → AreIndexed links ends s.lists → l < length s.lists → e ≡ get_or ends l e
    → node < length links → (IsListed s node → ⊥) → k ≡ record { list = l; previous = e.last; next = None }
    → new ≡ with_node links node k → f ≡ ends_with_node e node k
    → AreIndexed new (set ends l f) (set s.lists l (nodes_of s l ++ node ∷ [])) × (length new ≡ length links)
put-last links ends s l node e k new f h within read w out is links_are ends_are =
    let got : slice_get s.lists l ≡ Some (nodes_of s l) = slice_get-get_or s.lists l [] within in
    let there : slice_get ends l ≡ Some e =
    slice_get_read ends (length ends) l e refl (omega (arith, h.as_many, within)) read in (
      rw (links_are, ends_are)
          (pushed-back links ends s.lists l (nodes_of s l) node e k h got w (absent-all s node out) there is),
      ap length links_are ∙ length-with_node links node k,
    )

-- a node in no list comes in right behind another
pub put-behind : (links : List Link) (ends : List Ends) (s : Lists) (l : ℕ) (before : List ℕ) (at node : ℕ)
    (after : List ℕ) (k new : Link) (e : Ends) (links_new : List Link) (f : Ends) → AreIndexed links ends s.lists
    → StandsIn s l before at after → k ≡ get_or links at k → e ≡ get_or ends k.list e → node < length links
    → (IsListed s node → ⊥) → new ≡ record { list = k.list; previous = Some at; next = k.next }
    → links_new ≡ with_node links node new → f ≡ ends_with_node e node new
    → AreIndexed links_new (set ends k.list f) (set s.lists l (before ++ at ∷ node ∷ after))
    × (length links_new ≡ length links)
put-behind links ends s l before at node after k new e links_new f h got read there w out made links_are ends_are =
    let is = link-of links ends s l before at after k h got read in
    let here : k.list ≡ l = ap (λ (r : Link). r.list) is in
    let fresh : new ≡ record { list = l; previous = Some at; next = first_or after None } =
    made ∙ ap (λ (r : Link). let q : Link = record { list = r.list; previous = Some at; next = r.next } in q) is in (
      rw (links_are, ends_are, here) (pushed-after links ends s.lists l before at node after e new h got w
          (absent-all s node out) (ends-at links ends s l before at after k e h got is there) fresh),
      ap length links_are ∙ length-with_node links node new,
    )

-- a node goes out of its list
pub taken-out : (links : List Link) (ends : List Ends) (s : Lists) (l : ℕ) (before : List ℕ) (node : ℕ)
    (after : List ℕ) (k : Link) (e : Ends) (new : List Link) (f : Ends) → AreIndexed links ends s.lists
    → StandsIn s l before node after → k ≡ get_or links node k → e ≡ get_or ends k.list e
    → new ≡ without_node links k → f ≡ ends_without_node e k
    → AreIndexed new (set ends k.list f) (set s.lists l (before ++ after)) × (length new ≡ length links)
taken-out links ends s l before node after k e new f h got read there links_are ends_are =
    let is = link-of links ends s l before node after k h got read in
    let here : k.list ≡ l = ap (λ (r : Link). r.list) is in
    let gone = unlinked links ends s.lists l before node after e k h got
    (ends-at links ends s l before node after k e h got is there) is in (
      rw (links_are, ends_are) (subst (λ (i : ℕ). AreIndexed (without_node links k)
          (set ends i (ends_without_node e k)) (set s.lists l (before ++ after))) (sym here) gone),
      ap length links_are ∙ length-without_node links k,
    )

-- How far sources are read, one after the other.
use Rattle.std.specs.Borrow.{Bor}
use Rattle.std.specs.List.{slice_index_or}
use Rattle.std.proofs.Common.{◌≡◌, ◌≤◌, ◌<◌, ◌+◌, ℕ, zero, suc, List, [], ◌∷◌, ◌++◌, Option, Some, length, map, drop}
use Rattle.std.proofs.Common.{append_assoc, drop-cons, drop_of_length-le, inl, inr, arith, ap, sym, subst}
use Rattle.std.proofs.lemmas.List.{append-nil, length-drop, length-map}
use Rattle.pcc_outside.specs.declared.file_store.ReadRefusal.{ReadRefusal}
use Rattle.pcc_outside.specs.declared.file_store.ReadRefusal.TheVariants.{NoMemory}
use Rattle.pcc_driver.specs.Outside.{Files}
use Rattle.pcc_driver.specs.Sources.{AreRead, IsUnreadable, StopsAt, file_limit}

-- the sources before the rest, so many, hold these texts
pub record ReadSoFar (files : Files) (sources texts rest : List (List ℕ)) (position : ℕ) : Type 0 where
  pub texts_are : (others : List (List ℕ)) → AreRead files rest others → AreRead files sources (texts ++ others)
  pub stops : (refusal : ReadRefusal) (i : ℕ) → StopsAt files refusal rest i
      → StopsAt files refusal sources (position + i)

-- nothing is read at first
pub read_none : (files : Files) (sources : List (List ℕ)) → ReadSoFar files sources [] sources 0
read_none files sources = record {
  texts_are = λ others are. are;
  stops = λ refusal i stops. subst
      (λ (n : ℕ). StopsAt files refusal sources n) (omega arith) stops;
}

-- one source more
pub read_more : (files : Files) (sources texts : List (List ℕ)) (source : List ℕ) (rest : List (List ℕ)) (position : ℕ)
    (text : List ℕ) → ReadSoFar files sources texts (source ∷ rest) position → files source ≡ Some text
    → length text ≤ file_limit → ReadSoFar files sources (texts ++ text ∷ []) rest (suc position)
read_more files sources texts source rest position text so held small = record {
  texts_are = λ others are. subst (λ (ts : List (List ℕ)). AreRead files sources ts)
      (sym (append_assoc texts (text ∷ []) others)) (so.texts_are (text ∷ others) (held, small, are));
  stops = λ refusal i stops. subst (λ (n : ℕ). StopsAt files refusal sources n) (omega arith)
      (so.stops refusal (suc i) ((text, held, small, tt), stops));
}

-- none is left
read_all : (files : Files) (sources texts : List (List ℕ)) (position : ℕ) → ReadSoFar files sources texts [] position
    → AreRead files sources texts
read_all files sources texts position so =
    subst (λ (ts : List (List ℕ)). AreRead files sources ts) (append-nil texts) (so.texts_are [] tt)

-- the rest from one of the names on
rest_at : (xs : List (Bor (List ℕ))) (i : ℕ) (x : Bor (List ℕ)) → i < length xs
    → map (λ s. s.now) (drop i xs) ≡ (slice_index_or xs i x).now ∷ map (λ s. s.now) (drop (suc i) xs)
rest_at xs i x h = ap (λ (ys : List (Bor (List ℕ))). map (λ s. s.now) ys) (drop-cons xs i x h)

-- one source more, by its place
pub read_on : (files : Files) (sources texts texts' : List (List ℕ)) (xs : List (Bor (List ℕ))) (i : ℕ)
    (x : Bor (List ℕ)) (position : ℕ) (text : List ℕ)
    → ReadSoFar files sources texts (map (λ s. s.now) (drop i xs)) position → i < length xs
    → files (slice_index_or xs i x).now ≡ Some text → length text ≤ file_limit → texts' ≡ texts ++ text ∷ []
    → ReadSoFar files sources texts' (map (λ s. s.now) (drop (i + 1) xs)) (position + 1)
read_on files sources texts texts' xs i x position text so h held small texts_are =
    let next : suc i ≡ i + 1 = omega arith in
    let behind : suc position ≡ position + 1 = omega arith in
    subst (λ (ts : List (List ℕ)). ReadSoFar files sources ts (map (λ s. s.now) (drop (i + 1) xs)) (position + 1))
    (sym texts_are)
    (subst (λ (n : ℕ). ReadSoFar files sources (texts ++ text ∷ []) (map (λ s. s.now) (drop (i + 1) xs)) n) behind
    (subst (λ (n : ℕ). ReadSoFar files sources (texts ++ text ∷ []) (map (λ s. s.now) (drop n xs)) (suc position)) next
    (read_more files sources texts (slice_index_or xs i x).now (map (λ s. s.now) (drop (suc i) xs)) position text
    (subst (λ (ys : List (List ℕ)). ReadSoFar files sources texts ys position) (rest_at xs i x h) so) held small)))

-- all are read
pub read_done : (files : Files) (sources texts : List (List ℕ)) (xs : List (Bor (List ℕ))) (i position : ℕ)
    → ReadSoFar files sources texts (map (λ s. s.now) (drop i xs)) position → length xs ≤ i
    → AreRead files sources texts
read_done files sources texts xs i position so h =
    read_all files sources texts position
    (subst (λ (ys : List (Bor (List ℕ))). ReadSoFar files sources texts (map (λ s. s.now) ys) position)
    (drop_of_length-le xs h) so)

-- this one isn't read
unread_here : (files : Files) (sources texts : List (List ℕ)) (source : List ℕ) (rest : List (List ℕ)) (position : ℕ)
    (why : ReadRefusal) → ReadSoFar files sources texts (source ∷ rest) position
    → IsUnreadable why (files source) → StopsAt files why sources position
unread_here files sources texts source rest position why so unread =
    subst (λ (n : ℕ). StopsAt files why sources n) (omega arith) (so.stops why zero unread)

-- the same, by its place
pub unread_on : (files : Files) (sources texts : List (List ℕ)) (xs : List (Bor (List ℕ))) (i : ℕ) (x : Bor (List ℕ))
    (position : ℕ) (content : Option (List ℕ)) (why : ReadRefusal)
    → ReadSoFar files sources texts (map (λ s. s.now) (drop i xs)) position → i < length xs
    → content ≡ files (slice_index_or xs i x).now → IsUnreadable why content → StopsAt files why sources position
unread_on files sources texts xs i x position content why so h same unread =
    unread_here files sources texts (slice_index_or xs i x).now (map (λ s. s.now) (drop (suc i) xs)) position why
    (subst (λ (ys : List (List ℕ)). ReadSoFar files sources texts ys position) (rest_at xs i x h) so)
    (subst (λ (o : Option (List ℕ)). IsUnreadable why o) same unread)

-- any source may find no memory
wanting_here : (files : Files) (ys : List (List ℕ)) → 0 < length ys → StopsAt files NoMemory ys zero
wanting_here files [] h = absurd (omega (arith, h))
wanting_here files (y ∷ ys) h = tt

-- so may the next one
pub wanting_on : (files : Files) (sources texts : List (List ℕ)) (xs : List (Bor (List ℕ))) (i position : ℕ)
    → ReadSoFar files sources texts (map (λ s. s.now) (drop i xs)) position → i < length xs
    → StopsAt files NoMemory sources position
wanting_on files sources texts xs i position so h =
    subst (λ (n : ℕ). StopsAt files NoMemory sources n) (omega arith) (so.stops NoMemory zero
    (wanting_here files (map (λ s. s.now) (drop i xs))
    (omega (arith, h, length-map (drop i xs) (λ (s : Bor (List ℕ)). s.now), length-drop i xs))))

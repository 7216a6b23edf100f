-- What is among the elements of a list.
use Rattle.std.proofs.Common.{◌≡◌, ◌⊎◌, ℕ, zero, suc, ◌+◌, List, [], ◌∷◌, ◌++◌, map, Option, Some, None}
use Rattle.std.proofs.Common.{inl, inr, refl, sym, ap, subst, ◌∙◌, arith}
use Rattle.std.specs.Prelude.{filter_map, slice_get}
use Rattle.std.specs.List.{All, cons_option}
use Rattle.std.proofs.lemmas.List.Elements.{All-head, All-tail}
use Rattle.std.proofs.lemmas.Option.{none-some, same_Some}
use Rattle.flow_graph.specs.Graphs.{IsIn}
use Rattle.map_text.specs.Maps.{MapFunction, MapPoint, points_of}
use Rattle.map_text.specs.Marks.{MarkAt, mark_at, marks_from, points_from}

-- ---- lists

abbrev pub IsAmong : {X : Type 0} → X → List X → Type 0
IsAmong x [] = ⊥
IsAmong x (y ∷ ys) = (y ≡ x) ⊎ IsAmong x ys

pub all-among : {X : Type 0} (P : X → Type 0) (x : X) (xs : List X) → All P xs → IsAmong x xs → P x
all-among P x [] all among = absurd among
all-among P x (y ∷ ys) all (inl e) = subst P e (All-head P y ys all)
all-among P x (y ∷ ys) all (inr among) = all-among P x ys (All-tail P y ys all) among

pub in-front : {X : Type 0} (x : X) (xs ys : List X) → IsAmong x xs → IsAmong x (xs ++ ys)
in-front x [] ys among = absurd among
in-front x (y ∷ xs) ys (inl e) = inl e
in-front x (y ∷ xs) ys (inr among) = inr (in-front x xs ys among)

pub in-back : {X : Type 0} (x : X) (xs ys : List X) → IsAmong x ys → IsAmong x (xs ++ ys)
in-back x [] ys among = among
in-back x (y ∷ xs) ys among = inr (in-back x xs ys among)

pub either-part : {X : Type 0} (x : X) (xs ys : List X) → IsAmong x (xs ++ ys) → IsAmong x xs ⊎ IsAmong x ys
either-part x [] ys among = inr among
either-part x (y ∷ xs) ys (inl e) = inl (inl e)
either-part x (y ∷ xs) ys (inr among) = elim (either-part x xs ys among) [ inl a ↦ inl (inr a) | inr b ↦ inr b ]

pub among-map : {X Y : Type 0} (f : X → Y) (x : X) (xs : List X) → IsAmong x xs → IsAmong (f x) (map f xs)
among-map f x [] among = absurd among
among-map f x (y ∷ xs) (inl e) = inl (ap f e)
among-map f x (y ∷ xs) (inr among) = inr (among-map f x xs among)

pub of-map : {X Y : Type 0} (f : X → Y) (y : Y) (xs : List X) → IsAmong y (map f xs)
    → (x : X) × IsAmong x xs × (f x ≡ y)
of-map f y [] among = absurd among
of-map f y (x ∷ xs) (inl e) = (x, inl refl, e)
of-map f y (x ∷ xs) (inr among) = let rest = of-map f y xs among in (rest.0, inr rest.1, rest.2)

-- a number among those of the elements is that of one
pub in-map : {X : Type 0} (f : X → ℕ) (n : ℕ) (xs : List X) → IsIn n (map f xs) → (x : X) × IsAmong x xs × (f x ≡ n)
in-map f n [] within = absurd within
in-map f n (x ∷ xs) (inl e) = (x, inl refl, e)
in-map f n (x ∷ xs) (inr within) = let rest = in-map f n xs within in (rest.0, inr rest.1, rest.2)

of-option : {X Y : Type 0} (f : X → Option Y) (y : Y) (x : X) (xs : List X) (o : Option Y) (ys : List Y) → f x ≡ o
    → (IsAmong y ys → (z : X) × IsAmong z xs × (f z ≡ Some y)) → IsAmong y (cons_option o ys)
    → (z : X) × IsAmong z (x ∷ xs) × (f z ≡ Some y)
of-option f y x xs None ys is rest among = let r = rest among in (r.0, inr r.1, r.2)
of-option f y x xs (Some z) ys is rest (inl e) = (x, inl refl, is ∙ ap Some e)
of-option f y x xs (Some z) ys is rest (inr among) = let r = rest among in (r.0, inr r.1, r.2)

of-filter : {X Y : Type 0} (f : X → Option Y) (y : Y) (xs : List X) → IsAmong y (filter_map f xs)
    → (x : X) × IsAmong x xs × (f x ≡ Some y)
of-filter f y [] among = absurd among
of-filter f y (x ∷ xs) among =
    of-option f y x xs (f x) (filter_map f xs) refl (λ rest. of-filter f y xs rest) among

-- what is made of an element is among what is made of all
to-option : {Y : Type 0} (y : Y) (o : Option Y) (ys : List Y) → o ≡ Some y → IsAmong y (cons_option o ys)
to-option y None ys e = absurd (none-some y e)
to-option y (Some z) ys e = inl (same_Some z y e)

past-option : {Y : Type 0} (y : Y) (o : Option Y) (ys : List Y) → IsAmong y ys → IsAmong y (cons_option o ys)
past-option y None ys among = among
past-option y (Some z) ys among = inr among

pub to-filter : {X Y : Type 0} (f : X → Option Y) (x : X) (y : Y) (xs : List X) → IsAmong x xs → f x ≡ Some y
    → IsAmong y (filter_map f xs)
to-filter f x y [] among e = absurd among
to-filter f x y (z ∷ xs) (inl same) e = to-option y (f z) (filter_map f xs) (ap f same ∙ e)
to-filter f x y (z ∷ xs) (inr among) e = past-option y (f z) (filter_map f xs) (to-filter f x y xs among e)

-- ---- the points and the marks of a map

-- a point of a function that has this number, where the functions are numbered from k on
pub record IsPointAt (k : ℕ) (functions : List MapFunction) (number : ℕ) (p : MapPoint) : Type 0 where
  pub place : ℕ
  pub numbered : k + place ≡ number
  pub function : MapFunction
  pub has : slice_get functions place ≡ Some function
  pub among : IsAmong p (points_of function)

in-first : (k : ℕ) (f : MapFunction) (fs : List MapFunction) (p : MapPoint) → IsAmong p (points_of f)
    → IsPointAt k (f ∷ fs) k p
in-first k f fs p among = record { place = 0; numbered = omega arith; function = f; has = refl; among = among }

in-others : (k number : ℕ) (f : MapFunction) (fs : List MapFunction) (p : MapPoint) → IsPointAt (suc k) fs number p
    → IsPointAt k (f ∷ fs) number p
in-others k number f fs p h =
    let numbered = h.numbered in
    record {
      place = suc h.place;
      numbered = omega (arith, numbered);
      function = h.function;
      has = h.has;
      among = h.among;
    }

-- each pair of an address and a function is that of a point
pub point-from : (k : ℕ) (fs : List MapFunction) (point : ℕ × ℕ) → IsAmong point (points_from k fs)
    → (p : MapPoint) × IsPointAt k fs point.1 p × (p.address ≡ point.0)
point-from k [] point among = absurd among
point-from k (f ∷ fs) point among =
    elim (either-part point (map (λ p. (p.address, k)) (points_of f)) (points_from (suc k) fs) among) [
      | inl here ↦
          let r = of-map (λ (p : MapPoint). (p.address, k)) point (points_of f) here in (
            r.0,
            subst (λ (n : ℕ). IsPointAt k (f ∷ fs) n r.0) (ap (λ (x : ℕ × ℕ). x.1) r.2) (in-first k f fs r.0 r.1),
            ap (λ (x : ℕ × ℕ). x.0) r.2,
          )
      | inr rest ↦
          let r = point-from (suc k) fs point rest in (r.0, in-others k point.1 f fs r.0 r.1, r.2)
    ]

-- and each point has one
pub point-to : (k place : ℕ) (fs : List MapFunction) (f : MapFunction) (p : MapPoint) → slice_get fs place ≡ Some f
    → IsAmong p (points_of f) → IsAmong (p.address, k + place) (points_from k fs)
point-to k place [] f p has among = absurd (none-some f has)
point-to k zero (g ∷ fs) f p has among =
    let mine : IsAmong p (points_of g) =
    subst (λ (x : MapFunction). IsAmong p (points_of x)) (sym (same_Some g f has)) among in
    let first : IsAmong (p.address, k) (points_from k (g ∷ fs)) =
    in-front (p.address, k) (map (λ q. (q.address, k)) (points_of g)) (points_from (suc k) fs)
    (among-map (λ (q : MapPoint). (q.address, k)) p (points_of g) mine) in
    let same : k ≡ k + 0 = omega arith in
    subst (λ (n : ℕ). IsAmong (p.address, n) (points_from k (g ∷ fs))) same first
point-to k (suc place) (g ∷ fs) f p has among =
    let rest : IsAmong (p.address, suc k + place) (points_from (suc k) fs) =
    point-to (suc k) place fs f p has among in
    let all : IsAmong (p.address, suc k + place) (points_from k (g ∷ fs)) =
    in-back (p.address, suc k + place) (map (λ q. (q.address, k)) (points_of g)) (points_from (suc k) fs) rest in
    let same : suc k + place ≡ k + suc place = omega arith in
    subst (λ (n : ℕ). IsAmong (p.address, n) (points_from k (g ∷ fs))) same all

-- each mark is that of a point
pub mark-from : (k : ℕ) (fs : List MapFunction) (mark : MarkAt) → IsAmong mark (marks_from k fs)
    → (number : ℕ) × (p : MapPoint) × IsPointAt k fs number p × (mark_at number p ≡ Some mark)
mark-from k [] mark among = absurd among
mark-from k (f ∷ fs) mark among =
    elim (either-part mark (filter_map (mark_at k) (points_of f)) (marks_from (suc k) fs) among) [
      | inl here ↦
          let r = of-filter (mark_at k) mark (points_of f) here in (k, r.0, in-first k f fs r.0 r.1, r.2)
      | inr rest ↦
          let r = mark-from (suc k) fs mark rest in (r.0, r.1, in-others k r.0 f fs r.1 r.2, r.3)
    ]

-- and each point that is a mark has one
pub mark-to : (k place : ℕ) (fs : List MapFunction) (f : MapFunction) (p : MapPoint) (mark : MarkAt)
    → slice_get fs place ≡ Some f → IsAmong p (points_of f) → mark_at (k + place) p ≡ Some mark
    → IsAmong mark (marks_from k fs)
mark-to k place [] f p mark has among is = absurd (none-some f has)
mark-to k zero (g ∷ fs) f p mark has among is =
    let mine : IsAmong p (points_of g) =
    subst (λ (x : MapFunction). IsAmong p (points_of x)) (sym (same_Some g f has)) among in
    let same : k + 0 ≡ k = omega arith in
    in-front mark (filter_map (mark_at k) (points_of g)) (marks_from (suc k) fs)
    (to-filter (mark_at k) p mark (points_of g) mine
    (subst (λ (n : ℕ). mark_at n p ≡ Some mark) same is))
mark-to k (suc place) (g ∷ fs) f p mark has among is =
    let same : k + suc place ≡ suc k + place = omega arith in
    in-back mark (filter_map (mark_at k) (points_of g)) (marks_from (suc k) fs)
    (mark-to (suc k) place fs f p mark has among (subst (λ (n : ℕ). mark_at n p ≡ Some mark) same is))

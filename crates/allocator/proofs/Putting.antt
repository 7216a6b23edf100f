-- Pieces are put on the sides of a point.
use Rattle.std.proofs.Common.{ℕ, ◌≡◌, ◌≢◌, ◌<◌, ◌+◌, ◌↔◌, ◌⊎◌, inl, inr, Bool, true, false, cond, ltb, true≢false}
use Rattle.std.proofs.Common.{◌==◌, List, [], ◌∷◌, length, map, get_or, Option, Some, None, refl, sym, ap, subst}
use Rattle.std.proofs.Common.{arith, ◌∙◌}
use Rattle.std.specs.Prelude.{slice_get}
use Rattle.std.specs.List.{AllByRecursion}
use Rattle.std.proofs.lemmas.Bool.{cases_eq, eqb-true}
use Rattle.std.proofs.lemmas.List.{get_or-set_other, get_or-set_same, length-set}
use Rattle.std.proofs.lemmas.Option.{none-some, same_Some, slice_get-get_or}
use Rattle.flow_graph.specs.Graphs.{IsIn}
use Rattle.flow_graph.specs.Lives.{IsAscending}
use Rattle.flow_graph.proofs.Points.{every-in}
use Rattle.flow_liveness.proofs.Naming.{equal-test, other-test}
use Rattle.puzzle_board.specs.declared.piece.Kind.{Kind}
use Rattle.puzzle_board.specs.declared.piece.Kind.TheVariants.{X, Y, Z}
use Rattle.puzzle_board.specs.declared.piece.Piece.{Piece}
use Rattle.puzzle_board.specs.declared.place.Place.{Place}
use Rattle.puzzle_board.specs.Places.{Entry, IsRising, PlaceMap, entries_at, place_in, with_after, with_before}
use Rattle.puzzle_board.specs.Places.{with_place}
use Rattle.puzzle_board.proofs.Sides.{rising-with}
use Rattle.allocator.specs.Order.{AreInOrder, Precedes}
use Rattle.allocator.specs.Sides.{ArePut, ChangesPoint, is_lower, is_upper, with_kind}
use Rattle.allocator.proofs.Listing.{order-at}
use Rattle.allocator.proofs.Standing.{less-one}

-- ---- what is found once a variable has a place

with-by : Entry → List Entry → ℕ → Place → List Entry → Bool → Bool → List Entry
with-by e entries v place more b c = cond b ((v, place) ∷ entries) (cond c ((v, place) ∷ e ∷ entries) (e ∷ more))

same-by :
    (e : Entry) (entries : List Entry) (v : ℕ) (place : Place) (more : List Entry) (b c : Bool) → (e.0 == v) ≡ b
    → place_in more v ≡ Some place → place_in (with-by e entries v place more b c) v ≡ Some place
unfolding with-by
same-by e entries v place more true c test rest =
    ap (λ (t : Bool). cond t (Some place) (place_in entries v)) (equal-test v v refl)
same-by e entries v place more false true test rest =
    ap (λ (t : Bool). cond t (Some place) (place_in (e ∷ entries) v)) (equal-test v v refl)
same-by e entries v place more false false test rest =
    ap (λ (t : Bool). cond t (Some e.1) (place_in more v)) test ∙ rest

pub place-same : (entries : List Entry) (v : ℕ) (place : Place) → place_in (with_place entries v place) v ≡ Some place
unfolding with-by
place-same [] v place = ap (λ (t : Bool). cond t (Some place) None) (equal-test v v refl)
place-same (e ∷ entries) v place =
    same-by e entries v place (with_place entries v place) (e.0 == v) (ltb v e.0) refl (place-same entries v place)

other-by :
    (e : Entry) (entries : List Entry) (v w : ℕ) (place : Place) (more : List Entry) (b c : Bool) → (e.0 == v) ≡ b
    → w ≢ v → place_in more w ≡ place_in entries w
    → place_in (with-by e entries v place more b c) w ≡ place_in (e ∷ entries) w
unfolding with-by
other-by e entries v w place more true c test other rest =
    let is = eqb-true e.0 v test in
    ap (λ (t : Bool). cond t (Some place) (place_in entries w)) (other-test v w (λ f. other (sym f)))
    ∙ sym (ap (λ (t : Bool). cond t (Some e.1) (place_in entries w)) (other-test e.0 w (λ f. other (sym (sym is ∙ f)))))
other-by e entries v w place more false true test other rest =
    ap (λ (t : Bool). cond t (Some place) (place_in (e ∷ entries) w)) (other-test v w (λ f. other (sym f)))
other-by e entries v w place more false false test other rest =
    ap (λ (o : Option Place). cond (e.0 == w) (Some e.1) o) rest

pub place-other :
    (entries : List Entry) (v w : ℕ) (place : Place) → w ≢ v
    → place_in (with_place entries v place) w ≡ place_in entries w
unfolding with-by
place-other [] v w place other = ap (λ (t : Bool). cond t (Some place) None) (other-test v w (λ f. other (sym f)))
place-other (e ∷ entries) v w place other =
    other-by e entries v w place (with_place entries v place) (e.0 == v) (ltb v e.0) refl other
    (place-other entries v w place other)

-- ---- the entries' variables

abbrev pub names_of : List Entry → List ℕ
names_of entries = map (λ e. e.0) entries

pub name-placed : (entries : List Entry) (v : ℕ) → IsIn v (names_of entries)
    → (place : Place) × (place_in entries v ≡ Some place)
name-placed [] v i = absurd i
name-placed (e ∷ entries) v i = by (cases_eq e.0 v) i (λ h. name-placed entries v h)
  where
    by :
        (e.0 ≡ v) ⊎ (e.0 ≢ v) → IsIn v (e.0 ∷ names_of entries)
        → (IsIn v (names_of entries) → (place : Place) × (place_in entries v ≡ Some place))
        → (place : Place) × (place_in (e ∷ entries) v ≡ Some place)
    by (inl same) i rest = (e.1, ap (λ (t : Bool). cond t (Some e.1) (place_in entries v)) (equal-test e.0 v same))
    by (inr other) (inl same) rest = absurd (other same)
    by (inr other) (inr h) rest =
        let (place, is) = rest h in
        (place, ap (λ (t : Bool). cond t (Some e.1) (place_in entries v)) (other-test e.0 v other) ∙ is)

pub placed-name : (entries : List Entry) (v : ℕ) (place : Place) → place_in entries v ≡ Some place
    → IsIn v (names_of entries)
placed-name [] v place is = absurd (none-some place is)
placed-name (e ∷ entries) v place is = by (cases_eq e.0 v) (λ f. placed-name entries v place f)
  where
    by :
        (e.0 ≡ v) ⊎ (e.0 ≢ v) → (place_in entries v ≡ Some place → IsIn v (names_of entries))
        → IsIn v (names_of (e ∷ entries))
    by (inl same) rest = inl same
    by (inr other) rest =
        inr (rest (sym (ap (λ (t : Bool). cond t (Some e.1) (place_in entries v)) (other-test e.0 v other)) ∙ is))

above-names : (n : ℕ) (entries : List Entry) → AllByRecursion (λ (f : Entry). n < f.0) entries
    → AllByRecursion (λ w. n < w) (names_of entries)
above-names n [] h = tt
above-names n (e ∷ entries) h = (h.0, above-names n entries h.1)

pub names-ascend : (entries : List Entry) → IsRising entries → IsAscending (names_of entries)
names-ascend [] h = tt
names-ascend (e ∷ entries) h = (above-names e.0 entries h.0, names-ascend entries h.1)

-- ---- ascending lists of the same members are the same

first-same :
    (x y : ℕ) (xs ys : List ℕ) → AllByRecursion (λ w. x < w) xs → AllByRecursion (λ w. y < w) ys → IsIn x (y ∷ ys)
    → IsIn y (x ∷ xs) → x ≡ y
first-same x y xs ys a b (inl e) j = sym e
first-same x y xs ys a b (inr h) (inl e) = e
first-same x y xs ys a b (inr h) (inr g) =
    let low = every-in (λ w. y < w) x ys b h in
    let high = every-in (λ w. x < w) y xs a g in
    absurd (omega (arith, low, high))

pub same-members :
    (xs ys : List ℕ) → IsAscending xs → IsAscending ys → ((v : ℕ) → IsIn v xs ↔ IsIn v ys) → xs ≡ ys
same-members [] [] a b h = refl
same-members [] (y ∷ ys) a b h = absurd ((h y).1 (inl refl))
same-members (x ∷ xs) [] a b h = absurd ((h x).0 (inl refl))
same-members (x ∷ xs) (y ∷ ys) a b h =
    let e : x ≡ y = first-same x y xs ys a.0 b.0 ((h x).0 (inl refl)) ((h y).1 (inl refl)) in
    let rest : xs ≡ ys = same-members xs ys a.1 b.1 (λ v. (
      (λ i. there v e i ((h v).0 (inr i))),
      (λ i. back v e i ((h v).1 (inr i))),
    )) in
    ap (λ (z : ℕ). z ∷ xs) e ∙ ap (λ (zs : List ℕ). y ∷ zs) rest
  where
    there : (v : ℕ) → x ≡ y → IsIn v xs → IsIn v (y ∷ ys) → IsIn v ys
    there v e i (inl f) = let low = every-in (λ w. x < w) v xs a.0 i in absurd (omega (arith, low, e, f))
    there v e i (inr g) = g

    back : (v : ℕ) → x ≡ y → IsIn v ys → IsIn v (x ∷ xs) → IsIn v xs
    back v e i (inl f) = let low = every-in (λ w. y < w) v ys b.0 i in absurd (omega (arith, low, e, f))
    back v e i (inr g) = g

-- ---- pieces, one after another

-- on a side on which not both an X and a Z stand, each variable has one piece at most
abbrev pub IsSide : (Kind → Bool) → Type 0
IsSide side = side X ≡ true → side Z ≡ true → ⊥

pub upper-side : IsSide is_upper
upper-side x z = true≢false (sym z)

pub lower-side : IsSide is_lower
lower-side x z = true≢false (sym x)

two-apart :
    (side : Kind → Bool) (p q : Piece) → IsSide side → Precedes p q → side p.kind ≡ true → side q.kind ≡ true
    → p.var ≢ q.var
two-apart side p q one (inl low) sp sq = λ e. absurd (omega (arith, low, e))
two-apart side p q one (inr (same, x, z)) sp sq =
    absurd (one (sym (ap side x) ∙ sp) (sym (ap side z) ∙ sq))

pub put-none : (side : Kind → Bool) (pieces : List Piece) (places : List Place) (entries : List Entry) → entries ≡ []
    → ArePut side pieces places 0 entries
put-none side pieces places entries is = record {
  rising = subst IsRising (sym is) tt;
  has = λ k p place lt. absurd (omega (arith, lt));
  only = λ v place e. absurd (none-some place (sym (ap (λ (es : List Entry). place_in es v) is) ∙ e));
}

-- a piece that stands on the side
pub put-more :
    (side : Kind → Bool) (pieces : List Piece) (places : List Place) (n : ℕ) (p : Piece) (place : Place)
    (entries : List Entry)
    → IsSide side → AreInOrder pieces → slice_get pieces n ≡ Some p → slice_get places n ≡ Some place
    → side p.kind ≡ true → ArePut side pieces places n entries
    → ArePut side pieces places (n + 1) (with_place entries p.var place)
put-more side pieces places n p place entries one o at there on put = record {
  rising = rising-with entries p.var place put.rising;
  has = λ k q r lt e f s. has-more k q r (less-one k n lt) e f s;
  only = λ v r e. only-more v r (cases_eq v p.var) e;
} where
  has-more :
      (k : ℕ) (q : Piece) (r : Place) → (k < n) ⊎ (k ≡ n) → slice_get pieces k ≡ Some q → slice_get places k ≡ Some r
      → side q.kind ≡ true → place_in (with_place entries p.var place) q.var ≡ Some r
  has-more k q r (inl less) e f s =
      place-other entries p.var q.var place (two-apart side q p one (order-at pieces k n q p o e at less) s on)
      ∙ put.has k q r less e f s
  has-more k q r (inr same) e f s =
      let piece : p ≡ q =
      same_Some p q (sym at ∙ (ap (λ (j : ℕ). slice_get pieces j) (sym same) ∙ e)) in
      let spot : place ≡ r = same_Some place r (sym there ∙ (ap (λ (j : ℕ). slice_get places j) (sym same) ∙ f)) in
      ap (λ (x : Piece). place_in (with_place entries p.var place) x.var) (sym piece)
      ∙ (place-same entries p.var place ∙ ap Some spot)

  only-more :
      (v : ℕ) (r : Place) → (v ≡ p.var) ⊎ (v ≢ p.var) → place_in (with_place entries p.var place) v ≡ Some r
      → (k : ℕ) × (q : Piece) × (k < n + 1) × (slice_get pieces k ≡ Some q) × (side q.kind ≡ true) × (q.var ≡ v)
  only-more v r (inl same) e = (n, p, omega arith, at, on, sym same)
  only-more v r (inr other) e =
      let (k, q, lt, is, s, named) = put.only v r (sym (place-other entries p.var v place other) ∙ e) in
      (k, q, omega (arith, lt), is, s, named)

-- and one that doesn't
pub put-past :
    (side : Kind → Bool) (pieces : List Piece) (places : List Place) (n : ℕ) (p : Piece) (entries : List Entry)
    → slice_get pieces n ≡ Some p → side p.kind ≡ false → ArePut side pieces places n entries
    → ArePut side pieces places (n + 1) entries
put-past side pieces places n p entries at off put = record {
  rising = put.rising;
  has = λ k q r lt e f s. has-more k q r (less-one k n lt) e f s;
  only = λ v r e.
      let (k, q, lt, is, s, named) = put.only v r e in (k, q, omega (arith, lt), is, s, named);
} where
  has-more :
      (k : ℕ) (q : Piece) (r : Place) → (k < n) ⊎ (k ≡ n) → slice_get pieces k ≡ Some q → slice_get places k ≡ Some r
      → side q.kind ≡ true → place_in entries q.var ≡ Some r
  has-more k q r (inl less) e f s = put.has k q r less e f s
  has-more k q r (inr same) e f s =
      let piece : p ≡ q =
      same_Some p q (sym at ∙ (ap (λ (j : ℕ). slice_get pieces j) (sym same) ∙ e)) in
      absurd (true≢false (sym s ∙ (ap (λ (x : Piece). side x.kind) (sym piece) ∙ off)))

-- ---- what changes of the map

pub changes-none : (point : ℕ) (old new : PlaceMap) → new ≡ old → ChangesPoint point old new
changes-none point old new is = record {
  spilled = ap (λ (m : PlaceMap). m.spilled) is;
  slots = ap (λ (m : PlaceMap). m.slots) is;
  befores = ap (λ (m : PlaceMap). length m.before) is;
  afters = ap (λ (m : PlaceMap). length m.after) is;
  before = λ q other. ap (λ (m : PlaceMap). entries_at m.before q) is;
  after = λ q other. ap (λ (m : PlaceMap). entries_at m.after q) is;
}

pub changes-before :
    (point v : ℕ) (place : Place) (old new : PlaceMap) → new ≡ with_before old point v place
    → ChangesPoint point old new
changes-before point v place old new is =
    subst (λ (m : PlaceMap). ChangesPoint point old m) (sym is) (record {
      spilled = refl;
      slots = refl;
      befores = length-set old.before point (with_place (entries_at old.before point) v place);
      afters = refl;
      before = λ q other.
          get_or-set_other old.before point q (with_place (entries_at old.before point) v place) [] other;
      after = λ q other. refl;
    })

pub changes-after :
    (point v : ℕ) (place : Place) (old new : PlaceMap) → new ≡ with_after old point v place
    → ChangesPoint point old new
changes-after point v place old new is =
    subst (λ (m : PlaceMap). ChangesPoint point old m) (sym is) (record {
      spilled = refl;
      slots = refl;
      befores = refl;
      afters = length-set old.after point (with_place (entries_at old.after point) v place);
      before = λ q other. refl;
      after = λ q other.
          get_or-set_other old.after point q (with_place (entries_at old.after point) v place) [] other;
    })

pub changes-join :
    (point : ℕ) (old mid new : PlaceMap) → ChangesPoint point old mid → ChangesPoint point mid new
    → ChangesPoint point old new
changes-join point old mid new a b = record {
  spilled = b.spilled ∙ a.spilled;
  slots = b.slots ∙ a.slots;
  befores = b.befores ∙ a.befores;
  afters = b.afters ∙ a.afters;
  before = λ q other. b.before q other ∙ a.before q other;
  after = λ q other. b.after q other ∙ a.after q other;
}

pub before-here :
    (point v : ℕ) (place : Place) (old new : PlaceMap) → point < length old.before → new ≡ with_before old point v place
    → entries_at new.before point ≡ with_place (entries_at old.before point) v place
before-here point v place old new lt is =
    ap (λ (m : PlaceMap). entries_at m.before point) is
    ∙ get_or-set_same old.before point (with_place (entries_at old.before point) v place) [] lt

pub after-here :
    (point v : ℕ) (place : Place) (old new : PlaceMap) → point < length old.after → new ≡ with_after old point v place
    → entries_at new.after point ≡ with_place (entries_at old.after point) v place
after-here point v place old new lt is =
    ap (λ (m : PlaceMap). entries_at m.after point) is
    ∙ get_or-set_same old.after point (with_place (entries_at old.after point) v place) [] lt

-- what has been put at a point by the first n pieces
pub record ArePutTo (point : ℕ) (pieces : List Piece) (places : List Place) (n : ℕ) (old new : PlaceMap) : Type 0 where
  pub changes : ChangesPoint point old new
  pub before : ArePut is_upper pieces places n (entries_at new.before point)
  pub after : ArePut is_lower pieces places n (entries_at new.after point)

pub all-none :
    (point : ℕ) (pieces : List Piece) (places : List Place) (old new : PlaceMap) → new ≡ old
    → entries_at old.before point ≡ [] → entries_at old.after point ≡ [] → ArePutTo point pieces places 0 old new
all-none point pieces places old new is none nothing = record {
  changes = changes-none point old new is;
  before = put-none is_upper pieces places (entries_at new.before point)
      (ap (λ (m : PlaceMap). entries_at m.before point) is ∙ none);
  after = put-none is_lower pieces places (entries_at new.after point)
      (ap (λ (m : PlaceMap). entries_at m.after point) is ∙ nothing);
}

module _
    (point : ℕ) (pieces : List Piece) (places : List Place) (n : ℕ) (p : Piece) (place : Place)
    (o : AreInOrder pieces) (at : slice_get pieces n ≡ Some p) (there : slice_get places n ≡ Some place) where
  kind-more :
      (kind : Kind) (old mid new : PlaceMap) → p.kind ≡ kind → point < length old.before → point < length old.after
      → ArePutTo point pieces places n old mid → new ≡ with_kind mid point kind p.var place
      → ArePutTo point pieces places (n + 1) old new
  kind-more X old mid new k lt lu put is = record {
    changes = changes-join point old mid new put.changes (changes-before point p.var place mid new is);
    before =
        subst (λ (es : List Entry). ArePut is_upper pieces places (n + 1) es)
        (sym (before-here point p.var place mid new (let e = put.changes.befores in omega (arith, e, lt)) is))
        (put-more is_upper pieces places n p place (entries_at mid.before point) upper-side o at there
        (ap is_upper k) put.before);
    after =
        subst (λ (m : PlaceMap). ArePut is_lower pieces places (n + 1) (entries_at m.after point)) (sym is)
        (put-past is_lower pieces places n p (entries_at mid.after point) at (ap is_lower k) put.after);
  }
  kind-more Z old mid new k lt lu put is = record {
    changes = changes-join point old mid new put.changes (changes-after point p.var place mid new is);
    before =
        subst (λ (m : PlaceMap). ArePut is_upper pieces places (n + 1) (entries_at m.before point)) (sym is)
        (put-past is_upper pieces places n p (entries_at mid.before point) at (ap is_upper k) put.before);
    after =
        subst (λ (es : List Entry). ArePut is_lower pieces places (n + 1) es)
        (sym (after-here point p.var place mid new (let e = put.changes.afters in omega (arith, e, lu)) is))
        (put-more is_lower pieces places n p place (entries_at mid.after point) lower-side o at there
        (ap is_lower k) put.after);
  }
  kind-more Y old mid new k lt lu put is =
      let half : PlaceMap = with_before mid point p.var place in
      let first = changes-before point p.var place mid half refl in
      let second = changes-after point p.var place half new is in
      let e = put.changes.befores in
      let f = put.changes.afters in
      record {
        changes = changes-join point old mid new put.changes (changes-join point mid half new first second);
        before =
            subst (λ (m : PlaceMap). ArePut is_upper pieces places (n + 1) (entries_at m.before point)) (sym is)
            (subst (λ (es : List Entry). ArePut is_upper pieces places (n + 1) es)
            (sym (before-here point p.var place mid half (omega (arith, e, lt)) refl))
            (put-more is_upper pieces places n p place (entries_at mid.before point) upper-side o at there
            (ap is_upper k) put.before));
        after =
            subst (λ (es : List Entry). ArePut is_lower pieces places (n + 1) es)
            (sym (after-here point p.var place half new (omega (arith, f, lu)) is))
            (put-more is_lower pieces places n p place (entries_at half.after point) lower-side o at there
            (ap is_lower k) put.after);
      }

  -- a piece more
  pub piece-more :
      (old mid new : PlaceMap) → point < length old.before → point < length old.after
      → ArePutTo point pieces places n old mid → new ≡ with_kind mid point p.kind p.var place
      → ArePutTo point pieces places (n + 1) old new
  piece-more old mid new lt lu put is = kind-more p.kind old mid new refl lt lu put is

-- a piece more, at its number
pub piece-more-at :
    (point : ℕ) (pieces : List Piece) (places : List Place) (n : ℕ) (d : Piece) (e : Place) (old mid new : PlaceMap)
    → AreInOrder pieces → n < length pieces → n < length places → point < length old.before
    → point < length old.after → ArePutTo point pieces places n old mid
    → new ≡ with_kind mid point (get_or pieces n d).kind (get_or pieces n d).var (get_or places n e)
    → ArePutTo point pieces places (n + 1) old new
piece-more-at point pieces places n d e old mid new o lp ls lt lu put is =
    piece-more point pieces places n (get_or pieces n d) (get_or places n e) o (slice_get-get_or pieces n d lp)
    (slice_get-get_or places n e ls) old mid new lt lu put is

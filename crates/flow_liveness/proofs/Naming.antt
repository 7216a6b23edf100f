-- Names: where a variable has one, that no two share one, and what names have once they are set.
use Rattle.std.proofs.Common.{◌≡◌, ◌≢◌, ◌⊎◌, ◌<◌, ◌+◌, ◌*◌, ℕ, zero, suc, Bool, true, false, cond, List, [], ◌∷◌, ◌++◌}
use Rattle.std.proofs.Common.{get_or, length, Option, Some, None, inl, inr, refl, sym, ap, ◌∙◌, subst, arith}
use Rattle.std.specs.Prelude.{◌==◌, if◌then◌else◌, option_map, slice_get, pos}
use Rattle.std.proofs.lemmas.Bool.{cases_eq}
use Rattle.std.proofs.lemmas.Bool.Decides.{eqb_tells}
use Rattle.std.proofs.lemmas.Option.{none-some, same_Some}
use Rattle.std.proofs.Common.{true≢false}
use Rattle.pcc_base.specs.Outcome.{Value, Number}
use Rattle.flow_graph.specs.Graphs.{Flow, IsIn, IsPlaced, has_point}
use Rattle.flow_graph.specs.Lives.{Lives, at_point}
use Rattle.flow_liveness.specs.FormLaws.{BeforeIsNotAfter, OneAfter, OneBefore}
use Rattle.flow_liveness.specs.Names.{Names, first_name, is_named, joined, move_between, moves_of, name_after}
use Rattle.flow_liveness.specs.Names.{name_before, named_after, one_further, opened_from, place_in, place_of}
use Rattle.flow_liveness.specs.Names.{second_name, source_of, value_of_name, where_named, with_values}
use Rattle.flow_liveness.specs.Names.{without_result}

-- ---- tests of numbers

pub equal-test : (a b : ℕ) → a ≡ b → (a == b) ≡ true
equal-test a b e = elim (eqb_tells a b) [ inl same ↦ same.0 | inr other ↦ absurd (other.1 e) ]

pub other-test : (a b : ℕ) → a ≢ b → (a == b) ≡ false
other-test a b n = elim (eqb_tells a b) [ inl same ↦ absurd (n same.1) | inr other ↦ other.0 ]

-- ---- members

pub in-test : (v : ℕ) (vs : List ℕ) → IsIn v vs → has_point v vs ≡ true
in-test v [] i = absurd i
in-test v (w ∷ vs) i =
    elim (eqb_tells w v) [
      | inl same ↦ ap (λ (b : Bool). cond b true (has_point v vs)) same.0
      | inr other ↦ ap (λ (b : Bool). cond b true (has_point v vs)) other.0 ∙ in-test v vs (rest i other.1)
    ]
  where
    rest : IsIn v (w ∷ vs) → w ≢ v → IsIn v vs
    rest (inl e) n = absurd (n e)
    rest (inr h) n = h

pub test-in : (v : ℕ) (vs : List ℕ) → has_point v vs ≡ true → IsIn v vs
test-in v [] e = absurd (cc)
test-in v (w ∷ vs) e =
    elim (eqb_tells w v) [
      | inl same ↦ inl same.1
      | inr other ↦ inr (test-in v vs (sym (ap (λ (b : Bool). cond b true (has_point v vs)) other.0) ∙ e))
    ]

pub in-left : (v : ℕ) (vs us : List ℕ) → IsIn v vs → IsIn v (vs ++ us)
in-left v [] us i = absurd i
in-left v (w ∷ vs) us (inl e) = inl e
in-left v (w ∷ vs) us (inr h) = inr (in-left v vs us h)

pub in-right : (v : ℕ) (vs us : List ℕ) → IsIn v us → IsIn v (vs ++ us)
in-right v [] us i = i
in-right v (w ∷ vs) us i = inr (in-right v vs us i)

pub in-either : (v : ℕ) (vs us : List ℕ) → IsIn v (vs ++ us) → IsIn v vs ⊎ IsIn v us
in-either v [] us i = inr i
in-either v (w ∷ vs) us (inl e) = inl (inl e)
in-either v (w ∷ vs) us (inr h) = elim (in-either v vs us h) [ inl l ↦ inl (inr l) | inr r ↦ inr r ]

-- ---- places

further-some : (o : Option ℕ) (here : Bool) → (here ≡ true) ⊎ ((i : ℕ) × (o ≡ Some i))
    → (place : ℕ) × (one_further o here ≡ Some place)
further-some (Some i) here h = (suc i, refl)
further-some None true h = (0, refl)
further-some None false (inl e) = absurd (true≢false (sym e))
further-some None false (inr (i, e)) = absurd (none-some i e)

in-place : (p : ℕ) (ps : List ℕ) → IsIn p ps → (place : ℕ) × (place_in p ps ≡ Some place)
in-place p [] i = absurd i
in-place p (q ∷ ps) (inl e) = further-some (place_in p ps) (q == p) (inl (equal-test q p e))
in-place p (q ∷ ps) (inr h) = further-some (place_in p ps) (q == p) (inr (in-place p ps h))

in-joined : (p b : ℕ) (blocks : List (List ℕ)) → IsIn p (get_or blocks b []) → IsIn p (joined blocks)
in-joined p b [] h = absurd h
in-joined p zero (ps ∷ blocks) h = in-left p ps (joined blocks) h
in-joined p (suc b) (ps ∷ blocks) h = in-right p ps (joined blocks) (in-joined p b blocks h)

-- a point of a block has a place
pub placed-place : (flow : Flow) (p : ℕ) → IsPlaced flow p → (place : ℕ) × (place_of flow p ≡ Some place)
placed-place flow p (b, stands) = in-place p (joined flow.blocks) (in-joined p b flow.blocks stands)

-- and stands there
pub place-at : (p : ℕ) (ps : List ℕ) (i : ℕ) → place_in p ps ≡ Some i → slice_get ps i ≡ Some p
place-at p [] i e = absurd (none-some i e)
place-at p (q ∷ ps) i e = by (place_in p ps) (q == p) refl (λ j f. place-at p ps j f) e
  where
    by : (o : Option ℕ) (here : Bool) → (q == p) ≡ here → ((j : ℕ) → o ≡ Some j → slice_get ps j ≡ Some p)
        → one_further o here ≡ Some i → slice_get (q ∷ ps) i ≡ Some p
    by (Some j) here g f e = subst (λ (k : ℕ). slice_get (q ∷ ps) k ≡ Some p) (same_Some (suc j) i e) (f j refl)
    by None true g f e =
        let same : q ≡ p = elim (eqb_tells q p) [ inl s ↦ s.1 | inr n ↦ absurd (true≢false (sym g ∙ n.0)) ] in
        subst (λ (k : ℕ). slice_get (q ∷ ps) k ≡ Some p) (same_Some 0 i e) (ap Some same)
    by None false g f e = absurd (none-some i e)

-- ---- where a name is

pub record IsNamed (test : Bool) (found : Option ℕ) (name_at : ℕ → ℕ) (value : ℕ) : Type 0 where
  pub listed : test ≡ true
  pub at : ℕ
  pub place : found ≡ Some at
  pub name : name_at at ≡ value

named-is : (b : Bool) (o : Option ℕ) (f : ℕ → ℕ) (name : ℕ) → where_named b (option_map f o) ≡ Some name
    → IsNamed b o f name
named-is true None f name e = absurd (none-some name e)
named-is true (Some at) f name e =
    record { listed = refl; at = at; place = refl; name = same_Some (f at) name e }
named-is false o f name e = absurd (none-some name e)

pub before-is : (flow : Flow) (lives : Lives) (p v name : ℕ) → name_before flow lives p v ≡ Some name
    → IsNamed (has_point v (at_point lives.before p)) (place_of flow p) (first_name v) name
before-is flow lives p v name e =
    named-is (has_point v (at_point lives.before p)) (place_of flow p) (first_name v) name e

pub after-is : (flow : Flow) (lives : Lives) (p v name : ℕ) → name_after flow lives p v ≡ Some name
    → IsNamed (has_point v (named_after flow lives p)) (place_of flow p) (second_name v) name
after-is flow lives p v name e =
    named-is (has_point v (named_after flow lives p)) (place_of flow p) (second_name v) name e

is-named : (b : Bool) (o : Option ℕ) (f : ℕ → ℕ) (at : ℕ) → b ≡ true → o ≡ Some at
    → where_named b (option_map f o) ≡ Some (f at)
is-named b o f at e g = ap (λ (t : Bool). where_named t (option_map f o)) e ∙ ap (option_map f) g

-- a variable that is listed has a name at a point of a block
pub named-before : (flow : Flow) (lives : Lives) (p v : ℕ) → IsPlaced flow p → IsIn v (at_point lives.before p)
    → (name : ℕ) × (name_before flow lives p v ≡ Some name)
named-before flow lives p v placed i =
    let (at, e) = placed-place flow p placed in (
      first_name v at,
      is-named (has_point v (at_point lives.before p)) (place_of flow p) (first_name v) at
          (in-test v (at_point lives.before p) i) e,
    )

pub is-named-after : (flow : Flow) (lives : Lives) (p v : ℕ) → IsPlaced flow p → IsIn v (named_after flow lives p)
    → (name : ℕ) × (name_after flow lives p v ≡ Some name)
is-named-after flow lives p v placed i =
    let (at, e) = placed-place flow p placed in (
      second_name v at,
      is-named (has_point v (named_after flow lives p)) (place_of flow p) (second_name v) at
          (in-test v (named_after flow lives p) i) e,
    )

-- ---- fresh names

-- two points with one place are one
same-place : (flow : Flow) (p q i j : ℕ) → place_of flow p ≡ Some i → place_of flow q ≡ Some j → i ≡ j → p ≡ q
same-place flow p q i j e f same =
    same_Some p q (sym (place-at p (joined flow.blocks) i e)
    ∙ (ap (slice_get (joined flow.blocks)) same ∙ place-at q (joined flow.blocks) j f))

one-number : (i j v w : ℕ) → v < 0x1_0000_0000 → w < 0x1_0000_0000
    → 2 * (i * 0x1_0000_0000 + v) ≡ 2 * (j * 0x1_0000_0000 + w) → (i ≡ j) × (v ≡ w)
one-number i j v w l m e = (omega (arith, l, m, e), omega (arith, l, m, e))

pub one_before : OneBefore
one_before flow lives p q v w name l m e f =
    let a = before-is flow lives p v name e in
    let b = before-is flow lives q w name f in
    let (places, variables) = one-number a.at b.at v w l m (a.name ∙ sym b.name) in
    (same-place flow p q a.at b.at a.place b.place places, variables)

pub one_after : OneAfter
one_after flow lives p q v w name l m e f =
    let a = after-is flow lives p v name e in
    let b = after-is flow lives q w name f in
    let same : 2 * (a.at * 0x1_0000_0000 + v) + 1 ≡ 2 * (b.at * 0x1_0000_0000 + w) + 1 = a.name ∙ sym b.name in
    let (places, variables) = one-number a.at b.at v w l m (omega (arith, same)) in
    (same-place flow p q a.at b.at a.place b.place places, variables)

odd : (i j v w name : ℕ) → 2 * (i * 0x1_0000_0000 + v) ≡ name → 2 * (j * 0x1_0000_0000 + w) + 1 ≡ name → ⊥
odd i j v w name e f = omega (arith, e, f)

pub before_is_not_after : BeforeIsNotAfter
before_is_not_after flow lives p q v w name e f =
    let a = before-is flow lives p v name e in
    let b = after-is flow lives q w name f in
    odd a.at b.at v w name a.name b.name

-- at one point a name is one variable's, of however many bits
pub fresh-before : (flow : Flow) (lives : Lives) (p v w name : ℕ) → name_before flow lives p v ≡ Some name
    → name_before flow lives p w ≡ Some name → w ≡ v
fresh-before flow lives p v w name e f =
    let a = before-is flow lives p v name e in
    let b = before-is flow lives p w name f in
    let at : a.at ≡ b.at = same_Some a.at b.at (sym a.place ∙ b.place) in
    one-of a.at b.at v w name at a.name b.name
  where
    one-of : (i j v w name : ℕ) → i ≡ j → 2 * (i * 0x1_0000_0000 + v) ≡ name
        → 2 * (j * 0x1_0000_0000 + w) ≡ name → w ≡ v
    one-of i j v w name same e f = omega (arith, same, e, f)

pub fresh-after : (flow : Flow) (lives : Lives) (p v w name : ℕ) → name_after flow lives p v ≡ Some name
    → name_after flow lives p w ≡ Some name → w ≡ v
fresh-after flow lives p v w name e f =
    let a = after-is flow lives p v name e in
    let b = after-is flow lives p w name f in
    let at : a.at ≡ b.at = same_Some a.at b.at (sym a.place ∙ b.place) in
    one-of a.at b.at v w name at a.name b.name
  where
    one-of : (i j v w name : ℕ) → i ≡ j → 2 * (i * 0x1_0000_0000 + v) + 1 ≡ name
        → 2 * (j * 0x1_0000_0000 + w) + 1 ≡ name → w ≡ v
    one-of i j v w name same e f = omega (arith, same, e, f)

-- ---- names that are set

named-test : (o : Option ℕ) (n : ℕ) → o ≡ Some n → is_named o n ≡ true
named-test None n e = absurd (none-some n e)
named-test (Some m) n e = equal-test m n (same_Some m n e)

other-named : (o : Option ℕ) (n : ℕ) → (o ≡ Some n → ⊥) → is_named o n ≡ false
other-named None n h = refl
other-named (Some m) n h = other-test m n (λ e. h (ap Some e))

-- the name of a listed variable has the variable's value
pub with_values-at : (name_of : ℕ → Option ℕ) (vs : List ℕ) (values : List Value) (names : Names) (v n : ℕ)
    → IsIn v vs → name_of v ≡ Some n → ((w : ℕ) → name_of w ≡ Some n → w ≡ v)
    → with_values name_of vs values names n ≡ get_or values v (Number (pos 0))
with_values-at name_of [] values names v n i e fresh = absurd i
with_values-at name_of (w ∷ vs) values names v n i e fresh =
    elim (cases_eq w v) [
      | inl same ↦ ap (λ (b : Bool). if b then get_or values w (Number (pos 0))
          else with_values name_of vs values names n)
          (named-test (name_of w) n (ap name_of same ∙ e)) ∙ ap (λ (u : ℕ). get_or values u (Number (pos 0))) same
      | inr other ↦ ap (λ (b : Bool). if b then get_or values w (Number (pos 0))
          else with_values name_of vs values names n)
          (other-named (name_of w) n (λ h. other (fresh w h)))
          ∙ with_values-at name_of vs values names v n (rest i other) e fresh
    ]
  where
    rest : IsIn v (w ∷ vs) → w ≢ v → IsIn v vs
    rest (inl s) o = absurd (o s)
    rest (inr h) o = h

-- the copy to a listed variable's name comes from its other name
pub source_of-at : (to from : ℕ → Option ℕ) (vs : List ℕ) (v n m : ℕ) → IsIn v vs → to v ≡ Some n
    → from v ≡ Some m → ((w : ℕ) → to w ≡ Some n → w ≡ v) → source_of (moves_of to from vs) n ≡ m
source_of-at to from [] v n m i e f fresh = absurd i
source_of-at to from (w ∷ vs) v n m i e f fresh =
    elim (cases_eq w v) [
      | inl same ↦ first (to w) (from w) (ap to same ∙ e) (ap from same ∙ f)
      | inr other ↦ later (to w) (from w) (λ h. other (fresh w h))
          ∙ source_of-at to from vs v n m (rest i other) e f fresh
    ]
  where
    rest : IsIn v (w ∷ vs) → w ≢ v → IsIn v vs
    rest (inl s) o = absurd (o s)
    rest (inr h) o = h

    first : (a b : Option ℕ) → a ≡ Some n → b ≡ Some m
        → source_of (move_between a b ++ moves_of to from vs) n ≡ m
    first None b g h = absurd (none-some n g)
    first (Some a) None g h = absurd (none-some m h)
    first (Some a) (Some b) g h =
        ap (λ (t : Bool). if t then b else source_of (moves_of to from vs) n) (equal-test a n (same_Some a n g))
        ∙ same_Some b m h

    later : (a b : Option ℕ) → (a ≡ Some n → ⊥)
        → source_of (move_between a b ++ moves_of to from vs) n ≡ source_of (moves_of to from vs) n
    later None b g = refl
    later (Some a) None g = refl
    later (Some a) (Some b) g =
        ap (λ (t : Bool). if t then b else source_of (moves_of to from vs) n)
        (other-test a n (λ e. g (ap Some e)))

-- a variable other than the result stays in the list
pub in-without : (result : Option ℕ) (v : ℕ) (vs : List ℕ) → IsIn v vs → (result ≡ Some v → ⊥)
    → IsIn v (without_result result vs)
in-without result v [] i n = absurd i
in-without result v (w ∷ vs) i n =
    elim (cases_eq w v) [
      | inl same ↦ subst (IsIn v) (sym (ap (λ (b : Bool). if b then without_result result vs
          else w ∷ without_result result vs) (other-named result w (λ e. n (e ∙ ap Some same))))) (inl same)
      | inr other ↦ later (is_named result w) (in-without result v vs (rest i other) n)
    ]
  where
    rest : IsIn v (w ∷ vs) → w ≢ v → IsIn v vs
    rest (inl s) o = absurd (o s)
    rest (inr h) o = h

    later : (b : Bool) → IsIn v (without_result result vs)
        → IsIn v (if b then without_result result vs else w ∷ without_result result vs)
    later true h = h
    later false h = inr h

-- ---- variables read off their names

pub opened-length : {A : Type 0} (name_of : ℕ → Option ℕ) (names : Names) (start : ℕ) (widths : List A)
    → length (opened_from name_of names start widths) ≡ length widths
opened-length name_of names start [] = refl
opened-length name_of names start (w ∷ widths) =
    let e = opened-length name_of names (suc start) widths in omega (arith, e)

pub opened-at : {A : Type 0} (name_of : ℕ → Option ℕ) (names : Names) (start i : ℕ) (widths : List A)
    → i < length widths
    → slice_get (opened_from name_of names start widths) i ≡ Some (value_of_name names (name_of (start + i)))
opened-at name_of names start i [] lt = absurd (omega (arith, lt))
opened-at name_of names start zero (w ∷ widths) lt =
    let e : start ≡ start + 0 = omega arith in
    ap (λ (v : ℕ). Some (value_of_name names (name_of v))) e
opened-at name_of names start (suc i) (w ∷ widths) lt =
    let e : suc start + i ≡ start + suc i = omega arith in
    opened-at name_of names (suc start) i widths (omega (arith, lt))
    ∙ ap (λ (v : ℕ). Some (value_of_name names (name_of v))) e

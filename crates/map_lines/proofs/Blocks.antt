-- The points of all blocks of a graph, one behind the other: each stands there once.
use Rattle.std.specs.List.{AllByRecursion}
use Rattle.std.proofs.Common.{◌≡◌, ◌≢◌, ℕ, zero, suc, ◌+◌, ◌<◌, ◌≤◌, List, [], ◌∷◌, ◌++◌, length, get_or, Some, refl}
use Rattle.std.proofs.Common.{sym, ap, ◌∙◌, subst}
use Rattle.std.proofs.Common.{arith, inl, inr}
use Rattle.std.specs.Prelude.{◌⊎◌, flat_map, slice_get, slice_index_or}
use Rattle.std.proofs.lemmas.Option.{same_Some}
use Rattle.pcc_base.proofs.Lists.{all-append, all-left, all-right}
use Rattle.flow_graph.specs.Graphs.{Flow, IsDistinct, IsFlow, IsIn, IsPlaced, Stands, points_of}
use Rattle.flow_graph.proofs.Points.{every-in, every-from}

-- ---- lists

pub in-front : (p : ℕ) (xs ys : List ℕ) → IsIn p xs → IsIn p (xs ++ ys)
in-front p [] ys within = absurd within
in-front p (x ∷ xs) ys (inl same) = inl same
in-front p (x ∷ xs) ys (inr within) = inr (in-front p xs ys within)

pub in-back : (p : ℕ) (xs ys : List ℕ) → IsIn p ys → IsIn p (xs ++ ys)
in-back p [] ys within = within
in-back p (x ∷ xs) ys within = inr (in-back p xs ys within)

pub in-either : (p : ℕ) (xs ys : List ℕ) → IsIn p (xs ++ ys) → IsIn p xs ⊎ IsIn p ys
in-either p [] ys within = inr within
in-either p (x ∷ xs) ys (inl same) = inl (inl same)
in-either p (x ∷ xs) ys (inr within) =
    elim (in-either p xs ys within) [ inl front ↦ inl (inr front) | inr back ↦ inr back ]

pub distinct-both : (xs ys : List ℕ) → IsDistinct xs → IsDistinct ys → ((p q : ℕ) → IsIn p xs → IsIn q ys → q ≢ p)
    → IsDistinct (xs ++ ys)
distinct-both [] ys one other away = other
distinct-both (x ∷ xs) ys one other away = (
  all-append (λ q. q ≢ x) xs ys one.0 (every-from (λ q. q ≢ x) ys (λ q within. away x q (inl refl) within)),
  distinct-both xs ys one.1 other (λ p q front back. away p q (inr front) back),
)

-- ---- blocks

-- the points of all blocks, in order
abbrev pub all_points : Flow → List ℕ
all_points flow = flat_map (λ points. points) flow.blocks

-- a point among those of all blocks is in one of them
one-block : (p : ℕ) (blocks : List (List ℕ)) → IsIn p (flat_map (λ points. points) blocks) → (k : ℕ)
    × IsIn p (slice_index_or blocks k [])
one-block p [] within = absurd within
one-block p (points ∷ blocks) within =
    elim (in-either p points (flat_map (λ points. points) blocks) within) [
      | inl here ↦ (0, here)
      | inr later ↦ (let (k, there) = one-block p blocks later in (suc k, there))
    ]

all-blocks : (p k : ℕ) (blocks : List (List ℕ)) → IsIn p (slice_index_or blocks k [])
    → IsIn p (flat_map (λ points. points) blocks)
all-blocks p k [] within = absurd within
all-blocks p zero (points ∷ blocks) within = in-front p points (flat_map (λ points. points) blocks) within
all-blocks p (suc k) (points ∷ blocks) within =
    in-back p points (flat_map (λ points. points) blocks) (all-blocks p k blocks within)

pub placed-in : (flow : Flow) (p : ℕ) → IsIn p (all_points flow) → IsPlaced flow p
placed-in flow p within = one-block p flow.blocks within

pub in-placed : (flow : Flow) (p b : ℕ) → Stands flow p b → IsIn p (all_points flow)
in-placed flow p b stands = all-blocks p b flow.blocks stands

-- so is each in a list of them
pub placed-at : (flow : Flow) (points : List ℕ) (i d p : ℕ) → points ≡ all_points flow → i < length points
    → get_or points i d ≡ p → IsPlaced flow p
placed-at flow points i d p are h is = placed-in flow p
    (subst (λ (ps : List ℕ). IsIn p ps) are (subst (λ (q : ℕ). IsIn q points) is (one-of points i d h)))
  where
    one-of : (xs : List ℕ) (i d : ℕ) → i < length xs → IsIn (get_or xs i d) xs
    one-of [] i d h = absurd (omega (arith, h))
    one-of (x ∷ xs) zero d h = inl refl
    one-of (x ∷ xs) (suc i) d h = inr (one-of xs i d (omega (arith, h)))

-- ---- each point stands once

abbrev AtHome : List ℕ → ℕ → List ℕ → Type 0
AtHome homes k points = AllByRecursion (λ p. slice_get homes p ≡ Some k) points × IsDistinct points

-- the points of later blocks are at home in later ones
later-home : (homes : List ℕ) (k : ℕ) (blocks : List (List ℕ)) (q : ℕ)
    → ((j : ℕ) → AtHome homes (k + j) (slice_index_or blocks j [])) → IsIn q (flat_map (λ points. points) blocks)
    → (h : ℕ) × (k ≤ h) × (slice_get homes q ≡ Some h)
later-home homes k blocks q homely within =
    let (j, there) = one-block q blocks within in (
      k + j,
      omega arith,
      every-in (λ p. slice_get homes p ≡ Some (k + j)) q (slice_index_or blocks j []) (homely j).0
          there,
    )

blocks-distinct : (homes : List ℕ) (k : ℕ) (blocks : List (List ℕ))
    → ((j : ℕ) → AtHome homes (k + j) (slice_index_or blocks j [])) → IsDistinct (flat_map (λ points. points) blocks)
blocks-distinct homes k [] homely = tt
blocks-distinct homes k (points ∷ blocks) homely =
    let here : k + 0 ≡ k = omega arith in
    let others : (j : ℕ) → AtHome homes (suc k + j) (slice_index_or blocks j []) =
    λ j. (let next : k + suc j ≡ suc k + j = omega arith in
    subst (λ (h : ℕ). AtHome homes h (slice_index_or blocks j [])) next (homely (suc j))) in
    let mine = subst (λ (h : ℕ). AtHome homes h points) here (homely 0) in
    distinct-both points (flat_map (λ points. points) blocks) mine.1 (blocks-distinct homes (suc k) blocks others)
    (λ p q front back same.
    let (h, low, at) = later-home homes (suc k) blocks q others back in
    let own : slice_get homes p ≡ Some k = every-in (λ p. slice_get homes p ≡ Some k) p points mine.0 front in
    let both : h ≡ k = same_Some h k (sym at ∙ ap (slice_get homes) same ∙ own) in
    absurd (omega (arith, low, both)))

pub all-distinct : (flow : Flow) (homes : List ℕ) → IsFlow flow homes → IsDistinct (all_points flow)
all-distinct flow homes is =
    blocks-distinct homes 0 flow.blocks
    (λ j. (let e : j ≡ 0 + j = omega arith in
    subst (λ (h : ℕ). AtHome homes h (points_of flow j)) e ((is.each_block j).at_home, (is.each_block j).once)))

-- ---- distinct numbers in two lists

pub every-parts : (P : ℕ → Type 0) (xs ys : List ℕ) → AllByRecursion P (xs ++ ys)
    → AllByRecursion P xs × AllByRecursion P ys
every-parts P xs ys h = (all-left P xs ys h, all-right P xs ys h)

pub record AreParts (xs ys : List ℕ) : Type 0 where
  pub front : IsDistinct xs
  pub back : IsDistinct ys
  pub apart : (p q : ℕ) → IsIn p xs → IsIn q ys → q ≢ p

pub distinct-parts : (xs ys : List ℕ) → IsDistinct (xs ++ ys) → AreParts xs ys
distinct-parts [] ys d = record { front = tt; back = d; apart = λ p q within. absurd within }
distinct-parts (x ∷ xs) ys d =
    let away = every-parts (λ q. q ≢ x) xs ys d.0 in
    let more = distinct-parts xs ys d.1 in
    record {
      front = (away.0, more.front);
      back = more.back;
      apart = λ p q within there. either p q within there away.1 more;
    }
  where
    either : (p q : ℕ) → IsIn p (x ∷ xs) → IsIn q ys → AllByRecursion (λ r. r ≢ x) ys → AreParts xs ys → q ≢ p
    either p q (inl same) there away more e = every-in (λ r. r ≢ x) q ys away there (e ∙ sym same)
    either p q (inr later) there away more e = more.apart p q later there e

-- The most pieces that can stay, from what was tried.
use Rattle.std.proofs.Common.{ℕ, ◌≡◌, ◌+◌, ◌-◌, ◌*◌, ◌≤◌, ◌<◌, ◌⊎◌, inl, inr, refl, sym, subst, min, max}
use Rattle.std.proofs.Common.{Bool, true, false, nat_lt, ◌↔◌, arith}
use Rattle.std.proofs.lemmas.Bool.Decides.{nat_tests}
use Rattle.std.proofs.Math.Nat.{le-min, min-le_left, min-le_right}
use Rattle.puzzle_board.specs.Bounds.{IsBounded, lower_of, upper_of}
use Rattle.puzzle_solver.specs.declared.board_counts.AreaCounts.{AreaCounts}
use Rattle.puzzle_solver.specs.declared.board_counts.PieceCounts.{PieceCounts}
use Rattle.puzzle_solver.specs.Plans.{numbers}
use Rattle.least_spill.specs.Most.{CanStay, HasWide, IsMost, IsMostBefore, IsMostWith, beside, total}
use Rattle.least_spill.proofs.Exchange.{exchanged, fewer-bounded}

-- ---- the lesser of two

pub below-min : (y a b r : ℕ) → r ≡ min a b → y ≤ a → y ≤ b → y ≤ r
below-min y a b r is p q = subst (λ (k : ℕ). y ≤ k) (sym is) (le-min p q)

pub min-below : (y a b r : ℕ) → r ≡ min a b → y ≤ r → (y ≤ a) × (y ≤ b)
min-below y a b r is le =
    let m : y ≤ min a b = subst (λ (k : ℕ). y ≤ k) is le in
    (omega (arith, m, min-le_left a b), omega (arith, m, min-le_right a b))

-- one or the other
one-of-min : (a b r : ℕ) → r ≡ min a b → (r ≡ a) ⊎ (r ≡ b)
one-of-min a b r is = grind arith

max-bounds : (a b r : ℕ) → r ≡ max a b → (a ≤ r) × (b ≤ r)
max-bounds a b r is = (grind arith, grind arith)

one-of-max : (a b r : ℕ) → r ≡ max a b → (r ≡ a) ⊎ (r ≡ b)
one-of-max a b r is = grind arith

-- ---- narrow pieces beside wide ones

-- so many X and Z beside as many Y as there are, or have room, are the most
with-all-y :
    (x1 z1 u l ox oy oz y k1 k3 s : ℕ) → ox ≤ x1 → oz ≤ z1 → oy + ox ≤ u → oy + oz ≤ l → y ≤ u → y ≤ l → oy ≤ y
    → (k1 ≡ x1) ⊎ (k1 ≡ u - y) → (k3 ≡ z1) ⊎ (k3 ≡ l - y) → k1 ≤ x1 → k1 ≤ u - y → k3 ≤ z1 → k3 ≤ l - y → y ≤ s
    → (s ≡ u - x1) ⊎ (s ≡ l - z1) → oy + ox + oz ≤ y + k1 + k3
with-all-y x1 z1 u l ox oy oz y k1 k3 s px pz pu pl yu yl py (inl a) (inl b) k1x k1u k3z k3l ys which = omega arith
with-all-y x1 z1 u l ox oy oz y k1 k3 s px pz pu pl yu yl py (inl a) (inr b) k1x k1u k3z k3l ys which = omega arith
with-all-y x1 z1 u l ox oy oz y k1 k3 s px pz pu pl yu yl py (inr a) (inl b) k1x k1u k3z k3l ys which = omega arith
with-all-y x1 z1 u l ox oy oz y k1 k3 s px pz pu pl yu yl py (inr a) (inr b) k1x k1u k3z k3l ys (inl is) = omega arith
with-all-y x1 z1 u l ox oy oz y k1 k3 s px pz pu pl yu yl py (inr a) (inr b) k1x k1u k3z k3l ys (inr is) = omega arith

-- and so are they beside as many Y as take none of what the X need, or of what the Z need
with-spare :
    (x1 z1 u l ox oy oz y k1 k3 : ℕ) → ox ≤ x1 → oz ≤ z1 → oy + ox ≤ u → oy + oz ≤ l → y ≤ u → y ≤ l
    → (k1 ≡ x1) ⊎ (k1 ≡ u - y) → (k3 ≡ z1) ⊎ (k3 ≡ l - y) → u - x1 ≤ y → l - z1 ≤ y → (y ≡ u - x1) ⊎ (y ≡ l - z1)
    → k1 ≤ x1 → k1 ≤ u - y → k3 ≤ z1 → k3 ≤ l - y
    → oy + ox + oz ≤ y + k1 + k3
with-spare x1 z1 u l ox oy oz y k1 k3 px pz pu pl yu yl (inl a) (inl b) sx sz (inl is) e f g h = omega arith
with-spare x1 z1 u l ox oy oz y k1 k3 px pz pu pl yu yl (inl a) (inl b) sx sz (inr is) e f g h = omega arith
with-spare x1 z1 u l ox oy oz y k1 k3 px pz pu pl yu yl (inl a) (inr b) sx sz (inl is) e f g h = omega arith
with-spare x1 z1 u l ox oy oz y k1 k3 px pz pu pl yu yl (inl a) (inr b) sx sz (inr is) e f g h = omega arith
with-spare x1 z1 u l ox oy oz y k1 k3 px pz pu pl yu yl (inr a) (inl b) sx sz (inl is) e f g h = omega arith
with-spare x1 z1 u l ox oy oz y k1 k3 px pz pu pl yu yl (inr a) (inl b) sx sz (inr is) e f g h = omega arith
with-spare x1 z1 u l ox oy oz y k1 k3 px pz pu pl yu yl (inr a) (inr b) sx sz (inl is) e f g h = omega arith
with-spare x1 z1 u l ox oy oz y k1 k3 px pz pu pl yu yl (inr a) (inr b) sx sz (inr is) e f g h = omega arith

-- the three together
most-narrow :
    (x1 y1 z1 room u l ox oy oz m s y k1 k3 : ℕ) → ox ≤ x1 → oy ≤ y1 → oz ≤ z1 → oy ≤ room → oy + ox ≤ u → oy + oz ≤ l
    → y ≤ u → y ≤ l → m ≡ min y1 room → s ≡ max (u - x1) (l - z1) → y ≡ min m s → k1 ≡ min x1 (u - y)
    → k3 ≡ min z1 (l - y) → oy + ox + oz ≤ y + k1 + k3
most-narrow x1 y1 z1 room u l ox oy oz m s y k1 k3 px py pz pr pu pl yu yl m-is s-is y-is k1-is k3-is =
    by-y (one-of-min m s y y-is) where
      x-first : (k1 ≡ x1) ⊎ (k1 ≡ u - y)
      x-first = one-of-min x1 (u - y) k1 k1-is

      z-first : (k3 ≡ z1) ⊎ (k3 ≡ l - y)
      z-first = one-of-min z1 (l - y) k3 k3-is

      spare : (u - x1 ≤ s) × (l - z1 ≤ s)
      spare = max-bounds (u - x1) (l - z1) s s-is

      within-x : (k1 ≤ x1) × (k1 ≤ u - y)
      within-x = min-below k1 x1 (u - y) k1 k1-is (omega arith)

      within-z : (k3 ≤ z1) × (k3 ≤ l - y)
      within-z = min-below k3 z1 (l - y) k3 k3-is (omega arith)

      within-y : (y ≤ m) × (y ≤ s)
      within-y = min-below y m s y y-is (omega arith)

      most-y : oy ≤ m
      most-y = below-min oy y1 room m m-is py pr

      by-y : (y ≡ m) ⊎ (y ≡ s) → oy + ox + oz ≤ y + k1 + k3
      by-y (inl is) =
          with-all-y x1 z1 u l ox oy oz y k1 k3 s px pz pu pl yu yl (omega (arith, most-y)) x-first z-first within-x.0
          within-x.1 within-z.0 within-z.1 within-y.1 (one-of-max (u - x1) (l - z1) s s-is)
      by-y (inr is) =
          with-spare x1 z1 u l ox oy oz y k1 k3 px pz pu pl yu yl x-first z-first (omega (arith, spare.0))
          (omega (arith, spare.1))
          (let which = one-of-max (u - x1) (l - z1) s s-is in
          subst (λ (n : ℕ). (n ≡ u - x1) ⊎ (n ≡ l - z1)) (sym is) which)
          within-x.0 within-x.1 within-z.0 within-z.1

-- the most with so many wide X and Z
pub most-with :
    (a : AreaCounts) (p : PieceCounts) (x z room u l m s y k1 k3 : ℕ) → x ≤ p.x2 → z ≤ p.z2
    → ((n : ℕ) → IsBounded (numbers a (beside x n z)) ↔ n ≤ room)
    → u + 2 * x ≡ upper_of (numbers a p) → l + 2 * z ≡ lower_of (numbers a p) → m ≡ min p.y1 room
    → s ≡ max (u - p.x1) (l - p.z1) → y ≡ min m s → k1 ≡ min p.x1 (u - y) → k3 ≡ min p.z1 (l - y)
    → IsMostWith a p x z (record { x1 = k1; x2 = x; y1 = y; y2 = 0; z1 = k3; z2 = z })
most-with a p x z room u l m s y k1 k3 px pz rooms u-is l-is m-is s-is y-is k1-is k3-is =
    let within-y = min-below y m s y y-is (omega arith) in
    let within-m = min-below y p.y1 room m m-is within-y.0 in
    let within-x = min-below k1 p.x1 (u - y) k1 k1-is (omega arith) in
    let within-z = min-below k3 p.z1 (l - y) k3 k3-is (omega arith) in
    let b = (rooms y).1 within-m.1 in
    let yu : y ≤ u = omega (arith, b.upper, u-is) in
    let yl : y ≤ l = omega (arith, b.lower, l-is) in
    record {
      stay = record {
        part = record {
          x1 = within-x.0;
          x2 = px;
          y1 = within-m.0;
          y2 = omega arith;
          z1 = within-z.0;
          z2 = pz;
        };
        bounded = record {
          wide_y = b.wide_y;
          wide_yx = b.wide_yx;
          wide_yz = b.wide_yz;
          y = b.y;
          y_wide_x = b.y_wide_x;
          y_wide_z = b.y_wide_z;
          y_wide = b.y_wide;
          y_both_x = b.y_both_x;
          y_both_z = b.y_both_z;
          upper = omega (arith, yu, within-x.1, u-is);
          lower = omega (arith, yl, within-z.1, l-is);
        };
      };
      wide = record { x2 = refl; y2 = refl; z2 = refl };
      most = λ other fits wide.
          let narrow = (rooms other.y1).0
          (fewer-bounded a other (beside x other.y1 z) fits.bounded (omega arith) (omega (arith, wide.x2)) (omega arith)
          (omega arith) (omega arith) (omega (arith, wide.z2))) in
          let least = most-narrow p.x1 p.y1 p.z1 room u l other.x1 other.y1 other.z1 m s y k1 k3 fits.part.x1 fits.part.y1 fits.part.z1
          narrow (omega (arith, fits.bounded.upper, u-is, wide.x2)) (omega (arith, fits.bounded.lower, l-is, wide.z2))
          yu yl m-is s-is y-is k1-is k3-is in
          omega (arith, least, wide.x2, wide.y2, wide.z2);
    }

-- ---- one choice after another

last-or-before : (m n : ℕ) → m < n + 1 → (m < n) ⊎ (m ≡ n)
last-or-before m n less = grind arith

-- the greater of what was the most so far and of one choice more
pub before-more :
    (a : AreaCounts) (p : PieceCounts) (x z : ℕ) (best kept : PieceCounts) → IsMostBefore a p x z best
    → CanStay a p kept → total best ≤ total kept
    → ((other : PieceCounts) → CanStay a p other → HasWide x z other → total other ≤ total kept)
    → IsMostBefore a p x (z + 1) kept
before-more a p x z best kept so_far stay more here = record {
  stay = stay;
  most = λ other fits none before. by other fits none before;
} where
  last : (other : PieceCounts) → CanStay a p other → other.y2 ≡ 0 → other.x2 ≡ x → (other.z2 < z) ⊎ (other.z2 ≡ z)
      → total other ≤ total kept
  last other fits none is (inl less) = omega (arith, so_far.most other fits none (inr (is, less)))
  last other fits none is (inr same) = here other fits (record { x2 = is; y2 = none; z2 = same })

  by : (other : PieceCounts) → CanStay a p other → other.y2 ≡ 0
      → (other.x2 < x) ⊎ ((other.x2 ≡ x) × (other.z2 < z + 1)) → total other ≤ total kept
  by other fits none (inl less) = omega (arith, so_far.most other fits none (inl less))
  by other fits none (inr (is, less)) = last other fits none is (last-or-before other.z2 z less)

-- all choices with so many wide X
pub before-row :
    (a : AreaCounts) (p : PieceCounts) (x z : ℕ) (best : PieceCounts) → IsMostBefore a p x z best → p.z2 < z
    → IsMostBefore a p (x + 1) 0 best
before-row a p x z best so_far past = record {
  stay = so_far.stay;
  most = λ other fits none before. by other fits none before;
} where
  last : (other : PieceCounts) → CanStay a p other → other.y2 ≡ 0 → (other.x2 < x) ⊎ (other.x2 ≡ x)
      → total other ≤ total best
  last other fits none (inl less) = so_far.most other fits none (inl less)
  last other fits none (inr is) = so_far.most other fits none (inr (is, omega (arith, fits.part.z2, past)))

  by : (other : PieceCounts) → CanStay a p other → other.y2 ≡ 0
      → (other.x2 < x + 1) ⊎ ((other.x2 ≡ x + 1) × (other.z2 < 0)) → total other ≤ total best
  by other fits none (inl less) = last other fits none (last-or-before other.x2 x less)
  by other fits none (inr (is, less)) = absurd (omega arith)

-- ---- wide Y

-- all pieces but so many Y of width Two
abbrev pub all_but : PieceCounts → ℕ → PieceCounts
all_but p fewer = record p { y2 = p.y2 - fewer }

-- fewer wide Y removed would break the bounds, so no more pieces can stay
pub wide-most :
    (a : AreaCounts) (p : PieceCounts) (fewer : ℕ) → fewer ≤ p.y2 → IsBounded (numbers a (all_but p fewer))
    → ((r : ℕ) → r < fewer → ¬ IsBounded (numbers a (all_but p r))) → IsMost a p (all_but p fewer)
wide-most a p fewer within bounded none = record {
  stay = record {
    part = record {
      x1 = omega arith;
      x2 = omega arith;
      y1 = omega arith;
      y2 = omega arith;
      z1 = omega arith;
      z2 = omega arith;
    };
    bounded = bounded;
  };
  most = λ other fits. fewest other fits (nat_lt (total (all_but p fewer)) (total other)) refl;
} where
  fewest : (other : PieceCounts) → CanStay a p other → (b : Bool) → nat_lt (total (all_but p fewer)) (total other) ≡ b
      → total other ≤ total (all_but p fewer)
  fewest other fits false is = grind (arith, nat_tests)
  fewest other fits true is =
      let more : total (all_but p fewer) < total other = grind (arith, nat_tests) in
      let r = total p - total other in
      let less : r < fewer =
      omega (arith, more, within, fits.part.x1, fits.part.x2, fits.part.y1, fits.part.y2, fits.part.z1, fits.part.z2) in
      let same : total (all_but p r) ≤ total other = omega (arith, less, within) in
      absurd (none r less (exchanged a other (all_but p r) fits.bounded fits.part.x1 fits.part.x2 fits.part.y1 fits.part.z1 fits.part.z2 same))

-- a number in two parts, each between two bounds
abbrev Parts : (a b c d t : ℕ) → Type 0
Parts a b c d t = (m : ℕ) × (n : ℕ) × (a ≤ m) × (m ≤ b) × (c ≤ n) × (n ≤ d) × (m + n ≡ t)

parts : (a b c d t : ℕ) → a ≤ b → c ≤ d → a + c ≤ t → t ≤ b + d → Parts a b c d t
parts a b c d t ab cd low high = by (nat_lt (t - c) b) refl where
  by : (less : Bool) → nat_lt (t - c) b ≡ less → Parts a b c d t
  by true is =
      let less : t - c < b = grind (arith, nat_tests) in
      (t - c, c, omega arith, omega (arith, less), omega arith, cd, omega arith)
  by false is =
      let past : b ≤ t - c = grind (arith, nat_tests) in
      (b, t - b, ab, omega arith, omega (arith, past), omega (arith, past), omega (arith, past))

sum-le : (a b c d : ℕ) → a ≤ b → c ≤ d → a + c ≤ b + d
sum-le a b c d ab cd = omega arith

sum-of :
    (x1 t1 x2 t2 y1 t3 z1 z2 t : ℕ) → x1 + t1 ≡ t → x2 + t2 ≡ t1 → y1 + t3 ≡ t2 → z1 + z2 ≡ t3
    → x1 + x2 + y1 + 0 + z1 + z2 ≡ t
sum-of x1 t1 x2 t2 y1 t3 z1 z2 t e1 e2 e3 e4 = omega arith

at-most : (m n : ℕ) → m ≡ n → m ≤ n
at-most m n is = omega arith

zero-le : (n : ℕ) → 0 ≤ n
zero-le n = omega arith

below-next : (m n : ℕ) → m ≤ n → m < n + 1
below-next m n le = omega arith

-- as many pieces without wide Y, of which more of every other kind stay, are no more than the most
module _ (a : AreaCounts) (p best : PieceCounts) (so_far : IsMostBefore a p (p.x2 + 1) 0 best)
    (other : PieceCounts) (fits : CanStay a p other) where
  moved : (x1 x2 y1 z1 z2 : ℕ) → other.x1 ≤ x1 → x1 ≤ p.x1 → other.x2 ≤ x2 → x2 ≤ p.x2 → other.y1 ≤ y1 → y1 ≤ p.y1
      → other.z1 ≤ z1 → z1 ≤ p.z1 → other.z2 ≤ z2 → z2 ≤ p.z2 → x1 + x2 + y1 + 0 + z1 + z2 ≡ total other
      → total other ≤ total best
  moved x1 x2 y1 z1 z2 a1 b1 a2 b2 a3 b3 a4 b4 a5 b5 same =
      let m : PieceCounts = record { x1 = x1; x2 = x2; y1 = y1; y2 = 0; z1 = z1; z2 = z2 } in
      let stays : CanStay a p m = record {
        part = record { x1 = b1; x2 = b2; y1 = b3; y2 = zero-le p.y2; z1 = b4; z2 = b5 };
        bounded = exchanged a other m fits.bounded a1 a2 a3 a4 a5 (at-most (total m) (total other) same);
      } in
      subst (λ (t : ℕ). t ≤ total best) same
      (so_far.most m stays refl (inl (below-next x2 p.x2 b2)))

  with-z : (x1 t1 x2 t2 y1 t3 : ℕ) → other.x1 ≤ x1 → x1 ≤ p.x1 → other.x2 ≤ x2 → x2 ≤ p.x2 → other.y1 ≤ y1
      → y1 ≤ p.y1 → x1 + t1 ≡ total other → x2 + t2 ≡ t1 → y1 + t3 ≡ t2
      → Parts other.z1 p.z1 other.z2 p.z2 t3 → total other ≤ total best
  with-z x1 t1 x2 t2 y1 t3 a1 b1 a2 b2 a3 b3 e1 e2 e3 (z1, z2, a4, b4, a5, b5, e4) =
      moved x1 x2 y1 z1 z2 a1 b1 a2 b2 a3 b3 a4 b4 a5 b5 (sum-of x1 t1 x2 t2 y1 t3 z1 z2 (total other) e1 e2 e3 e4)

  with-y : (x1 t1 x2 t2 : ℕ) → other.x1 ≤ x1 → x1 ≤ p.x1 → other.x2 ≤ x2 → x2 ≤ p.x2 → x1 + t1 ≡ total other
      → x2 + t2 ≡ t1 → Parts other.y1 p.y1 (other.z1 + other.z2) (p.z1 + p.z2) t2 → total other ≤ total best
  with-y x1 t1 x2 t2 a1 b1 a2 b2 e1 e2 (y1, t3, a3, b3, c3, d3, e3) =
      with-z x1 t1 x2 t2 y1 t3 a1 b1 a2 b2 a3 b3 e1 e2 e3
      (parts other.z1 p.z1 other.z2 p.z2 t3 fits.part.z1 fits.part.z2 c3 d3)

  narrow-z : other.z1 + other.z2 ≤ p.z1 + p.z2
  narrow-z = sum-le other.z1 p.z1 other.z2 p.z2 fits.part.z1 fits.part.z2

  with-x2 : (x1 t1 : ℕ) → other.x1 ≤ x1 → x1 ≤ p.x1 → x1 + t1 ≡ total other
      → Parts other.x2 p.x2 (other.y1 + (other.z1 + other.z2)) (p.y1 + (p.z1 + p.z2)) t1
      → total other ≤ total best
  with-x2 x1 t1 a1 b1 e1 (x2, t2, a2, b2, c2, d2, e2) =
      with-y x1 t1 x2 t2 a1 b1 a2 b2 e1 e2
      (parts other.y1 p.y1 (other.z1 + other.z2) (p.z1 + p.z2) t2 fits.part.y1 narrow-z c2 d2)

  with-y-z : other.y1 + (other.z1 + other.z2) ≤ p.y1 + (p.z1 + p.z2)
  with-y-z = sum-le other.y1 p.y1 (other.z1 + other.z2) (p.z1 + p.z2) fits.part.y1 narrow-z

  with-x1 :
      Parts other.x1 p.x1 (other.x2 + (other.y1 + (other.z1 + other.z2))) (p.x2 + (p.y1 + (p.z1 + p.z2))) (total other)
      → total other ≤ total best
  with-x1 (x1, t1, a1, b1, c1, d1, e1) =
      with-x2 x1 t1 a1 b1 e1
      (parts other.x2 p.x2 (other.y1 + (other.z1 + other.z2)) (p.y1 + (p.z1 + p.z2)) t1 fits.part.x2 with-y-z c1 d1)

  most-without : total other < total (record p { y2 = 0 }) → total other ≤ total best
  most-without less =
      with-x1
      (parts other.x1 p.x1 (other.x2 + (other.y1 + (other.z1 + other.z2))) (p.x2 + (p.y1 + (p.z1 + p.z2)))
      (total other) fits.part.x1
      (sum-le other.x2 p.x2 (other.y1 + (other.z1 + other.z2)) (p.y1 + (p.z1 + p.z2)) fits.part.x2 with-y-z)
      (low other.x1 other.x2 other.y1 other.y2 other.z1 other.z2)
      (high p.x1 p.x2 p.y1 p.z1 p.z2 (total other) less)) where
        low : (x1 x2 y1 y2 z1 z2 : ℕ) → x1 + (x2 + (y1 + (z1 + z2))) ≤ x1 + x2 + y1 + y2 + z1 + z2
        low x1 x2 y1 y2 z1 z2 = omega arith

        high : (x1 x2 y1 z1 z2 t : ℕ) → t < x1 + x2 + y1 + 0 + z1 + z2 → t ≤ x1 + (x2 + (y1 + (z1 + z2)))
        high x1 x2 y1 z1 z2 t few = omega arith

-- where the bounds break with all but the wide Y, a removal of these alone isn't enough, and as many pieces can stay
-- without them
pub without-wide :
    (a : AreaCounts) (p best : PieceCounts) → ¬ IsBounded (numbers a (record p { y2 = 0 }))
    → IsMostBefore a p (p.x2 + 1) 0 best → IsMost a p best
without-wide a p best broken so_far = record {
  stay = so_far.stay;
  most = λ other fits. by other fits (nat_lt (total other) (total (record p { y2 = 0 }))) refl;
} where
  by : (other : PieceCounts) → CanStay a p other → (b : Bool)
      → nat_lt (total other) (total (record p { y2 = 0 })) ≡ b → total other ≤ total best
  by other fits false is =
      let past : total (record p { y2 = 0 }) ≤ total other = grind (arith, nat_tests) in
      absurd (
      broken
      (exchanged a other (record p { y2 = 0 }) fits.bounded fits.part.x1 fits.part.x2 fits.part.y1 fits.part.z1 fits.part.z2 past))
  by other fits true is =
      let less : total other < total (record p { y2 = 0 }) = grind (arith, nat_tests) in
      most-without a p best so_far other fits less

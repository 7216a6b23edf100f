-- How many variables stand in registers, and how many move from a point to the next.
use Rattle.std.proofs.Common.{◌≡◌, ◌≢◌, ◌⊎◌, ◌<◌, ◌≤◌, ◌+◌, ◌*◌, ◌||◌, ℕ, Bool, true, false, true≢false, eqb}
use Rattle.std.proofs.Common.{List, [], ◌∷◌, length, Option, Some, inl, inr, refl, sym, ap, subst, arith, ◌∙◌}
use Rattle.std.specs.List.{AllByRecursion, IsDistinct as HasNoTwo, list_any}
use Rattle.std.proofs.lemmas.Bool.Decides.{eqb_tells}
use Rattle.std.proofs.lemmas.Map.Steps.{length-le_from_distinct_below}
use Rattle.ia32_insn.specs.declared.register_names.Reg32.TheVariants.{Eax, Ecx, Edx, Ebx, Esp, Ebp, Esi, Edi}
use Rattle.ia32_insn.specs.declared.register_names.Reg8.TheVariants.{Al, Cl, Dl, Bl, Ah, Ch, Dh, Bh}
use Rattle.ia32_insn.specs.Registers.{byte_place, number32}
use Rattle.ia32_insn.specs.Places.{Place, InWord, InByte, InSlot}
use Rattle.flow_graph.specs.Graphs.{IsDistinct}
use Rattle.ia32_rows.specs.Contains.{IsPlaceIn}
use Rattle.ia32_rows.specs.Laws.{ArePlacesApart}
use Rattle.ia32_laws.specs.Supports.{AreAllApart}
use Rattle.ia32_placements.specs.Laws.{InRegister, IsRegister}

-- ---- no more than there are codes

-- what is among the codes of a list is the code of one of its variables
module _ (P : ℕ → Type 0) (code : (v : ℕ) → P v → ℕ) where
  codes : (vs : List ℕ) → AllByRecursion P vs → List ℕ
  codes [] all = []
  codes (v ∷ vs) all = code v all.0 ∷ codes vs all.1

  as-many : (vs : List ℕ) (all : AllByRecursion P vs) → length (codes vs all) ≡ length vs
  unfolding codes
  as-many [] all = refl
  as-many (v ∷ vs) all = let e = as-many vs all.1 in omega (arith, e)

  all-below : (n : ℕ) → ((v : ℕ) (p : P v) → code v p < n) → (vs : List ℕ) (all : AllByRecursion P vs) (q : ℕ)
      → list_any (eqb q) (codes vs all) ≡ true → q < n
  unfolding codes
  all-below n small [] all q e = absurd (true≢false (sym e))
  all-below n small (v ∷ vs) all q e =
      elim (eqb_tells q (code v all.0)) [
        | inl same ↦ subst (λ (k : ℕ). k < n) (sym same.1) (small v all.0)
        | inr other ↦ all-below n small vs all.1 q
            (sym (ap (λ (b : Bool). b || list_any (eqb q) (codes vs all.1)) other.0) ∙ e)
      ]

  others : (v : ℕ) (p : P v) → ((w : ℕ) (q : P w) → v ≢ w → code v p ≢ code w q) → (vs : List ℕ)
      (all : AllByRecursion P vs) → AllByRecursion (λ w. w ≢ v) vs
      → AllByRecursion (λ k. eqb (code v p) k ≡ false) (codes vs all)
  unfolding codes
  others v p apart [] all rest = tt
  others v p apart (w ∷ vs) all rest = (
    elim (eqb_tells (code v p) (code w all.0)) [
      | inl same ↦ absurd (apart w all.0 (λ e. rest.0 (sym e)) same.1)
      | inr other ↦ other.0
    ],
    others v p apart vs all.1 rest.1,
  )

  no-two : ((v w : ℕ) (p : P v) (q : P w) → v ≢ w → code v p ≢ code w q) → (vs : List ℕ)
      (all : AllByRecursion P vs) → IsDistinct vs → HasNoTwo eqb (codes vs all)
  unfolding codes HasNoTwo
  no-two apart [] all distinct = tt
  no-two apart (v ∷ vs) all distinct = (
    others v all.0 (λ w q other. apart v w all.0 q other) vs all.1 distinct.0,
    no-two apart vs all.1 distinct.1,
  )

  -- variables with codes of their own, all below a number, are at most as many
  pub few : (n : ℕ) → ((v : ℕ) (p : P v) → code v p < n)
      → ((v w : ℕ) (p : P v) (q : P w) → v ≢ w → code v p ≢ code w q) → (vs : List ℕ) → IsDistinct vs
      → AllByRecursion P vs → length vs ≤ n
  few n small apart vs distinct all =
      omega (
        arith,
        as-many vs all,
        length-le_from_distinct_below (codes vs all) n (no-two apart vs all distinct)
            (λ q e. all-below n small vs all q e),
      )

-- ---- columns

-- the number of a register's first column among eight
pub column : Place → ℕ
column (InWord Eax) = 0
column (InWord Ecx) = 2
column (InWord Edx) = 4
column (InWord Ebx) = 6
column (InByte Al) = 0
column (InByte Ah) = 1
column (InByte Cl) = 2
column (InByte Ch) = 3
column (InByte Dl) = 4
column (InByte Dh) = 5
column (InByte Bl) = 6
column (InByte Bh) = 7
column place = 8

-- and its first cell
abbrev cell : Place → ℕ
cell (InWord r) = 4 * number32 r
cell (InByte r) = byte_place r
cell (InSlot slot) = 0

-- a column tells its cell
abbrev IsColumn : ℕ → ℕ → Type 0
IsColumn column cell = (register low : ℕ) × (register < 4) × (low < 2) × (column ≡ 2 * register + low)
    × (cell ≡ 4 * register + low)

is-column : (frame : ℕ) (p : Place) → IsPlaceIn frame p → IsRegister p → IsColumn (column p) (cell p)
unfolding column
is-column frame (InWord Eax) inside is = (0, 0, omega arith, omega arith, refl, refl)
is-column frame (InWord Ecx) inside is = (1, 0, omega arith, omega arith, refl, refl)
is-column frame (InWord Edx) inside is = (2, 0, omega arith, omega arith, refl, refl)
is-column frame (InWord Ebx) inside is = (3, 0, omega arith, omega arith, refl, refl)
is-column frame (InWord Esp) inside is = absurd inside
is-column frame (InWord Ebp) inside is = absurd inside
is-column frame (InWord Esi) inside is = absurd inside
is-column frame (InWord Edi) inside is = absurd inside
is-column frame (InByte Al) inside is = (0, 0, omega arith, omega arith, refl, refl)
is-column frame (InByte Ah) inside is = (0, 1, omega arith, omega arith, refl, refl)
is-column frame (InByte Cl) inside is = (1, 0, omega arith, omega arith, refl, refl)
is-column frame (InByte Ch) inside is = (1, 1, omega arith, omega arith, refl, refl)
is-column frame (InByte Dl) inside is = (2, 0, omega arith, omega arith, refl, refl)
is-column frame (InByte Dh) inside is = (2, 1, omega arith, omega arith, refl, refl)
is-column frame (InByte Bl) inside is = (3, 0, omega arith, omega arith, refl, refl)
is-column frame (InByte Bh) inside is = (3, 1, omega arith, omega arith, refl, refl)
is-column frame (InSlot slot) inside is = absurd is

-- registers apart have first cells of their own
cells-differ : (p q : Place) → IsRegister p → IsRegister q → ArePlacesApart p q → cell p ≢ cell q
cells-differ (InWord r) (InWord t) is also apart e = apart (omega (arith, e))
cells-differ (InWord r) (InByte t) is also (inl less) e = omega (arith, less, e)
cells-differ (InWord r) (InByte t) is also (inr more) e = omega (arith, more, e)
cells-differ (InByte r) (InWord t) is also (inl less) e = omega (arith, less, e)
cells-differ (InByte r) (InWord t) is also (inr more) e = omega (arith, more, e)
cells-differ (InByte r) (InByte t) is also apart e = apart e
cells-differ (InSlot slot) q is also apart e = is
cells-differ p (InSlot slot) is also apart e = also

columns-differ : (c d x y : ℕ) → IsColumn c x → IsColumn d y → x ≢ y → c ≢ d
columns-differ c d x y (r, a, less, low, e, f) (t, b, lesser, lower, g, h) other same =
    other (counted r a t b c d x y low lower e f g h same)
  where
    counted : (r a t b c d x y : ℕ) → a < 2 → b < 2 → c ≡ 2 * r + a → x ≡ 4 * r + a → d ≡ 2 * t + b → y ≡ 4 * t + b
        → c ≡ d → x ≡ y
    counted r a t b c d x y low lower e f g h same = omega (arith, low, lower, e, f, g, h, same)

column-below : (c x : ℕ) → IsColumn c x → c < 8
column-below c x (r, a, less, low, e, f) = omega (arith, less, low, e)

-- ---- variables in registers

module _ (frame : ℕ) (place_of : ℕ → Option Place)
    (inside : (v : ℕ) (place : Place) → place_of v ≡ Some place → IsPlaceIn frame place)
    (apart : AreAllApart place_of) where
  abbrev is-at : (v : ℕ) (h : InRegister place_of v) → IsColumn (column h.0) (cell h.0)
  is-at v h = is-column frame h.0 (inside v h.0 h.1) h.2

  pub register-below : (v : ℕ) (h : InRegister place_of v) → column h.0 < 8
  register-below v h = column-below (column h.0) (cell h.0) (is-column frame h.0 (inside v h.0 h.1) h.2)

  pub registers-differ : (v w : ℕ) (h : InRegister place_of v) (g : InRegister place_of w) → v ≢ w
      → column h.0 ≢ column g.0
  registers-differ v w h g other =
      columns-differ (column h.0) (column g.0) (cell h.0) (cell g.0)
      (is-column frame h.0 (inside v h.0 h.1) h.2) (is-column frame g.0 (inside w g.0 g.1) g.2)
      (cells-differ h.0 g.0 h.2 g.2 (apart v w h.0 g.0 other h.1 g.1))

  pub few-registers : (vs : List ℕ) → IsDistinct vs → AllByRecursion (InRegister place_of) vs → length vs ≤ 8
  few-registers vs distinct all =
      few (InRegister place_of) (λ v h. column h.0) 8 (λ v h. register-below v h)
      (λ v w h g other. registers-differ v w h g other) vs distinct all

-- variables in registers on one of two sides
module _ (frame : ℕ) (first second : ℕ → Option Place)
    (within : (v : ℕ) (place : Place) → first v ≡ Some place → IsPlaceIn frame place) (apart : AreAllApart first)
    (inside : (v : ℕ) (place : Place) → second v ≡ Some place → IsPlaceIn frame place) (also : AreAllApart second)
  where
    code : (v : ℕ) → InRegister first v ⊎ InRegister second v → ℕ
    code v (inl h) = column h.0
    code v (inr h) = 8 + column h.0

    code-below : (v : ℕ) (h : InRegister first v ⊎ InRegister second v) → code v h < 16
    unfolding code
    code-below v (inl h) = let less = register-below frame first within apart v h in omega (arith, less)
    code-below v (inr h) = let less = register-below frame second inside also v h in omega (arith, less)

    codes-differ : (v w : ℕ) (h : InRegister first v ⊎ InRegister second v)
        (g : InRegister first w ⊎ InRegister second w)
        → v ≢ w → code v h ≢ code w g
    unfolding code
    codes-differ v w (inl h) (inl g) other e = registers-differ frame first within apart v w h g other e
    codes-differ v w (inl h) (inr g) other e =
        let less = register-below frame first within apart v h in omega (arith, less, e)
    codes-differ v w (inr h) (inl g) other e =
        let less = register-below frame first within apart w g in omega (arith, less, e)
    codes-differ v w (inr h) (inr g) other e =
        registers-differ frame second inside also v w h g other (omega (arith, e))

    pub few-on-either : (vs : List ℕ) → IsDistinct vs
        → AllByRecursion (λ v. InRegister first v ⊎ InRegister second v) vs → length vs ≤ 16
    few-on-either vs distinct all =
        few (λ v. InRegister first v ⊎ InRegister second v) (λ v h. code v h) 16 (λ v h. code-below v h)
        (λ v w h g other. codes-differ v w h g other) vs distinct all

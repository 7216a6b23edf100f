-- Prices of areas by kind and weights of pieces, such that no piece weighs more than an area loses by it.
use Rattle.std.proofs.Common.{ℕ, zero, suc, ◌≡◌, ◌+◌, ◌≤◌, sym, ap, subst, Bool, true, false, not, ◌&&◌, ◌||◌}
use Rattle.std.proofs.Common.{nat_le, IsTrue, List, [], ◌∷◌, map, sum_by, arith}
use Rattle.std.proofs.lemmas.Bool.Decides.{nat_tests}
use Rattle.std.proofs.lemmas.List.Sums.{sum_by-cons}
use Rattle.std.specs.List.{AllByRecursion}
use Rattle.std.proofs.lemmas.Bool.{and_parts}
use Rattle.pcc_base.specs.declared.run.Width.{Width}
use Rattle.pcc_base.specs.declared.run.Width.TheVariants.{One, Two}
use Rattle.puzzle_board.specs.declared.area.Area.{Area}
use Rattle.puzzle_board.specs.declared.area.AreaKind.{AreaKind}
use Rattle.puzzle_board.specs.declared.area.AreaKind.TheVariants.{E, U1, L1, C, U0, L0, UpperLower, UpperNone}
use Rattle.puzzle_board.specs.declared.area.AreaKind.TheVariants.{LowerNone, Full}
use Rattle.puzzle_board.specs.declared.area.Column.{Column}
use Rattle.puzzle_board.specs.declared.area.Column.TheVariants.{Both, Upper, Lower, Neither}
use Rattle.puzzle_board.specs.declared.piece.Columns.{Columns}
use Rattle.puzzle_board.specs.declared.piece.Columns.TheVariants.{Low, High, All}
use Rattle.puzzle_board.specs.declared.piece.Kind.{Kind}
use Rattle.puzzle_board.specs.declared.piece.Kind.TheVariants.{X, Y, Z}
use Rattle.puzzle_board.specs.declared.piece.Piece.{Piece}
use Rattle.puzzle_board.specs.Areas.{cleared, fits_area, is_of_width, kind_of, same_kind}
use Rattle.puzzle_board.specs.Boards.{same_letter, same_width}
use Rattle.puzzle_board.specs.Placements.{IsLegal, IsSolvable, Standing, clear, clear_at, fits, fits_at}
use Rattle.puzzle_board.specs.Placements.{overlap}
use Rattle.puzzle_board.proofs.Cells.{fits-clear}
use Rattle.puzzle_board.specs.Worth.{worth}
use Rattle.puzzle_board.proofs.Totals.{picked, sum_by-total, total}

-- what a piece of each kind and width weighs
abbrev pub weight : (x1 x2 y1 y2 z1 z2 : ℕ) → Kind → Width → ℕ
weight x1 x2 y1 y2 z1 z2 X One = x1
weight x1 x2 y1 y2 z1 z2 X Two = x2
weight x1 x2 y1 y2 z1 z2 Y One = y1
weight x1 x2 y1 y2 z1 z2 Y Two = y2
weight x1 x2 y1 y2 z1 z2 Z One = z1
weight x1 x2 y1 y2 z1 z2 Z Two = z2

-- ---- tests of all areas and pieces

abbrev pub all_columns : (Column → Bool) → Bool
all_columns f = f Both && (f Upper && (f Lower && f Neither))

pub all_columns-at : (f : Column → Bool) → IsTrue (all_columns f) → (c : Column) → IsTrue (f c)
all_columns-at f all Both = (and_parts (f Both) _ all).0
all_columns-at f all Upper = (and_parts (f Upper) _ (and_parts (f Both) _ all).1).0
all_columns-at f all Lower = (and_parts (f Lower) _ (and_parts (f Upper) _ (and_parts (f Both) _ all).1).1).0
all_columns-at f all Neither = (and_parts (f Lower) _ (and_parts (f Upper) _ (and_parts (f Both) _ all).1).1).1

abbrev pub all_letters : (Kind → Bool) → Bool
all_letters f = f X && (f Y && f Z)

pub all_letters-at : (f : Kind → Bool) → IsTrue (all_letters f) → (k : Kind) → IsTrue (f k)
all_letters-at f all X = (and_parts (f X) _ all).0
all_letters-at f all Y = (and_parts (f Y) _ (and_parts (f X) _ all).1).0
all_letters-at f all Z = (and_parts (f Y) _ (and_parts (f X) _ all).1).1

abbrev all_spans : (Width → Columns → Bool) → Bool
all_spans f = f One Low && (f One High && f Two All)

all_spans-at :
    (f : Width → Columns → Bool) → IsTrue (all_spans f) → (w : Width) (c : Columns) → IsTrue (is_of_width w c)
    → IsTrue (f w c)
all_spans-at f all One Low is = (and_parts (f One Low) _ all).0
all_spans-at f all One High is = (and_parts (f One High) _ (and_parts (f One Low) _ all).1).0
all_spans-at f all One All is = absurd (cc)
all_spans-at f all Two Low is = absurd (cc)
all_spans-at f all Two High is = absurd (cc)
all_spans-at f all Two All is = (and_parts (f One High) _ (and_parts (f One Low) _ all).1).1

-- a piece weighs no more than an area loses by it, where it fits
abbrev pub costs :
    (Kind → Width → ℕ) → (AreaKind → ℕ) → (low high : Column) → (k : Kind) → (w : Width) → (c : Columns) → Bool
costs weights prices low high k w c =
    let a : Area = record { low = low; high = high } in
    not (fits_area a k c) || nat_le (weights k w + prices (kind_of (cleared a k c))) (prices (kind_of a))

-- no piece weighs more than any area loses by it
abbrev pub are_prices : (Kind → Width → ℕ) → (AreaKind → ℕ) → Bool
are_prices weights prices =
    all_columns (λ low. all_columns (λ high. all_letters (λ k. all_spans (λ w c. costs weights prices low high k w c))))

implied : (fits : Bool) (a b : ℕ) → IsTrue (not fits || nat_le a b) → IsTrue fits → a ≤ b
implied true a b either is = grind (arith, nat_tests)
implied false a b either is = absurd (cc)

paid :
    (weights : Kind → Width → ℕ) (prices : AreaKind → ℕ) → IsTrue (are_prices weights prices)
    → (a : Area) (k : Kind) (w : Width) (c : Columns) → IsTrue (is_of_width w c) → IsTrue (fits_area a k c)
    → weights k w + prices (kind_of (cleared a k c)) ≤ prices (kind_of a)
paid weights prices all a k w c is fit =
    let here = all_spans-at
    (λ w c. costs weights prices a.low a.high k w c)
    (all_letters-at
    (λ k. all_spans (λ w c. costs weights prices a.low a.high k w c))
    (all_columns-at
    (λ high. all_letters (λ k. all_spans (λ w c. costs weights prices a.low high k w c)))
    (all_columns-at
    (λ low.
    all_columns
    (λ high. all_letters (λ k. all_spans (λ w c. costs weights prices low high k w c))))
    all
    a.low)
    a.high)
    k)
    w
    c
    is in
    implied (fits_area a k c) _ _ here fit

-- ---- boards

abbrev pub load : (Kind → Width → ℕ) → List Piece → ℕ
load weights pieces = sum_by (λ p. weights p.kind p.width) pieces

-- a piece weighs no more than the board loses by it
spent_at :
    (weights : Kind → Width → ℕ) (prices : AreaKind → ℕ) → IsTrue (are_prices weights prices)
    → (areas : List Area) (i : ℕ) (k : Kind) (w : Width) (c : Columns) → IsTrue (is_of_width w c)
    → IsTrue (fits_at areas i k c) → weights k w + worth prices (clear_at areas i k c) ≤ worth prices areas
spent_at weights prices all [] i k w c is fit = absurd (cc)
spent_at weights prices all (a ∷ areas) zero k w c is fit =
    omega (
      arith,
      sum_by-cons (λ b. prices (kind_of b)) a areas,
      sum_by-cons (λ b. prices (kind_of b)) (cleared a k c) areas,
      paid weights prices all a k w c is fit,
    )
spent_at weights prices all (a ∷ areas) (suc i) k w c is fit =
    omega (
      arith,
      sum_by-cons (λ b. prices (kind_of b)) a areas,
      sum_by-cons (λ b. prices (kind_of b)) a (clear_at areas i k c),
      spent_at weights prices all areas i k w c is fit,
    )

-- what stands legally beside a piece stands legally on what it leaves
IsLegal-clear :
    (areas : List Area) (s : Standing) (more : List Standing)
    → AllByRecursion (λ t. IsTrue (not (overlap s t))) more → IsLegal areas more → IsLegal (clear areas s) more
IsLegal-clear areas s [] apart legal = tt
IsLegal-clear areas s (t ∷ more) apart legal =
    let both : (a b : Bool) → IsTrue a → IsTrue b → IsTrue (a && b) = λ a b here there. rw here there in (
      subst IsTrue (sym (fits-clear areas s t)) (both (fits areas t) (not (overlap s t)) legal.0 apart.0),
      legal.1,
      IsLegal-clear areas s more apart.1 legal.2,
    )

-- the pieces of a legal placement weigh no more than the board is worth
pub no_more_than_worth :
    (weights : Kind → Width → ℕ) (prices : AreaKind → ℕ) → IsTrue (are_prices weights prices)
    → (areas : List Area) (placed : List Standing) → IsLegal areas placed
    → load weights (map (λ s. s.piece) placed) ≤ worth prices areas
no_more_than_worth weights prices all areas [] legal = omega arith
no_more_than_worth weights prices all areas (s ∷ more) legal =
    let parts = and_parts
    (is_of_width s.piece.width s.spot.columns)
    (fits_at areas s.spot.area s.piece.kind s.spot.columns)
    legal.0 in
    omega (
      arith,
      sum_by-cons (λ p. weights p.kind p.width) s.piece (map (λ t. t.piece) more),
      spent_at weights prices all areas s.spot.area s.piece.kind s.piece.width s.spot.columns parts.0 parts.1,
      no_more_than_worth weights prices all (clear areas s) more (IsLegal-clear areas s more legal.1 legal.2),
    )

-- ---- by kind

abbrev pub area_kinds : List AreaKind
area_kinds = E ∷ U1 ∷ L1 ∷ C ∷ U0 ∷ L0 ∷ UpperLower ∷ UpperNone ∷ LowerNone ∷ Full ∷ []

once : (prices : AreaKind → ℕ) (k : AreaKind) → picked same_kind prices k area_kinds ≡ prices k
once prices E = omega arith
once prices U1 = omega arith
once prices L1 = omega arith
once prices C = omega arith
once prices U0 = omega arith
once prices L0 = omega arith
once prices UpperLower = omega arith
once prices UpperNone = omega arith
once prices LowerNone = omega arith
once prices Full = omega arith

-- what a board is worth, from its areas by kind
pub worth-total :
    (prices : AreaKind → ℕ) (areas : List Area) → worth prices areas ≡ total same_kind kind_of prices areas area_kinds
worth-total prices areas = sum_by-total same_kind kind_of prices area_kinds (once prices) areas

-- a kind and a width of pieces
pub record Class : Type 0 where
  pub kind : Kind
  pub width : Width

abbrev pub same_class : Class → Class → Bool
same_class c d = same_letter c.kind d.kind && same_width c.width d.width

abbrev pub class_of : Piece → Class
class_of p = record { kind = p.kind; width = p.width }

abbrev pub classes : List Class
classes =
    record { kind = X; width = One } ∷ record { kind = X; width = Two } ∷ record { kind = Y; width = One }
    ∷ record { kind = Y; width = Two } ∷ record { kind = Z; width = One } ∷ record { kind = Z; width = Two } ∷ []

abbrev pub weight_of : (Kind → Width → ℕ) → Class → ℕ
weight_of weights c = weights c.kind c.width

once_more :
    (weights : Kind → Width → ℕ) (k : Kind) (w : Width)
    → picked same_class (weight_of weights) (record { kind = k; width = w }) classes ≡ weights k w
once_more weights X One = omega arith
once_more weights X Two = omega arith
once_more weights Y One = omega arith
once_more weights Y Two = omega arith
once_more weights Z One = omega arith
once_more weights Z Two = omega arith

-- what pieces weigh, from how many there are of each kind and width
pub load-total :
    (weights : Kind → Width → ℕ) (pieces : List Piece)
    → load weights pieces ≡ total same_class class_of (weight_of weights) pieces classes
load-total weights pieces =
    sum_by-total same_class class_of (weight_of weights) classes (λ d. once_more weights d.kind d.width) pieces

-- weights and prices are a bound on the pieces of a solvable puzzle, by kind
pub priced :
    (weights : Kind → Width → ℕ) (prices : AreaKind → ℕ) → IsTrue (are_prices weights prices)
    → (areas : List Area) (pieces : List Piece) → IsSolvable areas pieces
    → total same_class class_of (weight_of weights) pieces classes ≤ total same_kind kind_of prices areas area_kinds
priced weights prices all areas pieces (placed, legal) =
    let heavy = no_more_than_worth weights prices all areas placed legal.legal in
    let same = ap (λ (ps : List Piece). load weights ps) legal.each in
    omega (arith, heavy, same, worth-total prices areas, load-total weights pieces)

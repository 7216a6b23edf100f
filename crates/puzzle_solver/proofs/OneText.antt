-- A text is that of one board at most.
use Rattle.std.proofs.Common.{ℕ, suc, ◌≡◌, List, [], ◌∷◌, ◌++◌, map, refl, sym, ap, ◌∙◌, arith}
use Rattle.pcc_base.specs.Ascii.{newline}
use Rattle.pcc_base.specs.declared.run.Width.{Width}
use Rattle.pcc_base.specs.declared.run.Width.TheVariants.{One, Two}
use Rattle.puzzle_board.specs.declared.area.Area.{Area}
use Rattle.puzzle_board.specs.declared.area.Column.{Column}
use Rattle.puzzle_board.specs.declared.area.Column.TheVariants.{Both, Upper, Lower, Neither}
use Rattle.puzzle_board.specs.declared.piece.Kind.{Kind}
use Rattle.puzzle_board.specs.declared.piece.Kind.TheVariants.{X, Y, Z}
use Rattle.puzzle_board.specs.declared.piece.Piece.{Piece}
use Rattle.puzzle_solver.specs.Texts.{IsNumbered, area_word, board_text, kind_letter, letter_of, piece_word, spaced}
use Rattle.puzzle_solver.specs.Texts.{width_digit}

-- ---- words

first-same : (x y : ℕ) (xs ys : List ℕ) → x ∷ xs ≡ y ∷ ys → x ≡ y
first-same x y xs ys e = cc

rest-same : (x y : ℕ) (xs ys : List ℕ) → x ∷ xs ≡ y ∷ ys → xs ≡ ys
rest-same x y xs ys e = cc

letter-one : (c d : Column) → letter_of c ≡ letter_of d → c ≡ d
letter-one Both Both e = refl
letter-one Both Upper e = absurd (omega (arith, e))
letter-one Both Lower e = absurd (omega (arith, e))
letter-one Both Neither e = absurd (omega (arith, e))
letter-one Upper Both e = absurd (omega (arith, e))
letter-one Upper Upper e = refl
letter-one Upper Lower e = absurd (omega (arith, e))
letter-one Upper Neither e = absurd (omega (arith, e))
letter-one Lower Both e = absurd (omega (arith, e))
letter-one Lower Upper e = absurd (omega (arith, e))
letter-one Lower Lower e = refl
letter-one Lower Neither e = absurd (omega (arith, e))
letter-one Neither Both e = absurd (omega (arith, e))
letter-one Neither Upper e = absurd (omega (arith, e))
letter-one Neither Lower e = absurd (omega (arith, e))
letter-one Neither Neither e = refl

kind-one : (c d : Kind) → kind_letter c ≡ kind_letter d → c ≡ d
kind-one X X e = refl
kind-one X Y e = absurd (omega (arith, e))
kind-one X Z e = absurd (omega (arith, e))
kind-one Y X e = absurd (omega (arith, e))
kind-one Y Y e = refl
kind-one Y Z e = absurd (omega (arith, e))
kind-one Z X e = absurd (omega (arith, e))
kind-one Z Y e = absurd (omega (arith, e))
kind-one Z Z e = refl

width-one : (c d : Width) → width_digit c ≡ width_digit d → c ≡ d
width-one One One e = refl
width-one One Two e = absurd (omega (arith, e))
width-one Two One e = absurd (omega (arith, e))
width-one Two Two e = refl

-- ---- lines

cons-same : (a b : Area) (areas others : List Area) → a ≡ b → areas ≡ others → a ∷ areas ≡ b ∷ others
cons-same a b areas others e f = cc

piece-cons : (p q : Piece) (pieces others : List Piece) → p ≡ q → pieces ≡ others → p ∷ pieces ≡ q ∷ others
piece-cons p q pieces others e f = cc

same-area : (a b : Area) → a.low ≡ b.low → a.high ≡ b.high → a ≡ b
same-area a b e f =
    let make : Column → Column → Area = λ c d. record { low = c; high = d } in
    ap (λ c. make c a.high) e ∙ ap (make b.low) f

same-piece : (p q : Piece) → p.kind ≡ q.kind → p.width ≡ q.width → p.var ≡ q.var → p ≡ q
same-piece p q e f g =
    let make : Kind → Width → ℕ → Piece = λ k w v. record { kind = k; width = w; var = v } in
    ap (λ k. make k p.width p.var) e ∙ (ap (λ w. make q.kind w p.var) f ∙ ap (make q.kind q.width) g)

-- areas, and what is behind them, from the text of both
areas-one :
    (areas others : List Area) (xs ys : List ℕ)
    → spaced (map area_word areas) ++ newline ∷ xs ≡ spaced (map area_word others) ++ newline ∷ ys
    → (areas ≡ others) × (xs ≡ ys)
areas-one [] [] xs ys e = (refl, rest-same newline newline xs ys e)
areas-one [] (b ∷ others) xs ys e =
    let first = first-same _ _ _ _ e in absurd (omega (arith, first))
areas-one (a ∷ areas) [] xs ys e =
    let first = first-same _ _ _ _ e in absurd (omega (arith, first))
areas-one (a ∷ areas) (b ∷ others) xs ys e =
    let one = rest-same _ _ _ _ e in
    let two = rest-same _ _ _ _ one in
    let three = rest-same _ _ _ _ two in
    let low = letter-one a.low b.low (first-same _ _ _ _ one) in
    let high = letter-one a.high b.high (first-same _ _ _ _ two) in
    let more = areas-one areas others xs ys three in
    (cons-same a b areas others (same-area a b low high) more.0, more.1)

-- pieces that are numbered from the same number on
pieces-one :
    (n : ℕ) (pieces others : List Piece) (xs ys : List ℕ) → IsNumbered n pieces → IsNumbered n others
    → spaced (map piece_word pieces) ++ newline ∷ xs ≡ spaced (map piece_word others) ++ newline ∷ ys → pieces ≡ others
pieces-one n [] [] xs ys h g e = refl
pieces-one n [] (q ∷ others) xs ys h g e =
    let first = first-same _ _ _ _ e in absurd (omega (arith, first))
pieces-one n (p ∷ pieces) [] xs ys h g e =
    let first = first-same _ _ _ _ e in absurd (omega (arith, first))
pieces-one n (p ∷ pieces) (q ∷ others) xs ys h g e =
    let one = rest-same _ _ _ _ e in
    let two = rest-same _ _ _ _ one in
    let three = rest-same _ _ _ _ two in
    let kind = kind-one p.kind q.kind (first-same _ _ _ _ one) in
    let width = width-one p.width q.width (first-same _ _ _ _ two) in
    piece-cons p q pieces others (same-piece p q kind width (h.0 ∙ sym g.0))
    (pieces-one (suc n) pieces others xs ys h.1 g.1 three)

pub one-board :
    (areas others : List Area) (pieces more : List Piece) → IsNumbered 0 pieces → IsNumbered 0 more
    → board_text areas pieces ≡ board_text others more → (areas ≡ others) × (pieces ≡ more)
one-board areas others pieces more h g e =
    let five = rest-same _ _ _ _ (rest-same _ _ _ _ (rest-same _ _ _ _ (rest-same _ _ _ _ (rest-same _ _ _ _ e)))) in
    let both = areas-one areas others _ _ five in
    let six = rest-same _ _ _ _ (rest-same _ _ _ _ (rest-same _ _ _ _ (rest-same _ _ _ _ (rest-same _ _ _ _
    (rest-same _ _ _ _ both.1))))) in
    (both.0, pieces-one 0 pieces more [] [] h g six)

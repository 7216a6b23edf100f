-- Pieces in order, one after another.
use Rattle.std.proofs.Common.{◌≡◌, ◌↔◌, true, false, List, [], ◌∷◌, Option, Some, None}
use Rattle.std.proofs.Common.{refl, sym, subst, arith, true≢false}
use Rattle.std.specs.Bool.{Decides}
use Rattle.std.specs.Prelude.{IfSome}
use Rattle.std.specs.List.{AllByRecursion}
use Rattle.puzzle_board.specs.declared.piece.Piece.{Piece}
use Rattle.map_text.specs.Rules.{AreInOrder, ComesBefore}

-- those that are left come behind the last one, in order
abbrev pub Follow : Option Piece → List Piece → Type 0
Follow None ps = AreInOrder ps
Follow (Some q) ps = AllByRecursion (ComesBefore q) ps × AreInOrder ps

abbrev pub Ordered : List Piece → Option Piece → List Piece → Type 0
Ordered all last left = AreInOrder all ↔ Follow last left

comes-far : (p q r : Piece) → ComesBefore p q → ComesBefore q r → ComesBefore p r
comes-far p q r a b = grind arith

all-far : (p q : Piece) (ps : List Piece) → ComesBefore p q → AllByRecursion (ComesBefore q) ps
    → AllByRecursion (ComesBefore p) ps
all-far p q [] a all = tt
all-far p q (r ∷ ps) a all = (comes-far p q r a all.0, all-far p q ps a all.1)

step : (last : Option Piece) (p : Piece) (ps : List Piece) → IfSome last (λ q. ComesBefore q p)
    → Follow last (p ∷ ps) ↔ Follow (Some p) ps
step None p ps before = (λ f. f, λ f. f)
step (Some q) p ps before = (λ f. f.1, λ f. ((before, all-far q p ps before f.0), f))

stop : (last : Option Piece) (p : Piece) (ps : List Piece) → (IfSome last (λ q. ComesBefore q p) → ⊥)
    → Follow last (p ∷ ps) → ⊥
stop None p ps isnt f = isnt tt
stop (Some q) p ps isnt f = isnt f.0.0

none-left : (last : Option Piece) → Follow last []
none-left None = tt
none-left (Some q) = (tt, tt)

-- one more comes behind the last one
pub one_follows : (all : List Piece) (last : Option Piece) (p : Piece) (left rest : List Piece) → left ≡ p ∷ rest
    → IfSome last (λ q. ComesBefore q p) → Ordered all last left → Ordered all (Some p) rest
one_follows all last p left rest is before so =
    let told : Ordered all last (p ∷ rest) = subst (λ (ps : List Piece). Ordered all last ps) is so in
    let next = step last p rest before in
    (λ up. next.0 (told.0 up), λ f. told.1 (next.1 f))

-- one doesn't
pub none_follows : (all : List Piece) (last : Option Piece) (p : Piece) (left rest : List Piece) → left ≡ p ∷ rest
    → (IfSome last (λ q. ComesBefore q p) → ⊥) → Ordered all last left → Decides false (AreInOrder all)
none_follows all last p left rest is isnt so =
    let told : Ordered all last (p ∷ rest) = subst (λ (ps : List Piece). Ordered all last ps) is so in
    (λ e. absurd (true≢false (sym e)), λ up. absurd (stop last p rest isnt (told.0 up)))

-- none is left
pub all_follow : (all : List Piece) (last : Option Piece) (left : List Piece) → left ≡ [] → Ordered all last left
    → Decides true (AreInOrder all)
all_follow all last left is so =
    let told : Ordered all last [] = subst (λ (ps : List Piece). Ordered all last ps) is so in
    (λ e. told.1 (none-left last), λ up. refl)

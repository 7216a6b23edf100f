-- What is filed of a board's areas and pieces, and how a change of one of them shows there.
use Rattle.std.proofs.Common.{ℕ, zero, suc, ◌≡◌, ◌≢◌, ◌<◌, ◌≤◌, ◌+◌, ◌==◌, ◌&&◌, false, cond}
use Rattle.std.proofs.Common.{List, [], ◌∷◌, ◌++◌, length, take, drop, map, set, replicate, get_or, Option, Some, None}
use Rattle.std.proofs.Common.{◌⊎◌, inl, inr, refl, sym, ap, subst, arith, ◌∙◌, add-one, length-set}
use Rattle.std.specs.List.{slice_get}
use Rattle.std.proofs.lemmas.List.{length-replicate, length_push, get_or_default}
use Rattle.std.proofs.lemmas.List.Edits.{map_over_more}
use Rattle.std.proofs.Math.Seq.{take-nil}
use Rattle.std.proofs.lemmas.Bool.{ne_eqb}
use Rattle.std.proofs.lemmas.List.Sums.{sum_by-cons}
use Rattle.std.proofs.lemmas.Option.{slice_get_within, slice_get-get_or, get_or_from_slice_get, same_Some, none-some}
use Rattle.pcc_base.specs.declared.run.Width.{Width}
use Rattle.pcc_base.specs.declared.run.Width.TheVariants.{One, Two}
use Rattle.index_lists.specs.Lists.{Lists, IsListed, empty_lists, nodes_of}
use Rattle.puzzle_board.specs.declared.area.Area.{Area}
use Rattle.puzzle_board.specs.declared.area.AreaKind.{AreaKind}
use Rattle.puzzle_board.specs.declared.area.AreaKind.TheVariants.{E, U1, L1, C, U0, L0, UpperLower, UpperNone}
use Rattle.puzzle_board.specs.declared.area.AreaKind.TheVariants.{LowerNone, Full}
use Rattle.puzzle_board.specs.declared.piece.Kind.{Kind}
use Rattle.puzzle_board.specs.declared.piece.Kind.TheVariants.{X, Y, Z}
use Rattle.puzzle_board.specs.declared.piece.Piece.{Piece}
use Rattle.puzzle_board.specs.declared.piece.Spot.{Spot}
use Rattle.puzzle_board.specs.declared.piece.State.{State}
use Rattle.puzzle_board.specs.declared.piece.State.TheVariants.{Unplaced, At, Removed}
use Rattle.puzzle_board.specs.Areas.{kind_of, place_of_kind, same_kind}
use Rattle.puzzle_board.specs.Boards.{IsUnplacedIn, areas_of_kind, is_piece, is_unplaced, lifted, pieces_of}
use Rattle.puzzle_board.specs.Boards.{removed_in, same_letter, same_width, unplaced_in}
use Rattle.puzzle_board.specs.Classes.{class_at, class_count, IsFiled, IsRefiled, IsAmong}
use Rattle.puzzle_board.specs.Stored.{area_classes, piece_class, piece_classes, place_of_piece}
use Rattle.puzzle_board.proofs.Classes.{filed-listed, filed-unlisted, refiled-set, refiled-more}

-- ---- classes

class_at-past : (classes : List (Option ℕ)) (i : ℕ) → length classes ≤ i → class_at classes i ≡ None
class_at-past [] i past = refl
class_at-past (c ∷ classes) zero past = absurd (omega arith)
class_at-past (c ∷ classes) (suc i) past = class_at-past classes i (omega arith)

set-twice : {A : Type 0} (xs : List A) (i : ℕ) (x y : A) → set (set xs i x) i y ≡ set xs i y
set-twice [] i x y = refl
set-twice (z ∷ xs) zero x y = refl
set-twice (z ∷ xs) (suc i) x y = ap (λ more. z ∷ more) (set-twice xs i x y)

-- no number is filed in empty lists
empty-there : (many l : ℕ) (xs : List ℕ) → slice_get (replicate many []) l ≡ Some xs → xs ≡ []
empty-there zero l xs e = absurd (none-some xs e)
empty-there (suc many) zero xs e = sym (same_Some [] xs e)
empty-there (suc many) (suc l) xs e = empty-there many l xs e

pub filed-empty : (nodes many : ℕ) → IsFiled (empty_lists nodes many) many []
filed-empty nodes many = record {
  as_many = length-replicate many [];
  room = omega arith;
  listed = λ i k e. absurd (none-some k e);
  only = λ i k xs e h. absurd (subst (λ (ys : List ℕ). IsAmong ys i) (empty-there many k xs e) h);
  counted = λ k xs e. ap length (empty-there many k xs e);
}

-- the first of a list
first-class :
    (s : Lists) (many : ℕ) (classes : List (Option ℕ)) (l : ℕ) (xs : List ℕ) → IsFiled s many classes
    → slice_get s.lists l ≡ Some xs → (number : ℕ) → slice_get xs 0 ≡ Some number
    → class_at classes number ≡ Some l
first-class s many classes l [] f e number first = absurd (none-some number first)
first-class s many classes l (x ∷ xs) f e number first =
    f.only number l (x ∷ xs) e (inl (sym (same_Some x number first)))

none-class :
    (s : Lists) (many : ℕ) (classes : List (Option ℕ)) (l : ℕ) (xs : List ℕ) → IsFiled s many classes
    → slice_get s.lists l ≡ Some xs → slice_get xs 0 ≡ None → class_count classes l ≡ 0
none-class s many classes l [] f e first = sym (f.counted l [] e)
none-class s many classes l (x ∷ xs) f e first = absurd (none-some x (sym first))

pub first-of :
    (s : Lists) (many : ℕ) (classes : List (Option ℕ)) (l number : ℕ) → IsFiled s many classes → l < many
    → slice_get (nodes_of s l) 0 ≡ Some number → class_at classes number ≡ Some l
first-of s many classes l number f within first =
    first-class s many classes l (nodes_of s l) f
    (slice_get-get_or s.lists l [] (omega (arith, f.as_many))) number first

pub none-of :
    (s : Lists) (many : ℕ) (classes : List (Option ℕ)) (l : ℕ) → IsFiled s many classes → l < many
    → slice_get (nodes_of s l) 0 ≡ None → class_count classes l ≡ 0
none-of s many classes l f within first =
    none-class s many classes l (nodes_of s l) f
    (slice_get-get_or s.lists l [] (omega (arith, f.as_many))) first

pub length-of :
    (s : Lists) (many : ℕ) (classes : List (Option ℕ)) (l : ℕ) → IsFiled s many classes → l < many
    → length (nodes_of s l) ≡ class_count classes l
length-of s many classes l f within =
    f.counted l (nodes_of s l) (slice_get-get_or s.lists l [] (omega (arith, f.as_many)))

-- ---- areas

pub length-area_classes : (areas : List Area) → length (area_classes areas) ≡ length areas
length-area_classes [] = refl
length-area_classes (a ∷ areas) = ap suc (length-area_classes areas)

area_class-at :
    (areas : List Area) (i : ℕ) (a : Area) → slice_get areas i ≡ Some a
    → class_at (area_classes areas) i ≡ Some (place_of_kind (kind_of a))
area_class-at [] i a e = absurd (none-some a e)
area_class-at (b ∷ areas) zero a e = ap (λ (c : Area). Some (place_of_kind (kind_of c))) (same_Some b a e)
area_class-at (b ∷ areas) (suc i) a e = area_class-at areas i a e

past-none : {A : Type 0} (xs : List A) (i : ℕ) → i < length xs → slice_get xs i ≡ None → ⊥
past-none [] i within e = absurd (omega arith)
past-none (x ∷ xs) zero within e = none-some x (sym e)
past-none (x ∷ xs) (suc i) within e = past-none xs i (omega arith) e

-- an area is in a list
pub area-listed :
    (s : Lists) (areas : List Area) (i : ℕ) → IsFiled s 10 (area_classes areas) → i < length areas → IsListed s i
area-listed s areas i f within =
    let some : (o : Option Area) → slice_get areas i ≡ o → IsListed s i = λ o.
    elim o as (λ o. slice_get areas i ≡ o → IsListed s i) [
      | None ↦ λ e. absurd (past-none areas i within e)
      | Some a ↦ λ e. filed-listed s 10 (area_classes areas) i _ f (area_class-at areas i a e)
    ] in
    some (slice_get areas i) refl

area_classes-set :
    (areas : List Area) (i : ℕ) (a : Area)
    → area_classes (set areas i a) ≡ set (area_classes areas) i (Some (place_of_kind (kind_of a)))
area_classes-set [] i a = refl
area_classes-set (b ∷ areas) zero a = refl
area_classes-set (b ∷ areas) (suc i) a =
    ap (λ more. Some (place_of_kind (kind_of b)) ∷ more) (area_classes-set areas i a)

-- an area goes out of its list
pub area-out :
    (areas : List Area) (i : ℕ) → i < length areas
    → IsRefiled (area_classes areas) (set (area_classes areas) i None) i None
area-out areas i within = refiled-set (area_classes areas) i None (omega (arith, length-area_classes areas))

-- and comes into that of its new kind
pub area-in :
    (areas : List Area) (i : ℕ) (a : Area) → i < length areas
    → IsRefiled (set (area_classes areas) i None) (area_classes (set areas i a)) i (Some (place_of_kind (kind_of a)))
area-in areas i a within =
    let class : Option ℕ = Some (place_of_kind (kind_of a)) in
    let out : List (Option ℕ) = set (area_classes areas) i None in
    let long = length-set (area_classes areas) i None in
    subst (λ (cs : List (Option ℕ)). IsRefiled out cs i class)
    (set-twice (area_classes areas) i None class ∙ sym (area_classes-set areas i a))
    (refiled-set out i class (omega (arith, long, length-area_classes areas)))

area_classes-more :
    (areas : List Area) (i : ℕ) (a : Area) → slice_get areas i ≡ Some a
    → area_classes (take (suc i) areas) ≡ area_classes (take i areas) ++ Some (place_of_kind (kind_of a)) ∷ []
area_classes-more [] i a e = absurd (none-some a e)
area_classes-more (b ∷ areas) zero a e =
    ap (λ (c : Area). let cs : List (Option ℕ) = Some (place_of_kind (kind_of c)) ∷ [] in cs) (same_Some b a e)
area_classes-more (b ∷ areas) (suc i) a e =
    ap (λ more. Some (place_of_kind (kind_of b)) ∷ more) (area_classes-more areas i a e)

length-front : (areas : List Area) (i : ℕ) → i ≤ length areas → length (area_classes (take i areas)) ≡ i
length-front areas zero within = refl
length-front [] (suc i) within = absurd (omega arith)
length-front (a ∷ areas) (suc i) within = ap suc (length-front areas i (omega arith))

-- one area more is filed
pub area-more :
    (areas : List Area) (i : ℕ) (a : Area) → slice_get areas i ≡ Some a
    → IsRefiled (area_classes (take i areas)) (area_classes (take (i + 1) areas)) i (Some (place_of_kind (kind_of a)))
area-more areas i a e =
    let within = slice_get_within areas i a e in
    let class : Option ℕ = Some (place_of_kind (kind_of a)) in
    let front : List (Option ℕ) = area_classes (take i areas) in
    let long : length front ≡ i = length-front areas i (omega arith) in
    rw add-one (subst (λ (n : ℕ). IsRefiled front (area_classes (take (suc i) areas)) n class) long
    (subst (λ (cs : List (Option ℕ)). IsRefiled front cs (length front) class) (sym (area_classes-more areas i a e))
    (refiled-more front class)))

-- the same where the area is read
pub area-more-read :
    (areas : List Area) (i class : ℕ) (d : Area) (k : AreaKind) → i < length areas → k ≡ kind_of (get_or areas i d)
    → class ≡ place_of_kind k
    → IsRefiled (area_classes (take i areas)) (area_classes (take (i + 1) areas)) i (Some class)
area-more-read areas i class d k within kind is =
    rw (is, kind) (area-more areas i (get_or areas i d) (slice_get-get_or areas i d within))

pub area-unlisted :
    (s : Lists) (areas : List Area) (i : ℕ) → IsFiled s 10 (area_classes (take i areas)) → i ≤ length areas
    → IsListed s i → ⊥
area-unlisted s areas i f within =
    let long = length-front areas i within in
    filed-unlisted s 10 (area_classes (take i areas)) i f (class_at-past (area_classes (take i areas)) i (omega arith))

pub length-area-more :
    (areas : List Area) (i : ℕ) → i < length areas → length (area_classes (take (i + 1) areas)) ≤ length areas
length-area-more areas i within =
    rw add-one (let long = length-front areas (suc i) within in omega arith)

-- the areas of a kind are counted by its list
pub count-areas :
    (areas : List Area) (k : AreaKind) → class_count (area_classes areas) (place_of_kind k) ≡ areas_of_kind areas k
count-areas [] k = refl
count-areas (a ∷ areas) k =
    omega (arith, count-areas areas k, sum_by-cons (λ (b : Area). cond (same_kind (kind_of b) k) 1 0) a areas)

kinds : List AreaKind
kinds = E ∷ U1 ∷ L1 ∷ C ∷ U0 ∷ L0 ∷ UpperLower ∷ UpperNone ∷ LowerNone ∷ Full ∷ []

-- kinds with one list are the same
kind-numbered : (k : AreaKind) → get_or kinds (place_of_kind k) Full ≡ k
unfolding kinds
kind-numbered E = refl
kind-numbered U1 = refl
kind-numbered L1 = refl
kind-numbered C = refl
kind-numbered U0 = refl
kind-numbered L0 = refl
kind-numbered UpperLower = refl
kind-numbered UpperNone = refl
kind-numbered LowerNone = refl
kind-numbered Full = refl

kind-same : (j k : AreaKind) → place_of_kind j ≡ place_of_kind k → j ≡ k
kind-same j k e = sym (kind-numbered j) ∙ (ap (λ n. get_or kinds n Full) e ∙ kind-numbered k)

-- an area that is in the list of a kind is of this kind
pub area-of :
    (areas : List Area) (i : ℕ) (k : AreaKind) → class_at (area_classes areas) i ≡ Some (place_of_kind k)
    → slice_get (map kind_of areas) i ≡ Some k
area-of [] i k e = absurd (none-some _ e)
area-of (a ∷ areas) zero k e = ap Some (kind-same (kind_of a) k (same_Some _ _ e))
area-of (a ∷ areas) (suc i) k e = area-of areas i k e

-- ---- pieces

pub length-piece_classes :
    (pieces : List Piece) (states : List State) → length states ≡ length pieces
    → length (piece_classes pieces states) ≡ length pieces
length-piece_classes [] states same = refl
length-piece_classes (p ∷ pieces) [] same = absurd (omega arith)
length-piece_classes (p ∷ pieces) (s ∷ states) same = ap suc (length-piece_classes pieces states (omega arith))

pub piece_class-at :
    (pieces : List Piece) (states : List State) (i : ℕ) (p : Piece) (s : State) → slice_get pieces i ≡ Some p
    → slice_get states i ≡ Some s → class_at (piece_classes pieces states) i ≡ piece_class p s
piece_class-at [] states i p s e d = absurd (none-some p e)
piece_class-at (q ∷ pieces) [] i p s e d = absurd (none-some s d)
piece_class-at (q ∷ pieces) (t ∷ states) zero p s e d =
    ap (λ (r : Piece). piece_class r t) (same_Some q p e) ∙ ap (piece_class p) (same_Some t s d)
piece_class-at (q ∷ pieces) (t ∷ states) (suc i) p s e d = piece_class-at pieces states i p s e d

piece_classes-set :
    (pieces : List Piece) (states : List State) (i : ℕ) (p : Piece) (s : State) → slice_get pieces i ≡ Some p
    → piece_classes pieces (set states i s) ≡ set (piece_classes pieces states) i (piece_class p s)
piece_classes-set [] states i p s e = absurd (none-some p e)
piece_classes-set (q ∷ pieces) [] i p s e = refl
piece_classes-set (q ∷ pieces) (t ∷ states) zero p s e =
    ap (λ (r : Piece). piece_class r s ∷ piece_classes pieces states) (same_Some q p e)
piece_classes-set (q ∷ pieces) (t ∷ states) (suc i) p s e =
    ap (λ more. piece_class q t ∷ more) (piece_classes-set pieces states i p s e)

piece-within :
    (pieces : List Piece) (states : List State) (i : ℕ) (p : Piece) → slice_get pieces i ≡ Some p → i < length states
    → i < length (piece_classes pieces states)
piece-within [] states i p e within = absurd (none-some p e)
piece-within (q ∷ pieces) [] i p e within = absurd (omega arith)
piece-within (q ∷ pieces) (t ∷ states) zero p e within = omega arith
piece-within (q ∷ pieces) (t ∷ states) (suc i) p e within =
    omega (arith, piece-within pieces states i p e (omega arith))

-- something becomes of a piece
pub piece-set :
    (pieces : List Piece) (states : List State) (i : ℕ) (p : Piece) (s : State) → slice_get pieces i ≡ Some p
    → i < length states
    → IsRefiled (piece_classes pieces states) (piece_classes pieces (set states i s)) i (piece_class p s)
piece-set pieces states i p s e within =
    subst (λ (cs : List (Option ℕ)). IsRefiled (piece_classes pieces states) cs i (piece_class p s))
    (sym (piece_classes-set pieces states i p s e))
    (refiled-set (piece_classes pieces states) i (piece_class p s) (piece-within pieces states i p e within))

pub length-piece-set :
    (pieces : List Piece) (states : List State) (i : ℕ) (p : Piece) (s : State) → slice_get pieces i ≡ Some p
    → length (piece_classes pieces (set states i s)) ≡ length (piece_classes pieces states)
length-piece-set pieces states i p s e =
    ap length (piece_classes-set pieces states i p s e)
    ∙ length-set (piece_classes pieces states) i (piece_class p s)

-- a piece that waits nowhere before nor after changes nothing
set-there :
    (classes : List (Option ℕ)) (i : ℕ) (c : Option ℕ) → class_at classes i ≡ c → i < length classes
    → set classes i c ≡ classes
set-there [] i c e within = refl
set-there (d ∷ classes) zero c e within = ap (λ (b : Option ℕ). b ∷ classes) (sym e)
set-there (d ∷ classes) (suc i) c e within = ap (λ more. d ∷ more) (set-there classes i c e (omega arith))

pub piece-stays :
    (pieces : List Piece) (states : List State) (i : ℕ) (p : Piece) (s t : State) → slice_get pieces i ≡ Some p
    → slice_get states i ≡ Some s → piece_class p s ≡ None → piece_class p t ≡ None
    → piece_classes pieces (set states i t) ≡ piece_classes pieces states
piece-stays pieces states i p s t e d before after =
    piece_classes-set pieces states i p t e
    ∙ set-there (piece_classes pieces states) i (piece_class p t)
    (piece_class-at pieces states i p s e d ∙ (before ∙ sym after))
    (piece-within pieces states i p e (slice_get_within states i s d))

-- what doesn't wait is filed nowhere
pub settled-none : (p : Piece) (s : State) → is_unplaced s ≡ false → piece_class p s ≡ None
settled-none p Unplaced e = absurd (cc)
settled-none p (At spot) e = refl
settled-none p Removed e = refl

-- one piece more, which waits
piece_classes-more :
    (pieces : List Piece) (states : List State) (p : Piece) → length states ≡ length pieces
    → piece_classes (pieces ++ p ∷ []) (states ++ Unplaced ∷ [])
    ≡ piece_classes pieces states ++ Some (place_of_piece p.kind p.width) ∷ []
piece_classes-more [] [] p same = refl
piece_classes-more [] (s ∷ states) p same = absurd (omega arith)
piece_classes-more (q ∷ pieces) [] p same = absurd (omega arith)
piece_classes-more (q ∷ pieces) (s ∷ states) p same =
    ap (λ more. piece_class q s ∷ more) (piece_classes-more pieces states p (omega arith))

pub piece-more :
    (pieces : List Piece) (states : List State) (p : Piece) → length states ≡ length pieces
    → IsRefiled (piece_classes pieces states) (piece_classes (pieces ++ p ∷ []) (states ++ Unplaced ∷ []))
    (length pieces) (Some (place_of_piece p.kind p.width))
piece-more pieces states p same =
    let class : Option ℕ = Some (place_of_piece p.kind p.width) in
    let old : List (Option ℕ) = piece_classes pieces states in
    subst (λ (n : ℕ). IsRefiled old (piece_classes (pieces ++ p ∷ []) (states ++ Unplaced ∷ [])) n class)
    (length-piece_classes pieces states same)
    (subst (λ (cs : List (Option ℕ)). IsRefiled old cs (length old) class)
    (sym (piece_classes-more pieces states p same)) (refiled-more old class))

pub length-piece-more :
    (pieces : List Piece) (states : List State) (p : Piece) → length states ≡ length pieces
    → length (piece_classes (pieces ++ p ∷ []) (states ++ Unplaced ∷ [])) ≡ length pieces + 1
length-piece-more pieces states p same =
    ap length (piece_classes-more pieces states p same)
    ∙ (length_push (piece_classes pieces states) (Some (place_of_piece p.kind p.width))
    ∙ ap (λ n. n + 1) (length-piece_classes pieces states same))

pub piece-new :
    (s : Lists) (pieces : List Piece) (states : List State) → length states ≡ length pieces
    → IsFiled s 6 (piece_classes pieces states) → IsListed s (length pieces) → ⊥
piece-new s pieces states same f =
    filed-unlisted s 6 (piece_classes pieces states) (length pieces) f
    (class_at-past (piece_classes pieces states) (length pieces)
    (omega (arith, length-piece_classes pieces states same)))

-- tests of kinds and widths by their numbers
same-place :
    (j k : Kind) (v w : Width)
    → (place_of_piece j v == place_of_piece k w) ≡ same_letter j k && same_width v w
same-place X X One One = refl
same-place X X One Two = refl
same-place X X Two One = refl
same-place X X Two Two = refl
same-place X Y One One = refl
same-place X Y One Two = refl
same-place X Y Two One = refl
same-place X Y Two Two = refl
same-place X Z One One = refl
same-place X Z One Two = refl
same-place X Z Two One = refl
same-place X Z Two Two = refl
same-place Y X One One = refl
same-place Y X One Two = refl
same-place Y X Two One = refl
same-place Y X Two Two = refl
same-place Y Y One One = refl
same-place Y Y One Two = refl
same-place Y Y Two One = refl
same-place Y Y Two Two = refl
same-place Y Z One One = refl
same-place Y Z One Two = refl
same-place Y Z Two One = refl
same-place Y Z Two Two = refl
same-place Z X One One = refl
same-place Z X One Two = refl
same-place Z X Two One = refl
same-place Z X Two Two = refl
same-place Z Y One One = refl
same-place Z Y One Two = refl
same-place Z Y Two One = refl
same-place Z Y Two Two = refl
same-place Z Z One One = refl
same-place Z Z One Two = refl
same-place Z Z Two One = refl
same-place Z Z Two Two = refl

-- the pieces that wait are counted by their list
pub count-pieces :
    (pieces : List Piece) (states : List State) (k : Kind) (w : Width)
    → class_count (piece_classes pieces states) (place_of_piece k w) ≡ pieces_of (unplaced_in pieces states) k w
count-pieces [] states k w = refl
count-pieces (p ∷ pieces) [] k w = refl
count-pieces (p ∷ pieces) (Unplaced ∷ states) k w =
    let one = ap {B = ℕ} (λ b. cond b 1 0) (same-place p.kind k p.width w) in
    omega (
      arith,
      one,
      count-pieces pieces states k w,
      sum_by-cons (λ (q : Piece). cond (is_piece k w q) 1 0) p (unplaced_in pieces states),
    )
count-pieces (p ∷ pieces) (At spot ∷ states) k w = omega (arith, count-pieces pieces states k w)
count-pieces (p ∷ pieces) (Removed ∷ states) k w = omega (arith, count-pieces pieces states k w)

letters : List Kind
letters = X ∷ X ∷ Y ∷ Y ∷ Z ∷ Z ∷ []

widths : List Width
widths = One ∷ Two ∷ One ∷ Two ∷ One ∷ Two ∷ []

-- kinds and widths with one list are the same
letter-numbered : (k : Kind) (w : Width) → get_or letters (place_of_piece k w) X ≡ k
unfolding letters
letter-numbered X One = refl
letter-numbered X Two = refl
letter-numbered Y One = refl
letter-numbered Y Two = refl
letter-numbered Z One = refl
letter-numbered Z Two = refl

width-numbered : (k : Kind) (w : Width) → get_or widths (place_of_piece k w) One ≡ w
unfolding widths
width-numbered X One = refl
width-numbered X Two = refl
width-numbered Y One = refl
width-numbered Y Two = refl
width-numbered Z One = refl
width-numbered Z Two = refl

letter-same : (j k : Kind) (v w : Width) → place_of_piece j v ≡ place_of_piece k w → j ≡ k
letter-same j k v w e = sym (letter-numbered j v) ∙ (ap (λ n. get_or letters n X) e ∙ letter-numbered k w)

width-same : (j k : Kind) (v w : Width) → place_of_piece j v ≡ place_of_piece k w → v ≡ w
width-same j k v w e = sym (width-numbered j v) ∙ (ap (λ n. get_or widths n One) e ∙ width-numbered k w)

-- a piece that is in the list of a kind and a width waits, and is of these
pub piece-of :
    (pieces : List Piece) (states : List State) (i : ℕ) (k : Kind) (w : Width)
    → class_at (piece_classes pieces states) i ≡ Some (place_of_piece k w) → IsUnplacedIn pieces states k w i
piece-of [] states i k w e = absurd (none-some _ e)
piece-of (p ∷ pieces) [] i k w e = absurd (none-some _ e)
piece-of (p ∷ pieces) (Unplaced ∷ states) zero k w e =
    let same = same_Some _ _ e in
    (p, refl, refl, letter-same p.kind k p.width w same, width-same p.kind k p.width w same)
piece-of (p ∷ pieces) (At spot ∷ states) zero k w e = absurd (none-some _ e)
piece-of (p ∷ pieces) (Removed ∷ states) zero k w e = absurd (none-some _ e)
piece-of (p ∷ pieces) (s ∷ states) (suc i) k w e = piece-of pieces states i k w e

-- a piece that waits is listed
pub piece-listed :
    (s : Lists) (pieces : List Piece) (states : List State) (i : ℕ) (p : Piece)
    → IsFiled s 6 (piece_classes pieces states) → slice_get pieces i ≡ Some p → slice_get states i ≡ Some Unplaced
    → IsListed s i
piece-listed s pieces states i p f e d =
    filed-listed s 6 (piece_classes pieces states) i _ f (piece_class-at pieces states i p Unplaced e d)

-- any other isn't
not-waiting : (p : Piece) (s : State) → (Some s ≡ Some Unplaced → ⊥) → piece_class p s ≡ None
not-waiting p Unplaced n = absurd (n refl)
not-waiting p (At spot) n = refl
not-waiting p Removed n = refl

pub piece-unlisted :
    (l : Lists) (pieces : List Piece) (states : List State) (i : ℕ) (p : Piece) (s : State)
    → IsFiled l 6 (piece_classes pieces states) → slice_get pieces i ≡ Some p → slice_get states i ≡ Some s
    → (slice_get states i ≡ Some Unplaced → ⊥) → IsListed l i → ⊥
piece-unlisted l pieces states i p s f e d n =
    filed-unlisted l 6 (piece_classes pieces states) i f
    (piece_class-at pieces states i p s e d ∙ not-waiting p s (λ q. n (d ∙ q)))

-- ---- a variable's pieces

not-below : (n : ℕ) → suc n ≤ zero → ⊥
not-below n h = absurd (omega arith)

less-one : (n i : ℕ) → suc n ≤ suc i → n ≤ i
less-one n i h = omega arith

not-less : zero < zero → ⊥
not-less h = absurd (omega arith)

not-less-suc : (i : ℕ) → suc i < zero → ⊥
not-less-suc i h = absurd (omega arith)

less-one-less : (i n : ℕ) → suc i < suc n → i < n
less-one-less i n h = omega arith

pub below-end : (i to n : ℕ) → i < to → to ≤ n → i < n
below-end i to n h g = omega arith

-- removing looks at no piece before the first of the variable
pub removed-none :
    (pieces : List Piece) (states : List State) (v n : ℕ)
    → ((i : ℕ) (p : Piece) → slice_get pieces i ≡ Some p → p.var ≡ v → n ≤ i)
    → removed_in (take n pieces) states v ≡ states
removed-none pieces states v zero none = refl
removed-none [] states v (suc n) none = refl
removed-none (p ∷ pieces) [] v (suc n) none = refl
removed-none (p ∷ pieces) (s ∷ states) v (suc n) none =
    let other : p.var ≢ v = λ e. absurd (not-below n (none zero p refl e)) in
    let more = removed-none pieces states v n (λ i q e d. less-one n i (none (suc i) q e d)) in
    rw (ne_eqb p.var v other) (ap (λ rest. s ∷ rest) more)

-- nor behind the last
pub removed-rest :
    (pieces : List Piece) (states : List State) (v n : ℕ)
    → ((i : ℕ) (p : Piece) → slice_get pieces i ≡ Some p → p.var ≡ v → i < n)
    → removed_in (take n pieces) states v ≡ removed_in pieces states v
removed-rest [] states v n rest = rw (take-nil n) refl
removed-rest (p ∷ pieces) [] v zero rest = refl
removed-rest (p ∷ pieces) (s ∷ states) v zero rest =
    let other : p.var ≢ v = λ e. absurd (not-less (rest zero p refl e)) in
    let more = removed-rest pieces states v zero (λ i q e d. absurd (not-less-suc i (rest (suc i) q e d))) in
    rw (ne_eqb p.var v other) (ap (λ rest. s ∷ rest) more)
removed-rest (p ∷ pieces) [] v (suc n) rest = refl
removed-rest (p ∷ pieces) (s ∷ states) v (suc n) rest =
    ap (λ more. cond (p.var == v) Removed s ∷ more)
    (removed-rest pieces states v n (λ i q e d. less-one-less i n (rest (suc i) q e d)))

-- ---- what becomes of a piece that is read

set-again : {A : Type 0} (xs : List A) (i : ℕ) (x : A) → slice_get xs i ≡ Some x → set xs i x ≡ xs
set-again [] i x e = refl
set-again (y ∷ xs) zero x e = ap (λ z. z ∷ xs) (sym (same_Some y x e))
set-again (y ∷ xs) (suc i) x e = ap (λ more. y ∷ more) (set-again xs i x e)

lifts-itself : (s t : State) → (s ≡ Unplaced) ⊎ (s ≡ Removed) → s ≡ t → lifted t ≡ t
lifts-itself s Unplaced h e = refl
lifts-itself s (At spot) (inl h) e = absurd (cc)
lifts-itself s (At spot) (inr h) e = absurd (cc)
lifts-itself s Removed h e = refl

-- what stands nowhere stays where it is when all is lifted
pub lift-nothing :
    (states : List State) (i : ℕ) (d s : State) → (get_or states i d ≡ Unplaced) ⊎ (get_or states i d ≡ Removed)
    → slice_get states i ≡ Some s → states ≡ set states i (lifted s)
lift-nothing states i d s h e =
    let same = lifts-itself (get_or states i d) s h (get_or_from_slice_get states i s d e) in
    sym (rw same (set-again states i s e))

settled : (p : Piece) (s : State) → ((x : Spot) × (s ≡ At x)) ⊎ (s ≡ Removed) → piece_class p s ≡ None
settled p s (inl h) = rw h.1 refl
settled p s (inr h) = rw h refl

-- what stands or is removed waits nowhere once it is removed
pub remove-settled :
    (l : Lists) (pieces : List Piece) (states : List State) (i : ℕ) (p : Piece) (d : State)
    → ((x : Spot) × (get_or states i d ≡ At x)) ⊎ (get_or states i d ≡ Removed) → i < length states
    → slice_get pieces i ≡ Some p → IsFiled l 6 (piece_classes pieces states)
    → IsFiled l 6 (piece_classes pieces (set states i Removed))
remove-settled l pieces states i p d h within e f =
    subst (IsFiled l 6)
    (sym (piece-stays pieces states i p (get_or states i d) Removed e (slice_get-get_or states i d within)
    (settled p (get_or states i d) h) refl))
    f

-- ---- a piece after another

-- one piece more is lifted
pub lift-step :
    (old now new : List State) (i : ℕ) → i < length old → length now ≡ length old
    → now ≡ map lifted (take i old) ++ drop i old
    → ((s : State) → slice_get now i ≡ Some s → new ≡ set now i (lifted s))
    → new ≡ map lifted (take (i + 1) old) ++ drop (i + 1) old
lift-step old now new i within same so_far step =
    let s = get_or now i Unplaced in
    let inside : i < length now = omega arith in
    step s (slice_get-get_or now i Unplaced inside)
    ∙ map_over_more lifted old now i s within so_far (get_or_default now i Unplaced s inside)

pub some-piece : Piece
some-piece = record { kind = X; width = One; var = 0 }

-- a piece that doesn't wait is in no list
pub piece-unlisted-read :
    (l : Lists) (pieces : List Piece) (states : List State) (i : ℕ)
    → IsFiled l 6 (piece_classes pieces states) → i < length pieces → i < length states
    → (slice_get states i ≡ Some Unplaced → ⊥) → IsListed l i → ⊥
piece-unlisted-read l pieces states i f within inside n =
    piece-unlisted l pieces states i (get_or pieces i some-piece) (get_or states i Unplaced) f
    (slice_get-get_or pieces i some-piece within) (slice_get-get_or states i Unplaced inside) n

pub piece-listed-read :
    (l : Lists) (pieces : List Piece) (states : List State) (i : ℕ)
    → IsFiled l 6 (piece_classes pieces states) → i < length pieces → slice_get states i ≡ Some Unplaced
    → IsListed l i
piece-listed-read l pieces states i f within e =
    piece-listed l pieces states i (get_or pieces i some-piece) f (slice_get-get_or pieces i some-piece within) e

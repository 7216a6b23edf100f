-- The piece that begins a rest is one.
use Rattle.std.proofs.Common.{◌≡◌, ◌<◌, ◌≤◌, ℕ, ℤ, pos, Bool, true, false, List, [], ◌∷◌, ◌++◌, length, take}
use Rattle.std.proofs.Common.{take_while, ◌||◌, ◌==◌, IsTrue, inl, inr, refl, sym, ap, subst, ◌∙◌, arith, length-take}
use Rattle.std.specs.List.{prefix_len}
use Rattle.std.proofs.lemmas.List.{take_min}
use Rattle.std.proofs.lemmas.Bool.Decides.{nat_tests}
use Rattle.pcc_base.specs.Ascii.{double_quote, apostrophe}
use Rattle.c_lex.specs.declared.token.TokenKind.{TokenKind}
use Rattle.c_lex.specs.declared.token.TokenKind.TheVariants as kinds
use Rattle.c_lex.specs.Bytes.{is_space, is_letter, is_digit}
use Rattle.c_lex.specs.Literals.{ConstantValue, IsCharacterConstant}
use Rattle.c_lex.specs.Pieces.{Piece, Space, Comment, Skipped, Spelled, IsPiece, Begins}
use Rattle.c_lex.proofs.OneSpelling.{one_word, one_mark, class_of, class_keyword, class_mark}
use Rattle.c_lex.proofs.OneValue.{one_constant, one_literal, one_character, constant_digit}

-- ---- the kind of a piece

-- the class of a piece's bytes
abbrev pub class_of_piece : Piece → ℕ
class_of_piece Space = 0
class_of_piece Comment = 1
class_of_piece Skipped = 2
class_of_piece (Spelled (kinds.Word word)) = 3
class_of_piece (Spelled (kinds.Ident name)) = 3
class_of_piece (Spelled (kinds.Number z u)) = 4
class_of_piece (Spelled (kinds.Text bytes)) = 5
class_of_piece (Spelled (kinds.Mark mark)) = 6

-- white space
pub class_space : (b : ℕ) → IsTrue (is_space b) → class_of (b ∷ []) ≡ 0
class_space b space = rw space refl

-- a letter
pub class_letter : (b : ℕ) (bs : List ℕ) → IsTrue (is_letter b) → class_of (b ∷ bs) ≡ 3
class_letter b bs letter =
    let space : is_space b ≡ false = grind (arith, nat_tests) in
    rw (space, letter) refl

-- a digit
pub class_digit : (b : ℕ) (bs : List ℕ) → IsTrue (is_digit b) → class_of (b ∷ bs) ≡ 4
class_digit b bs digit =
    let space : is_space b ≡ false = grind (arith, nat_tests) in
    let letter : is_letter b ≡ false = grind (arith, nat_tests) in
    let number : (is_digit b || b == apostrophe) ≡ true = grind (arith, nat_tests) in
    rw (space, letter, number) refl

-- as many bytes as pass the test are those that pass it
pub take_passed : (test : ℕ → Bool) (rest : List ℕ) (n : ℕ) → n ≡ length (take_while test rest)
    → take n rest ≡ take_while test rest
take_passed test rest n e =
    ap (λ (k : ℕ). take k rest) (e ∙ length-take (prefix_len test rest) rest) ∙ take_min (prefix_len test rest) rest

-- a piece's bytes are of its class
pub piece_class : (fresh : Bool) (rest : List ℕ) (n : ℕ) (p : Piece) → IsPiece fresh rest n p → class_of (take n rest)
    ≡ class_of_piece p
piece_class fresh rest n Space (b, e, space) = ap class_of e ∙ class_space b space
piece_class fresh rest n Comment (inl (body, e, all)) = ap class_of e
piece_class fresh rest n Comment (inr (body, e, first)) = ap class_of e
piece_class fresh rest n Skipped (is_fresh, marker, size) = ap class_of (take_passed _ rest n size ∙ marker.2)
piece_class fresh rest n (Spelled (kinds.Word word)) e = ap class_of e ∙ class_keyword word
piece_class fresh rest n (Spelled (kinds.Ident name)) (e, word, none) =
    ap class_of (e ∙ word.2) ∙ class_letter word.0 word.1 word.3
piece_class fresh rest n (Spelled (kinds.Number z u)) (s, inl (text, most, number)) =
    let first = constant_digit (take n rest) number.0 number.1.0 in
    ap class_of first.2 ∙ class_digit first.0 first.1 first.3
piece_class fresh rest n (Spelled (kinds.Number z u)) (s, inr character) = ap class_of character.1.1
piece_class fresh rest n (Spelled (kinds.Text bytes)) (inside, e, values) = ap class_of e
piece_class fresh rest n (Spelled (kinds.Mark mark)) spelled = class_mark mark (take n rest) spelled

-- ---- one piece

-- a constant is no character constant
no_character : (bytes : List ℕ) (value : ℕ) (z : ℤ) → ConstantValue bytes value → IsCharacterConstant bytes z → ⊥
no_character bytes value z p q =
    let first = constant_digit bytes value p in
    let both : first.0 ∷ first.1 ≡ apostrophe ∷ q.1.0 ++ apostrophe ∷ [] = sym first.2 ∙ q.1.1 in
    let quote : first.0 ≡ apostrophe = cc in
    let digit : is_digit apostrophe ≡ true = subst (λ (b : ℕ). is_digit b ≡ true) quote first.3 in
    cc

-- numbers of the same bytes are one
one_number : (fresh : Bool) (rest : List ℕ) (n : ℕ) (y z : ℤ) (v w : Bool)
    → IsPiece fresh rest n (Spelled (kinds.Number y v)) → IsPiece fresh rest n (Spelled (kinds.Number z w)) → y ≡ z
one_number fresh rest n y z v w (r, inl (t, m, a)) (s, inl (u, o, b)) =
    a.2 ∙ ap pos (one_constant (take n rest) a.0 b.0 a.1.0 b.1.0) ∙ sym b.2
one_number fresh rest n y z v w (r, inl (t, m, a)) (s, inr b) = absurd (no_character (take n rest) a.0 z a.1.0 b)
one_number fresh rest n y z v w (r, inr a) (s, inl (u, o, b)) = absurd (no_character (take n rest) b.0 y b.1.0 a)
one_number fresh rest n y z v w (r, inr a) (s, inr b) = one_character (take n rest) y z a b

-- tokens of one class and the same bytes are of one kind
same_kind : (fresh : Bool) (rest : List ℕ) (n : ℕ) (k l : TokenKind) → class_of_piece (Spelled k)
    ≡ class_of_piece (Spelled l) → IsPiece fresh rest n (Spelled k) → IsPiece fresh rest n (Spelled l) → k ≡ l
same_kind fresh rest n (kinds.Word v) (kinds.Word w) e a b = ap (λ x. kinds.Word x) (one_word v w (sym a ∙ b))
same_kind fresh rest n (kinds.Word v) (kinds.Ident y) e a b = absurd (b.2 v (sym a ∙ b.0))
same_kind fresh rest n (kinds.Ident x) (kinds.Word w) e a b = absurd (a.2 w (sym b ∙ a.0))
same_kind fresh rest n (kinds.Ident x) (kinds.Ident y) e a b = ap (λ x. kinds.Ident x) (sym a.0 ∙ b.0)
same_kind fresh rest n (kinds.Number y v) (kinds.Number z w) e a b =
    ap (λ x. kinds.Number x v) (one_number fresh rest n y z v w a b)
    ∙ ap (λ u. kinds.Number z u) (a.0 ∙ sym b.0)
same_kind fresh rest n (kinds.Text x) (kinds.Text y) e a b =
    ap (λ x. kinds.Text x) (one_literal double_quote (take n rest) x y a b)
same_kind fresh rest n (kinds.Mark l) (kinds.Mark m) e a b = ap (λ x. kinds.Mark x) (one_mark l m (take n rest) a b)
same_kind fresh rest n _ _ e a b = absurd (omega arith)

-- a token is of none of the first three classes
token_class : (k : TokenKind) → 3 ≤ class_of_piece (Spelled k)
token_class (kinds.Word word) = omega arith
token_class _ = omega arith

-- pieces of one class and the same bytes are one
same_piece : (fresh : Bool) (rest : List ℕ) (n : ℕ) (p q : Piece) → class_of_piece p ≡ class_of_piece q
    → IsPiece fresh rest n p → IsPiece fresh rest n q → p ≡ q
same_piece fresh rest n Space Space e a b = refl
same_piece fresh rest n Comment Comment e a b = refl
same_piece fresh rest n Skipped Skipped e a b = refl
same_piece fresh rest n (Spelled k) (Spelled l) e a b = ap (λ x. Spelled x) (same_kind fresh rest n k l e a b)
same_piece fresh rest n (Spelled k) _ e a b = let high = token_class k in absurd (omega arith)
same_piece fresh rest n _ (Spelled l) e a b = let high = token_class l in absurd (omega arith)
same_piece fresh rest n _ _ e a b = absurd (omega arith)

-- pieces of the same bytes are one
pub one_piece : (fresh : Bool) (rest : List ℕ) (n : ℕ) (p q : Piece) → IsPiece fresh rest n p → IsPiece fresh rest n q
    → p ≡ q
one_piece fresh rest n p q a b =
    same_piece fresh rest n p q (sym (piece_class fresh rest n p a) ∙ piece_class fresh rest n q b) a b

-- what begins a rest has one length and is one piece
pub begins_once : (fresh : Bool) (rest : List ℕ) (m n : ℕ) (p q : Piece) → Begins fresh rest m p → Begins fresh rest n q
    → (m ≡ n) × (p ≡ q)
begins_once fresh rest m n p q a b =
    let above : m < n → ⊥ = λ less. a.longest n q less b.within b.is in
    let below : n < m → ⊥ = λ less. b.longest m p less a.within a.is in
    let size : n ≡ m = omega arith in
    (sym size, one_piece fresh rest m p q a.is (subst (λ k. IsPiece fresh rest k q) size b.is))

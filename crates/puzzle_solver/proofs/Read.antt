-- The words of a text are read again, and what is read are its words.
use Rattle.std.proofs.Common.{ℕ, ◌≡◌, ◌==◌, Bool, true, false, cond, List, [], ◌∷◌, ◌++◌, map, Option, Some, None}
use Rattle.std.proofs.Common.{refl, sym, ap, arith, ◌∙◌, ◌≤◌, ◌<◌, length, drop, get_or, append_assoc, codes, suc}
use Rattle.std.proofs.lemmas.Bool.{eqb-true}
use Rattle.std.proofs.lemmas.Option.{none-some, same_Some}
use Rattle.pcc_base.specs.Ascii.{newline, space, digit_one, digit_two, capital_x, capital_y, capital_z, letter_b}
use Rattle.pcc_base.specs.Ascii.{letter_l, letter_n, letter_u}
use Rattle.pcc_base.specs.declared.run.Width.{Width}
use Rattle.pcc_base.specs.declared.run.Width.TheVariants.{One, Two}
use Rattle.puzzle_board.specs.declared.area.Area.{Area}
use Rattle.puzzle_board.specs.declared.area.Column.{Column}
use Rattle.puzzle_board.specs.declared.area.Column.TheVariants.{Both, Upper, Lower, Neither}
use Rattle.puzzle_board.specs.declared.piece.Kind.{Kind}
use Rattle.puzzle_board.specs.declared.piece.Kind.TheVariants.{X, Y, Z}
use Rattle.puzzle_board.specs.declared.piece.Piece.{Piece}
use Rattle.puzzle_solver.specs.Texts.{IsNumbered, area_word, kind_letter, letter_of, piece_word, spaced, width_digit}
use Rattle.puzzle_solver.specs.Reading.{pieces_from, shapes_text}
use Rattle.puzzle_solver.specs.Reading.{area_of, both_of, column_of, kind_of_letter}
use Rattle.puzzle_solver.specs.Reading.{shape_of, shape_word, width_of_digit, word_at}
use Rattle.puzzle_solver.specs.Reading.{words_by, words_read}

-- ---- letters

-- a test that a number is another, by cases
tested : {A : Type 0} (n m : ℕ) (x : A) (other : Option A) (y : A) (P : Type 0) (b : Bool) → (n == m) ≡ b
    → cond b (Some x) other ≡ Some y → (n ≡ m → x ≡ y → P) → (other ≡ Some y → P) → P
tested n m x other y P true same e hit miss = hit (eqb-true n m same) (same_Some x y e)
tested n m x other y P false differ e hit miss = miss e

pub column-is : (n : ℕ) (c : Column) → column_of n ≡ Some c → letter_of c ≡ n
column-is n c e =
    tested n letter_b Both _ c (letter_of c ≡ n) (n == letter_b) refl e
    (λ s h. sym (ap letter_of h) ∙ sym s) (λ e.
    tested n letter_u Upper _ c (letter_of c ≡ n) (n == letter_u) refl e
    (λ s h. sym (ap letter_of h) ∙ sym s) (λ e.
    tested n letter_l Lower _ c (letter_of c ≡ n) (n == letter_l) refl e
    (λ s h. sym (ap letter_of h) ∙ sym s) (λ e.
    tested n letter_n Neither None c (letter_of c ≡ n) (n == letter_n) refl e
    (λ s h. sym (ap letter_of h) ∙ sym s) (λ e.
    absurd (none-some c e)))))

pub kind-is : (n : ℕ) (k : Kind) → kind_of_letter n ≡ Some k → kind_letter k ≡ n
kind-is n k e =
    tested n capital_x X _ k (kind_letter k ≡ n) (n == capital_x) refl e
    (λ s h. sym (ap kind_letter h) ∙ sym s) (λ e.
    tested n capital_y Y _ k (kind_letter k ≡ n) (n == capital_y) refl e
    (λ s h. sym (ap kind_letter h) ∙ sym s) (λ e.
    tested n capital_z Z None k (kind_letter k ≡ n) (n == capital_z) refl e
    (λ s h. sym (ap kind_letter h) ∙ sym s) (λ e.
    absurd (none-some k e))))

pub width-is : (n : ℕ) (w : Width) → width_of_digit n ≡ Some w → width_digit w ≡ n
width-is n w e =
    tested n digit_one One _ w (width_digit w ≡ n) (n == digit_one) refl e
    (λ s h. sym (ap width_digit h) ∙ sym s) (λ e.
    tested n digit_two Two None w (width_digit w ≡ n) (n == digit_two) refl e
    (λ s h. sym (ap width_digit h) ∙ sym s) (λ e.
    absurd (none-some w e)))

pub column-read : (c : Column) → column_of (letter_of c) ≡ Some c
column-read Both = refl
column-read Upper = refl
column-read Lower = refl
column-read Neither = refl

pub kind-read : (k : Kind) → kind_of_letter (kind_letter k) ≡ Some k
kind-read X = refl
kind-read Y = refl
kind-read Z = refl

pub width-read : (w : Width) → width_of_digit (width_digit w) ≡ Some w
width-read One = refl
width-read Two = refl

both-parts :
    {A B C : Type 0} (f : A → B → C) (o : Option A) (p : Option B) (c : C) (P : Type 0) → both_of f o p ≡ Some c
    → ((a : A) (b : B) → o ≡ Some a → p ≡ Some b → f a b ≡ c → P) → P
both-parts f None p c P e hit = absurd (none-some c e)
both-parts f (Some a) None c P e hit = absurd (none-some c e)
both-parts f (Some a) (Some b) c P e hit = hit a b refl refl (same_Some (f a b) c e)

-- two letters that are an area are its word
pub area-is : (a b : ℕ) (x : Area) → area_of a b ≡ Some x → area_word x ≡ a ∷ b ∷ []
area-is a b x e =
    both-parts (λ (low high : Column). let area : Area = record { low = low; high = high } in area) (column_of a)
    (column_of b) x (area_word x ≡ a ∷ b ∷ []) e (λ low high is also made.
    sym (ap area_word made)
    ∙ (ap (λ n. n ∷ letter_of high ∷ []) (column-is a low is) ∙ ap (λ n. a ∷ n ∷ []) (column-is b high also)))

pub shape-is : (a b : ℕ) (x : Kind × Width) → shape_of a b ≡ Some x → shape_word x ≡ a ∷ b ∷ []
shape-is a b x e =
    both-parts (λ (kind : Kind) (width : Width). (kind, width)) (kind_of_letter a) (width_of_digit b) x
    (shape_word x ≡ a ∷ b ∷ []) e (λ kind width is also made.
    sym (ap shape_word made)
    ∙ (ap (λ n. n ∷ width_digit width ∷ []) (kind-is a kind is) ∙ ap (λ n. a ∷ n ∷ []) (width-is b width also)))

-- ---- words

-- what is read, and what is behind it, are the text
words-are-by :
    {A : Type 0} (f : ℕ → ℕ → Option A) (word : A → List ℕ)
    → ((a b : ℕ) (x : A) → f a b ≡ Some x → word x ≡ a ∷ b ∷ []) → (s a b : ℕ) (rest : List ℕ) (more : List A × List ℕ)
    (t : Bool) (o : Option A) → (s == space) ≡ t → cond t (f a b) None ≡ o
    → rest ≡ spaced (map word more.0) ++ more.1
    → s ∷ a ∷ b ∷ rest
    ≡ spaced (map word (words_by o (s ∷ a ∷ b ∷ rest) more).0) ++ (words_by o (s ∷ a ∷ b ∷ rest) more).1
words-are-by f word is s a b rest more t None test e behind = refl
words-are-by f word is s a b rest more false (Some x) test e behind = absurd (none-some x e)
words-are-by f word is s a b rest more true (Some x) test e behind =
    ap (λ n. n ∷ a ∷ b ∷ rest) (eqb-true s space test)
    ∙ (ap (λ r. space ∷ a ∷ b ∷ r) behind
    ∙ ap (λ w. (space ∷ (w ++ spaced (map word more.0))) ++ more.1) (sym (is a b x e)))

pub words-are :
    {A : Type 0} (f : ℕ → ℕ → Option A) (word : A → List ℕ)
    → ((a b : ℕ) (x : A) → f a b ≡ Some x → word x ≡ a ∷ b ∷ []) → (text : List ℕ)
    → text ≡ spaced (map word (words_read f text).0) ++ (words_read f text).1
words-are f word is [] = refl
words-are f word is (s ∷ []) = refl
words-are f word is (s ∷ a ∷ []) = refl
words-are f word is (s ∷ a ∷ b ∷ rest) =
    words-are-by f word is s a b rest (words_read f rest) (s == space) (word_at f (s ∷ a ∷ b ∷ rest)) refl refl
    (words-are f word is rest)

-- no words begin with a newline
newline-read : {A : Type 0} (f : ℕ → ℕ → Option A) (rest : List ℕ)
    → words_read f (newline ∷ rest) ≡ ([], newline ∷ rest)
newline-read f [] = refl
newline-read f (a ∷ []) = refl
newline-read f (a ∷ b ∷ rest) = refl

-- the areas of a text are read again
pub areas-read :
    (areas : List Area) (rest : List ℕ)
    → words_read area_of (spaced (map area_word areas) ++ newline ∷ rest) ≡ (areas, newline ∷ rest)
areas-read [] rest = newline-read area_of rest
areas-read (a ∷ areas) rest =
    rw (column-read a.low, column-read a.high, areas-read areas rest) refl

-- and so are kinds and widths
pub shapes-read :
    (shapes : List (Kind × Width)) (rest : List ℕ)
    → words_read shape_of (spaced (map shape_word shapes) ++ newline ∷ rest) ≡ (shapes, newline ∷ rest)
shapes-read [] rest = newline-read shape_of rest
shapes-read (s ∷ shapes) rest =
    rw (kind-read s.0, width-read s.1, shapes-read shapes rest) refl

-- ---- one word after another

-- a word is read
pub word-first :
    {A : Type 0} (f : ℕ → ℕ → Option A) (text : List ℕ) (x : A) → word_at f text ≡ Some x
    → words_read f text ≡ (x ∷ (words_read f (drop 3 text)).0, (words_read f (drop 3 text)).1)
word-first f [] x e = absurd (none-some x e)
word-first f (s ∷ []) x e = absurd (none-some x e)
word-first f (s ∷ a ∷ []) x e = absurd (none-some x e)
word-first f (s ∷ a ∷ b ∷ rest) x e =
    ap (λ o. words_by o (s ∷ a ∷ b ∷ rest) (words_read f rest)) e

-- there is none
pub word-none :
    {A : Type 0} (f : ℕ → ℕ → Option A) (text : List ℕ) → word_at f text ≡ None → words_read f text ≡ ([], text)
word-none f [] e = refl
word-none f (s ∷ []) e = refl
word-none f (s ∷ a ∷ []) e = refl
word-none f (s ∷ a ∷ b ∷ rest) e = ap (λ o. words_by o (s ∷ a ∷ b ∷ rest) (words_read f rest)) e

pub word-long :
    {A : Type 0} (f : ℕ → ℕ → Option A) (text : List ℕ) (x : A) → word_at f text ≡ Some x → 3 ≤ length text
word-long f [] x e = absurd (none-some x e)
word-long f (s ∷ []) x e = absurd (none-some x e)
word-long f (s ∷ a ∷ []) x e = absurd (none-some x e)
word-long f (s ∷ a ∷ b ∷ rest) x e = omega arith

-- a text of fewer than three bytes has none
pub word-short : {A : Type 0} (f : ℕ → ℕ → Option A) (text : List ℕ) → length text < 3 → None ≡ word_at f text
word-short f [] h = refl
word-short f (s ∷ []) h = refl
word-short f (s ∷ a ∷ []) h = refl
word-short f (s ∷ a ∷ b ∷ rest) h = absurd (omega arith)

-- by its bytes
pub word-by :
    {A : Type 0} (f : ℕ → ℕ → Option A) (text : List ℕ) (d e g : ℕ) → 3 ≤ length text
    → word_at f text ≡ cond (get_or text 0 d == space) (f (get_or text 1 e) (get_or text 2 g)) None
word-by f [] d e g h = absurd (omega arith)
word-by f (s ∷ []) d e g h = absurd (omega arith)
word-by f (s ∷ a ∷ []) d e g h = absurd (omega arith)
word-by f (s ∷ a ∷ b ∷ rest) d e g h = refl

-- one word more is read
pub word-step :
    {A : Type 0} (f : ℕ → ℕ → Option A) (text rest next : List ℕ) (words more : List A) (x : A)
    → word_at f rest ≡ Some x → next ≡ drop 3 rest → more ≡ words ++ x ∷ []
    → ((words_read f text).0 ≡ words ++ (words_read f rest).0) × ((words_read f text).1 ≡ (words_read f rest).1)
    → ((words_read f text).0 ≡ more ++ (words_read f next).0) × ((words_read f text).1 ≡ (words_read f next).1)
word-step f text rest next words more x e is pushed (front, behind) =
    let first = word-first f rest x e in
    rw (is, pushed) (
      front ∙ (ap (λ r. words ++ r.0) first ∙ sym (append_assoc words (x ∷ []) (words_read f (drop 3 rest)).0)),
      behind ∙ ap (λ r. r.1) first,
    )

-- ---- boards

-- what stands behind the words and a newline are two lines
pub parts-are :
    (text : List ℕ) (behind areas_rest pieces_rest : List ℕ) (areas : List Area) (shapes : List (Kind × Width))
    → text ≡ codes "areas" ++ behind → areas ≡ (words_read area_of behind).0
    → (words_read area_of behind).1 ≡ newline ∷ (codes "pieces" ++ areas_rest)
    → shapes ≡ (words_read shape_of areas_rest).0 → (words_read shape_of areas_rest).1 ≡ newline ∷ []
    → text ≡ shapes_text areas shapes
parts-are text behind areas_rest pieces_rest areas shapes is areas_are middle shapes_are end =
    let one : behind ≡ spaced (map area_word areas) ++ newline ∷ (codes "pieces" ++ areas_rest) =
    words-are area_of area_word area-is behind
    ∙ (ap (λ (all : List Area). spaced (map area_word all) ++ (words_read area_of behind).1) (sym areas_are)
    ∙ ap (λ (r : List ℕ). spaced (map area_word areas) ++ r) middle) in
    let two : areas_rest ≡ spaced (map shape_word shapes) ++ newline ∷ [] =
    words-are shape_of shape_word shape-is areas_rest
    ∙ (ap (λ (ss : List (Kind × Width)). spaced (map shape_word ss) ++ (words_read shape_of areas_rest).1)
    (sym shapes_are)
    ∙ ap (λ (r : List ℕ). spaced (map shape_word shapes) ++ r) end) in
    is ∙ (ap (λ (r : List ℕ). codes "areas" ++ r) one
    ∙ ap (λ (r : List ℕ). codes "areas" ++ (spaced (map area_word areas) ++ newline ∷ (codes "pieces" ++ r))) two)

-- the words of a text of two lines are its areas, and behind them stands the second line
pub first-line :
    (behind : List ℕ) (areas : List Area) (shapes : List (Kind × Width))
    → codes "areas" ++ behind ≡ shapes_text areas shapes
    → words_read area_of behind
    ≡ (areas, newline ∷ (codes "pieces" ++ (spaced (map shape_word shapes) ++ newline ∷ [])))
first-line behind areas shapes e =
    let same : behind
    ≡ spaced (map area_word areas) ++ newline ∷ (codes "pieces" ++ (spaced (map shape_word shapes) ++ newline ∷ [])) =
    cc in
    rw same (areas-read areas (codes "pieces" ++ (spaced (map shape_word shapes) ++ newline ∷ [])))

-- pieces are numbered, and have the words of their kinds and widths
pub numbered-from : (n : ℕ) (shapes : List (Kind × Width)) → IsNumbered n (pieces_from n shapes)
numbered-from n [] = tt
numbered-from n (s ∷ shapes) = (refl, numbered-from (suc n) shapes)

pub words-from :
    (n : ℕ) (shapes : List (Kind × Width)) → map piece_word (pieces_from n shapes) ≡ map shape_word shapes
words-from n [] = refl
words-from n (s ∷ shapes) = ap (λ more. shape_word s ∷ more) (words-from (suc n) shapes)

pub shapes-of :
    (pieces : List Piece)
    → map piece_word pieces ≡ map shape_word (map (λ (p : Piece). let s : Kind × Width = (p.kind, p.width) in s) pieces)
shapes-of [] = refl
shapes-of (p ∷ pieces) = ap (λ more. piece_word p ∷ more) (shapes-of pieces)

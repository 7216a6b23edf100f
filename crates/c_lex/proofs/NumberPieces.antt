-- Preprocessing numbers and integer constants.
use Rattle.std.proofs.Common.{◌≡◌, ◌≢◌, ◌<◌, ◌≤◌, ◌+◌, ◌*◌, min, ℕ, zero, suc, Bool, true, false, ◌||◌, ◌&&◌, cond}
use Rattle.std.proofs.Common.{List, [], ◌∷◌, ◌++◌, take, drop, get_or, length, IsTrue, MatchOption, Option, Some, None}
use Rattle.std.proofs.Common.{ℤ, pos, refl, sym, ap, subst, inl, inr, ◌⊎◌, ◌∙◌, arith}
use Rattle.std.proofs.lemmas.List.{take_min, at_drop_more, at_drop_all}
use Rattle.std.proofs.lemmas.Int.{to_z_pos}
use mir.Val.{to_z, of_z}
use mir.Syntax.{w32}
use Rattle.std.proofs.Math.Nat.{mul-le-mul_left}
use Rattle.std.proofs.Math.Numerals.{one-add}
use Rattle.std.proofs.lemmas.Bool.{false≢true, cases_lt, and_parts}
use Rattle.std.proofs.lemmas.Bool.Decides.{nat_tests}
use Rattle.std.specs.Prelude.{◌==◌}
use Rattle.pcc_base.specs.Ascii.{percent, apostrophe, star, plus, minus, dot, slash, digit_zero, colon, capital_l}
use Rattle.pcc_base.specs.Ascii.{capital_x, letter_x}
use Rattle.c_lex.specs.declared.token.TokenKind.TheVariants as kinds
use Rattle.c_lex.specs.Bytes.{is_digit, is_octal_digit, is_hexadecimal_digit, is_letter, digit_worth, number_after}
use Rattle.c_lex.specs.Bytes.{number_in}
use Rattle.c_lex.specs.Literals.{AllPass, GoesOnAsNumber, IsNumberText, StartsNumber, ConstantValue, IsConstant}
use Rattle.c_lex.specs.Literals.{is_exponent_letter}
use Rattle.c_lex.specs.Pieces.{Piece, Space, Comment, Skipped, Spelled, IsPiece, IsBarred, Begins, NoneBegins}
use Rattle.c_lex.specs.declared.radix.Radix.{Radix}
use Rattle.c_lex.specs.declared.radix.Radix.TheVariants.{Octal, Decimal, Hexadecimal}
use Rattle.c_lex.specs.Radixes.{base_of}
use Rattle.c_lex.proofs.PieceStarts.{piece_starts, same_first}
use Rattle.c_lex.proofs.DigitFronts.{number_grows as after_grows}
pub use Rattle.c_lex.proofs.DigitFronts.{base_above as base_some}

-- ---- how far a preprocessing number goes

-- a byte that belongs to a number behind any other
abbrev pub is_plain : ℕ → Bool
is_plain b = is_digit b || (is_letter b || b == dot)

-- a byte that belongs to a number behind this one
abbrev pub goes : ℕ → ℕ → Bool
goes before b = is_plain b || (is_exponent_letter before && (b == plus || b == minus))

-- each byte goes on behind the one before
abbrev pub Follows : ℕ → List ℕ → Type 0
Follows before [] = Unit {0}
Follows before (b ∷ bs) = IsTrue (goes before b) × Follows b bs

-- how many bytes go on
abbrev pub run : ℕ → List ℕ → ℕ
run before [] = 0
run before (b ∷ bs) = cond (goes before b) (1 + run b bs) 0

plain_goes : (before b : ℕ) → IsTrue (is_plain b) → IsTrue (goes before b)
plain_goes before b h = rw h refl

sign_goes : (before b : ℕ) → IsTrue (is_exponent_letter before) → IsTrue (b == plus || b == minus)
    → IsTrue (goes before b)
sign_goes before b h s = grind (arith, nat_tests)

exponent_plain : (b : ℕ) → IsTrue (is_exponent_letter b) → IsTrue (is_plain b)
exponent_plain b h = grind (arith, nat_tests)

-- what may follow in a number goes on behind any byte
follows_from : (before : ℕ) (bs : List ℕ) → GoesOnAsNumber bs → Follows before bs
follows_from before [] g = tt
follows_from before (b ∷ []) g = (plain_goes before b g, tt)
follows_from before (b ∷ c ∷ rest) (inl h) = (plain_goes before b h.0, follows_from b (c ∷ rest) h.1)
follows_from before (b ∷ c ∷ rest) (inr h) =
    (plain_goes before b (exponent_plain b h.0), (sign_goes b c h.0 h.1, follows_from c rest h.2))

goes_plain : (before b : ℕ) → is_exponent_letter before ≡ false → IsTrue (goes before b) → IsTrue (is_plain b)
goes_plain before b no_letter h = grind (arith, nat_tests)

goes_sign : (before b : ℕ) → is_plain b ≡ false → IsTrue (goes before b) → IsTrue (is_exponent_letter before)
    × IsTrue (b == plus || b == minus)
goes_sign before b no_plain h = and_parts (is_exponent_letter before) (b == plus || b == minus) (rw no_plain at h)

plain_no : (b : ℕ) → is_plain b ≡ false → is_exponent_letter b ≡ false
plain_no b h = grind (arith, nat_tests)

-- and what goes on behind a byte that is no letter of an exponent may follow
goes_on_from : (before : ℕ) (bs : List ℕ) → is_exponent_letter before ≡ false → Follows before bs → GoesOnAsNumber bs
goes_on_from before [] no_letter h = tt
goes_on_from before (b ∷ []) no_letter h = goes_plain before b no_letter h.0
goes_on_from before (b ∷ c ∷ rest) no_letter h =
    let more : (r : Bool) → is_plain c ≡ r → GoesOnAsNumber (b ∷ c ∷ rest) =
    λ r. elim r as (λ q. is_plain c ≡ q → GoesOnAsNumber (b ∷ c ∷ rest)) [
      | true ↦ λ e.
          let next = goes_on_from digit_zero (c ∷ rest) refl (plain_goes digit_zero c e, h.1.1) in
          inl (goes_plain before b no_letter h.0, next)
      | false ↦ λ e. let sign = goes_sign b c e h.1.0 in inr (sign.0, sign.1, goes_on_from c rest (plain_no c e) h.1.1)
    ] in
    more (is_plain c) refl

run_follows_by : (before b : ℕ) (bs : List ℕ) (r : Bool) → goes before b ≡ r → Follows b (take (run b bs) bs)
    → Follows before (take (cond r (1 + run b bs) 0) (b ∷ bs))
run_follows_by before b bs true e rest = rw one-add (e, rest)
run_follows_by before b bs false e rest = tt

run_follows : (before : ℕ) (bs : List ℕ) → Follows before (take (run before bs) bs)
run_follows before [] = tt
run_follows before (b ∷ bs) = run_follows_by before b bs (goes before b) refl (run_follows b bs)

run_longest : (before m : ℕ) (bs : List ℕ) → m ≤ length bs → Follows before (take m bs) → m ≤ run before bs
run_longest before zero bs within h = omega arith
run_longest before (suc m) [] within h = omega arith
run_longest before (suc m) (b ∷ bs) within h = rw h.0 (omega (arith, run_longest b m bs (omega arith) h.1))

-- ---- the longest preprocessing number

digit_text : (b : ℕ) (bs : List ℕ) → IsTrue (is_digit b) → GoesOnAsNumber bs → IsNumberText (b ∷ bs)
digit_text b [] digit more = digit
digit_text b (c ∷ cs) digit more = inl (digit, more)

digit_goes_on : (b : ℕ) (bs : List ℕ) → IsTrue (is_digit b) → IsNumberText (b ∷ bs) → GoesOnAsNumber bs
digit_goes_on b [] digit text = tt
digit_goes_on b (c ∷ cs) digit (inl h) = h.1
digit_goes_on b (c ∷ cs) digit (inr h) = absurd (false≢true (subst (λ (x : ℕ). IsTrue (is_digit x)) h.0 digit))

dot_goes_on : (c : ℕ) (bs : List ℕ) → IsNumberText (dot ∷ c ∷ bs) → GoesOnAsNumber bs
dot_goes_on c bs (inl h) = absurd (false≢true h.0)
dot_goes_on c bs (inr h) = h.2

-- where a number's tail begins: behind a digit, or a dot and a digit
abbrev pub IsNumberStart : List ℕ → ℕ → Type 0
IsNumberStart rest start =
    ((start ≡ 1) × (0 < length rest) × IsTrue (is_digit (get_or rest 0 0)))
    ⊎ ((start ≡ 2) × (1 < length rest) × (get_or rest 0 0 ≡ dot) × IsTrue (is_digit (get_or rest 1 0)))

pub start_at_dot : (rest : List ℕ) → StartsNumber rest → get_or rest 0 0 ≡ dot → IsNumberStart rest 2
start_at_dot [] starts_so first = absurd starts_so
start_at_dot (b ∷ []) starts_so first = absurd (false≢true (subst (λ (x : ℕ). IsTrue (is_digit x)) first starts_so))
start_at_dot (b ∷ c ∷ bs) (inl h) first = absurd (false≢true (subst (λ (x : ℕ). IsTrue (is_digit x)) first h))
start_at_dot (b ∷ c ∷ bs) (inr h) first = inr (refl, omega arith, first, h.1)

pub start_at_digit : (rest : List ℕ) → StartsNumber rest → get_or rest 0 0 ≢ dot → IsNumberStart rest 1
start_at_digit [] starts_so no_dot = absurd starts_so
start_at_digit (b ∷ []) starts_so no_dot = inl (refl, omega arith, starts_so)
start_at_digit (b ∷ c ∷ bs) (inl h) no_dot = inl (refl, omega arith, h)
start_at_digit (b ∷ c ∷ bs) (inr h) no_dot = absurd (no_dot h.0)

-- the longest number is one
pub number_text : (rest : List ℕ) (start n : ℕ) → IsNumberStart rest start
    → n ≡ start + run digit_zero (drop start rest)
    → IsNumberText (take n rest)
number_text [] start n (inl h) count = absurd (omega (arith, h.1))
number_text [] start n (inr h) count = absurd (omega (arith, h.1))
number_text (b ∷ bs) start n (inl h) count =
    rw (
      count,
      h.0,
      one-add,
    ) (digit_text b (take (run digit_zero bs) bs) h.2
    (goes_on_from digit_zero (take (run digit_zero bs) bs) refl (run_follows digit_zero bs)))
number_text (b ∷ []) start n (inr h) count = absurd (omega (arith, h.1))
number_text (b ∷ c ∷ bs) start n (inr h) count =
    let k : ℕ = run digit_zero bs in
    let two : 2 + k ≡ suc (suc k) = omega arith in
    rw (count, h.0, two) (inr (h.2, h.3, goes_on_from digit_zero (take k bs) refl (run_follows digit_zero bs)))

-- no longer prefix is one
pub number_longest : (rest : List ℕ) (start n : ℕ) → IsNumberStart rest start
    → n ≡ start + run digit_zero (drop start rest)
    → (m : ℕ) → n < m → m ≤ length rest → IsNumberText (take m rest) → ⊥
number_longest [] start n (inl h) count m less within text = omega (arith, h.1)
number_longest [] start n (inr h) count m less within text = omega (arith, h.1)
number_longest rest start n is count zero less within text = omega arith
number_longest (b ∷ bs) start n (inl h) count (suc m) less within text =
    let longest =
    run_longest digit_zero m bs (omega arith)
    (follows_from digit_zero (take m bs) (digit_goes_on b (take m bs) h.2 text)) in
    let counted : n ≡ 1 + run digit_zero bs = rw h.0 at count in
    omega arith
number_longest (b ∷ []) start n (inr h) count (suc m) less within text = omega (arith, h.1)
number_longest (b ∷ c ∷ bs) start n (inr h) count (suc zero) less within text = omega (arith, h.0)
number_longest (b ∷ c ∷ bs) start n (inr h) count (suc (suc m)) less within text =
    let dotted : IsNumberText (dot ∷ c ∷ take m bs) = subst (λ (x : ℕ). IsNumberText (x ∷ c ∷ take m bs)) h.2 text in
    let longest = run_longest digit_zero m bs (omega arith)
    (follows_from digit_zero (take m bs) (dot_goes_on c (take m bs) dotted)) in
    let counted : n ≡ 2 + run digit_zero bs = rw h.0 at count in
    omega arith

run_stops : (before : ℕ) (rest : List ℕ) (i : ℕ) → i < length rest → goes before (get_or rest i 0) ≡ false
    → run before (drop i rest) ≡ 0
run_stops before rest i less stops = at_drop_more (run before) rest i 0 less ∙ rw stops refl

-- a run ends where a byte doesn't go on
pub count_stops : (before : ℕ) (rest : List ℕ) (i start : ℕ) → i < length rest → goes before (get_or rest i 0) ≡ false
    → i + run before (drop i rest) ≡ start + run digit_zero (drop start rest)
    → i ≡ start + run digit_zero (drop start rest)
count_stops before rest i start less stops count = omega (arith, run_stops before rest i less stops)

-- and where the bytes end
pub count_ends : (before : ℕ) (rest : List ℕ) (i start : ℕ) → i ≡ length rest → i + run before (drop i rest)
    ≡ start + run digit_zero (drop start rest) → length rest ≡ start + run digit_zero (drop start rest)
count_ends before rest i start end count = omega (arith, at_drop_all (run before) rest i (omega arith))

pub start_fits : (rest : List ℕ) (start : ℕ) → IsNumberStart rest start → start ≤ length rest
start_fits rest start (inl h) = omega (arith, h.0, h.1)
start_fits rest start (inr h) = omega (arith, h.0, h.1)

-- ---- the value of a constant

-- what digits spell is no less than what the first of them do
pub value_grows : (base v : ℕ) (ds : List ℕ) (i : ℕ) → 0 < base → i < length ds → v * base + digit_worth (get_or ds i 0)
    ≤ number_after base v (drop i ds)
value_grows base v ds i some less =
    rw (at_drop_more (number_after base v) ds i 0 less)
    (after_grows base (v * base + digit_worth (get_or ds i 0)) (drop (i + 1) ds) some)

-- ---- integer constants as pieces

-- the longest number that begins the rest is one text
same_longest : (rest : List ℕ) (n k : ℕ) → n ≤ length rest → IsNumberText (take n rest)
    → ((m : ℕ) → n < m → m ≤ length rest → IsNumberText (take m rest) → ⊥)
    → IsNumberText (take k rest) → ((m : ℕ) → k < m → m ≤ length rest → IsNumberText (take m rest) → ⊥)
    → take k rest ≡ take n rest
same_longest rest n k within text longest other others =
    let j : ℕ = min k (length rest) in
    let same : take j rest ≡ take k rest = take_min k rest in
    elim (cases_lt n j) [
      | inl above ↦ absurd (longest j above (omega arith) (subst IsNumberText (sym same) other))
      | inr low ↦ elim (cases_lt j n) [
        | inl below ↦ absurd (others n (omega arith) within text)
        | inr high ↦ let e : j ≡ n = omega arith in sym same ∙ ap (λ (i : ℕ). take i rest) e
      ]
    ]

-- where the longest number is no constant, nothing begins
pub number_begins_none : (fresh : Bool) (rest : List ℕ) (n : ℕ) → StartsNumber rest → n ≤ length rest
    → IsNumberText (take n rest) → ((m : ℕ) → n < m → m ≤ length rest → IsNumberText (take m rest) → ⊥)
    → ((value : ℕ) → IsConstant (take n rest) value → ⊥) → NoneBegins fresh rest
number_begins_none fresh rest n starts_so within text longest none k piece begins =
    begins.free (inr (inr (inr (
      starts_so,
      λ m value other others constant.
          none value
          (subst (λ (bs : List ℕ). IsConstant bs value) (same_longest rest n m within text longest other others)
          constant),
    ))))

-- a piece that begins with a digit is a number
digit_piece : (fresh : Bool) (b : ℕ) (others : List ℕ) (m : ℕ) (other : Piece) → IsTrue (is_digit b)
    → IsPiece fresh (b ∷ others) (suc m) other → IsNumberText (take (suc m) (b ∷ others))
digit_piece fresh b others m Space digit is = let first = piece_starts fresh b others m Space is in
    absurd (grind (arith, nat_tests))
digit_piece fresh b others m Comment digit is = let first = piece_starts fresh b others m Comment is in
    absurd (grind (arith, nat_tests))
digit_piece fresh b others m Skipped digit is = let first = piece_starts fresh b others m Skipped is in
    absurd (grind (arith, nat_tests))
digit_piece fresh b others m (Spelled (kinds.Word word)) digit is = let first =
    piece_starts fresh b others m (Spelled (kinds.Word word)) is in absurd (grind (arith, nat_tests))
digit_piece fresh b others m (Spelled (kinds.Ident name)) digit is = let first =
    piece_starts fresh b others m (Spelled (kinds.Ident name)) is in absurd (grind (arith, nat_tests))
digit_piece fresh b others m (Spelled (kinds.Number z u)) digit (s, inl h) = h.0
digit_piece fresh b others m (Spelled (kinds.Number z u)) digit (s, inr (value, (inside, e, has), is)) =
    let quote : IsTrue (b == apostrophe) =
    same_first (λ x. x == apostrophe) b (take m others) (apostrophe ∷ inside ++ apostrophe ∷ []) e refl in
    absurd (grind (arith, nat_tests))
digit_piece fresh b others m (Spelled (kinds.Text bytes)) digit is = let first =
    piece_starts fresh b others m (Spelled (kinds.Text bytes)) is in absurd (grind (arith, nat_tests))
digit_piece fresh b others m (Spelled (kinds.Mark mark)) digit is = let first =
    piece_starts fresh b others m (Spelled (kinds.Mark mark)) is in absurd (grind (arith, nat_tests))

-- a constant begins with a digit
constant_digit : (b : ℕ) (bs : List ℕ) (value : ℕ) → IsConstant (b ∷ bs) value → IsTrue (is_digit b)
constant_digit b bs value (inl (d, ds, e, digit, apart, passes, is), low) = same_first is_digit b bs (d ∷ ds) e digit
constant_digit b bs value (inr (inl (ds, e, passes, is)), low) = same_first is_digit b bs (digit_zero ∷ ds) e refl
constant_digit b bs value (inr (inr (x, ds, e, letter, some, passes, is)), low) =
    same_first is_digit b bs (digit_zero ∷ x ∷ ds) e refl

-- only a number that is no constant bars a piece that begins with a digit
digit_free : (b : ℕ) (others : List ℕ) (n value : ℕ) → IsTrue (is_digit b) → IsNumberText (take n (b ∷ others))
    → ((m : ℕ) → n < m → m ≤ length (b ∷ others) → IsNumberText (take m (b ∷ others)) → ⊥)
    → IsConstant (take n (b ∷ others)) value → IsBarred (b ∷ others) → ⊥
digit_free b others n value digit text longest constant (inl (body, e, open_)) = let first : IsTrue (b == slash) =
    same_first (λ x. x == slash) b others (slash ∷ star ∷ body) e refl in grind (arith, nat_tests)
digit_free b others n value digit text longest constant (inr (inl (rest, e))) = let first : IsTrue (b == percent) =
    same_first (λ x. x == percent) b others (percent ∷ colon ∷ rest) e refl in grind (arith, nat_tests)
digit_free b others n value digit text longest constant (inr (inr (inl (quote, rest, e, h)))) =
    let first : IsTrue (b == capital_l) = same_first (λ x. x == capital_l) b others (capital_l ∷ quote ∷ rest) e refl in
    grind (arith, nat_tests)
digit_free b others n value digit text longest constant (inr (inr (inr (starts_so, none)))) =
    none n value text longest constant

digit_longest : (fresh : Bool) (b : ℕ) (others : List ℕ) (n : ℕ) → IsTrue (is_digit b)
    → ((m : ℕ) → n < m → m ≤ length (b ∷ others) → IsNumberText (take m (b ∷ others)) → ⊥)
    → (m : ℕ) (other : Piece) → n < m → m ≤ length (b ∷ others) → IsPiece fresh (b ∷ others) m other → ⊥
digit_longest fresh b others n digit longest zero other less within is = omega arith
digit_longest fresh b others n digit longest (suc m) other less within is =
    longest (suc m) less within (digit_piece fresh b others m other digit is)

-- the longest number, where it is a constant, is the piece
pub number_begins : (fresh : Bool) (rest : List ℕ) (n value : ℕ) → n ≤ length rest → IsNumberText (take n rest)
    → ((m : ℕ) → n < m → m ≤ length rest → IsNumberText (take m rest) → ⊥)
    → IsConstant (take n rest) value → Begins fresh rest n (Spelled (kinds.Number (pos value) false))
number_begins fresh rest zero value within text longest constant = absurd text
number_begins fresh [] (suc n) value within text longest constant = absurd (omega arith)
number_begins fresh (b ∷ others) (suc n) value within text longest constant =
    let digit = constant_digit b (take n others) value constant in
    record {
      within = within;
      nonempty = omega arith;
      is = (refl, inl (text, longest, (value, constant, refl)));
      longest = digit_longest fresh b others (suc n) digit longest;
      free = digit_free b others (suc n) value digit text longest constant;
    }

-- ---- hexadecimal constants

hexadecimal_to : (text : List ℕ) → 2 < length text → get_or text 0 0 ≡ digit_zero
    → ((get_or text 1 0 ≡ letter_x) ⊎ (get_or text 1 0 ≡ capital_x)) → AllPass is_hexadecimal_digit (drop 2 text)
    → ConstantValue text (number_in 16 (drop 2 text))
hexadecimal_to [] long zero_first letter passes = absurd (omega arith)
hexadecimal_to (a ∷ []) long zero_first letter passes = absurd (omega arith)
hexadecimal_to (a ∷ x ∷ ds) long zero_first letter passes =
    inr (inr (x, ds, ap (λ (b : ℕ). b ∷ x ∷ ds) zero_first, letter, omega arith, passes, refl))

letter_apart : (x : ℕ) → ((x ≡ letter_x) ⊎ (x ≡ capital_x)) → IsTrue (is_octal_digit x) → ⊥
letter_apart x (inl e) h = false≢true (subst (λ (b : ℕ). IsTrue (is_octal_digit b)) e h)
letter_apart x (inr e) h = false≢true (subst (λ (b : ℕ). IsTrue (is_octal_digit b)) e h)

hexadecimal_from : (text : List ℕ) → 2 < length text → get_or text 0 0 ≡ digit_zero
    → ((get_or text 1 0 ≡ letter_x) ⊎ (get_or text 1 0 ≡ capital_x)) → (value : ℕ) → ConstantValue text value
    → AllPass is_hexadecimal_digit (drop 2 text) × (value ≡ number_in 16 (drop 2 text))
hexadecimal_from [] long zero_first letter value h = absurd (omega arith)
hexadecimal_from (a ∷ []) long zero_first letter value h = absurd (omega arith)
hexadecimal_from (a ∷ x ∷ rest) long zero_first letter value (inl (d, ds, e, digit, apart, passes, is)) =
    let same : d ≡ digit_zero = cc in absurd (apart same)
hexadecimal_from (a ∷ x ∷ rest) long zero_first letter value (inr (inl (ds, e, passes, is))) =
    let same : ds ≡ x ∷ rest = cc in
    let octal : AllPass is_octal_digit (x ∷ rest) = subst (λ (bs : List ℕ). AllPass is_octal_digit bs) same passes in
    absurd (letter_apart x letter octal.0)
hexadecimal_from (a ∷ x ∷ rest) long zero_first letter value (inr (inr (y, ds, e, other, some, passes, is))) =
    let same : ds ≡ rest = cc in (
      subst (λ (bs : List ℕ). AllPass is_hexadecimal_digit bs) same passes,
      is ∙ ap (λ (bs : List ℕ). number_in 16 bs) same,
    )

-- what hexadecimal digits behind `0x` say of the constant
pub hexadecimal_result : (r : Option ℤ) (text : List ℕ) → 2 < length text → get_or text 0 0 ≡ digit_zero
    → ((get_or text 1 0 ≡ letter_x) ⊎ (get_or text 1 0 ≡ capital_x))
    → MatchOption r (AllPass is_hexadecimal_digit (drop 2 text) → number_in 16 (drop 2 text) ≤ 0x7fffffff → ⊥)
    (λ z. AllPass is_hexadecimal_digit (drop 2 text) × (number_in 16 (drop 2 text) ≤ 0x7fffffff)
    × (z ≡ pos (number_in 16 (drop 2 text))))
    → MatchOption r ((value : ℕ) → IsConstant text value → ⊥) (λ z. (value : ℕ) × IsConstant text value
    × (z ≡ pos value))
hexadecimal_result None text long zero_first letter none = λ value constant.
    let digits = hexadecimal_from text long zero_first letter value constant.0 in
    none digits.0 (omega (arith, digits.1, constant.1))
hexadecimal_result (Some z) text long zero_first letter found =
    (number_in 16 (drop 2 text), (hexadecimal_to text long zero_first letter found.0, found.1), found.2)

-- a constant of the language is its own 32 bits, read as signed
pub signed_same : (z : ℤ) (n : ℕ) → n ≤ 0x7fffffff → z ≡ pos n → to_z w32 (of_z w32 z) ≡ pos n
signed_same z n low e = rw e (to_z_pos w32 n (omega arith))

-- A constant has one value, and so has each character of a literal.
use Rattle.std.proofs.Common.{◌≡◌, ◌≢◌, ◌⊎◌, ◌≤◌, ◌<◌, ℕ, zero, suc, ℤ, Bool, true, false, List, [], ◌∷◌, ◌++◌, length}
use Rattle.std.proofs.Common.{◌||◌, ◌==◌, cond, inl, inr, refl, sym, ap, ap₂, subst, ◌∙◌, IsTrue, arith, ne_eqb}
use Rattle.std.proofs.Common.{length-append}
use Rattle.std.proofs.lemmas.List.{append_cancel_right}
use Rattle.std.proofs.lemmas.Bool.Decides.{nat_tests}
use Rattle.byteorder.specs.Endian.{twos_complement}
use Rattle.pcc_base.specs.Ascii.{bell, backspace, tab, newline, vertical_tab, form_feed, carriage_return, double_quote}
use Rattle.pcc_base.specs.Ascii.{apostrophe, digit_zero, question_mark, capital_x, backslash, letter_a, letter_b}
use Rattle.pcc_base.specs.Ascii.{letter_f, letter_n, letter_r, letter_t, letter_v, letter_x}
use Rattle.c_lex.specs.Bytes.{is_digit, is_octal_digit, is_hexadecimal_digit, number_in}
use Rattle.c_lex.specs.Literals.{AllPass, StartsNot, ConstantValue, EscapeIn, simple_escapes, IsCharacter, HasValues}
use Rattle.c_lex.specs.Literals.{IsLiteral, IsCharacterConstant}

-- ---- constants

-- the value of what stands behind a constant's first zero
abbrev pub value_behind_zero : List ℕ → ℕ
value_behind_zero [] = 0
value_behind_zero (x ∷ ds) = cond (x == letter_x || x == capital_x) (number_in 16 ds) (number_in 8 (x ∷ ds))

-- the value of a constant with these bytes
abbrev pub constant_value : List ℕ → ℕ
constant_value [] = 0
constant_value (b ∷ ds) = cond (b == digit_zero) (value_behind_zero ds) (number_in 10 (b ∷ ds))

-- an octal constant has it
octal_value : (ds : List ℕ) → AllPass is_octal_digit ds → value_behind_zero ds ≡ number_in 8 ds
octal_value [] all = refl
octal_value (x ∷ ds) all =
    let digit : is_octal_digit x ≡ true = all.0 in
    let other : (x == letter_x || x == capital_x) ≡ false = grind (arith, nat_tests) in
    rw other refl

-- a hexadecimal constant has it
hexadecimal_value : (x : ℕ) (ds : List ℕ) → (x ≡ letter_x) ⊎ (x ≡ capital_x)
    → value_behind_zero (x ∷ ds) ≡ number_in 16 ds
hexadecimal_value x ds (inl e) = rw e refl
hexadecimal_value x ds (inr e) = rw e refl

-- a decimal constant has it
decimal_value : (d : ℕ) (ds : List ℕ) → d ≢ digit_zero → constant_value (d ∷ ds) ≡ number_in 10 (d ∷ ds)
decimal_value d ds other = rw (ne_eqb d digit_zero other) refl

-- and so has any constant
pub constant_is : (bytes : List ℕ) (value : ℕ) → ConstantValue bytes value → value ≡ constant_value bytes
constant_is bytes value (inl (d, ds, e, digit, other, all, is)) =
    is ∙ ap (number_in 10) e ∙ sym (decimal_value d ds other) ∙ sym (ap constant_value e)
constant_is bytes value (inr (inl (ds, e, all, is))) = is ∙ sym (octal_value ds all) ∙ sym (ap constant_value e)
constant_is bytes value (inr (inr (x, ds, e, letter, some, all, is))) =
    is ∙ sym (hexadecimal_value x ds letter) ∙ sym (ap constant_value e)

-- a constant has one value
pub one_constant : (bytes : List ℕ) (v w : ℕ) → ConstantValue bytes v → ConstantValue bytes w → v ≡ w
one_constant bytes v w p q = constant_is bytes v p ∙ sym (constant_is bytes w q)

-- a constant begins with a digit
pub constant_digit : (bytes : List ℕ) (value : ℕ) → ConstantValue bytes value → (d : ℕ) × (ds : List ℕ)
    × (bytes ≡ d ∷ ds) × IsTrue (is_digit d)
constant_digit bytes value (inl (d, ds, e, digit, other, all, is)) = (d, ds, e, digit)
constant_digit bytes value (inr (inl (ds, e, all, is))) = (digit_zero, ds, e, refl)
constant_digit bytes value (inr (inr (x, ds, e, letter, some, all, is))) = (digit_zero, x ∷ ds, e, refl)

-- ---- runs of digits

-- the bytes from the front on that pass the test, k at most
abbrev pub front : (ℕ → Bool) → ℕ → List ℕ → List ℕ
front test zero xs = []
front test (suc k) [] = []
front test (suc k) (x ∷ xs) = cond (test x) (x ∷ front test k xs) []

-- what stands behind them
abbrev pub back : (ℕ → Bool) → ℕ → List ℕ → List ℕ
back test zero xs = xs
back test (suc k) [] = []
back test (suc k) (x ∷ xs) = cond (test x) (back test k xs) (x ∷ xs)

-- a run that is as long as it may be is the front
pub run_is : (test : ℕ → Bool) (k : ℕ) (ds rest : List ℕ) → AllPass test ds → length ds ≤ k → (length ds ≡ k)
    ⊎ StartsNot test rest → (front test k (ds ++ rest) ≡ ds) × (back test k (ds ++ rest) ≡ rest)
run_is test zero [] rest all le stop = (refl, refl)
run_is test zero (d ∷ ds) rest all le stop = absurd (omega arith)
run_is test (suc k) [] [] all le stop = (refl, refl)
run_is test (suc k) [] (r ∷ rest) all le (inl e) = absurd (omega arith)
run_is test (suc k) [] (r ∷ rest) all le (inr not_more) = (rw not_more refl, rw not_more refl)
run_is test (suc k) (d ∷ ds) rest all le (inl e) =
    let more = run_is test k ds rest all.1 (omega arith) (inl (omega arith)) in
    (rw all.0 (ap (λ (l : List ℕ). d ∷ l) more.0), rw all.0 more.1)
run_is test (suc k) (d ∷ ds) rest all le (inr not_more) =
    let more = run_is test k ds rest all.1 (omega arith) (inr not_more) in
    (rw all.0 (ap (λ (l : List ℕ). d ∷ l) more.0), rw all.0 more.1)

-- ---- characters

-- what a letter behind a backslash is worth
abbrev pub escape_in : List (ℕ × ℕ) → ℕ → ℕ
escape_in [] letter = 0
escape_in (e ∷ es) letter = cond (letter == e.0) e.1 (escape_in es letter)

-- the value and the rest of an escape behind its backslash
abbrev pub escape : List ℕ → ℕ × List ℕ
escape [] = (0, [])
escape (c ∷ others) =
    cond (is_octal_digit c) (number_in 8 (front is_octal_digit 3 (c ∷ others)), back is_octal_digit 3 (c ∷ others))
    (cond (c == letter_x) (
      number_in 16 (front is_hexadecimal_digit (length others) others),
      back is_hexadecimal_digit (length others) others,
    )
    (escape_in simple_escapes c, others))

-- the value of the character that begins the bytes, and the rest
abbrev pub character : List ℕ → ℕ × List ℕ
character [] = (0, [])
character (b ∷ others) = cond (b == backslash) (escape others) (b, others)

-- an escape of one letter
escape_letter : (letter value l v : ℕ) (rest : List ℕ) → letter ≡ l → value ≡ v → escape (l ∷ rest) ≡ (v, rest)
    → escape (letter ∷ rest) ≡ (value, rest)
escape_letter letter value l v rest p q e = ap (λ (x : ℕ). escape (x ∷ rest)) p ∙ e ∙ ap (λ (x : ℕ). (x, rest)) (sym q)

-- each of them
escape_simple : (letter value : ℕ) (rest : List ℕ) → EscapeIn simple_escapes letter value → escape (letter ∷ rest)
    ≡ (value, rest)
escape_simple letter value rest (inl h) = escape_letter letter value apostrophe apostrophe rest h.0 h.1 refl
escape_simple letter value rest (inr (inl h)) = escape_letter letter value double_quote double_quote rest h.0 h.1 refl
escape_simple letter value rest (inr (inr (inl h))) =
    escape_letter letter value question_mark question_mark rest h.0 h.1 refl
escape_simple letter value rest (inr (inr (inr (inl h)))) =
    escape_letter letter value backslash backslash rest h.0 h.1 refl
escape_simple letter value rest (inr (inr (inr (inr (inl h))))) =
    escape_letter letter value letter_a bell rest h.0 h.1 refl
escape_simple letter value rest (inr (inr (inr (inr (inr (inl h)))))) =
    escape_letter letter value letter_b backspace rest h.0 h.1 refl
escape_simple letter value rest (inr (inr (inr (inr (inr (inr (inl h))))))) =
    escape_letter letter value letter_f form_feed rest h.0 h.1 refl
escape_simple letter value rest (inr (inr (inr (inr (inr (inr (inr (inl h)))))))) =
    escape_letter letter value letter_n newline rest h.0 h.1 refl
escape_simple letter value rest (inr (inr (inr (inr (inr (inr (inr (inr (inl h))))))))) =
    escape_letter letter value letter_r carriage_return rest h.0 h.1 refl
escape_simple letter value rest (inr (inr (inr (inr (inr (inr (inr (inr (inr (inl h)))))))))) =
    escape_letter letter value letter_t tab rest h.0 h.1 refl
escape_simple letter value rest (inr (inr (inr (inr (inr (inr (inr (inr (inr (inr (inl h))))))))))) =
    escape_letter letter value letter_v vertical_tab rest h.0 h.1 refl
escape_simple letter value rest (inr (inr (inr (inr (inr (inr (inr (inr (inr (inr (inr h))))))))))) = absurd h

-- an octal escape
escape_octal : (ds rest : List ℕ) → 0 < length ds → length ds ≤ 3 → AllPass is_octal_digit ds → (length ds ≡ 3)
    ⊎ StartsNot is_octal_digit rest → escape (ds ++ rest) ≡ (number_in 8 ds, rest)
escape_octal [] rest some few all stop = absurd (omega arith)
escape_octal (d ∷ ds) rest some few all stop =
    let run = run_is is_octal_digit 3 (d ∷ ds) rest all few stop in
    let digit : is_octal_digit d ≡ true = all.0 in
    let is : escape (d ∷ (ds ++ rest))
    ≡ (number_in 8 (front is_octal_digit 3 (d ∷ (ds ++ rest))), back is_octal_digit 3 (d ∷ (ds ++ rest))) =
    rw digit refl in
    is ∙ ap₂ (λ (x r : List ℕ). (number_in 8 x, r)) run.0 run.1

-- a hexadecimal escape
escape_hexadecimal : (ds rest : List ℕ) → AllPass is_hexadecimal_digit ds → StartsNot is_hexadecimal_digit rest
    → escape (letter_x ∷ ds ++ rest) ≡ (number_in 16 ds, rest)
escape_hexadecimal ds rest all stop =
    let run =
    run_is is_hexadecimal_digit (length (ds ++ rest)) ds rest all (omega (arith, length-append ds rest)) (inr stop)
    in
    ap₂ (λ (x r : List ℕ). (number_in 16 x, r)) run.0 run.1

-- what a character's bytes begin has its value and rest
pub character_is : (quote : ℕ) (bytes rest : List ℕ) (value : ℕ) → IsCharacter quote bytes rest value
    → character (bytes ++ rest) ≡ (value, rest)
character_is quote bytes rest value (inl (e, unlike, plain, line)) =
    let is : character (value ∷ rest) ≡ (value, rest) = rw (ne_eqb value backslash plain) refl in
    ap (λ (l : List ℕ). character (l ++ rest)) e ∙ is
character_is quote bytes rest value (inr (inl (letter, e, known))) =
    ap (λ (l : List ℕ). character (l ++ rest)) e ∙ escape_simple letter value rest known
character_is quote bytes rest value (inr (inr (inl (ds, e, some, few, all, stop, is)))) =
    ap (λ (l : List ℕ). character (l ++ rest)) e ∙ escape_octal ds rest some few all stop ∙ ap (λ (x : ℕ). (x, rest))
    (sym is)
character_is quote bytes rest value (inr (inr (inr (ds, e, some, all, stop, is)))) =
    ap (λ (l : List ℕ). character (l ++ rest)) e ∙ escape_hexadecimal ds rest all stop ∙ ap (λ (x : ℕ). (x, rest))
    (sym is)

-- a character has a byte
pub character_some : (quote : ℕ) (bytes rest : List ℕ) (value : ℕ) → IsCharacter quote bytes rest value
    → 0 < length bytes
character_some quote bytes rest value (inl h) = omega (arith, ap length h.0)
character_some quote bytes rest value (inr (inl h)) = omega (arith, ap length h.1)
character_some quote bytes rest value (inr (inr (inl h))) = omega (arith, ap length h.1)
character_some quote bytes rest value (inr (inr (inr h))) = omega (arith, ap length h.1)

-- ---- literals

-- the inside of a literal has one list of values
pub one_inside : (quote : ℕ) (inside : List ℕ) (vs ws : List ℕ) → HasValues quote inside vs → HasValues quote inside ws
    → vs ≡ ws
one_inside quote inside [] [] p q = refl
one_inside quote inside [] (w ∷ ws) p q =
    let some = character_some quote q.0 q.1 w q.3 in
    absurd (omega (arith, ap length p, ap length q.2, length-append q.0 q.1))
one_inside quote inside (v ∷ vs) [] p q =
    let some = character_some quote p.0 p.1 v p.3 in
    absurd (omega (arith, ap length q, ap length p.2, length-append p.0 p.1))
one_inside quote inside (v ∷ vs) (w ∷ ws) p q =
    let first = character_is quote p.0 p.1 v p.3 in
    let second = character_is quote q.0 q.1 w q.3 in
    let both : (v, p.1) ≡ (w, q.1) = sym first ∙ ap character (sym p.2 ∙ q.2) ∙ second in
    let more =
    one_inside quote p.1 vs ws p.5
    (subst (λ (r : List ℕ). HasValues quote r ws) (ap (λ (x : ℕ × List ℕ). x.1) (sym both)) q.5) in
    ap₂ (λ (x : ℕ) (xs : List ℕ). x ∷ xs) (ap (λ (x : ℕ × List ℕ). x.0) both) more

-- a literal has one list of values
pub one_literal : (quote : ℕ) (bytes vs ws : List ℕ) → IsLiteral quote bytes vs → IsLiteral quote bytes ws → vs ≡ ws
one_literal quote bytes vs ws p q =
    let both : quote ∷ p.0 ++ quote ∷ [] ≡ quote ∷ q.0 ++ quote ∷ [] = sym p.1 ∙ q.1 in
    let behind : p.0 ++ quote ∷ [] ≡ q.0 ++ quote ∷ [] = cc in
    let inside : q.0 ≡ p.0 = append_cancel_right q.0 p.0 (quote ∷ []) (sym behind) in
    one_inside quote p.0 vs ws p.2 (subst (λ (i : List ℕ). HasValues quote i ws) inside q.2)

-- a character constant has one value
pub one_character : (bytes : List ℕ) (x y : ℤ) → IsCharacterConstant bytes x → IsCharacterConstant bytes y → x ≡ y
one_character bytes x y p q =
    let values : p.0 ∷ [] ≡ q.0 ∷ [] = one_literal apostrophe bytes (p.0 ∷ []) (q.0 ∷ []) p.1 q.1 in
    let value : p.0 ≡ q.0 = cc in
    p.2 ∙ ap (twos_complement 1) value ∙ sym q.2

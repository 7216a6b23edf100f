-- A literal is read in one way: reading one character after the other finds its values, and no others.
use Rattle.std.proofs.Common.{◌≡◌, ◌≢◌, ◌≤◌, ◌<◌, ◌⊎◌, inl, inr, ℕ, zero, suc, ◌-◌, ◌+◌, Bool, true, false, cond, eqb}
use Rattle.std.proofs.Common.{leb, List, [], ◌∷◌, ◌++◌, length, take, drop, Option, Some, None, refl, sym, ◌∙◌, ap}
use Rattle.std.proofs.Common.{subst, arith, append_assoc, length-append}
use Rattle.std.specs.Prelude.{⊤}
use Rattle.std.specs.List.{AllByRecursion}
use Rattle.std.proofs.lemmas.List.{take-append-drop, drop_all, drop_at, length-take}
use Rattle.std.proofs.lemmas.Bool.{cases_lt, cases_Bool, cond_both, cond-true, eqb-true, eqb-false, ne_eqb, eq-eqb}
use Rattle.std.proofs.lemmas.Bool.{le-leb}
use Rattle.std.proofs.Math.Seq.{take-append-add}
use Rattle.pcc_base.specs.Ascii.{newline, double_quote, apostrophe, backslash, letter_x}
use Rattle.c_lex.specs.declared.quotes.Reading.{Reading}
use Rattle.c_lex.specs.declared.quotes.Reading.TheVariants.{Character, Closing, Faulty}
use Rattle.c_lex.specs.Bytes.{is_octal_digit, is_hexadecimal_digit, number_in}
use Rattle.c_lex.specs.Literals.{AllPass, StartsNot, simple_escapes, EscapeIn, IsCharacter, HasValues}
use Rattle.c_lex.specs.Characters.{front_of, value_in, simple_reading, coded_reading, read_escape, read_character}
use Rattle.c_lex.specs.Characters.{ReadsFront}
use Rattle.c_lex.proofs.DigitFronts.{FrontSplit, front_split, front_is}

-- ---- what is read is there

-- the reading is what stands at the front of the text
abbrev pub IsReading : ℕ → List ℕ → Reading → Type 0
IsReading q t (Character v n) = (bytes rest : List ℕ) × (t ≡ bytes ++ rest) × (length bytes ≡ n)
    × IsCharacter q bytes rest v
IsReading q t Closing = (rest : List ℕ) × (t ≡ q ∷ rest)
IsReading q t Faulty = ⊤

-- an escape by number is read where its digits stand
coded_is : (q : ℕ) (t : List ℕ) (base start : ℕ) (ds : List ℕ)
    → (0 < length ds → IsReading q t (Character (number_in base ds) (start + length ds)))
    → IsReading q t (coded_reading base start ds)
coded_is q t base start ds h =
    cond_both (eqb (length ds) 0) Faulty
    (cond (leb (number_in base ds) 255) (Character (number_in base ds) (start + length ds)) Faulty) (IsReading q t)
    (λ _. tt)
    (λ e. cond_both (leb (number_in base ds) 255) (Character (number_in base ds) (start + length ds)) Faulty
    (IsReading q t)
    (λ _. let differs : length ds ≢ 0 = eqb-false (length ds) 0 e in h (omega arith))
    (λ _. tt))

-- three octal digits, or no octal digit behind them
octal_stops : (ds rest xs : List ℕ) → take 3 xs ≡ ds ++ rest → StartsNot is_octal_digit rest → (length ds ≡ 3)
    ⊎ StartsNot is_octal_digit (rest ++ drop 3 xs)
octal_stops ds [] xs e s =
    elim (cases_lt (length xs) 3) [
      | inl short ↦
          let none : drop 3 xs ≡ [] = drop_all 3 xs (omega arith) in
          inr (subst (λ (r : List ℕ). StartsNot is_octal_digit r) (sym none) tt)
      | inr long ↦
          let lengths : length (take 3 xs) ≡ length (ds ++ []) = ap length e in
          inl (omega (arith, lengths, length-take 3 xs, length-append ds []))
    ]
octal_stops ds (b ∷ bs) xs e s = inr s

-- an octal escape that is read stands there
octal_is : (q : ℕ) (xs : List ℕ)
    → IsReading q (backslash ∷ xs) (coded_reading 8 1 (front_of is_octal_digit (take 3 xs)))
octal_is q xs =
    let ds : List ℕ = front_of is_octal_digit (take 3 xs) in
    let s : FrontSplit is_octal_digit (take 3 xs) ds = front_split is_octal_digit (take 3 xs) in
    let whole : xs ≡ ds ++ (s.rest ++ drop 3 xs) =
    sym (take-append-drop 3 xs) ∙ ap (λ t. t ++ drop 3 xs) s.is ∙ append_assoc ds s.rest (drop 3 xs) in
    let lengths : length (take 3 xs) ≡ length (ds ++ s.rest) = ap length s.is in
    let few : length ds ≤ 3 = omega (arith, lengths, length-take 3 xs, length-append ds s.rest) in
    coded_is q (backslash ∷ xs) 8 1 ds (λ some. (
      backslash ∷ ds,
      s.rest ++ drop 3 xs,
      ap (λ t. backslash ∷ t) whole,
      omega arith,
      inr (inr (inl (ds, refl, some, few, s.passes, octal_stops ds s.rest xs s.is s.stops, refl))),
    ))

-- a hexadecimal escape that is read stands there
hexadecimal_is : (q : ℕ) (xs : List ℕ)
    → IsReading q (backslash ∷ letter_x ∷ xs) (coded_reading 16 2 (front_of is_hexadecimal_digit xs))
hexadecimal_is q xs =
    let ds : List ℕ = front_of is_hexadecimal_digit xs in
    let s : FrontSplit is_hexadecimal_digit xs ds = front_split is_hexadecimal_digit xs in
    coded_is q (backslash ∷ letter_x ∷ xs) 16 2 ds (λ some. (
      backslash ∷ letter_x ∷ ds,
      s.rest,
      ap (λ t. backslash ∷ letter_x ∷ t) s.is,
      omega arith,
      inr (inr (inr (ds, refl, some, s.passes, s.stops, refl))),
    ))

-- what the table has for a letter is one of its escapes
escape_found : (table : List (ℕ × ℕ)) (letter value : ℕ) → value_in table letter ≡ Some value
    → EscapeIn table letter value
escape_found [] letter value h = cc
escape_found (e ∷ es) letter value h =
    elim (cases_Bool (eqb letter e.0)) [
      | inl t ↦
          let found : Some e.1 ≡ Some value = rw t at h in
          let same : e.1 ≡ value = cc in
          inl (eqb-true letter e.0 t, sym same)
      | inr f ↦
          let later : value_in es letter ≡ Some value = rw f at h in
          inr (escape_found es letter value later)
    ]

-- an escape of one letter that is read stands there
simple_is : (q e : ℕ) (rest : List ℕ) (found : Option ℕ) → value_in simple_escapes e ≡ found
    → IsReading q (backslash ∷ e ∷ rest) (simple_reading found)
simple_is q e rest None h = tt
simple_is q e rest (Some value) h =
    (backslash ∷ e ∷ [], rest, refl, refl, inr (inl (e, refl, escape_found simple_escapes e value h)))

-- an escape that is read stands there
escape_is : (q : ℕ) (xs : List ℕ) → IsReading q (backslash ∷ xs) (read_escape xs)
escape_is q [] = tt
escape_is q (e ∷ rest) =
    let octal : Reading = coded_reading 8 1 (front_of is_octal_digit (take 3 (e ∷ rest))) in
    let hexadecimal : Reading = coded_reading 16 2 (front_of is_hexadecimal_digit rest) in
    let simple : Reading = simple_reading (value_in simple_escapes e) in
    cond_both (is_octal_digit e) octal (cond (eqb e letter_x) hexadecimal simple) (IsReading q (backslash ∷ e ∷ rest))
    (λ _. octal_is q (e ∷ rest))
    (λ _. cond_both (eqb e letter_x) hexadecimal simple (IsReading q (backslash ∷ e ∷ rest))
    (λ t. subst (λ (x : ℕ). IsReading q (backslash ∷ x ∷ rest) hexadecimal) (sym (eqb-true e letter_x t))
    (hexadecimal_is q rest))
    (λ _. simple_is q e rest (value_in simple_escapes e) refl))

-- the reader tells what stands there
pub character_is : (q : ℕ) (t : List ℕ) → IsReading q t (read_character q t)
character_is q [] = tt
character_is q (b ∷ rest) =
    let plain : Reading = cond (eqb b backslash) (read_escape rest) (Character b 1) in
    cond_both (eqb b q) Closing (cond (eqb b newline) Faulty plain) (IsReading q (b ∷ rest))
    (λ t. (rest, ap (λ (x : ℕ). x ∷ rest) (eqb-true b q t)))
    (λ no_quote. cond_both (eqb b newline) Faulty plain (IsReading q (b ∷ rest))
    (λ _. tt)
    (λ no_newline. cond_both (eqb b backslash) (read_escape rest) (Character b 1) (IsReading q (b ∷ rest))
    (λ t. subst (λ (x : ℕ). IsReading q (x ∷ rest) (read_escape rest)) (sym (eqb-true b backslash t))
    (escape_is q rest))
    (λ no_backslash. (
      b ∷ [],
      rest,
      refl,
      refl,
      inl (refl, eqb-false b q no_quote, eqb-false b backslash no_backslash, eqb-false b newline no_newline),
    ))))

-- ---- what is there is read

-- what holds of each escape of a table holds of the one of a letter
escape_each : (table : List (ℕ × ℕ)) (P : ℕ → ℕ → Type 0) (letter value : ℕ)
    → AllByRecursion (λ (e : ℕ × ℕ). P e.0 e.1) table → EscapeIn table letter value → P letter value
escape_each [] P letter value all h = absurd h
escape_each (e ∷ es) P letter value all (inl same) =
    subst (λ (v : ℕ). P letter v) (sym same.1) (subst (λ (l : ℕ). P l e.1) (sym same.0) all.0)
escape_each (e ∷ es) P letter value all (inr later) = escape_each es P letter value all.1 later

-- an escape of one letter is read
simple_read : (letter value : ℕ) (tail : List ℕ) → EscapeIn simple_escapes letter value → read_escape (letter ∷ tail)
    ≡ Character value 2
simple_read letter value tail h =
    escape_each simple_escapes (λ (l v : ℕ). read_escape (l ∷ tail) ≡ Character v 2) letter value
    (refl, (refl, (refl, (refl, (refl, (refl, (refl, (refl, (refl, (refl, (refl, tt))))))))))) h

-- some digits whose number is at most 255 give a character
coded_read : (base start : ℕ) (ds : List ℕ) → 0 < length ds → number_in base ds ≤ 255 → coded_reading base start ds
    ≡ Character (number_in base ds) (start + length ds)
coded_read base start ds some small =
    let counted : eqb (length ds) 0 ≡ false = ne_eqb (length ds) 0 (λ e. omega arith) in
    let fits : leb (number_in base ds) 255 ≡ true = le-leb (number_in base ds) 255 small in
    rw (counted, fits) refl

-- no byte is taken, or what doesn't begin so is cut
stops_taken : (n : ℕ) (tail : List ℕ) → (n ≡ 0) ⊎ StartsNot is_octal_digit tail → StartsNot is_octal_digit (take n tail)
stops_taken zero tail h = tt
stops_taken (suc n) [] h = tt
stops_taken (suc n) (b ∷ bs) (inl e) = absurd (omega arith)
stops_taken (suc n) (b ∷ bs) (inr s) = s

-- the octal digits of an escape are the front of three bytes
octal_front_is : (ds tail : List ℕ) → length ds ≤ 3 → AllPass is_octal_digit ds → (length ds ≡ 3)
    ⊎ StartsNot is_octal_digit tail → front_of is_octal_digit (take 3 (ds ++ tail)) ≡ ds
octal_front_is ds tail few passes stops =
    let three : 3 ≡ length ds + (3 - length ds) = omega arith in
    let cut : take 3 (ds ++ tail) ≡ ds ++ take (3 - length ds) tail =
    ap (λ (n : ℕ). take n (ds ++ tail)) three ∙ take-append-add ds tail (3 - length ds) in
    ap (front_of is_octal_digit) cut ∙ front_is is_octal_digit ds (take (3 - length ds) tail) passes
    (stops_taken (3 - length ds) tail (elim stops [ inl full ↦ inl (omega arith) | inr s ↦ inr s ]))

-- an octal escape is read
octal_read : (ds tail : List ℕ) → 0 < length ds → length ds ≤ 3 → AllPass is_octal_digit ds → (length ds ≡ 3)
    ⊎ StartsNot is_octal_digit tail → number_in 8 ds ≤ 255 → read_escape (ds ++ tail)
    ≡ Character (number_in 8 ds) (1 + length ds)
octal_read [] tail some few passes stops small = absurd (omega arith)
octal_read (d ∷ ds) tail some few passes stops small =
    let first : is_octal_digit d ≡ true = passes.0 in
    let front : front_of is_octal_digit (take 3 (d ∷ ds ++ tail)) ≡ d ∷ ds =
    octal_front_is (d ∷ ds) tail few passes stops in
    let way : read_escape (d ∷ ds ++ tail) ≡ coded_reading 8 1 (front_of is_octal_digit (take 3 (d ∷ ds ++ tail))) =
    cond-true (is_octal_digit d) _ _ first in
    way ∙ ap (coded_reading 8 1) front ∙ coded_read 8 1 (d ∷ ds) some small

-- a hexadecimal escape is read
hexadecimal_read : (ds tail : List ℕ) → 0 < length ds → AllPass is_hexadecimal_digit ds
    → StartsNot is_hexadecimal_digit tail → number_in 16 ds ≤ 255 → read_escape (letter_x ∷ ds ++ tail)
    ≡ Character (number_in 16 ds) (2 + length ds)
hexadecimal_read ds tail some passes stops small =
    ap (coded_reading 16 2) (front_is is_hexadecimal_digit ds tail passes stops) ∙ coded_read 16 2 ds some small

-- behind a backslash stands an escape
escape_way : (q : ℕ) (xs : List ℕ) → backslash ≢ q → read_character q (backslash ∷ xs) ≡ read_escape xs
escape_way q xs h = let e : eqb backslash q ≡ false = ne_eqb backslash q h in rw e refl

-- a byte that fails the test ends what doesn't begin so
stops_before : (test : ℕ → Bool) (q : ℕ) (rest more : List ℕ) → test q ≡ false → StartsNot test rest
    → StartsNot test (rest ++ q ∷ more)
stops_before test q [] more e s = e
stops_before test q (b ∷ bs) more e s = s

-- the front of what doesn't begin so doesn't either
stops_front : (test : ℕ → Bool) (rest more : List ℕ) → StartsNot test (rest ++ more) → StartsNot test rest
stops_front test [] more s = tt
stops_front test (b ∷ bs) more s = s

-- the quote of a character constant, or that of a string literal
abbrev pub IsQuote : ℕ → Type 0
IsQuote q = (q ≡ apostrophe) ⊎ (q ≡ double_quote)

-- what holds of both quotes holds of a quote
pub at_quote : (P : ℕ → Type 0) (q : ℕ) → P apostrophe → P double_quote → IsQuote q → P q
at_quote P q a b (inl e) = subst P (sym e) a
at_quote P q a b (inr e) = subst P (sym e) b

-- a character before the rest of a literal is read
character_read : (q : ℕ) (bytes rest more : List ℕ) (value : ℕ) → IsQuote q → IsCharacter q bytes rest value
    → value ≤ 255 → read_character q (bytes ++ (rest ++ q ∷ more)) ≡ Character value (length bytes)
character_read q bytes rest more value is (inl plain) small =
    let tail : List ℕ = rest ++ q ∷ more in
    let no_quote : eqb value q ≡ false = ne_eqb value q plain.1 in
    let no_backslash : eqb value backslash ≡ false = ne_eqb value backslash plain.2 in
    let no_newline : eqb value newline ≡ false = ne_eqb value newline plain.3 in
    let here : read_character q (value ∷ tail) ≡ Character value 1 = rw (no_quote, no_newline, no_backslash) refl in
    subst (λ (bs : List ℕ). read_character q (bs ++ tail) ≡ Character value (length bs)) (sym plain.0) here
character_read q bytes rest more value is (inr (inl simple)) small =
    let tail : List ℕ = rest ++ q ∷ more in
    let other : backslash ≢ q = at_quote (λ (x : ℕ). backslash ≢ x) q (λ e. omega arith) (λ e. omega arith) is in
    let here : read_character q (backslash ∷ simple.0 ∷ tail) ≡ Character value 2 =
    escape_way q (simple.0 ∷ tail) other ∙ simple_read simple.0 value tail simple.2 in
    subst (λ (bs : List ℕ). read_character q (bs ++ tail) ≡ Character value (length bs)) (sym simple.1) here
character_read q bytes rest more value is (inr (inr (inl octal))) small =
    let tail : List ℕ = rest ++ q ∷ more in
    let ds : List ℕ = octal.0 in
    let other : backslash ≢ q = at_quote (λ (x : ℕ). backslash ≢ x) q (λ e. omega arith) (λ e. omega arith) is in
    let fails : is_octal_digit q ≡ false = at_quote (λ (x : ℕ). is_octal_digit x ≡ false) q refl refl is in
    let spells : value ≡ number_in 8 ds = octal.6 in
    let stops : (length ds ≡ 3) ⊎ StartsNot is_octal_digit tail =
    elim octal.5 [ inl full ↦ inl full | inr s ↦ inr (stops_before is_octal_digit q rest more fails s) ] in
    let there : read_escape (ds ++ tail) ≡ Character (number_in 8 ds) (1 + length ds) =
    octal_read ds tail octal.2 octal.3 octal.4 stops (omega arith) in
    let lengths : 1 + length ds ≡ length (backslash ∷ ds) = omega arith in
    let here : read_character q (backslash ∷ ds ++ tail) ≡ Character value (length (backslash ∷ ds)) =
    escape_way q (ds ++ tail) other ∙ there ∙ ap (λ (v : ℕ). Character v (1 + length ds)) (sym spells) ∙ ap
    (Character value) lengths in
    subst (λ (bs : List ℕ). read_character q (bs ++ tail) ≡ Character value (length bs)) (sym octal.1) here
character_read q bytes rest more value is (inr (inr (inr hexadecimal))) small =
    let tail : List ℕ = rest ++ q ∷ more in
    let ds : List ℕ = hexadecimal.0 in
    let other : backslash ≢ q = at_quote (λ (x : ℕ). backslash ≢ x) q (λ e. omega arith) (λ e. omega arith) is in
    let fails : is_hexadecimal_digit q ≡ false = at_quote (λ (x : ℕ). is_hexadecimal_digit x ≡ false) q refl refl is in
    let spells : value ≡ number_in 16 ds = hexadecimal.5 in
    let there : read_escape (letter_x ∷ ds ++ tail) ≡ Character (number_in 16 ds) (2 + length ds) =
    hexadecimal_read ds tail hexadecimal.2 hexadecimal.3
    (stops_before is_hexadecimal_digit q rest more fails hexadecimal.4) (omega arith) in
    let lengths : 2 + length ds ≡ length (backslash ∷ letter_x ∷ ds) = omega arith in
    let here : read_character q (backslash ∷ letter_x ∷ ds ++ tail)
    ≡ Character value (length (backslash ∷ letter_x ∷ ds)) =
    escape_way q (letter_x ∷ ds ++ tail) other ∙ there ∙ ap (λ (v : ℕ). Character v (2 + length ds)) (sym spells) ∙ ap
    (Character value) lengths in
    subst (λ (bs : List ℕ). read_character q (bs ++ tail) ≡ Character value (length bs)) (sym hexadecimal.1) here

-- ---- whole literals

-- one character more
pub reads_more : (q : ℕ) (text values left : List ℕ) (value n : ℕ) → ReadsFront q text values left
    → read_character q left ≡ Character value n → value ≤ 255 → ReadsFront q text (values ++ value ∷ []) (drop n left)
reads_more q text [] left value n r h small = (n, ap (read_character q) r ∙ h, small, ap (drop n) r)
reads_more q text (v ∷ vs) left value n r h small =
    (r.0, r.1, r.2, reads_more q (drop r.0 text) vs left value n r.3 h small)

-- fewer bytes behind it
character_before : (q : ℕ) (bytes rest more : List ℕ) (value : ℕ) → IsCharacter q bytes (rest ++ more) value
    → IsCharacter q bytes rest value
character_before q bytes rest more value (inl h) = inl h
character_before q bytes rest more value (inr (inl h)) = inr (inl h)
character_before q bytes rest more value (inr (inr (inl h))) =
    inr (inr (inl (
      h.0,
      h.1,
      h.2,
      h.3,
      h.4,
      elim h.5 [ inl full ↦ inl full | inr s ↦ inr (stops_front is_octal_digit rest more s) ],
      h.6,
    )))
character_before q bytes rest more value (inr (inr (inr h))) =
    inr (inr (inr (h.0, h.1, h.2, h.3, stops_front is_hexadecimal_digit rest more h.4, h.5)))

-- where reading comes to the closing quote, the bytes before it are the inside
pub closed_inside : (q : ℕ) (text values more : List ℕ) → ReadsFront q text values (q ∷ more) → (inside : List ℕ)
    × (text ≡ inside ++ q ∷ more) × HasValues q inside values
closed_inside q text [] more r = ([], r, refl)
closed_inside q text (v ∷ vs) more r =
    let n : ℕ = r.0 in
    let there : (inside : List ℕ) × (drop n text ≡ inside ++ q ∷ more) × HasValues q inside vs =
    closed_inside q (drop n text) vs more r.3 in
    let first : IsReading q text (Character v n) =
    subst (λ (x : Reading). IsReading q text x) r.1 (character_is q text) in
    let bytes : List ℕ = first.0 in
    let left : drop n text ≡ first.1 = ap (drop n) first.2 ∙ drop_at bytes first.1 n first.3 in
    let rest : first.1 ≡ there.0 ++ q ∷ more = sym left ∙ there.1 in
    let whole : text ≡ (bytes ++ there.0) ++ q ∷ more =
    first.2 ∙ ap (λ (t : List ℕ). bytes ++ t) rest ∙ sym (append_assoc bytes there.0 (q ∷ more)) in
    let character : IsCharacter q bytes there.0 v =
    character_before q bytes there.0 (q ∷ more) v (subst (λ (t : List ℕ). IsCharacter q bytes t v) rest first.4) in
    (bytes ++ there.0, whole, (bytes, there.0, refl, character, r.2, there.2))

-- the inside of a literal is read
pub inside_read : (q : ℕ) (text inside more values : List ℕ) → IsQuote q → text ≡ inside ++ q ∷ more
    → HasValues q inside values → ReadsFront q text values (q ∷ more)
inside_read q text inside more [] is e h = e ∙ ap (λ (t : List ℕ). t ++ q ∷ more) h
inside_read q text inside more (v ∷ vs) is e h =
    let bytes : List ℕ = h.0 in
    let rest : List ℕ = h.1 in
    let whole : text ≡ bytes ++ (rest ++ q ∷ more) =
    e ∙ ap (λ (t : List ℕ). t ++ q ∷ more) h.2 ∙ append_assoc bytes rest (q ∷ more) in
    let reads : read_character q text ≡ Character v (length bytes) =
    ap (read_character q) whole ∙ character_read q bytes rest more v is h.3 h.4 in
    let left : drop (length bytes) text ≡ rest ++ q ∷ more =
    ap (drop (length bytes)) whole ∙ drop_at bytes (rest ++ q ∷ more) (length bytes) refl in
    (length bytes, reads, h.4, inside_read q (drop (length bytes) text) rest more vs is left h.5)

-- no character is read
abbrev pub IsStuck : Reading → Type 0
IsStuck (Character v n) = ⊥
IsStuck Closing = ⊤
IsStuck Faulty = ⊤

-- where no character is read, none is
never_both : (r : Reading) (v n : ℕ) → IsStuck r → r ≡ Character v n → ⊥
never_both r v n s e = let bad : IsStuck (Character v n) = subst IsStuck e s in bad

-- reading comes to one place only where no character is read, with the same values
pub one_front : (q : ℕ) (text vs ws r s : List ℕ) → ReadsFront q text vs r → ReadsFront q text ws s
    → IsStuck (read_character q r) → IsStuck (read_character q s) → (vs ≡ ws) × (r ≡ s)
one_front q text [] [] r s h k a b = (refl, sym h ∙ k)
one_front q text [] (w ∷ ws) r s h k a b =
    absurd (never_both (read_character q r) w k.0 a (ap (read_character q) (sym h) ∙ k.1))
one_front q text (v ∷ vs) [] r s h k a b =
    absurd (never_both (read_character q s) v h.0 b (ap (read_character q) (sym k) ∙ h.1))
one_front q text (v ∷ vs) (w ∷ ws) r s h k a b =
    let both : Character v h.0 ≡ Character w k.0 = sym h.1 ∙ k.1 in
    let same : v ≡ w = cc in
    let steps : k.0 ≡ h.0 = cc in
    let later : ReadsFront q (drop h.0 text) ws s = subst (λ (n : ℕ). ReadsFront q (drop n text) ws s) steps k.3 in
    let others = one_front q (drop h.0 text) vs ws r s h.3 later a b in
    (cc, others.1)

-- the closing quote is read where it stands
pub closing_read : (q : ℕ) (more : List ℕ) → read_character q (q ∷ more) ≡ Closing
closing_read q more = let e : eqb q q ≡ true = eq-eqb q q refl in rw e refl

-- A piece that begins with a quote is a character constant or a string literal, and there is at most one.
use Rattle.std.proofs.Common.{◌≡◌, ◌≢◌, ◌≤◌, ◌<◌, inl, inr, ℕ, zero, suc, ◌+◌, Bool, true, false, List, [], ◌∷◌, ◌++◌}
use Rattle.std.proofs.Common.{length, take, drop, IsTrue, refl, sym, ◌∙◌, ap, subst, arith, append_assoc, length-append}
use Rattle.std.specs.Prelude.{◌==◌, ◌||◌, not}
use Rattle.std.proofs.lemmas.List.{take-append-drop, length-take-le}
use Rattle.std.proofs.lemmas.List.Sums.{take_while-cons}
use Rattle.std.proofs.lemmas.Bool.{true≢false, false≢true}
use Rattle.std.proofs.Math.Seq.{take-append-add}
use Rattle.byteorder.specs.Endian.{twos_complement}
use Rattle.pcc_base.specs.Ascii.{newline, double_quote, hash, percent, apostrophe, star, dot, slash, colon, capital_l}
use Rattle.pcc_base.specs.declared.keyword.Keyword.{Keyword}
use Rattle.pcc_base.specs.declared.keyword.Keyword.TheVariants as words
use Rattle.c_lex.specs.declared.token.Punct.{Punct}
use Rattle.c_lex.specs.declared.token.Punct.TheVariants as marks
use Rattle.c_lex.specs.declared.token.TokenKind.TheVariants as kinds
use Rattle.c_lex.specs.declared.quotes.Reading.{Reading}
use Rattle.c_lex.specs.declared.quotes.Reading.TheVariants.{Closing, Faulty}
use Rattle.c_lex.specs.Bytes.{is_space, is_digit, is_letter}
use Rattle.c_lex.specs.Spellings.{keyword_text, mark_text, IsDigraph}
use Rattle.c_lex.specs.Literals.{StartsNumber, IsNumberText, HasValues, IsLiteral}
use Rattle.c_lex.specs.Characters.{read_character, ReadsFront, IsClosedBehind, IsNeverClosed}
use Rattle.c_lex.specs.Pieces.{Piece, Space, Comment, Skipped, Spelled, IsPiece, IsBarred, Begins, NoneBegins}
use Rattle.c_lex.specs.Pieces.{line_of}
use Rattle.c_lex.proofs.LiteralReading.{IsReading, character_is, closed_inside, inside_read, one_front, IsStuck}
use Rattle.c_lex.proofs.LiteralReading.{closing_read, IsQuote, at_quote}

-- ---- which pieces begin with a quote

-- the first byte is a quote
abbrev starts_with_quote : List ℕ → Bool
starts_with_quote [] = false
starts_with_quote (b ∷ bs) = b == apostrophe || b == double_quote

-- no keyword begins with a quote
keyword_plain : (word : Keyword) → starts_with_quote (keyword_text word) ≡ false
keyword_plain words.Auto = refl
keyword_plain _ = refl

-- no punctuator begins with a quote
mark_plain : (mark : Punct) → starts_with_quote (mark_text mark) ≡ false
mark_plain marks.LeftBracket = refl
mark_plain _ = refl

-- no digraph begins with a quote
digraph_plain : (mark : Punct) (bytes : List ℕ) → IsDigraph mark bytes → starts_with_quote bytes ≡ false
digraph_plain marks.LeftBracket bytes h = ap starts_with_quote h
digraph_plain marks.RightBracket bytes h = ap starts_with_quote h
digraph_plain marks.LeftBrace bytes h = ap starts_with_quote h
digraph_plain marks.RightBrace bytes h = ap starts_with_quote h
digraph_plain _ bytes h = absurd h

-- bytes that begin with a quote don't begin otherwise
not_plain : (b : ℕ) (bs : List ℕ) → IsQuote b → starts_with_quote (b ∷ bs) ≡ false → ⊥
not_plain b bs q e =
    let quoted : starts_with_quote (b ∷ bs) ≡ true =
    at_quote (λ (x : ℕ). starts_with_quote (x ∷ bs) ≡ true) b refl refl q in
    true≢false (sym quoted ∙ e)

-- a quote fails a test that both quotes fail
fails : (test : ℕ → Bool) (b x : ℕ) → IsQuote b → test apostrophe ≡ false → test double_quote ≡ false → b ≡ x
    → IsTrue (test x) → ⊥
fails test b x q one other e h =
    let failed : test b ≡ false = at_quote (λ (y : ℕ). test y ≡ false) b one other q in
    false≢true (sym failed ∙ ap test e ∙ h)

-- equal lists have equal first bytes
head_is : (b x : ℕ) (bs xs : List ℕ) → b ∷ bs ≡ x ∷ xs → b ≡ x
head_is b x bs xs e = cc

-- equal lists go on alike
tail_is : (b x : ℕ) (bs xs : List ℕ) → b ∷ bs ≡ x ∷ xs → bs ≡ xs
tail_is b x bs xs e = cc

-- no preprocessing number begins with a quote
no_number_text : (b : ℕ) (bs : List ℕ) → IsQuote b → IsNumberText (b ∷ bs) → ⊥
no_number_text b [] q h = fails is_digit b b q refl refl refl h
no_number_text b (c ∷ cs) q (inl h) = fails is_digit b b q refl refl refl h.0
no_number_text b (c ∷ cs) q (inr h) = at_quote (λ (x : ℕ). x ≢ dot) b (λ e. omega arith) (λ e. omega arith) q h.0

-- no number starts at a quote
no_number : (b : ℕ) (bs : List ℕ) → IsQuote b → StartsNumber (b ∷ bs) → ⊥
no_number b [] q h = fails is_digit b b q refl refl refl h
no_number b (c ∷ cs) q (inl h) = fails is_digit b b q refl refl refl h
no_number b (c ∷ cs) q (inr h) = at_quote (λ (x : ℕ). x ≢ dot) b (λ e. omega arith) (λ e. omega arith) q h.0

-- no literal is barred
quote_free : (b : ℕ) (bs : List ℕ) → IsQuote b → IsBarred (b ∷ bs) → ⊥
quote_free b bs q (inl h) =
    at_quote (λ (x : ℕ). x ≢ slash) b (λ e. omega arith) (λ e. omega arith) q (head_is b slash bs (star ∷ h.0) h.1)
quote_free b bs q (inr (inl h)) =
    at_quote (λ (x : ℕ). x ≢ percent) b (λ e. omega arith) (λ e. omega arith) q (head_is b percent bs (colon ∷ h.0) h.1)
quote_free b bs q (inr (inr (inl h))) =
    at_quote (λ (x : ℕ). x ≢ capital_l) b (λ e. omega arith) (λ e. omega arith) q
    (head_is b capital_l bs (h.0 ∷ h.1) h.2)
quote_free b bs q (inr (inr (inr h))) = no_number b bs q h.0

-- the bytes are a literal in quotes b, and hold one character where that is the quote of a character constant
record LiteralThere (b : ℕ) (bytes : List ℕ) : Type 0 where
  values : List ℕ
  is : IsLiteral b bytes values
  one : b ≡ apostrophe → length values ≡ 1

-- a piece that begins with a quote is a literal
only_literal : (fresh : Bool) (b : ℕ) (bs : List ℕ) (n : ℕ) (piece : Piece) → IsQuote b → 0 < n
    → IsPiece fresh (b ∷ bs) n piece → LiteralThere b (take n (b ∷ bs))
only_literal fresh b bs zero piece q some h = absurd (omega arith)
only_literal fresh b bs (suc n) Space q some h =
    absurd (fails is_space b h.0 q refl refl (head_is b h.0 (take n bs) [] h.1) h.2)
only_literal fresh b bs (suc n) Comment q some (inl h) =
    absurd (at_quote (λ (x : ℕ). x ≢ slash) b (λ e. omega arith) (λ e. omega arith) q
    (head_is b slash (take n bs) (slash ∷ h.0) h.1))
only_literal fresh b bs (suc n) Comment q some (inr h) =
    absurd (at_quote (λ (x : ℕ). x ≢ slash) b (λ e. omega arith) (λ e. omega arith) q
    (head_is b slash (take n bs) (star ∷ h.0 ++ star ∷ slash ∷ []) h.1))
only_literal fresh b bs (suc n) Skipped q some h =
    let line : line_of (b ∷ bs) ≡ b ∷ line_of bs =
    at_quote (λ (x : ℕ). line_of (x ∷ bs) ≡ x ∷ line_of bs) b
    (take_while-cons (λ (x : ℕ). not (x == newline)) apostrophe bs)
    (take_while-cons (λ (x : ℕ). not (x == newline)) double_quote bs) q in
    let marker = h.1 in
    absurd (at_quote (λ (x : ℕ). x ≢ hash) b (λ e. omega arith) (λ e. omega arith) q
    (head_is b hash (line_of bs) (marker.0 ++ marker.1) (sym line ∙ marker.2)))
only_literal fresh b bs (suc n) (Spelled (kinds.Word word)) q some h =
    absurd (not_plain b (take n bs) q (ap starts_with_quote h ∙ keyword_plain word))
only_literal fresh b bs (suc n) (Spelled (kinds.Ident name)) q some h =
    let word = h.1 in
    absurd (fails is_letter b word.0 q refl refl (head_is b word.0 (take n bs) word.1 (h.0 ∙ word.2)) word.3)
only_literal fresh b bs (suc n) (Spelled (kinds.Number z u)) q some (s, inl h) =
    absurd (no_number_text b (take n bs) q h.0)
only_literal fresh b bs (suc n) (Spelled (kinds.Number z u)) q some (s, inr h) =
    let same : b ≡ apostrophe = head_is b apostrophe (take n bs) (h.1.0 ++ apostrophe ∷ []) h.1.1 in
    record {
      values = h.0 ∷ [];
      is = subst (λ (x : ℕ). IsLiteral x (b ∷ take n bs) (h.0 ∷ [])) (sym same) h.1;
      one =
          λ _. refl;
    }
only_literal fresh b bs (suc n) (Spelled (kinds.Text bytes)) q some h =
    let same : b ≡ double_quote = head_is b double_quote (take n bs) (h.0 ++ double_quote ∷ []) h.1 in
    record {
      values = bytes;
      is = subst (λ (x : ℕ). IsLiteral x (b ∷ take n bs) bytes) (sym same) h;
      one =
          λ e. absurd (omega arith);
    }
only_literal fresh b bs (suc n) (Spelled (kinds.Mark mark)) q some (inl h) =
    absurd (not_plain b (take n bs) q (ap starts_with_quote h ∙ mark_plain mark))
only_literal fresh b bs (suc n) (Spelled (kinds.Mark mark)) q some (inr h) =
    absurd (not_plain b (take n bs) q (digraph_plain mark (b ∷ take n bs) h))

-- ---- which literal stands there

-- the rest of a text whose reading comes to the closing quote
closing_rest : (q : ℕ) (rest : List ℕ) → read_character q rest ≡ Closing → (more : List ℕ) × (rest ≡ q ∷ more)
closing_rest q rest e = subst (λ (r : Reading). IsReading q rest r) e (character_is q rest)

-- the literal that was read
pub closed_literal : (b : ℕ) (text values : List ℕ) (n : ℕ) → IsClosedBehind b text values n
    → (n + 2 ≤ length (b ∷ text)) × IsLiteral b (take (n + 2) (b ∷ text)) values
closed_literal b text values n h =
    let rest : List ℕ = h.0 in
    let closing : (more : List ℕ) × (rest ≡ b ∷ more) = closing_rest b rest h.2 in
    let more : List ℕ = closing.0 in
    let inside : (inside : List ℕ) × (text ≡ inside ++ b ∷ more) × HasValues b inside values =
    closed_inside b text values more (subst (λ (r : List ℕ). ReadsFront b text values r) closing.1 h.1) in
    let whole : length text ≡ length inside.0 + length (b ∷ more) =
    ap length inside.1 ∙ length-append inside.0 (b ∷ more) in
    let left : length rest ≡ length (b ∷ more) = ap length closing.1 in
    let counted : n + 2 ≡ suc (length inside.0 + 1) = omega (arith, h.3) in
    let front : take (length inside.0 + 1) text ≡ inside.0 ++ b ∷ [] =
    ap (λ (t : List ℕ). take (length inside.0 + 1) t) inside.1 ∙ take-append-add inside.0 (b ∷ more) 1 in
    let taken : take (n + 2) (b ∷ text) ≡ b ∷ inside.0 ++ b ∷ [] =
    ap (λ (k : ℕ). take k (b ∷ text)) counted ∙ ap (λ (t : List ℕ). b ∷ t) front in
    (omega (arith, h.3), (inside.0, taken, inside.2))

-- the text of a literal that stands there
literal_text : (b : ℕ) (text inside : List ℕ) (m : ℕ) → take m (b ∷ text) ≡ b ∷ inside ++ b ∷ [] → text ≡ inside ++ b
    ∷ drop m (b ∷ text)
literal_text b text inside m e =
    let cut : b ∷ text ≡ take m (b ∷ text) ++ drop m (b ∷ text) = sym (take-append-drop m (b ∷ text)) in
    let whole : b ∷ text ≡ b ∷ ((inside ++ b ∷ []) ++ drop m (b ∷ text)) =
    cut ∙ ap (λ (t : List ℕ). t ++ drop m (b ∷ text)) e in
    tail_is b b text ((inside ++ b ∷ []) ++ drop m (b ∷ text)) whole ∙ append_assoc inside (b ∷ []) (drop m (b ∷ text))

-- only the literal that was read stands there
pub only_closed : (b : ℕ) (text values : List ℕ) (n m : ℕ) (others : List ℕ) → IsQuote b
    → IsClosedBehind b text values n → m ≤ length (b ∷ text) → IsLiteral b (take m (b ∷ text)) others → (m ≡ n + 2)
    × (others ≡ values)
only_closed b text values n m others q h within is =
    let inside : List ℕ = is.0 in
    let behind : List ℕ = drop m (b ∷ text) in
    let whole : text ≡ inside ++ b ∷ behind = literal_text b text inside m is.1 in
    let reads : ReadsFront b text others (b ∷ behind) = inside_read b text inside behind others q whole is.2 in
    let stuck : IsStuck (read_character b (b ∷ behind)) = subst IsStuck (sym (closing_read b behind)) tt in
    let same : (others ≡ values) × (b ∷ behind ≡ h.0) =
    one_front b text others values (b ∷ behind) h.0 reads h.1 stuck (subst IsStuck (sym h.2) tt) in
    let left : length (b ∷ behind) ≡ length h.0 = ap length same.1 in
    let lengths : length text ≡ length inside + length (b ∷ behind) =
    ap length whole ∙ length-append inside (b ∷ behind) in
    let taken : length (take m (b ∷ text)) ≡ m = length-take-le m (b ∷ text) within in
    let spelled : length (take m (b ∷ text)) ≡ length (b ∷ inside) + length (b ∷ []) =
    ap length is.1 ∙ length-append (b ∷ inside) (b ∷ []) in
    (omega (arith, h.3), same.0)

-- no literal stands where reading comes to a fault
pub never_literal : (b : ℕ) (text : List ℕ) (m : ℕ) (others : List ℕ) → IsQuote b → IsNeverClosed b text
    → IsLiteral b (take m (b ∷ text)) others → ⊥
never_literal b text m others q h is =
    let inside : List ℕ = is.0 in
    let behind : List ℕ = drop m (b ∷ text) in
    let whole : text ≡ inside ++ b ∷ behind = literal_text b text inside m is.1 in
    let reads : ReadsFront b text others (b ∷ behind) = inside_read b text inside behind others q whole is.2 in
    let stuck : IsStuck (read_character b (b ∷ behind)) = subst IsStuck (sym (closing_read b behind)) tt in
    let same : (others ≡ h.0) × (b ∷ behind ≡ h.1) =
    one_front b text others h.0 (b ∷ behind) h.1 reads h.2 stuck (subst IsStuck (sym h.3) tt) in
    let both : Closing ≡ Faulty = sym (closing_read b behind) ∙ ap (read_character b) same.1 ∙ h.3 in
    cc

-- ---- what begins there

-- a piece that is the literal read begins the text
pub literal_begins : (fresh : Bool) (b : ℕ) (text values : List ℕ) (n : ℕ) (piece : Piece) → IsQuote b
    → IsClosedBehind b text values n → IsPiece fresh (b ∷ text) (n + 2) piece → Begins fresh (b ∷ text) (n + 2) piece
literal_begins fresh b text values n piece q h is =
    let there : (n + 2 ≤ length (b ∷ text)) × IsLiteral b (take (n + 2) (b ∷ text)) values =
    closed_literal b text values n h in
    record {
      within = there.0;
      nonempty = omega arith;
      is = is;
      longest = λ m other longer in_text found.
          let literal : LiteralThere b (take m (b ∷ text)) = only_literal fresh b text m other q (omega arith) found in
          let same : (m ≡ n + 2) × (literal.values ≡ values) =
          only_closed b text values n m literal.values q h in_text literal.is in
          omega arith;
      free = quote_free b text q;
    }

-- none begins where reading comes to a fault
pub none_unclosed : (fresh : Bool) (b : ℕ) (text : List ℕ) → IsQuote b → IsNeverClosed b text
    → NoneBegins fresh (b ∷ text)
none_unclosed fresh b text q h n piece begins =
    let literal : LiteralThere b (take n (b ∷ text)) = only_literal fresh b text n piece q begins.nonempty begins.is in
    never_literal b text n literal.values q h literal.is

-- none begins where a character constant doesn't hold one character
pub none_many : (fresh : Bool) (b : ℕ) (text values : List ℕ) (n : ℕ) → b ≡ apostrophe → IsClosedBehind b text values n
    → length values ≢ 1 → NoneBegins fresh (b ∷ text)
none_many fresh b text values n e h many k piece begins =
    let literal : LiteralThere b (take k (b ∷ text)) =
    only_literal fresh b text k piece (inl e) begins.nonempty begins.is in
    let same : (k ≡ n + 2) × (literal.values ≡ values) =
    only_closed b text values n k literal.values (inl e) h begins.within literal.is in
    many (sym (ap length same.1) ∙ literal.one e)

-- the string literal that was read
pub text_begins : (fresh : Bool) (b : ℕ) (text values : List ℕ) (n : ℕ) → b ≡ double_quote
    → IsClosedBehind b text values n
    → Begins fresh (b ∷ text) (n + 2) (Spelled (kinds.Text values))
text_begins fresh b text values n e h =
    let is : IsLiteral b (take (n + 2) (b ∷ text)) values = (closed_literal b text values n h).1 in
    literal_begins fresh b text values n (Spelled (kinds.Text values)) (inr e) h
    (subst (λ (x : ℕ). IsLiteral x (take (n + 2) (b ∷ text)) values) e is)

-- the character constant that was read
pub constant_begins : (fresh : Bool) (b : ℕ) (text values : List ℕ) (n value : ℕ) → b ≡ apostrophe
    → IsClosedBehind b text values n → values ≡ value ∷ []
    → Begins fresh (b ∷ text) (n + 2) (Spelled (kinds.Number (twos_complement 1 value) false))
constant_begins fresh b text values n value e h one =
    let is : IsLiteral b (take (n + 2) (b ∷ text)) values = (closed_literal b text values n h).1 in
    let quoted : IsLiteral apostrophe (take (n + 2) (b ∷ text)) (value ∷ []) =
    subst (λ (x : ℕ). IsLiteral x (take (n + 2) (b ∷ text)) (value ∷ [])) e
    (subst (λ (vs : List ℕ). IsLiteral b (take (n + 2) (b ∷ text)) vs) one is) in
    literal_begins fresh b text values n (Spelled (kinds.Number (twos_complement 1 value) false)) (inl e) h
    (refl, inr (value, quoted, refl))

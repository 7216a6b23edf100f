use Rattle.std.proofs.Common.{◌≡◌, ◌≢◌, ◌+◌, ◌-◌, ◌⊎◌, inl, inr, ℕ, ℤ, false, List, [], ◌∷◌, length, take, drop, get_or, sym}
use Rattle.std.proofs.Common.{◌∙◌, ap, subst, arith, Option, Some, MatchOption, Vec, Global}
use Rattle.std.proofs.lemmas.Slice.{first_rest}
use Rattle.std.specs.Int.{w32, cast_signed, cast_unsigned}
use Rattle.std.proofs.lemmas.Int.{to_z-of_z, ints}
use Rattle.std.proofs.lemmas.Option.{MatchOption-at_none}
use Rattle.pcc_base.specs.Ascii.{double_quote, apostrophe}
use Rattle.c_lex.specs.declared.token.TokenKind.TheVariants as kinds
use Rattle.c_lex.specs.Characters.{IsClosedBehind, IsNeverClosed}
use Rattle.c_lex.specs.Pieces.{NoneBegins, Begins, Spelled}
use Rattle.c_lex.proofs.LiteralReading.{IsQuote}
use Rattle.c_lex.proofs.QuotePieces.{none_unclosed, none_many, text_begins, constant_begins}
use Rattle.c_lex.proofs.quotes.quote_at.Goals as goal

-- what stands behind the first byte
abbrev text_of : List ℕ → List ℕ
text_of rest = take (length rest - 1) (drop 1 rest)

-- the first byte is a quote
quoted : (rest : List ℕ) → ((b : ℕ) × (others : List ℕ) × (rest ≡ b ∷ others) × ((b ≡ apostrophe) ⊎ (b ≡ double_quote)))
    → IsQuote (get_or rest 0 0)
quoted rest h = subst (λ (r : List ℕ). IsQuote (get_or r 0 0)) (sym h.2) h.3

-- the text is its first byte and what stands behind it
whole : (rest : List ℕ) → ((b : ℕ) × (others : List ℕ) × (rest ≡ b ∷ others) × ((b ≡ apostrophe) ⊎ (b ≡ double_quote)))
    → rest ≡ get_or rest 0 0 ∷ text_of rest
whole rest h = first_rest rest 0 (omega (arith, ap length h.2))

-- what the answer for the inside says where there is one
closed : (rest : List ℕ) (o : Option (Vec ℕ Global × ℕ)) (v : Vec ℕ Global × ℕ) → o ≡ Some v
    → MatchOption o (IsNeverClosed (get_or rest 0 0) (text_of rest)) (λ (p : Vec ℕ Global
    × ℕ). IsClosedBehind (get_or rest 0 0) (text_of rest) p.0.items p.1)
    → IsClosedBehind (get_or rest 0 0) (text_of rest) v.0.items v.1
closed rest o v e h =
    subst (λ (x : Option (Vec ℕ Global × ℕ)). MatchOption x (IsNeverClosed (get_or rest 0 0) (text_of rest))
    (λ (p : Vec ℕ Global × ℕ). IsClosedBehind (get_or rest 0 0) (text_of rest) p.0.items p.1)) e h

-- a list of one item
one_item : (values : List ℕ) (x : ℕ) → length values ≡ 1 → x ≡ get_or values 0 x → values ≡ x ∷ []
one_item [] x e h = absurd (omega arith)
one_item (v ∷ []) x e h = ap (λ (y : ℕ). y ∷ []) (sym h)
one_item (v ∷ w ∷ ws) x e h = absurd (omega arith)

pub returns-in_default-2 : goal.returns-in_default-2
returns-in_default-2 c fresh =
    let rest : List ℕ = c.args.rest.now in
    subst (λ (r : List ℕ). NoneBegins fresh r) (sym (whole rest c.requires))
    (none_unclosed fresh (get_or rest 0 0) (text_of rest) (quoted rest c.requires)
    (MatchOption-at_none _ (λ (p : Vec ℕ Global × ℕ). IsClosedBehind (get_or rest 0 0) (text_of rest) p.0.items p.1)
    c.in_default-2.is c.in_ok-values.ensures))

pub returns-then-quote-eq34 : goal.returns-then-quote-eq34
returns-then-quote-eq34 c fresh =
    let rest : List ℕ = c.args.rest.now in
    let n : ℕ = c.in-Some.length in
    let there : IsClosedBehind (get_or rest 0 0) (text_of rest) c.in-Some.values.items n =
    closed rest _ (c.in-Some.values, n) c.in-Some.is c.in_ok-values.ensures in
    subst (λ (r : List ℕ). Begins fresh r (n + 2) (Spelled (kinds.Text c.in_ok-text.text))) (sym (whole rest
    c.requires))
    (subst (λ (vs : List ℕ). Begins fresh (get_or rest 0 0 ∷ text_of rest) (n + 2) (Spelled (kinds.Text vs)))
    (sym c.in_ok-text.ensures)
    (text_begins fresh (get_or rest 0 0) (text_of rest) c.in-Some.values.items n c.if-quote-eq34.true there))

-- a quote that isn't that of a string literal
char_quote : (q : ℕ) → IsQuote q → q ≢ double_quote → q ≡ apostrophe
char_quote q (inl e) h = e
char_quote q (inr e) h = absurd (h e)

pub returns-then-len-ne1 : goal.returns-then-len-ne1
returns-then-len-ne1 c fresh =
    let rest : List ℕ = c.args.rest.now in
    let n : ℕ = c.in-Some.length in
    let there : IsClosedBehind (get_or rest 0 0) (text_of rest) c.in-Some.values.items n =
    closed rest _ (c.in-Some.values, n) c.in-Some.is c.in_ok-values.ensures in
    subst (λ (r : List ℕ). NoneBegins fresh r) (sym (whole rest c.requires))
    (none_many fresh (get_or rest 0 0) (text_of rest) c.in-Some.values.items n
    (char_quote (get_or rest 0 0) (quoted rest c.requires) c.if-quote-eq34.false) there
    (λ e. c.if-len-ne1.true (omega arith)))

pub returns : goal.returns
returns c fresh =
    let rest : List ℕ = c.args.rest.now in
    let n : ℕ = c.in-Some.length in
    let value : ℕ = c.index.result.now in
    let there : IsClosedBehind (get_or rest 0 0) (text_of rest) c.in-Some.values.items n =
    closed rest _ (c.in-Some.values, n) c.in-Some.is c.in_ok-values.ensures in
    let one : c.in-Some.values.items ≡ value ∷ [] =
    one_item c.in-Some.values.items value (omega arith) c.index.ensures in
    let kept : cast_signed w32 (cast_unsigned w32 c.signed.result) ≡ c.signed.result =
    to_z-of_z w32 c.signed.result (omega (arith, ints)) in
    subst (λ (r : List ℕ). Begins fresh r (n + 2)
    (Spelled (kinds.Number (cast_signed w32 (cast_unsigned w32 c.signed.result)) false))) (sym (whole rest c.requires))
    (subst (λ (z : ℤ). Begins fresh (get_or rest 0 0 ∷ text_of rest) (n + 2) (Spelled (kinds.Number z false)))
    (sym (kept ∙ c.signed.ensures))
    (constant_begins fresh (get_or rest 0 0) (text_of rest) c.in-Some.values.items n value
    (char_quote (get_or rest 0 0) (quoted rest c.requires) c.if-quote-eq34.false) there one))

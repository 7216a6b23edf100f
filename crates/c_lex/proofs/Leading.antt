-- Pieces that lead through a text, one more at the end.
use Rattle.std.proofs.Common.{◌≡◌, ℕ, zero, suc, ◌+◌, ◌<◌, ◌≤◌, arith, length-append, Bool, List, [], ◌++◌, length}
use Rattle.std.proofs.Common.{take, drop, refl, sym, ◌∙◌, ap, subst, append_assoc, append-nil}
use Rattle.pcc_base.specs.declared.span.Span.{Span}
use Rattle.c_lex.specs.declared.token.Token.{Token}
use Rattle.c_lex.specs.Pieces.{Piece, Space, Comment, Skipped, Spelled, Begins}
use Rattle.c_lex.specs.Tokens.{Reached, Leads, behind, tokens_of, start_of, place_after, fresh_after}

-- some pieces from the start of a text have these tokens, and this is left behind them
abbrev pub Stands : ℕ → List ℕ → List Token → List ℕ → Span → Bool → Type 0
Stands file text tokens rest at fresh =
    (k : ℕ) × Leads k (start_of file text) tokens (record { rest = rest; at = at; fresh = fresh })

-- one more piece at the end
pub leads_more : (k : ℕ) (from : Reached) (tokens : List Token) (to : Reached) (n : ℕ) (piece : Piece)
    → Leads k from tokens to → Begins to.fresh to.rest n piece
    → Leads (suc k) from (tokens ++ tokens_of piece to.at) (behind to n piece)
leads_more zero from tokens to n piece h b =
    let P : Reached → Type 0 = λ r. Begins r.fresh r.rest n piece
    → Leads 1 from (tokens ++ tokens_of piece r.at) (behind r n piece) in
    let Q : List Token → Type 0 = λ t. Leads 1 from (t ++ tokens_of piece from.at) (behind from n piece) in
    subst P (sym h.0) (λ b'. subst Q (sym h.1) (
      n,
      piece,
      b',
      [],
      sym (append-nil (tokens_of piece from.at)),
      (refl, refl),
    )) b
leads_more (suc k) from tokens to n piece (n', piece', b', others, e, h) b = (
  n',
  piece',
  b',
  others ++ tokens_of piece to.at,
  ap (λ t. t ++ tokens_of piece to.at) e ∙ append_assoc (tokens_of piece' from.at) others (tokens_of piece to.at),
  leads_more k (behind from n' piece') others to n piece h b,
)

-- the pieces that stand, and one more whose bytes are split off
pub stands_more : (file : ℕ) (text : List ℕ) (tokens : List Token) (rest : List ℕ) (at : Span) (fresh : Bool) (n : ℕ)
    (piece : Piece) (bytes others : List ℕ) (tokens' : List Token) (at' : Span) (fresh' : Bool)
    → Stands file text tokens rest at fresh → Begins fresh rest n piece
    → bytes ≡ take n rest → others ≡ drop n rest → tokens' ≡ tokens ++ tokens_of piece at → at' ≡ place_after at bytes
    → fresh' ≡ fresh_after fresh piece bytes
    → Stands file text tokens' others at' fresh'
stands_more file text tokens rest at fresh n piece bytes others tokens' at' fresh' (k, h) b eb eo et ea ef =
    let ta : at' ≡ place_after at (take n rest) = ea ∙ ap (place_after at) eb in
    let tf : fresh' ≡ fresh_after fresh piece (take n rest) = ef ∙ ap (fresh_after fresh piece) eb in
    let from = start_of file text in
    let R : List ℕ → Type 0 = λ r. Leads (suc k) from tokens' (record { rest = r; at = at'; fresh = fresh' }) in
    let A : Span → Type 0 = λ a. Leads (suc k) from tokens' (record { rest = drop n rest; at = a; fresh = fresh' }) in
    let F : Bool → Type 0 =
    λ f. Leads (suc k) from tokens' (record { rest = drop n rest; at = place_after at (take n rest); fresh = f }) in
    let T : List Token → Type 0 =
    λ t. Leads (suc k) from t (behind (record { rest = rest; at = at; fresh = fresh }) n piece) in
    let more = leads_more k from tokens (record { rest = rest; at = at; fresh = fresh }) n piece h b in
    (suc k, subst R (sym eo) (subst A (sym ta) (subst F (sym tf) (subst T (sym et) more))))

-- a piece is one token at most
pub tokens_few : (piece : Piece) (at : Span) → length (tokens_of piece at) ≤ 1
tokens_few Space at = omega arith
tokens_few Comment at = omega arith
tokens_few Skipped at = omega arith
tokens_few (Spelled kind) at = omega arith

-- so the tokens and what is left are no more than before
pub counted_more : (tokens tokens' : List Token) (piece : Piece) (at : Span) (n : ℕ) (rest others : List ℕ) (whole : ℕ)
    → tokens' ≡ tokens ++ tokens_of piece at → length others + n ≡ length rest → 0 < n → length tokens + length rest
    ≤ whole → length tokens' + length others ≤ whole
counted_more tokens tokens' piece at n rest others whole e l p h =
    let a = ap length e in
    let b = length-append tokens (tokens_of piece at) in
    let f = tokens_few piece at in
    omega arith

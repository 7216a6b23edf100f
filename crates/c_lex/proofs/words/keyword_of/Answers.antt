use Rattle.std.proofs.Common.{◌≡◌, ◌≢◌, ℕ, List, [], ◌∷◌, length, subst, sym, arith, rules, tests}
use Rattle.std.specs.List.{AllWithin, Contains, slice_get}
use Rattle.std.specs.Prelude.{Some}
use Rattle.std.proofs.lemmas.Iterator.{YieldsList-from_slice, first_from_find}
use Rattle.std.proofs.lemmas.Iterator.Consumers.{YieldsList-from_copied}
use Rattle.std.proofs.lemmas.Slice.Eq.{bytes_eq-Decides}
use Rattle.pcc_base.specs.declared.keyword.Keyword.{Keyword}
use Rattle.c_lex.specs.Pieces.{IsNoKeyword}
use Rattle.c_lex.specs.Spellings.{keyword_text}
use Rattle.c_lex.proofs.words.keyword_of.Goals as goal

-- a word that differs from each keyword of a row, which has all that begin as it does, is none
none_of_row : (row : List Keyword) (word : List ℕ) (first : ℕ) → Some first ≡ slice_get word 0
    → ((k : Keyword) (others : List ℕ) → keyword_text k ≡ first ∷ others → Contains row k)
    → AllWithin (λ k. keyword_text k ≢ word) row 0 (length row) → IsNoKeyword word
none_of_row row [] first begins held none k e = absurd cc
none_of_row row (b ∷ others) first begins held none k e =
    let same : first ≡ b = cc in
    let at = held k others (subst (λ (n : ℕ). keyword_text k ≡ n ∷ others) (sym same) e) in
    subst (λ (k : Keyword). keyword_text k ≢ b ∷ others) at.2 (none at.0 k (omega arith) at.1) e

pub returns : goal.returns
returns c =
    let word = c.args.word.now in
    let row = c.keywords_from-row.result.now in
    let none =
    none_of_row row word c.in_ok-first.field-0.now c.in_ok-first.ensures.value c.keywords_from-row.ensures in
    let first = first_from_find _ _ c.find.result (λ k. keyword_text k ≡ word) (λ k. keyword_text k ≢ word)
    c.find.ensures.ran (YieldsList-from_copied (YieldsList-from_slice row cc))
    (λ k q called. search (rules, tests, bytes_eq-Decides)) (λ k q called. search (rules, tests, bytes_eq-Decides)) in
    search rules

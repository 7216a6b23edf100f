-- One more token of a row.
use Rattle.std.proofs.Common.{◌≡◌, List, [], ◌∷◌, ◌++◌, ap, sym, ◌∙◌, append_assoc}
use Rattle.std.proofs.lemmas.List.{append-nil}
use Rattle.c_lex.specs.declared.token.Token.{Token}
use Rattle.c_grammar.specs.Taking.{with_front, prefixed}

-- a row that goes on with one more
pub prefixed_more : {A : Type 0} (xs : List A) (x : A) (r s out : List A × List Token) → prefixed xs r ≡ out → r
    ≡ with_front x s → prefixed (xs ++ x ∷ []) s ≡ out
prefixed_more xs x r s out e f = ap (λ ys. (ys, s.1)) (append_assoc xs (x ∷ []) s.0)
    ∙ (let g : prefixed xs (with_front x s) ≡ prefixed xs r = ap (prefixed xs) (sym f) in g ∙ e)

-- a row that ends
pub prefixed_end : {A : Type 0} (xs : List A) (r out : List A × List Token) (ts : List Token) → prefixed xs r ≡ out → r
    ≡ ([], ts) → out ≡ (xs, ts)
prefixed_end xs r out ts e f = sym e ∙ (ap (prefixed xs) f ∙ ap (λ ys. (ys, ts)) (append-nil xs))

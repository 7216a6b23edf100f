-- The search for a keyword that the language leaves out.
use Rattle.std.proofs.Common.{◌≡◌, List, [], ◌∷◌, ◌++◌, append_assoc, ap, sym, ◌∙◌}
use Rattle.c_lex.specs.declared.token.Token.{Token}
use Rattle.c_parse.specs.ParserRefusals.{IsInside, NoneUnsupported}
use Rattle.c_parse.specs.Passing.{Passed}

none_more : (ts : List Token) (t : Token) → NoneUnsupported ts → IsInside t.kind → NoneUnsupported (ts ++ t ∷ [])
none_more [] t none is = (is, tt)
none_more (s ∷ ts) t none is = (none.0, none_more ts t none.1 is)

-- one token more
pub passed_more : (tokens rest : List Token) (t : Token) (us : List Token) → Passed tokens rest → rest ≡ t ∷ us
    → IsInside t.kind → Passed tokens us
passed_more tokens rest t us p e is = (
  p.0 ++ t ∷ [],
  none_more p.0 t p.1 is,
  p.2
      ∙ (ap (λ (x : List Token). p.0 ++ x) e ∙ sym (append_assoc p.0 (t ∷ []) us)),
)

-- Tokens at different places.
use Rattle.std.proofs.Common.{◌≡◌, ℕ, zero, suc, ◌<◌, ◌≤◌, arith, List, [], ◌∷◌, ◌++◌, length, take, refl, sym, ap}
use Rattle.std.proofs.Common.{subst}
use Rattle.std.specs.List.{AllByRecursion, AllPairs}
use Rattle.std.proofs.lemmas.List.Elements.{All-from_recursion}
use Rattle.std.proofs.lemmas.List.Kept.{AllPairs-cons}
use Rattle.pcc_base.specs.declared.span.Span.{Span}
use Rattle.pcc_base.proofs.Lists.{all-append}
use Rattle.c_lex.specs.declared.token.Token.{Token}
use Rattle.c_lex.specs.Pieces.{Piece, Space, Comment, Skipped, Spelled}
use Rattle.c_lex.specs.Tokens.{Reached, Leads, behind, tokens_of, place_after, start_of, HasTokens}
use Rattle.c_check_laws.proofs.Spans.{AtLeast, Past, later, past_least, past_later, past_differs, after_past}

abbrev pub Apart : Token → Token → Type 0
Apart a b = a.at ≡ b.at → ⊥

abbrev pub AreApart : List Token → Type 0
AreApart [] = Unit {0}
AreApart (t ∷ ts) = AllByRecursion (Apart t) ts × AreApart ts

pub pairs_apart : (ts : List Token) → AreApart ts → AllPairs Apart ts
pairs_apart [] h = λ i j d less l. absurd (omega (arith, l))
pairs_apart (t ∷ ts) h = AllPairs-cons Apart t ts (All-from_recursion (Apart t) ts h.0) (pairs_apart ts h.1)

-- ---- the tokens of one text

abbrev pub AreFrom : Span → List Token → Type 0
AreFrom at ts = AllByRecursion (λ (t : Token). AtLeast at t.at) ts

from_later : (p q : Span) (ts : List Token) → AtLeast p q → AreFrom q ts → AreFrom p ts
from_later p q [] h k = tt
from_later p q (t ∷ ts) h k = (later p q t.at h k.0, from_later p q ts h k.1)

apart_past : (t : Token) (q : Span) (ts : List Token) → Past t.at q → AreFrom q ts → AllByRecursion (Apart t) ts
apart_past t q [] h k = tt
apart_past t q (u ∷ ts) h k = (past_differs t.at u.at (past_later t.at q u.at h k.0), apart_past t q ts h k.1)

front_past : (at : Span) (n : ℕ) (rest : List ℕ) → 0 < n → n ≤ length rest → Past at (place_after at (take n rest))
front_past at zero rest h k = absurd (omega (arith, h))
front_past at (suc n) [] h k = absurd (omega (arith, k))
front_past at (suc n) (b ∷ rest) h k = after_past at b (take n rest)

record Told (at : Span) (tokens : List Token) : Type 0 where
  pub from : AreFrom at tokens
  pub apart : AreApart tokens

one_more : (at next : Span) (piece : Piece) (others : List Token) → Past at next → Told next others
    → Told at (tokens_of piece at ++ others)
one_more at next Space others h k =
    record { from = from_later at next others (past_least at next h) k.from; apart = k.apart }
one_more at next Comment others h k =
    record { from = from_later at next others (past_least at next h) k.from; apart = k.apart }
one_more at next Skipped others h k =
    record { from = from_later at next others (past_least at next h) k.from; apart = k.apart }
one_more at next (Spelled kind) others h k =
    let t : Token = record { kind = kind; at = at } in
    record {
      from = (
        record { file = refl; line = omega arith; col = λ e. omega arith },
        from_later at next others (past_least at next h) k.from,
      );
      apart = (apart_past t next others h k.from, k.apart);
    }

leads_told : (k : ℕ) (from : Reached) (tokens : List Token) (to : Reached) → Leads k from tokens to
    → Told from.at tokens
leads_told zero from tokens to h = subst (Told from.at) (sym h.1) (record { from = tt; apart = tt })
leads_told (suc k) from tokens to (n, piece, b, others, e, h) =
    subst (Told from.at) (sym e) (one_more from.at (behind from n piece).at piece others
    (front_past from.at n from.rest b.nonempty b.within) (leads_told k (behind from n piece) others to h))

-- ---- the tokens of several texts

abbrev pub AreOfFile : ℕ → List Token → Type 0
AreOfFile file ts = AllByRecursion (λ (t : Token). file ≤ t.at.file) ts

abbrev pub AreIn : ℕ → List Token → Type 0
AreIn file ts = AllByRecursion (λ (t : Token). file ≡ t.at.file) ts

in_file : (at : Span) (ts : List Token) → AreFrom at ts → AreIn at.file ts
in_file at [] h = tt
in_file at (t ∷ ts) h = (h.0.file, in_file at ts h.1)

pub record OfText (file : ℕ) (tokens : List Token) : Type 0 where
  pub of : AreIn file tokens
  pub apart : AreApart tokens

pub text_apart : (file : ℕ) (text : List ℕ) (tokens : List Token) → HasTokens file text tokens → OfText file tokens
text_apart file text tokens (k, to, h, e) =
    let t = leads_told k (start_of file text) tokens to h in
    record { of = in_file (start_of file text).at tokens t.from; apart = t.apart }

apart_files : (t : Token) (file : ℕ) (us : List Token) → file ≡ t.at.file → AreOfFile (suc file) us
    → AllByRecursion (Apart t) us
apart_files t file [] e h = tt
apart_files t file (u ∷ us) e h = (
  λ same. let below = h.0 in
      let f = ap (λ (s : Span). s.file) same in
      absurd (omega (arith, below, f, e)),
  apart_files t file us e h.1,
)

pub apart_both : (file : ℕ) (ts us : List Token) → OfText file ts → AreOfFile (suc file) us → AreApart us
    → AreApart (ts ++ us)
apart_both file [] us h k a = a
apart_both file (t ∷ ts) us h k a = (
  all-append (Apart t) ts us h.apart.0 (apart_files t file us h.of.0 k),
  apart_both file ts us (record { of = h.of.1; apart = h.apart.1 }) k a,
)

from_in : (file : ℕ) (ts : List Token) → AreIn file ts → AreOfFile file ts
from_in file [] h = tt
from_in file (t ∷ ts) h = (let e = h.0 in omega (arith, e), from_in file ts h.1)

from_before : (file : ℕ) (ts : List Token) → AreOfFile (suc file) ts → AreOfFile file ts
from_before file [] h = tt
from_before file (t ∷ ts) h = (let e = h.0 in omega (arith, e), from_before file ts h.1)

pub files_both : (file : ℕ) (ts us : List Token) → OfText file ts → AreOfFile (suc file) us → AreOfFile file (ts ++ us)
files_both file ts us h k =
    all-append (λ (t : Token). file ≤ t.at.file) ts us (from_in file ts h.of) (from_before file us k)

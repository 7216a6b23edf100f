-- The tokens of a text, and where a text has none.
use Rattle.std.specs.Prelude.{◌≡◌, ◌≢◌, ℕ, zero, suc, ◌+◌, Bool, true, false, ◌&&◌, List, [], ◌∷◌, ◌++◌, take, drop}
use Rattle.std.specs.Prelude.{◌==◌, if◌then◌else◌}
use Rattle.pcc_base.specs.Ascii.{newline}
use Rattle.pcc_base.specs.declared.span.Span.{Span}
use Rattle.pcc_base.specs.declared.fault.Fault.{Fault}
use Rattle.c_lex.specs.declared.token.Token.{Token}
use Rattle.c_lex.specs.Bytes.{is_blank}
use Rattle.c_lex.specs.Pieces.{Piece, Space, Spelled, Begins, NoneBegins, IsFaultOf}

-- the place behind bytes: a newline begins a line, and columns count bytes
abbrev pub place_after : Span → List ℕ → Span
place_after at [] = at
place_after at (b ∷ bs) =
    place_after (if b == newline then record at { line = at.line + 1; col = 1 } else record at { col = at.col + 1 }) bs

-- whether a line may be skipped behind a piece: behind a newline, and behind spaces and tabs where one
-- might be before them
abbrev pub fresh_after : Bool → Piece → List ℕ → Bool
fresh_after fresh Space (b ∷ bs) = if b == newline then true else (fresh && is_blank b)
fresh_after fresh piece bytes = false

abbrev pub tokens_of : Piece → Span → List Token
tokens_of (Spelled kind) at = record { kind = kind; at = at } ∷ []
tokens_of piece at = []

-- how far reading has come: what is left, where it stands, and whether a line may be skipped there
pub record Reached : Type 0 where
  pub rest : List ℕ
  pub at : Span
  pub fresh : Bool

abbrev pub behind : Reached → ℕ → Piece → Reached
behind r n piece =
    record {
      rest = drop n r.rest;
      at = place_after r.at (take n r.rest);
      fresh =
          fresh_after r.fresh piece (take n r.rest);
    }

-- k pieces lead from one to the other, and their tokens are these
abbrev pub Leads : ℕ → Reached → List Token → Reached → Type 0
Leads zero from tokens to = (to ≡ from) × (tokens ≡ [])
Leads (suc k) from tokens to =
    (n : ℕ) × (piece : Piece) × Begins from.fresh from.rest n piece
    × (others : List Token) × (tokens ≡ tokens_of piece from.at ++ others) × Leads k (behind from n piece) others to

-- where a file begins
abbrev pub start_of : ℕ → List ℕ → Reached
start_of file text = record { rest = text; at = record { file = file; line = 1; col = 1 }; fresh = true }

-- the token list of a text
abbrev pub HasTokens : ℕ → List ℕ → List Token → Type 0
HasTokens file text tokens = (k : ℕ) × (to : Reached) × Leads k (start_of file text) tokens to × (to.rest ≡ [])

-- the text has a fault behind these tokens
abbrev pub HasFault : ℕ → List ℕ → List Token → Fault → Type 0
HasFault file text tokens fault =
    (k : ℕ) × (to : Reached) × Leads k (start_of file text) tokens to × (to.rest ≢ []) × NoneBegins to.fresh to.rest
    × IsFaultOf to.rest fault.kind × (fault.at ≡ to.at)

-- these tokens, and maybe others, stand before any fault
abbrev pub BeginsWith : ℕ → List ℕ → List Token → Type 0
BeginsWith file text tokens = (k : ℕ) × (to : Reached) × Leads k (start_of file text) tokens to

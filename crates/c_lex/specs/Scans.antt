-- What the lexer's parts answer: the piece that begins the rest, or that none does.
use Rattle.std.specs.Prelude.{◌≡◌, ◌≤◌, ℕ, ◌+◌, Bool, List, length, Option, Some, None, Result, Ok, Err, ⊤}
use Rattle.pcc_base.specs.declared.memory.NoMemory.{NoMemory}
use Rattle.pcc_base.specs.declared.refusal.Limit.TheVariants.{Tokens}
use Rattle.pcc_base.specs.declared.refusal.Refusal.{Refusal}
use Rattle.pcc_base.specs.declared.refusal.Refusal.TheVariants as refusals
use Rattle.c_lex.specs.declared.token.Token.{Token}
use Rattle.c_lex.specs.declared.scanned.Scanned.{Scanned}
use Rattle.c_lex.specs.declared.scanned.Scanned.TheVariants as scanned
use Rattle.c_lex.specs.declared.token.Punct.{Punct}
use Rattle.c_lex.specs.Spellings.{IsMark}
use Rattle.c_lex.specs.Pieces.{Piece, Space, Comment, Skipped, Spelled, Begins, NoneBegins}
use Rattle.c_lex.specs.Tokens.{HasFault, BeginsWith}

abbrev pub piece_of : Scanned → Piece
piece_of scanned.Space = Space
piece_of scanned.Comment = Comment
piece_of scanned.Skipped = Skipped
piece_of (scanned.Token kind) = Spelled kind

-- the length of the piece that begins the rest, and the piece; none where none begins
abbrev pub IsFound : Bool → List ℕ → Option (ℕ × Scanned) → Type 0
IsFound fresh rest None = NoneBegins fresh rest
IsFound fresh rest (Some (n, s)) = Begins fresh rest n (piece_of s)

abbrev pub IsScan : Bool → List ℕ → Result (Option (ℕ × Scanned)) NoMemory → Type 0
IsScan fresh rest (Ok found) = IsFound fresh rest found
IsScan fresh rest (Err e) = ⊤

-- why a text has no token list of at most so many tokens
abbrev pub IsRefused : ℕ → List ℕ → ℕ → Refusal → Type 0
IsRefused file text most (refusals.Fault fault) = (before : List Token) × HasFault file text before fault
    × (length before ≤ most)
IsRefused file text most (refusals.Limit (Tokens n)) =
    (n ≡ most + 1) × ((before : List Token) × BeginsWith file text before × (length before ≡ most + 1))
IsRefused file text most refusals.NoMemory = ⊤
IsRefused file text most _ = ⊥

-- the punctuator that the bytes spell, or that they spell none
abbrev pub IsMarkOf : List ℕ → Option Punct → Type 0
IsMarkOf bytes None = (mark : Punct) → IsMark mark bytes → ⊥
IsMarkOf bytes (Some mark) = IsMark mark bytes

-- Why source files have no tokens or no raw trees, and where.
use Rattle.std.specs.Prelude.{◌≡◌, ◌≤◌, ◌⊎◌, ⊤, ℕ, suc, ◌+◌, List, [], ◌∷◌, length}
use Rattle.pcc_base.specs.declared.span.Span.{Span}
use Rattle.pcc_base.specs.declared.fault.Fault.{Fault}
use Rattle.pcc_base.specs.declared.fault.FaultKind.{FaultKind}
use Rattle.pcc_base.specs.declared.refusal.Limit.TheVariants.{Tokens}
use Rattle.pcc_base.specs.declared.refusal.Refusal.{Refusal}
use Rattle.pcc_base.specs.declared.refusal.Refusal.TheVariants as refusals
use Rattle.c_lex.specs.declared.token.Token.{Token}
use Rattle.c_lex.specs.Tokens.{HasTokens, HasFault, BeginsWith, place_after}
use Rattle.c_syntax.specs.Statements.{ExternalTree}
use Rattle.c_parse.specs.ParserRefusals.{IsFaulty}
use Rattle.c_front.specs.Accepted.{HaveTokens, HasTree, total}

-- ---- tokens

-- so many tokens stand before any lexical fault, in files of which the first has this number
abbrev pub StandBefore : ℕ → List (List ℕ) → ℕ → Type 0
StandBefore file [] n = ⊥
StandBefore file (text ∷ texts) n =
    ((before : List Token) × BeginsWith file text before × (length before ≡ n))
    ⊎ ((tokens : List Token) × HasTokens file text tokens × (m : ℕ) × (n ≡ length tokens + m)
    × StandBefore (suc file) texts m)

-- the first lexical fault of files, of which the first has this number, stands behind so many tokens
abbrev pub FaultBehind : ℕ → List (List ℕ) → ℕ → Fault → Type 0
FaultBehind file [] n fault = ⊥
FaultBehind file (text ∷ texts) n fault =
    ((before : List Token) × HasFault file text before fault × (length before ≡ n))
    ⊎ ((tokens : List Token) × HasTokens file text tokens × (m : ℕ) × (n ≡ length tokens + m)
    × FaultBehind (suc file) texts m fault)

-- more than 65,536 tokens stand before any lexical fault
abbrev pub HaveManyTokens : List (List ℕ) → Type 0
HaveManyTokens texts = StandBefore 0 texts 0x10001

-- the texts have this lexical fault, behind at most 65,536 tokens
abbrev pub HaveLexicalFault : List (List ℕ) → Fault → Type 0
HaveLexicalFault texts fault = (n : ℕ) × FaultBehind 0 texts n fault × (n ≤ 0x10000)

-- the texts have at most 65,536 tokens, and no lexical fault, and this holds of the tokens
abbrev pub WithTokens : List (List ℕ) → (List (List Token) → Type 0) → Type 0
WithTokens texts P = (files : List (List Token)) × HaveTokens 0 texts files × (total files ≤ 0x10000) × P files

-- why texts have no tokens
abbrev pub AreUnread : List (List ℕ) → Refusal → Type 0
AreUnread texts (refusals.Fault fault) = HaveLexicalFault texts fault
AreUnread texts (refusals.Limit (Tokens n)) = (n ≡ 0x10001) × HaveManyTokens texts
AreUnread texts refusals.NoMemory = ⊤
AreUnread texts _ = ⊥

-- ---- trees

-- the first line and column of the source of this number
abbrev pub first_place : ℕ → Span
first_place file = record { file = file; line = 1; col = 1 }

-- the place behind a text
abbrev pub text_end : ℕ → List ℕ → Span
text_end file text = place_after (first_place file) text

-- the places behind texts, of which the first has this number
abbrev pub ends_of : ℕ → List (List ℕ) → List Span
ends_of file [] = []
ends_of file (text ∷ texts) = text_end file text ∷ ends_of (suc file) texts

-- of the tokens of files, with the places behind their texts, the first without a raw tree have this fault
abbrev pub FirstFaulty : List (List Token) → List Span → FaultKind → Span → Type 0
FirstFaulty (tokens ∷ others) (end ∷ ends) kind at =
    IsFaulty tokens end kind at ⊎ ((unit : List ExternalTree) × HasTree tokens unit × FirstFaulty others ends kind at)
FirstFaulty _ _ kind at = ⊥

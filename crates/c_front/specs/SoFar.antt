-- How far files are read, and what that says of all of them.
use Rattle.std.specs.Prelude.{◌≡◌, ◌≤◌, ℕ, ◌+◌, List, ◌++◌, length, ⊤}
use Rattle.pcc_base.specs.declared.span.Span.{Span}
use Rattle.pcc_base.specs.declared.fault.Fault.{Fault}
use Rattle.pcc_base.specs.declared.fault.FaultKind.{FaultKind}
use Rattle.pcc_base.specs.declared.refusal.Limit.TheVariants.{Tokens}
use Rattle.pcc_base.specs.declared.refusal.Refusal.{Refusal}
use Rattle.pcc_base.specs.declared.refusal.Refusal.TheVariants as refusals
use Rattle.c_lex.specs.declared.token.Token.{Token}
use Rattle.c_lex.specs.Tokens.{HasFault, BeginsWith}
use Rattle.c_syntax.specs.Statements.{ExternalTree}
use Rattle.c_front.specs.Accepted.{HaveTokens, HaveTrees, total}
use Rattle.c_front.specs.Refusals.{StandBefore, FaultBehind, FirstFaulty, ends_of}

-- The files before the rest have these tokens and end there, and so many more may come: what holds of the rest, of which
-- the first file has this number, holds of all.
pub record LexedSoFar (texts : List (List ℕ)) (files : List (List Token)) (ends : List Span) (file left : ℕ)
    (rest : List (List ℕ)) : Type 0
  where
    pub counted : file + length rest ≡ length texts
    pub left_is : total files + left ≡ 0x10000
    pub ends_are : ends ++ ends_of file rest ≡ ends_of 0 texts
    pub tokens : (others : List (List Token)) → HaveTokens file rest others → HaveTokens 0 texts (files ++ others)
    pub fault : (n : ℕ) (fault : Fault) → FaultBehind file rest n fault → FaultBehind 0 texts (total files + n) fault
    pub many : (n : ℕ) → StandBefore file rest n → StandBefore 0 texts (total files + n)

-- the same of the raw trees
pub record ParsedSoFar (files : List (List Token)) (ends : List Span) (units : List (List ExternalTree))
    (rest : List (List Token)) (rest_ends : List Span) : Type 0 where
  pub trees : (others : List (List ExternalTree)) → HaveTrees rest others → HaveTrees files (units ++ others)
  pub fault : (kind : FaultKind) (at : Span) → FirstFaulty rest rest_ends kind at → FirstFaulty files ends kind at

-- why a file has no more than so many tokens
abbrev pub IsUnread : ℕ → List ℕ → ℕ → Refusal → Type 0
IsUnread file text left (refusals.Fault fault) = (before : List Token) × HasFault file text before fault
    × (length before ≤ left)
IsUnread file text left (refusals.Limit (Tokens n)) = (n ≡ 0x10001)
    × ((before : List Token) × BeginsWith file text before × (length before ≡ left + 1))
IsUnread file text left refusals.NoMemory = ⊤
IsUnread file text left _ = ⊥

-- why files have no raw trees
abbrev pub AreUnparsed : List (List Token) → List Span → Refusal → Type 0
AreUnparsed files ends (refusals.Fault fault) = FirstFaulty files ends fault.kind fault.at
AreUnparsed files ends (refusals.Limit limit) = ⊥
AreUnparsed files ends refusals.NoMemory = ⊤

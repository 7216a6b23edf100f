-- Why a list of tokens has no raw tree of height at most 256, and where: the place is exact.
use Rattle.std.specs.Prelude.{◌≡◌, Bool, true, false, List, [], ◌∷◌, ◌++◌, ⊤}
use Rattle.pcc_base.specs.declared.span.Span.{Span}
use Rattle.pcc_base.specs.declared.keyword.Keyword.{Keyword}
use Rattle.pcc_base.specs.declared.keyword.Keyword.TheVariants as words
use Rattle.pcc_base.specs.declared.fault.FaultKind.{FaultKind}
use Rattle.pcc_base.specs.declared.fault.FaultKind.TheVariants.{Unsupported}
use Rattle.pcc_base.specs.declared.refusal.Refusal.{Refusal}
use Rattle.pcc_base.specs.declared.refusal.Refusal.TheVariants.{Fault, Limit, NoMemory}
use Rattle.c_lex.specs.declared.token.Token.{Token}
use Rattle.c_lex.specs.declared.token.TokenKind.{TokenKind}
use Rattle.c_lex.specs.declared.token.TokenKind.TheVariants as kinds
use Rattle.c_syntax.specs.Marks.{word}
use Rattle.c_grammar.specs.Faults.{FaultAt}

-- a keyword of C99 (6.4.1) that no rule of the grammar uses
abbrev pub is_outside : Keyword → Bool
is_outside words.Auto = false
is_outside words.Break = false
is_outside words.Case = false
is_outside words.Char = false
is_outside words.Const = false
is_outside words.Continue = false
is_outside words.Default = false
is_outside words.Do = false
is_outside words.Double = true
is_outside words.Else = false
is_outside words.Enum = true
is_outside words.Extern = false
is_outside words.Float = true
is_outside words.For = false
is_outside words.Goto = true
is_outside words.If = false
is_outside words.Inline = true
is_outside words.Int = false
is_outside words.Long = true
is_outside words.Register = false
is_outside words.Restrict = true
is_outside words.Return = false
is_outside words.Short = false
is_outside words.Signed = false
is_outside words.Sizeof = true
is_outside words.Static = false
is_outside words.Struct = true
is_outside words.Switch = false
is_outside words.Typedef = true
is_outside words.Union = true
is_outside words.Unsigned = true
is_outside words.Void = false
is_outside words.Volatile = true
is_outside words.While = false
is_outside words.Bool = true
is_outside words.Complex = true
is_outside words.Imaginary = true

-- a token that is no such keyword
abbrev pub IsInside : TokenKind → Type 0
IsInside (kinds.Word w) = is_outside w ≡ false
IsInside _ = ⊤

-- no token is a keyword that the language leaves out
abbrev pub NoneUnsupported : List Token → Type 0
NoneUnsupported [] = ⊤
NoneUnsupported (t ∷ ts) = IsInside t.kind × NoneUnsupported ts

-- the first token that is a keyword left out of the language is this keyword at this place
abbrev pub FirstUnsupported : List Token → Keyword → Span → Type 0
FirstUnsupported tokens keyword at =
    (before : List Token) × (after : List Token) × NoneUnsupported before × (is_outside keyword ≡ true)
    × (tokens ≡ before ++ word keyword at ∷ after)

-- the place of the next token, or the end where there is none
abbrev pub next_place : List Token → Span → Span
next_place [] end = end
next_place (t ∷ ts) end = t.at

-- the fault of tokens without a raw tree of height at most 256 is of this kind, and stands at this place
abbrev pub FailsAt : List Token → Span → FaultKind → Span → Type 0
FailsAt tokens end kind at =
    (before : List Token) × (rest : List Token) × (tokens ≡ before ++ rest) × FaultAt 256 kind before rest
    × (at ≡ next_place rest end)

-- a fault of this kind at this place: the first keyword left out of the language; without such a keyword, the fault of
-- the tokens by the grammar
abbrev pub IsFaulty : List Token → Span → FaultKind → Span → Type 0
IsFaulty tokens end (Unsupported keyword) at = FirstUnsupported tokens keyword at
IsFaulty tokens end kind at = NoneUnsupported tokens × FailsAt tokens end kind at

-- why a list of tokens gives no raw tree
abbrev pub IsRefused : List Token → Span → Refusal → Type 0
IsRefused tokens end (Fault fault) = IsFaulty tokens end fault.kind fault.at
IsRefused tokens end (Limit limit) = ⊥
IsRefused tokens end NoMemory = ⊤

-- Statements of laws.
use Rattle.std.specs.Prelude.{◌≡◌, ◌↔◌, ◌⊎◌, ◌∷◌, ◌≤ℤ◌, ◌<ℤ◌, ℤ, pos, negsuc, List, [], ◌++◌, flat_map, false, Option}
use Rattle.std.specs.Prelude.{Some, None}
use Rattle.std.specs.List.{All, AllByRecursion, AllPairs}
use Rattle.pcc_base.specs.declared.span.Span.{Span}
use Rattle.pcc_base.specs.declared.fault.Fault.{Fault}
use Rattle.c_lex.specs.declared.token.Token.{Token}
use Rattle.c_lex.specs.declared.token.TokenKind.{TokenKind}
use Rattle.c_lex.specs.declared.token.TokenKind.TheVariants as tokens
use Rattle.c_syntax.specs.Grammar.{IsExternal, unit_tokens}
use Rattle.c_syntax.specs.Statements.{ExternalTree}
use Rattle.c_tree.specs.Program.{Program}
use Rattle.c_tree.specs.WellTyped.{WellTyped, CountUp, functions_numbers}
use Rattle.c_typing.specs.Checked.{faults_in, notes_in}
use Rattle.c_typing.specs.Faults.{precedes, earlier, least}
use Rattle.c_typing.specs.Names.{Numbers}
use Rattle.c_typing.specs.Typed.{judged, fault_of, Typed}

-- ---- the least fault

-- the least of two lists is the earlier one of the least of each
abbrev pub LeastOfBoth : Type 0
LeastOfBoth = (fs gs : List Fault) → least (fs ++ gs) ≡ earlier (least fs) (least gs)

abbrev pub IsAmong : Fault → List Fault → Type 0
IsAmong f [] = ⊥
IsAmong f (g ∷ gs) = (f ≡ g) ⊎ IsAmong f gs

-- the least is one of the faults, and none precedes it; where there is none, there are no faults
abbrev pub IsLeastOf : List Fault → Option Fault → Type 0
IsLeastOf fs None = fs ≡ []
IsLeastOf fs (Some f) = IsAmong f fs × AllByRecursion (λ g. precedes g f ≡ false) fs

abbrev pub LeastIsLeast : Type 0
LeastIsLeast = (fs : List Fault) → IsLeastOf fs (least fs)

-- ---- typed programs

abbrev pub OneTypedProgram : Type 0
OneTypedProgram = (units : List (List ExternalTree)) (p q : Program) → Typed units p → Typed units q → p ≡ q

-- there is a typed program exactly where there is no fault
abbrev pub TypedWithoutFault : Type 0
TypedWithoutFault = (units : List (List ExternalTree)) (end : Span)
    → (fault_of units end ≡ None) ↔ ((p : Program) × Typed units p)

-- which numbers things have changes no fault and no note
abbrev pub NumbersChangeNothing : Type 0
NumbersChangeNothing = (m n : Numbers) (units : List (List ExternalTree))
    → (faults_in (judged m units) ≡ faults_in (judged n units))
    × (notes_in (judged m units) ≡ notes_in (judged n units))

-- ---- typed programs are well typed

abbrev pub IsInt : ℤ → Type 0
IsInt n = (negsuc 0x7fffffff ≤ℤ n) × (n <ℤ pos 0x80000000)

abbrev pub HasIntIfAny : TokenKind → Type 0
HasIntIfAny (tokens.Word word) = Unit {0}
HasIntIfAny (tokens.Ident name) = Unit {0}
HasIntIfAny (tokens.Number n unsigned) = IsInt n
HasIntIfAny (tokens.Text bytes) = Unit {0}
HasIntIfAny (tokens.Mark mark) = Unit {0}

-- the units are raw trees of the grammar, over tokens whose places differ and whose numbers are of `int`, as those of
-- texts are
pub record AreSources (units : List (List ExternalTree)) : Type 0 where
  pub trees : AllByRecursion (AllByRecursion IsExternal) units
  pub places : AllPairs (λ (a b : Token). a.at ≡ b.at → ⊥) (flat_map unit_tokens units)
  pub numbers : All (λ (t : Token). HasIntIfAny t.kind) (flat_map unit_tokens units)

abbrev pub TypedIsWellTyped : Type 0
TypedIsWellTyped = (units : List (List ExternalTree)) (p : Program) → AreSources units → Typed units p → WellTyped p

-- statements and declared items are numbered from 0, in the order of the text, over all files
abbrev pub StatementsCountUp : Type 0
StatementsCountUp = (units : List (List ExternalTree)) (p : Program) → Typed units p
    → CountUp (functions_numbers p.functions)

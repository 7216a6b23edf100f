-- Where the fault of tokens stands that are no program of height at most so much, and of which kind it is.
use Rattle.std.specs.Prelude.{◌≡◌, ℕ, ◌≤◌, List, [], ◌∷◌, ◌++◌}
use Rattle.pcc_base.specs.declared.fault.FaultKind.{FaultKind}
use Rattle.pcc_base.specs.declared.fault.FaultKind.TheVariants.{Syntax, TooDeep}
use Rattle.c_lex.specs.declared.token.Token.{Token}
use Rattle.c_syntax.specs.Statements.{ExternalTree}
use Rattle.c_syntax.specs.Grammar.{Tree}

-- the tokens begin a program of at most this height
abbrev pub Begins : ℕ → List Token → Type 0
Begins most before =
    (after : List Token) × (h : ℕ) × (t : List ExternalTree) × (h ≤ most) × Tree (before ++ after) h t

-- The fault stands before these tokens and behind those, which begin a program: at the first token with which they
-- begin none of at most this height, or at the end. It is TooDeep where some greater height would do.
abbrev pub FaultAt : ℕ → FaultKind → List Token → List Token → Type 0
FaultAt most kind before [] =
    (kind ≡ Syntax) × Begins most before × ((h : ℕ) (t : List ExternalTree) → Tree before h t → ⊥)
FaultAt most Syntax before (t ∷ rest) = Begins most before × ((any : ℕ) → Begins any (before ++ t ∷ []) → ⊥)
FaultAt most TooDeep before (t ∷ rest) =
    Begins most before × (Begins most (before ++ t ∷ []) → ⊥) × ((any : ℕ) × Begins any (before ++ t ∷ []))
FaultAt most _ before (t ∷ rest) = ⊥
